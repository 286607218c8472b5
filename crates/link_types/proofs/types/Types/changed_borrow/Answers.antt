use Rattle.link_types.specs.Changes.{change_of}
use Rattle.link_types.proofs.RenumberedMade.{borrow_made}
use Rattle.link_types.proofs.types.Types.changed_borrow.Goals as goal

pub returns-clause-ok : goal.returns-clause-ok
returns-clause-ok c =
    borrow_made (change_of c.args.how.change c.args.how.depth) c.value_type.new.self.values c.in_ok-value_type.field-0 c.args.resource c.in_ok-resource.resource c.in_ok-resource.ensures c.in_ok-value_type.ensures.ok
