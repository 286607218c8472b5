use Rattle.link_instance_types.proofs.Exported.{type_found}
use Rattle.link_instance_types.proofs.exporting.export_brings.Goals as goal

pub returns-in_ok-brought_of-in-Instance-clause-ok : goal.returns-in_ok-brought_of-in-Instance-clause-ok
returns-in_ok-brought_of-in-Instance-clause-ok c = λ d h.
    rw c.in-Instance.is (c.in_ok-brought_of-in-Instance.ensures.ok _ (type_found c.args.types.now c.args.scope.now d.types c.in-Instance.index c.type_at.result c.type_at.ensures h))
