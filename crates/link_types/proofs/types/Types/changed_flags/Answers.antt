use Rattle.std.proofs.Common.{ℕ, List, map, Bor}
use Rattle.link_types.specs.Changes.{change_of}
use Rattle.link_types.proofs.RenumberedMade.{flags_made}
use Rattle.link_types.proofs.types.Types.changed_flags.Goals as goal

pub returns-clause-ok : goal.returns-clause-ok
returns-clause-ok c =
    flags_made (change_of c.args.how.change c.args.how.depth) c.value_type.new.self.values c.in_ok-value_type.field-0 (map (λ (l : Bor (List ℕ)). l.now) c.deref.result.now) c.args.labels.now
    (rw c.deref.ensures.value c.in_ok-labels.ensures.ok) c.in_ok-value_type.ensures.ok
