-- The table has grown by texts alone.
use Rattle.std.proofs.Common.{◌≡◌}
use Rattle.link_types.specs.Table.{Grows}
use Rattle.link_types.proofs.types.Types.keep_labels.Given as goal

abbrev pub invariant-loop-label : goal.invariant-loop-label
invariant-loop-label l = (l.self.values ≡ l.fn.self.values) × Grows l.fn.self l.self
