-- The flags so far, and those of the bits that are left.
use Rattle.std.proofs.Common.{◌≡◌, [], drop}
use Rattle.value_lift.specs.Bytes.{flags_from}
use Rattle.value_lift.proofs.plain.flags_of.Given as goal

abbrev pub invariant-loop-label : goal.invariant-loop-label
invariant-loop-label l = flags_from [] l.labels l.number ≡ flags_from l.flags (drop l._label-index l.labels) l.bits
