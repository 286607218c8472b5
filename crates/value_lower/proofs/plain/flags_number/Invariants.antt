-- The number is that of the flags from the end that were seen.
use Rattle.std.proofs.Common.{◌≡◌, ◌%◌, ◌^◌, length, drop, ◌-◌}
use Rattle.value_lower.specs.Lowering.{bits_of}
use Rattle.value_lower.proofs.plain.flags_number.Given as goal

abbrev pub invariant-loop-index : goal.invariant-loop-index
invariant-loop-index l = l.number ≡ bits_of (drop (length l.flags - l.index) l.flags) % 2 ^ 32
