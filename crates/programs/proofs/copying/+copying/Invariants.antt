-- The values so far are those that were copied.
use Rattle.std.proofs.Common.{◌≡◌, take}
use Rattle.programs.proofs.copying.+copying.Given as goal

abbrev pub invariant-same_values-loop-value : goal.invariant-same_values-loop-value
invariant-same_values-loop-value l = l.all ≡ take l.value-index l.values
