-- The cases so far.
use Rattle.std.proofs.Common.{◌≡◌, map, take}
use Rattle.laid_types.specs.Layers.{case_of}
use Rattle.laid_types.proofs.trees.cases.Given as goal

abbrev pub invariant-loop-case : goal.invariant-loop-case
invariant-loop-case l = l.cases ≡ map (case_of l.types) (take l.case-index l.labelled)
