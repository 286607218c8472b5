-- The greatest number so far and those of the parts that are left give the greatest.
use Rattle.std.proofs.Common.{◌≡◌, max, drop}
use Rattle.laid_types.specs.Depth.{greatest}
use Rattle.laid_types.specs.Layers.{trees_of}
use Rattle.laid_types.specs.Gathered.{tops}
use Rattle.laid_types.proofs.gathering.greatest_top.Given as goal

abbrev pub invariant-loop-part : goal.invariant-loop-part
invariant-loop-part l = greatest (tops (trees_of l.types l.parts)) ≡ max l.top (greatest (tops (trees_of l.types (drop l.part-index l.parts))))
