-- The core types so far and those of the parts that are left give the first of all.
use Rattle.std.proofs.Common.{◌≡◌, ◌++◌, take, drop}
use Rattle.syntax_trees.specs.Flat.{all_of}
use Rattle.laid_types.specs.Layers.{trees_of}
use Rattle.laid_types.specs.Gathered.{flats}
use Rattle.laid_types.proofs.gathering.flat_row.Given as goal

abbrev pub invariant-loop-part : goal.invariant-loop-part
invariant-loop-part l = (l.row.items ≡ take 17 l.row.items) × (take 17 (all_of (flats (trees_of l.types l.parts))) ≡ take 17 (l.row.items ++ all_of (flats (trees_of l.types (drop l.part-index l.parts)))))
