-- The row so far and the parts that are left give the whole.
use Rattle.std.proofs.Common.{◌≡◌, drop}
use Rattle.laid_types.specs.Layout.{record_laid}
use Rattle.layouts.specs.Limited.{as_laid, InReach, limited}
use Rattle.layouts.proofs.Layouts.{closed_behind}
use Rattle.laid_types.specs.Parts.{layouts}
use Rattle.laid_types.specs.Layers.{trees_of}
use Rattle.laid_types.proofs.gathering.row_laying.Given as goal

abbrev pub invariant-loop-part : goal.invariant-loop-part
invariant-loop-part l = InReach (as_laid l.row) × (limited (record_laid (layouts (trees_of l.types l.parts))) ≡ closed_behind (as_laid l.row) (layouts (trees_of l.types (drop l.part-index l.parts))))
