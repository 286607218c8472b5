-- The depth so far and those of the parts that are left give the greatest.
use Rattle.std.proofs.Common.{◌≡◌, ◌≤◌, max, min, drop}
use Rattle.laid_types.specs.Depth.{greatest}
use Rattle.laid_types.specs.Layers.{trees_of}
use Rattle.laid_types.specs.Gathered.{depths}
use Rattle.laid_types.proofs.gathering.deepest.Given as goal

abbrev pub invariant-loop-part : goal.invariant-loop-part
invariant-loop-part l = (l.depth ≤ 33) × (min (greatest (depths (trees_of l.types l.parts))) 33 ≡ min (max l.depth (greatest (depths (trees_of l.types (drop l.part-index l.parts))))) 33)
