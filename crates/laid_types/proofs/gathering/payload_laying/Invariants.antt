-- The room so far and the payloads that are left give the whole.
use Rattle.std.proofs.Common.{◌≡◌, drop}
use Rattle.layouts.specs.Limited.{as_laid, InReach, nothing}
use Rattle.laid_types.specs.Parts.{layouts}
use Rattle.laid_types.specs.Layers.{trees_of}
use Rattle.laid_types.specs.Gathered.{room_for}
use Rattle.laid_types.proofs.gathering.payload_laying.Given as goal

abbrev pub invariant-loop-part : goal.invariant-loop-part
invariant-loop-part l = InReach (as_laid l.payload) × (room_for nothing (layouts (trees_of l.types l.parts)) ≡ room_for (as_laid l.payload) (layouts (trees_of l.types (drop l.part-index l.parts))))
