-- The core types so far and those of the payloads that are left give the first for all.
use Rattle.std.proofs.Common.{◌≡◌, take, drop}
use Rattle.syntax_trees.specs.Flat.{joined_all, joined_lists}
use Rattle.laid_types.specs.Layers.{trees_of}
use Rattle.laid_types.specs.Gathered.{flats}
use Rattle.laid_types.proofs.gathering.flat_payload.Given as goal

abbrev pub invariant-loop-part : goal.invariant-loop-part
invariant-loop-part l = take 17 (joined_all (flats (trees_of l.types l.parts))) ≡ joined_lists l.payload.items (take 17 (joined_all (flats (trees_of l.types (drop l.part-index l.parts)))))
