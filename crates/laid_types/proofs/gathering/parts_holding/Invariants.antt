-- What the parts so far hold, and those that are left.
use Rattle.std.proofs.Common.{◌≡◌, ◌||◌, drop}
use Rattle.syntax_trees.specs.Ends.{some_true}
use Rattle.laid_types.specs.Layers.{trees_of}
use Rattle.laid_types.specs.Gathered.{ends, handles, borrows, lists}
use Rattle.laid_types.proofs.gathering.parts_holding.Given as goal

abbrev pub invariant-loop-part : goal.invariant-loop-part
invariant-loop-part l =
    (some_true (ends (trees_of l.types l.parts)) ≡ (l.held.end || some_true (ends (trees_of l.types (drop l.part-index l.parts)))))
    × (some_true (handles (trees_of l.types l.parts)) ≡ (l.held.handle || some_true (handles (trees_of l.types (drop l.part-index l.parts)))))
    × (some_true (borrows (trees_of l.types l.parts)) ≡ (l.held.borrow || some_true (borrows (trees_of l.types (drop l.part-index l.parts)))))
    × (some_true (lists (trees_of l.types l.parts)) ≡ (l.held.list || some_true (lists (trees_of l.types (drop l.part-index l.parts)))))
