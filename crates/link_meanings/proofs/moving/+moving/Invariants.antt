-- The exports so far, over a table that has grown; and how many types of instances may still be gone into.
use Rattle.std.proofs.Common.{◌+◌, ◌*◌}
use Rattle.comp_graph.specs.Closed.{Externs}
use Rattle.link_types.specs.Changes.{change_of}
use Rattle.link_types.specs.Table.{IsInstanceType, Grows}
use Rattle.link_meanings.proofs.MovedSoFar.{AreMovedSoFar}
use Rattle.link_meanings.proofs.moving.+moving.Given as goal

abbrev pub decreases-moved_instance : goal.decreases-moved_instance
decreases-moved_instance l = 4 * l.left

abbrev pub decreases-moved_names : goal.decreases-moved_names
decreases-moved_names l = 4 * l.left + 1

abbrev pub decreases-moved_type_in : goal.decreases-moved_type_in
decreases-moved_type_in l = 4 * l.left + 2

abbrev pub decreases-moved_item : goal.decreases-moved_item
decreases-moved_item l = 4 * l.left + 3

abbrev pub invariant-moved_instance-loop-at : goal.invariant-moved_instance-loop-at
invariant-moved_instance-loop-at l =
    Grows l.fn.types l.types
    × ((externs : Externs) → IsInstanceType l.fn.types l.instance_type externs → AreMovedSoFar l.types (change_of l.change) l.depth l.maker externs l.at)
