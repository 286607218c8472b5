-- What is brought so far and what is left bring together what all bring; and how many types of instances may still be gone into.
use Rattle.std.proofs.Common.{◌≡◌, ℕ, ◌+◌, ◌*◌, List, length}
use Rattle.comp_graph.specs.Closed.{Externs}
use Rattle.link_spec.specs.Definitions.{Exports}
use Rattle.link_types.specs.Table.{IsInstanceType}
use Rattle.link_instance_types.proofs.Counting.{IsCounted}
use Rattle.link_instance_types.proofs.bringing.+bringing.Given as goal

abbrev pub decreases-with_instance : goal.decreases-with_instance
decreases-with_instance l = 2 * l.left

abbrev pub decreases-with_item : goal.decreases-with_item
decreases-with_item l = 2 * l.left + 1

abbrev pub invariant-with_instance-loop-at : goal.invariant-with_instance-loop-at
invariant-with_instance-loop-at l =
    (l.types ≡ l.fn.types)
    × ((given : Exports) (found : List ℕ) (externs : Externs) → IsInstanceType l.fn.types l.instance_type externs → length found ≡ l.count → IsCounted given found externs l.at l.all)
