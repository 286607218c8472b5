-- What is found so far and what is left give together what all give; and how many types of instances may still be gone into.
use Rattle.std.proofs.Common.{◌≡◌, ℕ, ◌+◌, ◌*◌, List, drop}
use Rattle.comp_graph.specs.Closed.{Externs}
use Rattle.link_spec.specs.Definitions.{Exports}
use Rattle.link_spec.proofs.InOrder.{ordered, found_over}
use Rattle.link_types.specs.Table.{IsInstanceType}
use Rattle.link_instances.specs.References.{World}
use Rattle.link_instances.specs.Instances.{AreInstances}
use Rattle.link_instances.specs.Found.{AreExports}
use Rattle.link_instances.proofs.instances.Instances.+finding.Given as goal

abbrev pub decreases-find_all : goal.decreases-find_all
decreases-find_all l = 2 * l.left

abbrev pub decreases-find_item : goal.decreases-find_item
decreases-find_item l = 2 * l.left + 1

abbrev pub invariant-find_all-loop-at : goal.invariant-find_all-loop-at
invariant-find_all-loop-at l =
    (l.types ≡ l.fn.types)
    × ((w : World) (exports : Exports) (externs : Externs) → AreInstances l.fn.types w l.self → AreExports l.fn.types w l.given exports → IsInstanceType l.fn.types l.asked externs
    → found_over exports l.fn.found.items (ordered externs) ≡ found_over exports l.found.items (drop l.at (ordered externs)))
