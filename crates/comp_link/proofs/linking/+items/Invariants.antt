-- Each component that begins leaves fewer that may; its items, each of them, and what it begins hold one another in this order.
-- What is behind the items is what is behind those that are left.
use Rattle.std.proofs.Common.{◌<◌, ◌≤◌, ◌+◌, ◌*◌, List, length, drop}
use Rattle.link_spec.specs.Definitions.{Exports}
use Rattle.link_spec.specs.Spaces.{Linking}
use Rattle.link_state.specs.State.{IsLive, StayLive, IsState}
use Rattle.link_state.specs.Reached.{IsReached}
use Rattle.comp_link.proofs.Passing.{Goes}
use Rattle.comp_link.proofs.linking.+items.Given as goal

abbrev pub decreases-link_items : goal.decreases-link_items
decreases-link_items l = 4 * l.depth + 3

abbrev pub decreases-link_placed : goal.decreases-link_placed
decreases-link_placed l = 4 * l.depth + 2

abbrev pub decreases-link_nested : goal.decreases-link_nested
decreases-link_nested l = 4 * l.depth + 1

abbrev pub decreases-link_inside : goal.decreases-link_inside
decreases-link_inside l = 4 * l.depth

abbrev pub invariant-link_items-loop-placed : goal.invariant-link_items-loop-placed
invariant-link_items-loop-placed l =
    (l.n < length l.linker.scopes.items) × (length l.fn.linker.scopes.items ≤ length l.linker.scopes.items)
    × StayLive l.fn.linker l.linker
    × ((bases : List Exports) (first : Linking) → IsState bases l.fn.linker first → IsLive l.fn.linker l.n → IsReached first → Goes l.depth l.n first l.items (drop l.placed-index l.items) l.linker)
