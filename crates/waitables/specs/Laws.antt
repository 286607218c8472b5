-- What holds of the sets after every history.
use Rattle.std.specs.Prelude.{◌≡◌, ℕ, not, nat_eq, List, ◌++◌, filter, Contains}
use Rattle.std.specs.List.{list_any, IsDistinct}
use Rattle.waitables.specs.History.{Event, moves, members_by}

-- After further events a set has first, in their old order, those of its members that these events didn't move, and then
-- those that the events let join.
abbrev pub MembersKeepTheirOrder : Type 0
MembersKeepTheirOrder =
    (before later : List Event) (number : ℕ) →
    members_by number (before ++ later) ≡ filter (λ waitable. not (list_any (moves waitable) later)) (members_by number before) ++ members_by number later

-- A waitable is in at most one set, and stands there once.
pub record InAtMostOneSet (history : List Event) : Type 0 where
  pub one : (waitable first second : ℕ) → Contains (members_by first history) waitable → Contains (members_by second history) waitable → first ≡ second
  pub once : (number : ℕ) → IsDistinct nat_eq (members_by number history)
