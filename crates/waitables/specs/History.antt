-- What happened to the sets of an instance, and who is a member by that: the waitables whose last event is that they
-- joined the set, in the order of these events.
use Rattle.std.specs.Prelude.{◌≡◌, ℕ, ◌+◌, Bool, true, false, not, ◌&&◌, ◌==◌, if◌then◌else◌, List, [], ◌∷◌, length, count_by}
use Rattle.std.specs.List.{list_any}
use Rattle.waitables.specs.Sets.{SetView, set_at}

-- what happens, by the numbers of waitables and sets
pub data Event : Type 0 where
  -- a set is made: the sets are numbered from 0 as they are made
  Made : Event
  -- a waitable joins a set
  Joins : (waitable number : ℕ) → Event
  -- a waitable leaves the set that it is in, if it is in one
  Leaves : (waitable : ℕ) → Event
  -- a task begins to wait on a set
  Waits : (number : ℕ) → Event
  -- a task ceases to wait on a set
  Goes : (number : ℕ) → Event

-- the event moves this waitable
abbrev pub moves : ℕ → Event → Bool
moves waitable Made = false
moves waitable (Joins other number) = waitable == other
moves waitable (Leaves other) = waitable == other
moves waitable (Waits number) = false
moves waitable (Goes number) = false

abbrev pub is_made : Event → Bool
is_made Made = true
is_made (Joins waitable number) = false
is_made (Leaves waitable) = false
is_made (Waits number) = false
is_made (Goes number) = false

abbrev pub begins_wait : ℕ → Event → Bool
begins_wait number Made = false
begins_wait number (Joins waitable other) = false
begins_wait number (Leaves waitable) = false
begins_wait number (Waits other) = other == number
begins_wait number (Goes other) = false

abbrev pub ends_wait : ℕ → Event → Bool
ends_wait number Made = false
ends_wait number (Joins waitable other) = false
ends_wait number (Leaves waitable) = false
ends_wait number (Waits other) = false
ends_wait number (Goes other) = other == number

-- the members of a set: who joined it and wasn't moved later
abbrev pub members_by : ℕ → List Event → List ℕ
members_by number [] = []
members_by number (Made ∷ later) = members_by number later
members_by number (Joins waitable other ∷ later) =
    if (other == number) && not (list_any (moves waitable) later) then waitable ∷ members_by number later else members_by number later
members_by number (Leaves waitable ∷ later) = members_by number later
members_by number (Waits other ∷ later) = members_by number later
members_by number (Goes other ∷ later) = members_by number later

-- Sets look like this after this history: as many as were made, with their members, and as many waiters of each as began
-- to wait and haven't ceased. A number that wasn't given yet has neither.
pub record StandsFor (history : List Event) (sets : List SetView) : Type 0 where
  pub made : length sets ≡ count_by is_made history
  pub members : (number : ℕ) → (set_at sets number).members ≡ members_by number history
  pub waiters : (number : ℕ) → (set_at sets number).waiters + count_by (ends_wait number) history ≡ count_by (begins_wait number) history
