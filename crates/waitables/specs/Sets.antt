-- Waitable sets as they stand (Component Model, CanonicalABI.md, "Waitable Set State" and "canon waitable.join"): their
-- members and waiters, and what each call makes of them.
use Rattle.std.specs.Prelude.{ℕ, ◌+◌, ◌-◌, Bool, true, false, not, ◌==◌, nat_lt, if◌then◌else◌, List, [], ◌∷◌, ◌++◌, map, filter, Result, Ok, Err}
use Rattle.std.specs.List.{list_any, slice_set, slice_index_or}
use Rattle.waitables.specs.declared.refusal.SetRefusal.{SetRefusal}
use Rattle.waitables.specs.declared.refusal.SetRefusal.TheVariants.{Members, Waiters}

-- a set: its members by time of joining, and how many tasks wait on it
pub record SetView : Type 0 where
  pub members : List ℕ
  pub waiters : ℕ

-- a new set
abbrev pub no_set : SetView
no_set = record { members = []; waiters = 0 }

-- the set of this number
abbrev pub set_at : List SetView → ℕ → SetView
set_at sets number = slice_index_or sets number no_set

-- the members but for one waitable
abbrev pub without : ℕ → List ℕ → List ℕ
without waitable members = filter (λ member. not (member == waitable)) members

abbrev pub set_without : ℕ → SetView → SetView
set_without waitable s = record s { members = without waitable s.members }

-- The sets once a waitable is in none of them. The others stay in their order.
abbrev pub left : ℕ → List SetView → List SetView
left waitable sets = map (set_without waitable) sets

abbrev pub set_with_last : ℕ → SetView → SetView
set_with_last waitable s = record s { members = s.members ++ waitable ∷ [] }

-- The sets once a waitable joined one of them: it leaves the set that it was in, and is the last member of its new one.
abbrev pub joined : ℕ → ℕ → List SetView → List SetView
joined waitable number sets = slice_set (left waitable sets) number (set_with_last waitable (set_at (left waitable sets) number))

-- the waitable is one of these
abbrev pub is_one_of : List ℕ → ℕ → Bool
is_one_of waitables waitable = list_any (λ other. other == waitable) waitables

-- the members of which is told that they have an event, in their order
abbrev pub ready_of : List ℕ → SetView → List ℕ
ready_of told s = filter (is_one_of told) s.members

-- the sets once so many tasks wait on one of them
abbrev pub with_waiters : ℕ → ℕ → List SetView → List SetView
with_waiters number count sets = slice_set sets number (record (set_at sets number) { waiters = count })

-- one more task waits on a set
abbrev pub waited_on : ℕ → List SetView → List SetView
waited_on number sets = with_waiters number ((set_at sets number).waiters + 1) sets

-- one task fewer waits on a set
abbrev pub waited_off : ℕ → List SetView → List SetView
waited_off number sets = with_waiters number ((set_at sets number).waiters - 1) sets

abbrev pub is_none : List ℕ → Bool
is_none [] = true
is_none (x ∷ xs) = false

-- Whether a set may be dropped (CanonicalABI.md, "canon waitable-set.drop"): one with a member may not, whether or not a
-- task waits on it, and one without may not where a task waits on it.
abbrev pub drop_answer : SetView → Result (Unit {0}) SetRefusal
drop_answer s = if is_none s.members then (if nat_lt 0 s.waiters then Err Waiters else Ok tt) else Err Members
