-- How the sets are kept: the members of each by the times at which they joined, and for each waitable that is in a set its
-- place, which is that set and that time.
use Rattle.std.specs.Prelude.{◌≡◌, ℕ, ◌<◌, List, [], map, length, ◌==◌, if◌then◌else◌, Option, Some, None, Bool, is_some, filter}
use Rattle.std.specs.List.{slice_index_or, slice_set, AllByRecursion}
use Rattle.std.specs.List.Sorted.{IsStrictlySortedBy}
use Rattle.std.specs.Ordering.{nat_cmp}
use Rattle.std.specs.BTreeMap.{BTreeMap, values, get, is_at, insert_entry}
use Rattle.std.specs.Map.{keys_of, lookup, remove_entry}
use Rattle.waitables.specs.declared.place.Place.{Place}
use Rattle.waitables.specs.declared.sets.WaitableSet.{WaitableSet}
use Rattle.waitables.specs.Sets.{SetView, is_one_of}

-- a set as it looks from outside
abbrev pub shown_set : WaitableSet → SetView
shown_set s = record { members = values s.by_time; waiters = s.waiters }

-- the sets as they look from outside
abbrev pub shown : List WaitableSet → List SetView
shown sets = map shown_set sets

abbrev pub entries_of : WaitableSet → List (ℕ × ℕ)
entries_of s = s.by_time.entries

-- the members of each set with their times
abbrev pub timed : List WaitableSet → List (List (ℕ × ℕ))
timed sets = map entries_of sets

abbrev pub timed_at : List (List (ℕ × ℕ)) → ℕ → List (ℕ × ℕ)
timed_at all number = slice_index_or all number []

-- how many tasks wait on each set
abbrev pub waits : List WaitableSet → List ℕ
waits sets = map (λ s. s.waiters) sets

-- the members of each set, once the one at this place is taken out
abbrev pub times_without : Place → List (List (ℕ × ℕ)) → List (List (ℕ × ℕ))
times_without place all = slice_set all place.set (remove_entry (is_at (nat_cmp place.time)) (timed_at all place.set))

-- the same, if there is a place
abbrev pub times_out : Option Place → List (List (ℕ × ℕ)) → List (List (ℕ × ℕ))
times_out None all = all
times_out (Some place) all = times_without place all

-- the members of each set, once a waitable joined at this place
abbrev pub times_with : Place → ℕ → List (List (ℕ × ℕ)) → List (List (ℕ × ℕ))
times_with place waitable all = slice_set all place.set (insert_entry nat_cmp (timed_at all place.set) place.time waitable)

-- the time at which a waitable of this place joined a set, if it is in that set
abbrev pub time_in : ℕ → Option Place → Option ℕ
time_in number None = None
time_in number (Some place) = if place.set == number then Some place.time else None

-- a waitable is in this set, by its place
abbrev pub is_in : (ℕ → Option Place) → ℕ → ℕ → Bool
is_in home number waitable = is_some (time_in number (home waitable))

-- these members are at home in this set, each since its time
abbrev pub AtHome : (ℕ → Option Place) → ℕ → List (ℕ × ℕ) → Type 0
AtHome home number members = AllByRecursion (λ member. home member.1 ≡ Some (record { set = number; time = member.0 })) members

-- A waitable stands at this place, which is of a set that is there, and before the next joining.
pub record StandsAt (all : List (List (ℕ × ℕ))) (clock waitable : ℕ) (place : Place) : Type 0 where
  pub there : place.set < length all
  pub past : place.time < clock
  pub member : lookup (is_at (nat_cmp place.time)) (timed_at all place.set) ≡ Some waitable

-- Members and places agree, and the times of a set's members rise.
pub record Agree (all : List (List (ℕ × ℕ))) (home : ℕ → Option Place) (clock : ℕ) : Type 0 where
  pub rise : (number : ℕ) → number < length all → IsStrictlySortedBy nat_cmp (keys_of (timed_at all number))
  pub homes : (number : ℕ) → number < length all → AtHome home number (timed_at all number)
  pub places : (waitable : ℕ) (place : Place) → home waitable ≡ Some place → StandsAt all clock waitable place

abbrev pub Placed : List WaitableSet → BTreeMap ℕ Place → ℕ → Type 0
Placed sets places clock = Agree (timed sets) (get nat_cmp places) clock

-- These entries are those members of a set that are among the told ones, in their order, for whatever members agree with
-- these places.
abbrev pub AreTold : (ℕ → Option Place) → ℕ → List ℕ → List (ℕ × ℕ) → Type 0
AreTold home number told entries =
    (all : List (List (ℕ × ℕ))) (clock : ℕ) → Agree all home clock → number < length all → entries ≡ filter (λ member. is_one_of told member.1) (timed_at all number)
