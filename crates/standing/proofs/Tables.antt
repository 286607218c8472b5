-- What is changed of a component instance is changed of the one for which it stands.
use Rattle.std.proofs.Common.{◌≡◌, ℕ, zero, suc, nat_lt, List, [], ◌∷◌, ◌++◌, map, length, slice_set, slice_index_or, refl, sym, ap, ◌∙◌, subst, Option, Some, None, set}
use Rattle.std.proofs.lemmas.Bool.{ltb-true}
use Rattle.std.proofs.lemmas.List.{map-set, set-get_or}
use Rattle.syntax_trees.specs.declared.types.ValType.{ValType}
use Rattle.handle_table.specs.History.{Event, slots_of, next_in, next_index, most_live}
use Rattle.handle_table.specs.Slots.{Slots, with_slot, count, next_of, entry_at, slots_after}
use Rattle.handle_table.specs.Alike.{SlotAlike, SlotsAlike, StandsBy}
use Rattle.handle_table.proofs.Alike.{slot_shown, count_shown, added_stands, removed_stands}
use Rattle.handle_table.proofs.Histories.{shows_next}
use Rattle.waitables.specs.Sets.{SetView, no_set, set_at, set_without, set_with_last, left, joined, with_waiters}
use Rattle.instances.specs.Instances.{new_instance}
use Rattle.abi_machine.specs.World.{new_inst}
use Rattle.abi_machine.specs.Edits.{set_view, by_views}
use Rattle.abi_machine.proofs.sound.Found.{some_same}
use Rattle.standing.specs.Instances.{EntryStands, members_of, InstStands}
use Rattle.standing.specs.Edits.{EntriesAreAlike, NextIsAlike, RoomIsAlike, EntriesAreAdded, EntriesAreRemoved, EntriesStayAlike, SetsAreMade, WaitablesLeave, WaitablesJoin, WaitersAreNotSaid, PressureChanges, EntryIsNotSaid}
use Rattle.standing.proofs.Lists.{map_more}

pub new_stands : (values : List ValType) → InstStands values new_instance new_inst
new_stands values = record { table = record { history = tt; alike = record { slots = tt; freed = refl } }; sets = refl; pressure = refl }

-- What is looked up.
pub entries_are_alike : EntriesAreAlike
entries_are_alike values i a index st = slot_shown (EntryStands values) a.table i.slots index st.table

same_length : {E A : Type 0} (R : E → A → Type 0) (xs : List (Option E)) (ys : List (Option A)) → SlotsAlike R xs ys → length xs ≡ length ys
same_length R [] [] h = refl
same_length R [] (y ∷ ys) h = absurd h
same_length R (x ∷ xs) [] h = absurd h
same_length R (x ∷ xs) (y ∷ ys) h = ap suc (same_length R xs ys h.1)

next_same : {E A : Type 0} (R : E → A → Type 0) (h : List (Event A)) (s : Slots E) → StandsBy R h s → next_of s ≡ next_index h
next_same R h s st =
    ap (λ (free : List ℕ). next_in free (length s.entries)) st.alike.freed
    ∙ ap (λ (n : ℕ). next_in (slots_after h).freed n) (same_length R s.entries (slots_after h).entries st.alike.slots)
    ∙ shows_next (slots_after h) h (record { history = st.history; slots = refl })

pub next_is_alike : NextIsAlike
next_is_alike values i a st = next_same (EntryStands values) a.table i.slots st.table

pub room_is_alike : RoomIsAlike
room_is_alike values i a st = ap (λ (n : ℕ). nat_lt n most_live) (count_shown (EntryStands values) a.table i.slots st.table)

-- One more entry, one less, and another one that stands for the same.
pub entries_are_added : EntriesAreAdded
entries_are_added values i a e entry room stands st =
    record { table = added_stands (EntryStands values) a.table i.slots e entry (ltb-true (count i.slots) most_live room) stands st.table; sets = st.sets; pressure = st.pressure }

pub entries_are_removed : EntriesAreRemoved
entries_are_removed values i a index there st =
    record { table = removed_stands (EntryStands values) a.table i.slots index there st.table; sets = st.sets; pressure = st.pressure }

now_alike : {E A : Type 0} (R : E → A → Type 0) (x : Option E) (y : Option A) (e now : E) → x ≡ Some e → ((a : A) → R e a → R now a) → SlotAlike R x y → SlotAlike R (Some now) y
now_alike R None y e now is k h = absurd (cc)
now_alike R (Some x) None e now is k h = absurd h
now_alike R (Some x) (Some y) e now is k h = k y (subst (λ u. R u y) (some_same is) h)

set_alike : {E A : Type 0} (R : E → A → Type 0) (xs : List (Option E)) (ys : List (Option A)) (k : ℕ) (e now : E) → slice_index_or xs k None ≡ Some e
    → ((a : A) → R e a → R now a) → SlotsAlike R xs ys → SlotsAlike R (slice_set xs k (Some now)) ys
set_alike R [] ys k e now is more h = absurd (cc)
set_alike R (x ∷ xs) [] k e now is more h = absurd h
set_alike R (x ∷ xs) (y ∷ ys) zero e now is more h = (now_alike R x y e now is more h.0, h.1)
set_alike R (x ∷ xs) (y ∷ ys) (suc k) e now is more h = (h.0, set_alike R xs ys k e now is more h.1)

slot_alike : {E A : Type 0} (R : E → A → Type 0) (s : Slots E) (ys : List (Option A)) (index : ℕ) (e now : E) → entry_at s index ≡ Some e
    → ((a : A) → R e a → R now a) → SlotsAlike R s.entries ys → SlotsAlike R (with_slot s.entries index (Some now)) ys
slot_alike R s ys zero e now is more h = absurd (cc)
slot_alike R s ys (suc k) e now is more h = set_alike R s.entries ys k e now is more h

pub entries_stay_alike : EntriesStayAlike
entries_stay_alike values i a index e now is more st = record {
  table = record {
    history = st.table.history;
    alike = record { slots = slot_alike (EntryStands values) i.slots (slots_of a.table) index e now is more st.table.alike.slots; freed = st.table.alike.freed };
  };
  sets = st.sets;
  pressure = st.pressure;
}

-- Sets.
pub sets_are_made : SetsAreMade
sets_are_made values i a st =
    record { table = st.table; sets = map_more (λ (v : SetView). v.members) i.sets no_set ∙ ap (λ xs. xs ++ [] ∷ []) st.sets; pressure = st.pressure }

left_seen : (index : ℕ) (sets : List SetView) → members_of (left index sets) ≡ by_views (left index) (members_of sets)
left_seen index [] = refl
left_seen index (v ∷ sets) = ap (λ xs. (set_without index v).members ∷ xs) (left_seen index sets)

pub waitables_leave : WaitablesLeave
waitables_leave values i a index st =
    record { table = st.table; sets = left_seen index i.sets ∙ ap (by_views (left index)) st.sets; pressure = st.pressure }

pub members_at : (sets : List SetView) (n : ℕ) → (set_at sets n).members ≡ slice_index_or (members_of sets) n []
members_at [] n = refl
members_at (v ∷ sets) zero = refl
members_at (v ∷ sets) (suc n) = members_at sets n

last_in : ℕ → ℕ → List (List ℕ) → List (List ℕ)
last_in index n all = slice_set all n (slice_index_or all n [] ++ index ∷ [])

put_seen : (index n : ℕ) (sets : List SetView) → members_of (slice_set sets n (set_with_last index (set_at sets n))) ≡ last_in index n (members_of sets)
unfolding last_in
put_seen index n sets =
    map-set (λ (v : SetView). v.members) sets n (set_with_last index (set_at sets n))
    ∙ ap (λ (xs : List ℕ). slice_set (members_of sets) n (xs ++ index ∷ [])) (members_at sets n)

joined_seen : (index n : ℕ) (sets : List SetView) → members_of (joined index n sets) ≡ by_views (joined index n) (members_of sets)
joined_seen index n sets =
    put_seen index n (left index sets) ∙ ap (last_in index n) (left_seen index sets) ∙ sym (put_seen index n (left index (map set_view (members_of sets))))

pub waitables_join : WaitablesJoin
waitables_join values i a index set st =
    record { table = st.table; sets = joined_seen index set i.sets ∙ ap (by_views (joined index set)) st.sets; pressure = st.pressure }

pub waiting_seen : (set count : ℕ) (sets : List SetView) → members_of (with_waiters set count sets) ≡ members_of sets
waiting_seen set count sets =
    map-set (λ (v : SetView). v.members) sets set (record (set_at sets set) { waiters = count })
    ∙ ap (λ (xs : List ℕ). slice_set (members_of sets) set xs) (members_at sets set) ∙ set-get_or (members_of sets) set []

pub waiters_are_not_said : WaitersAreNotSaid
waiters_are_not_said values i a set count st = record { table = st.table; sets = waiting_seen set count i.sets ∙ st.sets; pressure = st.pressure }

-- The gate.
pub pressure_changes : PressureChanges
pressure_changes values i a pressure st = record { table = st.table; sets = st.sets; pressure = refl }

pub entry_is_not_said : EntryIsNotSaid
entry_is_not_said values i a gate same st = record { table = st.table; sets = st.sets; pressure = same ∙ st.pressure }
