-- Tables whose entries stand for those of a history: what adds, removals and writes keep.
use Rattle.std.proofs.Common.{◌≡◌, ℕ, zero, suc, ◌<◌, sym, ap, refl, ◌∙◌, arith, subst, List, [], ◌∷◌, ◌++◌, drop, slice_index_or, slice_set, Option, Some, None, is_some, IsSome}
use Rattle.std.specs.List.{count_by}
use Rattle.std.proofs.lemmas.List.Sums.{sum_by-cons}
use Rattle.handle_table.specs.History.{Event, Add, Remove, live, next_index, slots_of, live_count}
use Rattle.handle_table.specs.Slots.{Slots, with_slot, filled, added, removed, with_entry, count, entry_at, slots_after, StandsFor}
use Rattle.handle_table.specs.Alike.{SlotAlike, SlotsAlike, Alike, StandsBy}
use Rattle.handle_table.specs.Laws.{with_changed}
use Rattle.handle_table.proofs.Places.{one_if}
use Rattle.handle_table.proofs.Histories.{Left, left_by, add_after, remove_after, entries_seen, some_of}
use Rattle.handle_table.proofs.Writes.{writes_after}

-- slots
set_alike : {E A : Type 0} (R : E → A → Type 0) (xs : List (Option E)) (ys : List (Option A)) (k : ℕ) (x : Option E) (y : Option A) → SlotAlike R x y → SlotsAlike R xs ys → SlotsAlike R (slice_set xs k x) (slice_set ys k y)
set_alike R [] [] k x y s h = tt
set_alike R [] (b ∷ ys) k x y s h = absurd h
set_alike R (a ∷ xs) [] k x y s h = absurd h
set_alike R (a ∷ xs) (b ∷ ys) zero x y s h = (s, h.1)
set_alike R (a ∷ xs) (b ∷ ys) (suc k) x y s h = (h.0, set_alike R xs ys k x y s h.1)

with_alike : {E A : Type 0} (R : E → A → Type 0) (xs : List (Option E)) (ys : List (Option A)) (index : ℕ) (x : Option E) (y : Option A) → SlotAlike R x y → SlotsAlike R xs ys → SlotsAlike R (with_slot xs index x) (with_slot ys index y)
with_alike R xs ys zero x y s h = h
with_alike R xs ys (suc k) x y s h = set_alike R xs ys k x y s h

push_alike : {E A : Type 0} (R : E → A → Type 0) (xs : List (Option E)) (ys : List (Option A)) (x : Option E) (y : Option A) → SlotAlike R x y → SlotsAlike R xs ys → SlotsAlike R (xs ++ x ∷ []) (ys ++ y ∷ [])
push_alike R [] [] x y s h = (s, tt)
push_alike R [] (b ∷ ys) x y s h = absurd h
push_alike R (a ∷ xs) [] x y s h = absurd h
push_alike R (a ∷ xs) (b ∷ ys) x y s h = (h.0, push_alike R xs ys x y s h.1)

at_alike : {E A : Type 0} (R : E → A → Type 0) (xs : List (Option E)) (ys : List (Option A)) (k : ℕ) → SlotsAlike R xs ys → SlotAlike R (slice_index_or xs k None) (slice_index_or ys k None)
at_alike R [] [] k h = tt
at_alike R [] (b ∷ ys) k h = absurd h
at_alike R (a ∷ xs) [] k h = absurd h
at_alike R (a ∷ xs) (b ∷ ys) zero h = h.0
at_alike R (a ∷ xs) (b ∷ ys) (suc k) h = at_alike R xs ys k h.1

some_alike : {E A : Type 0} (R : E → A → Type 0) (x : Option E) (y : Option A) → SlotAlike R x y → is_some x ≡ is_some y
some_alike R None None h = refl
some_alike R None (Some a) h = absurd h
some_alike R (Some e) None h = absurd h
some_alike R (Some e) (Some a) h = refl

count_alike : {E A : Type 0} (R : E → A → Type 0) (xs : List (Option E)) (ys : List (Option A)) → SlotsAlike R xs ys → count_by is_some xs ≡ count_by is_some ys
count_alike R [] [] h = refl
count_alike R [] (b ∷ ys) h = absurd h
count_alike R (a ∷ xs) [] h = absurd h
count_alike {E} {A} R (a ∷ xs) (b ∷ ys) h =
    omega (arith, count_alike R xs ys h.1, ap one_if (some_alike R a b h.0), sum_by-cons (λ (x : Option E). one_if (is_some x)) a xs, sum_by-cons (λ (y : Option A). one_if (is_some y)) b ys)

-- what a layer above sees of a history
pub slot_shown : {E A : Type 0} (R : E → A → Type 0) (h : List (Event A)) (s : Slots E) (index : ℕ) → StandsBy R h s → SlotAlike R (entry_at s index) (live h index)
slot_shown {E} R h s zero st = let none : live h 0 ≡ None = (left_by h st.history).zeroth in rw none tt
slot_shown {E} {A} R h s (suc k) st =
    let P : Option A → Type 0 = λ y. SlotAlike R (slice_index_or s.entries k None) y in
    subst P (entries_seen h (suc k) (left_by h st.history).zeroth) (at_alike R s.entries (slots_of h) k st.alike.slots)

pub count_shown : {E A : Type 0} (R : E → A → Type 0) (h : List (Event A)) (s : Slots E) → StandsBy R h s → count s ≡ live_count h
count_shown R h s st = count_alike R s.entries (slots_of h) st.alike.slots

-- an add
filled_alike : {E A : Type 0} (R : E → A → Type 0) (xs : List (Option E)) (ys : List (Option A)) (free : List ℕ) (entry : E) (other : A) → R entry other → SlotsAlike R xs ys → SlotsAlike R (filled xs free entry) (filled ys free other)
filled_alike R xs ys [] entry other r h = push_alike R xs ys (Some entry) (Some other) r h
filled_alike R xs ys (index ∷ free) entry other r h = with_alike R xs ys index (Some entry) (Some other) r h

pub added_stands : {E A : Type 0} (R : E → A → Type 0) (h : List (Event A)) (s : Slots E) (entry : E) (other : A) → count s < 65535 → R entry other → StandsBy R h s → StandsBy R (Add (next_index h) other ∷ h) (added entry s)
added_stands {E} {A} R h s entry other few r st =
    let l : Left h = left_by h st.history in
    let P : Slots A → Type 0 = λ t. Alike R (added entry s) t in
    let Q : List ℕ → Type 0 = λ free. SlotsAlike R (filled s.entries s.freed entry) (filled (slots_of h) free other) in
    record {
      history = (st.history, refl, omega (arith, few, count_shown R h s st));
      alike = subst P (sym (add_after h other l.sound)) (record {
        slots = subst Q st.alike.freed (filled_alike R s.entries (slots_of h) s.freed entry other r st.alike.slots);
        freed = ap (λ (xs : List ℕ). drop 1 xs) st.alike.freed;
      });
    }

-- a removal
pub removed_stands : {E A : Type 0} (R : E → A → Type 0) (h : List (Event A)) (s : Slots E) (index : ℕ) → IsSome (entry_at s index) → StandsBy R h s → StandsBy R (Remove index ∷ h) (removed index s)
removed_stands {E} {A} R h s index some st =
    let l : Left h = left_by h st.history in
    let is : IsSome (live h index) = sym (some_alike R (entry_at s index) (live h index) (slot_shown R h s index st)) ∙ some in
    let found : (other : A) × (live h index ≡ Some other) = some_of (live h index) is in
    let P : Slots A → Type 0 = λ t. Alike R (removed index s) t in
    record {
      history = (st.history, is);
      alike = subst P (sym (remove_after h index found.0 (entries_seen h index l.zeroth ∙ found.1) l.sound)) (record {
        slots = with_alike R s.entries (slots_of h) index None None tt st.alike.slots;
        freed = ap (λ (xs : List ℕ). index ∷ xs) st.alike.freed;
      });
    }

-- a write
pub changed_stands : {E A : Type 0} (R : E → A → Type 0) (h : List (Event A)) (s : Slots E) (index : ℕ) (entry : E) (other : A) → IsSome (entry_at s index) → R entry other → StandsBy R h s → StandsBy R (with_changed index other h) (with_entry index entry s)
changed_stands {E} {A} R h s index entry other some r st =
    let is : IsSome (live h index) = sym (some_alike R (entry_at s index) (live h index) (slot_shown R h s index st)) ∙ some in
    let w : StandsFor (with_changed index other h) (with_entry index other (slots_after h)) = writes_after h (slots_after h) index other is (record { history = st.history; slots = refl }) in
    let P : Slots A → Type 0 = λ t. Alike R (with_entry index entry s) t in
    record {
      history = w.history;
      alike = subst P w.slots (record {
        slots = with_alike R s.entries (slots_of h) index (Some entry) (Some other) r st.alike.slots;
        freed = st.alike.freed;
      });
    }
