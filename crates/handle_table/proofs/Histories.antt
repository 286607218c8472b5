-- The slots that a history leaves.
use Rattle.std.proofs.Common.{◌≡◌, ◌≢◌, ℕ, zero, suc, ◌+◌, ◌<◌, ◌≤◌, max, sym, ap, refl, ◌∙◌, arith, subst, Bool, true, nat_eq, if◌then◌else◌, List, [], ◌∷◌, ◌++◌, length, drop, slice_index_or, slice_set, Option, Some, None, IsSome, length-append, length-set, inl, inr}
use Rattle.std.proofs.lemmas.Bool.{cases_lt, cases_eq, ne_eqb}
use Rattle.std.proofs.Common.{eq-eqb}
use Rattle.std.proofs.lemmas.List.{get_or_append_left, get_or_push, ext_get_or, get_or-set_same, get_or-set_other}
use Rattle.handle_table.specs.History.{Event, Add, Remove, without, next_in, live, greatest, freed, next_index, slots_up_to, slots_of, live_count, IsHistory}
use Rattle.handle_table.specs.Slots.{Slots, slot_at, with_slot, filled, added, removed, count, next_of, entry_at, slots_after, StandsFor}
use Rattle.handle_table.specs.Sound.{NotIn, AreFree, IsSound}
use Rattle.handle_table.proofs.Places.{slot_past, full_within}
use Rattle.handle_table.proofs.Soundness.{added_sound, removed_sound, live_not_free}

-- the slots up to an index
pub slots_length : {E : Type 0} (h : List (Event E)) (n : ℕ) → length (slots_up_to h n) ≡ n
slots_length h zero = refl
slots_length h (suc n) = let l : length (slots_up_to h n ++ live h (suc n) ∷ []) ≡ length (slots_up_to h n) + 1 = length-append (slots_up_to h n) (live h (suc n) ∷ []) in omega (arith, l, slots_length h n)

pub slots_at : {E : Type 0} (h : List (Event E)) (n k : ℕ) → k < n → slice_index_or (slots_up_to h n) k None ≡ live h (suc k)
slots_at h zero k l = absurd (omega arith)
slots_at h (suc n) k l = elim (cases_lt k n) [
  | inl less ↦ (get_or_append_left (slots_up_to h n) (live h (suc n) ∷ []) None k (omega (arith, less, slots_length h n)) ∙ slots_at h n k less)
  | inr more ↦ (let e : n ≡ k = omega arith in get_or_push (slots_up_to h n) (live h (suc n)) None k (slots_length h n ∙ e) ∙ ap (λ (i : ℕ). live h (suc i)) e)
]

pub same_slots : {E : Type 0} (h g : List (Event E)) (n : ℕ) → ((k : ℕ) → k < n → live g (suc k) ≡ live h (suc k)) → slots_up_to g n ≡ slots_up_to h n
same_slots h g zero e = refl
same_slots {E} h g (suc n) e =
    ap (λ (xs : List (Option E)). xs ++ live g (suc n) ∷ []) (same_slots h g n (λ k l. e k (omega arith)))
    ∙ ap (λ (x : Option E). slots_up_to h n ++ x ∷ []) (e n (omega arith))

pub set_slots : {E : Type 0} (h g : List (Event E)) (n k : ℕ) (slot : Option E) → k < n → live g (suc k) ≡ slot → ((j : ℕ) → j ≢ k → live g (suc j) ≡ live h (suc j)) → slots_up_to g n ≡ slice_set (slots_up_to h n) k slot
set_slots {E} h g n k slot l same others =
    ext_get_or None (slots_up_to g n) (slice_set (slots_up_to h n) k slot) (slots_length g n ∙ sym (length-set (slots_up_to h n) k slot ∙ slots_length h n))
    (λ j less. elim (cases_eq j k) [
      | inl e ↦ (slots_at g n j (omega (arith, less, slots_length g n)) ∙ ap (λ (i : ℕ). live g (suc i)) e ∙ same ∙ sym (ap (λ (i : ℕ). slice_index_or (slice_set (slots_up_to h n) k slot) i None) e ∙ get_or-set_same (slots_up_to h n) k slot None (omega (arith, l, slots_length h n))))
      | inr ne ↦ (slots_at g n j (omega (arith, less, slots_length g n)) ∙ others j ne ∙ sym (get_or-set_other (slots_up_to h n) k j slot None ne ∙ slots_at h n j (omega (arith, less, slots_length g n))))
    ])

-- what is live after an event
pub event_same : {A : Type 0} (i : ℕ) (x y : A) → (if nat_eq i i then x else y) ≡ x
event_same i x y = rw (eq-eqb i i refl) refl

pub event_other : {A : Type 0} (i j : ℕ) (x y : A) → i ≢ j → (if nat_eq i j then x else y) ≡ y
event_other i j x y h = rw (ne_eqb i j h) refl

-- nothing is live beyond the greatest index
pub live_past : {E : Type 0} (h : List (Event E)) (i : ℕ) → greatest h < i → live h i ≡ None
live_past [] i l = refl
live_past (Add j e ∷ h) i l = event_other j i (Some e) (live h i) (λ same. omega arith) ∙ live_past h i (omega arith)
live_past (Remove j ∷ h) i l = elim (cases_eq j i) [ inl e ↦ (rw (eq-eqb j i e) refl) | inr ne ↦ (event_other j i None (live h i) ne ∙ live_past h i l) ]

-- an index that is not in a list
pub without_none : (i : ℕ) (xs : List ℕ) → NotIn i xs → without i xs ≡ xs
without_none i [] h = refl
without_none i (x ∷ xs) h = event_other i x (without i xs) (x ∷ without i xs) h.0 ∙ ap (λ (ys : List ℕ). x ∷ ys) (without_none i xs h.1)

pub without_first : (i : ℕ) (xs : List ℕ) → NotIn i xs → without i (i ∷ xs) ≡ xs
without_first i xs h = event_same i (without i xs) (i ∷ without i xs) ∙ without_none i xs h

-- slots of a history by index
pub slots_seen : {E : Type 0} (h : List (Event E)) (i : ℕ) → 1 ≤ i → slot_at (slots_of h) i ≡ live h i
slots_seen h zero l = absurd (omega arith)
slots_seen h (suc k) l = elim (cases_lt k (greatest h)) [
  | inl less ↦ (slots_at h (greatest h) k less)
  | inr more ↦ (slot_past (slots_of h) (suc k) (omega (arith, more, slots_length h (greatest h))) ∙ sym (live_past h (suc k) (omega arith)))
]

pub same_record : {E : Type 0} (xs ys : List (Option E)) (is js : List ℕ) → xs ≡ ys → is ≡ js → (let a : Slots E = record { entries = xs; freed = is } in a) ≡ (let b : Slots E = record { entries = ys; freed = js } in b)
same_record {E} xs ys is js e f =
    ap (λ (zs : List (Option E)). (let a : Slots E = record { entries = zs; freed = is } in a)) e
    ∙ ap (λ (ks : List ℕ). (let b : Slots E = record { entries = ys; freed = ks } in b)) f

-- an add
filled_after : {E : Type 0} (h : List (Event E)) (entry : E) (free : List ℕ) → AreFree (slots_of h) free → slots_up_to (Add (next_in free (greatest h)) entry ∷ h) (max (next_in free (greatest h)) (greatest h)) ≡ filled (slots_of h) free entry
filled_after {E} h entry [] f =
    let m : max (greatest h + 1) (greatest h) ≡ suc (greatest h) = omega arith in
    let g : List (Event E) = Add (greatest h + 1) entry ∷ h in
    let at : nat_eq (greatest h + 1) (suc (greatest h)) ≡ true = eq-eqb (greatest h + 1) (suc (greatest h)) (omega arith) in
    ap (λ (n : ℕ). slots_up_to g n) m
    ∙ ap (λ (xs : List (Option E)). xs ++ live g (suc (greatest h)) ∷ []) (same_slots h g (greatest h) (λ k l. event_other (greatest h + 1) (suc k) (Some entry) (live h (suc k)) (λ same. omega arith)))
    ∙ ap (λ (b : Bool). slots_of h ++ (if b then Some entry else live h (suc (greatest h))) ∷ []) at
filled_after h entry (zero ∷ free) f = absurd (let l : 1 ≤ 0 = f.0.given in omega arith)
filled_after {E} h entry (suc k ∷ free) f =
    let within : suc k ≤ length (slots_of h) = f.0.within in
    let l : k < greatest h = omega (arith, within, slots_length h (greatest h)) in
    let m : max (suc k) (greatest h) ≡ greatest h = omega arith in
    let g : List (Event E) = Add (suc k) entry ∷ h in
    ap (λ (n : ℕ). slots_up_to g n) m
    ∙ set_slots h g (greatest h) k (Some entry) l (event_same (suc k) (Some entry) (live h (suc k)))
    (λ j ne. event_other (suc k) (suc j) (Some entry) (live h (suc j)) (λ same. ne (omega arith)))

freed_after : {E : Type 0} (h : List (Event E)) (free : List ℕ) → AreFree (slots_of h) free → without (next_in free (greatest h)) free ≡ drop 1 free
freed_after h [] f = refl
freed_after h (i ∷ free) f = without_first i free f.1

pub add_after : {E : Type 0} (h : List (Event E)) (entry : E) → IsSound (slots_after h) → slots_after (Add (next_index h) entry ∷ h) ≡ added entry (slots_after h)
add_after {E} h entry s =
    let entries : slots_of (Add (next_index h) entry ∷ h) ≡ filled (slots_of h) (freed h) entry = filled_after h entry (freed h) s.free in
    let free : freed (Add (next_index h) entry ∷ h) ≡ drop 1 (freed h) = freed_after h (freed h) s.free in
    same_record (slots_of (Add (next_index h) entry ∷ h)) (filled (slots_of h) (freed h) entry) (freed (Add (next_index h) entry ∷ h)) (drop 1 (freed h)) entries free

-- a removal
emptied_after : {E : Type 0} (h : List (Event E)) (index : ℕ) → 1 ≤ index → index ≤ greatest h → slots_of (Remove index ∷ h) ≡ with_slot (slots_of h) index None
emptied_after h zero l w = absurd (omega arith)
emptied_after {E} h (suc k) l w =
    let g : List (Event E) = Remove (suc k) ∷ h in
    set_slots h g (greatest h) k None (omega arith) (event_same (suc k) None (live h (suc k)))
    (λ j ne. event_other (suc k) (suc j) None (live h (suc j)) (λ same. ne (omega arith)))

pub remove_after : {E : Type 0} (h : List (Event E)) (index : ℕ) (entry : E) → slot_at (slots_of h) index ≡ Some entry → IsSound (slots_after h) → slots_after (Remove index ∷ h) ≡ removed index (slots_after h)
remove_after h index entry e s =
    let w : (1 ≤ index) × (index ≤ length (slots_of h)) = full_within (slots_of h) index entry e in
    let within : index ≤ greatest h = omega (arith, w.1, slots_length h (greatest h)) in
    let free : without index (freed h) ≡ freed h = without_none index (freed h) (live_not_free (slots_of h) index entry (freed h) e s.free) in
    same_record (slots_of (Remove index ∷ h)) (with_slot (slots_of h) index None) (index ∷ without index (freed h)) (index ∷ freed h)
    (emptied_after h index w.0 within) (ap (λ (xs : List ℕ). index ∷ xs) free)

-- every history leaves a sound table
pub next_given_by : {E : Type 0} (entries : List (Option E)) (free : List ℕ) (greatest : ℕ) → AreFree entries free → 1 ≤ next_in free greatest
next_given_by entries [] greatest f = omega arith
next_given_by entries (i ∷ free) greatest f = f.0.given

pub some_of : {E : Type 0} (o : Option E) → IsSome o → (entry : E) × (o ≡ Some entry)
some_of None h = cc
some_of (Some entry) h = (entry, refl)

-- it is sound, and nothing is live at index 0
pub record Left {E : Type 0} (h : List (Event E)) : Type 0 where
  pub sound : IsSound (slots_after h)
  pub zeroth : live h 0 ≡ None

-- a table's slots by index are the history's entries
pub entries_seen : {E : Type 0} (h : List (Event E)) (i : ℕ) → live h 0 ≡ None → slot_at (slots_of h) i ≡ live h i
entries_seen h zero z = sym z
entries_seen h (suc k) z = slots_seen h (suc k) (omega arith)

left_add : {E : Type 0} (h : List (Event E)) (i : ℕ) (entry : E) → i ≡ next_index h → live_count h < 65535 → Left h → Left (Add i entry ∷ h)
left_add {E} h i entry e few s =
    let given : 1 ≤ next_index h = next_given_by (slots_of h) (freed h) (greatest h) s.sound.free in
    let P : Slots E → Type 0 = λ x. IsSound x in
    let Q : ℕ → Type 0 = λ j. IsSound (slots_after (Add j entry ∷ h)) in
    record {
      sound = subst Q (sym e) (subst P (sym (add_after h entry s.sound)) (added_sound (slots_after h) entry few s.sound));
      zeroth = event_other i 0 (Some entry) (live h 0) (λ same. omega (arith, given, e)) ∙ s.zeroth;
    }

left_remove : {E : Type 0} (h : List (Event E)) (i : ℕ) (entry : E) → live h i ≡ Some entry → Left h → Left (Remove i ∷ h)
left_remove {E} h i entry e s =
    let full : slot_at (slots_of h) i ≡ Some entry = entries_seen h i s.zeroth ∙ e in
    let w : (1 ≤ i) × (i ≤ length (slots_of h)) = full_within (slots_of h) i entry full in
    let P : Slots E → Type 0 = λ x. IsSound x in
    record {
      sound = subst P (sym (remove_after h i entry full s.sound)) (removed_sound (slots_after h) i entry full s.sound);
      zeroth = event_other i 0 None (live h 0) (λ same. omega (arith, w.0)) ∙ s.zeroth;
    }

pub left_by : {E : Type 0} (h : List (Event E)) → IsHistory h → Left h
left_by [] p = record { sound = record { free = tt; all = omega arith; small = omega arith }; zeroth = refl }
left_by (Add i entry ∷ h) p = left_add h i entry p.1 p.2 (left_by h p.0)
left_by (Remove i ∷ h) p = let found : (entry : _) × (live h i ≡ Some entry) = some_of (live h i) p.1 in left_remove h i found.0 found.1 (left_by h p.0)

-- what a table that stands for a history shows
pub shows_entry : {E : Type 0} (s : Slots E) (h : List (Event E)) (i : ℕ) → StandsFor h s → entry_at s i ≡ live h i
shows_entry {E} s h i st = ap (λ (x : Slots E). entry_at x i) st.slots ∙ entries_seen h i (left_by h st.history).zeroth

pub shows_next : {E : Type 0} (s : Slots E) (h : List (Event E)) → StandsFor h s → next_of s ≡ next_index h
shows_next {E} s h st = ap (λ (x : Slots E). next_of x) st.slots ∙ ap (λ (n : ℕ). next_in (freed h) n) (slots_length h (greatest h))

pub shows_count : {E : Type 0} (s : Slots E) (h : List (Event E)) → StandsFor h s → count s ≡ live_count h
shows_count {E} s h st = ap (λ (x : Slots E). count x) st.slots

pub add_stands : {E : Type 0} (s : Slots E) (entry : E) → count s < 65535 → (h : List (Event E)) → StandsFor h s → StandsFor (Add (next_index h) entry ∷ h) (added entry s)
add_stands {E} s entry few h st =
    let l : Left h = left_by h st.history in
    record {
      history = (st.history, refl, omega (arith, few, shows_count s h st));
      slots = ap (λ (x : Slots E). added entry x) st.slots ∙ sym (add_after h entry l.sound);
    }

pub remove_stands : {E : Type 0} (s : Slots E) (index : ℕ) (entry : E) → entry_at s index ≡ Some entry → (h : List (Event E)) → StandsFor h s → StandsFor (Remove index ∷ h) (removed index s)
remove_stands {E} s index entry e h st =
    let l : Left h = left_by h st.history in
    let is : live h index ≡ Some entry = sym (shows_entry s h index st) ∙ e in
    record {
      history = (st.history, let P : Option E → Type 0 = IsSome in subst P (sym is) refl);
      slots = ap (λ (x : Slots E). removed index x) st.slots ∙ sym (remove_after h index entry (entries_seen h index l.zeroth ∙ is) l.sound);
    }
