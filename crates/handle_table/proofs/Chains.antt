-- The slots of a table as it keeps them: what adds, removals and writes make of what contracts see.
use Rattle.std.proofs.Common.{◌≡◌, ◌≢◌, ℕ, zero, suc, ◌+◌, ◌-◌, ◌<◌, ◌≤◌, sym, ap, refl, ◌∙◌, arith, subst, List, [], ◌∷◌, ◌++◌, length, map, slice_index_or, slice_set, Option, Some, None, is_some, IsSome, length-set, length-append}
use Rattle.std.specs.List.{count_by}
use Rattle.std.specs.Option.{MatchOption}
use Rattle.std.proofs.lemmas.List.{length-map, map-set, map-append, get_or-set_same, get_or-set_other, get_or_default}
use Rattle.std.proofs.lemmas.List.Sums.{count_by-le-length}
use Rattle.std.proofs.Math.ListN.{get_or-map}
use Rattle.handle_table.specs.declared.slot.Slot.{Slot}
use Rattle.handle_table.specs.declared.slot.Slot.TheVariants.{Live, Free}
use Rattle.handle_table.specs.Slots.{Slots, TableState, slot_at, with_slot, added, removed, with_entry, count, next_of}
use Rattle.handle_table.specs.History.{next_in}
use Rattle.handle_table.specs.Chains.{entry_of, freed_before, freed_from, shown}
use Rattle.handle_table.specs.Sound.{NotIn, AreFree, IsTable}
use Rattle.handle_table.proofs.Places.{slot_is, with_slot_is}
use Rattle.handle_table.proofs.Soundness.{live_not_free}
use Rattle.handle_table.proofs.Histories.{some_of, same_record}
use Rattle.handle_table.proofs.Standing.{live_within, live_counts, removed_table, changed_table, added_table}

-- no more entries are live than there are slots
pub few : {E : Type 0} (slots : List (Slot E)) (last live : ℕ) → IsTable (shown slots last live) live → live ≤ length slots
few slots last live t =
    let counted : live ≡ count_by is_some (map entry_of slots) = t.counted in
    let len : length (map entry_of slots) ≡ length slots = length-map slots entry_of in
    omega (arith, count_by-le-length is_some (map entry_of slots))

-- the entries where one slot is written
pub entries_with : {E : Type 0} (slots : List (Slot E)) (index : ℕ) (slot : Slot E) → 1 ≤ index → map entry_of (slice_set slots (index - 1) slot) ≡ with_slot (map entry_of slots) index (entry_of slot)
entries_with slots index slot h = map-set entry_of slots (index - 1) slot ∙ sym (with_slot_is (map entry_of slots) index (entry_of slot) h)

-- an index that is not among the freed ones can be written
pub freed_kept : {E : Type 0} (more : ℕ) (slots : List (Slot E)) (entries : List (Option E)) (first index : ℕ) (slot : Slot E) → AreFree entries (freed_from more slots first) → NotIn index (freed_from more slots first) → 1 ≤ index → freed_from more (slice_set slots (index - 1) slot) first ≡ freed_from more slots first
freed_kept zero slots entries first index slot free out h = refl
freed_kept {E} (suc more) slots entries first index slot free out h =
    let given : 1 ≤ first = free.0.given in
    let apart : index ≢ first = out.0 in
    let other : first - 1 ≢ index - 1 = λ e. apart (omega arith) in
    let read : slice_index_or (slice_set slots (index - 1) slot) (first - 1) (Free 0) ≡ slice_index_or slots (first - 1) (Free 0) = get_or-set_other slots (index - 1) (first - 1) slot (Free 0) other in
    let next : ℕ = freed_before (slice_index_or slots (first - 1) (Free 0)) in
    ap (λ (x : Slot E). first ∷ freed_from more (slice_set slots (index - 1) slot) (freed_before x)) read
    ∙ ap (λ (xs : List ℕ). first ∷ xs) (freed_kept more slots entries next index slot free.2 out.1 h)

-- a removal
pub removed_shown : {E : Type 0} (slots : List (Slot E)) (last live index : ℕ) → IsSome (slot_at (map entry_of slots) index) → IsTable (shown slots last live) live → shown (slice_set slots (index - 1) (Free last)) index (live - 1) ≡ removed index (shown slots last live)
removed_shown {E} slots last live index some t =
    let entries : List (Option E) = map entry_of slots in
    let more : ℕ = length slots - live in
    let found : (entry : E) × (slot_at entries index ≡ Some entry) = some_of (slot_at entries index) some in
    let w : (1 ≤ index) × (index ≤ length entries) = live_within entries index some in
    let len : length entries ≡ length slots = length-map slots entry_of in
    let written : List (Slot E) = slice_set slots (index - 1) (Free last) in
    let long : length written ≡ length slots = length-set slots (index - 1) (Free last) in
    let counted : live ≡ count_by is_some entries = t.counted in
    let one : 1 ≤ count_by is_some entries = live_counts entries index some in
    let below : live ≤ length slots = few slots last live t in
    let left : length written - (live - 1) ≡ suc (length slots - live) = omega arith in
    let read : slice_index_or written (index - 1) (Free 0) ≡ Free last = get_or-set_same slots (index - 1) (Free last) (Free 0) (omega arith) in
    let out : NotIn index (freed_from more slots last) = live_not_free entries index found.0 (freed_from more slots last) found.1 t.sound.free in
    let freed : freed_from (length written - (live - 1)) written index ≡ index ∷ freed_from more slots last =
    ap (λ (n : ℕ). freed_from n written index) left
    ∙ ap (λ (x : Slot E). index ∷ freed_from more written (freed_before x)) read
    ∙ ap (λ (xs : List ℕ). index ∷ xs) (freed_kept more slots entries last index (Free last) t.sound.free out w.0) in
    same_record (map entry_of written) (with_slot entries index None) (freed_from (length written - (live - 1)) written index) (index ∷ freed_from more slots last) (entries_with slots index (Free last) w.0) freed

-- a write
pub changed_shown : {E : Type 0} (slots : List (Slot E)) (last live index : ℕ) (now : E) → IsSome (slot_at (map entry_of slots) index) → IsTable (shown slots last live) live → shown (slice_set slots (index - 1) (Live now)) last live ≡ with_entry index now (shown slots last live)
changed_shown {E} slots last live index now some t =
    let entries : List (Option E) = map entry_of slots in
    let more : ℕ = length slots - live in
    let found : (entry : E) × (slot_at entries index ≡ Some entry) = some_of (slot_at entries index) some in
    let w : (1 ≤ index) × (index ≤ length entries) = live_within entries index some in
    let written : List (Slot E) = slice_set slots (index - 1) (Live now) in
    let long : length written ≡ length slots = length-set slots (index - 1) (Live now) in
    let left : length written - live ≡ length slots - live = omega arith in
    let out : NotIn index (freed_from more slots last) = live_not_free entries index found.0 (freed_from more slots last) found.1 t.sound.free in
    let freed : freed_from (length written - live) written last ≡ freed_from more slots last =
    ap (λ (n : ℕ). freed_from n written last) left ∙ freed_kept more slots entries last index (Live now) t.sound.free out w.0 in
    same_record (map entry_of written) (with_slot entries index (Some now)) (freed_from (length written - live) written last) (freed_from more slots last) (entries_with slots index (Live now) w.0) freed

-- what is freed first, where a slot is free
pub first_freed : {E : Type 0} (slots : List (Slot E)) (last live : ℕ) → live < length slots → freed_from (length slots - live) slots last ≡ last ∷ freed_from (length slots - (live + 1)) slots (freed_before (slice_index_or slots (last - 1) (Free 0)))
first_freed slots last live h =
    let more : length slots - live ≡ suc (length slots - (live + 1)) = omega arith in
    ap (λ (n : ℕ). freed_from n slots last) more

-- where one is, it is within
pub first_within : {E : Type 0} (slots : List (Slot E)) (last live : ℕ) → live < length slots → IsTable (shown slots last live) live → (1 ≤ last) × (last ≤ length slots)
first_within {E} slots last live h t =
    let P : List ℕ → Type 0 = λ xs. AreFree (map entry_of slots) xs in
    let f : AreFree (map entry_of slots) (last ∷ freed_from (length slots - (live + 1)) slots (freed_before (slice_index_or slots (last - 1) (Free 0)))) = subst P (first_freed slots last live h) t.sound.free in
    let len : length (map entry_of slots) ≡ length slots = length-map slots entry_of in
    let within : last ≤ length (map entry_of slots) = f.0.within in
    (f.0.given, omega arith)

-- an add at the index that was removed last
pub again_shown : {E : Type 0} (slots : List (Slot E)) (last live : ℕ) (entry : E) (slot : Slot E) (before : ℕ) → live < length slots → slot ≡ slice_index_or slots (last - 1) slot → before ≡ freed_before slot → IsTable (shown slots last live) live → shown (slice_set slots (last - 1) (Live entry)) before (live + 1) ≡ added entry (shown slots last live)
again_shown {E} slots last live entry slot before h is b t =
    let entries : List (Option E) = map entry_of slots in
    let more : ℕ = length slots - (live + 1) in
    let w : (1 ≤ last) × (last ≤ length slots) = first_within slots last live h t in
    let next : ℕ = freed_before (slice_index_or slots (last - 1) (Free 0)) in
    let first : freed_from (length slots - live) slots last ≡ last ∷ freed_from more slots next = first_freed slots last live h in
    let P : List ℕ → Type 0 = λ xs. AreFree entries xs in
    let f : AreFree entries (last ∷ freed_from more slots next) = subst P first t.sound.free in
    let read : slot ≡ slice_index_or slots (last - 1) (Free 0) = is ∙ get_or_default slots (last - 1) slot (Free 0) (omega (arith, w.0, w.1)) in
    let same : before ≡ next = b ∙ ap freed_before read in
    let written : List (Slot E) = slice_set slots (last - 1) (Live entry) in
    let long : length written ≡ length slots = length-set slots (last - 1) (Live entry) in
    let left : length written - (live + 1) ≡ length slots - (live + 1) = omega arith in
    let freed : freed_from (length written - (live + 1)) written before ≡ freed_from more slots next =
    ap (λ (n : ℕ). freed_from n written before) left
    ∙ ap (λ (k : ℕ). freed_from more written k) same
    ∙ freed_kept more slots entries next last (Live entry) f.2 f.1 w.0 in
    let Q : List ℕ → Type 0 = λ xs. shown written before (live + 1) ≡ added entry (record { entries = entries; freed = xs }) in
    subst Q (sym first) (same_record (map entry_of written) (with_slot entries last (Some entry)) (freed_from (length written - (live + 1)) written before) (freed_from more slots next) (entries_with slots last (Live entry) w.0) freed)

-- an add behind all slots
pub anew_shown : {E : Type 0} (slots later : List (Slot E)) (last live : ℕ) (entry : E) → live ≡ length slots → later ≡ slots ++ Live entry ∷ [] → shown later last (live + 1) ≡ added entry (shown slots last live)
anew_shown {E} slots later last live entry h l =
    let entries : List (Option E) = map entry_of slots in
    let long : length (slots ++ Live entry ∷ []) ≡ length slots + 1 = length-append slots (Live entry ∷ []) in
    let none : length slots - live ≡ zero = omega arith in
    let left : length (slots ++ Live entry ∷ []) - (live + 1) ≡ zero = omega arith in
    let before : freed_from (length slots - live) slots last ≡ [] = ap (λ (n : ℕ). freed_from n slots last) none in
    let after : freed_from (length (slots ++ Live entry ∷ []) - (live + 1)) (slots ++ Live entry ∷ []) last ≡ [] = ap (λ (n : ℕ). freed_from n (slots ++ Live entry ∷ []) last) left in
    let Q : List ℕ → Type 0 = λ xs. shown (slots ++ Live entry ∷ []) last (live + 1) ≡ added entry (record { entries = entries; freed = xs }) in
    let R : List (Slot E) → Type 0 = λ xs. shown xs last (live + 1) ≡ added entry (shown slots last live) in
    subst R (sym l) (subst Q (sym before) (same_record (map entry_of (slots ++ Live entry ∷ [])) (entries ++ Some entry ∷ []) (freed_from (length (slots ++ Live entry ∷ []) - (live + 1)) (slots ++ Live entry ∷ []) last) [] (map-append entry_of slots (Live entry ∷ [])) after))

-- the next index
pub next_anew : {E : Type 0} (slots : List (Slot E)) (last live : ℕ) → live ≡ length slots → freed_from (length slots - live) slots last ≡ []
next_anew slots last live h = let none : length slots - live ≡ zero = omega arith in ap (λ (n : ℕ). freed_from n slots last) none

-- a slot that is read
pub entry_read : {E : Type 0} (slots : List (Slot E)) (index : ℕ) (slot : Slot E) → 1 ≤ index → index ≤ length slots → slot ≡ slice_index_or slots (index - 1) slot → entry_of slot ≡ slot_at (map entry_of slots) index
entry_read {E} slots index slot g l e =
    let read : slot ≡ slice_index_or slots (index - 1) (Free 0) = e ∙ get_or_default slots (index - 1) slot (Free 0) (omega arith) in
    ap entry_of read ∙ sym (get_or-map entry_of slots (index - 1) (Free 0)) ∙ sym (slot_is (map entry_of slots) index g)

-- each keeps a table
pub removed_kept : {E : Type 0} (slots : List (Slot E)) (last live index : ℕ) → IsSome (slot_at (map entry_of slots) index) → IsTable (shown slots last live) live → IsTable (shown (slice_set slots (index - 1) (Free last)) index (live - 1)) (live - 1)
removed_kept {E} slots last live index some t =
    let P : Slots E → Type 0 = λ s. IsTable s (live - 1) in
    subst P (sym (removed_shown slots last live index some t)) (removed_table (shown slots last live) index live some t)

pub changed_kept : {E : Type 0} (slots : List (Slot E)) (last live index : ℕ) (now : E) → IsSome (slot_at (map entry_of slots) index) → IsTable (shown slots last live) live → IsTable (shown (slice_set slots (index - 1) (Live now)) last live) live
changed_kept {E} slots last live index now some t =
    let P : Slots E → Type 0 = λ s. IsTable s live in
    subst P (sym (changed_shown slots last live index now some t)) (changed_table (shown slots last live) index live now some t)

pub again_kept : {E : Type 0} (slots : List (Slot E)) (last live : ℕ) (entry : E) (slot : Slot E) (before : ℕ) → count (shown slots last live) < 65535 → live < length slots → slot ≡ slice_index_or slots (last - 1) slot → before ≡ freed_before slot → IsTable (shown slots last live) live → IsTable (shown (slice_set slots (last - 1) (Live entry)) before (live + 1)) (live + 1)
again_kept {E} slots last live entry slot before few h is b t =
    let P : Slots E → Type 0 = λ s. IsTable s (live + 1) in
    subst P (sym (again_shown slots last live entry slot before h is b t)) (added_table (shown slots last live) live entry few t)

pub anew_kept : {E : Type 0} (slots later : List (Slot E)) (last live : ℕ) (entry : E) → count (shown slots last live) < 65535 → live ≡ length slots → later ≡ slots ++ Live entry ∷ [] → IsTable (shown slots last live) live → IsTable (shown later last (live + 1)) (live + 1)
anew_kept {E} slots later last live entry few h l t =
    let P : Slots E → Type 0 = λ s. IsTable s (live + 1) in
    subst P (sym (anew_shown slots later last live entry h l)) (added_table (shown slots last live) live entry few t)

-- what is lent
pub write_shown : {E : Type 0} (slots : List (Slot E)) (last live index spare : ℕ) (now : E) → IsSome (slot_at (map entry_of slots) index) → IsTable (shown slots last live) live → (let a : TableState E = record { slots = shown (slice_set slots (index - 1) (Live now)) last live; spare = spare } in a) ≡ record { slots = with_entry index now (shown slots last live); spare = spare }
write_shown {E} slots last live index spare now some t =
    ap (λ (s : Slots E). (let a : TableState E = record { slots = s; spare = spare } in a)) (changed_shown slots last live index now some t)

-- the slot of a live index
pub live_place : {E : Type 0} (slots : List (Slot E)) (index : ℕ) → IsSome (slot_at (map entry_of slots) index) → (1 ≤ index) × (index ≤ length slots)
live_place slots index some =
    let w : (1 ≤ index) × (index ≤ length (map entry_of slots)) = live_within (map entry_of slots) index some in
    let len : length (map entry_of slots) ≡ length slots = length-map slots entry_of in
    (w.0, omega (arith, w.1))

-- an index is given where none is freed, and where one is
pub next_again : {E : Type 0} (slots : List (Slot E)) (last live : ℕ) → live < length slots → last ≡ next_of (shown slots last live)
next_again {E} slots last live h =
    let P : List ℕ → Type 0 = λ xs. last ≡ next_in xs (length (map entry_of slots)) in
    subst P (sym (first_freed slots last live h)) refl

pub next_new : {E : Type 0} (slots : List (Slot E)) (last live : ℕ) → live ≡ length slots → live + 1 ≡ next_of (shown slots last live)
next_new {E} slots last live h =
    let len : length (map entry_of slots) ≡ length slots = length-map slots entry_of in
    let P : List ℕ → Type 0 = λ xs. live + 1 ≡ next_in xs (length (map entry_of slots)) in
    let one : live + 1 ≡ length (map entry_of slots) + 1 = omega arith in
    subst P (sym (next_anew slots last live h)) one

-- a slot that is read at the place of an index
pub entry_at_place : {E : Type 0} (slots items : List (Slot E)) (place index : ℕ) (slot : Slot E) → slot ≡ slice_index_or slots place (Free 0) → slots ≡ items → (1 ≤ index) × (place ≡ index - 1) → entry_of slot ≡ slot_at (map entry_of items) index
entry_at_place {E} slots items place index slot e same w =
    ap entry_of (e ∙ ap (λ (xs : List (Slot E)). slice_index_or xs place (Free 0)) same ∙ ap (λ (k : ℕ). slice_index_or items k (Free 0)) w.1)
    ∙ sym (get_or-map entry_of items (index - 1) (Free 0))
    ∙ sym (slot_is (map entry_of items) index w.0)

-- the index that was removed last is one that can be given
pub again_limit : {E : Type 0} (slots : List (Slot E)) (last live : ℕ) → live < length slots → IsTable (shown slots last live) live → (1 ≤ last) × (last ≤ 65535)
again_limit slots last live h t =
    let w : (1 ≤ last) × (last ≤ length slots) = first_within slots last live h t in
    let len : length (map entry_of slots) ≡ length slots = length-map slots entry_of in
    let small : length (map entry_of slots) ≤ 65535 = t.sound.small in
    (w.0, omega (arith, w.1))

-- what is said of something that is there
pub of_some : {E : Type 0} (o : Option E) (P Q : Type 0) → IsSome o → Q → MatchOption o P (λ _. Q)
of_some None P Q h q = cc
of_some (Some entry) P Q h q = q
