-- Slots by their indices.
use Rattle.std.proofs.Common.{◌≡◌, ◌≢◌, ℕ, zero, suc, ◌+◌, ◌-◌, ◌<◌, ◌≤◌, sym, ap, refl, ◌∙◌, arith, Bool, if◌then◌else◌, List, [], ◌∷◌, ◌++◌, length, slice_index_or, slice_set, Option, Some, None, is_some, length-set, inl, inr}
use Rattle.std.proofs.lemmas.Bool.{cases_lt}
use Rattle.std.specs.List.{count_by, sum_by}
use Rattle.std.proofs.lemmas.List.{get_or-set_same, get_or-set_other, get_or_append_left, get_or_past}
use Rattle.std.proofs.lemmas.List.Sums.{sum_by-append, sum_by-cons, sum_by-set}
use Rattle.handle_table.specs.Slots.{slot_at, with_slot}

abbrev pub one_if : Bool → ℕ
one_if b = if b then 1 else 0

-- an index and its place
pub slot_is : {E : Type 0} (entries : List (Option E)) (index : ℕ) → 1 ≤ index → slot_at entries index ≡ slice_index_or entries (index - 1) None
slot_is entries zero h = absurd (omega arith)
slot_is entries (suc place) h = ap (λ (k : ℕ). slice_index_or entries k None) (omega arith)

pub with_slot_is : {E : Type 0} (entries : List (Option E)) (index : ℕ) (slot : Option E) → 1 ≤ index → with_slot entries index slot ≡ slice_set entries (index - 1) slot
with_slot_is entries zero slot h = absurd (omega arith)
with_slot_is entries (suc place) slot h = ap (λ (k : ℕ). slice_set entries k slot) (omega arith)

-- a write
pub same_slot : {E : Type 0} (entries : List (Option E)) (index : ℕ) (slot : Option E) → 1 ≤ index → index ≤ length entries → slot_at (with_slot entries index slot) index ≡ slot
same_slot entries zero slot h l = absurd (omega arith)
same_slot entries (suc place) slot h l = get_or-set_same entries place slot None (omega arith)

pub other_slot : {E : Type 0} (entries : List (Option E)) (index other : ℕ) (slot : Option E) → other ≢ index → slot_at (with_slot entries index slot) other ≡ slot_at entries other
other_slot entries zero other slot h = refl
other_slot entries (suc place) zero slot h = refl
other_slot entries (suc place) (suc k) slot h = get_or-set_other entries place k slot None (λ e. h (ap suc e))

pub length_with : {E : Type 0} (entries : List (Option E)) (index : ℕ) (slot : Option E) → length (with_slot entries index slot) ≡ length entries
length_with entries zero slot = refl
length_with entries (suc place) slot = length-set entries place slot

pub count_with : {E : Type 0} (entries : List (Option E)) (index : ℕ) (slot : Option E) → 1 ≤ index → index ≤ length entries → count_by is_some (with_slot entries index slot) + one_if (is_some (slot_at entries index)) ≡ count_by is_some entries + one_if (is_some slot)
count_with entries zero slot h l = absurd (omega arith)
count_with {E} entries (suc place) slot h l = sum_by-set (λ (x : Option E). one_if (is_some x)) entries place slot None (omega arith)

-- a slot behind the others
pub count_push : {E : Type 0} (entries : List (Option E)) (slot : Option E) → count_by is_some (entries ++ slot ∷ []) ≡ count_by is_some entries + one_if (is_some slot)
count_push {E} entries slot =
    let p : Option E → ℕ = λ (x : Option E). one_if (is_some x) in
    let e : sum_by p (entries ++ slot ∷ []) ≡ sum_by p entries + sum_by p (slot ∷ []) = sum_by-append p entries (slot ∷ []) in
    let f : sum_by p (slot ∷ []) ≡ one_if (is_some slot) + 0 = sum_by-cons p slot [] in
    omega (arith, e, f)

pub slot_before : {E : Type 0} (entries : List (Option E)) (slot : Option E) (index : ℕ) → index ≤ length entries → slot_at (entries ++ slot ∷ []) index ≡ slot_at entries index
slot_before entries slot zero h = refl
slot_before entries slot (suc place) h = get_or_append_left entries (slot ∷ []) None place (omega arith)

-- a slot that was never given is empty
pub slot_past : {E : Type 0} (entries : List (Option E)) (index : ℕ) → length entries < index → slot_at entries index ≡ None
slot_past entries zero h = refl
slot_past entries (suc place) h = get_or_past entries place None (omega arith)

pub some_is_none : {E : Type 0} (entry : E) → ◌≡◌ {A = Option E} (Some entry) None → ⊥
some_is_none entry e = cc

-- a slot that has an entry is within
pub full_within : {E : Type 0} (entries : List (Option E)) (index : ℕ) (entry : E) → slot_at entries index ≡ Some entry → (1 ≤ index) × (index ≤ length entries)
full_within entries zero entry h = cc
full_within entries (suc place) entry h = elim (cases_lt (length entries) (suc place)) [ inl g ↦ (let none : slot_at entries (suc place) ≡ None = slot_past entries (suc place) g in absurd (some_is_none entry (sym h ∙ none))) | inr l ↦ (omega arith, l) ]
