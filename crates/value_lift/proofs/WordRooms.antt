-- The core values of parts are among those of the whole.
use Rattle.std.proofs.Common.{◌≡◌, ◌∙◌, ◌≤◌, ◌+◌, ℕ, zero, suc, max, List, [], ◌∷◌, ◌++◌, length, map, take, Option, Some, None, refl, ap, sym, arith, length-append, length-take}
use Rattle.std.specs.List.{slice_get}
use Rattle.std.specs.Option.{option_and_then}
use Rattle.syntax_trees.specs.declared.core_type.CoreType.{CoreType}
use Rattle.syntax_trees.specs.declared.types.ValType.{ValType, out-ValType}
use Rattle.syntax_trees.specs.declared.types.Case.{Case}
use Rattle.syntax_trees.specs.declared.types.Field.{Field}
use Rattle.syntax_trees.specs.declared.types.ValType.TheOpen as F
use Rattle.syntax_trees.specs.Flat.{flat, flat_step, flat_payload, held_flat, all_of, joined_lists, joined_all}
use Rattle.syntax_trees.proofs.Folds.{held}
use Rattle.laid_types.specs.Parts.{parts_of, parts_case}
use Rattle.value_lift.specs.Room.{words_behind, HasCaseWords}
use Rattle.value_lift.proofs.Equations.{flats_in, flat_is}
use Rattle.value_lift.proofs.Forms.{IsRow, HasCases}

-- Records.
fields_end : (fields : List Field) (at : ℕ) → words_behind at (map (λ (f : Field). Some f.val_type) fields) ≡ at + length (all_of (map (λ (f : Field). flat f.val_type) fields))
fields_end [] at = omega arith
fields_end (f ∷ fields) at =
    let e : length (flat f.val_type ++ all_of (map (λ (f : Field). flat f.val_type) fields)) ≡ length (flat f.val_type) + length (all_of (map (λ (f : Field). flat f.val_type) fields)) =
    length-append (flat f.val_type) (all_of (map (λ (f : Field). flat f.val_type) fields)) in
    omega (arith, e, fields_end fields (at + length (flat f.val_type)))

places_end : (types : List ValType) (at : ℕ) → words_behind at (map Some types) ≡ at + length (all_of (map flat types))
places_end [] at = omega arith
places_end (t ∷ types) at =
    let e : length (flat t ++ all_of (map flat types)) ≡ length (flat t) + length (all_of (map flat types)) = length-append (flat t) (all_of (map flat types)) in
    omega (arith, e, places_end types (at + length (flat t)))

row_words_in : (y : F.ValType-F ValType Case Field) (at : ℕ) → IsRow y → words_behind at (parts_case y) ≡ at + length (flat_step (flats_in y))
row_words_in (F.Record fields) at h = fields_end fields at
row_words_in (F.Tuple types) at h = places_end types at
row_words_in other at h = absurd h

pub row_words_room : (t : ValType) (at : ℕ) → IsRow (out-ValType t) → words_behind at (parts_of t) ≡ at + length (flat t)
row_words_room t at h = row_words_in (out-ValType t) at h ∙ ap (λ (l : List CoreType). at + length l) (sym (flat_is t))

-- parts end no earlier than they begin
pub words_up : (types : List (Option ValType)) (at : ℕ) → at ≤ words_behind at types
words_up [] at = omega arith
words_up (None ∷ types) at = words_up types at
words_up (Some t ∷ types) at = omega (arith, words_up types (at + length (flat t)))

-- Cases.
joined_length : (ts us : List CoreType) → length (joined_lists ts us) ≡ max (length ts) (length us)
joined_length [] us = omega arith
joined_length (t ∷ ts) [] = omega arith
joined_length (t ∷ ts) (u ∷ us) = omega (arith, joined_length ts us)

longest : (types : List (Option ValType)) (n : ℕ) (p : ValType) → option_and_then (λ part. part) (slice_get types n) ≡ Some p
    → length (flat p) ≤ length (joined_all (map flat_payload types))
longest [] n p h = cc
longest (t ∷ types) zero p h =
    let e : length (flat_payload t) ≡ length (flat p) = ap (λ (o : Option ValType). length (flat_payload o)) h in
    omega (arith, e, joined_length (flat_payload t) (joined_all (map flat_payload types)))
longest (t ∷ types) (suc n) p h =
    omega (arith, longest types n p h, joined_length (flat_payload t) (joined_all (map flat_payload types)))

payload_flat : (p : Option ValType) → held_flat (held flat p) ≡ flat_payload p
payload_flat (Some p) = refl
payload_flat None = refl

pub cases_flat : (cases : List Case) → map (λ (c : Case). held_flat (held flat c.payload)) cases ≡ map flat_payload (map (λ (c : Case). c.payload) cases)
cases_flat [] = refl
cases_flat (c ∷ cases) =
    ap (λ (l : List CoreType). l ∷ map (λ (c : Case). held_flat (held flat c.payload)) cases) (payload_flat c.payload)
    ∙ ap (λ (ls : List (List CoreType)). flat_payload c.payload ∷ ls) (cases_flat cases)

one_length : (ts : List CoreType) → length ts ≡ length (joined_lists ts [])
one_length ts = omega (arith, joined_length ts [])

two_length : (ts us : List CoreType) → length (joined_lists ts us) ≡ length (joined_lists ts (joined_lists us []))
two_length ts us = omega (arith, joined_length ts us, joined_length ts (joined_lists us []), joined_length us [])

cases_words_in : (y : F.ValType-F ValType Case Field) → HasCases y → length (flat_step (flats_in y)) ≡ suc (length (joined_all (map flat_payload (parts_case y))))
cases_words_in (F.Variant cases) h = ap (λ (ls : List (List CoreType)). suc (length (joined_all ls))) (cases_flat cases)
cases_words_in (F.Enum labels) h = refl
cases_words_in (F.Option p) h = ap suc (one_length (flat p))
cases_words_in (F.Result None None) h = ap suc (two_length [] [])
cases_words_in (F.Result None (Some e)) h = ap suc (two_length [] (flat e))
cases_words_in (F.Result (Some o) None) h = ap suc (two_length (flat o) [])
cases_words_in (F.Result (Some o) (Some e)) h = ap suc (two_length (flat o) (flat e))
cases_words_in other h = absurd h

flat_length : (t : ValType) → HasCases (out-ValType t) → length (flat t) ≡ suc (length (joined_all (map flat_payload (parts_of t))))
flat_length t h = ap (λ (l : List CoreType). length l) (flat_is t) ∙ cases_words_in (out-ValType t) h

pub case_words_room : (t : ValType) (at : ℕ) (words : List ℕ) → HasCases (out-ValType t) → at + length (flat t) ≤ length words → HasCaseWords t at words
case_words_room t at words h i = record {
  tag = omega (arith, flat_length t h);
  payload = λ n p e. omega (arith, flat_length t h, longest (parts_of t) n p e);
}

-- the first 17 of at most 16 core types are all
pub few_taken : (ts : List CoreType) → length ts ≤ 16 → length (take 17 ts) ≡ length ts
few_taken ts h = omega (arith, length-take 17 ts)
