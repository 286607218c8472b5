-- Plans of values by their parts.
use Rattle.std.proofs.Common.{◌≡◌, ◌∙◌, ◌+◌, ◌*◌, ◌^◌, ◌<◌, ◌≤◌, ◌&&◌, min, ℕ, zero, suc, List, [], ◌∷◌, map, length, drop, get_or, Option, Some, None, refl, ap, sym, arith, inl, inr, suc-mul, zero-mul}
use Rattle.std.specs.Prelude.{nat_lt}
use Rattle.std.specs.List.{slice_get}
use Rattle.std.specs.Option.{option_and_then, option_map}
use Rattle.std.proofs.Math.Seq.{drop-cons}
use Rattle.std.proofs.lemmas.List.{length-map, drop_all}
use Rattle.std.proofs.lemmas.Bool.{cond-false, le-ltb, and_right, cases_lt}
use Rattle.syntax_trees.specs.declared.types.ValType.{ValType}
use Rattle.syntax_trees.specs.declared.value.Value.{Value}
use Rattle.laid_types.specs.Layout.{laid, aligned, tag_size}
use Rattle.laid_types.specs.Parts.{part_at, case_count, payload_place}
use Rattle.value_lower.specs.declared.ends.LowerWhy.TheVariants.{Bounds}
use Rattle.value_lower.specs.Plan.{New, Plan, Fails, Put}
use Rattle.value_lower.specs.Storing.{asked, elements_from, list_in, fields_from, payload_at, case_from, number_bytes}
use Rattle.value_lower.specs.Entering.{lowered, store}
use Rattle.value_lower.specs.Fitting.{HasBytes, end_behind}
use Rattle.value_lower.proofs.Lists.{part_there, part_absent}
use Rattle.value_lower.proofs.Bytes.{end_up}

-- What is asked for, where a size is limited.
too_large : (count align size : ℕ) (k : ℕ → Plan) → 2 ^ 32 ≤ size → asked count align size k ≡ Fails Bounds
too_large count align size k h = cond-false (nat_lt count (2 ^ 32) && nat_lt size (2 ^ 32)) _ _ (and_right (nat_lt count (2 ^ 32)) (nat_lt size (2 ^ 32)) (le-ltb size (2 ^ 32) h))

at_least_one : (k n : ℕ) → n ≤ suc k * n
at_least_one k n = rw suc-mul (omega arith)

large_items : (count align size : ℕ) (k : ℕ → Plan) → 2 ^ 64 < size → asked count align (count * size) k ≡ asked count align (count * 2 ^ 64) k
large_items zero align size k h = rw (zero-mul, zero-mul) refl
large_items (suc n) align size k h =
    let one : size ≤ suc n * size = at_least_one n size in
    let other : 2 ^ 64 ≤ suc n * 2 ^ 64 = at_least_one n (2 ^ 64) in
    too_large (suc n) align (suc n * size) k (omega arith) ∙ sym (too_large (suc n) align (suc n * 2 ^ 64) k (omega arith))

pub asked_limited : (count align size : ℕ) (k : ℕ → Plan) → asked count align (count * size) k ≡ asked count align (count * min size (2 ^ 64)) k
asked_limited count align size k =
    elim (cases_lt (2 ^ 64) size) [
      | inl past ↦
          let e : 2 ^ 64 ≡ min size (2 ^ 64) = omega arith in
          large_items count align size k past ∙ ap (λ (n : ℕ). asked count align (count * n) k) e
      | inr low ↦
          let e : size ≡ min size (2 ^ 64) = omega arith in
          ap (λ (n : ℕ). asked count align (count * n) k) e
    ]

pub asked_once : (align size : ℕ) (k : ℕ → Plan) → asked 1 align size k ≡ asked 1 align (min size (2 ^ 64)) k
asked_once align size k =
    elim (cases_lt (2 ^ 64) size) [
      | inl past ↦ too_large 1 align size k (omega arith) ∙ sym (too_large 1 align (min size (2 ^ 64)) k (omega arith))
      | inr low ↦
          let e : size ≡ min size (2 ^ 64) = omega arith in
          ap (λ (n : ℕ). asked 1 align n k) e
    ]

-- one item and those behind it
pub behind : {A : Type 0} (all : List A) (n : ℕ) (d : A) → n < length all → d ≡ get_or all n d → drop n all ≡ d ∷ drop (n + 1) all
behind {A} all n d h e =
    let s : suc n ≡ n + 1 = omega arith in
    drop-cons all n d h ∙ ap (λ (x : A). x ∷ drop (suc n) all) (sym e) ∙ ap (λ (k : ℕ). d ∷ drop k all) s

pub got : {A : Type 0} (all : List A) (n : ℕ) (d : A) → n < length all → d ≡ get_or all n d → slice_get all n ≡ Some d
got [] n d h e = absurd (omega arith)
got {A} (x ∷ all) zero d h e = ap (λ (y : A). Some y) (sym e)
got (x ∷ all) (suc n) d h e = got all n d (omega arith) e

-- Fields.
no_values : (place end : ℕ) (types : List (Option ValType)) (k : Plan) → fields_from place end types [] k ≡ k
no_values place end [] k = refl
no_values place end (t ∷ types) k = refl

pub none_behind : (end n : ℕ) (types : List (Option ValType)) → option_and_then (λ part. part) (slice_get types n) ≡ None → end_behind end (drop n types) ≡ end_behind end (drop (n + 1) types)
none_behind end n types h =
    elim (cases_lt n (length types)) [
      | inl there ↦ ap (end_behind end) (part_absent types n there h)
      | inr past ↦ ap (end_behind end) (drop_all n types past) ∙ sym (ap (end_behind end) (drop_all (n + 1) types (omega arith)))
    ]

-- a field with its place and its bytes, and what is behind it
pub record FieldAt (place end there n : ℕ) (types : List (Option ValType)) (t : ValType) (start : ℕ) : Type 0 where
  pub start_is : start ≡ aligned end (laid t).align
  pub bytes : HasBytes (place + start) (laid t).size there
  pub next : end_behind end (drop n types) ≡ end_behind (start + (laid t).size) (drop (n + 1) types)

pub field_at : (place end there n : ℕ) (types : List (Option ValType)) (t : ValType) (align from start : ℕ) → option_and_then (λ part. part) (slice_get types n) ≡ Some t
    → HasBytes place (end_behind end (drop n types)) there → align ≡ (laid t).align → from ≡ end → start ≡ aligned from align → FieldAt place end there n types t start
field_at place end there n types t align from start h b a f s =
    let is : start ≡ aligned end (laid t).align = s ∙ ap (λ (k : ℕ). aligned k align) f ∙ ap (λ (k : ℕ). aligned end k) a in
    let next : end_behind end (drop n types) ≡ end_behind (start + (laid t).size) (drop (n + 1) types) =
    ap (end_behind end) (part_there types n t h) ∙ ap (λ (k : ℕ). end_behind (k + (laid t).size) (drop (n + 1) types)) (sym is) in
    let up : start + (laid t).size ≤ end_behind (start + (laid t).size) (drop (n + 1) types) = end_up (drop (n + 1) types) (start + (laid t).size) in
    record {
      start_is = is;
      bytes = record { inside = omega (arith, next, up, b.inside); reach = omega (arith, next, up, b.reach) };
      next = next;
    }

-- some of the bytes
pub fewer : (place size less there : ℕ) → less ≤ size → HasBytes place size there → HasBytes place less there
fewer place size less there h b = record { inside = omega (arith, b.inside); reach = omega (arith, b.reach) }

-- the size of several items, where the size of one is limited
pub all_limited : (count size : ℕ) → count * min size (2 ^ 64) ≤ 2 ^ 32 → count * size ≡ count * min size (2 ^ 64)
all_limited zero size h = rw (zero-mul, zero-mul) refl
all_limited (suc n) size h =
    elim (cases_lt (2 ^ 64) size) [
      | inl past ↦
          let one : min size (2 ^ 64) ≤ suc n * min size (2 ^ 64) = at_least_one n (min size (2 ^ 64)) in
          absurd (omega (arith, one))
      | inr low ↦
          let e : size ≡ min size (2 ^ 64) = omega arith in
          ap (λ (m : ℕ). suc n * m) e
    ]

module _ (enter : New → (ℕ → Plan) → Plan) where
  -- A list of a type with a part.
  abbrev pub elements_at : ValType → List Value → (ℕ → Plan) → ℕ → Plan
  elements_at e all k place = elements_from e place (map (lowered enter) all) (k place)

  pub list_asked : (o : Option ValType) (e : ValType) (all : List Value) (align size : ℕ) (k : ℕ → Plan) → o ≡ Some e → align ≡ (laid e).align → size ≡ min (laid e).size (2 ^ 64)
      → list_in o (map (lowered enter) all) k ≡ asked (length all) align (length all * size) (elements_at e all k)
  list_asked o e all align size k h a s =
      ap (λ (o : Option ValType). list_in o (map (lowered enter) all) k) h
      ∙ ap (λ (n : ℕ). asked n (laid e).align (n * (laid e).size) (elements_at e all k)) (length-map all (lowered enter))
      ∙ asked_limited (length all) (laid e).align (laid e).size (elements_at e all k)
      ∙ ap (λ (n : ℕ). asked (length all) n (length all * min (laid e).size (2 ^ 64)) (elements_at e all k)) (sym a)
      ∙ ap (λ (n : ℕ). asked (length all) align (length all * n) (elements_at e all k)) (sym s)

  pub elements_one : (e : ValType) (place n : ℕ) (all : List Value) (d : Value) (k : Plan) → n < length all → d ≡ get_or all n d
      → elements_from e place (map (lowered enter) (drop n all)) k ≡ store enter e d place (elements_from e (place + (laid e).size) (map (lowered enter) (drop (n + 1) all)) k)
  elements_one e place n all d k h i = ap (λ (vs : List Value). elements_from e place (map (lowered enter) vs) k) (behind all n d h i)

  -- Fields.
  abbrev pub fields_left : ℕ → ℕ → ℕ → List (Option ValType) → List Value → Plan → Plan
  fields_left place end n types all k = fields_from place end (drop n types) (map (lowered enter) (drop n all)) k

  pub fields_one : (place end n : ℕ) (types : List (Option ValType)) (all : List Value) (t : ValType) (d : Value) (k : Plan) → option_and_then (λ part. part) (slice_get types n) ≡ Some t
      → n < length all → d ≡ get_or all n d
      → fields_left place end n types all k ≡ store enter t d (place + aligned end (laid t).align) (fields_left place (aligned end (laid t).align + (laid t).size) (n + 1) types all k)
  fields_one place end n types all t d k h low e =
      ap (λ (ts : List (Option ValType)). fields_from place end ts (map (lowered enter) (drop n all)) k) (part_there types n t h)
      ∙ ap (λ (vs : List Value). fields_from place end (Some t ∷ drop (n + 1) types) (map (lowered enter) vs) k) (behind all n d low e)

  pub fields_none : (place end n : ℕ) (types : List (Option ValType)) (all : List Value) (d : Value) (k : Plan) → option_and_then (λ part. part) (slice_get types n) ≡ None
      → n < length all → d ≡ get_or all n d → fields_left place end n types all k ≡ fields_left place end (n + 1) types all k
  fields_none place end n types all d k h low e =
      elim (cases_lt n (length types)) [
        | inl there ↦
            ap (λ (ts : List (Option ValType)). fields_from place end ts (map (lowered enter) (drop n all)) k) (part_absent types n there h)
            ∙ ap (λ (vs : List Value). fields_from place end (None ∷ drop (n + 1) types) (map (lowered enter) vs) k) (behind all n d low e)
        | inr past ↦
            ap (λ (ts : List (Option ValType)). fields_from place end ts (map (lowered enter) (drop n all)) k) (drop_all n types past)
            ∙ sym (ap (λ (ts : List (Option ValType)). fields_from place end ts (map (lowered enter) (drop (n + 1) all)) k) (drop_all (n + 1) types (omega arith)))
      ]

  pub fields_done : (place end n : ℕ) (types : List (Option ValType)) (all : List Value) (k : Plan) → length all ≤ n → fields_left place end n types all k ≡ k
  fields_done place end n types all k h =
      ap (λ (vs : List Value). fields_from place end (drop n types) (map (lowered enter) vs) k) (drop_all n all h) ∙ no_values place end (drop n types) k

  -- A case with a payload.
  pub case_plan : (t : ValType) (n : ℕ) (o : Option Value) (v : Value) (p : ValType) (place size after : ℕ) (k : Plan) → o ≡ Some v → part_at t n ≡ Some p → size ≡ tag_size (case_count t)
      → after ≡ payload_place t → case_from t n (option_map (lowered enter) o) place k ≡ Put place (number_bytes size n) (store enter p v (place + after) k)
  case_plan t n o v p place size after k h i s f =
      ap (λ (x : Option Value). case_from t n (option_map (lowered enter) x) place k) h
      ∙ ap (λ (x : Option ValType). Put place (number_bytes (tag_size (case_count t)) n) (payload_at x (Some (lowered enter v)) (place + payload_place t) k)) i
      ∙ ap (λ (m : ℕ). Put place (number_bytes m n) (store enter p v (place + payload_place t) k)) (sym s)
      ∙ ap (λ (m : ℕ). Put place (number_bytes size n) (store enter p v (place + m) k)) (sym f)
