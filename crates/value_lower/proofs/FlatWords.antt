-- Core values of values by their parts, and how many they are.
use Rattle.std.proofs.Common.{◌≡◌, ◌∙◌, ◌+◌, ◌<◌, ◌≤◌, ℕ, zero, suc, true, List, [], ◌∷◌, map, length, drop, get_or, Option, Some, None, refl, ap, sym, arith, inl, inr, length-append}
use Rattle.std.specs.List.{slice_get}
use Rattle.std.specs.Option.{option_and_then}
use Rattle.std.proofs.lemmas.List.{drop_all}
use Rattle.std.proofs.lemmas.Bool.{cases_lt}
use Rattle.syntax_trees.specs.declared.core_type.CoreType.{CoreType}
use Rattle.syntax_trees.specs.declared.types.ValType.{ValType, out-ValType}
use Rattle.syntax_trees.specs.declared.types.ValType.TheOpen as F
use Rattle.syntax_trees.specs.declared.value.Value.{Value}
use Rattle.syntax_trees.specs.declared.value.Value.TheOpen as V
use Rattle.syntax_trees.specs.Flat.{flat, joined_lists, joined_all, all_of}
use Rattle.laid_types.specs.Parts.{parts_of, parts_case}
use Rattle.laid_types.specs.Gathered.{flats, flat_over}
use Rattle.laid_types.proofs.ByParts.{flat_by_parts}
use Rattle.value_lower.specs.Plan.{New, Plan}
use Rattle.value_lower.specs.Storing.{field_words}
use Rattle.value_lower.specs.Entering.{lowered, flat_words}
use Rattle.value_lower.specs.Fitting.{FewParts}
use Rattle.value_lower.proofs.Lists.{part_there, part_absent}
use Rattle.value_lower.proofs.Plans.{behind}
use Rattle.value_lower.proofs.Fitted.{Layer, tests_in, passes}

-- The core values of a part are no more than those of the whole.
in_joined : (ts us : List CoreType) → (length ts ≤ length (joined_lists ts us)) × (length us ≤ length (joined_lists ts us))
in_joined [] us = (omega arith, omega arith)
in_joined (t ∷ ts) [] = (omega arith, omega arith)
in_joined (t ∷ ts) (u ∷ us) =
    let h = in_joined ts us in
    (omega (arith, h.0), omega (arith, h.1))

of_all : (types : List (Option ValType)) (n : ℕ) (p : ValType) → option_and_then (λ part. part) (slice_get types n) ≡ Some p → length (flat p) ≤ length (all_of (flats types))
of_all [] n p h = cc
of_all (None ∷ types) zero p h = cc
of_all (Some t ∷ types) zero p h =
    let e : t ≡ p = cc in
    let f : length (flat t) ≡ length (flat p) = ap (λ (t : ValType). length (flat t)) e in
    omega (arith, f, length-append (flat t) (all_of (flats types)))
of_all (None ∷ types) (suc n) p h = of_all types n p h
of_all (Some t ∷ types) (suc n) p h = omega (arith, of_all types n p h, length-append (flat t) (all_of (flats types)))

pub of_joined : (types : List (Option ValType)) (n : ℕ) (p : ValType) → option_and_then (λ part. part) (slice_get types n) ≡ Some p → length (flat p) ≤ length (joined_all (flats types))
of_joined [] n p h = cc
of_joined (None ∷ types) zero p h = cc
of_joined (Some t ∷ types) zero p h =
    let e : t ≡ p = cc in
    let f : length (flat t) ≡ length (flat p) = ap (λ (t : ValType). length (flat t)) e in
    let j = in_joined (flat t) (joined_all (flats types)) in
    omega (arith, f, j.0)
of_joined (None ∷ types) (suc n) p h = of_joined types n p h
of_joined (Some t ∷ types) (suc n) p h =
    let j = in_joined (flat t) (joined_all (flats types)) in
    omega (arith, of_joined types n p h, j.1)

row_words : (y : Layer) (all : List Value) (n : ℕ) (p : ValType) → passes (tests_in y) (V.Record all) ≡ true → option_and_then (λ part. part) (slice_get (parts_case y) n) ≡ Some p
    → length (flat p) ≤ length (flat_over y (flats (parts_case y)))
row_words (F.Record fields) all n p h i = of_all (parts_case (F.Record fields)) n p i
row_words (F.Tuple parts) all n p h i = of_all (parts_case (F.Tuple parts)) n p i
row_words other all n p h i = cc

case_words : (y : Layer) (m : ℕ) (payload : Option Value) (n : ℕ) (p : ValType) → passes (tests_in y) (V.Variant m payload) ≡ true
    → option_and_then (λ part. part) (slice_get (parts_case y) n) ≡ Some p → length (flat p) ≤ length (flat_over y (flats (parts_case y)))
case_words (F.Variant cases) m payload n p h i = omega (arith, of_joined (parts_case (F.Variant cases)) n p i)
case_words (F.Enum labels) m payload n p h i = cc
case_words (F.Option part) m payload n p h i = omega (arith, of_joined (parts_case (F.Option part)) n p i)
case_words (F.Result ok err) m payload n p h i = omega (arith, of_joined (ok ∷ err ∷ []) n p i)
case_words other m payload n p h i = cc

count_is : (t : ValType) → length (flat_over (out-ValType t) (flats (parts_of t))) ≡ length (flat t)
count_is t = ap (λ (ts : List CoreType). length ts) (sym (flat_by_parts t))

pub few_fields : (t : ValType) (all : List Value) → passes (tests_in (out-ValType t)) (V.Record all) ≡ true → length (flat t) ≤ 16 → FewParts t
few_fields t all h m = λ n p i. omega (arith, row_words (out-ValType t) all n p h i, count_is t, m)

pub few_payloads : (t : ValType) (m : ℕ) (payload : Option Value) → passes (tests_in (out-ValType t)) (V.Variant m payload) ≡ true → length (flat t) ≤ 16 → FewParts t
few_payloads t m payload h l = λ n p i. omega (arith, case_words (out-ValType t) m payload n p h i, count_is t, l)

-- Fields.
no_words : (types : List (Option ValType)) (before : List ℕ) (k : List ℕ → Plan) → field_words types [] before k ≡ k before
no_words [] before k = refl
no_words (t ∷ types) before k = refl

module _ (enter : New → (ℕ → Plan) → Plan) where
  -- Fields.
  abbrev pub words_left : ℕ → List (Option ValType) → List Value → List ℕ → (List ℕ → Plan) → Plan
  words_left n types all before k = field_words (drop n types) (map (lowered enter) (drop n all)) before k

  pub words_one : (n : ℕ) (types : List (Option ValType)) (all : List Value) (t : ValType) (d : Value) (before : List ℕ) (k : List ℕ → Plan) → option_and_then (λ part. part) (slice_get types n) ≡ Some t
      → n < length all → d ≡ get_or all n d → words_left n types all before k ≡ flat_words enter t d before (λ words. words_left (n + 1) types all words k)
  words_one n types all t d before k h low e =
      ap (λ (ts : List (Option ValType)). field_words ts (map (lowered enter) (drop n all)) before k) (part_there types n t h)
      ∙ ap (λ (vs : List Value). field_words (Some t ∷ drop (n + 1) types) (map (lowered enter) vs) before k) (behind all n d low e)

  pub words_none : (n : ℕ) (types : List (Option ValType)) (all : List Value) (d : Value) (before : List ℕ) (k : List ℕ → Plan) → option_and_then (λ part. part) (slice_get types n) ≡ None
      → n < length all → d ≡ get_or all n d → words_left n types all before k ≡ words_left (n + 1) types all before k
  words_none n types all d before k h low e =
      elim (cases_lt n (length types)) [
        | inl there ↦
            ap (λ (ts : List (Option ValType)). field_words ts (map (lowered enter) (drop n all)) before k) (part_absent types n there h)
            ∙ ap (λ (vs : List Value). field_words (None ∷ drop (n + 1) types) (map (lowered enter) vs) before k) (behind all n d low e)
        | inr past ↦
            ap (λ (ts : List (Option ValType)). field_words ts (map (lowered enter) (drop n all)) before k) (drop_all n types past)
            ∙ sym (ap (λ (ts : List (Option ValType)). field_words ts (map (lowered enter) (drop (n + 1) all)) before k) (drop_all (n + 1) types (omega arith)))
      ]

  pub words_done : (n : ℕ) (types : List (Option ValType)) (all : List Value) (before : List ℕ) (k : List ℕ → Plan) → length all ≤ n → words_left n types all before k ≡ k before
  words_done n types all before k h =
      ap (λ (vs : List Value). field_words (drop n types) (map (lowered enter) vs) before k) (drop_all n all h) ∙ no_words (drop n types) before k
