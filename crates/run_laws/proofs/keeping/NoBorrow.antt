-- A value of a type that holds no borrow holds none.
use Rattle.std.proofs.Common.{◌≡◌, ◌∙◌, ◌+◌, ℕ, zero, suc, Bool, true, false, ◌||◌, if◌then◌else◌, List, [], ◌∷◌, map, Option, Some, None, refl, sym, ap, subst, arith, rules}
use Rattle.std.specs.Prelude.{IsSome}
use Rattle.std.specs.List.{slice_get}
use Rattle.std.specs.Option.{option_and_then}
use Rattle.syntax_trees.specs.declared.types.ValType.{ValType, out-ValType}
use Rattle.syntax_trees.specs.declared.types.Case.{Case}
use Rattle.syntax_trees.specs.declared.types.Field.{Field}
use Rattle.syntax_trees.specs.declared.types.ValType.TheOpen as F
use Rattle.syntax_trees.specs.declared.value.Value.{Value, out-Value}
use Rattle.syntax_trees.specs.declared.value.Handle.{Handle}
use Rattle.syntax_trees.specs.declared.value.Value.TheOpen as V
use Rattle.syntax_trees.specs.declared.value.Value.TheViews.{the_lemmas, roll-Value}
use Rattle.syntax_trees.specs.declared.value.Value.TheFolds.{map-Value, ind-Value, fold-roll-Value}
use Rattle.syntax_trees.specs.Ends.{some_true}
use Rattle.syntax_trees.specs.Fits.{fits}
use Rattle.laid_types.specs.Parts.{parts_of, parts_case, part_at}
use Rattle.laid_types.specs.Handles.{has_borrow, held_borrow}
use Rattle.laid_types.specs.Gathered.{borrows, borrow_over}
use Rattle.laid_types.proofs.HeldByParts.{borrow_by_parts}
use Rattle.res_handles.specs.Calls.{is_defined}
use Rattle.value_lower.proofs.Fitted.{Layer, tests_in, passes, by_layers, element_fits, payload_fits}
use Rattle.run_laws.proofs.keeping.Planned.{total, borrow_steps, borrow_count, Row, row_fits, payload_there}

-- No part holds one.
abbrev Free : List (Option ValType) → Type 0
Free parts = some_true (borrows parts) ≡ false

neither_left : (a b : Bool) → (a || b) ≡ false → a ≡ false
neither_left true b e = absurd (cc)
neither_left false b e = refl

neither_right : (a b : Bool) → (a || b) ≡ false → b ≡ false
neither_right true b e = absurd (cc)
neither_right false b e = e

free_at : (parts : List (Option ValType)) (n : ℕ) (u : ValType) → Free parts → option_and_then (λ part. part) (slice_get parts n) ≡ Some u → has_borrow u ≡ false
free_at [] n u free is = absurd (cc)
free_at (o ∷ parts) zero u free is = ap held_borrow (sym is) ∙ neither_left (held_borrow o) (some_true (borrows parts)) free
free_at (o ∷ parts) (suc n) u free is = free_at parts n u (neither_right (held_borrow o) (some_true (borrows parts)) free) is

-- By the value that is of such a type.
list_free : (y : Layer) (all : List Value) → passes (tests_in y) (V.List all) ≡ true → borrow_over y (borrows (parts_case y)) ≡ false → Free (parts_case y)
list_free (F.List e) all fit free = free
list_free other all fit free = absurd (cc)

record_free : (y : Layer) (all : List Value) → passes (tests_in y) (V.Record all) ≡ true → borrow_over y (borrows (parts_case y)) ≡ false → Free (parts_case y)
record_free (F.Record fields) all fit free = free
record_free (F.Tuple parts) all fit free = free
record_free other all fit free = absurd (cc)

case_free : (y : Layer) (n : ℕ) (payload : Option Value) → passes (tests_in y) (V.Variant n payload) ≡ true → borrow_over y (borrows (parts_case y)) ≡ false → Free (parts_case y)
case_free (F.Variant cases) n payload fit free = free
case_free (F.Enum labels) n payload fit free = refl
case_free (F.Option part) n payload fit free = free
case_free (F.Result ok err) n payload fit free = free
case_free other n payload fit free = absurd (cc)

no_borrow_type : (y : Layer) (x : Handle) → passes (tests_in y) (V.Borrow x) ≡ true → borrow_over y (borrows (parts_case y)) ≡ false → ⊥
no_borrow_type (F.Borrow resource) x fit free = cc
no_borrow_type other x fit free = cc

module _ (home : List ℕ) where
  abbrev Good : Value → Type 0
  Good v = (t : ValType) → fits v t ≡ true → has_borrow t ≡ false → borrow_count home v ≡ 0

  abbrev Goods : Type 0
  Goods = (v : Value) × Good v

  abbrev these : List Goods → List Value
  these es = map (λ (e : Goods). e.0) es

  abbrev counts_of : List Goods → ℕ
  counts_of es = total (map (borrow_count home) (these es))

  both_none : {a b : ℕ} → a ≡ 0 → b ≡ 0 → a + b ≡ 0
  both_none e f = omega (arith, e, f)

  elements_none : (u : ValType) (es : List Goods) → ((m : ℕ) (w : Value) → slice_get (these es) m ≡ Some w → fits w u ≡ true) → has_borrow u ≡ false → counts_of es ≡ 0
  elements_none u [] fit free = refl
  elements_none u (e ∷ es) fit free = both_none (e.1 u (fit 0 e.0 refl) free) (elements_none u es (λ m w there. fit (suc m) w there) free)

  list_none : (o : Option ValType) (es : List Goods) → ((u : ValType) (m : ℕ) (w : Value) → o ≡ Some u → slice_get (these es) m ≡ Some w → fits w u ≡ true)
      → ((u : ValType) → o ≡ Some u → has_borrow u ≡ false) → IsSome o → counts_of es ≡ 0
  list_none None es fit free there = absurd (cc)
  list_none (Some u) es fit free there = elements_none u es (λ m w there. fit u m w refl there) (free u refl)

  fields_none : (types : List (Option ValType)) (es : List Goods) → Row types (these es) → Free types → counts_of es ≡ 0
  fields_none [] [] row free = refl
  fields_none [] (e ∷ es) row free = absurd row
  fields_none (None ∷ types) es row free = absurd row
  fields_none (Some t ∷ types) [] row free = absurd row
  fields_none (Some t ∷ types) (e ∷ es) row free =
      both_none (e.1 t row.0 (neither_left (has_borrow t) (some_true (borrows types)) free)) (fields_none types es row.1 (neither_right (has_borrow t) (some_true (borrows types)) free))

  element_there : (y : Layer) (all : List Value) → passes (tests_in y) (V.List all) ≡ true → IsSome (option_and_then (λ part. part) (slice_get (parts_case y) 0))
  element_there (F.List e) all fit = refl
  element_there other all fit = absurd (cc)

  payload_none : (o : Option ValType) (e : Goods) → ((u : ValType) → o ≡ Some u → fits e.0 u ≡ true) → ((u : ValType) → o ≡ Some u → has_borrow u ≡ false) → (o ≡ None → ⊥)
      → borrow_count home e.0 ≡ 0
  payload_none None e fit free there = absurd (there refl)
  payload_none (Some u) e fit free there = e.1 u (fit u refl) (free u refl)

  abbrev layer : V.Value-F Goods → V.Value-F Value
  layer w = map-Value Goods Value (λ (e : Goods). e.0) w

  abbrev count_layer : V.Value-F Value → ℕ
  count_layer w = borrow_steps home (map-Value Value ℕ (borrow_count home) w)

  counts_none : (w : V.Value-F Goods) (t : ValType) → passes (tests_in (out-ValType t)) (layer w) ≡ true → borrow_over (out-ValType t) (borrows (parts_of t)) ≡ false → count_layer (layer w) ≡ 0
  counts_none (V.List es) t fit free =
      list_none (part_at t 0) es (λ u m w of there. element_fits (out-ValType t) (these es) u m w fit of there)
      (λ u of. free_at (parts_of t) 0 u (list_free (out-ValType t) (these es) fit free) of) (element_there (out-ValType t) (these es) fit)
  counts_none (V.Record es) t fit free = fields_none (parts_of t) es (row_fits (out-ValType t) (these es) fit) (record_free (out-ValType t) (these es) fit free)
  counts_none (V.Variant n (Some e)) t fit free =
      payload_none (part_at t n) e (λ u of. payload_fits (out-ValType t) n e.0 u fit of)
      (λ u of. free_at (parts_of t) n u (case_free (out-ValType t) n (Some e.0) fit free) of) (payload_there (out-ValType t) n e.0 fit)
  counts_none (V.Variant n None) t fit free = refl
  counts_none (V.Borrow x) t fit free = absurd (no_borrow_type (out-ValType t) x fit free)
  counts_none other t fit free = refl

  out_of_roll : (x : V.Value-F Value) → out-Value (roll-Value x) ≡ x
  out_of_roll x = search (rules, the_lemmas)

  good_step : (w : V.Value-F Goods) → Good (roll-Value (layer w))
  good_step w t fit none =
      fold-roll-Value ℕ (borrow_steps home) (layer w)
      ∙ counts_none w t (by_layers t (roll-Value (layer w)) (layer w) fit (out_of_roll (layer w))) (sym (borrow_by_parts t) ∙ none)

  good : (v : Value) → Good v
  good = ind-Value Good (λ x y e. subst (λ (z : V.Value-F Value). Good (roll-Value z)) e (good_step y))

  pub none_counted : (v : Value) (t : ValType) → fits v t ≡ true → has_borrow t ≡ false → borrow_count home v ≡ 0
  none_counted v = good v

  pub none_in_all : (all : List Value) (t : ValType) → ((m : ℕ) (w : Value) → slice_get all m ≡ Some w → fits w t ≡ true) → has_borrow t ≡ false → total (map (borrow_count home) all) ≡ 0
  none_in_all [] t fit none = refl
  none_in_all (v ∷ all) t fit none = both_none (good v t (fit 0 v refl) none) (none_in_all all t (λ m w there. fit (suc m) w there) none)
