-- A value that fits a type holds a string or a list only where the type does, and so do arguments.
use Rattle.std.proofs.Common.{◌≡◌, ◌∙◌, ◌⊎◌, inl, inr, ◌||◌, ◌&&◌, ℕ, zero, suc, Bool, true, false, if◌then◌else◌, List, [], ◌∷◌, map, refl, sym, ap, subst, Option, Some, None, rules}
use Rattle.std.specs.Prelude.{◌==◌}
use Rattle.std.specs.List.{slice_get}
use Rattle.syntax_trees.specs.declared.types.ValType.{ValType, out-ValType}
use Rattle.syntax_trees.specs.declared.types.Case.{Case}
use Rattle.syntax_trees.specs.declared.types.Field.{Field}
use Rattle.syntax_trees.specs.declared.types.Param.{Param}
use Rattle.syntax_trees.specs.declared.types.FuncType.{FuncType}
use Rattle.syntax_trees.specs.declared.types.ValType.TheOpen as F
use Rattle.syntax_trees.specs.declared.types.ValType.TheViews as types
use Rattle.syntax_trees.specs.declared.types.ValType.TheVariants as leaves
use Rattle.syntax_trees.specs.declared.types.ValType.TheFolds.{fold-roll-ValType}
use Rattle.syntax_trees.specs.declared.value.Value.{Value, out-Value}
use Rattle.syntax_trees.specs.declared.value.Value.TheOpen as V
use Rattle.syntax_trees.specs.declared.value.Value.TheViews as values
use Rattle.syntax_trees.specs.declared.value.Value.TheViews.{the_lemmas, roll-Value}
use Rattle.syntax_trees.specs.declared.value.Value.TheVariants as plain
use Rattle.syntax_trees.specs.declared.value.Value.TheFolds.{map-Value, ind-Value, fold-roll-Value}
use Rattle.syntax_trees.specs.Ends.{some_true, end_case, end_field}
use Rattle.syntax_trees.specs.Fits.{test_of, fits, payload_test, each_passes, payload_passes, case_passes}
use Rattle.laid_types.specs.Lists.{has_list, held_list, list_step}
use Rattle.laid_types.specs.Gathered.{lists, list_over}
use Rattle.laid_types.specs.Parts.{parts_case}
use Rattle.laid_types.proofs.HeldByParts.{list_by_parts}
use Rattle.value_lower.proofs.Fitted.{Layer, tests_in, passes, by_layers}
use Rattle.comp_graph.specs.Needs.{hold_list}
use Rattle.script_reader.specs.Script.{AreOfTypes}
use Rattle.abi_machine.specs.Passing.{params_type}
use Rattle.abi_machine.specs.sound.Places.{text_step, holds_text}
use Rattle.abi_machine.proofs.sound.places.Plans.{left_one, right_one}
use Rattle.abi_machine.proofs.sound.places.Texts.{Says, texts_are}

-- Parameters are passed as one tuple.
tuple_lists : (all : List ValType) → has_list (types.Tuple all) ≡ some_true (map has_list all)
tuple_lists all = ap has_list (sym (leaves.rolls-Tuple all)) ∙ fold-roll-ValType Bool Bool Bool list_step end_case end_field (F.Tuple all)

each_list : (params : List Param) → some_true (map has_list (map (λ (p : Param). p.val_type) params)) ≡ some_true (map (λ (p : Param). has_list p.val_type) params)
each_list [] = refl
each_list (p ∷ params) = ap (λ (b : Bool). has_list p.val_type || b) (each_list params)

pub params_list : (f : FuncType) → has_list (params_type f) ≡ true → hold_list f ≡ true
params_list f e = sym (each_list f.params) ∙ (sym (tuple_lists (map (λ (p : Param). p.val_type) f.params)) ∙ e)

-- Values by their outer layer.
both_left : (a b : Bool) → (a && b) ≡ true → a ≡ true
both_left true b h = refl
both_left false b h = cc

both_right : (a b : Bool) → (a && b) ≡ true → b ≡ true
both_right true b h = h
both_right false b h = cc

one_of : (a b : Bool) → (a || b) ≡ true → (a ≡ true) ⊎ (b ≡ true)
one_of true b e = inl refl
one_of false b e = inr e

either_on : (x y a b : Bool) → (if x then a else (if y then b else false)) ≡ true → (a ≡ true) ⊎ (b ≡ true)
either_on true y a b h = inl h
either_on false true a b h = inr h
either_on false false a b h = cc

abbrev Holding : Value → Type 0
Holding v = (t : ValType) → fits v t ≡ true → holds_text v ≡ true → has_list t ≡ true

abbrev Each : Type 0
Each = (v : Value) × Holding v

abbrev these : List Each → List Value
these es = map (λ (e : Each). e.0) es

row_fits : {A : Type 0} (f : A → ValType) (xs : List A) (es : List Each) → each_passes (map (λ (x : A). test_of (f x)) xs) (these es) ≡ true → some_true (map holds_text (these es)) ≡ true
    → some_true (map held_list (map (λ (x : A). Some (f x)) xs)) ≡ true
row_fits f [] [] h holds = cc
row_fits f [] (e ∷ es) h holds = cc
row_fits f (x ∷ xs) [] h holds = cc
row_fits {A} f (x ∷ xs) (e ∷ es) h holds = elim (one_of (holds_text e.0) (some_true (map holds_text (these es))) holds) [
  | inl first ↦ left_one (has_list (f x)) _ (e.1 (f x) (both_left (test_of (f x) e.0) _ h) first)
  | inr rest ↦ right_one (has_list (f x)) (some_true (map held_list (map (λ (y : A). Some (f y)) xs))) (row_fits f xs es (both_right (test_of (f x) e.0) _ h) rest)
]

record_fits : (y : Layer) (es : List Each) → passes (tests_in y) (V.Record (these es)) ≡ true → some_true (map holds_text (these es)) ≡ true → list_over y (lists (parts_case y)) ≡ true
record_fits (F.Record fields) es h holds = row_fits (λ (f : Field). f.val_type) fields es h holds
record_fits (F.Tuple parts) es h holds = row_fits (λ (t : ValType). t) parts es h holds
record_fits other es h holds = cc

text_fits : (y : Layer) (text : List ℕ) → passes (tests_in y) (V.String text) ≡ true → list_over y (lists (parts_case y)) ≡ true
text_fits F.String text h = refl
text_fits other text h = cc

list_fits : (y : Layer) (all : List Value) → passes (tests_in y) (V.List all) ≡ true → list_over y (lists (parts_case y)) ≡ true
list_fits (F.List e) all h = refl
list_fits other all h = cc

payload_fits : (o : Option ValType) (e : Each) → payload_passes (payload_test o) (Some e.0) ≡ true → holds_text e.0 ≡ true → held_list o ≡ true
payload_fits None e h holds = cc
payload_fits (Some t) e h holds = e.1 t h holds

cases_fit : (cases : List Case) (n : ℕ) (e : Each) → case_passes (slice_get (map (λ (c : Case). payload_test c.payload) cases) n) (Some e.0) ≡ true → holds_text e.0 ≡ true
    → some_true (map held_list (map (λ (c : Case). c.payload) cases)) ≡ true
cases_fit [] n e h holds = cc
cases_fit (c ∷ cases) zero e h holds = left_one (held_list c.payload) _ (payload_fits c.payload e h holds)
cases_fit (c ∷ cases) (suc n) e h holds = right_one (held_list c.payload) (some_true (map held_list (map (λ (x : Case). x.payload) cases))) (cases_fit cases n e h holds)

two_fit : (ok err : Option ValType) (n : ℕ) (e : Each) → (if n == 0 then payload_passes (payload_test ok) (Some e.0) else (if n == 1 then payload_passes (payload_test err) (Some e.0) else false)) ≡ true → holds_text e.0 ≡ true
    → some_true (held_list ok ∷ held_list err ∷ []) ≡ true
two_fit ok err n e h holds = elim (either_on (n == 0) (n == 1) (payload_passes (payload_test ok) (Some e.0)) (payload_passes (payload_test err) (Some e.0)) h) [
  | inl first ↦ left_one (held_list ok) _ (payload_fits ok e first holds)
  | inr second ↦ right_one (held_list ok) (held_list err || false) (left_one (held_list err) false (payload_fits err e second holds))
]

variant_fits : (y : Layer) (n : ℕ) (e : Each) → passes (tests_in y) (V.Variant n (Some e.0)) ≡ true → holds_text e.0 ≡ true → list_over y (lists (parts_case y)) ≡ true
variant_fits (F.Variant cases) n e h holds = cases_fit cases n e h holds
variant_fits (F.Enum labels) n e h holds = cc
variant_fits (F.Option part) n e h holds = two_fit None (Some part) n e h holds
variant_fits (F.Result None None) n e h holds = two_fit None None n e h holds
variant_fits (F.Result None (Some err)) n e h holds = two_fit None (Some err) n e h holds
variant_fits (F.Result (Some ok) None) n e h holds = two_fit (Some ok) None n e h holds
variant_fits (F.Result (Some ok) (Some err)) n e h holds = two_fit (Some ok) (Some err) n e h holds
variant_fits other n e h holds = cc

abbrev layer : V.Value-F Each → V.Value-F Value
layer w = map-Value Each Value (λ (e : Each). e.0) w

abbrev texts : V.Value-F Value → V.Value-F Bool
texts w = map-Value Value Bool holds_text w

layer_fits : (y : Layer) (w : V.Value-F Each) → passes (tests_in y) (layer w) ≡ true → text_step (texts (layer w)) ≡ true → list_over y (lists (parts_case y)) ≡ true
layer_fits y (V.String text) h holds = text_fits y text h
layer_fits y (V.List es) h holds = list_fits y (these es) h
layer_fits y (V.Record es) h holds = record_fits y es h holds
layer_fits y (V.Variant n (Some e)) h holds = variant_fits y n e h holds
layer_fits y (V.Variant n None) h holds = cc
layer_fits y other h holds = cc

out_of_roll : (x : V.Value-F Value) → out-Value (roll-Value x) ≡ x
out_of_roll x = search (rules, the_lemmas)

holding_step : (w : V.Value-F Each) → Holding (roll-Value (layer w))
holding_step w t h holds =
    list_by_parts t ∙ layer_fits (out-ValType t) w (by_layers t (roll-Value (layer w)) (layer w) h (out_of_roll (layer w))) (sym (fold-roll-Value Bool text_step (layer w)) ∙ holds)

fitting : (v : Value) → Holding v
fitting = ind-Value Holding (λ x y e. subst (λ (z : V.Value-F Value). Holding (roll-Value z)) e (holding_step y))

-- as many values as types
all_fit : (all : List ValType) (vs : List Value) → AreOfTypes all vs → some_true (map holds_text vs) ≡ true → some_true (map has_list all) ≡ true
all_fit [] [] h holds = cc
all_fit [] (v ∷ vs) h holds = absurd h
all_fit (t ∷ all) [] h holds = absurd h
all_fit (t ∷ all) (v ∷ vs) h holds = elim (one_of (holds_text v) (some_true (map holds_text vs)) holds) [
  | inl first ↦ left_one (has_list t) _ (fitting v t h.0 first)
  | inr rest ↦ right_one (has_list t) (some_true (map has_list all)) (all_fit all vs h.2 rest)
]

pub record_says : (B : Type 0) (all : List ValType) (vs : List Value) → AreOfTypes all vs → (has_list (types.Tuple all) ≡ true → B) → Says B (values.Record vs)
record_says B all vs h may holds = may (tuple_lists all ∙ all_fit all vs h (sym (texts_are (V.Record vs) (values.Record vs) (plain.rolls-Record vs)) ∙ holds))
