-- What the tests of values are for the types that hold others.
use Rattle.std.proofs.Common.{◌≡◌, ◌≢◌, ◌∙◌, ℕ, Bool, true, false, ◌&&◌, List, [], ◌∷◌, map, length, ap, sym, refl, Option, Some, None, arith, rules}
use Rattle.syntax_trees.specs.declared.types.ValType.{ValType}
use Rattle.syntax_trees.specs.declared.types.Case.{Case}
use Rattle.syntax_trees.specs.declared.types.Field.{Field}
use Rattle.syntax_trees.specs.declared.types.ValType.TheViews as types
use Rattle.syntax_trees.specs.declared.types.ValType.TheOpen as F
use Rattle.syntax_trees.specs.declared.types.ValType.TheFolds.{fold-Case, fold-Field, fold-roll-ValType}
use Rattle.syntax_trees.specs.declared.types.ValType.TheVariants.{rolls-Tuple, rolls-Record, rolls-Variant, rolls-Result}
use Rattle.syntax_trees.proofs.Folds.{held, fold_case, fold_field, fold_result}
use Rattle.syntax_trees.proofs.Parts.{map_alike, get_image}
use Rattle.syntax_trees.specs.declared.value.Value.{Value, out-Value}
use Rattle.syntax_trees.specs.declared.value.Value.TheViews as values
use Rattle.syntax_trees.specs.declared.value.Value.TheViews.{the_lemmas}
use Rattle.syntax_trees.specs.Fits.{Test, test_of, fits_step, fits_case, fits_field, payload_test, is_record, is_variant, is_either, each_passes, case_passes, payload_passes}
use Rattle.std.specs.List.{slice_get}
use Rattle.std.specs.Option.{option_map}
use Rattle.std.proofs.lemmas.List.{length-map}

pub fits_of_tuple : (parts : List ValType) (v : Value) → test_of (types.Tuple parts) v ≡ is_record (map test_of parts) (out-Value v)
fits_of_tuple parts v =
    ap (λ (t : ValType). test_of t v) (sym (rolls-Tuple parts))
    ∙ ap (λ (t : Test). t v) (fold-roll-ValType Test (Option Test) Test fits_step fits_case fits_field (F.Tuple parts))

test_of_field : (f : Field) → fold-Field Test (Option Test) Test fits_step fits_case fits_field f ≡ test_of f.val_type
test_of_field = fold_field Test (Option Test) Test fits_step fits_case fits_field

test_of_payload : (p : Option ValType) → held test_of p ≡ payload_test p
test_of_payload (Some p) = refl
test_of_payload None = refl

test_of_case : (c : Case) → fold-Case Test (Option Test) Test fits_step fits_case fits_field c ≡ payload_test c.payload
test_of_case c = fold_case Test (Option Test) Test fits_step fits_case fits_field c ∙ test_of_payload c.payload

pub fits_of_record : (fields : List Field) (v : Value) → test_of (types.Record fields) v ≡ is_record (map (λ (f : Field). test_of f.val_type) fields) (out-Value v)
fits_of_record fields v =
    ap (λ (t : ValType). test_of t v) (sym (rolls-Record fields))
    ∙ ap (λ (t : Test). t v) (fold-roll-ValType Test (Option Test) Test fits_step fits_case fits_field (F.Record fields))
    ∙ ap (λ (ts : List Test). is_record ts (out-Value v)) (map_alike _ _ test_of_field fields)

pub fits_of_variant : (cases : List Case) (v : Value) → test_of (types.Variant cases) v ≡ is_variant (map (λ (c : Case). payload_test c.payload) cases) (out-Value v)
fits_of_variant cases v =
    ap (λ (t : ValType). test_of t v) (sym (rolls-Variant cases))
    ∙ ap (λ (t : Test). t v) (fold-roll-ValType Test (Option Test) Test fits_step fits_case fits_field (F.Variant cases))
    ∙ ap (λ (ts : List (Option Test)). is_variant ts (out-Value v)) (map_alike _ _ test_of_case cases)

pub fits_of_result : (ok err : Option ValType) (v : Value) → test_of (types.Result ok err) v ≡ is_either (payload_test ok) (payload_test err) (out-Value v)
fits_of_result ok err v =
    ap (λ (t : ValType). test_of t v) (sym (rolls-Result ok err))
    ∙ ap (λ (t : Test). t v) (fold_result Test (Option Test) Test fits_step fits_case fits_field ok err)
    ∙ ap (λ (t : Option Test). is_either t (held test_of err) (out-Value v)) (test_of_payload ok)
    ∙ ap (λ (t : Option Test). is_either (payload_test ok) t (out-Value v)) (test_of_payload err)

conjunct_false : (a b : Bool) → b ≡ false → (a && b) ≡ false
conjunct_false true b h = h
conjunct_false false b h = refl

pub passes_no_other_length : (tests : List Test) (values : List Value) → length values ≢ length tests → each_passes tests values ≡ false
passes_no_other_length [] [] h = absurd (h refl)
passes_no_other_length [] (v ∷ values) h = refl
passes_no_other_length (t ∷ tests) [] h = refl
passes_no_other_length (t ∷ tests) (v ∷ values) h =
    conjunct_false (t v) (each_passes tests values) (passes_no_other_length tests values (λ e. h (omega arith)))

variant_out : (tests : List (Option Test)) (n : ℕ) (p : Option Value) → is_variant tests (out-Value (values.Variant n p)) ≡ case_passes (slice_get tests n) p
variant_out tests n p = search (rules, the_lemmas)

-- the same for the tests of listed items
pub passes_no_other_count : {A : Type 0} (f : A → Test) (xs : List A) (values : List Value) → length values ≢ length xs → each_passes (map f xs) values ≡ false
passes_no_other_count f xs values h = passes_no_other_length (map f xs) values (λ e. h (e ∙ length-map xs f))

pub passes_case : (cases : List Case) (n : ℕ) (p : Option Value) (c : Case) → slice_get cases n ≡ Some c
    → case_passes (slice_get (map (λ (c : Case). payload_test c.payload) cases) n) p ≡ payload_passes (payload_test c.payload) p
passes_case cases n p c h = ap (λ (t : Option (Option Test)). case_passes t p) (get_image (λ (c : Case). payload_test c.payload) cases n ∙ ap (option_map (λ (c : Case). payload_test c.payload)) h)

pub passes_no_case : (cases : List Case) (n : ℕ) (p : Option Value) → slice_get cases n ≡ None
    → case_passes (slice_get (map (λ (c : Case). payload_test c.payload) cases) n) p ≡ false
passes_no_case cases n p h = ap (λ (t : Option (Option Test)). case_passes t p) (get_image (λ (c : Case). payload_test c.payload) cases n ∙ ap (option_map (λ (c : Case). payload_test c.payload)) h)

-- a variant's value by its case
pub fits_variant : (t : ValType) (v : Value) (cases : List Case) (n : ℕ) (p : Option Value) → t ≡ types.Variant cases → v ≡ values.Variant n p
    → test_of t v ≡ case_passes (slice_get (map (λ (c : Case). payload_test c.payload) cases) n) p
fits_variant t v cases n p e f =
    ap (λ (t : ValType). test_of t v) e
    ∙ fits_of_variant cases v
    ∙ ap (λ (v : Value). is_variant (map (λ (c : Case). payload_test c.payload) cases) (out-Value v)) f
    ∙ variant_out (map (λ (c : Case). payload_test c.payload) cases) n p
