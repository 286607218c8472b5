-- A value is of a type layer by layer: its parts are of the parts of the type.
use Rattle.std.proofs.Common.{◌≡◌, ◌∙◌, ◌&&◌, ℕ, zero, suc, Bool, true, false, List, [], ◌∷◌, map, length, Option, Some, None, refl, ap, sym}
use Rattle.std.specs.List.{slice_get}
use Rattle.std.specs.Option.{option_and_then}
use Rattle.syntax_trees.specs.declared.types.ValType.{ValType, out-ValType}
use Rattle.syntax_trees.specs.declared.types.Case.{Case}
use Rattle.syntax_trees.specs.declared.types.Field.{Field}
use Rattle.syntax_trees.specs.declared.types.ValType.TheOpen as F
use Rattle.syntax_trees.specs.declared.types.ValType.TheFolds.{fold-Case, map-ValType}
use Rattle.syntax_trees.specs.declared.value.Value.{Value, out-Value}
use Rattle.syntax_trees.specs.declared.value.Value.TheOpen as V
use Rattle.syntax_trees.specs.Fits.{Test, test_of, fits, fits_step, fits_case, fits_field, payload_test, each_passes, all_pass, payload_passes, case_passes, is_bool, is_s8, is_u8, is_s16, is_u16, is_s32, is_u32, is_s64, is_u64, is_char, is_string, is_record, is_variant, is_list, is_flags, is_enum, is_either, is_own, is_borrow, is_stream, is_future}
use Rattle.syntax_trees.proofs.Folds.{held, fold_case, fold_field}
use Rattle.laid_types.specs.Parts.{parts_case}
use Rattle.value_lower.proofs.Layers.{by_layer}

abbrev pub Layer : Type 0
Layer = F.ValType-F ValType Case Field

abbrev pub tests_in : Layer → F.ValType-F Test (Option Test) Test
tests_in y = map-ValType ValType Case Field Test (Option Test) Test test_of (λ (c : Case). payload_test c.payload) (λ (f : Field). test_of f.val_type) y

-- the test of a layer, of the outer layer of a value
abbrev pub passes : F.ValType-F Test (Option Test) Test → V.Value-F Value → Bool
passes F.Bool w = is_bool w
passes F.S8 w = is_s8 w
passes F.U8 w = is_u8 w
passes F.S16 w = is_s16 w
passes F.U16 w = is_u16 w
passes F.S32 w = is_s32 w
passes F.U32 w = is_u32 w
passes F.S64 w = is_s64 w
passes F.U64 w = is_u64 w
passes F.Char w = is_char w
passes F.String w = is_string w
passes (F.Record fields) w = is_record fields w
passes (F.Variant cases) w = is_variant cases w
passes (F.List element) w = is_list element w
passes (F.Tuple parts) w = is_record parts w
passes (F.Flags labels) w = is_flags (length labels) w
passes (F.Enum labels) w = is_enum (length labels) w
passes (F.Option part) w = is_either None (Some part) w
passes (F.Result ok err) w = is_either ok err w
passes (F.Own resource) w = is_own resource w
passes (F.Borrow resource) w = is_borrow resource w
passes (F.Stream element) w = is_stream w
passes (F.Future element) w = is_future w

passes_is : (x : F.ValType-F Test (Option Test) Test) (v : Value) → fits_step x v ≡ passes x (out-Value v)
passes_is F.Bool v = refl
passes_is F.S8 v = refl
passes_is F.U8 v = refl
passes_is F.S16 v = refl
passes_is F.U16 v = refl
passes_is F.S32 v = refl
passes_is F.U32 v = refl
passes_is F.S64 v = refl
passes_is F.U64 v = refl
passes_is F.Char v = refl
passes_is F.String v = refl
passes_is (F.Record fields) v = refl
passes_is (F.Variant cases) v = refl
passes_is (F.List element) v = refl
passes_is (F.Tuple parts) v = refl
passes_is (F.Flags labels) v = refl
passes_is (F.Enum labels) v = refl
passes_is (F.Option part) v = refl
passes_is (F.Result ok err) v = refl
passes_is (F.Own resource) v = refl
passes_is (F.Borrow resource) v = refl
passes_is (F.Stream element) v = refl
passes_is (F.Future element) v = refl

payload_held : (p : Option ValType) → held test_of p ≡ payload_test p
payload_held (Some p) = refl
payload_held None = refl

case_is : (c : Case) → fold-Case Test (Option Test) Test fits_step fits_case fits_field c ≡ payload_test c.payload
case_is c = fold_case Test (Option Test) Test fits_step fits_case fits_field c ∙ payload_held c.payload

fits_is : (t : ValType) (v : Value) → fits v t ≡ passes (tests_in (out-ValType t)) (out-Value v)
fits_is t v =
    ap (λ (f : Test). f v)
    (by_layer Test (Option Test) Test fits_step fits_case fits_field (λ (c : Case). payload_test c.payload) (λ (f : Field). test_of f.val_type) case_is
    (fold_field Test (Option Test) Test fits_step fits_case fits_field) t)
    ∙ passes_is (tests_in (out-ValType t)) v

-- A value of a type passes the test of the type's layer.
pub by_layers : (t : ValType) (v : Value) (w : V.Value-F Value) → fits v t ≡ true → out-Value v ≡ w → passes (tests_in (out-ValType t)) w ≡ true
by_layers t v w h e = ap (λ (x : V.Value-F Value). passes (tests_in (out-ValType t)) x) (sym e) ∙ sym (fits_is t v) ∙ h

both_left : (a b : Bool) → (a && b) ≡ true → a ≡ true
both_left true b h = refl
both_left false b h = cc

both_right : (a b : Bool) → (a && b) ≡ true → b ≡ true
both_right true b h = h
both_right false b h = cc

-- Elements.
one_of_all : (e : ValType) (all : List Value) (n : ℕ) (w : Value) → all_pass (test_of e) all ≡ true → slice_get all n ≡ Some w → fits w e ≡ true
one_of_all e [] n w h i = cc
one_of_all e (v ∷ all) zero w h i =
    let same : v ≡ w = cc in
    ap (test_of e) (sym same) ∙ both_left (test_of e v) (all_pass (test_of e) all) h
one_of_all e (v ∷ all) (suc n) w h i = one_of_all e all n w (both_right (test_of e v) (all_pass (test_of e) all) h) i

pub element_fits : (y : Layer) (all : List Value) (p : ValType) (n : ℕ) (w : Value) → passes (tests_in y) (V.List all) ≡ true
    → option_and_then (λ part. part) (slice_get (parts_case y) 0) ≡ Some p → slice_get all n ≡ Some w → fits w p ≡ true
element_fits (F.List e) all p n w h i j =
    let same : e ≡ p = cc in
    ap (λ (t : ValType). test_of t w) (sym same) ∙ one_of_all e all n w h j
element_fits other all p n w h i j = cc

-- Fields.
one_of_each : {A : Type 0} (f : A → ValType) (xs : List A) (all : List Value) (n : ℕ) (w : Value) (p : ValType) → each_passes (map (λ (x : A). test_of (f x)) xs) all ≡ true
    → slice_get all n ≡ Some w → option_and_then (λ part. part) (slice_get (map (λ (x : A). Some (f x)) xs) n) ≡ Some p → fits w p ≡ true
one_of_each f [] all n w p h i j = cc
one_of_each f (x ∷ xs) [] n w p h i j = cc
one_of_each f (x ∷ xs) (v ∷ all) zero w p h i j =
    let same : v ≡ w = cc in
    let also : f x ≡ p = cc in
    ap (λ (t : ValType). test_of t w) (sym also) ∙ ap (test_of (f x)) (sym same) ∙ both_left (test_of (f x) v) _ h
one_of_each f (x ∷ xs) (v ∷ all) (suc n) w p h i j = one_of_each f xs all n w p (both_right (test_of (f x) v) _ h) i j

pub field_fits : (y : Layer) (all : List Value) (n : ℕ) (w : Value) (p : ValType) → passes (tests_in y) (V.Record all) ≡ true → slice_get all n ≡ Some w
    → option_and_then (λ part. part) (slice_get (parts_case y) n) ≡ Some p → fits w p ≡ true
field_fits (F.Record fields) all n w p h i j = one_of_each (λ (f : Field). f.val_type) fields all n w p h i j
field_fits (F.Tuple parts) all n w p h i j = one_of_each (λ (t : ValType). t) parts all n w p h i j
field_fits other all n w p h i j = cc

-- Payloads.
payload_of : (cases : List Case) (n : ℕ) (v : Value) (p : ValType) → case_passes (slice_get (map (λ (c : Case). payload_test c.payload) cases) n) (Some v) ≡ true
    → option_and_then (λ part. part) (slice_get (map (λ (c : Case). c.payload) cases) n) ≡ Some p → fits v p ≡ true
payload_of [] n v p h i = cc
payload_of (c ∷ cases) zero v p h i =
    ap (λ (o : Option Test). payload_passes o (Some v)) (sym (ap payload_test i)) ∙ h
payload_of (c ∷ cases) (suc n) v p h i = payload_of cases n v p h i

first_of_two : (o : Option ValType) (v : Value) (p : ValType) → payload_passes (payload_test o) (Some v) ≡ true → o ≡ Some p → fits v p ≡ true
first_of_two o v p h i = ap (λ (o : Option Test). payload_passes o (Some v)) (sym (ap payload_test i)) ∙ h

either_fits : (ok err : Option ValType) (n : ℕ) (v : Value) (p : ValType) → is_either (payload_test ok) (payload_test err) (V.Variant n (Some v)) ≡ true
    → option_and_then (λ part. part) (slice_get (ok ∷ err ∷ []) n) ≡ Some p → fits v p ≡ true
either_fits ok err zero v p h i = first_of_two ok v p h i
either_fits ok err (suc zero) v p h i = first_of_two err v p h i
either_fits ok err (suc (suc n)) v p h i = cc

pub payload_fits : (y : Layer) (n : ℕ) (v : Value) (p : ValType) → passes (tests_in y) (V.Variant n (Some v)) ≡ true
    → option_and_then (λ part. part) (slice_get (parts_case y) n) ≡ Some p → fits v p ≡ true
payload_fits (F.Variant cases) n v p h i = payload_of cases n v p h i
payload_fits (F.Enum labels) n v p h i = cc
payload_fits (F.Option part) n v p h i = either_fits None (Some part) n v p h i
payload_fits (F.Result None None) n v p h i = either_fits None None n v p h i
payload_fits (F.Result None (Some e)) n v p h i = either_fits None (Some e) n v p h i
payload_fits (F.Result (Some o) None) n v p h i = either_fits (Some o) None n v p h i
payload_fits (F.Result (Some o) (Some e)) n v p h i = either_fits (Some o) (Some e) n v p h i
payload_fits other n v p h i = cc
