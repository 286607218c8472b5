-- A value in its ranges that fits a type is of it.
use Rattle.std.proofs.Common.{◌≡◌, ◌∙◌, ◌<◌, ◌^◌, ◌⊎◌, ℕ, ℤ, zero, suc, Bool, true, false, List, [], ◌∷◌, map, length, Option, Some, None, refl, ap, sym, subst, inl, inr, rules}
use Rattle.std.proofs.lemmas.Bool.{eqb-true, ltb-true}
use Rattle.std.specs.Prelude.{◌==◌, if◌then◌else◌, IsTrue, FitsSigned}
use Rattle.std.specs.List.{slice_get}
use Rattle.std.specs.Int.{w8, w16, w32, w64}
use Rattle.std.specs.Str.{IsUtf8}
use Rattle.syntax_trees.specs.declared.types.ValType.{ValType, out-ValType, roll-ValType}
use Rattle.syntax_trees.specs.declared.types.Case.{Case}
use Rattle.syntax_trees.specs.declared.types.Field.{Field}
use Rattle.syntax_trees.specs.declared.types.ValType.TheOpen as F
use Rattle.syntax_trees.specs.declared.types.ValType.TheViews as types
use Rattle.syntax_trees.specs.declared.types.ValType.TheViews.{roll-out-ValType}
use Rattle.syntax_trees.specs.declared.types.ValType.TheVariants as leaves
use Rattle.syntax_trees.specs.declared.types.ValType.TheFolds.{map-ValType}
use Rattle.syntax_trees.specs.declared.value.Handle.{Handle}
use Rattle.syntax_trees.specs.declared.value.Value.{Value, out-Value}
use Rattle.syntax_trees.specs.declared.value.Value.TheOpen as V
use Rattle.syntax_trees.specs.declared.value.Value.TheViews as values
use Rattle.syntax_trees.specs.declared.value.Value.TheViews.{the_lemmas}
use Rattle.syntax_trees.specs.declared.value.Value.TheVariants as plain
use Rattle.syntax_trees.specs.Fits.{Test, fits, test_of, fits_step, fits_case, fits_field, each_passes, all_pass, payload_passes, case_passes, is_bool, is_s8, is_u8, is_s16, is_u16, is_s32, is_u32, is_s64, is_u64, is_char, is_string, is_stream, is_future, is_own, is_borrow, is_record, is_list, is_variant, is_enum, is_either, is_flags}
use Rattle.syntax_trees.proofs.Folds.{held, fold_case, fold_field}
use Rattle.value_lower.specs.Lowering.{bits_of}
use Rattle.value_lift.specs.Bytes.{is_scalar}
use Rattle.value_lift.proofs.Layers.{by_layer}
use Rattle.lowering_laws.specs.ValueLaws.{FittingValuesAre}
use Rattle.lowering_laws.specs.Values.{InRange, AllInRange, bool_in, s8_in, u8_in, s16_in, u16_in, s32_in, u32_in, s64_in, u64_in, char_in, own_in, borrow_in, stream_in, future_in, string_in, list_in, record_in, flags_in, case_in, payload_in, none_in, more_in, IsOf, AllAre, EachIs, PayloadIs, bool_is, s8_is, u8_is, s16_is, u16_is, s32_is, u32_is, s64_is, u64_is, char_is, own_is, borrow_is, stream_is, future_is, string_is, list_is, record_is, tuple_is, flags_are, case_is, enum_is, none_is, some_is, ok_is, err_is, none_are, more_are, no_types, more_types, no_payload_is, payload_is}
use Rattle.lowering_laws.proofs.Asking.{both_true}

-- The test of a type by its outer layer and that of the value.
abbrev pub Layer : Type 0
Layer = F.ValType-F ValType Case Field

abbrev pub tests_in : Layer → F.ValType-F Test (Option Test) Test
tests_in y = map-ValType ValType Case Field Test (Option Test) Test test_of (λ (c : Case). held test_of c.payload) (λ (f : Field). test_of f.val_type) y

abbrev pub passes : F.ValType-F Test (Option Test) Test → V.Value-F Value → Bool
passes F.Bool o = is_bool o
passes F.S8 o = is_s8 o
passes F.U8 o = is_u8 o
passes F.S16 o = is_s16 o
passes F.U16 o = is_u16 o
passes F.S32 o = is_s32 o
passes F.U32 o = is_u32 o
passes F.S64 o = is_s64 o
passes F.U64 o = is_u64 o
passes F.Char o = is_char o
passes F.String o = is_string o
passes (F.Record fields) o = is_record fields o
passes (F.Variant cases) o = is_variant cases o
passes (F.List element) o = is_list element o
passes (F.Tuple parts) o = is_record parts o
passes (F.Flags labels) o = is_flags (length labels) o
passes (F.Enum labels) o = is_enum (length labels) o
passes (F.Option part) o = is_either None (Some part) o
passes (F.Result ok err) o = is_either ok err o
passes (F.Own resource) o = is_own resource o
passes (F.Borrow resource) o = is_borrow resource o
passes (F.Stream element) o = is_stream o
passes (F.Future element) o = is_future o

step_passes : (y : F.ValType-F Test (Option Test) Test) (v : Value) → fits_step y v ≡ passes y (out-Value v)
step_passes F.Bool v = refl
step_passes F.S8 v = refl
step_passes F.U8 v = refl
step_passes F.S16 v = refl
step_passes F.U16 v = refl
step_passes F.S32 v = refl
step_passes F.U32 v = refl
step_passes F.S64 v = refl
step_passes F.U64 v = refl
step_passes F.Char v = refl
step_passes F.String v = refl
step_passes (F.Record fields) v = refl
step_passes (F.Variant cases) v = refl
step_passes (F.List element) v = refl
step_passes (F.Tuple parts) v = refl
step_passes (F.Flags labels) v = refl
step_passes (F.Enum labels) v = refl
step_passes (F.Option part) v = refl
step_passes (F.Result ok err) v = refl
step_passes (F.Own resource) v = refl
step_passes (F.Borrow resource) v = refl
step_passes (F.Stream element) v = refl
step_passes (F.Future element) v = refl

pub fits_is : (t : ValType) (v : Value) → fits v t ≡ passes (tests_in (out-ValType t)) (out-Value v)
fits_is t v =
    ap (λ (f : Test). f v)
    (by_layer Test (Option Test) Test fits_step fits_case fits_field (λ (c : Case). held test_of c.payload) (λ (f : Field). test_of f.val_type)
    (fold_case Test (Option Test) Test fits_step fits_case fits_field) (fold_field Test (Option Test) Test fits_step fits_case fits_field) t)
    ∙ step_passes (tests_in (out-ValType t)) v

-- It is enough to look at the outer layers.
by_layers : (v : Value) (o : V.Value-F Value) (t : ValType) → out-Value v ≡ o → fits v t ≡ true → ((y : Layer) → passes (tests_in y) o ≡ true → IsOf (roll-ValType y) v) → IsOf t v
by_layers v o t e h of =
    subst (λ (u : ValType). IsOf u v) (roll-out-ValType t)
    (of (out-ValType t) (ap (λ (x : V.Value-F Value). passes (tests_in (out-ValType t)) x) (sym e) ∙ sym (fits_is t v) ∙ h))

at : (s t : ValType) (v : Value) → s ≡ t → IsOf t v → IsOf s v
at s t v e is = subst (λ (u : ValType). IsOf u v) (sym e) is

-- Values without parts.
pub out_bool : (b : Bool) → out-Value (plain.Bool b) ≡ V.Bool b
out_bool b = search (rules, the_lemmas)

pub out_s8 : (n : ℤ) → out-Value (plain.S8 n) ≡ V.S8 n
out_s8 n = search (rules, the_lemmas)

pub out_u8 : (n : ℕ) → out-Value (plain.U8 n) ≡ V.U8 n
out_u8 n = search (rules, the_lemmas)

pub out_s16 : (n : ℤ) → out-Value (plain.S16 n) ≡ V.S16 n
out_s16 n = search (rules, the_lemmas)

pub out_u16 : (n : ℕ) → out-Value (plain.U16 n) ≡ V.U16 n
out_u16 n = search (rules, the_lemmas)

pub out_s32 : (n : ℤ) → out-Value (plain.S32 n) ≡ V.S32 n
out_s32 n = search (rules, the_lemmas)

pub out_u32 : (n : ℕ) → out-Value (plain.U32 n) ≡ V.U32 n
out_u32 n = search (rules, the_lemmas)

pub out_s64 : (n : ℤ) → out-Value (plain.S64 n) ≡ V.S64 n
out_s64 n = search (rules, the_lemmas)

pub out_u64 : (n : ℕ) → out-Value (plain.U64 n) ≡ V.U64 n
out_u64 n = search (rules, the_lemmas)

pub out_char : (n : ℕ) → out-Value (plain.Char n) ≡ V.Char n
out_char n = search (rules, the_lemmas)

pub out_own : (handle : Handle) → out-Value (plain.Own handle) ≡ V.Own handle
out_own handle = search (rules, the_lemmas)

pub out_borrow : (handle : Handle) → out-Value (plain.Borrow handle) ≡ V.Borrow handle
out_borrow handle = search (rules, the_lemmas)

pub out_stream : (n : ℕ) → out-Value (plain.Stream n) ≡ V.Stream n
out_stream n = search (rules, the_lemmas)

pub out_future : (n : ℕ) → out-Value (plain.Future n) ≡ V.Future n
out_future n = search (rules, the_lemmas)

pub out_string : (s : List ℕ) → out-Value (plain.String s) ≡ V.String s
out_string s = search (rules, the_lemmas)

pub out_flags : (flags : List Bool) → out-Value (plain.Flags flags) ≡ V.Flags flags
out_flags flags = search (rules, the_lemmas)

pub out_list : (all : List Value) → out-Value (values.List all) ≡ V.List all
out_list all = search (rules, the_lemmas)

pub out_record : (all : List Value) → out-Value (values.Record all) ≡ V.Record all
out_record all = search (rules, the_lemmas)

pub out_variant : (n : ℕ) (payload : Option Value) → out-Value (values.Variant n payload) ≡ V.Variant n payload
out_variant n payload = search (rules, the_lemmas)

bool_of : (b : Bool) (y : Layer) → passes (tests_in y) (V.Bool b) ≡ true → IsOf (roll-ValType y) (plain.Bool b)
bool_of b F.Bool h = at _ leaves.Bool _ leaves.rolls-Bool (bool_is b)
bool_of b other h = cc

s8_of : (n : ℤ) → FitsSigned w8 n → (y : Layer) → passes (tests_in y) (V.S8 n) ≡ true → IsOf (roll-ValType y) (plain.S8 n)
s8_of n f F.S8 h = at _ leaves.S8 _ leaves.rolls-S8 (s8_is n f)
s8_of n f other h = cc

u8_of : (n : ℕ) → n < 2 ^ 8 → (y : Layer) → passes (tests_in y) (V.U8 n) ≡ true → IsOf (roll-ValType y) (plain.U8 n)
u8_of n f F.U8 h = at _ leaves.U8 _ leaves.rolls-U8 (u8_is n f)
u8_of n f other h = cc

s16_of : (n : ℤ) → FitsSigned w16 n → (y : Layer) → passes (tests_in y) (V.S16 n) ≡ true → IsOf (roll-ValType y) (plain.S16 n)
s16_of n f F.S16 h = at _ leaves.S16 _ leaves.rolls-S16 (s16_is n f)
s16_of n f other h = cc

u16_of : (n : ℕ) → n < 2 ^ 16 → (y : Layer) → passes (tests_in y) (V.U16 n) ≡ true → IsOf (roll-ValType y) (plain.U16 n)
u16_of n f F.U16 h = at _ leaves.U16 _ leaves.rolls-U16 (u16_is n f)
u16_of n f other h = cc

s32_of : (n : ℤ) → FitsSigned w32 n → (y : Layer) → passes (tests_in y) (V.S32 n) ≡ true → IsOf (roll-ValType y) (plain.S32 n)
s32_of n f F.S32 h = at _ leaves.S32 _ leaves.rolls-S32 (s32_is n f)
s32_of n f other h = cc

u32_of : (n : ℕ) → n < 2 ^ 32 → (y : Layer) → passes (tests_in y) (V.U32 n) ≡ true → IsOf (roll-ValType y) (plain.U32 n)
u32_of n f F.U32 h = at _ leaves.U32 _ leaves.rolls-U32 (u32_is n f)
u32_of n f other h = cc

s64_of : (n : ℤ) → FitsSigned w64 n → (y : Layer) → passes (tests_in y) (V.S64 n) ≡ true → IsOf (roll-ValType y) (plain.S64 n)
s64_of n f F.S64 h = at _ leaves.S64 _ leaves.rolls-S64 (s64_is n f)
s64_of n f other h = cc

u64_of : (n : ℕ) → n < 2 ^ 64 → (y : Layer) → passes (tests_in y) (V.U64 n) ≡ true → IsOf (roll-ValType y) (plain.U64 n)
u64_of n f F.U64 h = at _ leaves.U64 _ leaves.rolls-U64 (u64_is n f)
u64_of n f other h = cc

char_of : (c : ℕ) → IsTrue (is_scalar c) → (y : Layer) → passes (tests_in y) (V.Char c) ≡ true → IsOf (roll-ValType y) (plain.Char c)
char_of c f F.Char h = at _ leaves.Char _ leaves.rolls-Char (char_is c f)
char_of c f other h = cc

own_of : (handle : Handle) → handle.rep < 2 ^ 32 → (y : Layer) → passes (tests_in y) (V.Own handle) ≡ true → IsOf (roll-ValType y) (plain.Own handle)
own_of handle f (F.Own resource) h =
    at _ (leaves.Own resource) _ (leaves.rolls-Own resource)
    (subst (λ (r : ℕ). IsOf (leaves.Own r) (plain.Own handle)) (eqb-true handle.resource resource h) (own_is handle.resource handle.rep f))
own_of handle f other h = cc

borrow_of : (handle : Handle) → handle.rep < 2 ^ 32 → (y : Layer) → passes (tests_in y) (V.Borrow handle) ≡ true → IsOf (roll-ValType y) (plain.Borrow handle)
borrow_of handle f (F.Borrow resource) h =
    at _ (leaves.Borrow resource) _ (leaves.rolls-Borrow resource)
    (subst (λ (r : ℕ). IsOf (leaves.Borrow r) (plain.Borrow handle)) (eqb-true handle.resource resource h) (borrow_is handle.resource handle.rep f))
borrow_of handle f other h = cc

stream_of : (n : ℕ) → n < 2 ^ 32 → (y : Layer) → passes (tests_in y) (V.Stream n) ≡ true → IsOf (roll-ValType y) (plain.Stream n)
stream_of n f (F.Stream element) h = at _ (types.Stream element) _ (leaves.rolls-Stream element) (stream_is element n f)
stream_of n f other h = cc

future_of : (n : ℕ) → n < 2 ^ 32 → (y : Layer) → passes (tests_in y) (V.Future n) ≡ true → IsOf (roll-ValType y) (plain.Future n)
future_of n f (F.Future element) h = at _ (types.Future element) _ (leaves.rolls-Future element) (future_is element n f)
future_of n f other h = cc

string_of : (s : List ℕ) → IsUtf8 s → (y : Layer) → passes (tests_in y) (V.String s) ≡ true → IsOf (roll-ValType y) (plain.String s)
string_of s f F.String h = at _ leaves.String _ leaves.rolls-String (string_is s f)
string_of s f other h = cc

flags_of : (flags : List Bool) → bits_of flags < 2 ^ 32 → (y : Layer) → passes (tests_in y) (V.Flags flags) ≡ true → IsOf (roll-ValType y) (plain.Flags flags)
flags_of flags f (F.Flags labels) h = at _ (leaves.Flags labels) _ (leaves.rolls-Flags labels) (flags_are labels flags (eqb-true (length flags) (length labels) h) f)
flags_of flags f other h = cc

-- Lists, records and tuples, whose parts are of the types that they fit.
abbrev AllOf : List Value → Type 0
AllOf all = (element : ValType) → all_pass (test_of element) all ≡ true → AllAre element all

abbrev EachOf : List Value → Type 0
EachOf all = (types : List ValType) → each_passes (map test_of types) all ≡ true → EachIs types all

list_of : (all : List Value) → AllOf all → (y : Layer) → passes (tests_in y) (V.List all) ≡ true → IsOf (roll-ValType y) (values.List all)
list_of all f (F.List element) h = at _ (types.List element) _ (leaves.rolls-List element) (list_is element all (f element h))
list_of all f other h = cc

pub field_tests : (fields : List Field) → map (λ (f : Field). test_of f.val_type) fields ≡ map test_of (map (λ (f : Field). f.val_type) fields)
field_tests [] = refl
field_tests (f ∷ fields) = ap (λ (ts : List Test). test_of f.val_type ∷ ts) (field_tests fields)

record_of : (all : List Value) → EachOf all → (y : Layer) → passes (tests_in y) (V.Record all) ≡ true → IsOf (roll-ValType y) (values.Record all)
record_of all f (F.Record fields) h =
    at _ (types.Record fields) _ (leaves.rolls-Record fields)
    (record_is fields all (f (map (λ (f : Field). f.val_type) fields) (ap (λ (ts : List Test). each_passes ts all) (sym (field_tests fields)) ∙ h)))
record_of all f (F.Tuple parts) h = at _ (types.Tuple parts) _ (leaves.rolls-Tuple parts) (tuple_is parts all (f parts h))
record_of all f other h = cc

-- Cases.
abbrev RestOf : Option Value → Type 0
RestOf payload = (p : Option ValType) → payload_passes (held test_of p) payload ≡ true → PayloadIs p payload

record CaseAt (cases : List Case) (n : ℕ) (payload : Option Value) : Type 0 where
  pub case : Case
  pub there : slice_get cases n ≡ Some case
  pub passed : payload_passes (held test_of case.payload) payload ≡ true

case_at : (cases : List Case) (n : ℕ) (payload : Option Value) → case_passes (slice_get (map (λ (c : Case). held test_of c.payload) cases) n) payload ≡ true → CaseAt cases n payload
case_at [] n payload h = cc
case_at (c ∷ cases) zero payload h = record { case = c; there = refl; passed = h }
case_at (c ∷ cases) (suc n) payload h =
    let w = case_at cases n payload h in
    record { case = w.case; there = w.there; passed = w.passed }

either_on : (n : ℕ) (a b x y : Bool) → (n == 0) ≡ x → (n == 1) ≡ y → (if x then a else (if y then b else false)) ≡ true → ((n ≡ 0) × (a ≡ true)) ⊎ ((n ≡ 1) × (b ≡ true))
either_on n a b true y e f h = inl (eqb-true n 0 e, h)
either_on n a b false true e f h = inr (eqb-true n 1 f, h)
either_on n a b false false e f h = cc

either : (n : ℕ) (a b : Bool) → (if n == 0 then a else (if n == 1 then b else false)) ≡ true → ((n ≡ 0) × (a ≡ true)) ⊎ ((n ≡ 1) × (b ≡ true))
either n a b h = either_on n a b (n == 0) (n == 1) refl refl h

moved : (t : ValType) (n k : ℕ) (payload : Option Value) → n ≡ k → IsOf t (values.Variant k payload) → IsOf t (values.Variant n payload)
moved t n k payload e is = subst (λ (i : ℕ). IsOf t (values.Variant i payload)) (sym e) is

no_payload : (payload : Option Value) → payload_passes None payload ≡ true → payload ≡ None
no_payload None h = refl
no_payload (Some v) h = cc

result_of : (n : ℕ) (payload : Option Value) → RestOf payload → (ok err : Option ValType) → is_either (held test_of ok) (held test_of err) (V.Variant n payload) ≡ true
    → IsOf (roll-ValType (F.Result ok err)) (values.Variant n payload)
result_of n payload f ok err h =
    at _ (types.Result ok err) _ (leaves.rolls-Result ok err)
    (elim (either n (payload_passes (held test_of ok) payload) (payload_passes (held test_of err) payload) h) [
      | inl w ↦ moved (types.Result ok err) n 0 payload w.0 (ok_is ok err payload (f ok w.1))
      | inr w ↦ moved (types.Result ok err) n 1 payload w.0 (err_is ok err payload (f err w.1))
    ])

variant_of : (n : ℕ) (payload : Option Value) → n < 2 ^ 32 → RestOf payload → (y : Layer) → passes (tests_in y) (V.Variant n payload) ≡ true → IsOf (roll-ValType y) (values.Variant n payload)
variant_of n payload low f (F.Variant cases) h =
    let w = case_at cases n payload h in
    at _ (types.Variant cases) _ (leaves.rolls-Variant cases) (case_is n cases w.case payload low w.there (f w.case.payload w.passed))
variant_of n None low f (F.Enum labels) h = at _ (leaves.Enum labels) _ (leaves.rolls-Enum labels) (enum_is n labels low (ltb-true n (length labels) h))
variant_of n (Some v) low f (F.Enum labels) h = cc
variant_of n payload low f (F.Option part) h =
    at _ (types.Option part) _ (leaves.rolls-Option part)
    (elim (either n (payload_passes None payload) (payload_passes (Some (test_of part)) payload) h) [
      | inl w ↦ moved (types.Option part) n 0 payload w.0 (subst (λ (o : Option Value). IsOf (types.Option part) (values.Variant 0 o)) (sym (no_payload payload w.1)) (none_is part))
      | inr w ↦ moved (types.Option part) n 1 payload w.0 (some_is part payload (f (Some part) w.1))
    ])
variant_of n payload low f (F.Result None None) h = result_of n payload f None None h
variant_of n payload low f (F.Result None (Some e)) h = result_of n payload f None (Some e) h
variant_of n payload low f (F.Result (Some o) None) h = result_of n payload f (Some o) None h
variant_of n payload low f (F.Result (Some o) (Some e)) h = result_of n payload f (Some o) (Some e) h
variant_of n payload low f other h = cc

no_rest : RestOf None
no_rest None h = no_payload_is
no_rest (Some t) h = cc

some_rest : (v : Value) → ((t : ValType) → fits v t ≡ true → IsOf t v) → RestOf (Some v)
some_rest v f None h = cc
some_rest v f (Some t) h = payload_is t v (f t h)

no_elements : AllOf []
no_elements element h = none_are element

more_elements : (v : Value) (all : List Value) → ((t : ValType) → fits v t ≡ true → IsOf t v) → AllOf all → AllOf (v ∷ all)
more_elements v all f g element h =
    let w = both_true (test_of element v) (all_pass (test_of element) all) h in
    more_are element v all (f element w.0) (g element w.1)

no_fields : EachOf []
no_fields [] h = no_types
no_fields (t ∷ types) h = cc

more_fields : (v : Value) (all : List Value) → ((t : ValType) → fits v t ≡ true → IsOf t v) → EachOf all → EachOf (v ∷ all)
more_fields v all f g [] h = cc
more_fields v all f g (t ∷ types) h =
    let w = both_true (test_of t v) (each_passes (map test_of types) all) h in
    more_types t types v all (f t w.0) (g types w.1)

mutual
  pub fitted : {v : Value} → InRange v → (t : ValType) → fits v t ≡ true → IsOf t v
  fitted (bool_in b) t h = by_layers (plain.Bool b) (V.Bool b) t (out_bool b) h (bool_of b)
  fitted (s8_in n f) t h = by_layers (plain.S8 n) (V.S8 n) t (out_s8 n) h (s8_of n f)
  fitted (u8_in n f) t h = by_layers (plain.U8 n) (V.U8 n) t (out_u8 n) h (u8_of n f)
  fitted (s16_in n f) t h = by_layers (plain.S16 n) (V.S16 n) t (out_s16 n) h (s16_of n f)
  fitted (u16_in n f) t h = by_layers (plain.U16 n) (V.U16 n) t (out_u16 n) h (u16_of n f)
  fitted (s32_in n f) t h = by_layers (plain.S32 n) (V.S32 n) t (out_s32 n) h (s32_of n f)
  fitted (u32_in n f) t h = by_layers (plain.U32 n) (V.U32 n) t (out_u32 n) h (u32_of n f)
  fitted (s64_in n f) t h = by_layers (plain.S64 n) (V.S64 n) t (out_s64 n) h (s64_of n f)
  fitted (u64_in n f) t h = by_layers (plain.U64 n) (V.U64 n) t (out_u64 n) h (u64_of n f)
  fitted (char_in c f) t h = by_layers (plain.Char c) (V.Char c) t (out_char c) h (char_of c f)
  fitted (own_in handle f) t h = by_layers (plain.Own handle) (V.Own handle) t (out_own handle) h (own_of handle f)
  fitted (borrow_in handle f) t h = by_layers (plain.Borrow handle) (V.Borrow handle) t (out_borrow handle) h (borrow_of handle f)
  fitted (stream_in n f) t h = by_layers (plain.Stream n) (V.Stream n) t (out_stream n) h (stream_of n f)
  fitted (future_in n f) t h = by_layers (plain.Future n) (V.Future n) t (out_future n) h (future_of n f)
  fitted (string_in s f) t h = by_layers (plain.String s) (V.String s) t (out_string s) h (string_of s f)
  fitted (list_in all are) t h = by_layers (values.List all) (V.List all) t (out_list all) h (list_of all (all_fitted are))
  fitted (record_in all are) t h = by_layers (values.Record all) (V.Record all) t (out_record all) h (record_of all (each_fitted are))
  fitted (flags_in flags f) t h = by_layers (plain.Flags flags) (V.Flags flags) t (out_flags flags) h (flags_of flags f)
  fitted (case_in n low) t h = by_layers (values.Variant n None) (V.Variant n None) t (out_variant n None) h (variant_of n None low no_rest)
  fitted (payload_in n v low is) t h = by_layers (values.Variant n (Some v)) (V.Variant n (Some v)) t (out_variant n (Some v)) h (variant_of n (Some v) low (some_rest v (fitted is)))

  all_fitted : {all : List Value} → AllInRange all → AllOf all
  all_fitted none_in = no_elements
  all_fitted (more_in v all is are) = more_elements v all (fitted is) (all_fitted are)

  each_fitted : {all : List Value} → AllInRange all → EachOf all
  each_fitted none_in = no_fields
  each_fitted (more_in v all is are) = more_fields v all (fitted is) (each_fitted are)

pub fitting_values_are : FittingValuesAre
fitting_values_are type v is h = fitted is type h
