-- Which values are of a type (Component Model, Explainer.md, "Type Definitions").
use Rattle.std.specs.Prelude.{ℕ, ◌==◌, ◌&&◌, nat_lt, length, Bool, true, false, if◌then◌else◌, List, [], ◌∷◌, Option, Some, None}
use Rattle.std.specs.List.{slice_get}
use Rattle.syntax_trees.specs.declared.types.ValType.{ValType, fold-ValType}
use Rattle.syntax_trees.specs.declared.types.ValType.TheOpen.{ValType-F, Field-F, Case-F}
use Rattle.syntax_trees.specs.declared.value.Value.{Value, out-Value}
use Rattle.syntax_trees.specs.declared.value.Value.TheOpen.{Value-F}

-- the test of a type's values
abbrev pub Test : Type 0
Test = Value → Bool

-- as many values as tests, each of which passes its own
abbrev pub each_passes : List Test → List Value → Bool
each_passes [] [] = true
each_passes [] (v ∷ values) = false
each_passes (t ∷ tests) [] = false
each_passes (t ∷ tests) (v ∷ values) = t v && each_passes tests values

-- values that all pass one test
abbrev pub all_pass : Test → List Value → Bool
all_pass test [] = true
all_pass test (v ∷ values) = test v && all_pass test values

-- a payload exactly where there is a test, which it passes
abbrev pub payload_passes : Option Test → Option Value → Bool
payload_passes (Some test) (Some v) = test v
payload_passes (Some test) None = false
payload_passes None (Some v) = false
payload_passes None None = true

-- a case that there is, and its payload
abbrev pub case_passes : Option (Option Test) → Option Value → Bool
case_passes (Some test) payload = payload_passes test payload
case_passes None payload = false

abbrev pub is_bool : Value-F Value → Bool
is_bool (Value-F.Bool b) = true
is_bool _ = false

abbrev pub is_s8 : Value-F Value → Bool
is_s8 (Value-F.S8 n) = true
is_s8 _ = false

abbrev pub is_u8 : Value-F Value → Bool
is_u8 (Value-F.U8 n) = true
is_u8 _ = false

abbrev pub is_s16 : Value-F Value → Bool
is_s16 (Value-F.S16 n) = true
is_s16 _ = false

abbrev pub is_u16 : Value-F Value → Bool
is_u16 (Value-F.U16 n) = true
is_u16 _ = false

abbrev pub is_s32 : Value-F Value → Bool
is_s32 (Value-F.S32 n) = true
is_s32 _ = false

abbrev pub is_u32 : Value-F Value → Bool
is_u32 (Value-F.U32 n) = true
is_u32 _ = false

abbrev pub is_s64 : Value-F Value → Bool
is_s64 (Value-F.S64 n) = true
is_s64 _ = false

abbrev pub is_u64 : Value-F Value → Bool
is_u64 (Value-F.U64 n) = true
is_u64 _ = false

abbrev pub is_char : Value-F Value → Bool
is_char (Value-F.Char c) = true
is_char _ = false

abbrev pub is_string : Value-F Value → Bool
is_string (Value-F.String s) = true
is_string _ = false

abbrev pub is_stream : Value-F Value → Bool
is_stream (Value-F.Stream s) = true
is_stream _ = false

abbrev pub is_future : Value-F Value → Bool
is_future (Value-F.Future s) = true
is_future _ = false

abbrev pub is_own : ℕ → Value-F Value → Bool
is_own resource (Value-F.Own handle) = handle.resource == resource
is_own resource _ = false

abbrev pub is_borrow : ℕ → Value-F Value → Bool
is_borrow resource (Value-F.Borrow handle) = handle.resource == resource
is_borrow resource _ = false

abbrev pub is_record : List Test → Value-F Value → Bool
is_record tests (Value-F.Record values) = each_passes tests values
is_record tests _ = false

abbrev pub is_list : Test → Value-F Value → Bool
is_list test (Value-F.List values) = all_pass test values
is_list test _ = false

abbrev pub is_variant : List (Option Test) → Value-F Value → Bool
is_variant tests (Value-F.Variant case payload) = case_passes (slice_get tests case) payload
is_variant tests _ = false

-- one of so many labels
abbrev pub is_enum : ℕ → Value-F Value → Bool
is_enum count (Value-F.Variant case None) = nat_lt case count
is_enum count _ = false

-- one of two cases, each of which may have a payload
abbrev pub is_either : Option Test → Option Test → Value-F Value → Bool
is_either first second (Value-F.Variant case payload) =
    if case == 0 then payload_passes first payload else (if case == 1 then payload_passes second payload else false)
is_either first second _ = false

abbrev pub is_flags : ℕ → Value-F Value → Bool
is_flags count (Value-F.Flags flags) = length flags == count
is_flags count _ = false

-- A type, where the tests of its parts are known.
abbrev pub fits_step : ValType-F Test (Option Test) Test → Test
fits_step ValType-F.Bool v = is_bool (out-Value v)
fits_step ValType-F.S8 v = is_s8 (out-Value v)
fits_step ValType-F.U8 v = is_u8 (out-Value v)
fits_step ValType-F.S16 v = is_s16 (out-Value v)
fits_step ValType-F.U16 v = is_u16 (out-Value v)
fits_step ValType-F.S32 v = is_s32 (out-Value v)
fits_step ValType-F.U32 v = is_u32 (out-Value v)
fits_step ValType-F.S64 v = is_s64 (out-Value v)
fits_step ValType-F.U64 v = is_u64 (out-Value v)
fits_step ValType-F.Char v = is_char (out-Value v)
fits_step ValType-F.String v = is_string (out-Value v)
fits_step (ValType-F.Record fields) v = is_record fields (out-Value v)
fits_step (ValType-F.Variant cases) v = is_variant cases (out-Value v)
fits_step (ValType-F.List element) v = is_list element (out-Value v)
fits_step (ValType-F.Tuple parts) v = is_record (parts) (out-Value v)
fits_step (ValType-F.Flags labels) v = is_flags (length labels) (out-Value v)
fits_step (ValType-F.Enum labels) v = is_enum (length labels) (out-Value v)
fits_step (ValType-F.Option part) v = is_either None (Some part) (out-Value v)
fits_step (ValType-F.Result ok err) v = is_either ok err (out-Value v)
fits_step (ValType-F.Own resource) v = is_own resource (out-Value v)
fits_step (ValType-F.Borrow resource) v = is_borrow resource (out-Value v)
fits_step (ValType-F.Stream element) v = is_stream (out-Value v)
fits_step (ValType-F.Future element) v = is_future (out-Value v)

abbrev pub fits_case : Case-F Test (Option Test) Test → Option Test
fits_case c = c.payload

abbrev pub fits_field : Field-F Test (Option Test) Test → Test
fits_field f = f.val_type

-- the test of a type
abbrev pub test_of : ValType → Test
test_of = fold-ValType Test (Option Test) Test fits_step fits_case fits_field

-- the test of a payload's type, where there is one
abbrev pub payload_test : Option ValType → Option Test
payload_test (Some p) = Some (test_of p)
payload_test None = None

-- whether a value is of a type
abbrev pub fits : Value → ValType → Bool
fits v type = test_of type v
