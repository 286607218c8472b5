-- What is lifted stands there, for every type.
use Rattle.std.proofs.Common.{◌≡◌, ◌<◌, ◌+◌, ℕ, zero, suc, List, [], ◌∷◌, map, length, Option, Some, None, refl, sym, subst, arith, rules}
use Rattle.std.specs.List.{slice_get, AllByRecursion}
use Rattle.std.specs.Int.{w8, w16, w32, w64, cast_signed}
use Rattle.syntax_trees.specs.declared.types.ValType.{ValType, out-ValType, roll-ValType}
use Rattle.syntax_trees.specs.declared.types.Case.{Case}
use Rattle.syntax_trees.specs.declared.types.Field.{Field}
use Rattle.syntax_trees.specs.declared.types.ValType.TheViews as types
use Rattle.syntax_trees.specs.declared.types.ValType.TheViews.{roll-Case, roll-Field}
use Rattle.syntax_trees.specs.declared.types.ValType.TheVariants as leaves
use Rattle.syntax_trees.specs.declared.types.ValType.TheVariants.{rolls-Bool, rolls-S8, rolls-U8, rolls-S16, rolls-U16, rolls-S32, rolls-U32, rolls-S64, rolls-U64, rolls-Char, rolls-String, rolls-Record, rolls-Variant, rolls-List, rolls-Tuple, rolls-Flags, rolls-Enum, rolls-Option, rolls-Result, rolls-Own, rolls-Borrow, rolls-Stream, rolls-Future}
use Rattle.syntax_trees.specs.declared.types.ValType.TheViews.{the_lemmas}
use Rattle.syntax_trees.specs.declared.types.ValType.TheOpen as F
use Rattle.syntax_trees.specs.declared.types.ValType.TheFolds.{ind-ValType, map-ValType, map-Case, map-Field}
use Rattle.syntax_trees.specs.declared.value.Value.{Value}
use Rattle.syntax_trees.specs.declared.value.Value.TheViews as values
use Rattle.syntax_trees.specs.declared.value.Value.TheVariants as plain
use Rattle.laid_types.specs.Parts.{payload_place}
use Rattle.value_lift.specs.Bytes.{number}
use Rattle.value_lift.specs.Pieces.{part_in}
use Rattle.value_lift.specs.Standing.{Stands, tag, IsPayload, s8_stands, u8_stands, s16_stands, u16_stands, s32_stands, u32_stands, s64_stands, u64_stands, own_stands, borrow_stands, stream_stands, future_stands, record_stands, tuple_stands, case_stands, enum_stands, none_stands, some_stands, ok_stands, err_stands, no_payload}
use Rattle.value_lift.proofs.Forms.{IsRow}
use Rattle.value_lift.proofs.Stood.{parts_of_record, parts_of_tuple, case_part}
use Rattle.value_lift.proofs.Views.{out_s8, out_u8, out_s16, out_u16, out_s32, out_u32, out_s64, out_u64, out_own, out_borrow, out_stream, out_future, out_record, out_tuple, out_variant, out_enum, out_option, out_result, count_s8, count_u8, count_s16, count_u16, count_s32, count_u32, count_s64, count_u64, count_own, count_borrow, count_stream, count_future}
use Rattle.value_lift.proofs.Found.{Told, ToldRest, told_nothing, told_payload, number_found, bool_found, char_found, string_found, flags_found, list_found, row_found, case_found_in}

abbrev ToldCase : Case → Type 0
ToldCase c = ToldRest c.payload

abbrev ToldField : Field → Type 0
ToldField f = Told f.val_type

abbrev OfType : Type 0
OfType = (t : ValType) × Told t

abbrev OfCase : Type 0
OfCase = (c : Case) × ToldCase c

abbrev OfField : Type 0
OfField = (f : Field) × ToldField f

pub all_of_entries : {A : Type 0} (P : A → Type 0) (l : List ((x : A) × P x)) → AllByRecursion P (map (λ (e : (x : A) × P x). e.0) l)
all_of_entries P [] = tt
all_of_entries P (e ∷ l) = (e.1, all_of_entries P l)

-- integers
told_s8 : Told leaves.S8
told_s8 m p l r v h = number_found m p l r v leaves.S8 F.S8 (plain.S8 (cast_signed w8 (number w8 p m))) out_s8 tt refl (s8_stands p) (count_s8 _) h

told_u8 : Told leaves.U8
told_u8 m p l r v h = number_found m p l r v leaves.U8 F.U8 (plain.U8 (number w8 p m)) out_u8 tt refl (u8_stands p) (count_u8 _) h

told_s16 : Told leaves.S16
told_s16 m p l r v h = number_found m p l r v leaves.S16 F.S16 (plain.S16 (cast_signed w16 (number w16 p m))) out_s16 tt refl (s16_stands p) (count_s16 _) h

told_u16 : Told leaves.U16
told_u16 m p l r v h = number_found m p l r v leaves.U16 F.U16 (plain.U16 (number w16 p m)) out_u16 tt refl (u16_stands p) (count_u16 _) h

told_s32 : Told leaves.S32
told_s32 m p l r v h = number_found m p l r v leaves.S32 F.S32 (plain.S32 (cast_signed w32 (number w32 p m))) out_s32 tt refl (s32_stands p) (count_s32 _) h

told_u32 : Told leaves.U32
told_u32 m p l r v h = number_found m p l r v leaves.U32 F.U32 (plain.U32 (number w32 p m)) out_u32 tt refl (u32_stands p) (count_u32 _) h

told_own : (resource : ℕ) → Told (leaves.Own resource)
told_own resource m p l r v h =
    number_found m p l r v (leaves.Own resource) (F.Own resource) (plain.Own (record { resource = resource; rep = number w32 p m })) (out_own resource) tt refl (own_stands p resource) (count_own _) h

told_borrow : (resource : ℕ) → Told (leaves.Borrow resource)
told_borrow resource m p l r v h =
    number_found m p l r v (leaves.Borrow resource) (F.Borrow resource) (plain.Borrow (record { resource = resource; rep = number w32 p m })) (out_borrow resource) tt refl (borrow_stands p resource)
    (count_borrow _) h

told_stream : (element : Option ValType) → Told (types.Stream element)
told_stream element m p l r v h =
    number_found m p l r v (types.Stream element) (F.Stream element) (plain.Stream (number w32 p m)) (out_stream element) tt refl (stream_stands p element) (count_stream _) h

told_future : (element : Option ValType) → Told (types.Future element)
told_future element m p l r v h =
    number_found m p l r v (types.Future element) (F.Future element) (plain.Future (number w32 p m)) (out_future element) tt refl (future_stands p element) (count_future _) h

told_s64 : Told leaves.S64
told_s64 m p l r v h = number_found m p l r v leaves.S64 F.S64 (plain.S64 (cast_signed w64 (number w64 p m))) out_s64 tt refl (s64_stands p) (count_s64 _) h

told_u64 : Told leaves.U64
told_u64 m p l r v h = number_found m p l r v leaves.U64 F.U64 (plain.U64 (number w64 p m)) out_u64 tt refl (u64_stands p) (count_u64 _) h

told_bool : Told leaves.Bool
told_bool m p l r v h = bool_found m p l r v h

told_char : Told leaves.Char
told_char m p l r v h = char_found m p l r v h

told_string : Told leaves.String
told_string m p l r v h = string_found m p l r v h

-- records and tuples
types_told : (fields : List Field) → AllByRecursion ToldField fields → AllByRecursion Told (map (λ (f : Field). f.val_type) fields)
types_told [] a = tt
types_told (f ∷ fields) a = (a.0, types_told fields a.1)

told_record : (fields : List Field) → AllByRecursion ToldField fields → Told (types.Record fields)
told_record fields a =
    row_found (types.Record fields) (map (λ (f : Field). f.val_type) fields) (types_told fields a) (subst IsRow (sym (out_record fields)) tt) (parts_of_record fields)
    (λ m p all are. record_stands p fields all are)

told_tuple : (parts : List ValType) → AllByRecursion Told parts → Told (types.Tuple parts)
told_tuple parts a =
    row_found (types.Tuple parts) parts a (subst IsRow (sym (out_tuple parts)) tt) (parts_of_tuple parts) (λ m p all are. tuple_stands p parts all are)

-- variants
payloads_told : (cases : List Case) → AllByRecursion ToldCase cases → (n : ℕ) → n < length cases → ToldRest (part_in (map (λ (c : Case). c.payload) cases) n)
payloads_told [] a n h = absurd (omega arith)
payloads_told (c ∷ cases) a zero h = a.0
payloads_told (c ∷ cases) a (suc n) h = payloads_told cases a.1 n (omega arith)

pub case_there : (cases : List Case) (n : ℕ) → n < length cases → (c : Case) × (slice_get cases n ≡ Some c)
case_there [] n h = absurd (omega arith)
case_there (c ∷ cases) zero h = (c, refl)
case_there (c ∷ cases) (suc n) h = case_there cases n (omega arith)

told_variant : (cases : List Case) → AllByRecursion ToldCase cases → Told (types.Variant cases)
told_variant cases a =
    case_found_in (types.Variant cases) (F.Variant cases) (out_variant cases) tt (payloads_told cases a)
    (λ m p n payload told low is.
    let c = case_there cases n low in
    case_stands p n cases c.0 payload told c.1
    (subst (λ (t : Option ValType). IsPayload m (p + payload_place (types.Variant cases)) t payload) (case_part cases n c.0 c.1) is))

no_payload_is : {m : List ℕ} {p : ℕ} {payload : Option Value} → IsPayload m p None payload → payload ≡ None
no_payload_is (no_payload p) = refl

told_enum : (labels : List (List ℕ)) → Told (leaves.Enum labels)
told_enum labels =
    case_found_in (leaves.Enum labels) (F.Enum labels) (out_enum labels) tt (λ n h. told_nothing)
    (λ m p n payload told low is.
    subst (λ (o : Option Value). Stands m p (leaves.Enum labels) (values.Variant n o)) (sym (no_payload_is is)) (enum_stands p n labels told low))

option_payloads : (part : ValType) → Told part → (n : ℕ) → n < 2 → ToldRest (part_in (None ∷ Some part ∷ []) n)
option_payloads part told zero h = told_nothing
option_payloads part told (suc zero) h = told_payload part told
option_payloads part told (suc (suc n)) h = absurd (omega arith)

option_stands : (part : ValType) (m : List ℕ) (p n : ℕ) (payload : Option Value) → tag 2 p m ≡ n → n < 2
    → IsPayload m (p + payload_place (types.Option part)) (part_in (None ∷ Some part ∷ []) n) payload → Stands m p (types.Option part) (values.Variant n payload)
option_stands part m p zero payload told low is =
    subst (λ (o : Option Value). Stands m p (types.Option part) (values.Variant 0 o)) (sym (no_payload_is is)) (none_stands p part told)
option_stands part m p (suc zero) payload told low is = some_stands p part payload told is
option_stands part m p (suc (suc n)) payload told low is = absurd (omega arith)

told_option : (part : ValType) → Told part → Told (types.Option part)
told_option part told = case_found_in (types.Option part) (F.Option part) (out_option part) tt (option_payloads part told) (option_stands part)

result_payloads : (ok err : Option ValType) → ToldRest ok → ToldRest err → (n : ℕ) → n < 2 → ToldRest (part_in (ok ∷ err ∷ []) n)
result_payloads ok err a b zero h = a
result_payloads ok err a b (suc zero) h = b
result_payloads ok err a b (suc (suc n)) h = absurd (omega arith)

result_stands : (ok err : Option ValType) (m : List ℕ) (p n : ℕ) (payload : Option Value) → tag 2 p m ≡ n → n < 2
    → IsPayload m (p + payload_place (types.Result ok err)) (part_in (ok ∷ err ∷ []) n) payload → Stands m p (types.Result ok err) (values.Variant n payload)
result_stands ok err m p zero payload told low is = ok_stands p ok err payload told is
result_stands ok err m p (suc zero) payload told low is = err_stands p ok err payload told is
result_stands ok err m p (suc (suc n)) payload told low is = absurd (omega arith)

told_result : (ok err : Option ValType) → ToldRest ok → ToldRest err → Told (types.Result ok err)
told_result ok err a b = case_found_in (types.Result ok err) (F.Result ok err) (out_result ok err) tt (result_payloads ok err a b) (result_stands ok err)

-- every type
told_at : (s t : ValType) → s ≡ t → Told t → Told s
told_at s t e told = subst Told (sym e) told

abbrev layer : F.ValType-F OfType OfCase OfField → F.ValType-F ValType Case Field
layer y = map-ValType OfType OfCase OfField ValType Case Field (λ e. e.0) (λ e. e.0) (λ e. e.0) y

pub out_of_roll : (x : F.ValType-F ValType Case Field) → out-ValType (roll-ValType x) ≡ x
out_of_roll x = search (rules, the_lemmas)

told_step : (y : F.ValType-F OfType OfCase OfField) → Told (roll-ValType (layer y))
told_step F.Bool = told_at _ leaves.Bool rolls-Bool told_bool
told_step F.S8 = told_at _ leaves.S8 rolls-S8 told_s8
told_step F.U8 = told_at _ leaves.U8 rolls-U8 told_u8
told_step F.S16 = told_at _ leaves.S16 rolls-S16 told_s16
told_step F.U16 = told_at _ leaves.U16 rolls-U16 told_u16
told_step F.S32 = told_at _ leaves.S32 rolls-S32 told_s32
told_step F.U32 = told_at _ leaves.U32 rolls-U32 told_u32
told_step F.S64 = told_at _ leaves.S64 rolls-S64 told_s64
told_step F.U64 = told_at _ leaves.U64 rolls-U64 told_u64
told_step F.Char = told_at _ leaves.Char rolls-Char told_char
told_step F.String = told_at _ leaves.String rolls-String told_string
told_step (F.Record fields) =
    let all = map (λ (e : OfField). e.0) fields in
    told_at (roll-ValType (F.Record all)) (types.Record all) (rolls-Record all) (told_record all (all_of_entries ToldField fields))
told_step (F.Variant cases) =
    let all = map (λ (e : OfCase). e.0) cases in
    told_at (roll-ValType (F.Variant all)) (types.Variant all) (rolls-Variant all) (told_variant all (all_of_entries ToldCase cases))
told_step (F.List e) = told_at (roll-ValType (F.List e.0)) (types.List e.0) (rolls-List e.0) (list_found e.0 e.1)
told_step (F.Tuple parts) =
    let all = map (λ (e : OfType). e.0) parts in
    told_at (roll-ValType (F.Tuple all)) (types.Tuple all) (rolls-Tuple all) (told_tuple all (all_of_entries Told parts))
told_step (F.Flags labels) = told_at (roll-ValType (F.Flags labels)) (leaves.Flags labels) (rolls-Flags labels) (flags_found labels)
told_step (F.Enum labels) = told_at (roll-ValType (F.Enum labels)) (leaves.Enum labels) (rolls-Enum labels) (told_enum labels)
told_step (F.Option e) = told_at (roll-ValType (F.Option e.0)) (types.Option e.0) (rolls-Option e.0) (told_option e.0 e.1)
told_step (F.Result None None) = told_at (roll-ValType (F.Result None None)) (types.Result None None) (rolls-Result None None) (told_result None None told_nothing told_nothing)
told_step (F.Result None (Some e)) =
    told_at (roll-ValType (F.Result None (Some e.0))) (types.Result None (Some e.0)) (rolls-Result None (Some e.0)) (told_result None (Some e.0) told_nothing (told_payload e.0 e.1))
told_step (F.Result (Some o) None) =
    told_at (roll-ValType (F.Result (Some o.0) None)) (types.Result (Some o.0) None) (rolls-Result (Some o.0) None) (told_result (Some o.0) None (told_payload o.0 o.1) told_nothing)
told_step (F.Result (Some o) (Some e)) =
    told_at (roll-ValType (F.Result (Some o.0) (Some e.0))) (types.Result (Some o.0) (Some e.0)) (rolls-Result (Some o.0) (Some e.0))
    (told_result (Some o.0) (Some e.0) (told_payload o.0 o.1) (told_payload e.0 e.1))
told_step (F.Own n) = told_at (roll-ValType (F.Own n)) (leaves.Own n) (rolls-Own n) (told_own n)
told_step (F.Borrow n) = told_at (roll-ValType (F.Borrow n)) (leaves.Borrow n) (rolls-Borrow n) (told_borrow n)
told_step (F.Stream None) = told_at (roll-ValType (F.Stream None)) (types.Stream None) (rolls-Stream None) (told_stream None)
told_step (F.Stream (Some e)) = told_at (roll-ValType (F.Stream (Some e.0))) (types.Stream (Some e.0)) (rolls-Stream (Some e.0)) (told_stream (Some e.0))
told_step (F.Future None) = told_at (roll-ValType (F.Future None)) (types.Future None) (rolls-Future None) (told_future None)
told_step (F.Future (Some e)) = told_at (roll-ValType (F.Future (Some e.0))) (types.Future (Some e.0)) (rolls-Future (Some e.0)) (told_future (Some e.0))

told_case_step : (y : F.Case-F OfType OfCase OfField) → ToldCase (roll-Case (map-Case OfType OfCase OfField ValType Case Field (λ e. e.0) (λ e. e.0) (λ e. e.0) y))
told_case_step y =
    elim y.payload as (λ p. ToldCase (roll-Case (map-Case OfType OfCase OfField ValType Case Field (λ e. e.0) (λ e. e.0) (λ e. e.0) (record { label = y.label; payload = p })))) [
      | Some e ↦ told_payload e.0 e.1
      | None ↦ told_nothing
    ]

told_field_step : (y : F.Field-F OfType OfCase OfField) → ToldField (roll-Field (map-Field OfType OfCase OfField ValType Case Field (λ e. e.0) (λ e. e.0) (λ e. e.0) y))
told_field_step y = y.val_type.1

pub told_type : (t : ValType) → Told t
told_type =
    ind-ValType Told ToldCase ToldField
    (λ x y e. subst (λ (z : F.ValType-F ValType Case Field). Told (roll-ValType z)) e (told_step y))
    (λ x y e. subst (λ (z : F.Case-F ValType Case Field). ToldCase (roll-Case z)) e (told_case_step y))
    (λ x y e. subst (λ (z : F.Field-F ValType Case Field). ToldField (roll-Field z)) e (told_field_step y))
