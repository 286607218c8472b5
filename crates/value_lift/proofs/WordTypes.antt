-- What is lifted from core values is what they stand for, for every type.
use Rattle.std.proofs.Common.{◌≡◌, ◌<◌, ℕ, zero, suc, List, [], ◌∷◌, map, length, Option, Some, None, refl, sym, subst, arith}
use Rattle.std.specs.List.{AllByRecursion}
use Rattle.syntax_trees.specs.declared.types.ValType.{ValType, roll-ValType}
use Rattle.syntax_trees.specs.declared.types.Case.{Case}
use Rattle.syntax_trees.specs.declared.types.Field.{Field}
use Rattle.syntax_trees.specs.declared.types.ValType.TheViews as types
use Rattle.syntax_trees.specs.declared.types.ValType.TheViews.{roll-Case, roll-Field}
use Rattle.syntax_trees.specs.declared.types.ValType.TheVariants as leaves
use Rattle.syntax_trees.specs.declared.types.ValType.TheVariants.{rolls-Bool, rolls-S8, rolls-U8, rolls-S16, rolls-U16, rolls-S32, rolls-U32, rolls-S64, rolls-U64, rolls-Char, rolls-String, rolls-Record, rolls-Variant, rolls-List, rolls-Tuple, rolls-Flags, rolls-Enum, rolls-Option, rolls-Result, rolls-Own, rolls-Borrow, rolls-Stream, rolls-Future}
use Rattle.syntax_trees.specs.declared.types.ValType.TheOpen as F
use Rattle.syntax_trees.specs.declared.types.ValType.TheFolds.{ind-ValType, map-ValType, map-Case, map-Field}
use Rattle.syntax_trees.specs.declared.value.Value.{Value}
use Rattle.syntax_trees.specs.declared.value.Value.TheViews as values
use Rattle.value_lift.specs.Pieces.{part_in}
use Rattle.value_lift.specs.WordStanding.{wrapped, FlatOf, IsFlatPayload, record_flat, tuple_flat, case_flat, enum_flat, none_flat, some_flat, ok_flat, err_flat, no_flat_payload}
use Rattle.value_lift.proofs.Forms.{IsRow}
use Rattle.value_lift.proofs.Stood.{parts_of_record, parts_of_tuple, case_part}
use Rattle.value_lift.proofs.TypesFound.{all_of_entries, case_there}
use Rattle.value_lift.proofs.Views.{out_record, out_tuple, out_variant, out_enum, out_option, out_result}
use Rattle.value_lift.proofs.WordStood.{flat_of_record, flat_of_tuple}
use Rattle.value_lift.proofs.WordFound.{WordTold, WordToldRest, word_told_nothing, word_told_payload, word_bool, word_s8, word_u8, word_s16, word_u16, word_s32, word_u32, word_own, word_borrow, word_stream, word_future, word_s64, word_u64, word_char, word_string, word_flags, word_list, word_row, word_cases}
use Rattle.value_lift.proofs.Wrapped.{shares, enum_shares}

abbrev ToldCase : Case → Type 0
ToldCase c = WordToldRest c.payload

abbrev ToldField : Field → Type 0
ToldField f = WordTold f.val_type

abbrev OfType : Type 0
OfType = (t : ValType) × WordTold t

abbrev OfCase : Type 0
OfCase = (c : Case) × ToldCase c

abbrev OfField : Type 0
OfField = (f : Field) × ToldField f

-- records and tuples
types_told : (fields : List Field) → AllByRecursion ToldField fields → AllByRecursion WordTold (map (λ (f : Field). f.val_type) fields)
types_told [] a = tt
types_told (f ∷ fields) a = (a.0, types_told fields a.1)

told_record : (fields : List Field) → AllByRecursion ToldField fields → WordTold (types.Record fields)
told_record fields a =
    word_row (types.Record fields) (map (λ (f : Field). f.val_type) fields) (types_told fields a) (subst IsRow (sym (out_record fields)) tt) (parts_of_record fields) (flat_of_record fields)
    (λ m all ws are. record_flat fields all ws are)

told_tuple : (parts : List ValType) → AllByRecursion WordTold parts → WordTold (types.Tuple parts)
told_tuple parts a =
    word_row (types.Tuple parts) parts a (subst IsRow (sym (out_tuple parts)) tt) (parts_of_tuple parts) (flat_of_tuple parts) (λ m all ws are. tuple_flat parts all ws are)

-- variants
payloads_told : (cases : List Case) → AllByRecursion ToldCase cases → (n : ℕ) → n < length cases → WordToldRest (part_in (map (λ (c : Case). c.payload) cases) n)
payloads_told [] a n h = absurd (omega arith)
payloads_told (c ∷ cases) a zero h = a.0
payloads_told (c ∷ cases) a (suc n) h = payloads_told cases a.1 n (omega arith)

told_variant : (cases : List Case) → AllByRecursion ToldCase cases → WordTold (types.Variant cases)
told_variant cases a =
    word_cases (types.Variant cases) (F.Variant cases) (out_variant cases) tt (payloads_told cases a)
    (λ m n payload others below is.
    let c = case_there cases n below in
    let ws : List ℕ = wrapped (shares (F.Variant cases) tt).types others in
    case_flat n cases c.0 payload ws c.1 (subst (λ (t : Option ValType). IsFlatPayload m t payload ws) (case_part cases n c.0 c.1) is))

no_payload_is : {m : List ℕ} {payload : Option Value} {ws : List ℕ} → IsFlatPayload m None payload ws → payload ≡ None
no_payload_is (no_flat_payload ws) = refl

told_enum : (labels : List (List ℕ)) → WordTold (leaves.Enum labels)
told_enum labels =
    word_cases (leaves.Enum labels) (F.Enum labels) (out_enum labels) tt (λ n h. word_told_nothing)
    (λ m n payload others below is.
    subst (λ (ws : List ℕ). FlatOf m (leaves.Enum labels) (values.Variant n payload) (n ∷ ws)) (sym (enum_shares labels others))
    (subst (λ (o : Option Value). FlatOf m (leaves.Enum labels) (values.Variant n o) (n ∷ [])) (sym (no_payload_is is)) (enum_flat n labels below)))

option_payloads : (part : ValType) → WordTold part → (n : ℕ) → n < 2 → WordToldRest (part_in (None ∷ Some part ∷ []) n)
option_payloads part told zero h = word_told_nothing
option_payloads part told (suc zero) h = word_told_payload part told
option_payloads part told (suc (suc n)) h = absurd (omega arith)

option_flat : (part : ValType) (m : List ℕ) (n : ℕ) (payload : Option Value) (ws : List ℕ) → n < 2
    → IsFlatPayload m (part_in (None ∷ Some part ∷ []) n) payload ws → FlatOf m (types.Option part) (values.Variant n payload) (n ∷ ws)
option_flat part m zero payload ws below is =
    subst (λ (o : Option Value). FlatOf m (types.Option part) (values.Variant 0 o) (0 ∷ ws)) (sym (no_payload_is is)) (none_flat part ws)
option_flat part m (suc zero) payload ws below is = some_flat part payload ws is
option_flat part m (suc (suc n)) payload ws below is = absurd (omega arith)

told_option : (part : ValType) → WordTold part → WordTold (types.Option part)
told_option part told =
    word_cases (types.Option part) (F.Option part) (out_option part) tt (option_payloads part told)
    (λ m n payload others below is. option_flat part m n payload (wrapped (shares (F.Option part) tt).types others) below is)

result_payloads : (ok err : Option ValType) → WordToldRest ok → WordToldRest err → (n : ℕ) → n < 2 → WordToldRest (part_in (ok ∷ err ∷ []) n)
result_payloads ok err a b zero h = a
result_payloads ok err a b (suc zero) h = b
result_payloads ok err a b (suc (suc n)) h = absurd (omega arith)

result_flat : (ok err : Option ValType) (m : List ℕ) (n : ℕ) (payload : Option Value) (ws : List ℕ) → n < 2
    → IsFlatPayload m (part_in (ok ∷ err ∷ []) n) payload ws → FlatOf m (types.Result ok err) (values.Variant n payload) (n ∷ ws)
result_flat ok err m zero payload ws below is = ok_flat ok err payload ws is
result_flat ok err m (suc zero) payload ws below is = err_flat ok err payload ws is
result_flat ok err m (suc (suc n)) payload ws below is = absurd (omega arith)

told_result : (ok err : Option ValType) → WordToldRest ok → WordToldRest err → WordTold (types.Result ok err)
told_result ok err a b =
    word_cases (types.Result ok err) (F.Result ok err) (out_result ok err) tt (result_payloads ok err a b)
    (λ m n payload others below is. result_flat ok err m n payload (wrapped (shares (F.Result ok err) tt).types others) below is)

-- every type
told_at : (s t : ValType) → s ≡ t → WordTold t → WordTold s
told_at s t e told = subst WordTold (sym e) told

abbrev layer : F.ValType-F OfType OfCase OfField → F.ValType-F ValType Case Field
layer y = map-ValType OfType OfCase OfField ValType Case Field (λ e. e.0) (λ e. e.0) (λ e. e.0) y

told_step : (y : F.ValType-F OfType OfCase OfField) → WordTold (roll-ValType (layer y))
told_step F.Bool = told_at _ leaves.Bool rolls-Bool word_bool
told_step F.S8 = told_at _ leaves.S8 rolls-S8 word_s8
told_step F.U8 = told_at _ leaves.U8 rolls-U8 word_u8
told_step F.S16 = told_at _ leaves.S16 rolls-S16 word_s16
told_step F.U16 = told_at _ leaves.U16 rolls-U16 word_u16
told_step F.S32 = told_at _ leaves.S32 rolls-S32 word_s32
told_step F.U32 = told_at _ leaves.U32 rolls-U32 word_u32
told_step F.S64 = told_at _ leaves.S64 rolls-S64 word_s64
told_step F.U64 = told_at _ leaves.U64 rolls-U64 word_u64
told_step F.Char = told_at _ leaves.Char rolls-Char word_char
told_step F.String = told_at _ leaves.String rolls-String word_string
told_step (F.Record fields) =
    let all = map (λ (e : OfField). e.0) fields in
    told_at (roll-ValType (F.Record all)) (types.Record all) (rolls-Record all) (told_record all (all_of_entries ToldField fields))
told_step (F.Variant cases) =
    let all = map (λ (e : OfCase). e.0) cases in
    told_at (roll-ValType (F.Variant all)) (types.Variant all) (rolls-Variant all) (told_variant all (all_of_entries ToldCase cases))
told_step (F.List e) = told_at (roll-ValType (F.List e.0)) (types.List e.0) (rolls-List e.0) (word_list e.0)
told_step (F.Tuple parts) =
    let all = map (λ (e : OfType). e.0) parts in
    told_at (roll-ValType (F.Tuple all)) (types.Tuple all) (rolls-Tuple all) (told_tuple all (all_of_entries WordTold parts))
told_step (F.Flags labels) = told_at (roll-ValType (F.Flags labels)) (leaves.Flags labels) (rolls-Flags labels) (word_flags labels)
told_step (F.Enum labels) = told_at (roll-ValType (F.Enum labels)) (leaves.Enum labels) (rolls-Enum labels) (told_enum labels)
told_step (F.Option e) = told_at (roll-ValType (F.Option e.0)) (types.Option e.0) (rolls-Option e.0) (told_option e.0 e.1)
told_step (F.Result None None) =
    told_at (roll-ValType (F.Result None None)) (types.Result None None) (rolls-Result None None) (told_result None None word_told_nothing word_told_nothing)
told_step (F.Result None (Some e)) =
    told_at (roll-ValType (F.Result None (Some e.0))) (types.Result None (Some e.0)) (rolls-Result None (Some e.0)) (told_result None (Some e.0) word_told_nothing (word_told_payload e.0 e.1))
told_step (F.Result (Some o) None) =
    told_at (roll-ValType (F.Result (Some o.0) None)) (types.Result (Some o.0) None) (rolls-Result (Some o.0) None) (told_result (Some o.0) None (word_told_payload o.0 o.1) word_told_nothing)
told_step (F.Result (Some o) (Some e)) =
    told_at (roll-ValType (F.Result (Some o.0) (Some e.0))) (types.Result (Some o.0) (Some e.0)) (rolls-Result (Some o.0) (Some e.0))
    (told_result (Some o.0) (Some e.0) (word_told_payload o.0 o.1) (word_told_payload e.0 e.1))
told_step (F.Own n) = told_at (roll-ValType (F.Own n)) (leaves.Own n) (rolls-Own n) (word_own n)
told_step (F.Borrow n) = told_at (roll-ValType (F.Borrow n)) (leaves.Borrow n) (rolls-Borrow n) (word_borrow n)
told_step (F.Stream None) = told_at (roll-ValType (F.Stream None)) (types.Stream None) (rolls-Stream None) (word_stream None)
told_step (F.Stream (Some e)) = told_at (roll-ValType (F.Stream (Some e.0))) (types.Stream (Some e.0)) (rolls-Stream (Some e.0)) (word_stream (Some e.0))
told_step (F.Future None) = told_at (roll-ValType (F.Future None)) (types.Future None) (rolls-Future None) (word_future None)
told_step (F.Future (Some e)) = told_at (roll-ValType (F.Future (Some e.0))) (types.Future (Some e.0)) (rolls-Future (Some e.0)) (word_future (Some e.0))

told_case_step : (y : F.Case-F OfType OfCase OfField) → ToldCase (roll-Case (map-Case OfType OfCase OfField ValType Case Field (λ e. e.0) (λ e. e.0) (λ e. e.0) y))
told_case_step y =
    elim y.payload as (λ p. ToldCase (roll-Case (map-Case OfType OfCase OfField ValType Case Field (λ e. e.0) (λ e. e.0) (λ e. e.0) (record { label = y.label; payload = p })))) [
      | Some e ↦ word_told_payload e.0 e.1
      | None ↦ word_told_nothing
    ]

told_field_step : (y : F.Field-F OfType OfCase OfField) → ToldField (roll-Field (map-Field OfType OfCase OfField ValType Case Field (λ e. e.0) (λ e. e.0) (λ e. e.0) y))
told_field_step y = y.val_type.1

pub word_told_type : (t : ValType) → WordTold t
word_told_type =
    ind-ValType WordTold ToldCase ToldField
    (λ x y e. subst (λ (z : F.ValType-F ValType Case Field). WordTold (roll-ValType z)) e (told_step y))
    (λ x y e. subst (λ (z : F.Case-F ValType Case Field). ToldCase (roll-Case z)) e (told_case_step y))
    (λ x y e. subst (λ (z : F.Field-F ValType Case Field). ToldField (roll-Field z)) e (told_field_step y))
