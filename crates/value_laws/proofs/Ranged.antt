-- A value of a type stays one where each index in it is replaced by what it names, a 32-bit number.
use Rattle.std.proofs.Common.{◌≡◌, ◌∙◌, ◌<◌, ◌^◌, ℕ, List, map, Option, None, refl, ap, sym, subst}
use Rattle.std.specs.Option.{option_map}
use Rattle.syntax_trees.specs.declared.types.ValType.{ValType}
use Rattle.syntax_trees.specs.declared.types.ValType.TheViews as types
use Rattle.syntax_trees.specs.declared.types.ValType.TheVariants as leaves
use Rattle.syntax_trees.specs.declared.value.Value.{Value, roll-Value}
use Rattle.syntax_trees.specs.declared.value.Value.TheOpen as V
use Rattle.syntax_trees.specs.declared.value.Value.TheViews as values
use Rattle.syntax_trees.specs.declared.value.Value.TheVariants as plain
use Rattle.syntax_trees.specs.declared.value.Value.TheFolds.{map-Value, fold-roll-Value}
use Rattle.value_lift.specs.Settled.{carried_step, carried}
use Rattle.value_lift.proofs.Carried.{carried_list, carried_record, carried_variant}
use Rattle.lowering_laws.specs.Values.{IsOf, AllAre, EachIs, PayloadIs, bool_is, s8_is, u8_is, s16_is, u16_is, s32_is, u32_is, s64_is, u64_is, char_is, own_is, borrow_is, stream_is, future_is, string_is, list_is, record_is, tuple_is, flags_are, case_is, enum_is, none_is, some_is, ok_is, err_is, none_are, more_are, no_types, more_types, no_payload_is, payload_is}

module _ (names : ℕ → ℕ) (low : (index : ℕ) → names index < 2 ^ 32) where
  as_step : (t : ValType) (v w : Value) (o : V.Value-F Value) → roll-Value o ≡ v → carried_step names (map-Value Value Value (carried names) o) ≡ w → IsOf t w → IsOf t (carried names v)
  as_step t v w o e f of = subst (λ (x : Value). IsOf t x) (sym (ap (carried names) (sym e) ∙ fold-roll-Value Value (carried_step names) o ∙ f)) of

  same : (t : ValType) (v : Value) (o : V.Value-F Value) → roll-Value o ≡ v → carried_step names (map-Value Value Value (carried names) o) ≡ roll-Value o → IsOf t v → IsOf t (carried names v)
  same t v o e f of = as_step t v v o e (f ∙ e) of

  as_variant : (t : ValType) (n : ℕ) (payload : Option Value) → IsOf t (values.Variant n (option_map (carried names) payload)) → IsOf t (carried names (values.Variant n payload))
  as_variant t n payload of = subst (λ (x : Value). IsOf t x) (sym (carried_variant names n payload)) of

  mutual
    pub carried_is : {t : ValType} {v : Value} → IsOf t v → IsOf t (carried names v)
    carried_is (bool_is b) = same leaves.Bool (plain.Bool b) (V.Bool b) (plain.rolls-Bool b) refl (bool_is b)
    carried_is (s8_is n f) = same leaves.S8 (plain.S8 n) (V.S8 n) (plain.rolls-S8 n) refl (s8_is n f)
    carried_is (u8_is n f) = same leaves.U8 (plain.U8 n) (V.U8 n) (plain.rolls-U8 n) refl (u8_is n f)
    carried_is (s16_is n f) = same leaves.S16 (plain.S16 n) (V.S16 n) (plain.rolls-S16 n) refl (s16_is n f)
    carried_is (u16_is n f) = same leaves.U16 (plain.U16 n) (V.U16 n) (plain.rolls-U16 n) refl (u16_is n f)
    carried_is (s32_is n f) = same leaves.S32 (plain.S32 n) (V.S32 n) (plain.rolls-S32 n) refl (s32_is n f)
    carried_is (u32_is n f) = same leaves.U32 (plain.U32 n) (V.U32 n) (plain.rolls-U32 n) refl (u32_is n f)
    carried_is (s64_is n f) = same leaves.S64 (plain.S64 n) (V.S64 n) (plain.rolls-S64 n) refl (s64_is n f)
    carried_is (u64_is n f) = same leaves.U64 (plain.U64 n) (V.U64 n) (plain.rolls-U64 n) refl (u64_is n f)
    carried_is (char_is c f) = same leaves.Char (plain.Char c) (V.Char c) (plain.rolls-Char c) refl (char_is c f)
    carried_is (own_is resource n f) =
        as_step (leaves.Own resource) (plain.Own (record { resource = resource; rep = n })) (plain.Own (record { resource = resource; rep = names n })) (V.Own (record { resource = resource; rep = n }))
        (plain.rolls-Own (record { resource = resource; rep = n })) refl (own_is resource (names n) (low n))
    carried_is (borrow_is resource n f) =
        as_step (leaves.Borrow resource) (plain.Borrow (record { resource = resource; rep = n })) (plain.Borrow (record { resource = resource; rep = names n })) (V.Borrow (record { resource = resource; rep = n }))
        (plain.rolls-Borrow (record { resource = resource; rep = n })) refl (borrow_is resource (names n) (low n))
    carried_is (stream_is element n f) =
        as_step (types.Stream element) (plain.Stream n) (plain.Stream (names n)) (V.Stream n) (plain.rolls-Stream n) refl (stream_is element (names n) (low n))
    carried_is (future_is element n f) =
        as_step (types.Future element) (plain.Future n) (plain.Future (names n)) (V.Future n) (plain.rolls-Future n) refl (future_is element (names n) (low n))
    carried_is (string_is text f) = same leaves.String (plain.String text) (V.String text) (plain.rolls-String text) refl (string_is text f)
    carried_is (list_is element all are) =
        subst (λ (x : Value). IsOf (types.List element) x) (sym (carried_list names all)) (list_is element (map (carried names) all) (all_carried_are are))
    carried_is (record_is fields all are) =
        subst (λ (x : Value). IsOf (types.Record fields) x) (sym (carried_record names all)) (record_is fields (map (carried names) all) (each_carried_is are))
    carried_is (tuple_is parts all are) =
        subst (λ (x : Value). IsOf (types.Tuple parts) x) (sym (carried_record names all)) (tuple_is parts (map (carried names) all) (each_carried_is are))
    carried_is (flags_are labels flags many few) = same (leaves.Flags labels) (plain.Flags flags) (V.Flags flags) (plain.rolls-Flags flags) refl (flags_are labels flags many few)
    carried_is (case_is n cases c payload few there of) =
        as_variant (types.Variant cases) n payload (case_is n cases c (option_map (carried names) payload) few there (payload_carried_is of))
    carried_is (enum_is n labels few less) = as_variant (leaves.Enum labels) n None (enum_is n labels few less)
    carried_is (none_is part) = as_variant (types.Option part) 0 None (none_is part)
    carried_is (some_is part payload of) = as_variant (types.Option part) 1 payload (some_is part (option_map (carried names) payload) (payload_carried_is of))
    carried_is (ok_is ok err payload of) = as_variant (types.Result ok err) 0 payload (ok_is ok err (option_map (carried names) payload) (payload_carried_is of))
    carried_is (err_is ok err payload of) = as_variant (types.Result ok err) 1 payload (err_is ok err (option_map (carried names) payload) (payload_carried_is of))

    pub all_carried_are : {element : ValType} {all : List Value} → AllAre element all → AllAre element (map (carried names) all)
    all_carried_are (none_are element) = none_are element
    all_carried_are (more_are element v all of are) = more_are element (carried names v) (map (carried names) all) (carried_is of) (all_carried_are are)

    each_carried_is : {types : List ValType} {all : List Value} → EachIs types all → EachIs types (map (carried names) all)
    each_carried_is no_types = no_types
    each_carried_is (more_types t types v all of are) = more_types t types (carried names v) (map (carried names) all) (carried_is of) (each_carried_is are)

    payload_carried_is : {p : Option ValType} {payload : Option Value} → PayloadIs p payload → PayloadIs p (option_map (carried names) payload)
    payload_carried_is no_payload_is = no_payload_is
    payload_carried_is (payload_is t v of) = payload_is t (carried names v) (carried_is of)
