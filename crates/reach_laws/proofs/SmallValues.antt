-- Values of a type hold handles with representations below 2^32 alone, and so does what a script passes.
use Rattle.std.proofs.Common.{◌≡◌, ◌||◌, ◌+◌, ℕ, suc, Bool, true, false, List, [], ◌∷◌, map, refl, Option, Some, None}
use Rattle.std.specs.List.{slice_get, AllByRecursion}
use Rattle.syntax_trees.specs.Ends.{some_true}
use Rattle.syntax_trees.specs.declared.types.ValType.{ValType}
use Rattle.syntax_trees.specs.declared.value.Value.{Value}
use Rattle.syntax_trees.specs.declared.value.Value.TheOpen as V
use Rattle.syntax_trees.specs.declared.value.Value.TheVariants as plain
use Rattle.comp_graph.specs.Graph.{Graph}
use Rattle.script_reader.specs.declared.script.Item.{Item}
use Rattle.script_reader.specs.declared.script.Item.TheVariants as item
use Rattle.script_reader.specs.Script.{Script}
use Rattle.abi_machine.specs.sound.Scripts.{AreItemsFor, IsScriptFor}
use Rattle.abi_machine.specs.sound.TypedSteps.{PassesFit, PassesTyped}
use Rattle.abi_machine.specs.sound.Values.{IsOf, bool_is, s8_is, u8_is, s16_is, u16_is, s32_is, u32_is, s64_is, u64_is, char_is, own_is, borrow_is, stream_is, future_is, string_is, list_is, record_is, tuple_is, flags_are, case_is, enum_is, none_is, some_is, ok_is, err_is, AllAre, none_are, more_are, EachIs, no_types, more_types, PayloadIs, no_payload_is, payload_is}
use Rattle.abi_machine.specs.sound.Words.{has_big, AreSmall, ItemPassesSmall, ScriptPassesSmall}
use Rattle.abi_machine.proofs.sound.words.Values.{IsSmall, IsSmallAny, small_leaf, none_small, small_record, small_list, small_variant, small_own, small_borrow}

either_none : (a b : Bool) → (a ≡ true → ⊥) → (b ≡ true → ⊥) → (a || b) ≡ true → ⊥
either_none true b h k e = h refl
either_none false b h k e = k e

pub one_before : (v : Value) (all : List Value) → IsSmall v → AreSmall all → AreSmall (v ∷ all)
one_before v all h k e = either_none (has_big v) (some_true (map has_big all)) h k e

mutual
  is_small : {t : ValType} {v : Value} → IsOf t v → IsSmall v
  is_small (bool_is b) = small_leaf (V.Bool b) (plain.Bool b) (plain.rolls-Bool b) refl
  is_small (s8_is n f) = small_leaf (V.S8 n) (plain.S8 n) (plain.rolls-S8 n) refl
  is_small (u8_is n f) = small_leaf (V.U8 n) (plain.U8 n) (plain.rolls-U8 n) refl
  is_small (s16_is n f) = small_leaf (V.S16 n) (plain.S16 n) (plain.rolls-S16 n) refl
  is_small (u16_is n f) = small_leaf (V.U16 n) (plain.U16 n) (plain.rolls-U16 n) refl
  is_small (s32_is n f) = small_leaf (V.S32 n) (plain.S32 n) (plain.rolls-S32 n) refl
  is_small (u32_is n f) = small_leaf (V.U32 n) (plain.U32 n) (plain.rolls-U32 n) refl
  is_small (s64_is n f) = small_leaf (V.S64 n) (plain.S64 n) (plain.rolls-S64 n) refl
  is_small (u64_is n f) = small_leaf (V.U64 n) (plain.U64 n) (plain.rolls-U64 n) refl
  is_small (char_is c f) = small_leaf (V.Char c) (plain.Char c) (plain.rolls-Char c) refl
  is_small (own_is resource n f) = small_own resource n f
  is_small (borrow_is resource n f) = small_borrow resource n f
  is_small (stream_is element n) = small_leaf (V.Stream n) (plain.Stream n) (plain.rolls-Stream n) refl
  is_small (future_is element n) = small_leaf (V.Future n) (plain.Future n) (plain.rolls-Future n) refl
  is_small (string_is text f) = small_leaf (V.String text) (plain.String text) (plain.rolls-String text) refl
  is_small (list_is element all h) = small_list all (all_small h)
  is_small (record_is fields all h) = small_record all (each_small h)
  is_small (tuple_is parts all h) = small_record all (each_small h)
  is_small (flags_are labels flags e f) = small_leaf (V.Flags flags) (plain.Flags flags) (plain.rolls-Flags flags) refl
  is_small (case_is n cases c payload f e h) = small_variant n payload (payload_small h)
  is_small (enum_is n labels f e) = small_variant n None tt
  is_small (none_is part) = small_variant 0 None tt
  is_small (some_is part payload h) = small_variant 1 payload (payload_small h)
  is_small (ok_is ok err payload h) = small_variant 0 payload (payload_small h)
  is_small (err_is ok err payload h) = small_variant 1 payload (payload_small h)

  all_small : {t : ValType} {all : List Value} → AllAre t all → AreSmall all
  all_small (none_are t) = none_small
  all_small (more_are t v all h k) = one_before v all (is_small h) (all_small k)

  each_small : {types : List ValType} {all : List Value} → EachIs types all → AreSmall all
  each_small no_types = none_small
  each_small (more_types t types v all h k) = one_before v all (is_small h) (each_small k)

  payload_small : {type : Option ValType} {payload : Option Value} → PayloadIs type payload → IsSmallAny payload
  payload_small no_payload_is = tt
  payload_small (payload_is t v h) = is_small h

items_small : (g : Graph) (calls : ℕ) (items : List Item) → AreItemsFor g calls items → ((n : ℕ) (i : Item) → slice_get items n ≡ Some i → PassesFit g i) → AllByRecursion ItemPassesSmall items
items_small g calls [] h fits = tt
items_small g calls (item.Call call ∷ items) h fits = (each_small (fits 0 (item.Call call) refl h.0.func h.0.named), items_small g (calls + 1) items h.1 (λ n i e. fits (suc n) i e))
items_small g calls (item.Cancel call ∷ items) h fits = (tt, items_small g calls items h.2 (λ n i e. fits (suc n) i e))

pub passes_small : (g : Graph) (s : Script) → IsScriptFor g s → PassesTyped g s → ScriptPassesSmall s
passes_small g s fits typed = items_small g 0 s.items fits typed
