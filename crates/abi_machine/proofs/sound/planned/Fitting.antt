-- Values that fit types and are in their ranges are of these types, and so are arguments.
use Rattle.std.proofs.Common.{List, [], ◌∷◌, Option}
use Rattle.syntax_trees.specs.declared.types.ValType.{ValType}
use Rattle.syntax_trees.specs.declared.value.Value.{Value}
use Rattle.script_reader.specs.Script.{AreOfTypes}
use Rattle.lowering_laws.specs.Values.{InRange, AllInRange, none_in, more_in}
use Rattle.lowering_laws.specs.Values as canonical
use Rattle.lowering_laws.proofs.Fitted.{fitted}
use Rattle.abi_machine.specs.sound.Values.{IsOf, AllAre, EachIs, PayloadIs, bool_is, s8_is, u8_is, s16_is, u16_is, s32_is, u32_is, s64_is, u64_is, char_is, own_is, borrow_is, stream_is, future_is, string_is, list_is, record_is, tuple_is, flags_are, case_is, enum_is, none_is, some_is, ok_is, err_is, none_are, more_are, no_types, more_types, no_payload_is, payload_is}

mutual
  fitting : {t : ValType} {v : Value} → canonical.IsOf t v → IsOf t v
  fitting (canonical.bool_is b) = bool_is b
  fitting (canonical.s8_is n f) = s8_is n f
  fitting (canonical.u8_is n f) = u8_is n f
  fitting (canonical.s16_is n f) = s16_is n f
  fitting (canonical.u16_is n f) = u16_is n f
  fitting (canonical.s32_is n f) = s32_is n f
  fitting (canonical.u32_is n f) = u32_is n f
  fitting (canonical.s64_is n f) = s64_is n f
  fitting (canonical.u64_is n f) = u64_is n f
  fitting (canonical.char_is n f) = char_is n f
  fitting (canonical.own_is r n f) = own_is r n f
  fitting (canonical.borrow_is r n f) = borrow_is r n f
  fitting (canonical.string_is text f) = string_is text f
  fitting (canonical.stream_is element n f) = stream_is element n
  fitting (canonical.future_is element n f) = future_is element n
  fitting (canonical.list_is element all are) = list_is element all (all_fitting are)
  fitting (canonical.record_is fields all are) = record_is fields all (each_fitting are)
  fitting (canonical.tuple_is parts all are) = tuple_is parts all (each_fitting are)
  fitting (canonical.flags_are labels flags many few) = flags_are labels flags many few
  fitting (canonical.case_is n cases c payload few there is) = case_is n cases c payload few there (payload_fitting is)
  fitting (canonical.enum_is n labels few low) = enum_is n labels few low
  fitting (canonical.none_is part) = none_is part
  fitting (canonical.some_is part payload is) = some_is part payload (payload_fitting is)
  fitting (canonical.ok_is ok err payload is) = ok_is ok err payload (payload_fitting is)
  fitting (canonical.err_is ok err payload is) = err_is ok err payload (payload_fitting is)

  all_fitting : {element : ValType} {all : List Value} → canonical.AllAre element all → AllAre element all
  all_fitting (canonical.none_are element) = none_are element
  all_fitting (canonical.more_are element v all is are) = more_are element v all (fitting is) (all_fitting are)

  each_fitting : {types : List ValType} {all : List Value} → canonical.EachIs types all → EachIs types all
  each_fitting canonical.no_types = no_types
  each_fitting (canonical.more_types t types v all is are) = more_types t types v all (fitting is) (each_fitting are)

  payload_fitting : {p : Option ValType} {payload : Option Value} → canonical.PayloadIs p payload → PayloadIs p payload
  payload_fitting canonical.no_payload_is = no_payload_is
  payload_fitting (canonical.payload_is t v is) = payload_is t v (fitting is)

-- as many values as types
pub arguments_fit : (types : List ValType) (all : List Value) → AreOfTypes types all → AllInRange all → EachIs types all
arguments_fit [] [] h none_in = no_types
arguments_fit [] (v ∷ all) h r = absurd h
arguments_fit (t ∷ types) [] h r = absurd h
arguments_fit (t ∷ types) (v ∷ all) h (more_in w others one rest) = more_types t types v all (fitting (fitted one t h.0)) (arguments_fit types all h.2 rest)
