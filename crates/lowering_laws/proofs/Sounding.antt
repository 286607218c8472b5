-- Every value of a type that is stored stands.
use Rattle.std.proofs.Common.{◌≡◌, ◌≤◌, ◌+◌, ◌-◌, ◌*◌, ℕ, suc, List, [], ◌∷◌, map, length, Option, Some, None, refl, sym, subst, arith, suc-mul}
use Rattle.syntax_trees.specs.declared.types.ValType.{ValType}
use Rattle.syntax_trees.specs.declared.types.Field.{Field}
use Rattle.syntax_trees.specs.declared.types.ValType.TheOpen as F
use Rattle.syntax_trees.specs.declared.types.ValType.TheViews as types
use Rattle.syntax_trees.specs.declared.types.ValType.TheVariants as leaves
use Rattle.syntax_trees.specs.declared.value.Value.{Value}
use Rattle.laid_types.specs.Layout.{laid, aligned}
use Rattle.value_lower.specs.Lowering.{lowered, store, elements_from, fields_from}
use Rattle.value_lift.specs.Room.{end_behind}
use Rattle.value_lift.specs.Standing.{Stands, AreElements, AreFields, IsPayload, no_elements, more_elements, no_fields, more_fields, no_payload, payload_stands, record_stands, tuple_stands, case_stands, enum_stands, none_stands, some_stands, ok_stands, err_stands}
use Rattle.value_lift.proofs.Forms.{IsRow}
use Rattle.value_lift.proofs.Rooms.{end_up}
use Rattle.value_lift.proofs.Stood.{parts_of_record, parts_of_tuple, case_within, case_part}
use Rattle.value_lift.proofs.Views.{out_record, out_tuple, out_variant, out_enum, out_option, out_result}
use Rattle.lowering_laws.specs.Values.{IsOf, AllAre, EachIs, PayloadIs, bool_is, s8_is, u8_is, s16_is, u16_is, s32_is, u32_is, s64_is, u64_is, char_is, own_is, borrow_is, stream_is, future_is, string_is, list_is, record_is, tuple_is, flags_are, case_is, enum_is, none_is, some_is, ok_is, err_is, none_are, more_are, no_types, more_types, no_payload_is, payload_is}
use Rattle.lowering_laws.proofs.Going.{Goes, goes_more, goes_on, goes_nowhere}
use Rattle.lowering_laws.proofs.Numbers.{scalar_low}
use Rattle.lowering_laws.proofs.ByKind.{Sound, PayloadGoes, bool_sound, s8_sound, u8_sound, s16_sound, u16_sound, s32_sound, u32_sound, s64_sound, u64_sound, char_sound, own_sound, borrow_sound, stream_sound, future_sound, string_sound, list_sound, row_sound, flags_sound, case_sound_in}

-- values one after the other
no_elements_go : (element : ValType) (at : ℕ) → Goes (elements_from element at []) at (0 * (laid element).size) (λ m. AreElements m at element [])
no_elements_go element at = goes_nowhere at (0 * (laid element).size) (λ m. AreElements m at element []) (λ m. no_elements at element)

more_elements_go : (element : ValType) (v : Value) (all : List Value) (at : ℕ) → Sound element v
    → ((at : ℕ) → Goes (elements_from element at (map lowered all)) at (length all * (laid element).size) (λ m. AreElements m at element all))
    → Goes (elements_from element at (map lowered (v ∷ all))) at (length (v ∷ all) * (laid element).size) (λ m. AreElements m at element (v ∷ all))
more_elements_go element v all at sound rest =
    let size : ℕ = (laid element).size in
    let whole : ℕ = suc (length all) * size in
    let bytes : suc (length all) * size ≡ length all * size + size = suc-mul (length all) size in
    let Post : List ℕ → Type 0 = λ m. Stands m at element v in
    let Next : List ℕ → Type 0 = λ m. AreElements m (at + size) element all in
    goes_more (elements_from element at (map lowered (v ∷ all))) at whole at whole (λ m. Post m × Next m) (λ m. AreElements m at element (v ∷ all)) (omega arith) (omega arith)
    (λ m inside h. more_elements at element v all h.0 h.1)
    (goes_on (store element v at) (elements_from element (at + size) (map lowered all)) at size (at + size) (length all * size) at whole Post Next (omega arith) (omega arith) (omega (arith, bytes))
    (sound at) (rest (at + size)))

-- values of a record
abbrev somes : List ValType → List (Option ValType)
somes types = map (λ (t : ValType). Some t) types

abbrev FieldsGo : List ValType → List Value → Type 0
FieldsGo types all =
    (place end span : ℕ) → end_behind end (somes types) ≤ end + span → Goes (fields_from place end (somes types) (map lowered all)) (place + end) span (λ m. AreFields m place end types all)

no_fields_go : FieldsGo [] []
no_fields_go place end span h = goes_nowhere (place + end) span (λ m. AreFields m place end [] []) (λ m. no_fields place end)

more_fields_go : (t : ValType) (types : List ValType) (v : Value) (all : List Value) → Sound t v → FieldsGo types all → FieldsGo (t ∷ types) (v ∷ all)
more_fields_go t types v all sound rest place end span h =
    let start : ℕ = aligned end (laid t).align in
    let next : ℕ = start + (laid t).size in
    let up : next ≤ end_behind next (somes types) = end_up (somes types) next in
    let low : end ≤ start = omega arith in
    let left : ℕ = end + span - next in
    let room : next ≤ end + span = omega (arith, up, h) in
    let Post : List ℕ → Type 0 = λ m. Stands m (place + start) t v in
    let Next : List ℕ → Type 0 = λ m. AreFields m place next types all in
    goes_more (fields_from place end (somes (t ∷ types)) (map lowered (v ∷ all))) (place + end) span (place + end) span (λ m. Post m × Next m) (λ m. AreFields m place end (t ∷ types) (v ∷ all)) (omega arith) (omega arith)
    (λ m inside h. more_fields place end t types v all h.0 h.1)
    (goes_on (store t v (place + start)) (fields_from place next (somes types) (map lowered all)) (place + start) (laid t).size (place + next) left (place + end) span Post Next
    (omega (arith, low)) (omega arith) (omega (arith, room))
    (sound (place + start)) (rest place next left (omega (arith, room, h))))

row_goes : (types : List ValType) (all : List Value) → FieldsGo types all → (place span : ℕ) → end_behind 0 (somes types) ≤ span
    → Goes (fields_from place 0 (somes types) (map lowered all)) place span (λ m. AreFields m place 0 types all)
row_goes types all go place span h =
    goes_more (fields_from place 0 (somes types) (map lowered all)) (place + 0) span place span (λ m. AreFields m place 0 types all) (λ m. AreFields m place 0 types all) (omega arith) (omega arith)
    (λ m inside h. h) (go place 0 span (omega (arith, h)))

-- payloads
no_payload_goes : PayloadGoes None None
no_payload_goes place span h = goes_nowhere place span (λ m. IsPayload m place None None) (λ m. no_payload place)

payload_goes : (t : ValType) (v : Value) → Sound t v → PayloadGoes (Some t) (Some v)
payload_goes t v sound place span h =
    goes_more (store t v place) place (laid t).size place span (λ m. Stands m place t v) (λ m. IsPayload m place (Some t) (Some v)) (omega arith) (omega (arith, h t refl))
    (λ m inside s. payload_stands place t v s) (sound place)

mutual
  pub sound : {t : ValType} {v : Value} → IsOf t v → Sound t v
  sound (bool_is b) = bool_sound b
  sound (s8_is n f) = s8_sound n f
  sound (u8_is n f) = u8_sound n f
  sound (s16_is n f) = s16_sound n f
  sound (u16_is n f) = u16_sound n f
  sound (s32_is n f) = s32_sound n f
  sound (u32_is n f) = u32_sound n f
  sound (s64_is n f) = s64_sound n f
  sound (u64_is n f) = u64_sound n f
  sound (char_is c f) = char_sound c (scalar_low c f) f
  sound (own_is resource n f) = own_sound resource n f
  sound (borrow_is resource n f) = borrow_sound resource n f
  sound (stream_is element n f) = stream_sound element n f
  sound (future_is element n f) = future_sound element n f
  sound (string_is text f) = string_sound text f
  sound (list_is element all are) = list_sound element all (elements_go are)
  sound (record_is fields all are) =
      row_sound (types.Record fields) (map (λ (f : Field). f.val_type) fields) all (subst IsRow (sym (out_record fields)) tt) (parts_of_record fields)
      (row_goes (map (λ (f : Field). f.val_type) fields) all (fields_go are)) (λ m place h. record_stands place fields all h)
  sound (tuple_is parts all are) =
      row_sound (types.Tuple parts) parts all (subst IsRow (sym (out_tuple parts)) tt) (parts_of_tuple parts) (row_goes parts all (fields_go are)) (λ m place h. tuple_stands place parts all h)
  sound (flags_are labels flags many few) = flags_sound labels flags many few
  sound (case_is n cases c payload few there is) =
      case_sound_in (types.Variant cases) (F.Variant cases) n c.payload payload (out_variant cases) tt (case_within cases n c there) few (case_part cases n c there) (rest_go is)
      (λ m place h i. case_stands place n cases c payload h there i)
  sound (enum_is n labels few low) =
      case_sound_in (leaves.Enum labels) (F.Enum labels) n None None (out_enum labels) tt low few refl no_payload_goes (λ m place h i. enum_stands place n labels h low)
  sound (none_is part) =
      case_sound_in (types.Option part) (F.Option part) 0 None None (out_option part) tt (omega arith) (omega arith) refl no_payload_goes (λ m place h i. none_stands place part h)
  sound (some_is part payload is) =
      case_sound_in (types.Option part) (F.Option part) 1 (Some part) payload (out_option part) tt (omega arith) (omega arith) refl (rest_go is) (λ m place h i. some_stands place part payload h i)
  sound (ok_is ok err payload is) =
      case_sound_in (types.Result ok err) (F.Result ok err) 0 ok payload (out_result ok err) tt (omega arith) (omega arith) refl (rest_go is) (λ m place h i. ok_stands place ok err payload h i)
  sound (err_is ok err payload is) =
      case_sound_in (types.Result ok err) (F.Result ok err) 1 err payload (out_result ok err) tt (omega arith) (omega arith) refl (rest_go is) (λ m place h i. err_stands place ok err payload h i)

  pub elements_go : {element : ValType} {all : List Value} → AllAre element all → (at : ℕ)
      → Goes (elements_from element at (map lowered all)) at (length all * (laid element).size) (λ m. AreElements m at element all)
  elements_go (none_are element) at = no_elements_go element at
  elements_go (more_are element v all is are) at = more_elements_go element v all at (sound is) (elements_go are)

  fields_go : {types : List ValType} {all : List Value} → EachIs types all → FieldsGo types all
  fields_go no_types = no_fields_go
  fields_go (more_types t types v all is are) = more_fields_go t types v all (sound is) (fields_go are)

  rest_go : {p : Option ValType} {payload : Option Value} → PayloadIs p payload → PayloadGoes p payload
  rest_go no_payload_is = no_payload_goes
  rest_go (payload_is t v is) = payload_goes t v (sound is)
