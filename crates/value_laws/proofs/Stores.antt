-- A value of a type that is stored, with what enters its handles: the plain value that is stored so, which carries it.
use Rattle.std.proofs.Common.{◌≡◌, ◌+◌, ◌*◌, ◌<◌, ◌^◌, ℕ, suc, Bool, List, [], ◌∷◌, map, length, Option, Some, None, refl, ap}
use Rattle.std.specs.Int.{w32, to_le_bytes}
use Rattle.syntax_trees.specs.declared.types.ValType.{ValType, out-ValType}
use Rattle.syntax_trees.specs.declared.types.Case.{Case}
use Rattle.syntax_trees.specs.declared.types.Field.{Field}
use Rattle.syntax_trees.specs.declared.types.ValType.TheOpen as F
use Rattle.syntax_trees.specs.declared.types.ValType.TheViews as types
use Rattle.syntax_trees.specs.declared.types.ValType.TheVariants as leaves
use Rattle.syntax_trees.specs.declared.value.Value.{Value, roll-Value}
use Rattle.syntax_trees.specs.declared.value.Handle.{Handle}
use Rattle.syntax_trees.specs.declared.value.Value.TheOpen as V
use Rattle.syntax_trees.specs.declared.value.Value.TheViews as values
use Rattle.syntax_trees.specs.declared.value.Value.TheVariants as plain
use Rattle.laid_types.specs.Layout.{laid, aligned, tag_size, bits_size}
use Rattle.laid_types.specs.Parts.{parts_of, parts_case, part_at, case_count, payload_place}
use Rattle.handle_table.specs.Slots.{Slots}
use Rattle.value_lift.specs.Leaves.{part_in}
use Rattle.value_lift.proofs.Stood.{parts_of_record, parts_of_tuple, case_part}
use Rattle.value_lift.proofs.Views.{out_variant, out_enum, out_option, out_result}
use Rattle.value_lower.specs.Following.{Rooms}
use Rattle.value_lower.specs.Plan.{New, NewOwn, NewBorrow, NewEnd, number_of, Plan, Put}
use Rattle.value_lower.specs.Storing.{plain_bytes, number_bytes, flags_number, asked, pointed, elements_from, fields_from, payload_at}
use Rattle.value_lower.specs.Entering.{lowered, store}
use Rattle.value_lower.specs.Lowering.{plainly}
use Rattle.value_lower.specs.Tables.{entered}
use Rattle.lowering_laws.specs.Values.{IsOf, AllAre, EachIs, PayloadIs, bool_is, s8_is, u8_is, s16_is, u16_is, s32_is, u32_is, s64_is, u64_is, char_is, own_is, borrow_is, stream_is, future_is, string_is, list_is, record_is, tuple_is, flags_are, case_is, enum_is, none_is, some_is, ok_is, err_is, none_are, more_are, no_types, more_types, no_payload_is, payload_is}
use Rattle.value_laws.specs.Arriving.{HasTable}
use Rattle.value_laws.specs.Carrying.{Carries, AllCarry, EachCarries, PayloadCarries, bool_carries, s8_carries, u8_carries, s16_carries, u16_carries, s32_carries, u32_carries, s64_carries, u64_carries, char_carries, string_carries, flags_carry, own_carries, borrow_carries, stream_carries, future_carries, list_carries, record_carries, tuple_carries, case_carries, enum_carries, none_carries, some_carries, ok_carries, err_carries, none_carry, more_carry, no_carries, more_carries, no_payload_carries, payload_carries}
use Rattle.value_laws.proofs.Equations.{IsNumber, somes, store_by, number_store, list_store, row_store, lowered_payload, case_store, case_at}
use Rattle.value_laws.proofs.Going.{Goes, goes_now, goes_as, goes_on, goes_put, goes_asked, goes_pointed, goes_entered, Told, with_it}

-- as many values as these
pub record AsMany (all : List Value) : Type 0 where
  pub values : List Value
  pub many : length values ≡ length all

abbrev pub one_more : {u : Value} {all : List Value} → Value × AsMany all → AsMany (u ∷ all)
one_more x = record { values = x.0 ∷ x.1.values; many = ap suc x.1.many }

-- Where a type has no payload there is none.
abbrev is_none : Option Value → Type 0
is_none None = Unit {0}
is_none (Some v) = ⊥

none_of : {p : Option ValType} {payload : Option Value} → PayloadIs p payload → p ≡ None → is_none payload
none_of no_payload_is e = tt
none_of (payload_is t v of) e = cc

pub no_value : (v : Value) → PayloadIs None (Some v) → ⊥
no_value v h = none_of h refl

-- what follows goes on with nothing
abbrev pub Then : Type 0
Then = Unit {0} → Plan

abbrev pub handle : ℕ → ℕ → Handle
handle resource n = record { resource = resource; rep = n }

module _ {E : Type 0} (is : New → E → Type 0) (home : List ℕ) where
  -- A value is of the type, and carries another one.
  abbrev pub Arrived : ValType → Value → Value → Slots E → Type 0
  Arrived t u v s = IsOf t v × Carries is home s t v u

  -- The same of values of one type,
  abbrev pub AllArrived : ValType → (all : List Value) → AsMany all → Slots E → Type 0
  AllArrived t all x s = AllAre t x.values × AllCarry is home s t x.values all

  -- of values of these types,
  abbrev pub EachArrived : List ValType → List Value → List Value → Slots E → Type 0
  EachArrived ts all vs s = EachIs ts vs × EachCarries is home s ts vs all

  -- and of a payload.
  abbrev pub PayloadArrived : Option ValType → Option Value → Option Value → Slots E → Type 0
  PayloadArrived p other payload s = PayloadIs p payload × PayloadCarries is home s p payload other

  -- Cases that have no payload.
  pub enum_arrived : (n : ℕ) (labels : List (List ℕ)) → n < 2 ^ 32 → n < length labels → (payload : Option Value) (s : Slots E) → PayloadIs None payload
      → Arrived (leaves.Enum labels) (values.Variant n None) (values.Variant n payload) s
  enum_arrived n labels low few None s h = (enum_is n labels low few, enum_carries n labels)
  enum_arrived n labels low few (Some v) s h = absurd (no_value v h)

  pub none_arrived : (part : ValType) (payload : Option Value) (s : Slots E) → PayloadIs None payload → Arrived (types.Option part) (values.Variant 0 None) (values.Variant 0 payload) s
  none_arrived part None s h = (none_is part, none_carries part)
  none_arrived part (Some v) s h = absurd (no_value v h)

module _ {R T E : Type 0} (rooms : Rooms R T) (slots : R → Slots E) (is : New → E → Type 0) (table : HasTable rooms slots is) (home : List ℕ) where
  -- A value of this type that is stored.
  abbrev pub Stored : ValType → Value → Type 0
  Stored t u = (place : ℕ) → Goes rooms slots (λ (K : Then). store (entered home) t u place (K tt)) (λ (v : Value) (J : Then). store plainly t v place (J tt)) (Arrived is home t u)

  -- It is put at once, and carries itself.
  put_goes : (t : ValType) (u : Value) (bytes : List ℕ) → ((place : ℕ) (k : Plan) → store (entered home) t u place k ≡ Put place bytes k)
      → ((place : ℕ) (k : Plan) → store plainly t u place k ≡ Put place bytes k) → IsOf t u → ((s : Slots E) → Carries is home s t u u) → Stored t u
  put_goes t u bytes e f of carries place =
      goes_as rooms slots (λ (K : Then). Put place bytes (K tt)) (λ (K : Then). store (entered home) t u place (K tt)) (λ (x : Unit {0}) (J : Then). Put place bytes (J tt))
      (λ (v : Value) (J : Then). store plainly t v place (J tt)) (λ x s. Unit {0}) (Arrived is home t u) (λ x. u) (λ K. e place (K tt)) (λ x J. f place (J tt)) (λ x s h. (of, carries s))
      (goes_put rooms slots is table place bytes (λ (K : Then). K tt) (λ (x : Unit {0}) (J : Then). J tt) (λ x s. Unit {0})
      (goes_now rooms slots (λ (K : Then). K tt) (λ (x : Unit {0}) (J : Then). J tt) (λ x s. Unit {0}) tt tt (λ K. refl) (λ J. refl) (λ s. tt)))

  number_goes : (t : ValType) (u : Value) (y : V.Value-F Value) → roll-Value y ≡ u → IsNumber y → IsOf t u → ((s : Slots E) → Carries is home s t u u) → Stored t u
  number_goes t u y e number of carries =
      put_goes t u (plain_bytes y) (λ place k. number_store (entered home) u y t place k e number) (λ place k. number_store plainly u y t place k e number) of carries

  flags_go : (labels : List (List ℕ)) (flags : List Bool) → IsOf (leaves.Flags labels) (plain.Flags flags) → Stored (leaves.Flags labels) (plain.Flags flags)
  flags_go labels flags of =
      put_goes (leaves.Flags labels) (plain.Flags flags) (number_bytes (bits_size (length flags)) (flags_number flags))
      (λ place k. store_by (entered home) (plain.Flags flags) (V.Flags flags) (leaves.Flags labels) place k (plain.rolls-Flags flags))
      (λ place k. store_by plainly (plain.Flags flags) (V.Flags flags) (leaves.Flags labels) place k (plain.rolls-Flags flags)) of (λ s. flags_carry labels flags)

  -- Its bytes are put at a new place.
  string_goes : (text : List ℕ) → IsOf leaves.String (plain.String text) → Stored leaves.String (plain.String text)
  string_goes text of place =
      let u : Value = plain.String text in
      let n : ℕ = length text in
      goes_as rooms slots (λ (K : Then). asked n 1 n (λ at. Put at text (pointed place at n (K tt)))) (λ (K : Then). store (entered home) leaves.String u place (K tt))
      (λ (x : Unit {0}) (J : Then). asked n 1 n (λ at. Put at text (pointed place at n (J tt)))) (λ (v : Value) (J : Then). store plainly leaves.String v place (J tt)) (λ x s. Unit {0})
      (Arrived is home leaves.String u) (λ x. u) (λ K. store_by (entered home) u (V.String text) leaves.String place (K tt) (plain.rolls-String text))
      (λ x J. store_by plainly u (V.String text) leaves.String place (J tt) (plain.rolls-String text)) (λ x s h. (of, string_carries text))
      (goes_asked rooms slots is table n 1 n (λ at (K : Then). Put at text (pointed place at n (K tt))) (λ at (x : Unit {0}) (J : Then). Put at text (pointed place at n (J tt))) (λ x s. Unit {0})
      (λ at.
      goes_put rooms slots is table at text (λ (K : Then). pointed place at n (K tt)) (λ (x : Unit {0}) (J : Then). pointed place at n (J tt)) (λ x s. Unit {0})
      (goes_pointed rooms slots is table place at n (λ (K : Then). K tt) (λ (x : Unit {0}) (J : Then). J tt) (λ x s. Unit {0})
      (goes_now rooms slots (λ (K : Then). K tt) (λ (x : Unit {0}) (J : Then). J tt) (λ x s. Unit {0}) tt tt (λ K. refl) (λ J. refl) (λ s. tt)))))

  -- Its index is put.
  index_goes : (t : ValType) (u : Value) (entry : New) (made : ℕ → Value) → ((place : ℕ) (k : Plan) → store (entered home) t u place k ≡ entered home entry (λ index. Put place (to_le_bytes w32 index) k))
      → ((index place : ℕ) (k : Plan) → store plainly t (made index) place k ≡ Put place (to_le_bytes w32 index) k) → number_of entry < 2 ^ 32
      → ((index : ℕ) (s : Slots E) → Told is home entry index s → Arrived is home t u (made index) s) → Stored t u
  index_goes t u entry made e f low arrived place =
      goes_as rooms slots (λ (K : Then). entered home entry (λ index. Put place (to_le_bytes w32 index) (K tt))) (λ (K : Then). store (entered home) t u place (K tt))
      (λ (x : ℕ × Unit {0}) (J : Then). Put place (to_le_bytes w32 x.0) (J tt)) (λ (v : Value) (J : Then). store plainly t v place (J tt))
      (λ (x : ℕ × Unit {0}) s. Told is home entry x.0 s × Unit {0}) (Arrived is home t u) (λ x. made x.0) (λ K. e place (K tt)) (λ x J. f x.0 place (J tt)) (λ x s h. arrived x.0 s h.0)
      (goes_on rooms slots (entered home entry) with_it (Told is home entry) (λ (index : ℕ) (K : Then). Put place (to_le_bytes w32 index) (K tt))
      (λ (index : ℕ) (x : Unit {0}) (J : Then). Put place (to_le_bytes w32 index) (J tt)) (λ x s. Unit {0}) (goes_entered rooms slots is table home entry low)
      (λ index.
      goes_put rooms slots is table place (to_le_bytes w32 index) (λ (K : Then). K tt) (λ (x : Unit {0}) (J : Then). J tt) (λ x s. Unit {0})
      (goes_now rooms slots (λ (K : Then). K tt) (λ (x : Unit {0}) (J : Then). J tt) (λ x s. Unit {0}) tt tt (λ K. refl) (λ J. refl) (λ s. tt))))

  own_goes : (resource n : ℕ) → n < 2 ^ 32 → Stored (leaves.Own resource) (plain.Own (handle resource n))
  own_goes resource n low =
      index_goes (leaves.Own resource) (plain.Own (handle resource n)) (NewOwn resource n) (λ index. plain.Own (handle resource index))
      (λ place k. store_by (entered home) (plain.Own (handle resource n)) (V.Own (handle resource n)) (leaves.Own resource) place k (plain.rolls-Own (handle resource n)))
      (λ index place k. store_by plainly (plain.Own (handle resource index)) (V.Own (handle resource index)) (leaves.Own resource) place k (plain.rolls-Own (handle resource index))) low
      (λ index s h. (own_is resource index h.0, own_carries resource n index h.1))

  borrow_goes : (resource n : ℕ) → n < 2 ^ 32 → Stored (leaves.Borrow resource) (plain.Borrow (handle resource n))
  borrow_goes resource n low =
      index_goes (leaves.Borrow resource) (plain.Borrow (handle resource n)) (NewBorrow resource n) (λ index. plain.Borrow (handle resource index))
      (λ place k. store_by (entered home) (plain.Borrow (handle resource n)) (V.Borrow (handle resource n)) (leaves.Borrow resource) place k (plain.rolls-Borrow (handle resource n)))
      (λ index place k. store_by plainly (plain.Borrow (handle resource index)) (V.Borrow (handle resource index)) (leaves.Borrow resource) place k (plain.rolls-Borrow (handle resource index))) low
      (λ index s h. (borrow_is resource index h.0, borrow_carries resource n index h.1))

  stream_goes : (element : Option ValType) (n : ℕ) → n < 2 ^ 32 → Stored (types.Stream element) (plain.Stream n)
  stream_goes element n low =
      index_goes (types.Stream element) (plain.Stream n) (NewEnd (types.Stream element) n) (λ index. plain.Stream index)
      (λ place k. store_by (entered home) (plain.Stream n) (V.Stream n) (types.Stream element) place k (plain.rolls-Stream n))
      (λ index place k. store_by plainly (plain.Stream index) (V.Stream index) (types.Stream element) place k (plain.rolls-Stream index)) low
      (λ index s h. (stream_is element index h.0, stream_carries element n index h.1))

  future_goes : (element : Option ValType) (n : ℕ) → n < 2 ^ 32 → Stored (types.Future element) (plain.Future n)
  future_goes element n low =
      index_goes (types.Future element) (plain.Future n) (NewEnd (types.Future element) n) (λ index. plain.Future index)
      (λ place k. store_by (entered home) (plain.Future n) (V.Future n) (types.Future element) place k (plain.rolls-Future n))
      (λ index place k. store_by plainly (plain.Future index) (V.Future index) (types.Future element) place k (plain.rolls-Future index)) low
      (λ index s h. (future_is element index h.0, future_carries element n index h.1))

  -- Values one after the other.
  abbrev pub AllStored : ValType → List Value → Type 0
  AllStored t all =
      (at : ℕ) → Goes rooms slots (λ (K : Then). elements_from t at (map (lowered (entered home)) all) (K tt)) (λ (x : AsMany all) (J : Then). elements_from t at (map (lowered plainly) x.values) (J tt))
      (AllArrived is home t all)

  none_go : (t : ValType) → AllStored t []
  none_go t at =
      goes_now rooms slots (λ (K : Then). elements_from t at [] (K tt)) (λ (x : AsMany []) (J : Then). elements_from t at (map (lowered plainly) x.values) (J tt)) (AllArrived is home t []) tt
      (record { values = []; many = refl }) (λ K. refl) (λ J. refl) (λ s. (none_are t, none_carry t))

  more_go : (t : ValType) (u : Value) (all : List Value) → Stored t u → AllStored t all → AllStored t (u ∷ all)
  more_go t u all first rest at =
      let next : ℕ = at + (laid t).size in
      goes_as rooms slots (λ (K : Then). store (entered home) t u at (elements_from t next (map (lowered (entered home)) all) (K tt)))
      (λ (K : Then). elements_from t at (map (lowered (entered home)) (u ∷ all)) (K tt))
      (λ (x : Value × AsMany all) (J : Then). store plainly t x.0 at (elements_from t next (map (lowered plainly) x.1.values) (J tt)))
      (λ (x : AsMany (u ∷ all)) (J : Then). elements_from t at (map (lowered plainly) x.values) (J tt)) (λ (x : Value × AsMany all) s. Arrived is home t u x.0 s × AllArrived is home t all x.1 s) (AllArrived is home t (u ∷ all))
      (λ (x : Value × AsMany all). one_more {u = u} {all = all} x) (λ K. refl) (λ x J. refl)
      (λ x s h. (more_are t x.0 x.1.values h.0.0 h.1.0, more_carry t x.0 u x.1.values all h.0.1 h.1.1))
      (goes_on rooms slots (λ (K : Then). store (entered home) t u at (K tt)) (λ (v : Value) (J : Then). store plainly t v at (J tt)) (Arrived is home t u)
      (λ (a : Unit {0}) (K : Then). elements_from t next (map (lowered (entered home)) all) (K tt))
      (λ (a : Unit {0}) (x : AsMany all) (J : Then). elements_from t next (map (lowered plainly) x.values) (J tt)) (AllArrived is home t all) (first at) (λ a. rest next))

  list_goes : (t : ValType) (all : List Value) → AllStored t all → Stored (types.List t) (values.List all)
  list_goes t all parts place =
      let n : ℕ = length all in
      let size : ℕ = n * (laid t).size in
      goes_as rooms slots (λ (K : Then). asked n (laid t).align size (λ at. elements_from t at (map (lowered (entered home)) all) (pointed place at n (K tt))))
      (λ (K : Then). store (entered home) (types.List t) (values.List all) place (K tt))
      (λ (x : AsMany all × Unit {0}) (J : Then). asked n (laid t).align size (λ at. elements_from t at (map (lowered plainly) x.0.values) (pointed place at n (J tt))))
      (λ (v : Value) (J : Then). store plainly (types.List t) v place (J tt)) (λ (x : AsMany all × Unit {0}) s. AllArrived is home t all x.0 s × Unit {0}) (Arrived is home (types.List t) (values.List all))
      (λ x. values.List x.0.values) (λ K. list_store (entered home) t all n place (K tt) refl) (λ x J. list_store plainly t x.0.values n place (J tt) x.0.many)
      (λ x s h. (list_is t x.0.values h.0.0, list_carries t x.0.values all h.0.1))
      (goes_asked rooms slots is table n (laid t).align size (λ at (K : Then). elements_from t at (map (lowered (entered home)) all) (pointed place at n (K tt)))
      (λ at (x : AsMany all × Unit {0}) (J : Then). elements_from t at (map (lowered plainly) x.0.values) (pointed place at n (J tt))) (λ (x : AsMany all × Unit {0}) s. AllArrived is home t all x.0 s × Unit {0})
      (λ at.
      goes_on rooms slots (λ (K : Then). elements_from t at (map (lowered (entered home)) all) (K tt)) (λ (x : AsMany all) (J : Then). elements_from t at (map (lowered plainly) x.values) (J tt)) (AllArrived is home t all)
      (λ (a : Unit {0}) (K : Then). pointed place at n (K tt)) (λ (a : Unit {0}) (x : Unit {0}) (J : Then). pointed place at n (J tt)) (λ x s. Unit {0}) (parts at)
      (λ a.
      goes_pointed rooms slots is table place at n (λ (K : Then). K tt) (λ (x : Unit {0}) (J : Then). J tt) (λ x s. Unit {0})
      (goes_now rooms slots (λ (K : Then). K tt) (λ (x : Unit {0}) (J : Then). J tt) (λ x s. Unit {0}) tt tt (λ K. refl) (λ J. refl) (λ s. tt)))))

  -- The values of a record or a tuple.
  abbrev FieldsStored : List ValType → List Value → Type 0
  FieldsStored ts all =
      (place end : ℕ) → Goes rooms slots (λ (K : Then). fields_from place end (somes ts) (map (lowered (entered home)) all) (K tt))
      (λ (vs : List Value) (J : Then). fields_from place end (somes ts) (map (lowered plainly) vs) (J tt)) (EachArrived is home ts all)

  no_fields_go : FieldsStored [] []
  no_fields_go place end =
      goes_now rooms slots (λ (K : Then). fields_from place end [] [] (K tt)) (λ (vs : List Value) (J : Then). fields_from place end [] (map (lowered plainly) vs) (J tt)) (EachArrived is home [] []) tt []
      (λ K. refl) (λ J. refl) (λ s. (no_types, no_carries))

  more_fields_go : (t : ValType) (ts : List ValType) (u : Value) (all : List Value) → Stored t u → FieldsStored ts all → FieldsStored (t ∷ ts) (u ∷ all)
  more_fields_go t ts u all first rest place end =
      let at : ℕ = place + aligned end (laid t).align in
      let next : ℕ = aligned end (laid t).align + (laid t).size in
      goes_as rooms slots (λ (K : Then). store (entered home) t u at (fields_from place next (somes ts) (map (lowered (entered home)) all) (K tt)))
      (λ (K : Then). fields_from place end (somes (t ∷ ts)) (map (lowered (entered home)) (u ∷ all)) (K tt))
      (λ (x : Value × List Value) (J : Then). store plainly t x.0 at (fields_from place next (somes ts) (map (lowered plainly) x.1) (J tt)))
      (λ (vs : List Value) (J : Then). fields_from place end (somes (t ∷ ts)) (map (lowered plainly) vs) (J tt)) (λ (x : Value × List Value) s. Arrived is home t u x.0 s × EachArrived is home ts all x.1 s)
      (EachArrived is home (t ∷ ts) (u ∷ all)) (λ (x : Value × List Value). x.0 ∷ x.1) (λ K. refl) (λ x J. refl)
      (λ x s h. (more_types t ts x.0 x.1 h.0.0 h.1.0, more_carries t ts x.0 u x.1 all h.0.1 h.1.1))
      (goes_on rooms slots (λ (K : Then). store (entered home) t u at (K tt)) (λ (v : Value) (J : Then). store plainly t v at (J tt)) (Arrived is home t u)
      (λ (a : Unit {0}) (K : Then). fields_from place next (somes ts) (map (lowered (entered home)) all) (K tt))
      (λ (a : Unit {0}) (vs : List Value) (J : Then). fields_from place next (somes ts) (map (lowered plainly) vs) (J tt)) (EachArrived is home ts all) (first at) (λ a. rest place next))

  row_goes : (t : ValType) (ts : List ValType) (all : List Value) → parts_of t ≡ somes ts → FieldsStored ts all
      → ((vs : List Value) (s : Slots E) → EachArrived is home ts all vs s → Arrived is home t (values.Record all) (values.Record vs) s) → Stored t (values.Record all)
  row_goes t ts all e parts arrived place =
      goes_as rooms slots (λ (K : Then). fields_from place 0 (somes ts) (map (lowered (entered home)) all) (K tt)) (λ (K : Then). store (entered home) t (values.Record all) place (K tt))
      (λ (vs : List Value) (J : Then). fields_from place 0 (somes ts) (map (lowered plainly) vs) (J tt)) (λ (v : Value) (J : Then). store plainly t v place (J tt)) (EachArrived is home ts all)
      (Arrived is home t (values.Record all)) (λ vs. values.Record vs) (λ K. row_store (entered home) t ts all place (K tt) e) (λ vs J. row_store plainly t ts vs place (J tt) e) arrived (parts place 0)

  -- The payload of a case.
  abbrev PayloadStored : Option ValType → Option Value → Type 0
  PayloadStored p other =
      (place : ℕ) → Goes rooms slots (λ (K : Then). payload_at p (lowered_payload (entered home) other) place (K tt))
      (λ (payload : Option Value) (J : Then). payload_at p (lowered_payload plainly payload) place (J tt)) (PayloadArrived is home p other)

  no_payload_goes : PayloadStored None None
  no_payload_goes place =
      goes_now rooms slots (λ (K : Then). payload_at None None place (K tt)) (λ (payload : Option Value) (J : Then). payload_at None (lowered_payload plainly payload) place (J tt)) (PayloadArrived is home None None) tt
      None (λ K. refl) (λ J. refl) (λ s. (no_payload_is, no_payload_carries))

  payload_goes : (t : ValType) (u : Value) → Stored t u → PayloadStored (Some t) (Some u)
  payload_goes t u go place =
      goes_as rooms slots (λ (K : Then). store (entered home) t u place (K tt)) (λ (K : Then). payload_at (Some t) (lowered_payload (entered home) (Some u)) place (K tt))
      (λ (v : Value) (J : Then). store plainly t v place (J tt)) (λ (payload : Option Value) (J : Then). payload_at (Some t) (lowered_payload plainly payload) place (J tt)) (Arrived is home t u)
      (PayloadArrived is home (Some t) (Some u)) (λ v. Some v) (λ K. refl) (λ v J. refl) (λ v s h. (payload_is t v h.0, payload_carries t v u h.1)) (go place)

  case_goes : (t : ValType) (y : F.ValType-F ValType Case Field) (n : ℕ) (p : Option ValType) (other : Option Value) → out-ValType t ≡ y → part_in (parts_case y) n ≡ p → PayloadStored p other
      → ((payload : Option Value) (s : Slots E) → PayloadArrived is home p other payload s → Arrived is home t (values.Variant n other) (values.Variant n payload) s) → Stored t (values.Variant n other)
  case_goes t y n p other e at go arrived place =
      let part : part_at t n ≡ p = case_at t y n p e at in
      let bytes : List ℕ = number_bytes (tag_size (case_count t)) n in
      let behind : ℕ = place + payload_place t in
      goes_as rooms slots (λ (K : Then). Put place bytes (payload_at p (lowered_payload (entered home) other) behind (K tt)))
      (λ (K : Then). store (entered home) t (values.Variant n other) place (K tt)) (λ (payload : Option Value) (J : Then). Put place bytes (payload_at p (lowered_payload plainly payload) behind (J tt)))
      (λ (v : Value) (J : Then). store plainly t v place (J tt)) (PayloadArrived is home p other) (Arrived is home t (values.Variant n other)) (λ payload. values.Variant n payload)
      (λ K. case_store (entered home) t n p other place (K tt) part) (λ payload J. case_store plainly t n p payload place (J tt) part) arrived
      (goes_put rooms slots is table place bytes (λ (K : Then). payload_at p (lowered_payload (entered home) other) behind (K tt))
      (λ (payload : Option Value) (J : Then). payload_at p (lowered_payload plainly payload) behind (J tt)) (PayloadArrived is home p other) (go behind))

  mutual
    pub stored_goes : {t : ValType} {u : Value} → IsOf t u → Stored t u
    stored_goes (bool_is b) = number_goes leaves.Bool (plain.Bool b) (V.Bool b) (plain.rolls-Bool b) tt (bool_is b) (λ s. bool_carries b)
    stored_goes (s8_is n f) = number_goes leaves.S8 (plain.S8 n) (V.S8 n) (plain.rolls-S8 n) tt (s8_is n f) (λ s. s8_carries n)
    stored_goes (u8_is n f) = number_goes leaves.U8 (plain.U8 n) (V.U8 n) (plain.rolls-U8 n) tt (u8_is n f) (λ s. u8_carries n)
    stored_goes (s16_is n f) = number_goes leaves.S16 (plain.S16 n) (V.S16 n) (plain.rolls-S16 n) tt (s16_is n f) (λ s. s16_carries n)
    stored_goes (u16_is n f) = number_goes leaves.U16 (plain.U16 n) (V.U16 n) (plain.rolls-U16 n) tt (u16_is n f) (λ s. u16_carries n)
    stored_goes (s32_is n f) = number_goes leaves.S32 (plain.S32 n) (V.S32 n) (plain.rolls-S32 n) tt (s32_is n f) (λ s. s32_carries n)
    stored_goes (u32_is n f) = number_goes leaves.U32 (plain.U32 n) (V.U32 n) (plain.rolls-U32 n) tt (u32_is n f) (λ s. u32_carries n)
    stored_goes (s64_is n f) = number_goes leaves.S64 (plain.S64 n) (V.S64 n) (plain.rolls-S64 n) tt (s64_is n f) (λ s. s64_carries n)
    stored_goes (u64_is n f) = number_goes leaves.U64 (plain.U64 n) (V.U64 n) (plain.rolls-U64 n) tt (u64_is n f) (λ s. u64_carries n)
    stored_goes (char_is c f) = number_goes leaves.Char (plain.Char c) (V.Char c) (plain.rolls-Char c) tt (char_is c f) (λ s. char_carries c)
    stored_goes (own_is resource n f) = own_goes resource n f
    stored_goes (borrow_is resource n f) = borrow_goes resource n f
    stored_goes (stream_is element n f) = stream_goes element n f
    stored_goes (future_is element n f) = future_goes element n f
    stored_goes (string_is text f) = string_goes text (string_is text f)
    stored_goes (list_is element all are) = list_goes element all (all_go are)
    stored_goes (record_is fields all are) =
        row_goes (types.Record fields) (map (λ (f : Field). f.val_type) fields) all (parts_of_record fields) (fields_go are) (λ vs s h. (record_is fields vs h.0, record_carries fields vs all h.1))
    stored_goes (tuple_is parts all are) = row_goes (types.Tuple parts) parts all (parts_of_tuple parts) (fields_go are) (λ vs s h. (tuple_is parts vs h.0, tuple_carries parts vs all h.1))
    stored_goes (flags_are labels flags many few) = flags_go labels flags (flags_are labels flags many few)
    stored_goes (case_is n cases c other low there of) =
        case_goes (types.Variant cases) (F.Variant cases) n c.payload other (out_variant cases) (case_part cases n c there) (rest_goes of)
        (λ payload s h. (case_is n cases c payload low there h.0, case_carries n cases c payload other there h.1))
    stored_goes (enum_is n labels low few) =
        case_goes (leaves.Enum labels) (F.Enum labels) n None None (out_enum labels) refl no_payload_goes (λ payload s h. enum_arrived is home n labels low few payload s h.0)
    stored_goes (none_is part) = case_goes (types.Option part) (F.Option part) 0 None None (out_option part) refl no_payload_goes (λ payload s h. none_arrived is home part payload s h.0)
    stored_goes (some_is part other of) =
        case_goes (types.Option part) (F.Option part) 1 (Some part) other (out_option part) refl (rest_goes of) (λ payload s h. (some_is part payload h.0, some_carries part payload other h.1))
    stored_goes (ok_is ok err other of) =
        case_goes (types.Result ok err) (F.Result ok err) 0 ok other (out_result ok err) refl (rest_goes of) (λ payload s h. (ok_is ok err payload h.0, ok_carries ok err payload other h.1))
    stored_goes (err_is ok err other of) =
        case_goes (types.Result ok err) (F.Result ok err) 1 err other (out_result ok err) refl (rest_goes of) (λ payload s h. (err_is ok err payload h.0, err_carries ok err payload other h.1))

    pub all_go : {t : ValType} {all : List Value} → AllAre t all → AllStored t all
    all_go (none_are t) = none_go t
    all_go (more_are t u all of are) = more_go t u all (stored_goes of) (all_go are)

    fields_go : {ts : List ValType} {all : List Value} → EachIs ts all → FieldsStored ts all
    fields_go no_types = no_fields_go
    fields_go (more_types t ts u all of are) = more_fields_go t ts u all (stored_goes of) (fields_go are)

    rest_goes : {p : Option ValType} {other : Option Value} → PayloadIs p other → PayloadStored p other
    rest_goes no_payload_is = no_payload_goes
    rest_goes (payload_is t u of) = payload_goes t u (stored_goes of)
