-- A value of a type that is lowered into core values, with what enters its handles: the plain value that has the same core values, which carries it.
use Rattle.std.proofs.Common.{◌≡◌, ◌*◌, ◌<◌, ◌^◌, ℕ, Bool, List, [], ◌∷◌, ◌++◌, map, length, Option, Some, None, refl}
use Rattle.syntax_trees.specs.declared.types.ValType.{ValType, out-ValType}
use Rattle.syntax_trees.specs.declared.types.Case.{Case}
use Rattle.syntax_trees.specs.declared.types.Field.{Field}
use Rattle.syntax_trees.specs.declared.types.ValType.TheOpen as F
use Rattle.syntax_trees.specs.declared.types.ValType.TheViews as types
use Rattle.syntax_trees.specs.declared.types.ValType.TheVariants as leaves
use Rattle.syntax_trees.specs.declared.value.Value.{Value, roll-Value}
use Rattle.syntax_trees.specs.declared.value.Value.TheOpen as V
use Rattle.syntax_trees.specs.declared.value.Value.TheViews as values
use Rattle.syntax_trees.specs.declared.value.Value.TheVariants as plain
use Rattle.laid_types.specs.Layout.{laid}
use Rattle.syntax_trees.specs.Flat.{flat}
use Rattle.laid_types.specs.Parts.{parts_of, parts_case, part_at}
use Rattle.handle_table.specs.Slots.{Slots}
use Rattle.value_lift.specs.Leaves.{part_in}
use Rattle.value_lift.proofs.Stood.{parts_of_record, parts_of_tuple, case_part}
use Rattle.value_lift.proofs.Views.{out_variant, out_enum, out_option, out_result}
use Rattle.value_lower.specs.Following.{Rooms}
use Rattle.value_lower.specs.Plan.{New, NewOwn, NewBorrow, NewEnd, number_of, Plan, Put}
use Rattle.value_lower.specs.Storing.{plain_word, flags_number, asked, elements_from, field_words, payload_words, filled}
use Rattle.value_lower.specs.Entering.{lowered, flat_words}
use Rattle.value_lower.specs.Lowering.{plainly}
use Rattle.value_lower.specs.Tables.{entered}
use Rattle.lowering_laws.specs.Values.{IsOf, EachIs, PayloadIs, bool_is, s8_is, u8_is, s16_is, u16_is, s32_is, u32_is, s64_is, u64_is, char_is, own_is, borrow_is, stream_is, future_is, string_is, list_is, record_is, tuple_is, flags_are, case_is, enum_is, none_is, some_is, ok_is, err_is, no_types, more_types, no_payload_is, payload_is}
use Rattle.value_laws.specs.Arriving.{HasTable}
use Rattle.value_laws.specs.Carrying.{Carries, bool_carries, s8_carries, u8_carries, s16_carries, u16_carries, s32_carries, u32_carries, s64_carries, u64_carries, char_carries, string_carries, flags_carry, own_carries, borrow_carries, stream_carries, future_carries, list_carries, record_carries, tuple_carries, case_carries, some_carries, ok_carries, err_carries, no_carries, more_carries, no_payload_carries, payload_carries}
use Rattle.value_laws.proofs.Equations.{IsNumber, somes, words_by, number_words, list_words, row_words, lowered_payload, case_flat, case_at}
use Rattle.value_laws.proofs.Going.{Goes, goes_now, goes_as, goes_giving, goes_on, goes_put, goes_asked, goes_entered, Told, with_it}
use Rattle.value_laws.proofs.Stores.{AsMany, Arrived, Then, handle, AllArrived, AllStored, EachArrived, PayloadArrived, enum_arrived, none_arrived, all_go}

-- what follows goes on with all core values
abbrev With : Type 0
With = List ℕ → Plan

module _ {R T E : Type 0} (rooms : Rooms R T) (slots : R → Slots E) (is : New → E → Type 0) (table : HasTable rooms slots is) (home : List ℕ) where
  -- A value of this type that is lowered into core values.
  abbrev pub Flat : ValType → Value → Type 0
  Flat t u =
      (before : List ℕ) → Goes rooms slots (λ (K : With). flat_words (entered home) t u before K) (λ (v : Value) (J : With). flat_words plainly t v before J) (Arrived is home t u)

  -- It is one core value, and carries itself.
  one_goes : (t : ValType) (u : Value) (word : ℕ) → ((before : List ℕ) (K : With) → flat_words (entered home) t u before K ≡ K (before ++ word ∷ []))
      → ((before : List ℕ) (K : With) → flat_words plainly t u before K ≡ K (before ++ word ∷ [])) → IsOf t u → ((s : Slots E) → Carries is home s t u u) → Flat t u
  one_goes t u word e f of carries before =
      goes_now rooms slots (λ (K : With). flat_words (entered home) t u before K) (λ (v : Value) (J : With). flat_words plainly t v before J) (Arrived is home t u) (before ++ word ∷ []) u (e before) (f before)
      (λ s. (of, carries s))

  number_goes : (t : ValType) (u : Value) (y : V.Value-F Value) → roll-Value y ≡ u → IsNumber y → IsOf t u → ((s : Slots E) → Carries is home s t u u) → Flat t u
  number_goes t u y e number of carries =
      one_goes t u (plain_word y) (λ before K. number_words (entered home) u y t before K e number) (λ before K. number_words plainly u y t before K e number) of carries

  flags_go : (labels : List (List ℕ)) (flags : List Bool) → IsOf (leaves.Flags labels) (plain.Flags flags) → Flat (leaves.Flags labels) (plain.Flags flags)
  flags_go labels flags of =
      one_goes (leaves.Flags labels) (plain.Flags flags) (flags_number flags)
      (λ before K. words_by (entered home) (plain.Flags flags) (V.Flags flags) (leaves.Flags labels) before K (plain.rolls-Flags flags))
      (λ before K. words_by plainly (plain.Flags flags) (V.Flags flags) (leaves.Flags labels) before K (plain.rolls-Flags flags)) of (λ s. flags_carry labels flags)

  -- Its bytes are put at a new place.
  string_goes : (text : List ℕ) → IsOf leaves.String (plain.String text) → Flat leaves.String (plain.String text)
  string_goes text of before =
      let u : Value = plain.String text in
      let n : ℕ = length text in
      goes_as rooms slots (λ (K : With). asked n 1 n (λ at. Put at text (K (before ++ at ∷ n ∷ [])))) (λ (K : With). flat_words (entered home) leaves.String u before K)
      (λ (x : Unit {0}) (J : With). asked n 1 n (λ at. Put at text (J (before ++ at ∷ n ∷ [])))) (λ (v : Value) (J : With). flat_words plainly leaves.String v before J) (λ x s. Unit {0})
      (Arrived is home leaves.String u) (λ x. u) (λ K. words_by (entered home) u (V.String text) leaves.String before K (plain.rolls-String text))
      (λ x J. words_by plainly u (V.String text) leaves.String before J (plain.rolls-String text)) (λ x s h. (of, string_carries text))
      (goes_asked rooms slots is table n 1 n (λ at (K : With). Put at text (K (before ++ at ∷ n ∷ []))) (λ at (x : Unit {0}) (J : With). Put at text (J (before ++ at ∷ n ∷ []))) (λ x s. Unit {0})
      (λ at.
      goes_put rooms slots is table at text (λ (K : With). K (before ++ at ∷ n ∷ [])) (λ (x : Unit {0}) (J : With). J (before ++ at ∷ n ∷ [])) (λ x s. Unit {0})
      (goes_now rooms slots (λ (K : With). K (before ++ at ∷ n ∷ [])) (λ (x : Unit {0}) (J : With). J (before ++ at ∷ n ∷ [])) (λ x s. Unit {0}) (before ++ at ∷ n ∷ []) tt (λ K. refl) (λ J. refl)
      (λ s. tt))))

  -- Its index is the core value.
  index_goes : (t : ValType) (u : Value) (entry : New) (made : ℕ → Value) → ((before : List ℕ) (K : With) → flat_words (entered home) t u before K ≡ entered home entry (λ index. K (before ++ index ∷ [])))
      → ((index : ℕ) (before : List ℕ) (K : With) → flat_words plainly t (made index) before K ≡ K (before ++ index ∷ [])) → number_of entry < 2 ^ 32
      → ((index : ℕ) (s : Slots E) → Told is home entry index s → Arrived is home t u (made index) s) → Flat t u
  index_goes t u entry made e f low arrived before =
      goes_as rooms slots (λ (K : With). entered home entry (λ index. K (before ++ index ∷ []))) (λ (K : With). flat_words (entered home) t u before K)
      (λ (index : ℕ) (J : With). J (before ++ index ∷ [])) (λ (v : Value) (J : With). flat_words plainly t v before J) (Told is home entry) (Arrived is home t u) made (λ K. e before K)
      (λ index J. f index before J) arrived
      (goes_giving rooms slots (entered home entry) with_it (Told is home entry) (λ (index : ℕ). before ++ index ∷ [])
      (goes_entered rooms slots is table home entry low))

  own_goes : (resource n : ℕ) → n < 2 ^ 32 → Flat (leaves.Own resource) (plain.Own (handle resource n))
  own_goes resource n low =
      index_goes (leaves.Own resource) (plain.Own (handle resource n)) (NewOwn resource n) (λ index. plain.Own (handle resource index))
      (λ before K. words_by (entered home) (plain.Own (handle resource n)) (V.Own (handle resource n)) (leaves.Own resource) before K (plain.rolls-Own (handle resource n)))
      (λ index before K. words_by plainly (plain.Own (handle resource index)) (V.Own (handle resource index)) (leaves.Own resource) before K (plain.rolls-Own (handle resource index))) low
      (λ index s h. (own_is resource index h.0, own_carries resource n index h.1))

  borrow_goes : (resource n : ℕ) → n < 2 ^ 32 → Flat (leaves.Borrow resource) (plain.Borrow (handle resource n))
  borrow_goes resource n low =
      index_goes (leaves.Borrow resource) (plain.Borrow (handle resource n)) (NewBorrow resource n) (λ index. plain.Borrow (handle resource index))
      (λ before K. words_by (entered home) (plain.Borrow (handle resource n)) (V.Borrow (handle resource n)) (leaves.Borrow resource) before K (plain.rolls-Borrow (handle resource n)))
      (λ index before K. words_by plainly (plain.Borrow (handle resource index)) (V.Borrow (handle resource index)) (leaves.Borrow resource) before K (plain.rolls-Borrow (handle resource index))) low
      (λ index s h. (borrow_is resource index h.0, borrow_carries resource n index h.1))

  stream_goes : (element : Option ValType) (n : ℕ) → n < 2 ^ 32 → Flat (types.Stream element) (plain.Stream n)
  stream_goes element n low =
      index_goes (types.Stream element) (plain.Stream n) (NewEnd (types.Stream element) n) (λ index. plain.Stream index)
      (λ before K. words_by (entered home) (plain.Stream n) (V.Stream n) (types.Stream element) before K (plain.rolls-Stream n))
      (λ index before K. words_by plainly (plain.Stream index) (V.Stream index) (types.Stream element) before K (plain.rolls-Stream index)) low
      (λ index s h. (stream_is element index h.0, stream_carries element n index h.1))

  future_goes : (element : Option ValType) (n : ℕ) → n < 2 ^ 32 → Flat (types.Future element) (plain.Future n)
  future_goes element n low =
      index_goes (types.Future element) (plain.Future n) (NewEnd (types.Future element) n) (λ index. plain.Future index)
      (λ before K. words_by (entered home) (plain.Future n) (V.Future n) (types.Future element) before K (plain.rolls-Future n))
      (λ index before K. words_by plainly (plain.Future index) (V.Future index) (types.Future element) before K (plain.rolls-Future index)) low
      (λ index s h. (future_is element index h.0, future_carries element n index h.1))

  -- Its elements stand at a new place.
  list_goes : (t : ValType) (all : List Value) → AllStored rooms slots is table home t all → Flat (types.List t) (values.List all)
  list_goes t all parts before =
      let n : ℕ = length all in
      let size : ℕ = n * (laid t).size in
      goes_as rooms slots (λ (K : With). asked n (laid t).align size (λ at. elements_from t at (map (lowered (entered home)) all) (K (before ++ at ∷ n ∷ []))))
      (λ (K : With). flat_words (entered home) (types.List t) (values.List all) before K)
      (λ (x : AsMany all) (J : With). asked n (laid t).align size (λ at. elements_from t at (map (lowered plainly) x.values) (J (before ++ at ∷ n ∷ []))))
      (λ (v : Value) (J : With). flat_words plainly (types.List t) v before J) (AllArrived is home t all) (Arrived is home (types.List t) (values.List all)) (λ x. values.List x.values)
      (λ K. list_words (entered home) t all n before K refl) (λ x J. list_words plainly t x.values n before J x.many) (λ x s h. (list_is t x.values h.0, list_carries t x.values all h.1))
      (goes_asked rooms slots is table n (laid t).align size (λ at (K : With). elements_from t at (map (lowered (entered home)) all) (K (before ++ at ∷ n ∷ [])))
      (λ at (x : AsMany all) (J : With). elements_from t at (map (lowered plainly) x.values) (J (before ++ at ∷ n ∷ []))) (AllArrived is home t all)
      (λ at.
      goes_giving rooms slots (λ (K : Then). elements_from t at (map (lowered (entered home)) all) (K tt))
      (λ (x : AsMany all) (J : Then). elements_from t at (map (lowered plainly) x.values) (J tt)) (AllArrived is home t all)
      (λ (a : Unit {0}). before ++ at ∷ n ∷ []) (parts at)))

  -- The values of a record or a tuple.
  abbrev Row : List ValType → List Value → Type 0
  Row ts all =
      (before : List ℕ) → Goes rooms slots (λ (K : With). field_words (somes ts) (map (lowered (entered home)) all) before K)
      (λ (vs : List Value) (J : With). field_words (somes ts) (map (lowered plainly) vs) before J) (EachArrived is home ts all)

  no_row_goes : Row [] []
  no_row_goes before =
      goes_now rooms slots (λ (K : With). field_words [] [] before K) (λ (vs : List Value) (J : With). field_words [] (map (lowered plainly) vs) before J) (EachArrived is home [] []) before []
      (λ K. refl) (λ J. refl) (λ s. (no_types, no_carries))

  more_row_goes : (t : ValType) (ts : List ValType) (u : Value) (all : List Value) → Flat t u → Row ts all → Row (t ∷ ts) (u ∷ all)
  more_row_goes t ts u all first rest before =
      goes_as rooms slots (λ (K : With). flat_words (entered home) t u before (λ words. field_words (somes ts) (map (lowered (entered home)) all) words K))
      (λ (K : With). field_words (somes (t ∷ ts)) (map (lowered (entered home)) (u ∷ all)) before K)
      (λ (x : Value × List Value) (J : With). flat_words plainly t x.0 before (λ words. field_words (somes ts) (map (lowered plainly) x.1) words J))
      (λ (vs : List Value) (J : With). field_words (somes (t ∷ ts)) (map (lowered plainly) vs) before J)
      (λ (x : Value × List Value) s. Arrived is home t u x.0 s × EachArrived is home ts all x.1 s) (EachArrived is home (t ∷ ts) (u ∷ all))
      (λ (x : Value × List Value). x.0 ∷ x.1) (λ K. refl) (λ x J. refl) (λ x s h. (more_types t ts x.0 x.1 h.0.0 h.1.0, more_carries t ts x.0 u x.1 all h.0.1 h.1.1))
      (goes_on rooms slots (λ (K : With). flat_words (entered home) t u before K) (λ (v : Value) (J : With). flat_words plainly t v before J) (Arrived is home t u)
      (λ (words : List ℕ) (K : With). field_words (somes ts) (map (lowered (entered home)) all) words K)
      (λ (words : List ℕ) (vs : List Value) (J : With). field_words (somes ts) (map (lowered plainly) vs) words J) (EachArrived is home ts all) (first before) (λ words. rest words))

  row_goes : (t : ValType) (ts : List ValType) (all : List Value) → parts_of t ≡ somes ts → Row ts all
      → ((vs : List Value) (s : Slots E) → EachArrived is home ts all vs s → Arrived is home t (values.Record all) (values.Record vs) s) → Flat t (values.Record all)
  row_goes t ts all e parts arrived before =
      goes_as rooms slots (λ (K : With). field_words (somes ts) (map (lowered (entered home)) all) before K) (λ (K : With). flat_words (entered home) t (values.Record all) before K)
      (λ (vs : List Value) (J : With). field_words (somes ts) (map (lowered plainly) vs) before J) (λ (v : Value) (J : With). flat_words plainly t v before J)
      (EachArrived is home ts all) (Arrived is home t (values.Record all)) (λ vs. values.Record vs) (λ K. row_words (entered home) t ts all before K e)
      (λ vs J. row_words plainly t ts vs before J e) arrived (parts before)

  -- The payload of a case.
  abbrev Payload : Option ValType → Option Value → Type 0
  Payload p other =
      (before : List ℕ) → Goes rooms slots (λ (K : With). payload_words p (lowered_payload (entered home) other) before K)
      (λ (payload : Option Value) (J : With). payload_words p (lowered_payload plainly payload) before J) (PayloadArrived is home p other)

  no_payload_goes : Payload None None
  no_payload_goes before =
      goes_now rooms slots (λ (K : With). payload_words None None before K) (λ (payload : Option Value) (J : With). payload_words None (lowered_payload plainly payload) before J)
      (PayloadArrived is home None None) before None (λ K. refl) (λ J. refl) (λ s. (no_payload_is, no_payload_carries))

  payload_goes : (t : ValType) (u : Value) → Flat t u → Payload (Some t) (Some u)
  payload_goes t u go before =
      goes_as rooms slots (λ (K : With). flat_words (entered home) t u before K) (λ (K : With). payload_words (Some t) (lowered_payload (entered home) (Some u)) before K)
      (λ (v : Value) (J : With). flat_words plainly t v before J) (λ (payload : Option Value) (J : With). payload_words (Some t) (lowered_payload plainly payload) before J) (Arrived is home t u)
      (PayloadArrived is home (Some t) (Some u)) (λ v. Some v) (λ K. refl) (λ v J. refl) (λ v s h. (payload_is t v h.0, payload_carries t v u h.1)) (go before)

  case_goes : (t : ValType) (y : F.ValType-F ValType Case Field) (n : ℕ) (p : Option ValType) (other : Option Value) → out-ValType t ≡ y → part_in (parts_case y) n ≡ p → Payload p other
      → ((payload : Option Value) (s : Slots E) → PayloadArrived is home p other payload s → Arrived is home t (values.Variant n other) (values.Variant n payload) s)
      → Flat t (values.Variant n other)
  case_goes t y n p other e at go arrived before =
      let part : part_at t n ≡ p = case_at t y n p e at in
      let all : List ℕ → List ℕ = λ words. filled (length (flat t)) (length before) words in
      goes_as rooms slots (λ (K : With). payload_words p (lowered_payload (entered home) other) (before ++ n ∷ []) (λ words. K (all words)))
      (λ (K : With). flat_words (entered home) t (values.Variant n other) before K)
      (λ (payload : Option Value) (J : With). payload_words p (lowered_payload plainly payload) (before ++ n ∷ []) (λ words. J (all words)))
      (λ (v : Value) (J : With). flat_words plainly t v before J) (PayloadArrived is home p other) (Arrived is home t (values.Variant n other)) (λ payload. values.Variant n payload)
      (λ K. case_flat (entered home) t n p other before K part) (λ payload J. case_flat plainly t n p payload before J part) arrived
      (goes_giving rooms slots (λ (K : With). payload_words p (lowered_payload (entered home) other) (before ++ n ∷ []) K)
      (λ (payload : Option Value) (J : With). payload_words p (lowered_payload plainly payload) (before ++ n ∷ []) J) (PayloadArrived is home p other) all (go (before ++ n ∷ [])))

  mutual
    pub flat_goes : {t : ValType} {u : Value} → IsOf t u → Flat t u
    flat_goes (bool_is b) = number_goes leaves.Bool (plain.Bool b) (V.Bool b) (plain.rolls-Bool b) tt (bool_is b) (λ s. bool_carries b)
    flat_goes (s8_is n f) = number_goes leaves.S8 (plain.S8 n) (V.S8 n) (plain.rolls-S8 n) tt (s8_is n f) (λ s. s8_carries n)
    flat_goes (u8_is n f) = number_goes leaves.U8 (plain.U8 n) (V.U8 n) (plain.rolls-U8 n) tt (u8_is n f) (λ s. u8_carries n)
    flat_goes (s16_is n f) = number_goes leaves.S16 (plain.S16 n) (V.S16 n) (plain.rolls-S16 n) tt (s16_is n f) (λ s. s16_carries n)
    flat_goes (u16_is n f) = number_goes leaves.U16 (plain.U16 n) (V.U16 n) (plain.rolls-U16 n) tt (u16_is n f) (λ s. u16_carries n)
    flat_goes (s32_is n f) = number_goes leaves.S32 (plain.S32 n) (V.S32 n) (plain.rolls-S32 n) tt (s32_is n f) (λ s. s32_carries n)
    flat_goes (u32_is n f) = number_goes leaves.U32 (plain.U32 n) (V.U32 n) (plain.rolls-U32 n) tt (u32_is n f) (λ s. u32_carries n)
    flat_goes (s64_is n f) = number_goes leaves.S64 (plain.S64 n) (V.S64 n) (plain.rolls-S64 n) tt (s64_is n f) (λ s. s64_carries n)
    flat_goes (u64_is n f) = number_goes leaves.U64 (plain.U64 n) (V.U64 n) (plain.rolls-U64 n) tt (u64_is n f) (λ s. u64_carries n)
    flat_goes (char_is c f) = number_goes leaves.Char (plain.Char c) (V.Char c) (plain.rolls-Char c) tt (char_is c f) (λ s. char_carries c)
    flat_goes (own_is resource n f) = own_goes resource n f
    flat_goes (borrow_is resource n f) = borrow_goes resource n f
    flat_goes (stream_is element n f) = stream_goes element n f
    flat_goes (future_is element n f) = future_goes element n f
    flat_goes (string_is text f) = string_goes text (string_is text f)
    flat_goes (list_is element all are) = list_goes element all (all_go rooms slots is table home are)
    flat_goes (record_is fields all are) =
        row_goes (types.Record fields) (map (λ (f : Field). f.val_type) fields) all (parts_of_record fields) (fields_flat are) (λ vs s h. (record_is fields vs h.0, record_carries fields vs all h.1))
    flat_goes (tuple_is parts all are) = row_goes (types.Tuple parts) parts all (parts_of_tuple parts) (fields_flat are) (λ vs s h. (tuple_is parts vs h.0, tuple_carries parts vs all h.1))
    flat_goes (flags_are labels flags many few) = flags_go labels flags (flags_are labels flags many few)
    flat_goes (case_is n cases c other low there of) =
        case_goes (types.Variant cases) (F.Variant cases) n c.payload other (out_variant cases) (case_part cases n c there) (rest_flat of)
        (λ payload s h. (case_is n cases c payload low there h.0, case_carries n cases c payload other there h.1))
    flat_goes (enum_is n labels low few) =
        case_goes (leaves.Enum labels) (F.Enum labels) n None None (out_enum labels) refl no_payload_goes (λ payload s h. enum_arrived is home n labels low few payload s h.0)
    flat_goes (none_is part) =
        case_goes (types.Option part) (F.Option part) 0 None None (out_option part) refl no_payload_goes (λ payload s h. none_arrived is home part payload s h.0)
    flat_goes (some_is part other of) =
        case_goes (types.Option part) (F.Option part) 1 (Some part) other (out_option part) refl (rest_flat of) (λ payload s h. (some_is part payload h.0, some_carries part payload other h.1))
    flat_goes (ok_is ok err other of) =
        case_goes (types.Result ok err) (F.Result ok err) 0 ok other (out_result ok err) refl (rest_flat of) (λ payload s h. (ok_is ok err payload h.0, ok_carries ok err payload other h.1))
    flat_goes (err_is ok err other of) =
        case_goes (types.Result ok err) (F.Result ok err) 1 err other (out_result ok err) refl (rest_flat of) (λ payload s h. (err_is ok err payload h.0, err_carries ok err payload other h.1))

    fields_flat : {ts : List ValType} {all : List Value} → EachIs ts all → Row ts all
    fields_flat no_types = no_row_goes
    fields_flat (more_types t ts u all of are) = more_row_goes t ts u all (flat_goes of) (fields_flat are)

    rest_flat : {p : Option ValType} {other : Option Value} → PayloadIs p other → Payload p other
    rest_flat no_payload_is = no_payload_goes
    rest_flat (payload_is t u of) = payload_goes t u (flat_goes of)
