-- What is lifted holds handles with small representations, where what an index names has one.
use Rattle.std.proofs.Common.{◌≡◌, ◌<◌, ◌^◌, ◌+◌, ◌*◌, ℕ, zero, suc, Bool, true, false, if◌then◌else◌, List, [], ◌∷◌, ◌++◌, map, length, refl, sym, subst, Option, Some, None, Result, Ok, Err}
use Rattle.std.specs.Prelude.{◌==◌, nat_lt}
use Rattle.std.specs.List.{AllByRecursion}
use Rattle.std.specs.Int.{Width, w8, w32}
use Rattle.syntax_trees.specs.declared.types.ValType.{ValType, roll-ValType}
use Rattle.syntax_trees.specs.declared.types.Case.{Case}
use Rattle.syntax_trees.specs.declared.types.Field.{Field}
use Rattle.syntax_trees.specs.declared.types.ValType.TheOpen as F
use Rattle.syntax_trees.specs.declared.types.ValType.TheViews.{roll-Case, roll-Field}
use Rattle.syntax_trees.specs.declared.types.ValType.TheFolds.{ind-ValType, map-ValType, map-Case, map-Field, fold-Case, fold-Field, fold-roll-ValType}
use Rattle.syntax_trees.proofs.Folds.{held, fold_case, fold_field}
use Rattle.laid_types.specs.Layout.{tag_size, aligned}
use Rattle.syntax_trees.specs.declared.value.Value.{Value}
use Rattle.syntax_trees.specs.declared.value.Value.TheOpen as V
use Rattle.syntax_trees.specs.declared.value.Value.TheVariants as plain
use Rattle.value_lift.specs.declared.trap.LiftTrap.{LiftTrap}
use Rattle.value_lift.specs.declared.trap.LiftWhy.TheVariants.{Bounds}
use Rattle.value_lift.specs.Answers.{trap}
use Rattle.value_lift.specs.Bytes.{number, is_inside, is_aligned, bytes_at, width_of}
use Rattle.value_lift.specs.Pieces.{part_in, plain_of, text_of, flags_of}
use Rattle.value_lift.specs.Lifting.{low}
use Rattle.abi_machine.specs.LiftingOver.{Use, Ledger, Came, Part, CasePart, FieldPart, What, AnOwn, ABorrow, AnEnd, in_fields, in_cases, behind_tag, case_by, field_by}
use Rattle.abi_machine.specs.LiftingOver as over
use Rattle.abi_machine.specs.sound.Words.{AreSmall}
use Rattle.abi_machine.proofs.sound.words.Values.{IsSmall, IsSmallAny, small_leaf, none_small, one_more, small_record, small_list, small_variant, small_own, small_borrow, leaf_came, char_came, text_came}

-- what an index names
abbrev pub NamesSmall : What → ℕ → Type 0
NamesSmall (AnOwn resource) n = n < 2 ^ 32
NamesSmall (ABorrow resource) n = n < 2 ^ 32
NamesSmall (AnEnd kind element) n = Unit {0}

-- what something that was lifted is, and what is kept then
abbrev pub ComesSo : {S T A : Type 0} → (S → Type 0) → (A → Type 0) → Came S T A → Type 0
ComesSo I P (Ok x) = P x.0 × I x.1
ComesSo I P (Err fault) = Unit {0}

abbrev pub SpentSo : {S T : Type 0} → (S → Type 0) → Result S T → Type 0
SpentSo I (Ok s) = I s
SpentSo I (Err fault) = Unit {0}

module _ {S T : Type 0} (l : Ledger S T) (I : S → Type 0) (spends : (many place : ℕ) (s : S) → I s → SpentSo I (l.spend many place s))
    (takes : (u : Use) (s : S) → I s → ComesSo I (NamesSmall u.what) (l.take u s)) where
  abbrev Comes : {A : Type 0} → (A → Type 0) → Came S T A → Type 0
  Comes P c = ComesSo I P c

  after_comes : {A C : Type 0} (P : A → Type 0) (Q : C → Type 0) (c : Came S T A) (f : A → S → Came S T C) → Comes P c → ((x : A) (s : S) → P x → I s → Comes Q (f x s)) → Comes Q (over.after c f)
  after_comes P Q (Ok x) f h more = more x.0 x.1 h.0 h.1
  after_comes P Q (Err fault) f h more = tt

  made_comes : {A C : Type 0} (P : A → Type 0) (Q : C → Type 0) (f : A → C) (c : Came S T A) → ((x : A) → P x → Q (f x)) → Comes P c → Comes Q (over.made f c)
  made_comes P Q f (Ok x) keeps h = (keeps x.0 h.0, h.1)
  made_comes P Q f (Err fault) keeps h = tt

  counting_comes : {A : Type 0} (P : A → Type 0) (r : Result S T) (f : S → Came S T A) → SpentSo I r → ((s : S) → I s → Comes P (f s)) → Comes P (over.counting r f)
  counting_comes P (Ok s) f i h = h s i
  counting_comes P (Err fault) f i h = tt

  uncounted_comes : {A : Type 0} (P : A → Type 0) (s : S) (r : Result A LiftTrap) → I s → ((x : A) → r ≡ Ok x → P x) → Comes P (over.uncounted l s r)
  uncounted_comes P s (Ok x) i h = (h x refl, i)
  uncounted_comes P s (Err fault) i h = tt

  either_comes : {A : Type 0} (P : A → Type 0) (b : Bool) (c d : Came S T A) → Comes P c → Comes P d → Comes P (if b then c else d)
  either_comes P true c d h i = h
  either_comes P false c d h i = i

  -- what a part lifts
  abbrev Lifts : Part S T → Type 0
  Lifts p = ((memory : List ℕ) (place : ℕ) (s : S) → I s → Comes IsSmall (p.lift memory place s)) × ((memory words : List ℕ) (at : ℕ) (s : S) → I s → Comes IsSmall (p.lift_words memory words at s))

  abbrev LiftsAny : Option (Part S T) → Type 0
  LiftsAny None = Unit {0}
  LiftsAny (Some p) = Lifts p

  part_lifts : (parts : List (Option (Part S T))) (n : ℕ) → AllByRecursion LiftsAny parts → LiftsAny (part_in parts n)
  part_lifts [] n h = tt
  part_lifts (p ∷ parts) zero h = h.0
  part_lifts (p ∷ parts) (suc n) h = part_lifts parts n h.1

  string_comes : (at count : ℕ) (memory : List ℕ) (place : ℕ) (s : S) → I s → Comes IsSmall (over.string_of l at count memory place s)
  string_comes at count memory place s i =
      either_comes IsSmall (is_inside at count memory) (over.counting (l.spend count place s) (λ kept. over.uncounted l kept (text_of (bytes_at at count memory) place))) _
      (counting_comes IsSmall (l.spend count place s) (λ kept. over.uncounted l kept (text_of (bytes_at at count memory) place)) (spends count place s i)
      (λ t j. uncounted_comes IsSmall t (text_of (bytes_at at count memory) place) j (λ v e. text_came (bytes_at at count memory) place v e))) tt

  elements_come : (e : Part S T) (memory : List ℕ) (before : List Value) (count at : ℕ) (s : S) → I s → Lifts e → AreSmall before → Comes AreSmall (over.elements_from l e memory before count at s)
  elements_come e memory before zero at s i h k = (k, i)
  elements_come e memory before (suc count) at s i h k =
      after_comes IsSmall AreSmall (e.lift memory at s) _ (h.0 memory at s i) (λ v t j m. elements_come e memory (before ++ v ∷ []) count (at + e.laid.size) t m h (one_more before v k j))

  list_comes : (e : Part S T) (at count : ℕ) (memory : List ℕ) (place : ℕ) (s : S) → I s → Lifts e → Comes AreSmall (over.elements_of l e at count memory place s)
  list_comes e at count memory place s i h =
      either_comes AreSmall (is_aligned at e.laid.align) _ _
      (either_comes AreSmall (is_inside at (count * e.laid.size) memory) (over.elements_from l e memory [] count at s) (over.fails l (trap Bounds place) s)
      (elements_come e memory [] count at s i h none_small) tt) tt

  chosen_comes : (n count place : ℕ) (s : S) (payload : Came S T (Option Value)) → Comes IsSmallAny payload → Comes IsSmall (over.chosen l n count place s payload)
  chosen_comes n count place s payload h = either_comes IsSmall (nat_lt n count) _ _ (made_comes IsSmallAny IsSmall _ payload (λ o k. small_variant n o k) h) tt

  fields_come : (memory : List ℕ) (place : ℕ) (before : List Value) (end : ℕ) (parts : List (Part S T)) (s : S) → I s → AllByRecursion Lifts parts → AreSmall before
      → Comes AreSmall (over.fields_from l memory place before end parts s)
  fields_come memory place before end [] s i h k = (k, i)
  fields_come memory place before end (e ∷ parts) s i h k =
      after_comes IsSmall AreSmall (e.lift memory (place + aligned end e.laid.align) s) _ (h.0.0 memory (place + aligned end e.laid.align) s i)
      (λ v t j m. fields_come memory place (before ++ v ∷ []) (aligned end e.laid.align + e.laid.size) parts t m h.1 (one_more before v k j))

  payload_comes : (e : Option (Part S T)) (memory : List ℕ) (place : ℕ) (s : S) → I s → LiftsAny e → Comes IsSmallAny (over.payload_of l e memory place s)
  payload_comes None memory place s i h = (tt, i)
  payload_comes (Some e) memory place s i h = made_comes IsSmall IsSmallAny _ (e.lift memory place s) (λ v k. k) (h.0 memory place s i)

  case_comes : (count : ℕ) (parts : List (Option (Part S T))) (memory : List ℕ) (place : ℕ) (s : S) → I s → AllByRecursion LiftsAny parts → Comes IsSmall (over.case_of l count parts memory place s)
  case_comes count parts memory place s i h =
      let n = number (width_of (tag_size count)) place memory in
      chosen_comes n count place s _ (payload_comes (part_in parts n) memory (place + behind_tag count parts) s i (part_lifts parts n h))

  word_fields_come : (memory words : List ℕ) (before : List Value) (at : ℕ) (parts : List (Part S T)) (s : S) → I s → AllByRecursion Lifts parts → AreSmall before
      → Comes AreSmall (over.word_fields_from l memory words before at parts s)
  word_fields_come memory words before at [] s i h k = (k, i)
  word_fields_come memory words before at (e ∷ parts) s i h k =
      after_comes IsSmall AreSmall (e.lift_words memory words at s) _ (h.0.1 memory words at s i)
      (λ v t j m. word_fields_come memory words (before ++ v ∷ []) (at + length e.flat) parts t m h.1 (one_more before v k j))

  word_payload_comes : (e : Option (Part S T)) (memory words : List ℕ) (at : ℕ) (s : S) → I s → LiftsAny e → Comes IsSmallAny (over.word_payload_of l e memory words at s)
  word_payload_comes None memory words at s i h = (tt, i)
  word_payload_comes (Some e) memory words at s i h = made_comes IsSmall IsSmallAny _ (e.lift_words memory words at s) (λ v k. k) (h.1 memory words at s i)

  word_case_comes : (count : ℕ) (parts : List (Option (Part S T))) (memory words : List ℕ) (at : ℕ) (s : S) → I s → AllByRecursion LiftsAny parts → Comes IsSmall (over.word_case_of l count parts memory words at s)
  word_case_comes count parts memory words at s i h =
      chosen_comes (low w32 at words) count at s _ (word_payload_comes (part_in parts (low w32 at words)) memory words (at + 1) s i (part_lifts parts (low w32 at words) h))

  taken_comes : (what : What) (make : ℕ → Value) (index place : ℕ) (s : S) → I s → ((n : ℕ) → NamesSmall what n → IsSmall (make n)) → Comes IsSmall (over.taken l what make index place s)
  taken_comes what make index place s i h =
      made_comes (NamesSmall what) IsSmall make (l.take (record { what = what; index = index; place = place }) s) h (takes (record { what = what; index = index; place = place }) s i)

  -- Types by their outer layer.

  abbrev Layer : Type 0
  Layer = F.ValType-F (Part S T) (CasePart S T) (FieldPart S T)

  abbrev Holds : Layer → Type 0
  Holds (F.List e) = Lifts e
  Holds (F.Record fields) = AllByRecursion Lifts (in_fields fields)
  Holds (F.Tuple parts) = AllByRecursion Lifts parts
  Holds (F.Variant cases) = AllByRecursion LiftsAny (in_cases cases)
  Holds (F.Option e) = Lifts e
  Holds (F.Result ok err) = LiftsAny ok × LiftsAny err
  Holds other = Unit {0}

  -- those that are lifted alone
  abbrev IsPlain : Layer → Type 0
  IsPlain (F.Own resource) = ⊥
  IsPlain (F.Borrow resource) = ⊥
  IsPlain other = Unit {0}

  small_stream : (n : ℕ) → IsSmall (plain.Stream n)
  small_stream n = small_leaf (V.Stream n) (plain.Stream n) (plain.rolls-Stream n) refl

  small_future : (n : ℕ) → IsSmall (plain.Future n)
  small_future n = small_leaf (V.Future n) (plain.Future n) (plain.rolls-Future n) refl

  small_flags : (labels : List (List ℕ)) (bits : ℕ) → IsSmall (flags_of labels bits)
  small_flags labels bits = small_leaf (V.Flags _) (flags_of labels bits) (plain.rolls-Flags _) refl

  plain_came : (y : Layer) → IsPlain y → (w : Width) (n : Width → ℕ) (place : ℕ) (v : Value) → plain_of y w n place ≡ Ok v → IsSmall v
  plain_came F.Bool is w n place v e = leaf_came (V.Bool _) _ v (plain.rolls-Bool _) refl e
  plain_came F.S8 is w n place v e = leaf_came (V.S8 _) _ v (plain.rolls-S8 _) refl e
  plain_came F.U8 is w n place v e = leaf_came (V.U8 _) _ v (plain.rolls-U8 _) refl e
  plain_came F.S16 is w n place v e = leaf_came (V.S16 _) _ v (plain.rolls-S16 _) refl e
  plain_came F.U16 is w n place v e = leaf_came (V.U16 _) _ v (plain.rolls-U16 _) refl e
  plain_came F.S32 is w n place v e = leaf_came (V.S32 _) _ v (plain.rolls-S32 _) refl e
  plain_came F.U32 is w n place v e = leaf_came (V.U32 _) _ v (plain.rolls-U32 _) refl e
  plain_came F.S64 is w n place v e = leaf_came (V.S64 _) _ v (plain.rolls-S64 _) refl e
  plain_came F.U64 is w n place v e = leaf_came (V.U64 _) _ v (plain.rolls-U64 _) refl e
  plain_came F.Char is w n place v e = char_came (n w32) place v e
  plain_came (F.Own resource) is w n place v e = absurd is
  plain_came (F.Borrow resource) is w n place v e = absurd is
  plain_came (F.Stream element) is w n place v e = leaf_came (V.Stream _) _ v (plain.rolls-Stream _) refl e
  plain_came (F.Future element) is w n place v e = leaf_came (V.Future _) _ v (plain.rolls-Future _) refl e
  plain_came other is w n place v e = cc

  alone_comes : (y : Layer) → IsPlain y → (w : Width) (n : Width → ℕ) (place : ℕ) (s : S) → I s → Comes IsSmall (over.uncounted l s (plain_of y w n place))
  alone_comes y is w n place s i = uncounted_comes IsSmall s (plain_of y w n place) i (λ v e. plain_came y is w n place v e)

  layer_comes : (y : Layer) → Holds y → (memory : List ℕ) (place : ℕ) (s : S) → I s → Comes IsSmall (over.lift_case l y memory place s)
  layer_comes F.String h memory place s i = string_comes (number w32 place memory) (number w32 (place + 4) memory) memory place s i
  layer_comes (F.List e) h memory place s i =
      made_comes AreSmall IsSmall _ _ (λ all k. small_list all k) (list_comes e (number w32 place memory) (number w32 (place + 4) memory) memory place s i h)
  layer_comes (F.Record fields) h memory place s i = made_comes AreSmall IsSmall _ _ (λ all k. small_record all k) (fields_come memory place [] 0 (in_fields fields) s i h none_small)
  layer_comes (F.Tuple parts) h memory place s i = made_comes AreSmall IsSmall _ _ (λ all k. small_record all k) (fields_come memory place [] 0 parts s i h none_small)
  layer_comes (F.Variant cases) h memory place s i = case_comes (length cases) (in_cases cases) memory place s i h
  layer_comes (F.Enum labels) h memory place s i = case_comes (length labels) [] memory place s i tt
  layer_comes (F.Option e) h memory place s i = case_comes 2 (None ∷ Some e ∷ []) memory place s i (tt, (h, tt))
  layer_comes (F.Result ok err) h memory place s i = case_comes 2 (ok ∷ err ∷ []) memory place s i (h.0, (h.1, tt))
  layer_comes (F.Flags labels) h memory place s i = (small_flags labels _, i)
  layer_comes (F.Own resource) h memory place s i = taken_comes (AnOwn resource) _ (number w32 place memory) place s i (λ n k. small_own resource n k)
  layer_comes (F.Borrow resource) h memory place s i = taken_comes (ABorrow resource) _ (number w32 place memory) place s i (λ n k. small_borrow resource n k)
  layer_comes (F.Stream element) h memory place s i = taken_comes _ _ (number w32 place memory) place s i (λ n k. small_stream n)
  layer_comes (F.Future element) h memory place s i = taken_comes _ _ (number w32 place memory) place s i (λ n k. small_future n)
  layer_comes F.Bool h memory place s i = alone_comes F.Bool tt w8 (λ w. number w place memory) place s i
  layer_comes F.S8 h memory place s i = alone_comes F.S8 tt w8 (λ w. number w place memory) place s i
  layer_comes F.U8 h memory place s i = alone_comes F.U8 tt w8 (λ w. number w place memory) place s i
  layer_comes F.S16 h memory place s i = alone_comes F.S16 tt w8 (λ w. number w place memory) place s i
  layer_comes F.U16 h memory place s i = alone_comes F.U16 tt w8 (λ w. number w place memory) place s i
  layer_comes F.S32 h memory place s i = alone_comes F.S32 tt w8 (λ w. number w place memory) place s i
  layer_comes F.U32 h memory place s i = alone_comes F.U32 tt w8 (λ w. number w place memory) place s i
  layer_comes F.S64 h memory place s i = alone_comes F.S64 tt w8 (λ w. number w place memory) place s i
  layer_comes F.U64 h memory place s i = alone_comes F.U64 tt w8 (λ w. number w place memory) place s i
  layer_comes F.Char h memory place s i = alone_comes F.Char tt w8 (λ w. number w place memory) place s i

  word_layer_comes : (y : Layer) → Holds y → (memory words : List ℕ) (at : ℕ) (s : S) → I s → Comes IsSmall (over.lift_word_case l y memory words at s)
  word_layer_comes F.String h memory words at s i = string_comes (low w32 at words) (low w32 (at + 1) words) memory at s i
  word_layer_comes (F.List e) h memory words at s i =
      made_comes AreSmall IsSmall _ _ (λ all k. small_list all k) (list_comes e (low w32 at words) (low w32 (at + 1) words) memory at s i h)
  word_layer_comes (F.Record fields) h memory words at s i =
      made_comes AreSmall IsSmall _ _ (λ all k. small_record all k) (word_fields_come memory words [] at (in_fields fields) s i h none_small)
  word_layer_comes (F.Tuple parts) h memory words at s i = made_comes AreSmall IsSmall _ _ (λ all k. small_record all k) (word_fields_come memory words [] at parts s i h none_small)
  word_layer_comes (F.Variant cases) h memory words at s i = word_case_comes (length cases) (in_cases cases) memory words at s i h
  word_layer_comes (F.Enum labels) h memory words at s i = word_case_comes (length labels) [] memory words at s i tt
  word_layer_comes (F.Option e) h memory words at s i = word_case_comes 2 (None ∷ Some e ∷ []) memory words at s i (tt, (h, tt))
  word_layer_comes (F.Result ok err) h memory words at s i = word_case_comes 2 (ok ∷ err ∷ []) memory words at s i (h.0, (h.1, tt))
  word_layer_comes (F.Flags labels) h memory words at s i = (small_flags labels _, i)
  word_layer_comes (F.Own resource) h memory words at s i = taken_comes (AnOwn resource) _ (low w32 at words) at s i (λ n k. small_own resource n k)
  word_layer_comes (F.Borrow resource) h memory words at s i = taken_comes (ABorrow resource) _ (low w32 at words) at s i (λ n k. small_borrow resource n k)
  word_layer_comes (F.Stream element) h memory words at s i = taken_comes _ _ (low w32 at words) at s i (λ n k. small_stream n)
  word_layer_comes (F.Future element) h memory words at s i = taken_comes _ _ (low w32 at words) at s i (λ n k. small_future n)
  word_layer_comes F.Bool h memory words at s i = alone_comes F.Bool tt w32 (λ w. low w at words) at s i
  word_layer_comes F.S8 h memory words at s i = alone_comes F.S8 tt w32 (λ w. low w at words) at s i
  word_layer_comes F.U8 h memory words at s i = alone_comes F.U8 tt w32 (λ w. low w at words) at s i
  word_layer_comes F.S16 h memory words at s i = alone_comes F.S16 tt w32 (λ w. low w at words) at s i
  word_layer_comes F.U16 h memory words at s i = alone_comes F.U16 tt w32 (λ w. low w at words) at s i
  word_layer_comes F.S32 h memory words at s i = alone_comes F.S32 tt w32 (λ w. low w at words) at s i
  word_layer_comes F.U32 h memory words at s i = alone_comes F.U32 tt w32 (λ w. low w at words) at s i
  word_layer_comes F.S64 h memory words at s i = alone_comes F.S64 tt w32 (λ w. low w at words) at s i
  word_layer_comes F.U64 h memory words at s i = alone_comes F.U64 tt w32 (λ w. low w at words) at s i
  word_layer_comes F.Char h memory words at s i = alone_comes F.Char tt w32 (λ w. low w at words) at s i

  step_lifts : (y : Layer) → Holds y → Lifts (over.part_step l y)
  step_lifts y h = (
    λ memory place s i. counting_comes IsSmall (l.spend 1 place s) _ (spends 1 place s i) (λ t j. layer_comes y h memory place t j),
    λ memory words at s i. counting_comes IsSmall (l.spend 1 at s) _ (spends 1 at s i) (λ t j. word_layer_comes y h memory words at t j),
  )

  -- Every type.

  abbrev case_part : Case → CasePart S T
  case_part c = fold-Case (Part S T) (CasePart S T) (FieldPart S T) (over.part_step l) case_by field_by c

  abbrev field_part : Field → FieldPart S T
  field_part f = fold-Field (Part S T) (CasePart S T) (FieldPart S T) (over.part_step l) case_by field_by f

  abbrev IsLifted : ValType → Type 0
  IsLifted t = Lifts (over.part l t)

  abbrev IsLiftedCase : Case → Type 0
  IsLiftedCase c = LiftsAny (case_part c).payload

  abbrev IsLiftedField : Field → Type 0
  IsLiftedField f = Lifts (field_part f).part

  abbrev OfType : Type 0
  OfType = (t : ValType) × IsLifted t

  abbrev OfCase : Type 0
  OfCase = (c : Case) × IsLiftedCase c

  abbrev OfField : Type 0
  OfField = (f : Field) × IsLiftedField f

  abbrev layer : F.ValType-F OfType OfCase OfField → F.ValType-F ValType Case Field
  layer y = map-ValType OfType OfCase OfField ValType Case Field (λ e. e.0) (λ e. e.0) (λ e. e.0) y

  abbrev parts : F.ValType-F ValType Case Field → Layer
  parts y = map-ValType ValType Case Field (Part S T) (CasePart S T) (FieldPart S T) (over.part l) case_part field_part y

  fields_hold : (fields : List OfField) → AllByRecursion Lifts (in_fields (map field_part (map (λ (e : OfField). e.0) fields)))
  fields_hold [] = tt
  fields_hold (e ∷ fields) = (e.1, fields_hold fields)

  places_hold : (types : List OfType) → AllByRecursion Lifts (map (over.part l) (map (λ (e : OfType). e.0) types))
  places_hold [] = tt
  places_hold (e ∷ types) = (e.1, places_hold types)

  cases_hold : (cases : List OfCase) → AllByRecursion LiftsAny (in_cases (map case_part (map (λ (e : OfCase). e.0) cases)))
  cases_hold [] = tt
  cases_hold (e ∷ cases) = (e.1, cases_hold cases)

  holds : (y : F.ValType-F OfType OfCase OfField) → Holds (parts (layer y))
  holds (F.List e) = e.1
  holds (F.Record fields) = fields_hold fields
  holds (F.Tuple types) = places_hold types
  holds (F.Variant cases) = cases_hold cases
  holds (F.Option e) = e.1
  holds (F.Result None None) = (tt, tt)
  holds (F.Result None (Some e)) = (tt, e.1)
  holds (F.Result (Some o) None) = (o.1, tt)
  holds (F.Result (Some o) (Some e)) = (o.1, e.1)
  holds F.String = tt
  holds F.Bool = tt
  holds F.S8 = tt
  holds F.U8 = tt
  holds F.S16 = tt
  holds F.U16 = tt
  holds F.S32 = tt
  holds F.U32 = tt
  holds F.S64 = tt
  holds F.U64 = tt
  holds F.Char = tt
  holds (F.Flags labels) = tt
  holds (F.Enum labels) = tt
  holds (F.Own n) = tt
  holds (F.Borrow n) = tt
  holds (F.Stream e) = tt
  holds (F.Future e) = tt

  type_lifts : (y : F.ValType-F OfType OfCase OfField) → IsLifted (roll-ValType (layer y))
  type_lifts y =
      subst Lifts (sym (fold-roll-ValType (Part S T) (CasePart S T) (FieldPart S T) (over.part_step l) case_by field_by (layer y))) (step_lifts (parts (layer y)) (holds y))

  abbrev case_of_layer : F.Case-F OfType OfCase OfField → Case
  case_of_layer y = roll-Case (map-Case OfType OfCase OfField ValType Case Field (λ e. e.0) (λ e. e.0) (λ e. e.0) y)

  payload_lifts : (y : F.Case-F OfType OfCase OfField) → LiftsAny (held (over.part l) (case_of_layer y).payload)
  payload_lifts y =
      elim y.payload as (λ p. LiftsAny (held (over.part l) (case_of_layer (record { label = y.label; payload = p })).payload)) [
        | Some e ↦ e.1
        | None ↦ tt
      ]

  case_lifts : (y : F.Case-F OfType OfCase OfField) → IsLiftedCase (case_of_layer y)
  case_lifts y =
      subst (λ (p : CasePart S T). LiftsAny p.payload) (sym (fold_case (Part S T) (CasePart S T) (FieldPart S T) (over.part_step l) case_by field_by (case_of_layer y))) (payload_lifts y)

  abbrev field_of_layer : F.Field-F OfType OfCase OfField → Field
  field_of_layer y = roll-Field (map-Field OfType OfCase OfField ValType Case Field (λ e. e.0) (λ e. e.0) (λ e. e.0) y)

  field_lifts : (y : F.Field-F OfType OfCase OfField) → IsLiftedField (field_of_layer y)
  field_lifts y =
      subst (λ (p : FieldPart S T). Lifts p.part) (sym (fold_field (Part S T) (CasePart S T) (FieldPart S T) (over.part_step l) case_by field_by (field_of_layer y))) y.val_type.1

  all_lift : (t : ValType) → IsLifted t
  all_lift =
      ind-ValType IsLifted IsLiftedCase IsLiftedField
      (λ x y e. subst (λ (z : F.ValType-F ValType Case Field). IsLifted (roll-ValType z)) e (type_lifts y))
      (λ x y e. subst (λ (z : F.Case-F ValType Case Field). IsLiftedCase (roll-Case z)) e (case_lifts y))
      (λ x y e. subst (λ (z : F.Field-F ValType Case Field). IsLiftedField (roll-Field z)) e (field_lifts y))

  -- A value at a place, values one after the other, and a value in core values.

  pub load_comes : (t : ValType) (memory : List ℕ) (place : ℕ) (s : S) → I s → Comes IsSmall (over.load_by l t memory place s)
  load_comes t memory place s i =
      either_comes IsSmall (is_aligned place (over.part l t).laid.align) _ _
      (either_comes IsSmall (is_inside place (over.part l t).laid.size memory) _ _ ((all_lift t).0 memory place s i) tt) tt

  pub load_list_comes : (t : ValType) (memory : List ℕ) (place count : ℕ) (s : S) → I s → Comes AreSmall (over.load_list_by l t memory place count s)
  load_list_comes t memory place count s i = either_comes AreSmall (count == 0) _ _ (none_small, i) (list_comes (over.part l t) place count memory place s i (all_lift t))

  pub lift_flat_comes : (t : ValType) (memory words : List ℕ) (s : S) → I s → Comes IsSmall (over.lift_flat_by l t memory words s)
  lift_flat_comes t memory words s i = (all_lift t).1 memory words 0 s i
