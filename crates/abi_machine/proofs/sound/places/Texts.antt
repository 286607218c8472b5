-- A value that is lifted holds a string or a list only where its type does, and so does one that fits a type.
use Rattle.std.proofs.Common.{◌≡◌, ◌∙◌, ◌+◌, ◌*◌, ◌||◌, ℕ, zero, suc, Bool, true, false, if◌then◌else◌, List, [], ◌∷◌, ◌++◌, map, length, refl, sym, ap, subst, Option, Some, None, Result, Ok, Err}
use Rattle.std.specs.Prelude.{◌==◌, nat_lt}
use Rattle.std.specs.List.{AllByRecursion}
use Rattle.std.specs.Int.{Width, w8, w32}
use Rattle.syntax_trees.specs.declared.types.ValType.{ValType, roll-ValType}
use Rattle.syntax_trees.specs.declared.types.Case.{Case}
use Rattle.syntax_trees.specs.declared.types.Field.{Field}
use Rattle.syntax_trees.specs.declared.types.ValType.TheOpen as F
use Rattle.syntax_trees.specs.declared.types.ValType.TheViews.{roll-Case, roll-Field}
use Rattle.syntax_trees.specs.declared.types.ValType.TheFolds.{ind-ValType, map-ValType, map-Case, map-Field, fold-Case, fold-Field, fold-roll-ValType}
use Rattle.syntax_trees.proofs.Folds.{held, fold_case, fold_field}
use Rattle.syntax_trees.specs.Ends.{some_true, part_true, end_case, end_field}
use Rattle.laid_types.specs.Layout.{tag_size, aligned}
use Rattle.laid_types.specs.Lists.{list_step, has_list}
use Rattle.syntax_trees.specs.declared.value.Value.{Value}
use Rattle.syntax_trees.specs.declared.value.Value.TheOpen as V
use Rattle.syntax_trees.specs.declared.value.Value.TheViews as values
use Rattle.syntax_trees.specs.declared.value.Value.TheViews.{roll-Value}
use Rattle.syntax_trees.specs.declared.value.Value.TheVariants as plain
use Rattle.syntax_trees.specs.declared.value.Value.TheFolds.{map-Value, fold-roll-Value}
use Rattle.value_lift.specs.declared.trap.LiftTrap.{LiftTrap}
use Rattle.value_lift.specs.declared.trap.LiftWhy.TheVariants.{Bounds, BadChar}
use Rattle.value_lift.specs.Answers.{trap}
use Rattle.value_lift.specs.Bytes.{number, is_inside, is_aligned, width_of, is_scalar}
use Rattle.value_lift.specs.Pieces.{part_in, char_of, plain_of, flags_of}
use Rattle.value_lift.specs.Lifting.{low}
use Rattle.abi_machine.specs.LiftingOver.{Ledger, Came, Part, CasePart, FieldPart, What, in_fields, in_cases, behind_tag, case_by, field_by}
use Rattle.abi_machine.specs.LiftingOver as over
use Rattle.abi_machine.specs.sound.Places.{text_step, holds_text}
use Rattle.abi_machine.proofs.sound.places.Plans.{left_one, right_one}

-- What values hold, by their outer layer.
abbrev text_layer : V.Value-F Value → V.Value-F Bool
text_layer w = map-Value Value Bool holds_text w

pub texts_are : (w : V.Value-F Value) (v : Value) → roll-Value w ≡ v → holds_text v ≡ text_step (text_layer w)
texts_are w v e = ap holds_text (sym e) ∙ fold-roll-Value Bool text_step w

clash : {A : Type 0} (b : Bool) → b ≡ false → b ≡ true → A
clash true e f = cc
clash false e f = cc

-- cases and fields, and whether they hold a string or a list
abbrev case_list : Case → Bool
case_list c = fold-Case Bool Bool Bool list_step end_case end_field c

abbrev field_list : Field → Bool
field_list f = fold-Field Bool Bool Bool list_step end_case end_field f

-- what something that was lifted is
abbrev pub Comes : {S T A : Type 0} → (A → Type 0) → Came S T A → Type 0
Comes P (Ok x) = P x.0
Comes P (Err fault) = Unit {0}

-- A value, several, and one that may be there hold a string or a list only where this holds.
abbrev pub Says : Type 0 → Value → Type 0
Says B v = holds_text v ≡ true → B

abbrev pub SayAll : Type 0 → List Value → Type 0
SayAll B all = some_true (map holds_text all) ≡ true → B

abbrev SaysAny : Type 0 → Option Value → Type 0
SaysAny B None = Unit {0}
SaysAny B (Some v) = Says B v

says_none : (B : Type 0) (w : V.Value-F Value) (v : Value) → roll-Value w ≡ v → text_step (text_layer w) ≡ false → Says B v
says_none B w v e none holds = clash (holds_text v) (texts_are w v e ∙ none) holds

pub one_more : (B : Type 0) (all : List Value) (v : Value) → SayAll B all → Says B v → SayAll B (all ++ v ∷ [])
one_more B [] v h k = λ e. k (last (holds_text v) e)
  where
    last : (b : Bool) → (b || false) ≡ true → b ≡ true
    last true e = refl
    last false e = e
one_more B (x ∷ all) v h k = λ e. either (holds_text x) (some_true (map holds_text (all ++ v ∷ []))) e (λ i. h (left_one (holds_text x) _ i)) (λ i. one_more B all v (λ j. h (right_one (holds_text x) _ j)) k i)
  where
    either : (a b : Bool) → (a || b) ≡ true → (a ≡ true → B) → (b ≡ true → B) → B
    either true b e f g = f refl
    either false b e f g = g e

says_record : (B : Type 0) (all : List Value) → SayAll B all → Says B (values.Record all)
says_record B all h e = h (sym (texts_are (V.Record all) (values.Record all) (plain.rolls-Record all)) ∙ e)

says_variant : (B : Type 0) (n : ℕ) (payload : Option Value) → SaysAny B payload → Says B (values.Variant n payload)
says_variant B n None h e = clash (holds_text (values.Variant n None)) (texts_are (V.Variant n None) (values.Variant n None) (plain.rolls-Variant n None)) e
says_variant B n (Some v) h e = h (sym (texts_are (V.Variant n (Some v)) (values.Variant n (Some v)) (plain.rolls-Variant n (Some v))) ∙ e)

-- Values without parts.
ok_same : (x y : Value) → (let r : Result Value LiftTrap = Ok x in r) ≡ Ok y → x ≡ y
ok_same x y e = cc

leaf_says : (B : Type 0) (w : V.Value-F Value) (x v : Value) → roll-Value w ≡ x → text_step (text_layer w) ≡ false → (let r : Result Value LiftTrap = Ok x in r) ≡ Ok v → Says B v
leaf_says B w x v rolls none e = subst (Says B) (ok_same x v e) (says_none B w x rolls none)

char_says : (B : Type 0) (n place : ℕ) (v : Value) → char_of n place ≡ Ok v → Says B v
char_says B n place v e = by (is_scalar n) e
  where
    by : (b : Bool) → (if b then Ok (plain.Char n) else Err (trap BadChar place)) ≡ Ok v → Says B v
    by true f = leaf_says B (V.Char n) (plain.Char n) v (plain.rolls-Char n) refl f
    by false f = cc

module _ {S T : Type 0} (l : Ledger S T) (B : Type 0) where
  after_comes : {A C : Type 0} (P : A → Type 0) (Q : C → Type 0) (c : Came S T A) (f : A → S → Came S T C) → Comes P c → ((x : A) (s : S) → P x → Comes Q (f x s)) → Comes Q (over.after c f)
  after_comes P Q (Ok x) f h more = more x.0 x.1 h
  after_comes P Q (Err fault) f h more = tt

  made_comes : {A C : Type 0} (P : A → Type 0) (Q : C → Type 0) (f : A → C) (c : Came S T A) → ((x : A) → P x → Q (f x)) → Comes P c → Comes Q (over.made f c)
  made_comes P Q f (Ok x) keeps h = keeps x.0 h
  made_comes P Q f (Err fault) keeps h = tt

  counting_comes : {A : Type 0} (P : A → Type 0) (r : Result S T) (f : S → Came S T A) → ((s : S) → Comes P (f s)) → Comes P (over.counting r f)
  counting_comes P (Ok s) f h = h s
  counting_comes P (Err fault) f h = tt

  uncounted_comes : {A : Type 0} (P : A → Type 0) (s : S) (r : Result A LiftTrap) → ((x : A) → r ≡ Ok x → P x) → Comes P (over.uncounted l s r)
  uncounted_comes P s (Ok x) h = h x refl
  uncounted_comes P s (Err fault) h = tt

  either_comes : {A : Type 0} (P : A → Type 0) (b : Bool) (c d : Came S T A) → Comes P c → Comes P d → Comes P (if b then c else d)
  either_comes P true c d h i = h
  either_comes P false c d h i = i

  any_comes : {A : Type 0} (P : A → Type 0) → ((x : A) → P x) → (c : Came S T A) → Comes P c
  any_comes P all (Ok x) = all x.0
  any_comes P all (Err fault) = tt

  -- what a part lifts
  abbrev Lifts : Part S T → Type 0
  Lifts p = ((memory : List ℕ) (place : ℕ) (s : S) → Comes (Says B) (p.lift memory place s)) × ((memory words : List ℕ) (at : ℕ) (s : S) → Comes (Says B) (p.lift_words memory words at s))

  abbrev LiftsAny : Option (Part S T) → Type 0
  LiftsAny None = Unit {0}
  LiftsAny (Some p) = Lifts p

  part_lifts : (parts : List (Option (Part S T))) (n : ℕ) → AllByRecursion LiftsAny parts → LiftsAny (part_in parts n)
  part_lifts [] n h = tt
  part_lifts (p ∷ parts) zero h = h.0
  part_lifts (p ∷ parts) (suc n) h = part_lifts parts n h.1

  elements_say : (e : Part S T) (memory : List ℕ) (before : List Value) (count at : ℕ) (s : S) → Lifts e → SayAll B before → Comes (SayAll B) (over.elements_from l e memory before count at s)
  elements_say e memory before zero at s h k = k
  elements_say e memory before (suc count) at s h k =
      after_comes (Says B) (SayAll B) (e.lift memory at s) _ (h.0 memory at s) (λ v t i. elements_say e memory (before ++ v ∷ []) count (at + e.laid.size) t h (one_more B before v k i))

  nothing_says : SayAll B []
  nothing_says e = cc

  pub list_says : (e : Part S T) (at count : ℕ) (memory : List ℕ) (place : ℕ) (s : S) → Lifts e → Comes (SayAll B) (over.elements_of l e at count memory place s)
  list_says e at count memory place s h =
      either_comes (SayAll B) (is_aligned at e.laid.align) _ _
      (either_comes (SayAll B) (is_inside at (count * e.laid.size) memory) (over.elements_from l e memory [] count at s) (over.fails l (trap Bounds place) s)
      (elements_say e memory [] count at s h nothing_says) tt) tt

  chosen_says : (n count place : ℕ) (s : S) (payload : Came S T (Option Value)) → Comes (SaysAny B) payload → Comes (Says B) (over.chosen l n count place s payload)
  chosen_says n count place s payload h = either_comes (Says B) (nat_lt n count) _ _ (made_comes (SaysAny B) (Says B) _ payload (λ o k. says_variant B n o k) h) tt

  fields_say : (memory : List ℕ) (place : ℕ) (before : List Value) (end : ℕ) (parts : List (Part S T)) (s : S) → AllByRecursion Lifts parts → SayAll B before
      → Comes (SayAll B) (over.fields_from l memory place before end parts s)
  fields_say memory place before end [] s h k = k
  fields_say memory place before end (e ∷ parts) s h k =
      after_comes (Says B) (SayAll B) (e.lift memory (place + aligned end e.laid.align) s) _ (h.0.0 memory (place + aligned end e.laid.align) s)
      (λ v t i. fields_say memory place (before ++ v ∷ []) (aligned end e.laid.align + e.laid.size) parts t h.1 (one_more B before v k i))

  payload_says : (e : Option (Part S T)) (memory : List ℕ) (place : ℕ) (s : S) → LiftsAny e → Comes (SaysAny B) (over.payload_of l e memory place s)
  payload_says None memory place s h = tt
  payload_says (Some e) memory place s h = made_comes (Says B) (SaysAny B) _ (e.lift memory place s) (λ v k. k) (h.0 memory place s)

  case_says : (count : ℕ) (parts : List (Option (Part S T))) (memory : List ℕ) (place : ℕ) (s : S) → AllByRecursion LiftsAny parts → Comes (Says B) (over.case_of l count parts memory place s)
  case_says count parts memory place s h =
      let n = number (width_of (tag_size count)) place memory in
      chosen_says n count place s _ (payload_says (part_in parts n) memory (place + behind_tag count parts) s (part_lifts parts n h))

  word_fields_say : (memory words : List ℕ) (before : List Value) (at : ℕ) (parts : List (Part S T)) (s : S) → AllByRecursion Lifts parts → SayAll B before
      → Comes (SayAll B) (over.word_fields_from l memory words before at parts s)
  word_fields_say memory words before at [] s h k = k
  word_fields_say memory words before at (e ∷ parts) s h k =
      after_comes (Says B) (SayAll B) (e.lift_words memory words at s) _ (h.0.1 memory words at s)
      (λ v t i. word_fields_say memory words (before ++ v ∷ []) (at + length e.flat) parts t h.1 (one_more B before v k i))

  word_payload_says : (e : Option (Part S T)) (memory words : List ℕ) (at : ℕ) (s : S) → LiftsAny e → Comes (SaysAny B) (over.word_payload_of l e memory words at s)
  word_payload_says None memory words at s h = tt
  word_payload_says (Some e) memory words at s h = made_comes (Says B) (SaysAny B) _ (e.lift_words memory words at s) (λ v k. k) (h.1 memory words at s)

  word_case_says : (count : ℕ) (parts : List (Option (Part S T))) (memory words : List ℕ) (at : ℕ) (s : S) → AllByRecursion LiftsAny parts → Comes (Says B) (over.word_case_of l count parts memory words at s)
  word_case_says count parts memory words at s h =
      chosen_says (low w32 at words) count at s _ (word_payload_says (part_in parts (low w32 at words)) memory words (at + 1) s (part_lifts parts (low w32 at words) h))

  taken_says : (what : What) (make : ℕ → Value) (index place : ℕ) (s : S) → ((n : ℕ) → Says B (make n)) → Comes (Says B) (over.taken l what make index place s)
  taken_says what make index place s h = made_comes (λ n. Unit {0}) (Says B) make _ (λ n k. h n) (any_comes (λ n. Unit {0}) (λ n. tt) _)

  -- Types by their outer layer.

  abbrev Layer : Type 0
  Layer = F.ValType-F (Part S T) (CasePart S T) (FieldPart S T)

  abbrev Holds : Layer → Type 0
  Holds F.String = B
  Holds (F.List e) = B
  Holds (F.Record fields) = AllByRecursion Lifts (in_fields fields)
  Holds (F.Tuple parts) = AllByRecursion Lifts parts
  Holds (F.Variant cases) = AllByRecursion LiftsAny (in_cases cases)
  Holds (F.Option e) = Lifts e
  Holds (F.Result ok err) = LiftsAny ok × LiftsAny err
  Holds other = Unit {0}

  own_says : (resource n : ℕ) → Says B (plain.Own (record { resource = resource; rep = n }))
  own_says resource n = says_none B (V.Own (record { resource = resource; rep = n })) _ (plain.rolls-Own (record { resource = resource; rep = n })) refl

  borrow_says : (resource n : ℕ) → Says B (plain.Borrow (record { resource = resource; rep = n }))
  borrow_says resource n = says_none B (V.Borrow (record { resource = resource; rep = n })) _ (plain.rolls-Borrow (record { resource = resource; rep = n })) refl

  stream_says : (n : ℕ) → Says B (plain.Stream n)
  stream_says n = says_none B (V.Stream n) (plain.Stream n) (plain.rolls-Stream n) refl

  future_says : (n : ℕ) → Says B (plain.Future n)
  future_says n = says_none B (V.Future n) (plain.Future n) (plain.rolls-Future n) refl

  flags_say : (labels : List (List ℕ)) (bits : ℕ) → Says B (flags_of labels bits)
  flags_say labels bits = says_none B (V.Flags _) (flags_of labels bits) (plain.rolls-Flags _) refl

  plain_says : (y : Layer) (w : Width) (n : Width → ℕ) (place : ℕ) (v : Value) → plain_of y w n place ≡ Ok v → Says B v
  plain_says F.Bool w n place v e = leaf_says B (V.Bool _) _ v (plain.rolls-Bool _) refl e
  plain_says F.S8 w n place v e = leaf_says B (V.S8 _) _ v (plain.rolls-S8 _) refl e
  plain_says F.U8 w n place v e = leaf_says B (V.U8 _) _ v (plain.rolls-U8 _) refl e
  plain_says F.S16 w n place v e = leaf_says B (V.S16 _) _ v (plain.rolls-S16 _) refl e
  plain_says F.U16 w n place v e = leaf_says B (V.U16 _) _ v (plain.rolls-U16 _) refl e
  plain_says F.S32 w n place v e = leaf_says B (V.S32 _) _ v (plain.rolls-S32 _) refl e
  plain_says F.U32 w n place v e = leaf_says B (V.U32 _) _ v (plain.rolls-U32 _) refl e
  plain_says F.S64 w n place v e = leaf_says B (V.S64 _) _ v (plain.rolls-S64 _) refl e
  plain_says F.U64 w n place v e = leaf_says B (V.U64 _) _ v (plain.rolls-U64 _) refl e
  plain_says F.Char w n place v e = char_says B (n w32) place v e
  plain_says (F.Own resource) w n place v e = leaf_says B (V.Own _) _ v (plain.rolls-Own _) refl e
  plain_says (F.Borrow resource) w n place v e = leaf_says B (V.Borrow _) _ v (plain.rolls-Borrow _) refl e
  plain_says (F.Stream element) w n place v e = leaf_says B (V.Stream _) _ v (plain.rolls-Stream _) refl e
  plain_says (F.Future element) w n place v e = leaf_says B (V.Future _) _ v (plain.rolls-Future _) refl e
  plain_says other w n place v e = cc

  given_says : B → (c : Came S T Value) → Comes (Says B) c
  given_says b c = any_comes (Says B) (λ v e. b) c

  layer_says : (y : Layer) → Holds y → (memory : List ℕ) (place : ℕ) (s : S) → Comes (Says B) (over.lift_case l y memory place s)
  layer_says F.String h memory place s = given_says h _
  layer_says (F.List e) h memory place s = given_says h _
  layer_says (F.Record fields) h memory place s = made_comes (SayAll B) (Says B) _ _ (λ all k. says_record B all k) (fields_say memory place [] 0 (in_fields fields) s h nothing_says)
  layer_says (F.Tuple parts) h memory place s = made_comes (SayAll B) (Says B) _ _ (λ all k. says_record B all k) (fields_say memory place [] 0 parts s h nothing_says)
  layer_says (F.Variant cases) h memory place s = case_says (length cases) (in_cases cases) memory place s h
  layer_says (F.Enum labels) h memory place s = case_says (length labels) [] memory place s tt
  layer_says (F.Option e) h memory place s = case_says 2 (None ∷ Some e ∷ []) memory place s (tt, (h, tt))
  layer_says (F.Result ok err) h memory place s = case_says 2 (ok ∷ err ∷ []) memory place s (h.0, (h.1, tt))
  layer_says (F.Flags labels) h memory place s = flags_say labels _
  layer_says (F.Own resource) h memory place s = taken_says _ _ (number w32 place memory) place s (own_says resource)
  layer_says (F.Borrow resource) h memory place s = taken_says _ _ (number w32 place memory) place s (borrow_says resource)
  layer_says (F.Stream element) h memory place s = taken_says _ _ (number w32 place memory) place s stream_says
  layer_says (F.Future element) h memory place s = taken_says _ _ (number w32 place memory) place s future_says
  layer_says other h memory place s = uncounted_comes (Says B) s (plain_of other w8 (λ w. number w place memory) place) (λ v e. plain_says other w8 (λ w. number w place memory) place v e)

  word_layer_says : (y : Layer) → Holds y → (memory words : List ℕ) (at : ℕ) (s : S) → Comes (Says B) (over.lift_word_case l y memory words at s)
  word_layer_says F.String h memory words at s = given_says h _
  word_layer_says (F.List e) h memory words at s = given_says h _
  word_layer_says (F.Record fields) h memory words at s = made_comes (SayAll B) (Says B) _ _ (λ all k. says_record B all k) (word_fields_say memory words [] at (in_fields fields) s h nothing_says)
  word_layer_says (F.Tuple parts) h memory words at s = made_comes (SayAll B) (Says B) _ _ (λ all k. says_record B all k) (word_fields_say memory words [] at parts s h nothing_says)
  word_layer_says (F.Variant cases) h memory words at s = word_case_says (length cases) (in_cases cases) memory words at s h
  word_layer_says (F.Enum labels) h memory words at s = word_case_says (length labels) [] memory words at s tt
  word_layer_says (F.Option e) h memory words at s = word_case_says 2 (None ∷ Some e ∷ []) memory words at s (tt, (h, tt))
  word_layer_says (F.Result ok err) h memory words at s = word_case_says 2 (ok ∷ err ∷ []) memory words at s (h.0, (h.1, tt))
  word_layer_says (F.Flags labels) h memory words at s = flags_say labels _
  word_layer_says (F.Own resource) h memory words at s = taken_says _ _ (low w32 at words) at s (own_says resource)
  word_layer_says (F.Borrow resource) h memory words at s = taken_says _ _ (low w32 at words) at s (borrow_says resource)
  word_layer_says (F.Stream element) h memory words at s = taken_says _ _ (low w32 at words) at s stream_says
  word_layer_says (F.Future element) h memory words at s = taken_says _ _ (low w32 at words) at s future_says
  word_layer_says other h memory words at s = uncounted_comes (Says B) s (plain_of other w32 (λ w. low w at words) at) (λ v e. plain_says other w32 (λ w. low w at words) at v e)

  step_lifts : (y : Layer) → Holds y → Lifts (over.part_step l y)
  step_lifts y h = (
    λ memory place s. counting_comes (Says B) (l.spend 1 place s) _ (λ t. layer_says y h memory place t),
    λ memory words at s. counting_comes (Says B) (l.spend 1 at s) _ (λ t. word_layer_says y h memory words at t),
  )

  -- Every type.

  abbrev case_part : Case → CasePart S T
  case_part c = fold-Case (Part S T) (CasePart S T) (FieldPart S T) (over.part_step l) case_by field_by c

  abbrev field_part : Field → FieldPart S T
  field_part f = fold-Field (Part S T) (CasePart S T) (FieldPart S T) (over.part_step l) case_by field_by f

  abbrev IsLifted : ValType → Type 0
  IsLifted t = (has_list t ≡ true → B) → Lifts (over.part l t)

  abbrev IsLiftedCase : Case → Type 0
  IsLiftedCase c = (case_list c ≡ true → B) → LiftsAny (case_part c).payload

  abbrev IsLiftedField : Field → Type 0
  IsLiftedField f = (field_list f ≡ true → B) → Lifts (field_part f).part

  abbrev OfType : Type 0
  OfType = (t : ValType) × IsLifted t

  abbrev OfCase : Type 0
  OfCase = (c : Case) × IsLiftedCase c

  abbrev OfField : Type 0
  OfField = (f : Field) × IsLiftedField f

  abbrev layer : F.ValType-F OfType OfCase OfField → F.ValType-F ValType Case Field
  layer y = map-ValType OfType OfCase OfField ValType Case Field (λ e. e.0) (λ e. e.0) (λ e. e.0) y

  abbrev parts : F.ValType-F ValType Case Field → Layer
  parts y = map-ValType ValType Case Field (Part S T) (CasePart S T) (FieldPart S T) (over.part l) case_part field_part y

  abbrev bools : F.ValType-F ValType Case Field → F.ValType-F Bool Bool Bool
  bools y = map-ValType ValType Case Field Bool Bool Bool has_list case_list field_list y

  fields_hold : (fields : List OfField) → (some_true (map field_list (map (λ (e : OfField). e.0) fields)) ≡ true → B)
      → AllByRecursion Lifts (in_fields (map field_part (map (λ (e : OfField). e.0) fields)))
  fields_hold [] may = tt
  fields_hold (e ∷ fields) may = (e.1 (λ k. may (left_one (field_list e.0) _ k)), fields_hold fields (λ k. may (right_one (field_list e.0) _ k)))

  places_hold : (types : List OfType) → (some_true (map has_list (map (λ (e : OfType). e.0) types)) ≡ true → B)
      → AllByRecursion Lifts (map (over.part l) (map (λ (e : OfType). e.0) types))
  places_hold [] may = tt
  places_hold (e ∷ types) may = (e.1 (λ k. may (left_one (has_list e.0) _ k)), places_hold types (λ k. may (right_one (has_list e.0) _ k)))

  cases_hold : (cases : List OfCase) → (some_true (map case_list (map (λ (e : OfCase). e.0) cases)) ≡ true → B)
      → AllByRecursion LiftsAny (in_cases (map case_part (map (λ (e : OfCase). e.0) cases)))
  cases_hold [] may = tt
  cases_hold (e ∷ cases) may = (e.1 (λ k. may (left_one (case_list e.0) _ k)), cases_hold cases (λ k. may (right_one (case_list e.0) _ k)))

  holds : (y : F.ValType-F OfType OfCase OfField) → (list_step (bools (layer y)) ≡ true → B) → Holds (parts (layer y))
  holds (F.List e) may = may refl
  holds F.String may = may refl
  holds (F.Record fields) may = fields_hold fields may
  holds (F.Tuple types) may = places_hold types may
  holds (F.Variant cases) may = cases_hold cases may
  holds (F.Option e) may = e.1 may
  holds (F.Result None None) may = (tt, tt)
  holds (F.Result None (Some e)) may = (tt, e.1 (λ k. may k))
  holds (F.Result (Some o) None) may = (o.1 (λ k. may (left_one (has_list o.0) false k)), tt)
  holds (F.Result (Some o) (Some e)) may =
      (o.1 (λ k. may (left_one (has_list o.0) (has_list e.0) k)), e.1 (λ k. may (right_one (has_list o.0) (has_list e.0) k)))
  holds F.Bool may = tt
  holds F.S8 may = tt
  holds F.U8 may = tt
  holds F.S16 may = tt
  holds F.U16 may = tt
  holds F.S32 may = tt
  holds F.U32 may = tt
  holds F.S64 may = tt
  holds F.U64 may = tt
  holds F.Char may = tt
  holds (F.Flags labels) may = tt
  holds (F.Enum labels) may = tt
  holds (F.Own n) may = tt
  holds (F.Borrow n) may = tt
  holds (F.Stream e) may = tt
  holds (F.Future e) may = tt

  type_lifts : (y : F.ValType-F OfType OfCase OfField) → IsLifted (roll-ValType (layer y))
  type_lifts y may =
      subst Lifts (sym (fold-roll-ValType (Part S T) (CasePart S T) (FieldPart S T) (over.part_step l) case_by field_by (layer y)))
      (step_lifts (parts (layer y)) (holds y (λ k. may (fold-roll-ValType Bool Bool Bool list_step end_case end_field (layer y) ∙ k))))

  abbrev case_of_layer : F.Case-F OfType OfCase OfField → Case
  case_of_layer y = roll-Case (map-Case OfType OfCase OfField ValType Case Field (λ e. e.0) (λ e. e.0) (λ e. e.0) y)

  payload_lifts : (y : F.Case-F OfType OfCase OfField) → (part_true (held has_list (case_of_layer y).payload) ≡ true → B)
      → LiftsAny (held (over.part l) (case_of_layer y).payload)
  payload_lifts y =
      elim y.payload as (λ p. (part_true (held has_list (case_of_layer (record { label = y.label; payload = p })).payload) ≡ true → B)
      → LiftsAny (held (over.part l) (case_of_layer (record { label = y.label; payload = p })).payload)) [
        | Some e ↦ (λ may. e.1 may)
        | None ↦ (λ may. tt)
      ]

  case_lifts : (y : F.Case-F OfType OfCase OfField) → IsLiftedCase (case_of_layer y)
  case_lifts y may =
      subst (λ (p : CasePart S T). LiftsAny p.payload) (sym (fold_case (Part S T) (CasePart S T) (FieldPart S T) (over.part_step l) case_by field_by (case_of_layer y)))
      (payload_lifts y (λ k. may (fold_case Bool Bool Bool list_step end_case end_field (case_of_layer y) ∙ k)))

  abbrev field_of_layer : F.Field-F OfType OfCase OfField → Field
  field_of_layer y = roll-Field (map-Field OfType OfCase OfField ValType Case Field (λ e. e.0) (λ e. e.0) (λ e. e.0) y)

  field_lifts : (y : F.Field-F OfType OfCase OfField) → IsLiftedField (field_of_layer y)
  field_lifts y may =
      subst (λ (p : FieldPart S T). Lifts p.part) (sym (fold_field (Part S T) (CasePart S T) (FieldPart S T) (over.part_step l) case_by field_by (field_of_layer y)))
      (y.val_type.1 (λ k. may (fold_field Bool Bool Bool list_step end_case end_field (field_of_layer y) ∙ k)))

  all_lift : (t : ValType) → IsLifted t
  all_lift =
      ind-ValType IsLifted IsLiftedCase IsLiftedField
      (λ x y e. subst (λ (z : F.ValType-F ValType Case Field). IsLifted (roll-ValType z)) e (type_lifts y))
      (λ x y e. subst (λ (z : F.Case-F ValType Case Field). IsLiftedCase (roll-Case z)) e (case_lifts y))
      (λ x y e. subst (λ (z : F.Field-F ValType Case Field). IsLiftedField (roll-Field z)) e (field_lifts y))

  -- A value at a place, values one after the other, and a value in core values.

  pub load_says : (t : ValType) → (has_list t ≡ true → B) → (memory : List ℕ) (place : ℕ) (s : S) → Comes (Says B) (over.load_by l t memory place s)
  load_says t may memory place s =
      either_comes (Says B) (is_aligned place (over.part l t).laid.align) _ _
      (either_comes (Says B) (is_inside place (over.part l t).laid.size memory) _ _ ((all_lift t may).0 memory place s) tt) tt

  pub load_list_says : (t : ValType) → (has_list t ≡ true → B) → (memory : List ℕ) (place count : ℕ) (s : S) → Comes (SayAll B) (over.load_list_by l t memory place count s)
  load_list_says t may memory place count s = either_comes (SayAll B) (count == 0) _ _ nothing_says (list_says (over.part l t) place count memory place s (all_lift t may))

  pub lift_flat_says : (t : ValType) → (has_list t ≡ true → B) → (memory words : List ℕ) (s : S) → Comes (Says B) (over.lift_flat_by l t memory words s)
  lift_flat_says t may memory words s = (all_lift t may).1 memory words 0 s
