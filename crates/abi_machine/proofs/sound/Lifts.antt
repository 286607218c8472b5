-- What lifting keeps of what it goes on with, where counting a value and using an index keep it. A borrow is used only where the type holds
-- one.
use Rattle.std.proofs.Common.{◌≡◌, ◌∙◌, ◌+◌, ◌*◌, ◌||◌, ℕ, zero, suc, Bool, true, false, if◌then◌else◌, List, [], ◌∷◌, ◌++◌, map, length, refl, sym, subst, Option, Some, None, Result, Ok, Err}
use Rattle.std.specs.Prelude.{◌==◌}
use Rattle.std.specs.List.{AllByRecursion}
use Rattle.std.specs.Int.{Width, w8, w32}
use Rattle.syntax_trees.specs.declared.types.ValType.{ValType, roll-ValType}
use Rattle.syntax_trees.specs.declared.types.Case.{Case}
use Rattle.syntax_trees.specs.declared.types.Field.{Field}
use Rattle.syntax_trees.specs.declared.types.ValType.TheOpen as F
use Rattle.syntax_trees.specs.declared.types.ValType.TheViews.{roll-Case, roll-Field}
use Rattle.syntax_trees.specs.declared.types.ValType.TheFolds.{ind-ValType, map-ValType, map-Case, map-Field, fold-Case, fold-Field, fold-roll-ValType}
use Rattle.syntax_trees.proofs.Folds.{held, fold_case, fold_field}
use Rattle.syntax_trees.specs.Ends.{some_true, part_true, end_case, end_field}
use Rattle.laid_types.specs.Handles.{borrow_step, has_borrow}
use Rattle.syntax_trees.specs.declared.value.Value.{Value}
use Rattle.value_lift.specs.declared.trap.LiftTrap.{LiftTrap}
use Rattle.value_lift.specs.declared.trap.LiftWhy.TheVariants.{Bounds}
use Rattle.value_lift.specs.Answers.{trap}
use Rattle.value_lift.specs.Bytes.{number, is_inside, is_aligned, bytes_at, width_of}
use Rattle.value_lift.specs.Pieces.{part_in, plain_of, text_of}
use Rattle.value_lift.specs.Lifting.{low}
use Rattle.std.specs.Prelude.{nat_lt}
use Rattle.laid_types.specs.Layout.{tag_size, aligned}
use Rattle.abi_machine.specs.LiftingOver.{Use, Ledger, Came, Part, CasePart, FieldPart, What, AnOwn, ABorrow, AnEnd, in_fields, in_cases, behind_tag, case_by, field_by}
use Rattle.abi_machine.specs.LiftingOver as over

-- what something that was lifted leaves, and what it stops with
abbrev pub Leaves : {S T A : Type 0} → (S → Type 0) → (T → Type 0) → Came S T A → Type 0
Leaves P Q (Ok x) = P x.1
Leaves P Q (Err fault) = Q fault

abbrev pub Spent : {S T : Type 0} → (S → Type 0) → (T → Type 0) → Result S T → Type 0
Spent P Q (Ok s) = P s
Spent P Q (Err fault) = Q fault

-- A borrow is used where this holds.
abbrev pub IsUsed : Type 0 → What → Type 0
IsUsed B (AnOwn resource) = Unit {0}
IsUsed B (ABorrow resource) = B
IsUsed B (AnEnd kind element) = Unit {0}

-- one of several
left_one : (a b : Bool) → a ≡ true → (a || b) ≡ true
left_one true b e = refl
left_one false b e = cc

right_one : (a b : Bool) → b ≡ true → (a || b) ≡ true
right_one true b e = refl
right_one false b e = e

-- cases and fields, and whether they hold a borrow
abbrev case_borrow : Case → Bool
case_borrow c = fold-Case Bool Bool Bool borrow_step end_case end_field c

abbrev field_borrow : Field → Bool
field_borrow f = fold-Field Bool Bool Bool borrow_step end_case end_field f

module _ {S T : Type 0} (l : Ledger S T) (P : S → Type 0) (Q : T → Type 0) (B : Type 0) (spends : (many place : ℕ) (s : S) → P s → Spent P Q (l.spend many place s))
    (stops : (fault : LiftTrap) (s : S) → P s → Q (l.stop fault s)) (takes : (u : Use) (s : S) → IsUsed B u.what → P s → Leaves P Q (l.take u s)) where
  after_leaves : {A B : Type 0} (c : Came S T A) (f : A → S → Came S T B) → Leaves P Q c → ((x : A) (s : S) → P s → Leaves P Q (f x s)) → Leaves P Q (over.after c f)
  after_leaves (Ok x) f h more = more x.0 x.1 h
  after_leaves (Err fault) f h more = h

  made_leaves : {A B : Type 0} (f : A → B) (c : Came S T A) → Leaves P Q c → Leaves P Q (over.made f c)
  made_leaves f (Ok x) h = h
  made_leaves f (Err fault) h = h

  counting_leaves : {A : Type 0} (r : Result S T) (f : S → Came S T A) → Spent P Q r → ((s : S) → P s → Leaves P Q (f s)) → Leaves P Q (over.counting r f)
  counting_leaves (Ok s) f h more = more s h
  counting_leaves (Err fault) f h more = h

  uncounted_leaves : {A : Type 0} (s : S) (r : Result A LiftTrap) → P s → Leaves P Q (over.uncounted l s r)
  uncounted_leaves s (Ok x) p = p
  uncounted_leaves s (Err fault) p = stops fault s p

  either_leaves : {A : Type 0} (b : Bool) (c d : Came S T A) → Leaves P Q c → Leaves P Q d → Leaves P Q (if b then c else d)
  either_leaves true c d h i = h
  either_leaves false c d h i = i

  -- what lifts a part leaves it so
  abbrev Lifts : Part S T → Type 0
  Lifts p =
      ((memory : List ℕ) (place : ℕ) (s : S) → P s → Leaves P Q (p.lift memory place s))
      × ((memory words : List ℕ) (at : ℕ) (s : S) → P s → Leaves P Q (p.lift_words memory words at s))

  abbrev LiftsAny : Option (Part S T) → Type 0
  LiftsAny None = Unit {0}
  LiftsAny (Some p) = Lifts p

  part_lifts : (parts : List (Option (Part S T))) (n : ℕ) → AllByRecursion LiftsAny parts → LiftsAny (part_in parts n)
  part_lifts [] n h = tt
  part_lifts (p ∷ parts) zero h = h.0
  part_lifts (p ∷ parts) (suc n) h = part_lifts parts n h.1

  string_leaves : (at count : ℕ) (memory : List ℕ) (place : ℕ) (s : S) → P s → Leaves P Q (over.string_of l at count memory place s)
  string_leaves at count memory place s p =
      either_leaves (is_inside at count memory) _ _
      (counting_leaves (l.spend count place s) _ (spends count place s p) (λ t q. uncounted_leaves t (text_of (bytes_at at count memory) place) q)) (stops _ s p)

  elements_leave : (e : Part S T) (memory : List ℕ) (before : List Value) (count at : ℕ) (s : S) → Lifts e → P s → Leaves P Q (over.elements_from l e memory before count at s)
  elements_leave e memory before zero at s h p = p
  elements_leave e memory before (suc count) at s h p =
      after_leaves (e.lift memory at s) _ (h.0 memory at s p) (λ v t q. elements_leave e memory (before ++ v ∷ []) count (at + e.laid.size) t h q)

  list_leaves : (e : Part S T) (at count : ℕ) (memory : List ℕ) (place : ℕ) (s : S) → Lifts e → P s → Leaves P Q (over.elements_of l e at count memory place s)
  list_leaves e at count memory place s h p =
      let outside : LiftTrap = trap Bounds place in
      either_leaves (is_aligned at e.laid.align) _ _
      (either_leaves (is_inside at (count * e.laid.size) memory) (over.elements_from l e memory [] count at s) (over.fails l outside s)
      (elements_leave e memory [] count at s h p) (stops outside s p)) (stops _ s p)

  chosen_leaves : (n count place : ℕ) (s : S) (payload : Came S T (Option Value)) → P s → Leaves P Q payload → Leaves P Q (over.chosen l n count place s payload)
  chosen_leaves n count place s payload p h = either_leaves (nat_lt n count) _ _ (made_leaves _ payload h) (stops _ s p)

  fields_leave : (memory : List ℕ) (place : ℕ) (before : List Value) (end : ℕ) (parts : List (Part S T)) (s : S) → AllByRecursion Lifts parts → P s
      → Leaves P Q (over.fields_from l memory place before end parts s)
  fields_leave memory place before end [] s h p = p
  fields_leave memory place before end (e ∷ parts) s h p =
      after_leaves (e.lift memory (place + aligned end e.laid.align) s) _ (h.0.0 memory (place + aligned end e.laid.align) s p)
      (λ v t q. fields_leave memory place (before ++ v ∷ []) (aligned end e.laid.align + e.laid.size) parts t h.1 q)

  payload_uses : (e : Option (Part S T)) (memory : List ℕ) (place : ℕ) (s : S) → LiftsAny e → P s → Leaves P Q (over.payload_of l e memory place s)
  payload_uses None memory place s h p = p
  payload_uses (Some e) memory place s h p = made_leaves _ (e.lift memory place s) (h.0 memory place s p)

  case_leaves : (count : ℕ) (parts : List (Option (Part S T))) (memory : List ℕ) (place : ℕ) (s : S) → AllByRecursion LiftsAny parts → P s
      → Leaves P Q (over.case_of l count parts memory place s)
  case_leaves count parts memory place s h p =
      let n = number (width_of (tag_size count)) place memory in
      chosen_leaves n count place s _ p (payload_uses (part_in parts n) memory (place + behind_tag count parts) s (part_lifts parts n h) p)

  word_fields_leave : (memory words : List ℕ) (before : List Value) (at : ℕ) (parts : List (Part S T)) (s : S) → AllByRecursion Lifts parts → P s
      → Leaves P Q (over.word_fields_from l memory words before at parts s)
  word_fields_leave memory words before at [] s h p = p
  word_fields_leave memory words before at (e ∷ parts) s h p =
      after_leaves (e.lift_words memory words at s) _ (h.0.1 memory words at s p)
      (λ v t q. word_fields_leave memory words (before ++ v ∷ []) (at + length e.flat) parts t h.1 q)

  word_payload_uses : (e : Option (Part S T)) (memory words : List ℕ) (at : ℕ) (s : S) → LiftsAny e → P s → Leaves P Q (over.word_payload_of l e memory words at s)
  word_payload_uses None memory words at s h p = p
  word_payload_uses (Some e) memory words at s h p = made_leaves _ (e.lift_words memory words at s) (h.1 memory words at s p)

  word_case_leaves : (count : ℕ) (parts : List (Option (Part S T))) (memory words : List ℕ) (at : ℕ) (s : S) → AllByRecursion LiftsAny parts → P s
      → Leaves P Q (over.word_case_of l count parts memory words at s)
  word_case_leaves count parts memory words at s h p =
      chosen_leaves (low w32 at words) count at s _ p
      (word_payload_uses (part_in parts (low w32 at words)) memory words (at + 1) s (part_lifts parts (low w32 at words) h) p)

  taken_leaves : (what : What) (make : ℕ → Value) (index place : ℕ) (s : S) → IsUsed B what → P s → Leaves P Q (over.taken l what make index place s)
  taken_leaves what make index place s used p = made_leaves make _ (takes (record { what = what; index = index; place = place }) s used p)

  -- Types by their outer layer.

  abbrev Layer : Type 0
  Layer = F.ValType-F (Part S T) (CasePart S T) (FieldPart S T)

  abbrev Holds : Layer → Type 0
  Holds (F.List e) = Lifts e
  Holds (F.Record fields) = AllByRecursion Lifts (in_fields fields)
  Holds (F.Tuple parts) = AllByRecursion Lifts parts
  Holds (F.Variant cases) = AllByRecursion LiftsAny (in_cases cases)
  Holds (F.Option e) = Lifts e
  Holds (F.Result ok err) = LiftsAny ok × LiftsAny err
  Holds (F.Borrow resource) = B
  Holds other = Unit {0}

  plain_leaves : (y : Layer) (w : Width) (n : Width → ℕ) (place : ℕ) (s : S) → P s → Leaves P Q (over.uncounted l s (plain_of y w n place))
  plain_leaves y w n place s p = uncounted_leaves s (plain_of y w n place) p

  layer_leaves : (y : Layer) → Holds y → (memory : List ℕ) (place : ℕ) (s : S) → P s → Leaves P Q (over.lift_case l y memory place s)
  layer_leaves F.String h memory place s p = string_leaves (number w32 place memory) (number w32 (place + 4) memory) memory place s p
  layer_leaves (F.List e) h memory place s p =
      made_leaves _ _ (list_leaves e (number w32 place memory) (number w32 (place + 4) memory) memory place s h p)
  layer_leaves (F.Record fields) h memory place s p = made_leaves _ _ (fields_leave memory place [] 0 (in_fields fields) s h p)
  layer_leaves (F.Tuple parts) h memory place s p = made_leaves _ _ (fields_leave memory place [] 0 parts s h p)
  layer_leaves (F.Variant cases) h memory place s p = case_leaves (length cases) (in_cases cases) memory place s h p
  layer_leaves (F.Enum labels) h memory place s p = case_leaves (length labels) [] memory place s tt p
  layer_leaves (F.Option e) h memory place s p = case_leaves 2 (None ∷ Some e ∷ []) memory place s (tt, (h, tt)) p
  layer_leaves (F.Result ok err) h memory place s p = case_leaves 2 (ok ∷ err ∷ []) memory place s (h.0, (h.1, tt)) p
  layer_leaves (F.Flags labels) h memory place s p = p
  layer_leaves (F.Own resource) h memory place s p = taken_leaves _ _ (number w32 place memory) place s tt p
  layer_leaves (F.Borrow resource) h memory place s p = taken_leaves _ _ (number w32 place memory) place s h p
  layer_leaves (F.Stream element) h memory place s p = taken_leaves _ _ (number w32 place memory) place s tt p
  layer_leaves (F.Future element) h memory place s p = taken_leaves _ _ (number w32 place memory) place s tt p
  layer_leaves F.Bool h memory place s p = plain_leaves F.Bool w8 (λ w. number w place memory) place s p
  layer_leaves F.S8 h memory place s p = plain_leaves F.S8 w8 (λ w. number w place memory) place s p
  layer_leaves F.U8 h memory place s p = plain_leaves F.U8 w8 (λ w. number w place memory) place s p
  layer_leaves F.S16 h memory place s p = plain_leaves F.S16 w8 (λ w. number w place memory) place s p
  layer_leaves F.U16 h memory place s p = plain_leaves F.U16 w8 (λ w. number w place memory) place s p
  layer_leaves F.S32 h memory place s p = plain_leaves F.S32 w8 (λ w. number w place memory) place s p
  layer_leaves F.U32 h memory place s p = plain_leaves F.U32 w8 (λ w. number w place memory) place s p
  layer_leaves F.S64 h memory place s p = plain_leaves F.S64 w8 (λ w. number w place memory) place s p
  layer_leaves F.U64 h memory place s p = plain_leaves F.U64 w8 (λ w. number w place memory) place s p
  layer_leaves F.Char h memory place s p = plain_leaves F.Char w8 (λ w. number w place memory) place s p

  word_layer_leaves : (y : Layer) → Holds y → (memory words : List ℕ) (at : ℕ) (s : S) → P s → Leaves P Q (over.lift_word_case l y memory words at s)
  word_layer_leaves F.String h memory words at s p = string_leaves (low w32 at words) (low w32 (at + 1) words) memory at s p
  word_layer_leaves (F.List e) h memory words at s p = made_leaves _ _ (list_leaves e (low w32 at words) (low w32 (at + 1) words) memory at s h p)
  word_layer_leaves (F.Record fields) h memory words at s p = made_leaves _ _ (word_fields_leave memory words [] at (in_fields fields) s h p)
  word_layer_leaves (F.Tuple parts) h memory words at s p = made_leaves _ _ (word_fields_leave memory words [] at parts s h p)
  word_layer_leaves (F.Variant cases) h memory words at s p = word_case_leaves (length cases) (in_cases cases) memory words at s h p
  word_layer_leaves (F.Enum labels) h memory words at s p = word_case_leaves (length labels) [] memory words at s tt p
  word_layer_leaves (F.Option e) h memory words at s p = word_case_leaves 2 (None ∷ Some e ∷ []) memory words at s (tt, (h, tt)) p
  word_layer_leaves (F.Result ok err) h memory words at s p = word_case_leaves 2 (ok ∷ err ∷ []) memory words at s (h.0, (h.1, tt)) p
  word_layer_leaves (F.Flags labels) h memory words at s p = p
  word_layer_leaves (F.Own resource) h memory words at s p = taken_leaves _ _ (low w32 at words) at s tt p
  word_layer_leaves (F.Borrow resource) h memory words at s p = taken_leaves _ _ (low w32 at words) at s h p
  word_layer_leaves (F.Stream element) h memory words at s p = taken_leaves _ _ (low w32 at words) at s tt p
  word_layer_leaves (F.Future element) h memory words at s p = taken_leaves _ _ (low w32 at words) at s tt p
  word_layer_leaves F.Bool h memory words at s p = plain_leaves F.Bool w32 (λ w. low w at words) at s p
  word_layer_leaves F.S8 h memory words at s p = plain_leaves F.S8 w32 (λ w. low w at words) at s p
  word_layer_leaves F.U8 h memory words at s p = plain_leaves F.U8 w32 (λ w. low w at words) at s p
  word_layer_leaves F.S16 h memory words at s p = plain_leaves F.S16 w32 (λ w. low w at words) at s p
  word_layer_leaves F.U16 h memory words at s p = plain_leaves F.U16 w32 (λ w. low w at words) at s p
  word_layer_leaves F.S32 h memory words at s p = plain_leaves F.S32 w32 (λ w. low w at words) at s p
  word_layer_leaves F.U32 h memory words at s p = plain_leaves F.U32 w32 (λ w. low w at words) at s p
  word_layer_leaves F.S64 h memory words at s p = plain_leaves F.S64 w32 (λ w. low w at words) at s p
  word_layer_leaves F.U64 h memory words at s p = plain_leaves F.U64 w32 (λ w. low w at words) at s p
  word_layer_leaves F.Char h memory words at s p = plain_leaves F.Char w32 (λ w. low w at words) at s p

  step_lifts : (y : Layer) → Holds y → Lifts (over.part_step l y)
  step_lifts y h = (
    λ memory place s p. counting_leaves (l.spend 1 place s) _ (spends 1 place s p) (λ t q. layer_leaves y h memory place t q),
    λ memory words at s p. counting_leaves (l.spend 1 at s) _ (spends 1 at s p) (λ t q. word_layer_leaves y h memory words at t q),
  )

  -- Every type.

  abbrev case_part : Case → CasePart S T
  case_part c = fold-Case (Part S T) (CasePart S T) (FieldPart S T) (over.part_step l) case_by field_by c

  abbrev field_part : Field → FieldPart S T
  field_part f = fold-Field (Part S T) (CasePart S T) (FieldPart S T) (over.part_step l) case_by field_by f

  abbrev IsLifted : ValType → Type 0
  IsLifted t = (has_borrow t ≡ true → B) → Lifts (over.part l t)

  abbrev IsLiftedCase : Case → Type 0
  IsLiftedCase c = (case_borrow c ≡ true → B) → LiftsAny (case_part c).payload

  abbrev IsLiftedField : Field → Type 0
  IsLiftedField f = (field_borrow f ≡ true → B) → Lifts (field_part f).part

  abbrev OfType : Type 0
  OfType = (t : ValType) × IsLifted t

  abbrev OfCase : Type 0
  OfCase = (c : Case) × IsLiftedCase c

  abbrev OfField : Type 0
  OfField = (f : Field) × IsLiftedField f

  abbrev layer : F.ValType-F OfType OfCase OfField → F.ValType-F ValType Case Field
  layer y = map-ValType OfType OfCase OfField ValType Case Field (λ e. e.0) (λ e. e.0) (λ e. e.0) y

  abbrev parts : F.ValType-F ValType Case Field → Layer
  parts y = map-ValType ValType Case Field (Part S T) (CasePart S T) (FieldPart S T) (over.part l) case_part field_part y

  abbrev bools : F.ValType-F ValType Case Field → F.ValType-F Bool Bool Bool
  bools y = map-ValType ValType Case Field Bool Bool Bool has_borrow case_borrow field_borrow y

  fields_hold : (fields : List OfField) → (some_true (map field_borrow (map (λ (e : OfField). e.0) fields)) ≡ true → B)
      → AllByRecursion Lifts (in_fields (map field_part (map (λ (e : OfField). e.0) fields)))
  fields_hold [] may = tt
  fields_hold (e ∷ fields) may = (e.1 (λ k. may (left_one (field_borrow e.0) _ k)), fields_hold fields (λ k. may (right_one (field_borrow e.0) _ k)))

  places_hold : (types : List OfType) → (some_true (map has_borrow (map (λ (e : OfType). e.0) types)) ≡ true → B)
      → AllByRecursion Lifts (map (over.part l) (map (λ (e : OfType). e.0) types))
  places_hold [] may = tt
  places_hold (e ∷ types) may = (e.1 (λ k. may (left_one (has_borrow e.0) _ k)), places_hold types (λ k. may (right_one (has_borrow e.0) _ k)))

  cases_hold : (cases : List OfCase) → (some_true (map case_borrow (map (λ (e : OfCase). e.0) cases)) ≡ true → B)
      → AllByRecursion LiftsAny (in_cases (map case_part (map (λ (e : OfCase). e.0) cases)))
  cases_hold [] may = tt
  cases_hold (e ∷ cases) may = (e.1 (λ k. may (left_one (case_borrow e.0) _ k)), cases_hold cases (λ k. may (right_one (case_borrow e.0) _ k)))

  holds : (y : F.ValType-F OfType OfCase OfField) → (borrow_step (bools (layer y)) ≡ true → B) → Holds (parts (layer y))
  holds (F.List e) may = e.1 may
  holds (F.Record fields) may = fields_hold fields may
  holds (F.Tuple types) may = places_hold types may
  holds (F.Variant cases) may = cases_hold cases may
  holds (F.Option e) may = e.1 may
  holds (F.Result None None) may = (tt, tt)
  holds (F.Result None (Some e)) may = (tt, e.1 (λ k. may k))
  holds (F.Result (Some o) None) may = (o.1 (λ k. may (left_one (has_borrow o.0) false k)), tt)
  holds (F.Result (Some o) (Some e)) may =
      (o.1 (λ k. may (left_one (has_borrow o.0) (has_borrow e.0) k)), e.1 (λ k. may (right_one (has_borrow o.0) (has_borrow e.0) k)))
  holds F.Bool may = tt
  holds F.S8 may = tt
  holds F.U8 may = tt
  holds F.S16 may = tt
  holds F.U16 may = tt
  holds F.S32 may = tt
  holds F.U32 may = tt
  holds F.S64 may = tt
  holds F.U64 may = tt
  holds F.Char may = tt
  holds F.String may = tt
  holds (F.Flags labels) may = tt
  holds (F.Enum labels) may = tt
  holds (F.Own n) may = tt
  holds (F.Borrow n) may = may refl
  holds (F.Stream e) may = tt
  holds (F.Future e) may = tt

  type_lifts : (y : F.ValType-F OfType OfCase OfField) → IsLifted (roll-ValType (layer y))
  type_lifts y may =
      subst Lifts (sym (fold-roll-ValType (Part S T) (CasePart S T) (FieldPart S T) (over.part_step l) case_by field_by (layer y)))
      (step_lifts (parts (layer y)) (holds y (λ k. may (fold-roll-ValType Bool Bool Bool borrow_step end_case end_field (layer y) ∙ k))))

  abbrev case_of_layer : F.Case-F OfType OfCase OfField → Case
  case_of_layer y = roll-Case (map-Case OfType OfCase OfField ValType Case Field (λ e. e.0) (λ e. e.0) (λ e. e.0) y)

  payload_lifts : (y : F.Case-F OfType OfCase OfField) → (part_true (held has_borrow (case_of_layer y).payload) ≡ true → B)
      → LiftsAny (held (over.part l) (case_of_layer y).payload)
  payload_lifts y =
      elim y.payload as (λ p. (part_true (held has_borrow (case_of_layer (record { label = y.label; payload = p })).payload) ≡ true → B)
      → LiftsAny (held (over.part l) (case_of_layer (record { label = y.label; payload = p })).payload)) [
        | Some e ↦ (λ may. e.1 may)
        | None ↦ (λ may. tt)
      ]

  case_lifts : (y : F.Case-F OfType OfCase OfField) → IsLiftedCase (case_of_layer y)
  case_lifts y may =
      subst (λ (p : CasePart S T). LiftsAny p.payload) (sym (fold_case (Part S T) (CasePart S T) (FieldPart S T) (over.part_step l) case_by field_by (case_of_layer y)))
      (payload_lifts y (λ k. may (fold_case Bool Bool Bool borrow_step end_case end_field (case_of_layer y) ∙ k)))

  abbrev field_of_layer : F.Field-F OfType OfCase OfField → Field
  field_of_layer y = roll-Field (map-Field OfType OfCase OfField ValType Case Field (λ e. e.0) (λ e. e.0) (λ e. e.0) y)

  field_lifts : (y : F.Field-F OfType OfCase OfField) → IsLiftedField (field_of_layer y)
  field_lifts y may =
      subst (λ (p : FieldPart S T). Lifts p.part) (sym (fold_field (Part S T) (CasePart S T) (FieldPart S T) (over.part_step l) case_by field_by (field_of_layer y)))
      (y.val_type.1 (λ k. may (fold_field Bool Bool Bool borrow_step end_case end_field (field_of_layer y) ∙ k)))

  pub all_lift : (t : ValType) → IsLifted t
  all_lift =
      ind-ValType IsLifted IsLiftedCase IsLiftedField
      (λ x y e. subst (λ (z : F.ValType-F ValType Case Field). IsLifted (roll-ValType z)) e (type_lifts y))
      (λ x y e. subst (λ (z : F.Case-F ValType Case Field). IsLiftedCase (roll-Case z)) e (case_lifts y))
      (λ x y e. subst (λ (z : F.Field-F ValType Case Field). IsLiftedField (roll-Field z)) e (field_lifts y))

  -- A value at a place, values one after the other, and a value in core values.

  pub load_uses : (t : ValType) → (has_borrow t ≡ true → B) → (memory : List ℕ) (place : ℕ) (s : S) → P s → Leaves P Q (over.load_by l t memory place s)
  load_uses t may memory place s p =
      either_leaves (is_aligned place (over.part l t).laid.align) _ _
      (either_leaves (is_inside place (over.part l t).laid.size memory) _ _ ((all_lift t may).0 memory place s p) (stops _ s p)) (stops _ s p)

  pub load_list_uses : (t : ValType) → (has_borrow t ≡ true → B) → (memory : List ℕ) (place count : ℕ) (s : S) → P s → Leaves P Q (over.load_list_by l t memory place count s)
  load_list_uses t may memory place count s p = either_leaves (count == 0) _ _ p (list_leaves (over.part l t) place count memory place s (all_lift t may) p)

  pub lift_flat_uses : (t : ValType) → (has_borrow t ≡ true → B) → (memory words : List ℕ) (s : S) → P s → Leaves P Q (over.lift_flat_by l t memory words s)
  lift_flat_uses t may memory words s p = (all_lift t may).1 memory words 0 s p

-- The same where it does not matter what a type holds.
module _ {S T : Type 0} (l : Ledger S T) (P : S → Type 0) (Q : T → Type 0) (spends : (many place : ℕ) (s : S) → P s → Spent P Q (l.spend many place s))
    (stops : (fault : LiftTrap) (s : S) → P s → Q (l.stop fault s)) (takes : (u : Use) (s : S) → P s → Leaves P Q (l.take u s)) where
  pub load_leaves : (t : ValType) (memory : List ℕ) (place : ℕ) (s : S) → P s → Leaves P Q (over.load_by l t memory place s)
  load_leaves t memory place s p = load_uses l P Q (Unit {0}) spends stops (λ u s used p. takes u s p) t (λ b. tt) memory place s p

  pub load_list_leaves : (t : ValType) (memory : List ℕ) (place count : ℕ) (s : S) → P s → Leaves P Q (over.load_list_by l t memory place count s)
  load_list_leaves t memory place count s p = load_list_uses l P Q (Unit {0}) spends stops (λ u s used p. takes u s p) t (λ b. tt) memory place count s p

  pub lift_flat_leaves : (t : ValType) (memory words : List ℕ) (s : S) → P s → Leaves P Q (over.lift_flat_by l t memory words s)
  lift_flat_leaves t memory words s p = lift_flat_uses l P Q (Unit {0}) spends stops (λ u s used p. takes u s p) t (λ b. tt) memory words s p
