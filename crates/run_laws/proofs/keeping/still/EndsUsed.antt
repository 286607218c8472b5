-- What lifting elements from a memory keeps of what it goes on with, where counting a value and using an index keep it: of ends those alone are used that
-- are not deeper than the type of the elements.
use Rattle.std.proofs.Common.{◌≡◌, ◌+◌, ◌*◌, ◌≤◌, ℕ, zero, suc, max, Bool, true, false, if◌then◌else◌, List, [], ◌∷◌, ◌++◌, map, length, sym, ap, subst, Option, Some, None, Result, Ok, Err}
use Rattle.std.specs.Prelude.{◌==◌, nat_lt}
use Rattle.std.specs.List.{AllByRecursion}
use Rattle.std.specs.Option.{option_map}
use Rattle.std.specs.Int.{Width, w8, w32}
use Rattle.builtin_kinds.specs.declared.EndKind.TheVariants as end_kind
use Rattle.syntax_trees.specs.declared.types.ValType.{ValType, roll-ValType}
use Rattle.syntax_trees.specs.declared.types.Case.{Case}
use Rattle.syntax_trees.specs.declared.types.Field.{Field}
use Rattle.syntax_trees.specs.declared.types.ValType.TheOpen as F
use Rattle.syntax_trees.specs.declared.types.ValType.TheViews.{roll-Case, roll-Field, out-roll-ValType}
use Rattle.syntax_trees.specs.declared.types.ValType.TheVariants as leaves
use Rattle.syntax_trees.specs.declared.types.ValType.TheFolds.{ind-ValType, map-ValType, map-Case, map-Field, fold-Case, fold-Field, fold-roll-ValType}
use Rattle.syntax_trees.proofs.Folds.{held, fold_case, fold_field}
use Rattle.syntax_trees.specs.declared.value.Value.{Value}
use Rattle.laid_types.specs.Depth.{greatest, depth, held_depth}
use Rattle.laid_types.specs.Gathered.{depths}
use Rattle.laid_types.specs.Layout.{tag_size, aligned}
use Rattle.laid_types.specs.Parts.{parts_case}
use Rattle.value_lift.specs.declared.trap.LiftTrap.{LiftTrap}
use Rattle.value_lift.specs.declared.trap.LiftWhy.TheVariants.{Bounds}
use Rattle.value_lift.specs.Answers.{trap}
use Rattle.value_lift.specs.Bytes.{number, is_inside, is_aligned, bytes_at, width_of}
use Rattle.value_lift.specs.Pieces.{part_in, plain_of, text_of}
use Rattle.comp_graph.specs.Graph.{ends_type}
use Rattle.abi_machine.specs.LiftingOver.{Use, Ledger, Came, Part, CasePart, FieldPart, What, AnOwn, ABorrow, AnEnd, in_fields, in_cases, behind_tag, case_by, field_by}
use Rattle.abi_machine.specs.LiftingOver as over
use Rattle.run_laws.proofs.keeping.still.EndDepths.{Within, within, first_less, rest_less}

-- what something that was lifted leaves
abbrev pub Leaves : {S T A : Type 0} → (S → Type 0) → Came S T A → Type 0
Leaves P (Ok x) = P x.1
Leaves P (Err fault) = Unit {0}

abbrev pub Spent : {S T : Type 0} → (S → Type 0) → Result S T → Type 0
Spent P (Ok s) = P s
Spent P (Err fault) = Unit {0}

-- An end is used of a type that is not deeper than this.
abbrev pub IsUsed : ℕ → What → Type 0
IsUsed n (AnOwn resource) = Unit {0}
IsUsed n (ABorrow resource) = Unit {0}
IsUsed n (AnEnd kind element) = depth (ends_type kind element) ≤ n

module _ {S T : Type 0} (l : Ledger S T) (P : S → Type 0) (n : ℕ) (spends : (many place : ℕ) (s : S) → P s → Spent P (l.spend many place s))
    (takes : (u : Use) (s : S) → IsUsed n u.what → P s → Leaves P (l.take u s)) (typed : (t : ValType) → (over.part l t).type ≡ t) where
  after_leaves : {A B : Type 0} (c : Came S T A) (f : A → S → Came S T B) → Leaves P c → ((x : A) (s : S) → P s → Leaves P (f x s)) → Leaves P (over.after c f)
  after_leaves (Ok x) f h more = more x.0 x.1 h
  after_leaves (Err fault) f h more = tt

  made_leaves : {A B : Type 0} (f : A → B) (c : Came S T A) → Leaves P c → Leaves P (over.made f c)
  made_leaves f (Ok x) h = h
  made_leaves f (Err fault) h = tt

  counting_leaves : {A : Type 0} (r : Result S T) (f : S → Came S T A) → Spent P r → ((s : S) → P s → Leaves P (f s)) → Leaves P (over.counting r f)
  counting_leaves (Ok s) f h more = more s h
  counting_leaves (Err fault) f h more = tt

  uncounted_leaves : {A : Type 0} (s : S) (r : Result A LiftTrap) → P s → Leaves P (over.uncounted l s r)
  uncounted_leaves s (Ok x) p = p
  uncounted_leaves s (Err fault) p = tt

  either_leaves : {A : Type 0} (b : Bool) (c d : Came S T A) → Leaves P c → Leaves P d → Leaves P (if b then c else d)
  either_leaves true c d h i = h
  either_leaves false c d h i = i

  -- what lifts a part leaves it so
  abbrev Lifts : Part S T → Type 0
  Lifts p = (memory : List ℕ) (place : ℕ) (s : S) → P s → Leaves P (p.lift memory place s)

  abbrev LiftsAny : Option (Part S T) → Type 0
  LiftsAny None = Unit {0}
  LiftsAny (Some p) = Lifts p

  part_lifts : (parts : List (Option (Part S T))) (k : ℕ) → AllByRecursion LiftsAny parts → LiftsAny (part_in parts k)
  part_lifts [] k h = tt
  part_lifts (p ∷ parts) zero h = h.0
  part_lifts (p ∷ parts) (suc k) h = part_lifts parts k h.1

  string_leaves : (at count : ℕ) (memory : List ℕ) (place : ℕ) (s : S) → P s → Leaves P (over.string_of l at count memory place s)
  string_leaves at count memory place s p =
      either_leaves (is_inside at count memory) _ _
      (counting_leaves (l.spend count place s) _ (spends count place s p) (λ t q. uncounted_leaves t (text_of (bytes_at at count memory) place) q)) tt

  elements_leave : (e : Part S T) (memory : List ℕ) (before : List Value) (count at : ℕ) (s : S) → Lifts e → P s
      → Leaves P (over.elements_from l e memory before count at s)
  elements_leave e memory before zero at s h p = p
  elements_leave e memory before (suc count) at s h p =
      after_leaves (e.lift memory at s) _ (h memory at s p) (λ v t q. elements_leave e memory (before ++ v ∷ []) count (at + e.laid.size) t h q)

  list_leaves : (e : Part S T) (at count : ℕ) (memory : List ℕ) (place : ℕ) (s : S) → Lifts e → P s → Leaves P (over.elements_of l e at count memory place s)
  list_leaves e at count memory place s h p =
      either_leaves (is_aligned at e.laid.align) _ _
      (either_leaves (is_inside at (count * e.laid.size) memory) (over.elements_from l e memory [] count at s) (over.fails l (trap Bounds place) s)
      (elements_leave e memory [] count at s h p) tt) tt

  chosen_leaves : (k count place : ℕ) (s : S) (payload : Came S T (Option Value)) → Leaves P payload → Leaves P (over.chosen l k count place s payload)
  chosen_leaves k count place s payload h = either_leaves (nat_lt k count) _ _ (made_leaves _ payload h) tt

  fields_leave : (memory : List ℕ) (place : ℕ) (before : List Value) (end : ℕ) (parts : List (Part S T)) (s : S) → AllByRecursion Lifts parts → P s
      → Leaves P (over.fields_from l memory place before end parts s)
  fields_leave memory place before end [] s h p = p
  fields_leave memory place before end (e ∷ parts) s h p =
      after_leaves (e.lift memory (place + aligned end e.laid.align) s) _ (h.0 memory (place + aligned end e.laid.align) s p)
      (λ v t q. fields_leave memory place (before ++ v ∷ []) (aligned end e.laid.align + e.laid.size) parts t h.1 q)

  payload_leaves : (e : Option (Part S T)) (memory : List ℕ) (place : ℕ) (s : S) → LiftsAny e → P s → Leaves P (over.payload_of l e memory place s)
  payload_leaves None memory place s h p = p
  payload_leaves (Some e) memory place s h p = made_leaves _ (e.lift memory place s) (h memory place s p)

  case_leaves : (count : ℕ) (parts : List (Option (Part S T))) (memory : List ℕ) (place : ℕ) (s : S) → AllByRecursion LiftsAny parts → P s
      → Leaves P (over.case_of l count parts memory place s)
  case_leaves count parts memory place s h p =
      let k = number (width_of (tag_size count)) place memory in
      chosen_leaves k count place s _ (payload_leaves (part_in parts k) memory (place + behind_tag count parts) s (part_lifts parts k h) p)

  taken_leaves : (what : What) (make : ℕ → Value) (index place : ℕ) (s : S) → IsUsed n what → P s → Leaves P (over.taken l what make index place s)
  taken_leaves what make index place s used p = made_leaves make _ (takes (record { what = what; index = index; place = place }) s used p)

  -- Types by their outer layer.
  abbrev Layer : Type 0
  Layer = F.ValType-F (Part S T) (CasePart S T) (FieldPart S T)

  abbrev Holds : Layer → Type 0
  Holds (F.List e) = Lifts e
  Holds (F.Record fields) = AllByRecursion Lifts (in_fields fields)
  Holds (F.Tuple parts) = AllByRecursion Lifts parts
  Holds (F.Variant cases) = AllByRecursion LiftsAny (in_cases cases)
  Holds (F.Option e) = Lifts e
  Holds (F.Result ok err) = LiftsAny ok × LiftsAny err
  Holds (F.Stream element) = depth (ends_type end_kind.Stream (option_map (λ (p : Part S T). p.type) element)) ≤ n
  Holds (F.Future element) = depth (ends_type end_kind.Future (option_map (λ (p : Part S T). p.type) element)) ≤ n
  Holds other = Unit {0}

  plain_leaves : (y : Layer) (w : Width) (f : Width → ℕ) (place : ℕ) (s : S) → P s → Leaves P (over.uncounted l s (plain_of y w f place))
  plain_leaves y w f place s p = uncounted_leaves s (plain_of y w f place) p

  layer_leaves : (y : Layer) → Holds y → (memory : List ℕ) (place : ℕ) (s : S) → P s → Leaves P (over.lift_case l y memory place s)
  layer_leaves F.String h memory place s p = string_leaves (number w32 place memory) (number w32 (place + 4) memory) memory place s p
  layer_leaves (F.List e) h memory place s p = made_leaves _ _ (list_leaves e (number w32 place memory) (number w32 (place + 4) memory) memory place s h p)
  layer_leaves (F.Record fields) h memory place s p = made_leaves _ _ (fields_leave memory place [] 0 (in_fields fields) s h p)
  layer_leaves (F.Tuple parts) h memory place s p = made_leaves _ _ (fields_leave memory place [] 0 parts s h p)
  layer_leaves (F.Variant cases) h memory place s p = case_leaves (length cases) (in_cases cases) memory place s h p
  layer_leaves (F.Enum labels) h memory place s p = case_leaves (length labels) [] memory place s tt p
  layer_leaves (F.Option e) h memory place s p = case_leaves 2 (None ∷ Some e ∷ []) memory place s (tt, (h, tt)) p
  layer_leaves (F.Result ok err) h memory place s p = case_leaves 2 (ok ∷ err ∷ []) memory place s (h.0, (h.1, tt)) p
  layer_leaves (F.Flags labels) h memory place s p = p
  layer_leaves (F.Own resource) h memory place s p = taken_leaves _ _ (number w32 place memory) place s tt p
  layer_leaves (F.Borrow resource) h memory place s p = taken_leaves _ _ (number w32 place memory) place s tt p
  layer_leaves (F.Stream element) h memory place s p = taken_leaves _ _ (number w32 place memory) place s h p
  layer_leaves (F.Future element) h memory place s p = taken_leaves _ _ (number w32 place memory) place s h p
  layer_leaves F.Bool h memory place s p = plain_leaves F.Bool w8 (λ w. number w place memory) place s p
  layer_leaves F.S8 h memory place s p = plain_leaves F.S8 w8 (λ w. number w place memory) place s p
  layer_leaves F.U8 h memory place s p = plain_leaves F.U8 w8 (λ w. number w place memory) place s p
  layer_leaves F.S16 h memory place s p = plain_leaves F.S16 w8 (λ w. number w place memory) place s p
  layer_leaves F.U16 h memory place s p = plain_leaves F.U16 w8 (λ w. number w place memory) place s p
  layer_leaves F.S32 h memory place s p = plain_leaves F.S32 w8 (λ w. number w place memory) place s p
  layer_leaves F.U32 h memory place s p = plain_leaves F.U32 w8 (λ w. number w place memory) place s p
  layer_leaves F.S64 h memory place s p = plain_leaves F.S64 w8 (λ w. number w place memory) place s p
  layer_leaves F.U64 h memory place s p = plain_leaves F.U64 w8 (λ w. number w place memory) place s p
  layer_leaves F.Char h memory place s p = plain_leaves F.Char w8 (λ w. number w place memory) place s p

  step_lifts : (y : Layer) → Holds y → Lifts (over.part_step l y)
  step_lifts y h memory place s p = counting_leaves (l.spend 1 place s) _ (spends 1 place s p) (λ t q. layer_leaves y h memory place t q)

  -- Every type that is not too deep.
  abbrev case_part : Case → CasePart S T
  case_part c = fold-Case (Part S T) (CasePart S T) (FieldPart S T) (over.part_step l) case_by field_by c

  abbrev field_part : Field → FieldPart S T
  field_part f = fold-Field (Part S T) (CasePart S T) (FieldPart S T) (over.part_step l) case_by field_by f

  abbrev IsLifted : ValType → Type 0
  IsLifted t = depth t ≤ n → Lifts (over.part l t)

  abbrev IsLiftedCase : Case → Type 0
  IsLiftedCase c = held_depth c.payload ≤ n → LiftsAny (case_part c).payload

  abbrev IsLiftedField : Field → Type 0
  IsLiftedField f = depth f.val_type ≤ n → Lifts (field_part f).part

  abbrev OfType : Type 0
  OfType = (t : ValType) × IsLifted t

  abbrev OfCase : Type 0
  OfCase = (c : Case) × IsLiftedCase c

  abbrev OfField : Type 0
  OfField = (f : Field) × IsLiftedField f

  abbrev layer : F.ValType-F OfType OfCase OfField → F.ValType-F ValType Case Field
  layer y = map-ValType OfType OfCase OfField ValType Case Field (λ e. e.0) (λ e. e.0) (λ e. e.0) y

  abbrev parts : F.ValType-F ValType Case Field → Layer
  parts y = map-ValType ValType Case Field (Part S T) (CasePart S T) (FieldPart S T) (over.part l) case_part field_part y

  fields_hold : (fields : List OfField) → Within n (map (λ (f : Field). Some f.val_type) (map (λ (e : OfField). e.0) fields))
      → AllByRecursion Lifts (in_fields (map field_part (map (λ (e : OfField). e.0) fields)))
  fields_hold [] h = tt
  fields_hold (e ∷ fields) h =
      let others : ℕ = greatest (depths (map (λ (f : Field). Some f.val_type) (map (λ (x : OfField). x.0) fields))) in
      (e.1 (first_less (depth e.0.val_type) others n h), fields_hold fields (rest_less (depth e.0.val_type) others n h))

  places_hold : (all : List OfType) → Within n (map (λ (t : ValType). Some t) (map (λ (e : OfType). e.0) all))
      → AllByRecursion Lifts (map (over.part l) (map (λ (e : OfType). e.0) all))
  places_hold [] h = tt
  places_hold (e ∷ all) h =
      let others : ℕ = greatest (depths (map (λ (t : ValType). Some t) (map (λ (x : OfType). x.0) all))) in
      (e.1 (first_less (depth e.0) others n h), places_hold all (rest_less (depth e.0) others n h))

  cases_hold : (cases : List OfCase) → Within n (map (λ (c : Case). c.payload) (map (λ (e : OfCase). e.0) cases))
      → AllByRecursion LiftsAny (in_cases (map case_part (map (λ (e : OfCase). e.0) cases)))
  cases_hold [] h = tt
  cases_hold (e ∷ cases) h =
      let others : ℕ = greatest (depths (map (λ (c : Case). c.payload) (map (λ (x : OfCase). x.0) cases))) in
      (e.1 (first_less (held_depth e.0.payload) others n h), cases_hold cases (rest_less (held_depth e.0.payload) others n h))

  second_less : (d : ℕ) → suc (max 0 (max d 0)) ≤ n → d ≤ n
  second_less d h = first_less d 0 n (rest_less 0 (max d 0) n h)

  rolled : (x : F.ValType-F ValType Case Field) → depth (roll-ValType x) ≤ n → Within n (parts_case x)
  rolled x h = subst (λ (all : List (Option ValType)). Within n all) (ap parts_case (out-roll-ValType x)) (within (roll-ValType x) n h)

  holds : (y : F.ValType-F OfType OfCase OfField) → depth (roll-ValType (layer y)) ≤ n → Holds (parts (layer y))
  holds (F.List e) h = e.1 (first_less (depth e.0) 0 n (rolled (F.List e.0) h))
  holds (F.Record fields) h = fields_hold fields (rolled (layer (F.Record fields)) h)
  holds (F.Tuple all) h = places_hold all (rolled (layer (F.Tuple all)) h)
  holds (F.Variant cases) h = cases_hold cases (rolled (layer (F.Variant cases)) h)
  holds (F.Option e) h = e.1 (second_less (depth e.0) (rolled (F.Option e.0) h))
  holds (F.Result None None) h = (tt, tt)
  holds (F.Result None (Some e)) h = (tt, e.1 (second_less (depth e.0) (rolled (F.Result None (Some e.0)) h)))
  holds (F.Result (Some o) None) h = (o.1 (first_less (depth o.0) (max 0 0) n (rolled (F.Result (Some o.0) None) h)), tt)
  holds (F.Result (Some o) (Some e)) h =
      let both : Within n (Some o.0 ∷ Some e.0 ∷ []) = rolled (F.Result (Some o.0) (Some e.0)) h in
      (o.1 (first_less (depth o.0) (max (depth e.0) 0) n both), e.1 (first_less (depth e.0) 0 n (rest_less (depth o.0) (max (depth e.0) 0) n both)))
  holds (F.Stream None) h = subst (λ (u : ValType). depth u ≤ n) (leaves.rolls-Stream None) h
  holds (F.Stream (Some e)) h =
      subst (λ (u : ValType). depth (ends_type end_kind.Stream (Some u)) ≤ n) (sym (typed e.0))
      (subst (λ (u : ValType). depth u ≤ n) (leaves.rolls-Stream (Some e.0)) h)
  holds (F.Future None) h = subst (λ (u : ValType). depth u ≤ n) (leaves.rolls-Future None) h
  holds (F.Future (Some e)) h =
      subst (λ (u : ValType). depth (ends_type end_kind.Future (Some u)) ≤ n) (sym (typed e.0))
      (subst (λ (u : ValType). depth u ≤ n) (leaves.rolls-Future (Some e.0)) h)
  holds F.Bool h = tt
  holds F.S8 h = tt
  holds F.U8 h = tt
  holds F.S16 h = tt
  holds F.U16 h = tt
  holds F.S32 h = tt
  holds F.U32 h = tt
  holds F.S64 h = tt
  holds F.U64 h = tt
  holds F.Char h = tt
  holds F.String h = tt
  holds (F.Flags labels) h = tt
  holds (F.Enum labels) h = tt
  holds (F.Own resource) h = tt
  holds (F.Borrow resource) h = tt

  type_lifts : (y : F.ValType-F OfType OfCase OfField) → IsLifted (roll-ValType (layer y))
  type_lifts y h =
      subst Lifts (sym (fold-roll-ValType (Part S T) (CasePart S T) (FieldPart S T) (over.part_step l) case_by field_by (layer y)))
      (step_lifts (parts (layer y)) (holds y h))

  abbrev case_of_layer : F.Case-F OfType OfCase OfField → Case
  case_of_layer y = roll-Case (map-Case OfType OfCase OfField ValType Case Field (λ e. e.0) (λ e. e.0) (λ e. e.0) y)

  payload_lifts : (y : F.Case-F OfType OfCase OfField) → held_depth (case_of_layer y).payload ≤ n → LiftsAny (held (over.part l) (case_of_layer y).payload)
  payload_lifts y =
      elim y.payload as (λ p. held_depth (case_of_layer (record { label = y.label; payload = p })).payload ≤ n
      → LiftsAny (held (over.part l) (case_of_layer (record { label = y.label; payload = p })).payload)) [
        | Some e ↦ (λ h. e.1 h)
        | None ↦ (λ h. tt)
      ]

  case_lifts : (y : F.Case-F OfType OfCase OfField) → IsLiftedCase (case_of_layer y)
  case_lifts y h =
      subst (λ (p : CasePart S T). LiftsAny p.payload) (sym (fold_case (Part S T) (CasePart S T) (FieldPart S T) (over.part_step l) case_by field_by
      (case_of_layer y))) (payload_lifts y h)

  abbrev field_of_layer : F.Field-F OfType OfCase OfField → Field
  field_of_layer y = roll-Field (map-Field OfType OfCase OfField ValType Case Field (λ e. e.0) (λ e. e.0) (λ e. e.0) y)

  field_lifts : (y : F.Field-F OfType OfCase OfField) → IsLiftedField (field_of_layer y)
  field_lifts y h =
      subst (λ (p : FieldPart S T). Lifts p.part) (sym (fold_field (Part S T) (CasePart S T) (FieldPart S T) (over.part_step l) case_by field_by
      (field_of_layer y))) (y.val_type.1 h)

  all_lift : (t : ValType) → IsLifted t
  all_lift =
      ind-ValType IsLifted IsLiftedCase IsLiftedField
      (λ x y e. subst (λ (z : F.ValType-F ValType Case Field). IsLifted (roll-ValType z)) e (type_lifts y))
      (λ x y e. subst (λ (z : F.Case-F ValType Case Field). IsLiftedCase (roll-Case z)) e (case_lifts y))
      (λ x y e. subst (λ (z : F.Field-F ValType Case Field). IsLiftedField (roll-Field z)) e (field_lifts y))

  -- Values one after the other.
  pub load_list_leaves : (t : ValType) → depth t ≤ n → (memory : List ℕ) (place count : ℕ) (s : S) → P s
      → Leaves P (over.load_list_by l t memory place count s)
  load_list_leaves t h memory place count s p = either_leaves (count == 0) _ _ p (list_leaves (over.part l t) place count memory place s (all_lift t h) p)
