-- What the machine lifts over a ledger, of every type, is what code lifts over one that takes alike.
use Rattle.std.proofs.Common.{◌≡◌, ◌∙◌, ◌≤◌, ◌==◌, ℕ, if◌then◌else◌, List, [], ◌∷◌, map, length, refl, ap, sym, subst, arith, Option, Some, None, Result, Ok}
use Rattle.std.specs.Option.{option_map}
use Rattle.std.specs.Int.{w32}
use Rattle.std.proofs.lemmas.List.{length-map}
use Rattle.builtin_kinds.specs.declared.EndKind.{EndKind}
use Rattle.builtin_kinds.specs.declared.EndKind.TheVariants as end_kind
use Rattle.syntax_trees.specs.declared.core_type.CoreType.{CoreType}
use Rattle.syntax_trees.specs.declared.types.ValType.{ValType, out-ValType, roll-ValType}
use Rattle.syntax_trees.specs.declared.types.Case.{Case}
use Rattle.syntax_trees.specs.declared.types.Field.{Field}
use Rattle.syntax_trees.specs.declared.types.ValType.TheOpen as F
use Rattle.syntax_trees.specs.declared.types.ValType.TheViews as types
use Rattle.syntax_trees.specs.declared.types.ValType.TheViews.{roll-Case, roll-Field, out-roll-ValType}
use Rattle.syntax_trees.specs.declared.types.ValType.TheVariants as leaves
use Rattle.syntax_trees.specs.declared.types.ValType.TheFolds.{ind-ValType, map-ValType, map-Case, map-Field}
use Rattle.syntax_trees.specs.declared.value.Value.{Value}
use Rattle.syntax_trees.specs.declared.value.Value.TheVariants as plain
use Rattle.laid_types.specs.Layout.{Laid, laid, laid_step, record_laid, tagged, there}
use Rattle.syntax_trees.specs.Flat.{flat, flat_step, all_of, joined_all, joined_lists, held_flat}
use Rattle.syntax_trees.specs.declared.core_type.CoreType.TheVariants.{I32}
use Rattle.syntax_trees.proofs.Folds.{held, fold_case, fold_field}
use Rattle.comp_graph.specs.Graph.{ends_type}
use Rattle.value_lift.specs.declared.trap.LiftWhy.TheVariants.{Misaligned, Bounds}
use Rattle.value_lift.specs.Bytes.{number, is_inside, is_aligned}
use Rattle.value_lift.specs.Leaves.{trap}
use Rattle.value_lift.specs.Ledger as ledgers
use Rattle.value_lift.specs.Over as code
use Rattle.value_lift.specs.Over.{low}
use Rattle.value_lift.proofs.Layers.{by_layer}
use Rattle.value_lift.proofs.OverTypes.{layouts_in, laid_is, flats_in, parts_over, lift_is_over, lift_words_is_over}
use Rattle.abi_machine.specs.LiftingOver as machine
use Rattle.run_laws.proofs.LiftedLayers.{AreSame, IsFront, either_same, Layer, flat_rolled, SameAs, HeldSame, RowSame, AllHeld, SameLayer, string_layer, list_layer, flags_layer, row_layer, cases_layer, plain_layer, named_layer, fails_same, elements_same, counting_same}

-- images of images
images : {E X Y Z : Type 0} (f : Y → Z) (w : X → Y) (z : E → X) (g : X → Z) (h : (e : E) → f (w (z e)) ≡ g (z e)) (es : List E) → map f (map w (map z es)) ≡ map g (map z es)
images f w z g h [] = refl
images {E} {X} {Y} {Z} f w z g h (e ∷ es) = ap (λ (v : Z). v ∷ map f (map w (map z es))) (h e) ∙ ap (λ (vs : List Z). g (z e) ∷ vs) (images f w z g h es)

back : {E X Y : Type 0} (f : Y → X) (w : X → Y) (z : E → X) (h : (e : E) → f (w (z e)) ≡ z e) (es : List E) → map f (map w (map z es)) ≡ map z es
back f w z h [] = refl
back {E} {X} {Y} f w z h (e ∷ es) = ap (λ (v : X). v ∷ map f (map w (map z es))) (h e) ∙ ap (λ (vs : List X). z e ∷ vs) (back f w z h es)

laid_rolled : (x : Layer) → laid (roll-ValType x) ≡ laid_step (layouts_in x)
laid_rolled x = laid_is (roll-ValType x) ∙ ap (λ (y : Layer). laid_step (layouts_in y)) (out-roll-ValType x)

module _ {S J : Type 0} (l : ledgers.Ledger S J) (m : machine.Ledger S J) (same : AreSame l m) where
  abbrev Came : Type 0 → Type 0
  Came A = Result (A × S) J

  abbrev Parts : Type 0
  Parts = F.ValType-F (machine.Part S J) (machine.CasePart S J) (machine.FieldPart S J)

  -- Every type.
  abbrev Is : ValType → Type 0
  Is t = SameAs l m same (machine.part m t) t

  abbrev IsHeld : Option ValType → Type 0
  IsHeld o = HeldSame l m same (held (machine.part m) o) o

  abbrev IsCase : Case → Type 0
  IsCase c = IsHeld c.payload

  abbrev IsField : Field → Type 0
  IsField f = Is f.val_type

  abbrev OfType : Type 0
  OfType = (t : ValType) × Is t

  abbrev OfCase : Type 0
  OfCase = (c : Case) × IsCase c

  abbrev OfField : Type 0
  OfField = (f : Field) × IsField f

  abbrev layer : F.ValType-F OfType OfCase OfField → Layer
  layer y = map-ValType OfType OfCase OfField ValType Case Field (λ e. e.0) (λ e. e.0) (λ e. e.0) y

  abbrev types_in : List OfType → List ValType
  types_in es = map (λ (e : OfType). e.0) es

  abbrev cases_in : List OfCase → List Case
  cases_in es = map (λ (e : OfCase). e.0) es

  abbrev fields_in : List OfField → List Field
  fields_in es = map (λ (e : OfField). e.0) es

  abbrev case_part : Case → machine.CasePart S J
  case_part c = record { label = c.label; payload = held (machine.part m) c.payload }

  abbrev field_part : Field → machine.FieldPart S J
  field_part f = record { label = f.label; part = machine.part m f.val_type }

  abbrev parts_in : Layer → Parts
  parts_in x = map-ValType ValType Case Field (machine.Part S J) (machine.CasePart S J) (machine.FieldPart S J) (machine.part m) case_part field_part x

  part_is : (t : ValType) → machine.part m t ≡ machine.part_step m (parts_in (out-ValType t))
  part_is t =
      by_layer (machine.Part S J) (machine.CasePart S J) (machine.FieldPart S J) (machine.part_step m) machine.case_by machine.field_by case_part field_part
      (fold_case (machine.Part S J) (machine.CasePart S J) (machine.FieldPart S J) (machine.part_step m) machine.case_by machine.field_by)
      (fold_field (machine.Part S J) (machine.CasePart S J) (machine.FieldPart S J) (machine.part_step m) machine.case_by machine.field_by) t

  part_rolled : (x : Layer) → machine.part m (roll-ValType x) ≡ machine.part_step m (parts_in x)
  part_rolled x = part_is (roll-ValType x) ∙ ap (λ (z : Layer). machine.part_step m (parts_in z)) (out-roll-ValType x)

  -- What is seen of parts that may be absent.
  held_type : (o : Option ValType) → IsHeld o → option_map (λ (p : machine.Part S J). p.type) (held (machine.part m) o) ≡ o
  held_type None h = refl
  held_type (Some t) h = ap (λ (u : ValType). Some u) h.type_same

  held_laid : (o : Option ValType) → IsHeld o → machine.laid_of (held (machine.part m) o) ≡ held laid o
  held_laid None h = refl
  held_laid (Some t) h = ap (λ (d : Laid). Some d) h.laid_same

  held_flats : (o : Option ValType) → IsHeld o → machine.flat_of (held (machine.part m) o) ≡ held_flat (held flat o)
  held_flats None h = refl
  held_flats (Some t) h = h.flat_same

  laids : (y : F.ValType-F OfType OfCase OfField) → machine.laid_by (parts_in (layer y)) ≡ laid_step (layouts_in (layer y))
  laids (F.Record fields) =
      ap record_laid (images (λ (f : machine.FieldPart S J). f.part.laid) field_part (λ (e : OfField). e.0) (λ (f : Field). laid f.val_type) (λ (e : OfField). e.1.laid_same) fields)
  laids (F.Variant cases) =
      ap (λ (ls : List (Option Laid)). tagged (length ls) (there ls))
      (images (λ (c : machine.CasePart S J). machine.laid_of c.payload) case_part (λ (e : OfCase). e.0) (λ (c : Case). held laid c.payload) (λ (e : OfCase). held_laid e.0.payload e.1) cases)
  laids (F.Tuple all) = ap record_laid (images (λ (p : machine.Part S J). p.laid) (machine.part m) (λ (e : OfType). e.0) laid (λ (e : OfType). e.1.laid_same) all)
  laids (F.Option e) = ap (λ (d : Laid). tagged 2 (d ∷ [])) e.1.laid_same
  laids (F.Result None None) = refl
  laids (F.Result None (Some e)) = ap (λ (d : Laid). tagged 2 (d ∷ [])) e.1.laid_same
  laids (F.Result (Some o) None) = ap (λ (d : Laid). tagged 2 (d ∷ [])) o.1.laid_same
  laids (F.Result (Some o) (Some e)) =
      ap (λ (d : Laid). tagged 2 (d ∷ (machine.part m e.0).laid ∷ [])) o.1.laid_same ∙ ap (λ (d : Laid). tagged 2 (laid o.0 ∷ d ∷ [])) e.1.laid_same
  laids (F.Stream None) = refl
  laids (F.Stream (Some e)) = refl
  laids (F.Future None) = refl
  laids (F.Future (Some e)) = refl
  laids other = refl

  flats : (y : F.ValType-F OfType OfCase OfField) → machine.flat_by (parts_in (layer y)) ≡ flat_step (flats_in (layer y))
  flats (F.Record fields) =
      ap all_of (images (λ (f : machine.FieldPart S J). f.part.flat) field_part (λ (e : OfField). e.0) (λ (f : Field). flat f.val_type) (λ (e : OfField). e.1.flat_same) fields)
  flats (F.Variant cases) =
      ap (λ (ls : List (List CoreType)). I32 ∷ joined_all ls)
      (images (λ (c : machine.CasePart S J). machine.flat_of c.payload) case_part (λ (e : OfCase). e.0) (λ (c : Case). held_flat (held flat c.payload))
      (λ (e : OfCase). held_flats e.0.payload e.1) cases)
  flats (F.Tuple all) = ap all_of (images (λ (p : machine.Part S J). p.flat) (machine.part m) (λ (e : OfType). e.0) flat (λ (e : OfType). e.1.flat_same) all)
  flats (F.Option e) = ap (λ (c : List CoreType). I32 ∷ c) e.1.flat_same
  flats (F.Result None None) = refl
  flats (F.Result None (Some e)) = ap (λ (c : List CoreType). I32 ∷ joined_lists [] c) e.1.flat_same
  flats (F.Result (Some o) None) = ap (λ (c : List CoreType). I32 ∷ joined_lists c []) o.1.flat_same
  flats (F.Result (Some o) (Some e)) =
      ap (λ (c : List CoreType). I32 ∷ joined_lists c (machine.part m e.0).flat) o.1.flat_same ∙ ap (λ (c : List CoreType). I32 ∷ joined_lists (flat o.0) c) e.1.flat_same
  flats (F.Stream None) = refl
  flats (F.Stream (Some e)) = refl
  flats (F.Future None) = refl
  flats (F.Future (Some e)) = refl
  flats other = refl

  case_back : (e : OfCase) → machine.typed_case (case_part e.0) ≡ e.0
  case_back e = ap (λ (p : Option ValType). (let c : Case = record { label = e.0.label; payload = p } in c)) (held_type e.0.payload e.1)

  field_back : (e : OfField) → machine.typed_field (field_part e.0) ≡ e.0
  field_back e = ap (λ (t : ValType). (let f : Field = record { label = e.0.label; val_type = t } in f)) e.1.type_same

  trees : (y : F.ValType-F OfType OfCase OfField) → machine.typed (parts_in (layer y)) ≡ roll-ValType (layer y)
  trees F.Bool = sym leaves.rolls-Bool
  trees F.S8 = sym leaves.rolls-S8
  trees F.U8 = sym leaves.rolls-U8
  trees F.S16 = sym leaves.rolls-S16
  trees F.U16 = sym leaves.rolls-U16
  trees F.S32 = sym leaves.rolls-S32
  trees F.U32 = sym leaves.rolls-U32
  trees F.S64 = sym leaves.rolls-S64
  trees F.U64 = sym leaves.rolls-U64
  trees F.Char = sym leaves.rolls-Char
  trees F.String = sym leaves.rolls-String
  trees (F.Record fields) =
      ap (λ (fs : List Field). types.Record fs) (back machine.typed_field field_part (λ (e : OfField). e.0) field_back fields) ∙ sym (leaves.rolls-Record (fields_in fields))
  trees (F.Variant cases) =
      ap (λ (cs : List Case). types.Variant cs) (back machine.typed_case case_part (λ (e : OfCase). e.0) case_back cases) ∙ sym (leaves.rolls-Variant (cases_in cases))
  trees (F.List e) = ap (λ (t : ValType). types.List t) e.1.type_same ∙ sym (leaves.rolls-List e.0)
  trees (F.Tuple all) =
      ap (λ (ts : List ValType). types.Tuple ts) (back (λ (p : machine.Part S J). p.type) (machine.part m) (λ (e : OfType). e.0) (λ (e : OfType). e.1.type_same) all)
      ∙ sym (leaves.rolls-Tuple (types_in all))
  trees (F.Flags labels) = sym (leaves.rolls-Flags labels)
  trees (F.Enum labels) = sym (leaves.rolls-Enum labels)
  trees (F.Option e) = ap (λ (t : ValType). types.Option t) e.1.type_same ∙ sym (leaves.rolls-Option e.0)
  trees (F.Result None None) = sym (leaves.rolls-Result None None)
  trees (F.Result None (Some e)) = ap (λ (t : ValType). types.Result None (Some t)) e.1.type_same ∙ sym (leaves.rolls-Result None (Some e.0))
  trees (F.Result (Some o) None) = ap (λ (t : ValType). types.Result (Some t) None) o.1.type_same ∙ sym (leaves.rolls-Result (Some o.0) None)
  trees (F.Result (Some o) (Some e)) =
      ap (λ (t : ValType). types.Result (Some t) (Some (machine.part m e.0).type)) o.1.type_same
      ∙ ap (λ (t : ValType). types.Result (Some o.0) (Some t)) e.1.type_same ∙ sym (leaves.rolls-Result (Some o.0) (Some e.0))
  trees (F.Own n) = sym (leaves.rolls-Own n)
  trees (F.Borrow n) = sym (leaves.rolls-Borrow n)
  trees (F.Stream None) = sym (leaves.rolls-Stream None)
  trees (F.Stream (Some e)) = ap (λ (t : ValType). types.Stream (Some t)) e.1.type_same ∙ sym (leaves.rolls-Stream (Some e.0))
  trees (F.Future None) = sym (leaves.rolls-Future None)
  trees (F.Future (Some e)) = ap (λ (t : ValType). types.Future (Some t)) e.1.type_same ∙ sym (leaves.rolls-Future (Some e.0))

  -- What lifts them.
  fields_hold : (es : List OfField) → RowSame l m same (machine.in_fields (map field_part (fields_in es))) (map (λ (f : Field). Some f.val_type) (fields_in es))
  fields_hold [] = tt
  fields_hold (e ∷ es) = (e.1, fields_hold es)

  places_hold : (es : List OfType) → RowSame l m same (map (machine.part m) (types_in es)) (map Some (types_in es))
  places_hold [] = tt
  places_hold (e ∷ es) = (e.1, places_hold es)

  cases_hold : (es : List OfCase) → AllHeld l m same (machine.in_cases (map case_part (cases_in es))) (map (λ (c : Case). c.payload) (cases_in es))
  cases_hold [] = tt
  cases_hold (e ∷ es) = (e.1, cases_hold es)

  end_layer : (kind : EndKind) (x : Layer) (y : Parts) (o p : Option ValType) (make : ℕ → Value) → p ≡ o → length (flat_step (flats_in x)) ≡ 1
      → ((memory : List ℕ) (place : ℕ) (k : S) → machine.lift_case m y memory place k ≡ machine.taken m (machine.AnEnd kind p) make (number w32 place memory) place k)
      → ((memory words : List ℕ) (at : ℕ) (k : S) → machine.lift_word_case m y memory words at k ≡ machine.taken m (machine.AnEnd kind p) make (low w32 at words) at k)
      → ((memory : List ℕ) (place : ℕ) (k : S) → code.taken l (ledgers.AnEnd (ends_type kind o)) make (number w32 place memory) place k ≡ code.lift_case l (parts_over l x) memory place k)
      → ((memory words : List ℕ) (at : ℕ) (k : S) → code.taken l (ledgers.AnEnd (ends_type kind o)) make (low w32 at words) at k ≡ code.lift_word_case l (parts_over l x) memory words at k)
      → SameLayer l m same y x
  end_layer kind x y o p make e one lift lift_words code_lift code_words =
      named_layer l m same y x (ledgers.AnEnd (ends_type kind o)) (machine.AnEnd kind p) make (kind, p, refl, ap (ends_type kind) (sym e)) one lift lift_words code_lift code_words

  layers : (y : F.ValType-F OfType OfCase OfField) → SameLayer l m same (parts_in (layer y)) (layer y)
  layers F.Bool = plain_layer l m same F.Bool F.Bool tt refl refl (λ memory place k. refl) (λ memory words at k. refl)
  layers F.S8 = plain_layer l m same F.S8 F.S8 tt refl refl (λ memory place k. refl) (λ memory words at k. refl)
  layers F.U8 = plain_layer l m same F.U8 F.U8 tt refl refl (λ memory place k. refl) (λ memory words at k. refl)
  layers F.S16 = plain_layer l m same F.S16 F.S16 tt refl refl (λ memory place k. refl) (λ memory words at k. refl)
  layers F.U16 = plain_layer l m same F.U16 F.U16 tt refl refl (λ memory place k. refl) (λ memory words at k. refl)
  layers F.S32 = plain_layer l m same F.S32 F.S32 tt refl refl (λ memory place k. refl) (λ memory words at k. refl)
  layers F.U32 = plain_layer l m same F.U32 F.U32 tt refl refl (λ memory place k. refl) (λ memory words at k. refl)
  layers F.S64 = plain_layer l m same F.S64 F.S64 tt refl refl (λ memory place k. refl) (λ memory words at k. refl)
  layers F.U64 = plain_layer l m same F.U64 F.U64 tt refl refl (λ memory place k. refl) (λ memory words at k. refl)
  layers F.Char = plain_layer l m same F.Char F.Char tt refl refl (λ memory place k. refl) (λ memory words at k. refl)
  layers F.String = string_layer l m same
  layers (F.Record fields) =
      row_layer l m same (F.Record (map field_part (fields_in fields))) (F.Record (fields_in fields)) (machine.in_fields (map field_part (fields_in fields))) tt (fields_hold fields)
      (λ memory place k. refl) (λ memory words at k. refl)
  layers (F.Variant cases) =
      cases_layer l m same (F.Variant (map case_part (cases_in cases))) (F.Variant (cases_in cases)) (length (map case_part (cases_in cases))) (machine.in_cases (map case_part (cases_in cases))) tt
      (length-map (cases_in cases) case_part) (cases_hold cases) (λ memory place k. refl) (λ memory words at k. refl)
  layers (F.List e) = list_layer l m same (machine.part m e.0) e.0 e.1
  layers (F.Tuple all) =
      row_layer l m same (F.Tuple (map (machine.part m) (types_in all))) (F.Tuple (types_in all)) (map (machine.part m) (types_in all)) tt (places_hold all)
      (λ memory place k. refl) (λ memory words at k. refl)
  layers (F.Flags labels) = flags_layer l m same labels
  layers (F.Enum labels) = cases_layer l m same (F.Enum labels) (F.Enum labels) (length labels) [] tt refl tt (λ memory place k. refl) (λ memory words at k. refl)
  layers (F.Option e) =
      cases_layer l m same (F.Option (machine.part m e.0)) (F.Option e.0) 2 (None ∷ Some (machine.part m e.0) ∷ []) tt refl (tt, (e.1, tt)) (λ memory place k. refl) (λ memory words at k. refl)
  layers (F.Result None None) =
      cases_layer l m same (F.Result None None) (F.Result None None) 2 (None ∷ None ∷ []) tt refl (tt, (tt, tt)) (λ memory place k. refl) (λ memory words at k. refl)
  layers (F.Result None (Some e)) =
      cases_layer l m same (F.Result None (Some (machine.part m e.0))) (F.Result None (Some e.0)) 2 (None ∷ Some (machine.part m e.0) ∷ []) tt refl (tt, (e.1, tt))
      (λ memory place k. refl) (λ memory words at k. refl)
  layers (F.Result (Some o) None) =
      cases_layer l m same (F.Result (Some (machine.part m o.0)) None) (F.Result (Some o.0) None) 2 (Some (machine.part m o.0) ∷ None ∷ []) tt refl (o.1, (tt, tt))
      (λ memory place k. refl) (λ memory words at k. refl)
  layers (F.Result (Some o) (Some e)) =
      cases_layer l m same (F.Result (Some (machine.part m o.0)) (Some (machine.part m e.0))) (F.Result (Some o.0) (Some e.0)) 2 (Some (machine.part m o.0) ∷ Some (machine.part m e.0) ∷ []) tt refl
      (o.1, (e.1, tt)) (λ memory place k. refl) (λ memory words at k. refl)
  layers (F.Own n) =
      named_layer l m same (F.Own n) (F.Own n) (ledgers.AnOwn n) (machine.AnOwn n) (λ rep. plain.Own (record { resource = n; rep = rep })) refl refl (λ memory place k. refl)
      (λ memory words at k. refl) (λ memory place k. refl) (λ memory words at k. refl)
  layers (F.Borrow n) =
      named_layer l m same (F.Borrow n) (F.Borrow n) (ledgers.ABorrow n) (machine.ABorrow n) (λ rep. plain.Borrow (record { resource = n; rep = rep })) refl refl (λ memory place k. refl)
      (λ memory words at k. refl) (λ memory place k. refl) (λ memory words at k. refl)
  layers (F.Stream None) =
      end_layer end_kind.Stream (F.Stream None) (F.Stream None) None None plain.Stream refl refl (λ memory place k. refl) (λ memory words at k. refl)
      (λ memory place k. refl) (λ memory words at k. refl)
  layers (F.Stream (Some e)) =
      end_layer end_kind.Stream (F.Stream (Some e.0)) (F.Stream (Some (machine.part m e.0))) (Some e.0) (Some (machine.part m e.0).type) plain.Stream
      (ap (λ (t : ValType). Some t) e.1.type_same) refl (λ memory place k. refl) (λ memory words at k. refl) (λ memory place k. refl) (λ memory words at k. refl)
  layers (F.Future None) =
      end_layer end_kind.Future (F.Future None) (F.Future None) None None plain.Future refl refl (λ memory place k. refl) (λ memory words at k. refl)
      (λ memory place k. refl) (λ memory words at k. refl)
  layers (F.Future (Some e)) =
      end_layer end_kind.Future (F.Future (Some e.0)) (F.Future (Some (machine.part m e.0))) (Some e.0) (Some (machine.part m e.0).type) plain.Future
      (ap (λ (t : ValType). Some t) e.1.type_same) refl (λ memory place k. refl) (λ memory words at k. refl) (λ memory place k. refl) (λ memory words at k. refl)

  step : (y : F.ValType-F OfType OfCase OfField) → Is (roll-ValType (layer y))
  step y =
      let h : SameLayer l m same (parts_in (layer y)) (layer y) = layers y in
      let t : ValType = roll-ValType (layer y) in
      subst (λ (p : machine.Part S J). SameAs l m same p t) (sym (part_rolled (layer y)))
      (record {
        type_same = trees y;
        laid_same = laids y ∙ sym (laid_rolled (layer y));
        flat_same = flats y ∙ sym (flat_rolled (layer y));
        lifts = λ memory place k.
            counting_same l m same (m.spend 1 place k) (l.spend 1 place k) (λ j. machine.lift_case m (parts_in (layer y)) memory place j)
            (λ j. code.lift_case l (code.layer_of l t) memory place j) (same.spend 1 place k) (λ j. h.lifts memory place j)
            ∙ sym (lift_is_over l t memory place k);
        words = λ memory few all at k front room.
            counting_same l m same (m.spend 1 at k) (l.spend 1 at k) (λ j. machine.lift_word_case m (parts_in (layer y)) memory all at j)
            (λ j. code.lift_word_case l (code.layer_of l t) memory few at j) (same.spend 1 at k) (λ j. h.words memory few all at j front room)
            ∙ sym (lift_words_is_over l t memory few at k);
      })

  case_step : (y : F.Case-F OfType OfCase OfField) → IsCase (roll-Case (map-Case OfType OfCase OfField ValType Case Field (λ e. e.0) (λ e. e.0) (λ e. e.0) y))
  case_step y =
      elim y.payload as (λ p. IsCase (roll-Case (map-Case OfType OfCase OfField ValType Case Field (λ e. e.0) (λ e. e.0) (λ e. e.0) (record { label = y.label; payload = p })))) [
        | Some e ↦ e.1
        | None ↦ tt
      ]

  field_step : (y : F.Field-F OfType OfCase OfField) → IsField (roll-Field (map-Field OfType OfCase OfField ValType Case Field (λ e. e.0) (λ e. e.0) (λ e. e.0) y))
  field_step y = y.val_type.1

  pub every : (t : ValType) → Is t
  every =
      ind-ValType Is IsCase IsField
      (λ x y e. subst (λ (z : F.ValType-F ValType Case Field). Is (roll-ValType z)) e (step y))
      (λ x y e. subst (λ (z : F.Case-F ValType Case Field). IsCase (roll-Case z)) e (case_step y))
      (λ x y e. subst (λ (z : F.Field-F ValType Case Field). IsField (roll-Field z)) e (field_step y))

  -- A whole lifting.
  pub load_same : (t : ValType) (memory : List ℕ) (place : ℕ) (k : S) → machine.load_by m t memory place k ≡ code.load_by l t memory place k
  load_same t memory place k =
      let h : Is t = every t in
      let here : Came Value = (machine.part m t).lift memory place k in
      let outside : Came Value = machine.fails m (trap Bounds place) k in
      let skew : Came Value = machine.fails m (trap Misaligned place) k in
      let code_here : Came Value = code.lift l t memory place k in
      let code_outside : Came Value = code.fails l (trap Bounds place) k in
      let code_skew : Came Value = code.fails l (trap Misaligned place) k in
      ap (λ (d : Laid). if is_aligned place d.align then (if is_inside place d.size memory then here else outside) else skew) h.laid_same
      ∙ either_same (is_aligned place (laid t).align)
      (if is_inside place (laid t).size memory then here else outside) skew
      (if is_inside place (laid t).size memory then code_here else code_outside) code_skew
      (either_same (is_inside place (laid t).size memory) here outside code_here code_outside (h.lifts memory place k) (fails_same l m same (trap Bounds place) k))
      (fails_same l m same (trap Misaligned place) k)

  pub load_list_same : (t : ValType) (memory : List ℕ) (place count : ℕ) (k : S) → machine.load_list_by m t memory place count k ≡ code.load_list_by l t memory place count k
  load_list_same t memory place count k =
      let none : Came (List Value) = Ok ([], k) in
      either_same (count == 0) none (machine.elements_of m (machine.part m t) place count memory place k) none (code.elements_of l (code.part l t) place count memory place k)
      refl (elements_same l m same (machine.part m t) t place count memory place k (every t))

  pub lift_flat_same : (t : ValType) (memory few all : List ℕ) (k : S) → IsFront few all → length (flat t) ≤ length few
      → machine.lift_flat_by m t memory all k ≡ code.lift_flat_by l t memory few k
  lift_flat_same t memory few all k front room = (every t).words memory few all 0 k front (omega (arith, room))
