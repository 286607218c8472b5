-- What lifts a type's values over any ledger, from the type's outer layer.
use mathlib.Core.Path.{fun_ext}
use Rattle.std.proofs.Common.{◌≡◌, ◌∙◌, ℕ, List, [], ◌∷◌, length, map, Option, Some, None, refl, ap, sym, subst, rules}
use Rattle.std.specs.Option.{option_map}
use Rattle.syntax_trees.specs.declared.core_type.CoreType.{CoreType}
use Rattle.syntax_trees.specs.declared.core_type.CoreType.TheVariants.{I32}
use Rattle.syntax_trees.specs.declared.types.ValType.{ValType, out-ValType, roll-ValType}
use Rattle.syntax_trees.specs.declared.types.Case.{Case}
use Rattle.syntax_trees.specs.declared.types.Field.{Field}
use Rattle.syntax_trees.specs.declared.types.ValType.TheOpen as F
use Rattle.syntax_trees.specs.declared.types.ValType.TheViews.{roll-Case, roll-Field, the_lemmas}
use Rattle.syntax_trees.specs.declared.types.ValType.TheFolds.{ind-ValType, map-ValType, map-Case, map-Field}
use Rattle.laid_types.specs.Layout.{Laid, laid, laid_step, laid_case, laid_field, record_laid, tagged, there}
use Rattle.syntax_trees.specs.Flat.{flat, flat_step, flat_case, flat_field, held_flat, all_of, joined_all, joined_lists}
use Rattle.syntax_trees.proofs.Folds.{held, fold_case, fold_field}
use Rattle.value_lift.specs.Ledger.{Ledger, counting}
use Rattle.value_lift.specs.Over.{Part, CasePart, FieldPart, tree_of, tree_in, unlabelled, laid_of, laid_in, flat_of, flat_in, part_step, part_case, part_field, folded, lift, lift_words, part, payload_part, field_part, layer_of, lift_case, lift_word_case}
use Rattle.value_lift.proofs.Layers.{by_layer}

-- the layouts and the core types of types, from their outer layers
abbrev pub layouts_in : F.ValType-F ValType Case Field → F.ValType-F Laid (Option Laid) Laid
layouts_in y = map-ValType ValType Case Field Laid (Option Laid) Laid laid (λ (c : Case). held laid c.payload) (λ (f : Field). laid f.val_type) y

pub laid_is : (t : ValType) → laid t ≡ laid_step (layouts_in (out-ValType t))
laid_is t =
    by_layer Laid (Option Laid) Laid laid_step laid_case laid_field (λ (c : Case). held laid c.payload) (λ (f : Field). laid f.val_type)
    (fold_case Laid (Option Laid) Laid laid_step laid_case laid_field) (fold_field Laid (Option Laid) Laid laid_step laid_case laid_field) t

abbrev pub flats_in : F.ValType-F ValType Case Field → F.ValType-F (List CoreType) (List CoreType) (List CoreType)
flats_in y =
    map-ValType ValType Case Field (List CoreType) (List CoreType) (List CoreType) flat (λ (c : Case). held_flat (held flat c.payload)) (λ (f : Field). flat f.val_type) y

pub flat_is : (t : ValType) → flat t ≡ flat_step (flats_in (out-ValType t))
flat_is t =
    by_layer (List CoreType) (List CoreType) (List CoreType) flat_step flat_case flat_field (λ (c : Case). held_flat (held flat c.payload)) (λ (f : Field). flat f.val_type)
    (fold_case (List CoreType) (List CoreType) (List CoreType) flat_step flat_case flat_field)
    (fold_field (List CoreType) (List CoreType) (List CoreType) flat_step flat_case flat_field) t

-- images of images that are those of another function
mapped : {E A B X : Type 0} (f : B → X) (w : A → B) (z : E → A) (g : A → X) (h : (e : E) → f (w (z e)) ≡ g (z e)) (es : List E) → map f (map w (map z es)) ≡ map g (map z es)
mapped f w z g h [] = refl
mapped {E} {A} {B} {X} f w z g h (e ∷ es) = ap (λ (x : X). x ∷ map f (map w (map z es))) (h e) ∙ ap (λ (xs : List X). g (z e) ∷ xs) (mapped f w z g h es)

joined : {A B X : Type 0} (f : B → X) (w : A → B) (xs : List A) → map f (map w xs) ≡ map (λ x. f (w x)) xs
joined f w [] = refl
joined {A} {B} {X} f w (x ∷ xs) = ap (λ (ys : List X). f (w x) ∷ ys) (joined f w xs)

module _ {S G : Type 0} (led : Ledger S G) where
  -- what the fold gives for a case and a field
  abbrev case_folded : Case → CasePart S G
  case_folded c = record { label = c.label; payload = held (folded led) c.payload }

  abbrev field_folded : Field → FieldPart S G
  field_folded f = record { label = f.label; part = (folded led) f.val_type }

  -- what it gives, from the outer layer,
  abbrev labelled_in : F.ValType-F ValType Case Field → F.ValType-F (Part S G) (CasePart S G) (FieldPart S G)
  labelled_in y = map-ValType ValType Case Field (Part S G) (CasePart S G) (FieldPart S G) (folded led) case_folded field_folded y

  labelled_is : (t : ValType) → (folded led) t ≡ (part_step led) (labelled_in (out-ValType t))
  labelled_is t =
      by_layer (Part S G) (CasePart S G) (FieldPart S G) (part_step led) part_case part_field case_folded field_folded
      (fold_case (Part S G) (CasePart S G) (FieldPart S G) (part_step led) part_case part_field) (fold_field (Part S G) (CasePart S G) (FieldPart S G) (part_step led) part_case part_field) t

  -- and the same without labels
  abbrev folded_in : F.ValType-F ValType Case Field → F.ValType-F (Part S G) (Option (Part S G)) (Part S G)
  folded_in y = map-ValType ValType Case Field (Part S G) (Option (Part S G)) (Part S G) (folded led) (λ (c : Case). held (folded led) c.payload) (λ (f : Field). (folded led) f.val_type) y

  no_labels : (y : F.ValType-F ValType Case Field) → unlabelled (labelled_in y) ≡ folded_in y
  no_labels (F.Record fields) =
      ap (λ (ps : List (Part S G)). (let z : F.ValType-F (Part S G) (Option (Part S G)) (Part S G) = F.Record ps in z)) (joined (λ (f : FieldPart S G). f.part) field_folded fields)
  no_labels (F.Variant cases) =
      ap (λ (ps : List (Option (Part S G))). (let z : F.ValType-F (Part S G) (Option (Part S G)) (Part S G) = F.Variant ps in z)) (joined (λ (c : CasePart S G). c.payload) case_folded cases)
  no_labels (F.Tuple parts) =
      ap (λ (ps : List (Part S G)). (let z : F.ValType-F (Part S G) (Option (Part S G)) (Part S G) = F.Tuple ps in z)) (joined (λ (p : Part S G). p) (folded led) parts)
  no_labels (F.Result None None) = refl
  no_labels (F.Result None (Some e)) = refl
  no_labels (F.Result (Some o) None) = refl
  no_labels (F.Result (Some o) (Some e)) = refl
  no_labels (F.Stream None) = refl
  no_labels (F.Stream (Some e)) = refl
  no_labels (F.Future None) = refl
  no_labels (F.Future (Some e)) = refl
  no_labels other = refl

  -- Its type is the type, and its layout and its core types are those of the type.
  pub record SameType (t : ValType) : Type 0 where
    pub tree : ((folded led) t).tree ≡ t
    pub laid_same : ((folded led) t).laid ≡ laid t
    pub flat_same : ((folded led) t).flat ≡ flat t

  pub record SameRest (p : Option ValType) : Type 0 where
    pub tree : tree_of (held (folded led) p) ≡ p
    pub laid_same : laid_of (held (folded led) p) ≡ held laid p
    pub flat_same : flat_of (held (folded led) p) ≡ held_flat (held flat p)

  abbrev SameCase : Case → Type 0
  SameCase c = SameRest c.payload

  abbrev SameField : Field → Type 0
  SameField f = SameType f.val_type

  abbrev OfType : Type 0
  OfType = (t : ValType) × SameType t

  abbrev OfCase : Type 0
  OfCase = (c : Case) × SameCase c

  abbrev OfField : Type 0
  OfField = (f : Field) × SameField f

  abbrev layer : F.ValType-F OfType OfCase OfField → F.ValType-F ValType Case Field
  layer y = map-ValType OfType OfCase OfField ValType Case Field (λ e. e.0) (λ e. e.0) (λ e. e.0) y

  module _ (X : Type 0) (f : Part S G → X) (g : ValType → X) where
    fields_mapped : ((e : OfField) → f ((folded led) e.0.val_type) ≡ g e.0.val_type) → (es : List OfField)
        → map f (map (λ (f : Field). (folded led) f.val_type) (map (λ (e : OfField). e.0) es)) ≡ map (λ (f : Field). g f.val_type) (map (λ (e : OfField). e.0) es)
    fields_mapped h es = mapped f (λ (f : Field). (folded led) f.val_type) (λ (e : OfField). e.0) (λ (f : Field). g f.val_type) h es

    types_mapped : ((e : OfType) → f ((folded led) e.0) ≡ g e.0) → (es : List OfType) → map f (map (folded led) (map (λ (e : OfType). e.0) es)) ≡ map g (map (λ (e : OfType). e.0) es)
    types_mapped h es = mapped f (folded led) (λ (e : OfType). e.0) g h es

  module _ (X : Type 0) (f : Option (Part S G) → X) (g : Option ValType → X) where
    cases_mapped : ((e : OfCase) → f (held (folded led) e.0.payload) ≡ g e.0.payload) → (es : List OfCase)
        → map f (map (λ (c : Case). held (folded led) c.payload) (map (λ (e : OfCase). e.0) es)) ≡ map (λ (c : Case). g c.payload) (map (λ (e : OfCase). e.0) es)
    cases_mapped h es = mapped f (λ (c : Case). held (folded led) c.payload) (λ (e : OfCase). e.0) (λ (c : Case). g c.payload) h es

  same_laid : (y : F.ValType-F OfType OfCase OfField) → laid_step (laid_in (folded_in (layer y))) ≡ laid_step (layouts_in (layer y))
  same_laid (F.Record fields) = ap record_laid (fields_mapped Laid (λ (p : Part S G). p.laid) laid (λ (e : OfField). e.1.laid_same) fields)
  same_laid (F.Variant cases) =
      ap (λ (ls : List (Option Laid)). tagged (length ls) (there ls)) (cases_mapped (Option Laid) laid_of (λ (p : Option ValType). held laid p) (λ (e : OfCase). e.1.laid_same) cases)
  same_laid (F.Tuple parts) = ap record_laid (types_mapped Laid (λ (p : Part S G). p.laid) laid (λ (e : OfType). e.1.laid_same) parts)
  same_laid (F.Option e) = ap (λ (l : Laid). tagged 2 (l ∷ [])) e.1.laid_same
  same_laid (F.Result None None) = refl
  same_laid (F.Result None (Some e)) = ap (λ (l : Laid). tagged 2 (l ∷ [])) e.1.laid_same
  same_laid (F.Result (Some o) None) = ap (λ (l : Laid). tagged 2 (l ∷ [])) o.1.laid_same
  same_laid (F.Result (Some o) (Some e)) = ap (λ (l : Laid). tagged 2 (l ∷ ((folded led) e.0).laid ∷ [])) o.1.laid_same ∙ ap (λ (l : Laid). tagged 2 (laid o.0 ∷ l ∷ [])) e.1.laid_same
  same_laid (F.Stream None) = refl
  same_laid (F.Stream (Some e)) = refl
  same_laid (F.Future None) = refl
  same_laid (F.Future (Some e)) = refl
  same_laid other = refl

  same_flat : (y : F.ValType-F OfType OfCase OfField) → flat_step (flat_in (folded_in (layer y))) ≡ flat_step (flats_in (layer y))
  same_flat (F.Record fields) = ap all_of (fields_mapped (List CoreType) (λ (p : Part S G). p.flat) flat (λ (e : OfField). e.1.flat_same) fields)
  same_flat (F.Variant cases) =
      ap (λ (ls : List (List CoreType)). I32 ∷ joined_all ls) (cases_mapped (List CoreType) flat_of (λ (p : Option ValType). held_flat (held flat p)) (λ (e : OfCase). e.1.flat_same) cases)
  same_flat (F.Tuple parts) = ap all_of (types_mapped (List CoreType) (λ (p : Part S G). p.flat) flat (λ (e : OfType). e.1.flat_same) parts)
  same_flat (F.Option e) = ap (λ (l : List CoreType). I32 ∷ l) e.1.flat_same
  same_flat (F.Result None None) = refl
  same_flat (F.Result None (Some e)) = ap (λ (l : List CoreType). I32 ∷ joined_lists [] l) e.1.flat_same
  same_flat (F.Result (Some o) None) = ap (λ (l : List CoreType). I32 ∷ joined_lists l []) o.1.flat_same
  same_flat (F.Result (Some o) (Some e)) =
      ap (λ (l : List CoreType). I32 ∷ joined_lists l ((folded led) e.0).flat) o.1.flat_same ∙ ap (λ (l : List CoreType). I32 ∷ joined_lists (flat o.0) l) e.1.flat_same
  same_flat (F.Stream None) = refl
  same_flat (F.Stream (Some e)) = refl
  same_flat (F.Future None) = refl
  same_flat (F.Future (Some e)) = refl
  same_flat other = refl

  -- the type itself
  abbrev case_tree : CasePart S G → Case
  case_tree c = record { label = c.label; payload = tree_of c.payload }

  abbrev field_tree : FieldPart S G → Field
  field_tree f = record { label = f.label; val_type = f.part.tree }

  case_same : (e : OfCase) → case_tree (case_folded e.0) ≡ e.0
  case_same e = ap (λ (p : Option ValType). (let c : Case = record { label = e.0.label; payload = p } in c)) e.1.tree

  field_same : (e : OfField) → field_tree (field_folded e.0) ≡ e.0
  field_same e = ap (λ (t : ValType). (let f : Field = record { label = e.0.label; val_type = t } in f)) e.1.tree

  back : {E A B : Type 0} (f : B → A) (w : A → B) (z : E → A) (h : (e : E) → f (w (z e)) ≡ z e) (es : List E) → map f (map w (map z es)) ≡ map z es
  back f w z h [] = refl
  back {E} {A} {B} f w z h (e ∷ es) = ap (λ (x : A). x ∷ map f (map w (map z es))) (h e) ∙ ap (λ (xs : List A). z e ∷ xs) (back f w z h es)

  abbrev Layer : Type 0
  Layer = F.ValType-F ValType Case Field

  same_tree : (y : F.ValType-F OfType OfCase OfField) → tree_in (labelled_in (layer y)) ≡ layer y
  same_tree (F.Record fields) = ap (λ (fs : List Field). (let z : Layer = F.Record fs in z)) (back field_tree field_folded (λ (e : OfField). e.0) field_same fields)
  same_tree (F.Variant cases) = ap (λ (cs : List Case). (let z : Layer = F.Variant cs in z)) (back case_tree case_folded (λ (e : OfCase). e.0) case_same cases)
  same_tree (F.Tuple parts) =
      ap (λ (ts : List ValType). (let z : Layer = F.Tuple ts in z)) (back (λ (p : Part S G). p.tree) (folded led) (λ (e : OfType). e.0) (λ (e : OfType). e.1.tree) parts)
  same_tree (F.List e) = ap (λ (t : ValType). (let z : Layer = F.List t in z)) e.1.tree
  same_tree (F.Option e) = ap (λ (t : ValType). (let z : Layer = F.Option t in z)) e.1.tree
  same_tree (F.Result None None) = refl
  same_tree (F.Result None (Some e)) = ap (λ (t : ValType). (let z : Layer = F.Result None (Some t) in z)) e.1.tree
  same_tree (F.Result (Some o) None) = ap (λ (t : ValType). (let z : Layer = F.Result (Some t) None in z)) o.1.tree
  same_tree (F.Result (Some o) (Some e)) =
      ap (λ (t : ValType). (let z : Layer = F.Result (Some t) (Some ((folded led) e.0).tree) in z)) o.1.tree
      ∙ ap (λ (t : ValType). (let z : Layer = F.Result (Some o.0) (Some t) in z)) e.1.tree
  same_tree (F.Stream None) = refl
  same_tree (F.Stream (Some e)) = ap (λ (t : ValType). (let z : Layer = F.Stream (Some t) in z)) e.1.tree
  same_tree (F.Future None) = refl
  same_tree (F.Future (Some e)) = ap (λ (t : ValType). (let z : Layer = F.Future (Some t) in z)) e.1.tree
  same_tree other = refl

  -- a type by its outer layer
  out_of_roll : (x : F.ValType-F ValType Case Field) → out-ValType (roll-ValType x) ≡ x
  out_of_roll x = search (rules, the_lemmas)

  tree_rolled : (x : F.ValType-F ValType Case Field) → tree_in (labelled_in x) ≡ x → ((folded led) (roll-ValType x)).tree ≡ roll-ValType x
  tree_rolled x h =
      ap (λ (p : Part S G). p.tree) (labelled_is (roll-ValType x))
      ∙ ap (λ (z : F.ValType-F ValType Case Field). roll-ValType (tree_in (labelled_in z))) (out_of_roll x)
      ∙ ap (λ (z : F.ValType-F ValType Case Field). roll-ValType z) h

  laid_rolled : (x : F.ValType-F ValType Case Field) → laid_step (laid_in (folded_in x)) ≡ laid_step (layouts_in x) → ((folded led) (roll-ValType x)).laid ≡ laid (roll-ValType x)
  laid_rolled x h =
      ap (λ (p : Part S G). p.laid) (labelled_is (roll-ValType x))
      ∙ ap (λ (z : F.ValType-F ValType Case Field). laid_step (laid_in (unlabelled (labelled_in z)))) (out_of_roll x)
      ∙ ap (λ (z : F.ValType-F (Part S G) (Option (Part S G)) (Part S G)). laid_step (laid_in z)) (no_labels x)
      ∙ h
      ∙ ap (λ (z : F.ValType-F ValType Case Field). laid_step (layouts_in z)) (sym (out_of_roll x))
      ∙ sym (laid_is (roll-ValType x))

  flat_rolled : (x : F.ValType-F ValType Case Field) → flat_step (flat_in (folded_in x)) ≡ flat_step (flats_in x) → ((folded led) (roll-ValType x)).flat ≡ flat (roll-ValType x)
  flat_rolled x h =
      ap (λ (p : Part S G). p.flat) (labelled_is (roll-ValType x))
      ∙ ap (λ (z : F.ValType-F ValType Case Field). flat_step (flat_in (unlabelled (labelled_in z)))) (out_of_roll x)
      ∙ ap (λ (z : F.ValType-F (Part S G) (Option (Part S G)) (Part S G)). flat_step (flat_in z)) (no_labels x)
      ∙ h
      ∙ ap (λ (z : F.ValType-F ValType Case Field). flat_step (flats_in z)) (sym (out_of_roll x))
      ∙ sym (flat_is (roll-ValType x))

  same_step : (y : F.ValType-F OfType OfCase OfField) → SameType (roll-ValType (layer y))
  same_step y = record { tree = tree_rolled (layer y) (same_tree y); laid_same = laid_rolled (layer y) (same_laid y); flat_same = flat_rolled (layer y) (same_flat y) }

  same_case_step : (y : F.Case-F OfType OfCase OfField) → SameCase (roll-Case (map-Case OfType OfCase OfField ValType Case Field (λ e. e.0) (λ e. e.0) (λ e. e.0) y))
  same_case_step y =
      elim y.payload as (λ p. SameCase (roll-Case (map-Case OfType OfCase OfField ValType Case Field (λ e. e.0) (λ e. e.0) (λ e. e.0) (record { label = y.label; payload = p })))) [
        | Some e ↦ record { tree = ap (λ (t : ValType). Some t) e.1.tree; laid_same = ap (λ (l : Laid). Some l) e.1.laid_same; flat_same = e.1.flat_same }
        | None ↦ record { tree = refl; laid_same = refl; flat_same = refl }
      ]

  same_field_step : (y : F.Field-F OfType OfCase OfField) → SameField (roll-Field (map-Field OfType OfCase OfField ValType Case Field (λ e. e.0) (λ e. e.0) (λ e. e.0) y))
  same_field_step y = y.val_type.1

  same_type : (t : ValType) → SameType t
  same_type =
      ind-ValType SameType SameCase SameField
      (λ x y e. subst (λ (z : F.ValType-F ValType Case Field). SameType (roll-ValType z)) e (same_step y))
      (λ x y e. subst (λ (z : F.Case-F ValType Case Field). SameCase (roll-Case z)) e (same_case_step y))
      (λ x y e. subst (λ (z : F.Field-F ValType Case Field). SameField (roll-Field z)) e (same_field_step y))

  same_part : (t : ValType) → (folded led) t ≡ (part led) t
  same_part t =
      ap (λ (u : ValType). (let p : Part S G = record { tree = u; laid = ((folded led) t).laid; flat = ((folded led) t).flat; lift = (lift led) t; lift_words = (lift_words led) t } in p)) (same_type t).tree
      ∙ ap (λ (l : Laid). (let p : Part S G = record { tree = t; laid = l; flat = ((folded led) t).flat; lift = (lift led) t; lift_words = (lift_words led) t } in p)) (same_type t).laid_same
      ∙ ap (λ (l : List CoreType). (let p : Part S G = record { tree = t; laid = laid t; flat = l; lift = (lift led) t; lift_words = (lift_words led) t } in p)) (same_type t).flat_same

  same_payload : (p : Option ValType) → held (folded led) p ≡ option_map (part led) p
  same_payload (Some t) = ap (λ (p : Part S G). Some p) (same_part t)
  same_payload None = refl

  -- the layer of a type, with what lifts its parts
  abbrev pub parts_over : F.ValType-F ValType Case Field → F.ValType-F (Part S G) (Option (Part S G)) (Part S G)
  parts_over y = map-ValType ValType Case Field (Part S G) (Option (Part S G)) (Part S G) (part led) (payload_part led) (field_part led) y

  same_in : (y : F.ValType-F ValType Case Field) → folded_in y ≡ parts_over y
  same_in y =
      ap (λ (f : ValType → Part S G). map-ValType ValType Case Field (Part S G) (Option (Part S G)) (Part S G) f (λ (c : Case). held (folded led) c.payload) (λ (f : Field). (folded led) f.val_type) y) (fun_ext same_part)
      ∙ ap (λ (g : Case → Option (Part S G)). map-ValType ValType Case Field (Part S G) (Option (Part S G)) (Part S G) (part led) g (λ (f : Field). (folded led) f.val_type) y) (fun_ext (λ (c : Case). same_payload c.payload))
      ∙ ap (λ (h : Field → Part S G). map-ValType ValType Case Field (Part S G) (Option (Part S G)) (Part S G) (part led) (payload_part led) h y) (fun_ext (λ (f : Field). same_part f.val_type))

  layer_is : (t : ValType) → unlabelled (labelled_in (out-ValType t)) ≡ (layer_of led) t
  layer_is t = no_labels (out-ValType t) ∙ same_in (out-ValType t)

  -- A value is counted, and then lifted by the outer layer of its type.
  pub lift_is_over : (t : ValType) (memory : List ℕ) (place : ℕ) (left : S) → (lift led) t memory place left ≡ counting (led.spend 1 place left) (λ left. (lift_case led) ((layer_of led) t) memory place left)
  lift_is_over t memory place left =
      ap (λ (p : Part S G). p.lift memory place left) (labelled_is t)
      ∙ ap (λ (y : F.ValType-F (Part S G) (Option (Part S G)) (Part S G)). counting (led.spend 1 place left) (λ left. (lift_case led) y memory place left)) (layer_is t)

  pub lift_words_is_over : (t : ValType) (memory words : List ℕ) (at : ℕ) (left : S)
      → (lift_words led) t memory words at left ≡ counting (led.spend 1 at left) (λ left. (lift_word_case led) ((layer_of led) t) memory words at left)
  lift_words_is_over t memory words at left =
      ap (λ (p : Part S G). p.lift_words memory words at left) (labelled_is t)
      ∙ ap (λ (y : F.ValType-F (Part S G) (Option (Part S G)) (Part S G)). counting (led.spend 1 at left) (λ left. (lift_word_case led) y memory words at left)) (layer_is t)
