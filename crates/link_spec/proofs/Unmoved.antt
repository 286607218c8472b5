-- What a fold over a type of values gives that does not look at the numbers of resources is the same where these are changed: how deep
-- the type is, and whether borrowed handles are in it.
use Rattle.std.proofs.Common.{◌≡◌, ◌≤◌, ◌∙◌, ℕ, Bool, false, List, [], ◌∷◌, map, refl, ap, ap₂, sym, subst, Option, Some, None}
use Rattle.std.specs.Option.{option_map}
use Rattle.syntax_trees.specs.declared.types.ValType.{ValType, out-ValType, roll-ValType, fold-ValType}
use Rattle.syntax_trees.specs.declared.types.ValType.TheViews.{out-roll-ValType, roll-out-ValType, roll-Case, roll-Field}
use Rattle.syntax_trees.specs.declared.types.ValType.TheOpen as F
use Rattle.syntax_trees.specs.declared.types.ValType.TheFolds.{fold-Case, fold-Field, fold-roll-ValType, ind-ValType, map-ValType, map-Case, map-Field}
use Rattle.syntax_trees.specs.declared.types.Case.{Case}
use Rattle.syntax_trees.specs.declared.types.Field.{Field}
use Rattle.syntax_trees.specs.declared.types.Param.{Param}
use Rattle.syntax_trees.proofs.Folds.{held, fold_case, fold_field}
use Rattle.laid_types.specs.Depth.{depth, depth_step, depth_case, depth_field}
use Rattle.laid_types.specs.Handles.{has_borrow, held_borrow, borrow_step}
use Rattle.syntax_trees.specs.Ends.{end_case, end_field}
use Rattle.link_values.specs.Resources.{renumbered_step, same_case, same_field, renumbered, renumbered_param}
use Rattle.link_spec.specs.Shallow.{depth_limit, IsShallow}
use Rattle.link_spec.specs.Lending.{lends_case, lends}

-- a list of things, each with what holds of it, that are changed one by one
maps_same : {A B : Type 0} (g : A → B) (r : A → A) (l : List ((x : A) × (g (r x) ≡ g x))) → map g (map r (map (λ (e : (x : A) × (g (r x) ≡ g x)). e.0) l)) ≡ map g (map (λ (e : (x : A) × (g (r x) ≡ g x)). e.0) l)
maps_same g r [] = refl
maps_same g r (e ∷ l) = ap₂ (λ x xs. x ∷ xs) e.1 (maps_same g r l)

module _ (A C B : Type 0) (s : F.ValType-F A C B → A) (sc : F.Case-F A C B → C) (sf : F.Field-F A C B → B) (f : ℕ → ℕ)
    (own : (n m : ℕ) → s (F.Own n) ≡ s (F.Own m)) (borrow : (n m : ℕ) → s (F.Borrow n) ≡ s (F.Borrow m)) where
  abbrev told : ValType → A
  told = fold-ValType A C B s sc sf

  abbrev told_case : Case → C
  told_case = fold-Case A C B s sc sf

  abbrev told_field : Field → B
  told_field = fold-Field A C B s sc sf

  abbrev new_case : Case → Case
  new_case = fold-Case ValType Case Field (renumbered_step f) same_case same_field

  abbrev new_field : Field → Field
  new_field = fold-Field ValType Case Field (renumbered_step f) same_case same_field

  abbrev TypeSame : ValType → Type 0
  TypeSame t = told (renumbered f t) ≡ told t

  abbrev CaseSame : Case → Type 0
  CaseSame c = told_case (new_case c) ≡ told_case c

  abbrev FieldSame : Field → Type 0
  FieldSame x = told_field (new_field x) ≡ told_field x

  abbrev TypeAnd : Type 0
  TypeAnd = (t : ValType) × TypeSame t

  abbrev CaseAnd : Type 0
  CaseAnd = (c : Case) × CaseSame c

  abbrev FieldAnd : Type 0
  FieldAnd = (x : Field) × FieldSame x

  abbrev layer : F.ValType-F TypeAnd CaseAnd FieldAnd → F.ValType-F ValType Case Field
  layer y = map-ValType TypeAnd CaseAnd FieldAnd ValType Case Field (λ e. e.0) (λ e. e.0) (λ e. e.0) y

  abbrev Unrolled : F.ValType-F ValType Case Field → Type 0
  Unrolled x = renumbered f (roll-ValType x) ≡ renumbered_step f (map-ValType ValType Case Field ValType Case Field (renumbered f) new_case new_field x)

  unrolled : (x : F.ValType-F ValType Case Field) → Unrolled x
  unrolled x = fold-roll-ValType ValType Case Field (renumbered_step f) same_case same_field x

  told_of : (x : F.ValType-F ValType Case Field) → told (roll-ValType x) ≡ s (map-ValType ValType Case Field A C B told told_case told_field x)
  told_of x = fold-roll-ValType A C B s sc sf x

  stepped : (y : F.ValType-F TypeAnd CaseAnd FieldAnd) → TypeSame (roll-ValType (layer y))
  stepped F.Bool = ap told (unrolled F.Bool)
  stepped F.S8 = ap told (unrolled F.S8)
  stepped F.U8 = ap told (unrolled F.U8)
  stepped F.S16 = ap told (unrolled F.S16)
  stepped F.U16 = ap told (unrolled F.U16)
  stepped F.S32 = ap told (unrolled F.S32)
  stepped F.U32 = ap told (unrolled F.U32)
  stepped F.S64 = ap told (unrolled F.S64)
  stepped F.U64 = ap told (unrolled F.U64)
  stepped F.Char = ap told (unrolled F.Char)
  stepped F.String = ap told (unrolled F.String)
  stepped (F.Record fields) =
      let xs = map (λ (e : FieldAnd). e.0) fields in
      ap told (unrolled (F.Record xs)) ∙ told_of (F.Record (map new_field xs)) ∙ ap (λ l. s (F.Record l)) (maps_same told_field new_field fields) ∙ sym (told_of (F.Record xs))
  stepped (F.Variant cases) =
      let xs = map (λ (e : CaseAnd). e.0) cases in
      ap told (unrolled (F.Variant xs)) ∙ told_of (F.Variant (map new_case xs)) ∙ ap (λ l. s (F.Variant l)) (maps_same told_case new_case cases) ∙ sym (told_of (F.Variant xs))
  stepped (F.List e) = ap told (unrolled (F.List e.0)) ∙ told_of (F.List (renumbered f e.0)) ∙ ap (λ t. s (F.List t)) e.1 ∙ sym (told_of (F.List e.0))
  stepped (F.Tuple parts) =
      let xs = map (λ (e : TypeAnd). e.0) parts in
      ap told (unrolled (F.Tuple xs)) ∙ told_of (F.Tuple (map (renumbered f) xs)) ∙ ap (λ l. s (F.Tuple l)) (maps_same told (renumbered f) parts) ∙ sym (told_of (F.Tuple xs))
  stepped (F.Flags labels) = ap told (unrolled (F.Flags labels))
  stepped (F.Enum labels) = ap told (unrolled (F.Enum labels))
  stepped (F.Option e) = ap told (unrolled (F.Option e.0)) ∙ told_of (F.Option (renumbered f e.0)) ∙ ap (λ t. s (F.Option t)) e.1 ∙ sym (told_of (F.Option e.0))
  stepped (F.Result None None) = ap told (unrolled (F.Result None None))
  stepped (F.Result None (Some e)) =
      ap told (unrolled (F.Result None (Some e.0))) ∙ told_of (F.Result None (Some (renumbered f e.0))) ∙ ap (λ t. s (F.Result None (Some t))) e.1 ∙ sym (told_of (F.Result None (Some e.0)))
  stepped (F.Result (Some o) None) =
      ap told (unrolled (F.Result (Some o.0) None)) ∙ told_of (F.Result (Some (renumbered f o.0)) None) ∙ ap (λ t. s (F.Result (Some t) None)) o.1 ∙ sym (told_of (F.Result (Some o.0) None))
  stepped (F.Result (Some o) (Some e)) =
      ap told (unrolled (F.Result (Some o.0) (Some e.0))) ∙ told_of (F.Result (Some (renumbered f o.0)) (Some (renumbered f e.0)))
      ∙ ap₂ (λ t u. s (F.Result (Some t) (Some u))) o.1 e.1 ∙ sym (told_of (F.Result (Some o.0) (Some e.0)))
  stepped (F.Own n) = ap told (unrolled (F.Own n)) ∙ told_of (F.Own (f n)) ∙ own (f n) n ∙ sym (told_of (F.Own n))
  stepped (F.Borrow n) = ap told (unrolled (F.Borrow n)) ∙ told_of (F.Borrow (f n)) ∙ borrow (f n) n ∙ sym (told_of (F.Borrow n))
  stepped (F.Stream None) = ap told (unrolled (F.Stream None))
  stepped (F.Stream (Some e)) = ap told (unrolled (F.Stream (Some e.0))) ∙ told_of (F.Stream (Some (renumbered f e.0))) ∙ ap (λ t. s (F.Stream (Some t))) e.1 ∙ sym (told_of (F.Stream (Some e.0)))
  stepped (F.Future None) = ap told (unrolled (F.Future None))
  stepped (F.Future (Some e)) = ap told (unrolled (F.Future (Some e.0))) ∙ told_of (F.Future (Some (renumbered f e.0))) ∙ ap (λ t. s (F.Future (Some t))) e.1 ∙ sym (told_of (F.Future (Some e.0)))

  payload_same : (label : List ℕ) (o : Option ValType) → held told (held (renumbered f) o) ≡ held told o → CaseSame (record { label = label; payload = o })
  payload_same label o e =
      ap told_case (fold_case ValType Case Field (renumbered_step f) same_case same_field (record { label = label; payload = o }))
      ∙ fold_case A C B s sc sf (record { label = label; payload = held (renumbered f) o })
      ∙ ap (λ p. sc (record { label = label; payload = p })) e
      ∙ sym (fold_case A C B s sc sf (record { label = label; payload = o }))

  case_stepped : (y : F.Case-F TypeAnd CaseAnd FieldAnd) → CaseSame (roll-Case (map-Case TypeAnd CaseAnd FieldAnd ValType Case Field (λ e. e.0) (λ e. e.0) (λ e. e.0) y))
  case_stepped y =
      elim y.payload as (λ p. CaseSame (roll-Case (map-Case TypeAnd CaseAnd FieldAnd ValType Case Field (λ e. e.0) (λ e. e.0) (λ e. e.0) (record { label = y.label; payload = p })))) [
        | Some e ↦ payload_same y.label (Some e.0) (ap Some e.1)
        | None ↦ payload_same y.label None refl
      ]

  named_same : (label : List ℕ) (t : ValType) → TypeSame t → FieldSame (record { label = label; val_type = t })
  named_same label t e =
      ap told_field (fold_field ValType Case Field (renumbered_step f) same_case same_field (record { label = label; val_type = t }))
      ∙ fold_field A C B s sc sf (record { label = label; val_type = renumbered f t })
      ∙ ap (λ v. sf (record { label = label; val_type = v })) e
      ∙ sym (fold_field A C B s sc sf (record { label = label; val_type = t }))

  field_stepped : (y : F.Field-F TypeAnd CaseAnd FieldAnd) → FieldSame (roll-Field (map-Field TypeAnd CaseAnd FieldAnd ValType Case Field (λ e. e.0) (λ e. e.0) (λ e. e.0) y))
  field_stepped y = named_same y.label y.val_type.0 y.val_type.1

  pub told_same : (t : ValType) → told (renumbered f t) ≡ told t
  told_same =
      ind-ValType TypeSame CaseSame FieldSame
      (λ x y e. subst (λ (z : F.ValType-F ValType Case Field). TypeSame (roll-ValType z)) e (stepped y))
      (λ x y e. subst (λ (z : F.Case-F ValType Case Field). CaseSame (roll-Case z)) e (case_stepped y))
      (λ x y e. subst (λ (z : F.Field-F ValType Case Field). FieldSame (roll-Field z)) e (field_stepped y))

pub depth_same : (f : ℕ → ℕ) (t : ValType) → depth (renumbered f t) ≡ depth t
depth_same f t = told_same ℕ ℕ ℕ depth_step depth_case depth_field f (λ n m. refl) (λ n m. refl) t

pub borrow_same : (f : ℕ → ℕ) (t : ValType) → has_borrow (renumbered f t) ≡ has_borrow t
borrow_same f t = told_same Bool Bool Bool borrow_step end_case end_field f (λ n m. refl) (λ n m. refl) t

pub held_borrow_same : (f : ℕ → ℕ) (o : Option ValType) → held_borrow (option_map (renumbered f) o) ≡ held_borrow o
held_borrow_same f None = refl
held_borrow_same f (Some t) = borrow_same f t

pub shallow_same : (f : ℕ → ℕ) (t : ValType) → IsShallow t → IsShallow (renumbered f t)
shallow_same f t h = subst (λ (n : ℕ). n ≤ depth_limit) (sym (depth_same f t)) h

pub labels_same : (f : ℕ → ℕ) (params : List Param) → map (λ (p : Param). p.label) (map (renumbered_param f) params) ≡ map (λ (p : Param). p.label) params
labels_same f [] = refl
labels_same f (p ∷ params) = ap (λ (labels : List (List ℕ)). p.label ∷ labels) (labels_same f params)

-- What passes in streams and futures: by the layer of the type, where `y` is that of the changed one.
abbrev Layer : Type 0
Layer = F.ValType-F ValType Case Field

lends_as : (f : ℕ → ℕ) (x y : Layer) → renumbered f (roll-ValType x) ≡ roll-ValType y → lends (renumbered f (roll-ValType x)) ≡ lends_case y
lends_as f x y e = ap lends e ∙ ap lends_case (out-roll-ValType y)

unrolled_of : (f : ℕ → ℕ) (x : Layer)
    → renumbered f (roll-ValType x) ≡ renumbered_step f (map-ValType ValType Case Field ValType Case Field (renumbered f) (fold-Case ValType Case Field (renumbered_step f) same_case same_field) (fold-Field ValType Case Field (renumbered_step f) same_case same_field) x)
unrolled_of f x = fold-roll-ValType ValType Case Field (renumbered_step f) same_case same_field x

lends_rolled : (f : ℕ → ℕ) (x : Layer) → lends_case x ≡ false → lends (renumbered f (roll-ValType x)) ≡ false
lends_rolled f F.Bool h = lends_as f F.Bool F.Bool (unrolled_of f F.Bool)
lends_rolled f F.S8 h = lends_as f F.S8 F.S8 (unrolled_of f F.S8)
lends_rolled f F.U8 h = lends_as f F.U8 F.U8 (unrolled_of f F.U8)
lends_rolled f F.S16 h = lends_as f F.S16 F.S16 (unrolled_of f F.S16)
lends_rolled f F.U16 h = lends_as f F.U16 F.U16 (unrolled_of f F.U16)
lends_rolled f F.S32 h = lends_as f F.S32 F.S32 (unrolled_of f F.S32)
lends_rolled f F.U32 h = lends_as f F.U32 F.U32 (unrolled_of f F.U32)
lends_rolled f F.S64 h = lends_as f F.S64 F.S64 (unrolled_of f F.S64)
lends_rolled f F.U64 h = lends_as f F.U64 F.U64 (unrolled_of f F.U64)
lends_rolled f F.Char h = lends_as f F.Char F.Char (unrolled_of f F.Char)
lends_rolled f F.String h = lends_as f F.String F.String (unrolled_of f F.String)
lends_rolled f (F.Record fields) h = lends_as f (F.Record fields) (F.Record (map (fold-Field ValType Case Field (renumbered_step f) same_case same_field) fields)) (unrolled_of f (F.Record fields))
lends_rolled f (F.Variant cases) h = lends_as f (F.Variant cases) (F.Variant (map (fold-Case ValType Case Field (renumbered_step f) same_case same_field) cases)) (unrolled_of f (F.Variant cases))
lends_rolled f (F.List t) h = lends_as f (F.List t) (F.List (renumbered f t)) (unrolled_of f (F.List t))
lends_rolled f (F.Tuple parts) h = lends_as f (F.Tuple parts) (F.Tuple (map (renumbered f) parts)) (unrolled_of f (F.Tuple parts))
lends_rolled f (F.Flags labels) h = lends_as f (F.Flags labels) (F.Flags labels) (unrolled_of f (F.Flags labels))
lends_rolled f (F.Enum labels) h = lends_as f (F.Enum labels) (F.Enum labels) (unrolled_of f (F.Enum labels))
lends_rolled f (F.Option t) h = lends_as f (F.Option t) (F.Option (renumbered f t)) (unrolled_of f (F.Option t))
lends_rolled f (F.Result None None) h = lends_as f (F.Result None None) (F.Result None None) (unrolled_of f (F.Result None None))
lends_rolled f (F.Result None (Some e)) h = lends_as f (F.Result None (Some e)) (F.Result None (Some (renumbered f e))) (unrolled_of f (F.Result None (Some e)))
lends_rolled f (F.Result (Some o) None) h = lends_as f (F.Result (Some o) None) (F.Result (Some (renumbered f o)) None) (unrolled_of f (F.Result (Some o) None))
lends_rolled f (F.Result (Some o) (Some e)) h = lends_as f (F.Result (Some o) (Some e)) (F.Result (Some (renumbered f o)) (Some (renumbered f e))) (unrolled_of f (F.Result (Some o) (Some e)))
lends_rolled f (F.Own n) h = lends_as f (F.Own n) (F.Own (f n)) (unrolled_of f (F.Own n))
lends_rolled f (F.Borrow n) h = lends_as f (F.Borrow n) (F.Borrow (f n)) (unrolled_of f (F.Borrow n))
lends_rolled f (F.Stream None) h = lends_as f (F.Stream None) (F.Stream None) (unrolled_of f (F.Stream None))
lends_rolled f (F.Stream (Some t)) h = lends_as f (F.Stream (Some t)) (F.Stream (Some (renumbered f t))) (unrolled_of f (F.Stream (Some t))) ∙ borrow_same f t ∙ h
lends_rolled f (F.Future None) h = lends_as f (F.Future None) (F.Future None) (unrolled_of f (F.Future None))
lends_rolled f (F.Future (Some t)) h = lends_as f (F.Future (Some t)) (F.Future (Some (renumbered f t))) (unrolled_of f (F.Future (Some t))) ∙ borrow_same f t ∙ h

pub lends_same : (f : ℕ → ℕ) (t : ValType) → lends t ≡ false → lends (renumbered f t) ≡ false
lends_same f t h = subst (λ (u : ValType). lends (renumbered f u) ≡ false) (roll-out-ValType t) (lends_rolled f (out-ValType t) h)
