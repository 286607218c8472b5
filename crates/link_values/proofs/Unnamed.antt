-- A type that names no resource stays as it is where the numbers of resources are changed, as long as 0 stays 0.
use Rattle.std.proofs.Common.{◌≡◌, ◌∙◌, ℕ, List, [], ◌∷◌, map, max, refl, ap, ap₂, sym, subst, arith, Option, Some, None}
use Rattle.syntax_trees.specs.declared.types.ValType.{ValType, roll-ValType}
use Rattle.syntax_trees.specs.declared.types.ValType.TheViews.{roll-Case, roll-Field}
use Rattle.syntax_trees.specs.declared.types.ValType.TheOpen as F
use Rattle.syntax_trees.specs.declared.types.ValType.TheFolds.{fold-Case, fold-Field, fold-roll-ValType, ind-ValType, map-ValType, map-Case, map-Field}
use Rattle.syntax_trees.specs.declared.types.Case.{Case}
use Rattle.syntax_trees.specs.declared.types.Field.{Field}
use Rattle.syntax_trees.proofs.Folds.{held, fold_case, fold_field}
use Rattle.laid_types.specs.Depth.{greatest, part_depth, depth_case, depth_field}
use Rattle.laid_types.specs.Handles.{top_resource, top_step}
use Rattle.link_values.specs.Resources.{renumbered_step, same_case, same_field, renumbered}

zero_first : (a b : ℕ) → max a b ≡ 0 → a ≡ 0
zero_first a b h = omega (arith, h)

zero_second : (a b : ℕ) → max a b ≡ 0 → b ≡ 0
zero_second a b h = omega (arith, h)

-- things, each of which stays where its number is 0
kept_list : {A : Type 0} (top : A → ℕ) (new : A → A) (l : List ((x : A) × (top x ≡ 0 → new x ≡ x))) → greatest (map top (map (λ (e : (x : A) × (top x ≡ 0 → new x ≡ x)). e.0) l)) ≡ 0
    → map new (map (λ (e : (x : A) × (top x ≡ 0 → new x ≡ x)). e.0) l) ≡ map (λ (e : (x : A) × (top x ≡ 0 → new x ≡ x)). e.0) l
kept_list top new [] h = refl
kept_list top new (e ∷ l) h =
    let rest = greatest (map top (map (λ e. e.0) l)) in
    ap₂ (λ x xs. x ∷ xs) (e.1 (zero_first (top e.0) rest h)) (kept_list top new l (zero_second (top e.0) rest h))

module _ (f : ℕ → ℕ) (fixed : f 0 ≡ 0) where
  abbrev top_case : Case → ℕ
  top_case = fold-Case ℕ ℕ ℕ top_step depth_case depth_field

  abbrev top_field : Field → ℕ
  top_field = fold-Field ℕ ℕ ℕ top_step depth_case depth_field

  abbrev new_case : Case → Case
  new_case = fold-Case ValType Case Field (renumbered_step f) same_case same_field

  abbrev new_field : Field → Field
  new_field = fold-Field ValType Case Field (renumbered_step f) same_case same_field

  abbrev TypeKept : ValType → Type 0
  TypeKept t = top_resource t ≡ 0 → renumbered f t ≡ t

  abbrev CaseKept : Case → Type 0
  CaseKept c = top_case c ≡ 0 → new_case c ≡ c

  abbrev FieldKept : Field → Type 0
  FieldKept x = top_field x ≡ 0 → new_field x ≡ x

  abbrev TypeAnd : Type 0
  TypeAnd = (t : ValType) × TypeKept t

  abbrev CaseAnd : Type 0
  CaseAnd = (c : Case) × CaseKept c

  abbrev FieldAnd : Type 0
  FieldAnd = (x : Field) × FieldKept x

  abbrev Layer : Type 0
  Layer = F.ValType-F ValType Case Field

  abbrev layer : F.ValType-F TypeAnd CaseAnd FieldAnd → Layer
  layer y = map-ValType TypeAnd CaseAnd FieldAnd ValType Case Field (λ e. e.0) (λ e. e.0) (λ e. e.0) y

  new_of : (x : Layer) → renumbered f (roll-ValType x) ≡ renumbered_step f (map-ValType ValType Case Field ValType Case Field (renumbered f) new_case new_field x)
  new_of x = fold-roll-ValType ValType Case Field (renumbered_step f) same_case same_field x

  top_of : (x : Layer) → top_resource (roll-ValType x) ≡ top_step (map-ValType ValType Case Field ℕ ℕ ℕ top_resource top_case top_field x)
  top_of x = fold-roll-ValType ℕ ℕ ℕ top_step depth_case depth_field x

  stepped : (y : F.ValType-F TypeAnd CaseAnd FieldAnd) → TypeKept (roll-ValType (layer y))
  stepped F.Bool h = new_of F.Bool
  stepped F.S8 h = new_of F.S8
  stepped F.U8 h = new_of F.U8
  stepped F.S16 h = new_of F.S16
  stepped F.U16 h = new_of F.U16
  stepped F.S32 h = new_of F.S32
  stepped F.U32 h = new_of F.U32
  stepped F.S64 h = new_of F.S64
  stepped F.U64 h = new_of F.U64
  stepped F.Char h = new_of F.Char
  stepped F.String h = new_of F.String
  stepped (F.Record fields) h =
      let xs = map (λ (e : FieldAnd). e.0) fields in
      new_of (F.Record xs) ∙ ap (λ l. roll-ValType (F.Record l)) (kept_list top_field new_field fields (sym (top_of (F.Record xs)) ∙ h))
  stepped (F.Variant cases) h =
      let xs = map (λ (e : CaseAnd). e.0) cases in
      new_of (F.Variant xs) ∙ ap (λ l. roll-ValType (F.Variant l)) (kept_list top_case new_case cases (sym (top_of (F.Variant xs)) ∙ h))
  stepped (F.List e) h = new_of (F.List e.0) ∙ ap (λ t. roll-ValType (F.List t)) (e.1 (sym (top_of (F.List e.0)) ∙ h))
  stepped (F.Tuple parts) h =
      let xs = map (λ (e : TypeAnd). e.0) parts in
      new_of (F.Tuple xs) ∙ ap (λ l. roll-ValType (F.Tuple l)) (kept_list top_resource (renumbered f) parts (sym (top_of (F.Tuple xs)) ∙ h))
  stepped (F.Flags labels) h = new_of (F.Flags labels)
  stepped (F.Enum labels) h = new_of (F.Enum labels)
  stepped (F.Option e) h = new_of (F.Option e.0) ∙ ap (λ t. roll-ValType (F.Option t)) (e.1 (sym (top_of (F.Option e.0)) ∙ h))
  stepped (F.Result None None) h = new_of (F.Result None None)
  stepped (F.Result None (Some e)) h =
      new_of (F.Result None (Some e.0)) ∙ ap (λ t. roll-ValType (F.Result None (Some t))) (e.1 (zero_second 0 (top_resource e.0) (sym (top_of (F.Result None (Some e.0))) ∙ h)))
  stepped (F.Result (Some o) None) h =
      new_of (F.Result (Some o.0) None) ∙ ap (λ t. roll-ValType (F.Result (Some t) None)) (o.1 (zero_first (top_resource o.0) 0 (sym (top_of (F.Result (Some o.0) None)) ∙ h)))
  stepped (F.Result (Some o) (Some e)) h =
      let both = sym (top_of (F.Result (Some o.0) (Some e.0))) ∙ h in
      new_of (F.Result (Some o.0) (Some e.0))
      ∙ ap₂ (λ t u. roll-ValType (F.Result (Some t) (Some u))) (o.1 (zero_first (top_resource o.0) (top_resource e.0) both)) (e.1 (zero_second (top_resource o.0) (top_resource e.0) both))
  stepped (F.Own n) h =
      let none : n ≡ 0 = sym (top_of (F.Own n)) ∙ h in
      new_of (F.Own n) ∙ ap (λ m. roll-ValType (F.Own m)) (ap f none ∙ fixed ∙ sym none)
  stepped (F.Borrow n) h =
      let none : n ≡ 0 = sym (top_of (F.Borrow n)) ∙ h in
      new_of (F.Borrow n) ∙ ap (λ m. roll-ValType (F.Borrow m)) (ap f none ∙ fixed ∙ sym none)
  stepped (F.Stream None) h = new_of (F.Stream None)
  stepped (F.Stream (Some e)) h = new_of (F.Stream (Some e.0)) ∙ ap (λ t. roll-ValType (F.Stream (Some t))) (e.1 (sym (top_of (F.Stream (Some e.0))) ∙ h))
  stepped (F.Future None) h = new_of (F.Future None)
  stepped (F.Future (Some e)) h = new_of (F.Future (Some e.0)) ∙ ap (λ t. roll-ValType (F.Future (Some t))) (e.1 (sym (top_of (F.Future (Some e.0))) ∙ h))

  payload_kept : (label : List ℕ) (o : Option ValType) → (part_depth (held top_resource o) ≡ 0 → held (renumbered f) o ≡ o) → CaseKept (record { label = label; payload = o })
  payload_kept label o kept h =
      fold_case ValType Case Field (renumbered_step f) same_case same_field (record { label = label; payload = o })
      ∙ ap (λ p. (let c : Case = record { label = label; payload = p } in c)) (kept (sym (fold_case ℕ ℕ ℕ top_step depth_case depth_field (record { label = label; payload = o })) ∙ h))

  case_stepped : (y : F.Case-F TypeAnd CaseAnd FieldAnd) → CaseKept (roll-Case (map-Case TypeAnd CaseAnd FieldAnd ValType Case Field (λ e. e.0) (λ e. e.0) (λ e. e.0) y))
  case_stepped y =
      elim y.payload as (λ p. CaseKept (roll-Case (map-Case TypeAnd CaseAnd FieldAnd ValType Case Field (λ e. e.0) (λ e. e.0) (λ e. e.0) (record { label = y.label; payload = p })))) [
        | Some e ↦ payload_kept y.label (Some e.0) (λ h. ap Some (e.1 h))
        | None ↦ payload_kept y.label None (λ h. refl)
      ]

  field_stepped : (y : F.Field-F TypeAnd CaseAnd FieldAnd) → FieldKept (roll-Field (map-Field TypeAnd CaseAnd FieldAnd ValType Case Field (λ e. e.0) (λ e. e.0) (λ e. e.0) y))
  field_stepped y h =
      let x : Field = record { label = y.label; val_type = y.val_type.0 } in
      fold_field ValType Case Field (renumbered_step f) same_case same_field x
      ∙ ap (λ t. (let z : Field = record { label = y.label; val_type = t } in z)) (y.val_type.1 (sym (fold_field ℕ ℕ ℕ top_step depth_case depth_field x) ∙ h))

  pub kept : (t : ValType) → top_resource t ≡ 0 → renumbered f t ≡ t
  kept =
      ind-ValType TypeKept CaseKept FieldKept
      (λ x y e. subst (λ (z : Layer). TypeKept (roll-ValType z)) e (stepped y))
      (λ x y e. subst (λ (z : F.Case-F ValType Case Field). CaseKept (roll-Case z)) e (case_stepped y))
      (λ x y e. subst (λ (z : F.Field-F ValType Case Field). FieldKept (roll-Field z)) e (field_stepped y))
