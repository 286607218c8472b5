-- Numbers of value types, as the table grows.
use Rattle.std.proofs.Common.{◌≡◌, ◌∙◌, ◌<◌, ℕ, suc, List, [], ◌∷◌, ◌++◌, length, sym, refl, Some, None, Option, inl, inr}
use Rattle.std.specs.List.{slice_get, AllZip}
use Rattle.std.proofs.lemmas.Option.{slice_get_within}
use Rattle.syntax_trees.specs.declared.types.ValType.{ValType}
use Rattle.syntax_trees.specs.declared.types.Param.{Param}
use Rattle.syntax_trees.specs.declared.types.FuncType.{FuncType}
use Rattle.laid_types.specs.Layers.{IsThere, tree_at}
use Rattle.laid_types.proofs.OfLayers.{there_tree}
use Rattle.link_types.specs.declared.labels.LabelledType.{LabelledType}
use Rattle.link_types.specs.Layered.{MayBeValue}
use Rattle.link_types.specs.Labels.{HaveTypes, AreValues, IsParam, IsFuncOf}
use Rattle.link_types.specs.Table.{Table, Grows}
use Rattle.link_values.proofs.Numbered.{is_at_or_last}
use Rattle.link_types.proofs.TypesGrow.{may_be_stays}
use Rattle.link_types.proofs.Zips.{all_stay}

module _ (t u : Table) (g : Grows t u) where
  -- A number stays there, and stands for what it stood for.
  pub within_stays : (n : ℕ) → n < length t.values → n < length u.values
  within_stays n h = slice_get_within u.values n (tree_at t.values n) (g.values n (tree_at t.values n) (there_tree t.values n h))

  stood : (n : ℕ) (type : ValType) → n < length t.values → slice_get u.values n ≡ Some type → slice_get t.values n ≡ Some type
  stood n type h at =
      let there = there_tree t.values n h in
      let e : ◌≡◌ {A = Option ValType} (Some (tree_at t.values n)) (Some type) = sym (g.values n (tree_at t.values n) there) ∙ at in
      there ∙ e

  pub have_types_stay : (params : List LabelledType) → HaveTypes t.values params → HaveTypes u.values params
  have_types_stay params h n p at = within_stays p.val_type (h n p at)

  pub have_types_more : (params : List LabelledType) (one : LabelledType) → HaveTypes t.values params → one.val_type < length u.values → HaveTypes u.values (params ++ one ∷ [])
  have_types_more params one h k n p at = elim (is_at_or_last params one n p at) [
    | inl there ↦ within_stays p.val_type (h n p there)
    | inr last ↦ rw last.1 k
  ]

  pub is_there_stays : (number : Option ℕ) → IsThere t.values number → IsThere u.values number
  is_there_stays None h = tt
  is_there_stays (Some n) h = within_stays n h

  pub values_stay : (params : List LabelledType) (returned : Option ℕ) → AreValues t.values params returned → AreValues u.values params returned
  values_stay params returned h = (have_types_stay params h.0, is_there_stays returned h.1)

  pub labelled_stay : (params : List LabelledType) (all : List Param) → AllZip (IsParam t.values) params all → AllZip (IsParam u.values) params all
  labelled_stay = all_stay (IsParam t.values) (IsParam u.values) (λ p q h. (h.0, g.values p.val_type q.val_type h.1))

  pub func_of_stays : (params : List LabelledType) (returned : Option ℕ) (type : FuncType) → IsFuncOf t.values params returned type → IsFuncOf u.values params returned type
  func_of_stays params returned type h = (labelled_stay params type.params h.0, may_be_stays t u g returned type.result h.1)

  params_stood : (params : List LabelledType) (all : List Param) → HaveTypes t.values params → AllZip (IsParam u.values) params all → AllZip (IsParam t.values) params all
  params_stood [] [] there h = tt
  params_stood [] (q ∷ all) there h = absurd h
  params_stood (p ∷ params) [] there h = absurd h
  params_stood (p ∷ params) (q ∷ all) there h = ((h.0.0, stood p.val_type q.val_type (there 0 p refl) h.0.1), params_stood params all (λ n r at. there (suc n) r at) h.1)

  may_be_stood : (number : Option ℕ) (type : Option ValType) → IsThere t.values number → MayBeValue u.values number type → MayBeValue t.values number type
  may_be_stood None None there h = tt
  may_be_stood None (Some type) there h = absurd h
  may_be_stood (Some n) None there h = absurd h
  may_be_stood (Some n) (Some type) there h = stood n type there h

  -- What numbers stand for that are there, they stood for.
  pub func_of_stood : (params : List LabelledType) (returned : Option ℕ) (type : FuncType) → AreValues t.values params returned → IsFuncOf u.values params returned type → IsFuncOf t.values params returned type
  func_of_stood params returned type there h = (params_stood params type.params there.0 h.0, may_be_stood returned type.result there.1 h.1)
