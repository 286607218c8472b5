-- Types of values and of functions, as they are made of parts that are changed.
use Rattle.std.proofs.Common.{◌≡◌, ◌∙◌, ◌<◌, ◌≤◌, ◌+◌, ℕ, List, [], ◌∷◌, ◌++◌, map, take, length, get_or, zero, suc, refl, ap, ap₂, sym, subst, Option, Some, None}
use Rattle.std.specs.Option.{option_map}
use Rattle.std.specs.List.{slice_get, AllZip}
use Rattle.std.proofs.lemmas.List.{take_all, take_more}
use Rattle.syntax_trees.specs.declared.types.ValType.{ValType}
use Rattle.syntax_trees.specs.declared.types.ValType.TheVariants as leaves
use Rattle.syntax_trees.specs.declared.types.ValType.TheViews as types
use Rattle.syntax_trees.specs.declared.types.Field.{Field}
use Rattle.syntax_trees.specs.declared.types.Case.{Case}
use Rattle.syntax_trees.specs.declared.types.Param.{Param}
use Rattle.syntax_trees.specs.declared.types.FuncType.{FuncType}
use Rattle.laid_types.specs.declared.layer.LabelledPart.{LabelledPart}
use Rattle.laid_types.specs.declared.layer.LabelledCase.{LabelledCase}
use Rattle.laid_types.specs.Layers.{AreThere, tree_at, field_of, case_of}
use Rattle.link_values.specs.Resources.{renumbered, renumbered_param, renumbered_func}
use Rattle.link_values.proofs.Renumbered.{of_flags, of_enum, of_own, of_borrow, of_list, of_option, of_tuple, of_record, of_variant, of_result, of_stream, of_future}
use Rattle.link_types.specs.declared.labels.LabelledType.{LabelledType}
use Rattle.link_types.specs.Labels.{HaveTypes, AreValues, IsParam, IsFuncOf}
use Rattle.link_types.specs.Layered.{MayBeValue}
use Rattle.link_types.specs.Table.{Table, Grows}
use Rattle.link_types.proofs.Zips.{all_more, all_stay}
use Rattle.link_types.proofs.Renumbered.{IsNewField, IsNewCase, IsNewPlace, IsNewParam, param_stays, tree_is, held_is, part_there, payload_there, fields_made, cases_made, places_made}

-- One more is made, and all are.
pub made_more : {A B : Type 0} (R Q : B → A → Type 0) → ((x : B) (y : A) → R x y → Q x y) → (ys : List A) (made more : List B) (at : ℕ) (x : B) (y d : A) → more ≡ made ++ x ∷ [] → AllZip R made (take at ys) → at < length ys → y ≡ get_or ys at d → Q x y
    → AllZip Q more (take (at + 1) ys)
made_more {A} R Q stays ys made more at x y d put so_far within one is =
    rw (take_more ys at d within, put) (all_more Q made (take at ys) x (get_or ys at d) (all_stay R Q stays made (take at ys) so_far) (subst (λ (y : A). Q x y) one is))

pub made_all : {A B : Type 0} (R : B → A → Type 0) (ys : List A) (made : List B) (at : ℕ) → AllZip R made (take at ys) → length ys ≤ at → AllZip R made ys
made_all {A} R ys made at so_far past = subst (λ (zs : List A). AllZip R made zs) (take_all at ys past) so_far

-- A type without parts or labels.
pub plain_made : (f : ℕ → ℕ) (new : List ValType) (number : ℕ) (made t : ValType) → made ≡ renumbered f t → slice_get new number ≡ Some made → slice_get new number ≡ Some (renumbered f t)
plain_made f new number made t same at = at ∙ ap (λ (t : ValType). Some t) same

module _ (f : ℕ → ℕ) (new : List ValType) (number : ℕ) where
  pub flags_made : (texts labels : List (List ℕ)) → texts ≡ labels → slice_get new number ≡ Some (leaves.Flags texts) → slice_get new number ≡ Some (renumbered f (leaves.Flags labels))
  flags_made texts labels same at = at ∙ ap (λ (t : ValType). Some t) (ap leaves.Flags same ∙ sym (of_flags f labels))

  pub enum_made : (texts labels : List (List ℕ)) → texts ≡ labels → slice_get new number ≡ Some (leaves.Enum texts) → slice_get new number ≡ Some (renumbered f (leaves.Enum labels))
  enum_made texts labels same at = at ∙ ap (λ (t : ValType). Some t) (ap leaves.Enum same ∙ sym (of_enum f labels))

  pub own_made : (old resource : ℕ) → resource ≡ f old → slice_get new number ≡ Some (leaves.Own resource) → slice_get new number ≡ Some (renumbered f (leaves.Own old))
  own_made old resource same at = at ∙ ap (λ (t : ValType). Some t) (ap leaves.Own same ∙ sym (of_own f old))

  pub borrow_made : (old resource : ℕ) → resource ≡ f old → slice_get new number ≡ Some (leaves.Borrow resource) → slice_get new number ≡ Some (renumbered f (leaves.Borrow old))
  borrow_made old resource same at = at ∙ ap (λ (t : ValType). Some t) (ap leaves.Borrow same ∙ sym (of_borrow f old))

module _ (f : ℕ → ℕ) (values new : List ValType) (number : ℕ) where
  pub list_made : (n : ℕ) (t : ValType) → slice_get values n ≡ Some (renumbered f t) → slice_get new number ≡ Some (types.List (tree_at values n)) → slice_get new number ≡ Some (renumbered f (types.List t))
  list_made n t part at = at ∙ ap (λ (t : ValType). Some t) (ap types.List (tree_is f values n (renumbered f t) part) ∙ sym (of_list f t))

  pub option_made : (n : ℕ) (t : ValType) → slice_get values n ≡ Some (renumbered f t) → slice_get new number ≡ Some (types.Option (tree_at values n)) → slice_get new number ≡ Some (renumbered f (types.Option t))
  option_made n t part at = at ∙ ap (λ (t : ValType). Some t) (ap types.Option (tree_is f values n (renumbered f t) part) ∙ sym (of_option f t))

  pub stream_made : (n : Option ℕ) (t : Option ValType) → MayBeValue values n (option_map (renumbered f) t) → slice_get new number ≡ Some (types.Stream (option_map (tree_at values) n)) → slice_get new number ≡ Some (renumbered f (types.Stream t))
  stream_made n t part at = at ∙ ap (λ (t : ValType). Some t) (ap types.Stream (held_is f values n (option_map (renumbered f) t) part) ∙ sym (of_stream f t))

  pub future_made : (n : Option ℕ) (t : Option ValType) → MayBeValue values n (option_map (renumbered f) t) → slice_get new number ≡ Some (types.Future (option_map (tree_at values) n)) → slice_get new number ≡ Some (renumbered f (types.Future t))
  future_made n t part at = at ∙ ap (λ (t : ValType). Some t) (ap types.Future (held_is f values n (option_map (renumbered f) t) part) ∙ sym (of_future f t))

  pub result_made : (n m : Option ℕ) (ok err : Option ValType) → MayBeValue values n (option_map (renumbered f) ok) → MayBeValue values m (option_map (renumbered f) err)
      → slice_get new number ≡ Some (types.Result (option_map (tree_at values) n) (option_map (tree_at values) m)) → slice_get new number ≡ Some (renumbered f (types.Result ok err))
  result_made n m ok err one other at =
      at ∙ ap (λ (t : ValType). Some t) (ap₂ types.Result (held_is f values n (option_map (renumbered f) ok) one) (held_is f values m (option_map (renumbered f) err) other) ∙ sym (of_result f ok err))

  pub record_made : (parts : List LabelledPart) (fields : List Field) → AllZip (IsNewField f values) parts fields → slice_get new number ≡ Some (types.Record (map (field_of values) parts)) → slice_get new number ≡ Some (renumbered f (types.Record fields))
  record_made parts fields all at = at ∙ ap (λ (t : ValType). Some t) (ap types.Record (fields_made f values parts fields all) ∙ sym (of_record f fields))

  pub variant_made : (parts : List LabelledCase) (cases : List Case) → AllZip (IsNewCase f values) parts cases → slice_get new number ≡ Some (types.Variant (map (case_of values) parts)) → slice_get new number ≡ Some (renumbered f (types.Variant cases))
  variant_made parts cases all at = at ∙ ap (λ (t : ValType). Some t) (ap types.Variant (cases_made f values parts cases all) ∙ sym (of_variant f cases))

  pub tuple_made : (parts : List ℕ) (places : List ValType) → AllZip (IsNewPlace f values) parts places → slice_get new number ≡ Some (types.Tuple (map (tree_at values) parts)) → slice_get new number ≡ Some (renumbered f (types.Tuple places))
  tuple_made parts places all at = at ∙ ap (λ (t : ValType). Some t) (ap types.Tuple (places_made f values parts places all) ∙ sym (of_tuple f places))

-- A part that is there.
module _ (f : ℕ → ℕ) (values : List ValType) where
  pub one_there : (n : ℕ) (t : ValType) → slice_get values n ≡ Some (renumbered f t) → AreThere values (Some n ∷ [])
  one_there n t h = (part_there f values n (renumbered f t) h, tt)

  pub other_there : (n : ℕ) (t : ValType) → slice_get values n ≡ Some (renumbered f t) → AreThere values (None ∷ Some n ∷ [])
  other_there n t h = (tt, (part_there f values n (renumbered f t) h, tt))

  pub held_there : (n : Option ℕ) (t : Option ValType) → MayBeValue values n (option_map (renumbered f) t) → AreThere values (n ∷ [])
  held_there n t h = (payload_there f values n (option_map (renumbered f) t) h, tt)

  -- Parameters.
  pub params_made : (made : List LabelledType) (params : List Param) → AllZip (IsNewParam f values) made params → AllZip (IsParam values) made (map (renumbered_param f) params)
  params_made [] [] h = tt
  params_made [] (p ∷ params) h = absurd h
  params_made (l ∷ made) [] h = absurd h
  params_made (l ∷ made) (p ∷ params) h = (h.0, params_made made params h.1)

  pub have_types : (made : List LabelledType) (params : List Param) → AllZip (IsParam values) made params → HaveTypes values made
  have_types [] params h n p at = absurd (cc)
  have_types (l ∷ made) [] h n p at = absurd h
  have_types (l ∷ made) (q ∷ params) h zero p at =
      let same : p ≡ l = cc in
      part_there f values p.val_type q.val_type (ap (λ (x : LabelledType). slice_get values x.val_type) same ∙ h.0.1)
  have_types (l ∷ made) (q ∷ params) h (suc n) p at = have_types made params h.1 n p at
