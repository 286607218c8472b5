-- A closed type that names no resource stays as it is where the numbers of resources are changed, and brings none.
use Rattle.std.proofs.Common.{◌≡◌, ◌∙◌, ℕ, suc, false, nat_lt, List, [], ◌∷◌, map, refl, ap, ap₂, arith, Option, Some, None}
use Rattle.std.specs.Option.{option_map}
use Rattle.std.proofs.lemmas.Bool.Decides.{nat_tests}
use Rattle.syntax_trees.specs.declared.types.ValType.{ValType}
use Rattle.syntax_trees.specs.declared.types.Param.{Param}
use Rattle.syntax_trees.specs.declared.types.FuncType.{FuncType}
use Rattle.syntax_trees.specs.Ends.{some_true}
use Rattle.laid_types.specs.Handles.{top_resource, held_top}
use Rattle.comp_graph.specs.Closed.{Closed, Value, Func, Resource, Instance, Extern, OfFunc, OfType, OfInstance, Externs, EmptyType, WithExtern, names_in_param, names_in_func, names_resource, names_in_extern, names_in_externs}
use Rattle.link_values.specs.Resources.{Change, renumbered, renumbered_param, renumbered_func}
use Rattle.link_values.proofs.Unnamed.{kept}
use Rattle.link_spec.specs.Definitions.{Definition, Exports, export_named}
use Rattle.link_spec.specs.Brought.{moved, moved_extern, moved_externs, exports_given, found_for, all_found_for}
use Rattle.link_spec.proofs.SoundSeen.{neither}

none_named : (n : ℕ) → nat_lt 0 n ≡ false → n ≡ 0
none_named n h = grind (arith, nat_tests)

-- a change that leaves 0 alone, which is the number of no resource
abbrev pub FixesNone : Change → Type 0
FixesNone f = (depth : ℕ) → f depth 0 ≡ 0

module _ (f : ℕ → ℕ) (fixed : f 0 ≡ 0) where
  params_kept : (params : List Param) → some_true (map names_in_param params) ≡ false → map (renumbered_param f) params ≡ params
  params_kept [] h = refl
  params_kept (p ∷ params) h =
      let p_and_others = neither (names_in_param p) (some_true (map names_in_param params)) h in
      ap₂ (λ q others. q ∷ others) (ap (λ t. (let q : Param = record { label = p.label; val_type = t } in q)) (kept f fixed p.val_type (none_named (top_resource p.val_type) p_and_others.0))) (params_kept params p_and_others.1)

  result_kept : (o : Option ValType) → nat_lt 0 (held_top o) ≡ false → option_map (renumbered f) o ≡ o
  result_kept None h = refl
  result_kept (Some t) h = ap Some (kept f fixed t (none_named (top_resource t) h))

  pub func_kept : (type : FuncType) → names_in_func type ≡ false → renumbered_func f type ≡ type
  func_kept type h =
      let params_and_result = neither (some_true (map names_in_param type.params)) (nat_lt 0 (held_top type.result)) h in
      ap₂ (λ params result. (let t : FuncType = record { params = params; result = result } in t)) (params_kept type.params params_and_result.0) (result_kept type.result params_and_result.1)

mutual
  pub type_kept : (f : Change) → FixesNone f → (depth : ℕ) (type : Closed) → names_resource type ≡ false → moved f depth type ≡ type
  type_kept f fixed depth (Value type) h = ap Value (kept (f depth) (fixed depth) type (none_named (top_resource type) h))
  type_kept f fixed depth (Func type) h = ap Func (func_kept (f depth) (fixed depth) type h)
  type_kept f fixed depth (Resource number) h = cc
  type_kept f fixed depth (Instance externs) h = ap Instance (externs_kept f fixed (suc depth) externs h)

  pub extern_kept : (f : Change) → FixesNone f → (depth : ℕ) (extern : Extern) → names_in_extern extern ≡ false → moved_extern f depth extern ≡ extern
  extern_kept f fixed depth (OfFunc type) h = ap OfFunc (func_kept (f depth) (fixed depth) type h)
  extern_kept f fixed depth (OfType type) h = ap OfType (type_kept f fixed depth type h)
  extern_kept f fixed depth (OfInstance externs) h = ap OfInstance (externs_kept f fixed depth externs h)

  pub externs_kept : (f : Change) → FixesNone f → (depth : ℕ) (externs : Externs) → names_in_externs externs ≡ false → moved_externs f depth externs ≡ externs
  externs_kept f fixed depth EmptyType h = refl
  externs_kept f fixed depth (WithExtern others name extern) h =
      let both = neither (names_in_externs others) (names_in_extern extern) h in
      ap₂ (λ others extern. WithExtern others name extern) (externs_kept f fixed depth others both.0) (extern_kept f fixed depth extern both.1)

-- None is found for it.
mutual
  pub none_found : (given : Option Definition) (found : List ℕ) (extern : Extern) → names_in_extern extern ≡ false → found_for given found extern ≡ found
  none_found given found (OfFunc type) h = refl
  none_found given found (OfType (Value type)) h = refl
  none_found given found (OfType (Func type)) h = refl
  none_found given found (OfType (Resource number)) h = cc
  none_found given found (OfType (Instance externs)) h = refl
  none_found given found (OfInstance externs) h = none_found_for (exports_given given) found externs h

  pub none_found_for : (given : Exports) (found : List ℕ) (externs : Externs) → names_in_externs externs ≡ false → all_found_for given found externs ≡ found
  none_found_for given found EmptyType h = refl
  none_found_for given found (WithExtern others name extern) h =
      let both = neither (names_in_externs others) (names_in_extern extern) h in
      ap (λ (found : List ℕ). found_for (export_named name given) found extern) (none_found_for given found others both.0) ∙ none_found (export_named name given) found extern both.1
