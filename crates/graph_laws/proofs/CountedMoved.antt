-- Types in which the numbers of resources are changed are marked as they were, and so is what an export of an instance type is to be.
use Rattle.std.proofs.Common.{◌≡◌, ◌∙◌, ℕ, suc, Bool, true, refl, Option}
use Rattle.std.specs.Prelude.{IfSome}
use Rattle.std.specs.Option.{option_map}
use Rattle.std.specs.List.{slice_get, AllByRecursion}
use Rattle.syntax_trees.specs.declared.types.ValType.{ValType}
use Rattle.syntax_trees.specs.declared.types.Param.{Param}
use Rattle.syntax_trees.specs.declared.types.FuncType.{FuncType}
use Rattle.comp_tree.specs.declared.externs.ExternDesc.{ExternDesc}
use Rattle.comp_tree.specs.declared.externs.ExternDesc.TheVariants as desc
use Rattle.comp_graph.specs.Closed.{Closed, Value, Func, Instance, Resource, Extern, OfFunc, OfType, OfInstance, Externs, EmptyType, WithExtern}
use Rattle.link_values.specs.Resources.{Change, brought_behind, renumbered, renumbered_param, renumbered_func}
use Rattle.link_spec.specs.Brought.{moved, moved_extern, moved_externs}
use Rattle.link_spec.specs.Types.{Declared, as_exported, described}
use Rattle.link_spec.proofs.Holding.{all_at, all_mapped, all_weaker, if_weaker, if_mapped}
use Rattle.link_spec.proofs.Unmoved.{told_same}
use Rattle.graph_laws.specs.Counted.{counted_case, counted_field}
use Rattle.graph_laws.proofs.Marked.{marked_step, is_marked, HasMarkedTypes}
use Rattle.graph_laws.proofs.CountedTypes.{IsCounted, IsExternCounted, AreCounted, IsKnownCounted, found_counted, desc_counted}

module _ (ends many : Bool) where
  marked_same : (f : ℕ → ℕ) (t : ValType) → is_marked ends many (renumbered f t) ≡ is_marked ends many t
  marked_same f t = told_same Bool Bool Bool (marked_step ends many) counted_case counted_field f (λ n m. refl) (λ n m. refl) t

  abbrev IsMarkedType : ValType → Type 0
  IsMarkedType t = is_marked ends many t ≡ true

  marked_moved : (f : ℕ → ℕ) (t : ValType) → IsMarkedType t → IsMarkedType (renumbered f t)
  marked_moved f t h = marked_same f t ∙ h

  func_moved : (f : ℕ → ℕ) (type : FuncType) → HasMarkedTypes ends many type → HasMarkedTypes ends many (renumbered_func f type)
  func_moved f type h = record {
    params = all_mapped (renumbered_param f) (λ (p : Param). IsMarkedType p.val_type) type.params
        (all_weaker (λ (p : Param). IsMarkedType p.val_type) (λ (p : Param). IsMarkedType (renumbered f p.val_type)) (λ p k. marked_moved f p.val_type k) type.params h.params);
    returned = if_mapped (renumbered f) IsMarkedType type.result (if_weaker IsMarkedType (λ t. IsMarkedType (renumbered f t)) (marked_moved f) type.result h.returned);
  }

  mutual
    pub type_moved : (f : Change) (depth : ℕ) (type : Closed) → IsCounted ends many type → IsCounted ends many (moved f depth type)
    type_moved f depth (Value type) h = marked_moved (f depth) type h
    type_moved f depth (Func type) h = func_moved (f depth) type h
    type_moved f depth (Resource number) h = tt
    type_moved f depth (Instance externs) h = externs_moved f (suc depth) externs h

    extern_moved : (f : Change) (depth : ℕ) (extern : Extern) → IsExternCounted ends many extern → IsExternCounted ends many (moved_extern f depth extern)
    extern_moved f depth (OfFunc type) h = func_moved (f depth) type h
    extern_moved f depth (OfType type) h = type_moved f depth type h
    extern_moved f depth (OfInstance externs) h = externs_moved f depth externs h

    externs_moved : (f : Change) (depth : ℕ) (externs : Externs) → AreCounted ends many externs → AreCounted ends many (moved_externs f depth externs)
    externs_moved f depth EmptyType h = tt
    externs_moved f depth (WithExtern others name extern) h = (externs_moved f depth others h.0, extern_moved f depth extern h.1)

  exported_counted : (resources : ℕ) (type : Closed) → IsCounted ends many type → IfSome (as_exported resources type) (IsExternCounted ends many)
  exported_counted resources (Value type) h = tt
  exported_counted resources (Func type) h = tt
  exported_counted resources (Resource number) h = tt
  exported_counted resources (Instance externs) h = externs_moved (brought_behind resources) 0 externs h

  pub described_counted : (d : Declared) (asked : ExternDesc) → AllByRecursion (IsKnownCounted ends many) d.types → IfSome (described d asked).means (IsExternCounted ends many)
  described_counted d (desc.Func index) h = desc_counted ends many d.types (desc.Func index) h
  described_counted d (desc.TypeEq index) h = desc_counted ends many d.types (desc.TypeEq index) h
  described_counted d (desc.Instance index) h =
      found_counted ends many (as_exported d.resources) (IsCounted ends many) (IsExternCounted ends many) (exported_counted d.resources) (slice_get d.types index) (all_at (IsKnownCounted ends many) d.types index h)
  described_counted d desc.Resource h = tt
