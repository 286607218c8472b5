-- What types of resources, and built-ins of them, come to, by what is found of their parts.
use Rattle.std.proofs.Common.{◌≡◌, ℕ, refl, sym, subst, Option, Some, None}
use Rattle.std.specs.Prelude.{Result, Err}
use Rattle.std.specs.List.{slice_get}
use Rattle.faults.specs.declared.memory.MemoryOr.{MemoryOr}
use Rattle.comp_tree.specs.declared.types.DefType.{DefType, out-DefType}
use Rattle.comp_graph.specs.CoreItems.{CoreItem}
use Rattle.link_spec.specs.declared.fault.LinkWhy.{LinkWhy}
use Rattle.link_spec.specs.declared.fault.LinkWhy.TheVariants as why
use Rattle.link_spec.specs.Resources.{resource_written}
use Rattle.link_spec.specs.Spaces.{Spaces, Linking}
use Rattle.link_spec.specs.Items.{type_meaning}
use Rattle.link_spec.specs.Computed.{Outcome, type_outcome, destructor_of, destructor_at, resource_outcome, defined_outcome}
use Rattle.link_parts.specs.Told.{IsTold}
use Rattle.link_state.specs.declared.linker.Linker.{Linker}
use Rattle.link_state.specs.State.{IsMade}

-- what an item of a linker is told
abbrev IsLinked : Linker → Result (Unit {0}) (MemoryOr LinkWhy) → Result Outcome LinkWhy → Type 0
IsLinked k result outcome = IsTold {B = Unit {0}} (λ _ outcome. IsMade k outcome) result outcome

-- A type is one of resources, or another.
module _ (l : Linking) (n : ℕ) (s : Spaces) (type : DefType) where
  pub of_resource : (destructor : Option ℕ) (k : Linker) (result : Result (Unit {0}) (MemoryOr LinkWhy)) → resource_written (out-DefType type) ≡ Some destructor → IsLinked k result (resource_outcome l n s destructor)
      → IsLinked k result (defined_outcome l n s (resource_written (out-DefType type)) (type_meaning l n s type))
  of_resource destructor k result is told = subst (λ (o : Option (Option ℕ)). IsLinked k result (defined_outcome l n s o (type_meaning l n s type))) (sym is) told

  pub of_other : (k : Linker) (result : Result (Unit {0}) (MemoryOr LinkWhy)) → resource_written (out-DefType type) ≡ None → IsLinked k result (type_outcome l n s (type_meaning l n s type))
      → IsLinked k result (defined_outcome l n s (resource_written (out-DefType type)) (type_meaning l n s type))
  of_other k result is told = subst (λ (o : Option (Option ℕ)). IsLinked k result (defined_outcome l n s o (type_meaning l n s type))) (sym is) told

-- Destructors.
module _ (s : Spaces) (f : ℕ) where
  pub no_item : slice_get s.core_funcs f ≡ None → destructor_at s (Some f) ≡ Err why.Index
  no_item none = rw none refl

  pub at_item : (item : CoreItem) → slice_get s.core_funcs f ≡ Some item → destructor_at s (Some f) ≡ destructor_of item
  at_item item is = rw is refl
