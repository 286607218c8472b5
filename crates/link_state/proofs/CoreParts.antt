-- Instantiations of core modules: what they come to, by what is found of their parts.
use Rattle.std.proofs.Common.{◌≡◌, ◌<◌, ◌≤◌, ℕ, List, length, refl, Some}
use Rattle.std.specs.Prelude.{Ok, Err}
use Rattle.std.specs.List.{slice_get}
use Rattle.std.proofs.lemmas.Bool.{lt-ltb, le-ltb}
use Rattle.faults.specs.declared.memory.MemoryOr.{MemoryOr}
use Rattle.syntax_trees.specs.declared.module.ModuleTree.{ModuleTree}
use Rattle.comp_tree.specs.declared.core_instances.CoreArgument.{CoreArgument}
use Rattle.comp_tree.specs.declared.core_instances.CoreInstance.TheVariants as made_core
use Rattle.link_spec.specs.declared.fault.LinkWhy.{LinkWhy}
use Rattle.link_spec.specs.declared.fault.LinkWhy.TheVariants as why
use Rattle.link_spec.specs.Definitions.{CoreItem}
use Rattle.link_spec.specs.Spaces.{Spaces, Linking}
use Rattle.link_spec.specs.Items.{instance_limit, core_made}
use Rattle.link_spec.specs.Computed.{Makes, imports_outcome, core_instance_outcome}
use Rattle.link_parts.specs.Told.{IsReason}
use Rattle.link_parts.proofs.Told.{reason_after}

-- The instantiation of a core module that is there: where its imports are refused, and where they are passed.
module _ (l : Linking) (n : ℕ) (s : Spaces) (index : ℕ) (arguments : List CoreArgument) (m : ModuleTree) (is : slice_get s.core_modules index ≡ Some m) where
  pub imports_refused : (e : MemoryOr LinkWhy) → IsReason e (imports_outcome s.core_instances m arguments) → IsReason e (core_instance_outcome l n s (made_core.Instantiate index arguments))
  imports_refused e h = rw is (reason_after e (imports_outcome s.core_instances m arguments) _ h)

  pub within_limit : (items : List CoreItem) → imports_outcome s.core_instances m arguments ≡ Ok items → length l.cores < instance_limit
      → core_instance_outcome l n s (made_core.Instantiate index arguments) ≡ Ok (Makes (core_made l n s m items))
  within_limit items h within = rw (is, h, lt-ltb (length l.cores) instance_limit within) refl

  pub past_limit : (items : List CoreItem) → imports_outcome s.core_instances m arguments ≡ Ok items → instance_limit ≤ length l.cores
      → core_instance_outcome l n s (made_core.Instantiate index arguments) ≡ Err why.Limit
  past_limit items h past = rw (is, h, le-ltb (length l.cores) instance_limit past) refl
