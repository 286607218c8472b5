-- What imports find is there, where all that core instances export is.
use Rattle.std.proofs.Common.{◌≡◌, ℕ, true, false, List, [], ◌∷◌, length, map, Option, Some, None, refl, subst}
use Rattle.std.specs.Prelude.{IfSome, Result, Ok, Err, nat_lt}
use Rattle.std.specs.List.{slice_get, list_all, AllByRecursion}
use Rattle.std.specs.Str.{bytes_eq}
use Rattle.syntax_trees.specs.declared.module.Import.{Import}
use Rattle.syntax_trees.specs.declared.module.ModuleTree.{ModuleTree}
use Rattle.comp_tree.specs.declared.core_instances.CoreArgument.{CoreArgument}
use Rattle.comp_graph.specs.declared.graph.CanonFunc.{CanonFunc}
use Rattle.comp_graph.specs.Graph.{CoreMake, IsItem}
use Rattle.link_spec.specs.declared.fault.LinkWhy.{LinkWhy}
use Rattle.link_spec.specs.declared.fault.LinkWhy.TheVariants.{Typing}
use Rattle.link_spec.specs.Definitions.{CoreItem, CoreExport, core_named}
use Rattle.link_spec.specs.Items.{argument_named}
use Rattle.link_spec.specs.Tests.{are_distinct, all_fit}
use Rattle.link_spec.specs.Computed.{after, there_or, found_in, all_found, imports_outcome}
use Rattle.link_spec.proofs.Holding.{all_at, if_cond}
use Rattle.link_spec.proofs.Soundness.{AreThere}
use Rattle.link_spec.proofs.SoundSpaces.{core_named_there}
use Rattle.link_core_exports.specs.Modules.{AreAllThere}

pub some_inj : {A : Type 0} {x y : A} → Some x ≡ Some y → x ≡ y
some_inj h = cc

-- what holds of an answer, where there is one
IfAnswered : {A : Type 0} → (A → Type 0) → Result A LinkWhy → Type 0
IfAnswered P (Ok a) = P a
IfAnswered P (Err w) = Unit {0}

answered_there : {A : Type 0} (P : A → Type 0) (w : LinkWhy) (o : Option A) → IfSome o P → IfAnswered P (there_or w o)
unfolding IfAnswered
answered_there P w None h = tt
answered_there P w (Some a) h = h

answered_after : {A B : Type 0} (P : A → Type 0) (Q : B → Type 0) (r : Result A LinkWhy) (f : A → Result B LinkWhy) → IfAnswered P r → ((a : A) → P a → IfAnswered Q (f a)) → IfAnswered Q (after r f)
unfolding IfAnswered
answered_after P Q (Ok a) f h g = g a h
answered_after P Q (Err w) f h g = tt

answered_with : {A : Type 0} (P : A → Type 0) (a : A) → P a → IfAnswered P (Ok a)
unfolding IfAnswered
answered_with P a h = h

answered_is : {A : Type 0} (P : A → Type 0) (r : Result A LinkWhy) (a : A) → IfAnswered P r → r ≡ Ok a → P a
unfolding IfAnswered
answered_is P (Ok b) a h e = let same : b ≡ a = cc in subst P same h
answered_is P (Err w) a h e = cc

module _ (cores : List CoreMake) (canons : List CanonFunc) (instances : List (List CoreExport)) (there : AreAllThere cores canons instances) where
  argument_there : (q : List ℕ) (arguments : List CoreArgument) → IfSome (argument_named instances q arguments) (AreThere cores canons)
  argument_there q [] = tt
  argument_there q (a ∷ arguments) =
      if_cond (AreThere cores canons) (bytes_eq a.name q) (slice_get instances a.instance) (argument_named instances q arguments)
      (all_at (AreThere cores canons) instances a.instance there) (argument_there q arguments)

  export_there : (i : Import) (o : Option (List CoreExport)) → IfSome o (AreThere cores canons) → IfAnswered (IsItem cores canons) (found_in i o)
  unfolding IfAnswered
  export_there i None h = tt
  export_there i (Some exports) h = answered_there (IsItem cores canons) _ (core_named i.name exports) (core_named_there cores canons i.name exports h)

  all_there : (arguments : List CoreArgument) (imports : List Import) → IfAnswered (AllByRecursion (IsItem cores canons)) (all_found instances arguments imports)
  all_there arguments [] = answered_with (AllByRecursion (IsItem cores canons)) [] tt
  all_there arguments (i ∷ imports) =
      answered_after (IsItem cores canons) (AllByRecursion (IsItem cores canons)) (found_in i (argument_named instances i.module arguments)) _ (export_there i (argument_named instances i.module arguments) (argument_there i.module arguments))
      (λ item h.
      answered_after (AllByRecursion (IsItem cores canons)) (AllByRecursion (IsItem cores canons)) (all_found instances arguments imports) _ (all_there arguments imports)
      (λ items k. answered_with (AllByRecursion (IsItem cores canons)) (item ∷ items) (h, k)))

  pub found_there : (arguments : List CoreArgument) (imports : List Import) (items : List CoreItem) → all_found instances arguments imports ≡ Ok items → AllByRecursion (IsItem cores canons) items
  found_there arguments imports items is = answered_is (AllByRecursion (IsItem cores canons)) (all_found instances arguments imports) items (all_there arguments imports) is

-- What imports are passed, where the arguments' core instances are there, each import finds an item, and no two arguments have one name.
module _ (instances : List (List CoreExport)) (m : ModuleTree) (arguments : List CoreArgument) (items : List CoreItem) (indices : list_all (λ (a : CoreArgument). nat_lt a.instance (length instances)) arguments ≡ true) (found : all_found instances arguments m.imports ≡ Ok items) (distinct : are_distinct (map (λ (a : CoreArgument). a.name) arguments) ≡ true) where
  pub passed : all_fit m m.imports items ≡ true → imports_outcome instances m arguments ≡ Ok items
  passed fit = rw (indices, found, distinct, fit) refl

  pub not_passed : all_fit m m.imports items ≡ false → imports_outcome instances m arguments ≡ Err Typing
  not_passed fit = rw (indices, found, distinct, fit) refl
