-- Core modules and the core instances that are made of them stay what they are when one is added.
use Rattle.std.proofs.Common.{◌≡◌, ℕ, List, [], ◌∷◌, ◌++◌, map, sym, ◌∙◌, ap, subst, Some}
use Rattle.std.specs.List.{slice_get, AllZip}
use Rattle.std.proofs.lemmas.List.{map-append}
use Rattle.syntax_trees.specs.declared.module_types.FuncType.{FuncType}
use Rattle.syntax_trees.specs.declared.module.ModuleTree.{ModuleTree}
use Rattle.comp_graph.specs.Graph.{CoreMake}
use Rattle.link_spec.proofs.Holding.{kept_at, zip_weaker}
use Rattle.link_core_exports.specs.declared.modules.CoreModules.{CoreModules}
use Rattle.link_core_exports.specs.Modules.{AreModulesOf}

-- one element more beside one more
zip_more : {A B : Type 0} (R : A → B → Type 0) (xs : List A) (ys : List B) (x : A) (y : B) → AllZip R xs ys → R x y → AllZip R (xs ++ x ∷ []) (ys ++ y ∷ [])
zip_more R [] [] x y h k = (k, tt)
zip_more R [] (b ∷ ys) x y h k = absurd h
zip_more R (a ∷ xs) [] x y h k = absurd h
zip_more R (a ∷ xs) (b ∷ ys) x y h k = (h.0, zip_more R xs ys x y h.1 k)

abbrev IsMadeOf : List ModuleTree → ℕ → CoreMake → Type 0
IsMadeOf modules number core = slice_get modules number ≡ Some core.of_module

abbrev types_of : List ModuleTree → List (List FuncType)
types_of modules = map (λ (m : ModuleTree). m.types) modules

module _ (made new : CoreModules) (cores : List CoreMake) (h : AreModulesOf made cores) where
  pub modules_same : new.types ≡ made.types → new.modules.items ≡ made.modules.items → new.made_of.items ≡ made.made_of.items → AreModulesOf new cores
  modules_same types modules made_of = record {
    types_are = types ∙ h.types_are ∙ ap types_of (sym modules);
    made_of_are = subst (λ (ms : List ModuleTree). AllZip (IsMadeOf ms) new.made_of.items cores) (sym modules)
        (subst (λ (numbers : List ℕ). AllZip (IsMadeOf made.modules.items) numbers cores) (sym made_of) h.made_of_are);
  }

  pub modules_added : (m : ModuleTree) → new.types ≡ made.types ++ m.types ∷ [] → new.modules.items ≡ made.modules.items ++ m ∷ [] → new.made_of.items ≡ made.made_of.items → AreModulesOf new cores
  modules_added m types modules made_of = record {
    types_are = types ∙ ap (λ (ts : List (List FuncType)). ts ++ m.types ∷ []) h.types_are ∙ sym (map-append (λ (m : ModuleTree). m.types) made.modules.items (m ∷ [])) ∙ ap types_of (sym modules);
    made_of_are = subst (λ (ms : List ModuleTree). AllZip (IsMadeOf ms) new.made_of.items cores) (sym modules)
        (subst (λ (numbers : List ℕ). AllZip (IsMadeOf (made.modules.items ++ m ∷ [])) numbers cores) (sym made_of)
        (zip_weaker (IsMadeOf made.modules.items) (IsMadeOf (made.modules.items ++ m ∷ [])) (λ number core there. kept_at made.modules.items (m ∷ []) number core.of_module there) made.made_of.items cores h.made_of_are));
  }

  pub instance_added : (number : ℕ) (core : CoreMake) → slice_get made.modules.items number ≡ Some core.of_module → new.types ≡ made.types → new.modules.items ≡ made.modules.items → new.made_of.items ≡ made.made_of.items ++ number ∷ [] → AreModulesOf new (cores ++ core ∷ [])
  instance_added number core there types modules made_of = record {
    types_are = types ∙ h.types_are ∙ ap types_of (sym modules);
    made_of_are = subst (λ (ms : List ModuleTree). AllZip (IsMadeOf ms) new.made_of.items (cores ++ core ∷ [])) (sym modules)
        (subst (λ (numbers : List ℕ). AllZip (IsMadeOf made.modules.items) numbers (cores ++ core ∷ [])) (sym made_of) (zip_more (IsMadeOf made.modules.items) made.made_of.items cores number core h.made_of_are there));
  }
