-- Whether items are what imports ask for, one after the other.
use Rattle.std.proofs.Common.{◌≡◌, ◌<◌, ◌≤◌, ◌+◌, ℕ, zero, suc, Bool, true, false, ◌&&◌, List, [], ◌∷◌, length, drop, get_or, refl, ap, sym, ◌∙◌, arith, Some, None}
use Rattle.std.specs.List.{slice_get, AllByRecursion}
use Rattle.std.proofs.lemmas.List.{drop_all, drop_more}
use Rattle.syntax_trees.specs.declared.module.Import.{Import}
use Rattle.syntax_trees.specs.declared.module.ModuleTree.{ModuleTree}
use Rattle.comp_graph.specs.declared.graph.CanonFunc.{CanonFunc}
use Rattle.comp_graph.specs.Graph.{CoreMake, IsItem}
use Rattle.link_spec.specs.Definitions.{CoreItem}
use Rattle.link_spec.specs.Tests.{core_fits, all_fit}
use Rattle.link_spec.proofs.Holding.{all_at, holds_at}
use Rattle.link_core_exports.specs.declared.modules.CoreModules.{CoreModules}
use Rattle.link_core_exports.specs.Modules.{AreModulesOf}

none_fit : (m : ModuleTree) (imports : List Import) (at : ℕ) (items : List CoreItem) → length imports ≤ at → all_fit m (drop at imports) items ≡ true
none_fit m imports at items h = rw (drop_all at imports h) refl

-- what is left from an item on
dropped_at : {A : Type 0} (xs : List A) (at : ℕ) (x : A) → slice_get xs at ≡ Some x → drop at xs ≡ x ∷ drop (at + 1) xs
dropped_at [] at x h = cc
dropped_at (y ∷ xs) zero x h = let same : y ≡ x = cc in ap (λ (y : _). y ∷ xs) same
dropped_at (y ∷ xs) (suc at) x h = let e : suc at + 1 ≡ suc (at + 1) = omega arith in rw e (dropped_at xs at x h)

dropped_past : {A : Type 0} (xs : List A) (at : ℕ) → slice_get xs at ≡ None → drop at xs ≡ []
dropped_past [] zero h = refl
dropped_past [] (suc at) h = refl
dropped_past (y ∷ xs) zero h = cc
dropped_past (y ∷ xs) (suc at) h = dropped_past xs at h

one_left : (m : ModuleTree) (imports : List Import) (at : ℕ) → at < length imports → all_fit m (drop at imports) [] ≡ false
one_left m [] at h = absurd (omega arith)
one_left m (i ∷ imports) zero h = refl
one_left m (i ∷ imports) (suc at) h = one_left m imports at (omega arith)

one_less : (m : ModuleTree) (imports : List Import) (at : ℕ) (items : List CoreItem) → at < length imports → slice_get items at ≡ None → all_fit m (drop at imports) (drop at items) ≡ false
one_less m imports at items h e = rw (dropped_past items at e) (one_left m imports at h)

one_fits : (m : ModuleTree) (imports : List Import) (d : Import) (at : ℕ) (items : List CoreItem) (item : CoreItem) → at < length imports → slice_get items at ≡ Some item → core_fits m item (get_or imports at d).desc ≡ true
    → all_fit m (drop at imports) (drop at items) ≡ all_fit m (drop (at + 1) imports) (drop (at + 1) items)
one_fits m imports d at items item h e f = rw (drop_more imports at d h, dropped_at items at item e) (ap (λ (b : Bool). b && all_fit m (drop (at + 1) imports) (drop (at + 1) items)) f)

one_fits_not : (m : ModuleTree) (imports : List Import) (d : Import) (at : ℕ) (items : List CoreItem) (item : CoreItem) → at < length imports → slice_get items at ≡ Some item → core_fits m item (get_or imports at d).desc ≡ false
    → all_fit m (drop at imports) (drop at items) ≡ false
one_fits_not m imports d at items item h e f = rw (drop_more imports at d h, dropped_at items at item e) (ap (λ (b : Bool). b && all_fit m (drop (at + 1) imports) (drop (at + 1) items)) f)

-- What is so of a module of this number and of these items, where the items are there.
abbrev pub Known : CoreModules → ℕ → ModuleTree → List CoreItem → Type 0 → Type 0
Known made number m items P = (cores : List CoreMake) (canons : List CanonFunc) → AreModulesOf made cores → slice_get made.modules.items number ≡ Some m → AllByRecursion (IsItem cores canons) items → P

-- What is left of imports and items decides, as a test goes over them.
module _ (made : CoreModules) (number : ℕ) (m : ModuleTree) (imports : List Import) (items : List CoreItem) (at : ℕ) (left : Known made number m items (all_fit m imports items ≡ all_fit m (drop at imports) (drop at items))) where
  pub all_past : length imports ≤ at → Known made number m items (true ≡ all_fit m imports items)
  all_past past = λ cores canons of there all. sym (left cores canons of there all ∙ none_fit m imports at (drop at items) past)

  pub item_less : at < length imports → slice_get items at ≡ None → Known made number m items (false ≡ all_fit m imports items)
  item_less within none = λ cores canons of there all. sym (left cores canons of there all ∙ one_less m imports at items within none)

  module _ (d : Import) (item : CoreItem) (fits : Bool) (within : at < length imports) (here : slice_get items at ≡ Some item) (told : (cores : List CoreMake) (canons : List CanonFunc) → AreModulesOf made cores → slice_get made.modules.items number ≡ Some m → IsItem cores canons item → fits ≡ core_fits m item (get_or imports at d).desc) where
    fits_is : Known made number m items (core_fits m item (get_or imports at d).desc ≡ fits)
    fits_is = λ cores canons of there all. sym (told cores canons of there (holds_at (IsItem cores canons) (slice_get items at) item (all_at (IsItem cores canons) items at all) here))

    pub one_past : fits ≡ true → Known made number m items (all_fit m imports items ≡ all_fit m (drop (at + 1) imports) (drop (at + 1) items))
    one_past e = λ cores canons of there all. left cores canons of there all ∙ one_fits m imports d at items item within here (fits_is cores canons of there all ∙ e)

    pub not_one : fits ≡ false → Known made number m items (false ≡ all_fit m imports items)
    not_one e = λ cores canons of there all. sym (left cores canons of there all ∙ one_fits_not m imports d at items item within here (fits_is cores canons of there all ∙ e))
