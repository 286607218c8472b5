-- Lifts of core items: what they come to, by their tests.
use Rattle.std.proofs.Common.{◌≡◌, ◌∙◌, ℕ, Bool, true, false, List, ap, Option, Some, None}
use Rattle.std.specs.Prelude.{Result, Ok, Err}
use Rattle.syntax_trees.specs.declared.types.FuncType.{FuncType}
use Rattle.comp_tree.specs.declared.items.CanonOption.{CanonOption}
use Rattle.comp_graph.specs.declared.graph.FuncRef.{FuncRef}
use Rattle.comp_graph.specs.CoreItems.{core_func_of}
use Rattle.link_spec.specs.declared.fault.LinkWhy.{LinkWhy}
use Rattle.link_spec.specs.declared.fault.LinkWhy.TheVariants as why
use Rattle.link_spec.specs.Definitions.{CoreItem, Lifted}
use Rattle.link_spec.specs.Canons.{Given, stand_once, can_be_lifted}
use Rattle.link_spec.specs.Items.{lifted_with}
use Rattle.link_spec.specs.Computed.{after, there_or, only_if, lifted_to}

-- The lift of a core item, by its tests.
abbrev lift_tests : Bool → Bool → Option FuncRef → (FuncRef → Lifted) → Result Lifted LinkWhy
lift_tests once lifts core lifted = only_if once why.Canon (only_if lifts why.Canon (after (there_or why.Canon core) (λ core. Ok (lifted core))))

module _ (n : ℕ) (type : FuncType) (item : CoreItem) (options : List CanonOption) (given : Given) where
  abbrev lifted : FuncRef → Lifted
  lifted core = lifted_with n type core given

  pub not_once : stand_once options ≡ false → lifted_to n type item options given ≡ Err why.Canon
  not_once once = ap (λ (b : Bool). lift_tests b (can_be_lifted type item given) (core_func_of item) lifted) once

  tests_left : stand_once options ≡ true → lifted_to n type item options given ≡ lift_tests true (can_be_lifted type item given) (core_func_of item) lifted
  tests_left once = ap (λ (b : Bool). lift_tests b (can_be_lifted type item given) (core_func_of item) lifted) once

  pub not_lifted : stand_once options ≡ true → can_be_lifted type item given ≡ false → lifted_to n type item options given ≡ Err why.Canon
  not_lifted once lifts = tests_left once ∙ ap (λ (b : Bool). lift_tests true b (core_func_of item) lifted) lifts

  module _ (once : stand_once options ≡ true) (lifts : can_be_lifted type item given ≡ true) where
    core_left : (o : Option FuncRef) → core_func_of item ≡ o → lifted_to n type item options given ≡ lift_tests true true o lifted
    core_left o is =
        tests_left once ∙ ap (λ (b : Bool). lift_tests true b (core_func_of item) lifted) lifts ∙ ap (λ (o : Option FuncRef). lift_tests true true o lifted) is

    pub no_core : core_func_of item ≡ None → lifted_to n type item options given ≡ Err why.Canon
    no_core is = core_left None is

    pub is_lift : (core : FuncRef) → core_func_of item ≡ Some core → lifted_to n type item options given ≡ Ok (lifted core)
    is_lift core is = core_left (Some core) is
