-- Lowers of functions: what they come to, by their tests.
use Rattle.std.proofs.Common.{◌≡◌, ◌∙◌, Bool, true, false, List, ap}
use Rattle.std.specs.Prelude.{Result, Ok, Err}
use Rattle.syntax_trees.specs.declared.types.FuncType.{FuncType}
use Rattle.comp_tree.specs.declared.items.CanonOption.{CanonOption}
use Rattle.link_spec.specs.declared.fault.LinkWhy.{LinkWhy}
use Rattle.link_spec.specs.declared.fault.LinkWhy.TheVariants as why
use Rattle.link_spec.specs.Canons.{Given, stand_once, can_be_lowered}
use Rattle.link_spec.specs.Computed.{only_if, lowered_from}

-- That a function can be lowered, by its tests.
abbrev lower_tests : Bool → Bool → Given → Result Given LinkWhy
lower_tests once lowers given = only_if once why.Canon (only_if lowers why.Canon (Ok given))

module _ (type : FuncType) (options : List CanonOption) (given : Given) where
  pub not_once : stand_once options ≡ false → lowered_from type options given ≡ Err why.Canon
  not_once once = ap (λ (b : Bool). lower_tests b (can_be_lowered type given) given) once

  tests_left : stand_once options ≡ true → lowered_from type options given ≡ lower_tests true (can_be_lowered type given) given
  tests_left once = ap (λ (b : Bool). lower_tests b (can_be_lowered type given) given) once

  pub not_lowered : stand_once options ≡ true → can_be_lowered type given ≡ false → lowered_from type options given ≡ Err why.Canon
  not_lowered once lowers = tests_left once ∙ ap (λ (b : Bool). lower_tests true b given) lowers

  pub is_lower : stand_once options ≡ true → can_be_lowered type given ≡ true → lowered_from type options given ≡ Ok given
  is_lower once lowers = tests_left once ∙ ap (λ (b : Bool). lower_tests true b given) lowers
