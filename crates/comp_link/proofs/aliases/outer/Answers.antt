use Rattle.std.proofs.Common.{◌≡◌, ◌∷◌, ℕ, List, Option, Some, None, refl, sym, subst, ◌∙◌, Bor}
use Rattle.std.specs.List.{slice_get}
use Rattle.link_spec.specs.Spaces.{Spaces}
use Rattle.link_state.specs.declared.scope.Scope.{Scope}
use Rattle.link_state.specs.State.{world_of, IsKept}
use Rattle.link_state.proofs.Steps.{none_found, some_found}
use Rattle.comp_link.proofs.aliases.outer.Goals as goal

-- what stands so many levels out, in the component instances around as they are
level_is : (n up : ℕ) (slice shared around : List ℕ) (result : Option ℕ) → slice ≡ shared → around ≡ shared → result ≡ slice_get (n ∷ slice) up → slice_get (n ∷ around) up ≡ result
level_is n up slice shared around result is same found = subst (λ (a : List ℕ). slice_get (n ∷ a) up ≡ result) (is ∙ sym same) (sym found)

pub returns-in_err-level : goal.returns-in_err-level
returns-in_err-level c = λ bases l s at.
    let level = level_is c.args.n c.args.up c.as_slice-around.result.now c.scope.result.now.around s.around c.level.result (c.as_slice-around.ensures ∙ c.get.ensures) (c.scope.ensures bases l s at).around c.level.ensures in
    let none : slice_get (c.args.n ∷ s.around) c.args.up ≡ None = level ∙ c.in_err-level.was in
    rw (c.from_residual.ensures, none) refl

pub returns-in_err-scope : goal.returns-in_err-scope
returns-in_err-scope c = λ bases l s at.
    let k = c.args.linker.now in
    let level = level_is c.args.n c.args.up c.as_slice-around.result.now c.scope.result.now.around s.around c.level.result (c.as_slice-around.ensures ∙ c.get.ensures) (c.scope.ensures bases l s at).around c.level.ensures in
    let there : slice_get (c.args.n ∷ s.around) c.args.up ≡ Some c.in_ok-level.level = level ∙ c.in_ok-level.was in
    let none = none_found (λ (scope : Bor Scope) (x : Spaces). IsKept k.types (world_of bases k) scope.now x) c.scope_at.result (slice_get l.scopes c.in_ok-level.level) c.in_err-scope.was (c.scope_at.ensures bases l at.state) in
    rw (c.from_residual-in_err-scope.ensures, there, none) refl

pub returns : goal.returns
returns c = λ bases l s at.
    let k = c.args.linker.now in
    let level = level_is c.args.n c.args.up c.as_slice-around.result.now c.scope.result.now.around s.around c.level.result (c.as_slice-around.ensures ∙ c.get.ensures) (c.scope.ensures bases l s at).around c.level.ensures in
    let there : slice_get (c.args.n ∷ s.around) c.args.up ≡ Some c.in_ok-level.level = level ∙ c.in_ok-level.was in
    let one = some_found (λ (scope : Bor Scope) (x : Spaces). IsKept k.types (world_of bases k) scope.now x) c.scope_at.result c.in_ok-scope.scope (slice_get l.scopes c.in_ok-level.level) c.in_ok-scope.was (c.scope_at.ensures bases l at.state) in
    rw (there, one.1) (c.outer_definition.ensures k.types (world_of bases k) one.0 one.2)
