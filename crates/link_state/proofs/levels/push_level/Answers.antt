use Rattle.std.proofs.Common.{◌++◌, ◌∷◌, [], List, refl, sym, subst, Bor}
use Rattle.std.specs.List.{slice_get}
use Rattle.link_spec.specs.Spaces.{Spaces, levels_at}
use Rattle.link_meanings.specs.declared.levels.Level.{Level}
use Rattle.link_meanings.specs.Levels.{AreLevels}
use Rattle.link_state.specs.declared.scope.Scope.{Scope}
use Rattle.link_state.specs.State.{IsKept}
use Rattle.link_state.proofs.LevelsSeen.{level_none, level_more}
use Rattle.link_state.proofs.Steps.{none_found, some_found}
use Rattle.link_state.proofs.Zips.{found_lent}
use Rattle.link_state.proofs.levels.push_level.Goals as goal

pub returns-in_default : goal.returns-in_default
returns-in_default c = λ t w l numbers zips are.
    let R = (λ (scope : Bor Scope) (s : Spaces). IsKept t w scope.now s) in
    let none = none_found R c.item_numbered.result (slice_get l.scopes c.args.number) c.in_default.is (found_lent (IsKept t w) c.args.scopes.now c.args.scopes.now l.scopes c.args.number c.item_numbered.result zips c.item_numbered.ensures refl) in
    level_none t w l c.args.levels.now.items numbers c.args.number are none

pub returns : goal.returns
returns c = λ t w l numbers zips are.
    let R = (λ (scope : Bor Scope) (s : Spaces). IsKept t w scope.now s) in
    let one = some_found R c.item_numbered.result c.in-Some.scope (slice_get l.scopes c.args.number) c.in-Some.is (found_lent (IsKept t w) c.args.scopes.now c.args.scopes.now l.scopes c.args.number c.item_numbered.result zips c.item_numbered.ensures refl) in
    let more = level_more t w l c.args.levels.now.items numbers c.args.number are c.in-Some.scope.now one.0 c.level_of.result one.1 one.2 c.level_of.ensures.types c.level_of.ensures.components in
    subst (λ (ls : List Level). AreLevels t w.components ls (levels_at l (numbers ++ c.args.number ∷ []))) (sym c.in_ok-push.ensures.items) more
