use Rattle.std.proofs.Common.{◌∙◌, ap, sym, subst, refl, List, ◌++◌, ◌∷◌, []}
use Rattle.std.specs.BTreeMap.{get}
use Rattle.std.specs.Ordering.{nat_cmp}
use Rattle.waitables.specs.declared.sets.WaitableSet.{WaitableSet}
use Rattle.waitables.specs.Sets.{SetView, no_set}
use Rattle.waitables.specs.History.{Made, StandsFor}
use Rattle.waitables.specs.Placing.{shown}
use Rattle.waitables.proofs.Waiting.{made_agrees}
use Rattle.waitables.proofs.Showing.{made_shown}
use Rattle.waitables.proofs.Standing.{made_stands}
use Rattle.waitables.proofs.sets.Sets.make.Goals as goal

pub invariant_of-self-2 : goal.invariant_of-self-2
invariant_of-self-2 c = made_agrees c.self.inside.sets.items c.push.new.self.items (get nat_cmp c.self.inside.places) c.self.inside.clock (record { by_time = c.new.result; waiters = 0 }) c.in_ok-push.ensures.items c.new.ensures.empty c.self.invariant

pub returns-clause-stands : goal.returns-clause-stands
returns-clause-stands c = λ h s.
    let fresh : WaitableSet = record { by_time = c.new.result; waiters = 0 } in
    subst (λ (v : List SetView). StandsFor (h ++ Made ∷ []) v)
    (sym (ap shown c.in_ok-push.ensures.items ∙ made_shown c.self.inside.sets.items fresh c.new.ensures.empty refl ∙ ap (λ (v : List SetView). v ++ no_set ∷ []) c.self.view_is))
    (made_stands h c.args.self.now s)
