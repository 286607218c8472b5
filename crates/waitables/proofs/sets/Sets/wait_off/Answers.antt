use Rattle.std.proofs.Common.{◌≡◌, ◌-◌, ap, sym, subst, refl, ℕ, List, ◌++◌, ◌∷◌, [], set, get_or, length, ◌<◌}
use Rattle.std.specs.BTreeMap.{get}
use Rattle.std.specs.Ordering.{nat_cmp}
use Rattle.waitables.specs.declared.sets.WaitableSet.{WaitableSet}
use Rattle.waitables.specs.Sets.{SetView, set_at, waited_off}
use Rattle.waitables.specs.History.{Goes, StandsFor}
use Rattle.waitables.specs.Placing.{shown}
use Rattle.waitables.proofs.Waiting.{counted_view, waiters_are, kept_agrees}
use Rattle.waitables.proofs.Standing.{waited_off_stands}
use Rattle.waitables.proofs.sets.Sets.wait_off.Goals as goal

-- the set as it is left
abbrev waited : WaitableSet → WaitableSet
waited s = record { by_time = s.by_time; waiters = s.waiters - 1 }

view : (sets : List WaitableSet) (views : List SetView) (k : ℕ) (s : WaitableSet) → shown sets ≡ views → k < length views → s ≡ get_or sets k s → shown (set sets k (waited s)) ≡ waited_off k views
view sets views k s e h at = counted_view sets views k ((set_at views k).waiters - 1) s (waited s) e h at refl (ap (λ (n : ℕ). n - 1) (waiters_are sets views k s e h at))

pub invariant_of-self : goal.invariant_of-self
invariant_of-self c = kept_agrees c.self.inside.sets.items (get nat_cmp c.self.inside.places) c.self.inside.clock c.args.set c.index_mut.result.now (waited c.index_mut.result.now) c.index_mut.ensures.value refl c.self.invariant

pub returns-clause-exact : goal.returns-clause-exact
returns-clause-exact c = view c.self.inside.sets.items c.args.self.now c.args.set c.index_mut.result.now c.self.view_is c.requires.there c.index_mut.ensures.value

pub returns-clause-stands : goal.returns-clause-stands
returns-clause-stands c = λ h s.
    subst (λ (v : List SetView). StandsFor (h ++ Goes c.args.set ∷ []) v)
    (sym (view c.self.inside.sets.items c.args.self.now c.args.set c.index_mut.result.now c.self.view_is c.requires.there c.index_mut.ensures.value))
    (waited_off_stands c.args.set h c.args.self.now c.requires.there c.requires.some s)
