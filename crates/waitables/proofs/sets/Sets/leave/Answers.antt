use Rattle.std.proofs.Common.{refl, ◌∙◌, ap, sym, subst, List, ◌++◌, ◌∷◌, []}
use Rattle.std.specs.BTreeMap.{get}
use Rattle.std.specs.Ordering.{nat_cmp}
use Rattle.waitables.specs.Sets.{SetView, left}
use Rattle.waitables.specs.History.{Leaves, StandsFor}
use Rattle.waitables.proofs.Joining.{there_if, left_agrees, left_view}
use Rattle.waitables.proofs.Standing.{left_stands}
use Rattle.waitables.proofs.sets.Sets.leave.Goals as goal

pub take_out-requires : goal.take_out-requires
take_out-requires c = there_if c.self.inside.sets.items c.self.inside.sets.items (get nat_cmp c.self.inside.places) c.self.inside.clock c.args.waitable c.remove-place.result refl c.self.invariant (sym c.remove-place.ensures.value)

pub invariant_of-self : goal.invariant_of-self
invariant_of-self c = left_agrees c.self.inside.sets.items c.take_out.new.sets.items (get nat_cmp c.self.inside.places) (get nat_cmp c.remove-place.new.self) c.self.inside.clock c.args.waitable c.remove-place.result c.self.invariant (sym c.remove-place.ensures.value) c.remove-place.ensures.updates.0 c.take_out.ensures.times

pub returns-clause-exact : goal.returns-clause-exact
returns-clause-exact c = left_view c.self.inside.sets.items c.take_out.new.sets.items (get nat_cmp c.self.inside.places) (get nat_cmp c.remove-place.new.self) c.self.inside.clock c.args.waitable c.remove-place.result c.self.invariant (sym c.remove-place.ensures.value) c.remove-place.ensures.updates.0 c.take_out.ensures.times c.take_out.ensures.waiters ∙ ap (left c.args.waitable) c.self.view_is

pub returns-clause-stands : goal.returns-clause-stands
returns-clause-stands c = λ h s. subst (λ (v : List SetView). StandsFor (h ++ Leaves c.args.waitable ∷ []) v) (sym (left_view c.self.inside.sets.items c.take_out.new.sets.items (get nat_cmp c.self.inside.places) (get nat_cmp c.remove-place.new.self) c.self.inside.clock c.args.waitable c.remove-place.result c.self.invariant (sym c.remove-place.ensures.value) c.remove-place.ensures.updates.0 c.take_out.ensures.times c.take_out.ensures.waiters ∙ ap (left c.args.waitable) c.self.view_is)) (left_stands c.args.waitable h c.args.self.now s)
