use Rattle.std.proofs.Common.{◌∙◌, ap, sym, subst, ℕ, List, ◌++◌, ◌∷◌, [], length}
use Rattle.std.specs.BTreeMap.{get}
use Rattle.std.specs.Ordering.{nat_cmp}
use Rattle.waitables.specs.Sets.{SetView, joined}
use Rattle.waitables.specs.History.{Joins, StandsFor}
use Rattle.waitables.specs.Placing.{timed}
use Rattle.waitables.proofs.Joining.{on_err, there_if, long_with, joined_agrees, joined_view, undone, same_agrees, within_shown}
use Rattle.waitables.proofs.Showing.{shown_same}
use Rattle.waitables.proofs.Standing.{joined_stands}
use Rattle.waitables.proofs.sets.Sets.join.Goals as goal

pub returns-in_err-put_in-clause-memory : goal.returns-in_err-put_in-clause-memory
returns-in_err-put_in-clause-memory c = on_err c.from_residual.result _ (shown_same c.put_in.new.sets.items c.self.inside.sets.items c.in_err-put_in.ensures.kept c.in_err-put_in.ensures.waiters ∙ c.self.view_is)

pub take_out-requires : goal.take_out-requires
take_out-requires c =
    there_if c.self.inside.sets.items c.put_in.new.sets.items (get nat_cmp c.self.inside.places) c.self.inside.clock c.args.waitable c.in-Ok.before
    (ap (λ (x : List (List (ℕ × ℕ))). length x) c.in_ok-put_in.ensures.times ∙ long_with (record { set = c.args.set; time = c.self.inside.clock }) c.args.waitable (timed c.self.inside.sets.items))
    c.self.invariant (sym c.in-Ok.ensures.old)

pub invariant_of-self-in-Ok : goal.invariant_of-self-in-Ok
invariant_of-self-in-Ok c =
    joined_agrees c.self.inside.sets.items c.take_out.new.sets.items c.put_in.new.sets.items (get nat_cmp c.self.inside.places) (get nat_cmp c.insert.new.self) c.self.inside.clock c.in-Some.next c.args.waitable c.args.set c.in-Ok.before
    c.self.invariant (sym c.in-Ok.ensures.old) c.in-Ok.ensures.updates.0
    (within_shown c.self.inside.sets.items c.args.self.now c.args.set c.self.view_is c.requires)
    c.in_ok-put_in.ensures.times c.take_out.ensures.times c.in-Some.ensures.1

pub invariant_of-self-in-Err : goal.invariant_of-self-in-Err
invariant_of-self-in-Err c =
    same_agrees (timed c.self.inside.sets.items) (timed c.take_out-in-Err.new.sets.items) c.self.inside.places c.insert.new.self c.self.inside.clock c.self.invariant
    (undone c.self.inside.sets.items c.take_out-in-Err.new.sets.items c.put_in.new.sets.items (get nat_cmp c.self.inside.places) c.self.inside.clock c.args.waitable c.args.set c.self.invariant
    (within_shown c.self.inside.sets.items c.args.self.now c.args.set c.self.view_is c.requires) c.in_ok-put_in.ensures.times c.take_out-in-Err.ensures.times)
    c.in-Err.ensures.err

pub returns-in-Ok-clause-exact : goal.returns-in-Ok-clause-exact
returns-in-Ok-clause-exact c =
    joined_view c.self.inside.sets.items c.take_out.new.sets.items c.put_in.new.sets.items (get nat_cmp c.self.inside.places) (get nat_cmp c.insert.new.self) c.self.inside.clock c.args.waitable c.args.set c.in-Ok.before
    c.self.invariant (sym c.in-Ok.ensures.old) c.in-Ok.ensures.updates.0
    (within_shown c.self.inside.sets.items c.args.self.now c.args.set c.self.view_is c.requires)
    c.in_ok-put_in.ensures.times c.take_out.ensures.times (c.take_out.ensures.waiters ∙ c.in_ok-put_in.ensures.waiters)
    ∙ ap (joined c.args.waitable c.args.set) c.self.view_is

pub returns-in-Ok-clause-stands : goal.returns-in-Ok-clause-stands
returns-in-Ok-clause-stands c = λ h s.
    subst (λ (v : List SetView). StandsFor (h ++ Joins c.args.waitable c.args.set ∷ []) v)
    (sym (joined_view c.self.inside.sets.items c.take_out.new.sets.items c.put_in.new.sets.items (get nat_cmp c.self.inside.places) (get nat_cmp c.insert.new.self) c.self.inside.clock c.args.waitable c.args.set c.in-Ok.before
    c.self.invariant (sym c.in-Ok.ensures.old) c.in-Ok.ensures.updates.0
    (within_shown c.self.inside.sets.items c.args.self.now c.args.set c.self.view_is c.requires)
    c.in_ok-put_in.ensures.times c.take_out.ensures.times (c.take_out.ensures.waiters ∙ c.in_ok-put_in.ensures.waiters)
    ∙ ap (joined c.args.waitable c.args.set) c.self.view_is))
    (joined_stands c.args.waitable c.args.set h c.args.self.now c.requires s)

pub returns-in-Err-clause-memory : goal.returns-in-Err-clause-memory
returns-in-Err-clause-memory c =
    shown_same c.take_out-in-Err.new.sets.items c.self.inside.sets.items
    (undone c.self.inside.sets.items c.take_out-in-Err.new.sets.items c.put_in.new.sets.items (get nat_cmp c.self.inside.places) c.self.inside.clock c.args.waitable c.args.set c.self.invariant
    (within_shown c.self.inside.sets.items c.args.self.now c.args.set c.self.view_is c.requires) c.in_ok-put_in.ensures.times c.take_out-in-Err.ensures.times)
    (c.take_out-in-Err.ensures.waiters ∙ c.in_ok-put_in.ensures.waiters)
    ∙ c.self.view_is
