-- What is lowered is as the call left it.
use Rattle.std.proofs.Common.{rules, ◌≡◌, ◌<◌, ℕ, true, List, length, refl, subst, Some}
use Rattle.std.proofs.lemmas.Option.{slice_get_read}
use Rattle.std.specs.List.{slice_get}
use Rattle.task_table.specs.declared.slot.TaskSlot.{TaskSlot}
use Rattle.syntax_trees.specs.Fits.{fits}
use Rattle.copy_engine.specs.Hosted.{plan_to}
use Rattle.programs.specs.Program.{resources_of}
use Rattle.world_parts.specs.Held.{held}
use Rattle.value_parts.proofs.Settling.{read_at}
use Rattle.value_moves.proofs.Lowers.{lowered_so}
use Rattle.value_moves.proofs.lowering.lower_into.Goals as goal

pub returns-in-Ok : goal.returns-in-Ok
returns-in-Ok c =
    let within : c.args.to.instance < length c.args.parts.now.instances.items = search rules in
    let lookup = c.in-Some.ensures.lookup in
    let slot : slice_get c.args.parts.now.tasks.slots.items c.args.to.task ≡ Some c.in-Some.slot.now =
    subst (λ (slots : List TaskSlot). slice_get slots c.args.to.task ≡ Some c.in-Some.slot.now) c.deref.ensures.value
    (slice_get_read c.deref.result.now _ c.args.to.task c.in-Some.slot.now refl lookup.3.0 lookup.1) in
    let home : resources_of c.args.program.now c.args.to.instance ≡ Some c.in-Some-resources_of.resources.now = search rules in
    let fit : fits c.args.value.now c.args.t.now.val_type ≡ true = search rules in
    lowered_so c.args.program.now c.args.to c.args.t.now (λ (resources : List ℕ). plan_to c.args.target c.args.t.now.val_type c.args.value.now resources) (fits c.args.value.now c.args.t.now.val_type) (held c.args.parts.now)
    c.index_mut.result.now c.lower_over-came.new.instance c.in-Some.slot.now c.in-Some-resources_of.resources.now c.canons.result.now c.new.result c.in-Ok.came
    (record { store = c.lower_over-came.new.store; fuel = c.lower_over-came.new.fuel; acts = c.lower_over-came.new.acts }) c.finish.result c.finish.new.parts
    (read_at c.args.parts.now.instances.items c.args.to.instance c.index_mut.result.now within c.index_mut.ensures.value) slot home fit c.new.ensures c.canons.ensures c.in-Ok.ensures.exact
    c.in-Ok.ensures.rest c.finish.ensures
