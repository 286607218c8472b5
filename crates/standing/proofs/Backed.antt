-- Control is back at the acting task, which called another one or cancelled a subtask.
use Rattle.std.proofs.Common.{◌≡◌, ℕ, ◌+◌, ◌*◌, Bool, true, false, nat_lt, if◌then◌else◌, List, [], ◌∷◌, refl, sym, ap, ◌∙◌, Some}
use Rattle.std.specs.List.{slice_get}
use Rattle.syntax_trees.specs.declared.types.ValType.{ValType}
use Rattle.wasm_store.specs.Stack.{Stack}
use Rattle.handle_table.specs.History.{Event, live_count, next_index, most_live}
use Rattle.handle_table.specs.Slots.{count, next_of}
use Rattle.tasks.specs.declared.event.BlockedAt.TheVariants as blocked_at
use Rattle.tasks.specs.declared.phase.Phase.TheVariants as phase
use Rattle.tasks.specs.Tasks.{is_acting, state_of}
use Rattle.tasks.specs.Subtasks.{is_over}
use Rattle.comp_graph.specs.Graph.{Graph, Lifted}
use Rattle.script_reader.specs.Script.{Script}
use Rattle.trace_labels.specs.declared.label.BlockReason.TheVariants as reason
use Rattle.trace_labels.specs.declared.trap.TrapName.TheVariants as trap
use Rattle.instances.specs.declared.entry.WorldEntry.TheVariants as entry
use Rattle.instances.specs.Instances as instance
use Rattle.instances.specs.Instances.{InstanceView}
use Rattle.task_table.specs.declared.caller.Called.{Called}
use Rattle.task_table.specs.declared.errand.Errand.TheVariants as errand
use Rattle.task_table.specs.declared.slot.TaskSlot.{TaskSlot}
use Rattle.task_table.specs.Slots.{at_errand, awaited_slot, told_slot}
use Rattle.world_parts.specs.Views.{Views}
use Rattle.world_parts.specs.Held.{Held, Gives, Traps, after}
use Rattle.world_parts.specs.Entries.{with_instance, entry_added}
use Rattle.world_parts.specs.Feed.{got}
use Rattle.world_parts.specs.Slots.{with_task, state_told}
use Rattle.world_parts.specs.Calls.{subtask_told, call_resolved, call_open, back_from_call, cancel_resolved, cancel_open, back_from_cancel, back_by, back, blocked_in}
use Rattle.abi_machine.specs.World.{Entry, OfSubtask, Inst, ForCall, ForCancel, TaskState, Acting, AfterCall, AfterCancel, InBuiltin, Task, World}
use Rattle.abi_machine.specs.Edits as world
use Rattle.abi_machine.specs.Edits.{in_state}
use Rattle.abi_machine.specs.Canons.{options_at, flag_at}
use Rattle.abi_machine.specs.Counting.{subtask_state, has_resolved}
use Rattle.abi_machine.specs.Reading.{table_in}
use Rattle.abi_machine.specs.Turn.{Turn, doomed, with_entry, replied}
use Rattle.abi_machine.specs.Calling as machine
use Rattle.abi_machine.specs.Calling.{replied_behind, call_answer, call_state}
use Rattle.abi_machine.specs.Cancelling as cancels
use Rattle.abi_machine.specs.Cancelling.{first_of, back_to, back_turn}
use Rattle.abi_machine.specs.Delivering.{told_payload}
use Rattle.standing.specs.Instances.{InstStands}
use Rattle.standing.specs.Tasks.{errand_of, TaskStands}
use Rattle.standing.specs.Stands.{Stands}
use Rattle.standing.specs.Agreeing.{Agrees}
use Rattle.standing.specs.Moves.{Acts, CallKept, BackFromCall, BackFromCancel}
use Rattle.standing.proofs.Tables.{next_is_alike, room_is_alike, entries_are_added}
use Rattle.standing.proofs.Changes.{instances_change, refusals_change_nothing, tasks_change}
use Rattle.standing.proofs.Agreeing.{on_got, on_trap, get_set}
use Rattle.standing.proofs.Blocking.{on_test, on_blocked}
use Rattle.standing.proofs.Steps.{via, trapped, found, if_true, if_false, both_as, func_acts, IsKept, is_kept, instance_is, errand_is, resolved_is, errand_put, other_get, other_changed}
use Rattle.standing.proofs.Telling.{state_alike, told_so, state_told_so}
use Rattle.standing.proofs.Resuming.{far_is}
use Rattle.standing.proofs.Backing.{IsCallee, is_callee, subtask_is, call_still, tasks_stay, awaited_stands, awaited_is, on_told_words, on_told_payload, result_is}

-- By what the task is at, on both sides.
back_is : (g : Graph) (values : List ValType) (s : Script) (v : Views) (h : Held) (w : World) (t : ℕ) (task : Task) (f : Lifted) (k : IsKept g values s h w t task f) (state : TaskState)
    → task.state ≡ state → back v h ≡ back_by v t f.instance (errand_of state) h
unfolding back
back_is g values s v h w t task f k state is =
    via _ _ _ _ k.acts ∙ via _ _ _ _ (instance_is t f.instance h k.slot k.is k.at) ∙ via _ _ _ _ (errand_is t h k.slot (errand_of state) k.is (k.alike.at ∙ ap errand_of is))

back_to_is : (g : Graph) (w : World) (t : ℕ) (task : Task) (f : Lifted) (state : TaskState) → Acts w t task f → task.state ≡ state → back_turn g w ≡ back_to g t f.instance state w
unfolding back_turn
back_to_is g w t task f state acts is =
    func_acts w t task f (λ t task f. back_to g t f.instance task.state w) acts ∙ ap (λ (state : TaskState). back_to g t f.instance state w) is

-- It acts, and is at nothing.
rests_stand : (g : Graph) (s : Script) (x : TaskSlot) (a : Task) → x.task.phase ≡ phase.Acting → TaskStands g s x a
    → TaskStands g s (at_errand errand.None x) (record a { state = Acting })
rests_stand g s x a acts st = record {
  does = st.does;
  place = st.place;
  lifted = st.lifted;
  called = st.called;
  seen = st.seen;
  far = acts;
  at = refl;
  resolved = st.resolved;
  cancelled = st.cancelled;
  words = st.words;
  placed = tt;
}

abbrev at_none : ℕ → TaskSlot → Held → Held
at_none t x h = with_task t (at_errand errand.None x) h

none_stands : (g : Graph) (values : List ValType) (s : Script) (h : Held) (stacks : List (List Stack)) (w : World) (t : ℕ) (x : TaskSlot) → slice_get h.tasks t ≡ Some x
    → x.task.phase ≡ phase.Acting → Stands g values s h stacks w → Stands g values s (at_none t x h) stacks (in_state t Acting w)
none_stands g values s h stacks w t x is acts st =
    tasks_change g values s h stacks w t x (at_errand errand.None x) (λ task. record task { state = Acting }) is (λ a there now. rests_stand g s x a acts now) (λ a. refl) st

none_still : (h : Held) (t at callee : ℕ) (x slot : TaskSlot) (called : Called) → (callee ≡ t → ⊥) → CallKept h at callee slot called → CallKept (at_none t x h) at callee slot called
none_still h t at callee x slot called apart call =
    call_still h (at_none t x h) at callee slot called (other_get h.tasks t callee (at_errand errand.None x) apart) refl call

-- A call that does not wait, and one that does: of a task that has resolved,
on_resolved : (g : Graph) (values : List ValType) (s : Script) (v : Views) (h : Held) (stacks : List (List Stack)) (w : World) (t at callee number : ℕ) (slot : TaskSlot) (called : Called)
    (one : IsCallee g s w callee slot called) (i : InstanceView) (b : Bool)
    → v.is_async number ≡ b → CallKept h at callee slot called → slice_get h.instances at ≡ Some i → Stands g values s h stacks w
    → Agrees g values s t h.labels stacks (call_resolved v t at callee number h) (machine.call_resolved t b one.subtask (machine.subtask_told at callee one.task one.subtask w))
unfolding call_resolved machine.call_resolved
on_resolved g values s v h stacks w t at callee number slot called one i true is call here st =
    both_as g values s t h.labels stacks _ _ _ _
    (via _ _ _ _ (result_is h at callee slot called call)
    ∙ ap (λ (b : Bool). after (subtask_told at callee h) (λ payload l. if b then got t (2 ∷ []) l else got t called.result l)) is) refl
    (on_told_words g values s t h.labels stacks h (subtask_told at callee h) (machine.subtask_told at callee one.task one.subtask w) (2 ∷ [])
    (told_so g values s stacks h w at callee slot called one.task one.subtask i call one.there one.guest one.alike one.sub here st) refl)
on_resolved g values s v h stacks w t at callee number slot called one i false is call here st =
    both_as g values s t h.labels stacks _ _ _ _
    (via _ _ _ _ (result_is h at callee slot called call)
    ∙ ap (λ (b : Bool). after (subtask_told at callee h) (λ payload l. if b then got t (2 ∷ []) l else got t called.result l)) is
    ∙ ap (λ (words : List ℕ). after (subtask_told at callee h) (λ payload l. got t words l)) one.sub.kept) refl
    (on_told_words g values s t h.labels stacks h (subtask_told at callee h) (machine.subtask_told at callee one.task one.subtask w) one.subtask.result
    (told_so g values s stacks h w at callee slot called one.task one.subtask i call one.there one.guest one.alike one.sub here st) refl)

-- and of one that has not: the subtask gets an index,
entry_turn : (values : List ValType) (w : World) (t at : ℕ) (a : Entry) (K : ℕ → World → Turn) (x : InstanceView) (y : Inst) → slice_get w.insts at ≡ Some y → InstStands values x y
    → with_entry t at a w K ≡ (if nat_lt (count x.slots) most_live then K (next_of x.slots) (world.entry_added at a w) else doomed t trap.TableFull w)
entry_turn values w t at a K x y is alike =
    ap (λ (table : List (Event Entry)). if nat_lt (live_count table) most_live then K (next_index table) (world.entry_added at a w) else doomed t trap.TableFull w) (ap table_in is)
    ∙ ap (λ (b : Bool). if b then K (next_index y.table) (world.entry_added at a w) else doomed t trap.TableFull w) (sym (room_is_alike values x y alike))
    ∙ ap (λ (n : ℕ). if nat_lt (count x.slots) most_live then K n (world.entry_added at a w) else doomed t trap.TableFull w) (sym (next_is_alike values x y alike))

on_index : (g : Graph) (values : List ValType) (s : Script) (h : Held) (stacks : List (List Stack)) (w : World) (t at callee : ℕ) (slot : TaskSlot) (called : Called)
    (one : IsCallee g s w callee slot called) (i : InstanceView) (y : Inst) (b : Bool)
    → nat_lt (count i.slots) most_live ≡ b → CallKept h at callee slot called → slice_get h.instances at ≡ Some i → slice_get w.insts at ≡ Some y → InstStands values i y
    → Stands g values s h stacks w
    → Agrees g values s t h.labels stacks
    (after (entry_added at (entry.Subtask callee) h) (λ index k. after (state_told callee k) (λ state l. got t ((state + 16 * index) ∷ []) l)))
    (if b then replied t (call_state one.task (next_of i.slots) ∷ []) (world.told callee (subtask_state one.task) (world.entry_added at (OfSubtask callee) w)) else doomed t trap.TableFull w)
on_index g values s h stacks w t at callee slot called one i y true room call here there alike st =
    let more : InstanceView = instance.entry_added (entry.Subtask callee) i in
    let k : Held = with_instance at more h in
    let k_st : Stands g values s k stacks (world.entry_added at (OfSubtask callee) w) =
    instances_change g values s h stacks w at i more (λ inst. record inst { table = world.added (OfSubtask callee) inst.table }) here
    (λ a a_is now. entries_are_added values i a (entry.Subtask callee) (OfSubtask callee) room refl now) st in
    let so : _ = state_told_so g values s stacks h k (world.entry_added at (OfSubtask callee) w) at callee slot called one.task one.subtask call one.there one.guest one.alike refl k_st in
    both_as g values s t h.labels stacks _ _ _ _
    (via _ _ _ (λ index k. after (state_told callee k) (λ state l. got t ((state + 16 * index) ∷ []) l))
    (found (slice_get h.instances at) i (λ i. if nat_lt (count i.slots) most_live then Gives (next_of i.slots) (with_instance at (instance.entry_added (entry.Subtask callee) i) h)
    else Traps trap.TableFull (with_instance at i h)) here ∙ if_true _ _ _ room)
    ∙ via _ _ _ (λ state l. got t ((state + 16 * next_of i.slots) ∷ []) l) so.0) refl
    (on_got g values s t h.labels stacks (with_task callee (told_slot slot) k) (world.told callee (subtask_state one.task) (world.entry_added at (OfSubtask callee) w))
    (call_state one.task (next_of i.slots) ∷ []) refl so.1)
on_index g values s h stacks w t at callee slot called one i y false room call here there alike st =
    both_as g values s t h.labels stacks _ _ _ _
    (trapped _ trap.TableFull (with_instance at i h) (λ index k. after (state_told callee k) (λ state l. got t ((state + 16 * index) ∷ []) l))
    (found (slice_get h.instances at) i (λ i. if nat_lt (count i.slots) most_live then Gives (next_of i.slots) (with_instance at (instance.entry_added (entry.Subtask callee) i) h)
    else Traps trap.TableFull (with_instance at i h)) here ∙ if_false _ _ _ room)) refl
    (on_trap g values s t h.labels stacks (with_instance at i h) w trap.TableFull refl (refusals_change_nothing g values s h stacks w at i here st))

-- or the call blocks.
on_open : (g : Graph) (values : List ValType) (s : Script) (v : Views) (h : Held) (stacks : List (List Stack)) (w : World) (t at callee number : ℕ) (words : List ℕ) (x slot : TaskSlot) (called : Called)
    (one : IsCallee g s w callee slot called) (i : InstanceView) (y : Inst) (b : Bool)
    → v.is_async number ≡ b → v.flag number ≡ flag_at g number → slice_get h.tasks t ≡ Some x → x.task.phase ≡ phase.Acting → slice_get w.chain 0 ≡ Some t
    → CallKept h at callee slot called → slice_get h.instances at ≡ Some i → slice_get w.insts at ≡ Some y → InstStands values i y → Stands g values s h stacks w
    → Agrees g values s t h.labels stacks (call_open v t at callee number h) (machine.call_open t at callee one.task b number words w)
unfolding call_open machine.call_open blocked_in
on_open g values s v h stacks w t at callee number words x slot called one i y true is flags is_slot acts first call here there alike st =
    both_as g values s t h.labels stacks _ _ _ _ (if_true _ _ _ is)
    (entry_turn values w t at (OfSubtask callee) (λ index v. replied t (call_state one.task index ∷ []) (world.told callee (subtask_state one.task) v)) i y there alike)
    (on_index g values s h stacks w t at callee slot called one i y (nat_lt (count i.slots) most_live) refl call here there alike st)
on_open g values s v h stacks w t at callee number words x slot called one i y false is flags is_slot acts first call here there alike st =
    both_as g values s t h.labels stacks _ _ _ _ (if_false _ _ _ is) refl
    (on_blocked g values s h stacks w t x (blocked_at.Call callee) (v.flag number) (reason.Call callee) (InBuiltin number words (ForCall callee)) (errand.InBuiltin number) is_slot refl
    (ap is_acting acts) (ap (phase.Blocked (blocked_at.Call callee)) (sym flags)) refl tt first st)

pub back_from_a_call : BackFromCall
unfolding back_to back_from_call machine.back_from_call
back_from_a_call g values s v h stacks w t task f number callee words slot called flags asyncs acts is apart call st =
    let k : IsKept g values s h w t task f = is_kept g values s h stacks w t task f acts st in
    let x : TaskSlot = at_errand errand.None k.slot in
    let free : Held = at_none t k.slot h in
    let later : World = in_state t Acting w in
    let far : k.slot.task.phase ≡ phase.Acting = far_is g values s h w t task f k (AfterCall callee number words) is in
    let free_st : Stands g values s free stacks later = none_stands g values s h stacks w t k.slot k.is far st in
    let still : CallKept free f.instance callee slot called = none_still h t f.instance callee k.slot slot called apart call in
    let one : IsCallee g s later callee slot called = is_callee g values s free stacks later f.instance callee slot called still free_st in
    both_as g values s t h.labels stacks _ _ _ _
    (back_is g values s v h w t task f k (AfterCall callee number words) is ∙ via _ _ _ _ (errand_put t errand.None h k.slot k.is) ∙ via _ _ _ _ (resolved_is callee free slot still.there))
    (back_to_is g w t task f (AfterCall callee number words) acts is
    ∙ subtask_is w callee one.task one.subtask (λ task subtask. if has_resolved task then machine.call_resolved t (options_at g number).is_async subtask (machine.subtask_told f.instance callee task subtask later)
    else machine.call_open t f.instance callee task (options_at g number).is_async number words later)
    (sym (other_changed w.tasks t callee (λ (task : Task). record task { state = Acting }) apart) ∙ one.there) one.guest)
    (on_test g values s t h.labels stacks (is_over (state_of slot.task)) (has_resolved one.task) _ _ _ _ (ap is_over (state_alike g s slot one.task one.alike))
    (λ over. on_resolved g values s v free stacks later t f.instance callee number slot called one k.inst (options_at g number).is_async asyncs still k.here free_st)
    (λ unresolved. on_open g values s v free stacks later t f.instance callee number words x slot called one k.inst k.machine_inst (options_at g number).is_async asyncs flags
    (get_set h.tasks t k.slot x k.is) far acts.first still k.here k.machine_here k.insts free_st))

-- A cancelled subtask that has not resolved.
on_cancel_open : (g : Graph) (values : List ValType) (s : Script) (v : Views) (h : Held) (stacks : List (List Stack)) (w : World) (t at callee number : ℕ) (words : List ℕ) (x slot : TaskSlot) (called : Called) (b : Bool)
    → v.flag number ≡ b → flag_at g number ≡ b → slice_get h.tasks t ≡ Some x → x.task.phase ≡ phase.Acting → slice_get w.chain 0 ≡ Some t → (t ≡ callee → ⊥)
    → CallKept h at callee slot called → Stands g values s h stacks w
    → Agrees g values s t h.labels stacks (cancel_open v t callee number (first_of words) h) (cancels.cancel_open g t number words w)
unfolding cancel_open cancels.cancel_open blocked_in
on_cancel_open g values s v h stacks w t at callee number words x slot called true is flags is_slot acts first apart call st =
    both_as g values s t h.labels stacks _ _ _ _ (if_true _ _ _ is) (if_true _ _ _ flags) (on_got g values s t h.labels stacks h w (4294967295 ∷ []) refl st)
on_cancel_open g values s v h stacks w t at callee number words x slot called false is flags is_slot acts first apart call st =
    let waits : Held = with_task callee (awaited_slot true slot) h in
    both_as g values s t h.labels stacks _ _ _ _ (if_false _ _ _ is ∙ via _ _ _ _ (awaited_is true h at callee slot called call)) (if_false _ _ _ flags)
    (on_blocked g values s waits stacks w t x (blocked_at.Cancel (first_of words)) (v.flag number) (reason.Cancel (first_of words)) (InBuiltin number words (ForCancel (first_of words)))
    (errand.InBuiltin number) (other_get h.tasks callee t (awaited_slot true slot) apart ∙ is_slot) refl (ap is_acting acts)
    (ap (phase.Blocked (blocked_at.Cancel (first_of words))) (flags ∙ sym is)) refl tt first
    (tasks_stay g values s h stacks w callee slot (awaited_slot true slot) call.there (λ a now. awaited_stands g s true slot a now) st))

pub back_from_a_cancel : BackFromCancel
unfolding back_to back_from_cancel cancels.back_from_cancel cancel_resolved told_payload
back_from_a_cancel g values s v h stacks w t task f number callee words slot called flags acts is apart call st =
    let k : IsKept g values s h w t task f = is_kept g values s h stacks w t task f acts st in
    let x : TaskSlot = at_errand errand.None k.slot in
    let free : Held = at_none t k.slot h in
    let later : World = in_state t Acting w in
    let far : k.slot.task.phase ≡ phase.Acting = far_is g values s h w t task f k (AfterCancel callee number words) is in
    let free_st : Stands g values s free stacks later = none_stands g values s h stacks w t k.slot k.is far st in
    let still : CallKept free f.instance callee slot called = none_still h t f.instance callee k.slot slot called apart call in
    let one : IsCallee g s later callee slot called = is_callee g values s free stacks later f.instance callee slot called still free_st in
    both_as g values s t h.labels stacks _ _ _ _
    (back_is g values s v h w t task f k (AfterCancel callee number words) is ∙ via _ _ _ _ (errand_put t errand.None h k.slot k.is) ∙ via _ _ _ _ (resolved_is callee free slot still.there))
    (back_to_is g w t task f (AfterCancel callee number words) acts is
    ∙ subtask_is later callee one.task one.subtask (λ task subtask. if has_resolved task then told_payload t (machine.subtask_told f.instance callee task subtask later)
    else cancels.cancel_open g t number words later) one.there one.guest)
    (on_test g values s t h.labels stacks (is_over (state_of slot.task)) (has_resolved one.task) _ _ _ _ (ap is_over (state_alike g s slot one.task one.alike))
    (λ over. on_told_payload g values s t h.labels stacks free (subtask_told f.instance callee free) (machine.subtask_told f.instance callee one.task one.subtask later)
    (told_so g values s stacks free later f.instance callee slot called one.task one.subtask k.inst still one.there one.guest one.alike one.sub k.here free_st) refl)
    (λ unresolved. on_cancel_open g values s v free stacks later t f.instance callee number words x slot called (flag_at g number) flags refl
    (get_set h.tasks t k.slot x k.is) far acts.first (λ e. apart (sym e)) still free_st))
