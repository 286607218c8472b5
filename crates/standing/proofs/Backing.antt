-- Control is back at a task that called another one, or cancelled a subtask; and a task that waited for one of these goes on.
use Rattle.std.proofs.Common.{◌≡◌, ℕ, Bool, false, if◌then◌else◌, List, [], ◌∷◌, ◌++◌, refl, sym, ap, ◌∙◌, subst, Option, Some, None}
use Rattle.std.specs.List.{slice_get}
use Rattle.syntax_trees.specs.declared.types.ValType.{ValType}
use Rattle.wasm_store.specs.Stack.{Stack}
use Rattle.handle_table.specs.History.{live}
use Rattle.tasks.specs.declared.event.BlockedAt.TheVariants as blocked_at
use Rattle.tasks.specs.declared.phase.Phase.TheVariants as phase
use Rattle.comp_graph.specs.Graph.{Graph}
use Rattle.script_reader.specs.Script.{Script}
use Rattle.trace_labels.specs.declared.label.Label.{Label}
use Rattle.instances.specs.declared.entry.WorldEntry.{WorldEntry}
use Rattle.instances.specs.declared.entry.WorldEntry.TheVariants as entry
use Rattle.instances.specs.Entries as entries
use Rattle.instances.specs.Instances.{InstanceView, entry_of}
use Rattle.task_table.specs.declared.caller.Called.{Called}
use Rattle.task_table.specs.declared.caller.Caller as kept_caller
use Rattle.task_table.specs.declared.caller.Caller.TheVariants as by
use Rattle.task_table.specs.declared.slot.TaskSlot.{TaskSlot}
use Rattle.task_table.specs.Callers as callers
use Rattle.task_table.specs.Callers.{called_of, may_keep, changed}
use Rattle.task_table.specs.Slots.{awaited_slot}
use Rattle.world_parts.specs.Held as kept
use Rattle.world_parts.specs.Held.{Held, Done, Gives, Traps, after, given}
use Rattle.world_parts.specs.Entries as kept_entries
use Rattle.world_parts.specs.Entries.{with_instance, entry_added, subtask_known}
use Rattle.world_parts.specs.Feed.{got}
use Rattle.world_parts.specs.Slots.{with_task, result_found, awaited}
use Rattle.world_parts.specs.Calls.{subtask_told}
use Rattle.world_parts.specs.Going as going
use Rattle.abi_machine.specs.World.{Inst, Subtask, Caller, Nobody, Host, Guest, ForCall, ForCancel, Acting, InBuiltin, Task, World}
use Rattle.abi_machine.specs.Edits.{in_state}
use Rattle.abi_machine.specs.Canons.{flag_at}
use Rattle.abi_machine.specs.Finding as finding
use Rattle.abi_machine.specs.Finding.{accepted}
use Rattle.abi_machine.specs.Reading.{table_in, task_at, subtask_of}
use Rattle.abi_machine.specs.Traps.{renamed, refusal_name}
use Rattle.abi_machine.specs.Turn as turns
use Rattle.abi_machine.specs.Turn.{Turn, doomed, with_entry, replied}
use Rattle.abi_machine.specs.Calling as machine
use Rattle.abi_machine.specs.Calling.{Told, with_subtask_of, replied_behind, call_answer, call_state}
use Rattle.abi_machine.specs.Delivering as delivers
use Rattle.standing.specs.Instances.{InstStands}
use Rattle.standing.specs.Tasks.{SubtaskStands, CallerStands, TaskStands}
use Rattle.standing.specs.Stands.{Stands}
use Rattle.standing.specs.Agreeing.{Agrees}
use Rattle.standing.specs.Moves.{CallKept, CallResumes, CancelResumes}
use Rattle.standing.proofs.Lists.{BothAt, at_both, left_changed}
use Rattle.standing.proofs.Tables.{entries_are_alike}
use Rattle.standing.proofs.Found.{subtask_alike}
use Rattle.standing.proofs.Agreeing.{get_set}
use Rattle.standing.proofs.Steps.{via, found, turn_found, if_true, both_as, IsKept, is_kept, other_get, on_got_behind}
use Rattle.standing.proofs.Telling.{ToldSo, told_so}
use Rattle.standing.proofs.Resuming.{resumes_is, resuming_is, far_is, gone_on, gone_stands, builtin_is, from_is}

-- The task that was called, with the caller's side of its call, on both sides.
pub record IsCallee (g : Graph) (s : Script) (w : World) (callee : ℕ) (slot : TaskSlot) (called : Called) : Type 0 where
  pub task : Task
  pub there : slice_get w.tasks callee ≡ Some task
  pub alike : TaskStands g s slot task
  pub subtask : Subtask
  pub guest : task.caller ≡ Guest subtask
  pub sub : SubtaskStands called subtask

callee_by : (g : Graph) (s : Script) (w : World) (callee : ℕ) (slot : TaskSlot) (called : Called) (task : Task) (c : kept_caller.Caller) (d : Caller) → slice_get w.tasks callee ≡ Some task
    → TaskStands g s slot task → slot.caller ≡ c → task.caller ≡ d → c ≡ by.Guest called → CallerStands s c d → IsCallee g s w callee slot called
callee_by g s w callee slot called task c Nobody there alike e f guest st = absurd (subst (λ (x : kept_caller.Caller). CallerStands s x Nobody) guest st)
callee_by g s w callee slot called task c (Host call values) there alike e f guest st = absurd (subst (λ (x : kept_caller.Caller). CallerStands s x (Host call values)) guest st)
callee_by g s w callee slot called task c (Guest subtask) there alike e f guest st = record {
  task = task;
  there = there;
  alike = alike;
  subtask = subtask;
  guest = f;
  sub = subst (λ (x : kept_caller.Caller). CallerStands s x (Guest subtask)) guest st;
}

callee_at : (g : Graph) (s : Script) (w : World) (callee : ℕ) (slot : TaskSlot) (called : Called) (p : Option Task) → slice_get w.tasks callee ≡ p → slot.caller ≡ by.Guest called
    → BothAt (TaskStands g s) (Some slot) p → IsCallee g s w callee slot called
callee_at g s w callee slot called None there guest b = absurd b
callee_at g s w callee slot called (Some task) there guest b = callee_by g s w callee slot called task slot.caller task.caller there b refl refl guest b.called

pub is_callee : (g : Graph) (values : List ValType) (s : Script) (h : Held) (stacks : List (List Stack)) (w : World) (at callee : ℕ) (slot : TaskSlot) (called : Called) → CallKept h at callee slot called
    → Stands g values s h stacks w → IsCallee g s w callee slot called
is_callee g values s h stacks w at callee slot called call st =
    callee_at g s w callee slot called (slice_get w.tasks callee) refl call.guest
    (subst (λ (o : Option TaskSlot). BothAt (TaskStands g s) o (slice_get w.tasks callee)) call.there (at_both (TaskStands g s) h.tasks w.tasks callee st.are_tasks))

pub subtask_is : (w : World) (callee : ℕ) (task : Task) (subtask : Subtask) (more : Task → Subtask → Turn) → slice_get w.tasks callee ≡ Some task → task.caller ≡ Guest subtask
    → with_subtask_of w callee more ≡ more task subtask
subtask_is w callee task subtask more there guest =
    turn_found (task_at w callee) task (λ task. turns.given (subtask_of task.caller) (λ subtask. more task subtask)) there
    ∙ ap (λ (c : Caller). turns.given (subtask_of c) (λ subtask. more task subtask)) guest

-- What is kept of a call stays where neither its task nor the instance is changed.
pub call_still : (h k : Held) (at callee : ℕ) (slot : TaskSlot) (called : Called) → slice_get k.tasks callee ≡ slice_get h.tasks callee → k.instances ≡ h.instances
    → CallKept h at callee slot called → CallKept k at callee slot called
call_still h k at callee slot called same insts call = record {
  there = same ∙ call.there;
  guest = call.guest;
  marked = call.marked;
  lent = λ i is. call.lent i (ap (λ (xs : List InstanceView). slice_get xs at) (sym insts) ∙ is);
  over = call.over;
}

-- It is awaited by its caller, or not.
pub tasks_stay : (g : Graph) (values : List ValType) (s : Script) (h : Held) (stacks : List (List Stack)) (w : World) (t : ℕ) (x y : TaskSlot) → slice_get h.tasks t ≡ Some x
    → ((a : Task) → TaskStands g s x a → TaskStands g s y a) → Stands g values s h stacks w → Stands g values s (with_task t y h) stacks w
tasks_stay g values s h stacks w t x y is keeps st = record {
  same_store = st.same_store;
  are_instances = st.are_instances;
  are_tasks = left_changed (TaskStands g s) h.tasks w.tasks t x y is keeps st.are_tasks;
  are_streams = st.are_streams;
  are_futures = st.are_futures;
  same_chain = st.same_chain;
  fuel = st.fuel;
  drawn = st.drawn;
  as_taken = st.as_taken;
  same_stacks = st.same_stacks;
}

waits_for_it : (s : Script) (b : Bool) (c : kept_caller.Caller) (d : Caller) → CallerStands s c d → CallerStands s (changed (callers.awaited b) c) d
waits_for_it s b by.Nobody d st = st
waits_for_it s b (by.Host call) d st = st
waits_for_it s b (by.Guest called) Nobody st = st
waits_for_it s b (by.Guest called) (Host call values) st = st
waits_for_it s b (by.Guest called) (Guest subtask) st =
    record { caller = st.caller; by_canon = st.by_canon; passed = st.passed; was_told = st.was_told; lent = st.lent; kept = st.kept }

pub awaited_stands : (g : Graph) (s : Script) (b : Bool) (x : TaskSlot) (a : Task) → TaskStands g s x a → TaskStands g s (awaited_slot b x) a
awaited_stands g s b x a st = record {
  does = st.does;
  place = st.place;
  lifted = st.lifted;
  called = waits_for_it s b x.caller a.caller st.called;
  seen = st.seen;
  far = st.far;
  at = st.at;
  resolved = st.resolved;
  cancelled = st.cancelled;
  words = st.words;
  placed = st.placed;
}

pub awaited_is : (b : Bool) (h : Held) (at callee : ℕ) (slot : TaskSlot) (called : Called) → CallKept h at callee slot called
    → awaited callee b h ≡ Gives tt (with_task callee (awaited_slot b slot) h)
awaited_is b h at callee slot called call =
    found (slice_get h.tasks callee) slot (λ slot. if may_keep slot.caller then Gives tt (with_task callee (awaited_slot b slot) h) else kept.Stuck) call.there
    ∙ if_true _ _ _ (ap may_keep call.guest)

awaited_call : (b : Bool) (h : Held) (at callee : ℕ) (slot : TaskSlot) (called : Called) → CallKept h at callee slot called
    → CallKept (with_task callee (awaited_slot b slot) h) at callee (awaited_slot b slot) (callers.awaited b called)
awaited_call b h at callee slot called call = record {
  there = get_set h.tasks callee slot (awaited_slot b slot) call.there;
  guest = ap (changed (callers.awaited b)) call.guest;
  marked = call.marked;
  lent = call.lent;
  over = call.over;
}

-- The caller is told, and the answer is made of it.
pub on_told_words : (g : Graph) (values : List ValType) (s : Script) (t : ℕ) (before : List Label) (stacks : List (List Stack)) (h : Held) (d : Done ℕ) (so : Told) (words : List ℕ)
    → ToldSo g values s stacks h d so → h.labels ≡ before → Agrees g values s t before stacks (after d (λ payload l. got t words l)) (replied_behind t so.lines words so.world)
on_told_words g values s t before stacks h d so words told same =
    both_as g values s t before stacks _ _ _ _ (via _ _ _ (λ payload l. got t words l) told.is) refl
    (on_got_behind g values s t before so.lines stacks told.held so.world words (told.labels ∙ ap (λ (ls : List Label). ls ++ so.lines) same) told.stands)

pub on_told_payload : (g : Graph) (values : List ValType) (s : Script) (t : ℕ) (before : List Label) (stacks : List (List Stack)) (h : Held) (d : Done ℕ) (so : Told)
    → ToldSo g values s stacks h d so → h.labels ≡ before
    → Agrees g values s t before stacks (after d (λ payload m. got t (payload ∷ []) m)) (replied_behind t so.lines (so.payload ∷ []) so.world)
on_told_payload g values s t before stacks h d so told same =
    both_as g values s t before stacks _ _ _ _ (via _ _ _ (λ payload m. got t (payload ∷ []) m) told.is) refl
    (on_got_behind g values s t before so.lines stacks told.held so.world (so.payload ∷ []) (told.labels ∙ ap (λ (ls : List Label). ls ++ so.lines) same) told.stands)

pub result_is : (h : Held) (at callee : ℕ) (slot : TaskSlot) (called : Called) → CallKept h at callee slot called → result_found callee h ≡ Gives called.result h
result_is h at callee slot called call =
    found (slice_get h.tasks callee) slot (λ slot. given (called_of slot.caller) (λ called. Gives called.result h)) call.there
    ∙ ap (λ (c : kept_caller.Caller). given (called_of c) (λ called. Gives called.result h)) call.guest

-- It goes on where it waited for the task that it called.
gone_still : (h : Held) (t at callee : ℕ) (x slot : TaskSlot) (called : Called) → (callee ≡ t → ⊥) → CallKept h at callee slot called → CallKept (gone_on t x h) at callee slot called
gone_still h t at callee x slot called apart call =
    call_still h (gone_on t x h) at callee slot called (other_get _ t callee _ apart ∙ other_get h.tasks t callee _ apart) refl call

pub call_resumes : CallResumes
unfolding delivers.resumed delivers.wait_resumed delivers.told_result going.call_resumed
call_resumes g values s h stacks w t task f number callee words slot called acts is apart call st =
    let k : IsKept g values s h w t task f = is_kept g values s h stacks w t task f acts st in
    let gone : Held = gone_on t k.slot h in
    let later : World = in_state t Acting w in
    let gone_st : Stands g values s gone stacks later = gone_stands g values s h stacks w t k.slot k.is st in
    let still : CallKept gone f.instance callee slot called = gone_still h t f.instance callee k.slot slot called apart call in
    let one : IsCallee g s later callee slot called = is_callee g values s gone stacks later f.instance callee slot called still gone_st in
    both_as g values s t h.labels stacks _ _ _ _
    (resumes_is g values s h w t task f k (phase.Blocked (blocked_at.Call callee) (flag_at g number)) (far_is g values s h w t task f k (InBuiltin number words (ForCall callee)) is)
    ∙ from_is g values s h w t task f k number words (ForCall callee) is
    ∙ builtin_is g values s h w t task f k number 0 words (ForCall callee) is refl refl
    ∙ via _ _ _ _ (result_is gone f.instance callee slot called still)
    ∙ ap (λ (words : List ℕ). after (subtask_told f.instance callee gone) (λ payload l. got t words l)) one.sub.kept)
    (resuming_is g w t task f (InBuiltin number words (ForCall callee)) acts is
    ∙ subtask_is later callee one.task one.subtask
    (λ task subtask. replied_behind t (machine.subtask_told f.instance callee task subtask later).lines subtask.result (machine.subtask_told f.instance callee task subtask later).world) one.there one.guest)
    (on_told_words g values s t h.labels stacks gone (subtask_told f.instance callee gone) (machine.subtask_told f.instance callee one.task one.subtask later) one.subtask.result
    (told_so g values s stacks gone later f.instance callee slot called one.task one.subtask k.inst still one.there one.guest one.alike one.sub k.here gone_st) refl)

-- What is known to stand at an index.
subtask_known_is : (at index callee : ℕ) (h : Held) (i : InstanceView) → slice_get h.instances at ≡ Some i → entry_of i index ≡ Some (entry.Subtask callee)
    → subtask_known at index h ≡ Gives callee h
subtask_known_is at index callee h i here is =
    found (slice_get h.instances at) i (λ i. given (kept_entries.subtask_number (entry_of i index)) (λ callee. Gives callee h)) here
    ∙ found (kept_entries.subtask_number (entry_of i index)) callee (λ callee. Gives callee h) (ap kept_entries.subtask_number is)

found_subtask_is : (values : List ValType) (w : World) (at index callee : ℕ) (x : InstanceView) (y : Inst) → slice_get w.insts at ≡ Some y → InstStands values x y
    → entry_of x index ≡ Some (entry.Subtask callee) → finding.found_subtask w at index ≡ Some callee
found_subtask_is values w at index callee x y is alike there =
    ap (λ (o : Option Inst). accepted (finding.subtask_in (live (table_in o) index))) is
    ∙ ap accepted (subtask_alike values (entry_of x index) (live y.table index) (entries_are_alike values x y index alike))
    ∙ ap (λ (o : Option WorldEntry). accepted (renamed refusal_name (entries.subtask_in o))) there

pub cancel_resumes : CancelResumes
unfolding delivers.resumed delivers.wait_resumed delivers.told_payload going.cancel_resumed
cancel_resumes g values s h stacks w t task f number index callee words slot called acts is apart there call st =
    let k : IsKept g values s h w t task f = is_kept g values s h stacks w t task f acts st in
    let gone : Held = gone_on t k.slot h in
    let later : World = in_state t Acting w in
    let gone_st : Stands g values s gone stacks later = gone_stands g values s h stacks w t k.slot k.is st in
    let still : CallKept gone f.instance callee slot called = gone_still h t f.instance callee k.slot slot called apart call in
    let free : Held = with_task callee (awaited_slot false slot) gone in
    let free_st : Stands g values s free stacks later = tasks_stay g values s gone stacks later callee slot (awaited_slot false slot) still.there (λ a now. awaited_stands g s false slot a now) gone_st in
    let freed : CallKept free f.instance callee (awaited_slot false slot) (callers.awaited false called) = awaited_call false gone f.instance callee slot called still in
    let one : IsCallee g s later callee (awaited_slot false slot) (callers.awaited false called) =
    is_callee g values s free stacks later f.instance callee (awaited_slot false slot) (callers.awaited false called) freed free_st in
    both_as g values s t h.labels stacks _ _ _ _
    (resumes_is g values s h w t task f k (phase.Blocked (blocked_at.Cancel index) (flag_at g number)) (far_is g values s h w t task f k (InBuiltin number words (ForCancel index)) is)
    ∙ from_is g values s h w t task f k number words (ForCancel index) is
    ∙ builtin_is g values s h w t task f k number 0 words (ForCancel index) is refl refl
    ∙ via _ _ _ _ (subtask_known_is f.instance index callee gone k.inst k.here (there k.inst k.here))
    ∙ via _ _ _ _ (awaited_is false gone f.instance callee slot called still))
    (resuming_is g w t task f (InBuiltin number words (ForCancel index)) acts is
    ∙ turn_found (finding.found_subtask later f.instance index) callee
    (λ callee. with_subtask_of later callee (λ task subtask. delivers.told_payload t (machine.subtask_told f.instance callee task subtask later)))
    (found_subtask_is values later f.instance index callee k.inst k.machine_inst k.machine_here k.insts (there k.inst k.here))
    ∙ subtask_is later callee one.task one.subtask (λ task subtask. delivers.told_payload t (machine.subtask_told f.instance callee task subtask later)) one.there one.guest)
    (on_told_payload g values s t h.labels stacks free (subtask_told f.instance callee free) (machine.subtask_told f.instance callee one.task one.subtask later)
    (told_so g values s stacks free later f.instance callee (awaited_slot false slot) (callers.awaited false called) one.task one.subtask k.inst freed one.there one.guest one.alike one.sub k.here free_st) refl)
