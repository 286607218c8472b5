-- That a task come to an end is asked of it.
use Rattle.std.proofs.Common.{◌≡◌, ℕ, Bool, true, false, ◌&&◌, nat_lt, is_some, is_none, if◌then◌else◌, List, [], ◌∷◌, refl, sym, ap, ◌∙◌, subst, append-nil, append_assoc, Option, Some, None}
use Rattle.std.specs.List.{slice_get}
use Rattle.std.proofs.lemmas.Bool.{and_parts}
use Rattle.syntax_trees.specs.declared.types.ValType.{ValType}
use Rattle.wasm_store.specs.Stack.{Stack}
use Rattle.entry_gate.specs.Gates.{GateView, is_free, without_wait}
use Rattle.entry_gate.specs.declared.kind.Kind.{Kind}
use Rattle.tasks.specs.declared.event.Asked.{Asked}
use Rattle.tasks.specs.declared.event.Asked.TheVariants as asked
use Rattle.tasks.specs.declared.phase.Cancellation.{Cancellation}
use Rattle.tasks.specs.declared.phase.Cancellation.TheVariants as cancellation
use Rattle.tasks.specs.declared.phase.Phase.{Phase}
use Rattle.tasks.specs.declared.phase.Phase.TheVariants as phase
use Rattle.tasks.specs.declared.phase.Resolution.{Resolution}
use Rattle.tasks.specs.declared.phase.Resolution.TheVariants as resolution
use Rattle.tasks.specs.declared.subtask_state.SubtaskState.{SubtaskState}
use Rattle.tasks.specs.declared.subtask_state.SubtaskState.TheVariants as state
use Rattle.tasks.specs.Tasks.{phase_case, cancel_case, may_cancel, is_unasked, resolved_state, state_of}
use Rattle.tasks.specs.Tasks as task_of
use Rattle.comp_graph.specs.Graph.{Graph, Lifted}
use Rattle.script_reader.specs.Script.{Script}
use Rattle.trace_labels.specs.declared.label.Label.TheVariants as line
use Rattle.instances.specs.Instances.{InstanceView, with_gate}
use Rattle.task_table.specs.declared.errand.Errand.TheVariants as errand
use Rattle.task_table.specs.declared.slot.TaskSlot.{TaskSlot}
use Rattle.task_table.specs.Slots as slots
use Rattle.task_table.specs.Slots.{cancel_answer, cancelled_slot, raised_slot}
use Rattle.world_parts.specs.declared.parts.Rest.{Rest}
use Rattle.world_parts.specs.Held as kept
use Rattle.world_parts.specs.Held.{Held, Done, Gives, after, given}
use Rattle.world_parts.specs.Entries.{with_instance}
use Rattle.world_parts.specs.Feed.{at_rest}
use Rattle.world_parts.specs.Gates.{gate_unwaited}
use Rattle.world_parts.specs.Slots.{with_task, asked_by, cancel_asked}
use Rattle.world_parts.specs.Subtasks.{removed, cancelled_by, cancelled}
use Rattle.abi_machine.specs.Control.{Control}
use Rattle.abi_machine.specs.World.{ForYield, ForSet, ForCall, ForCopy, ForCancel, TaskState, New, Acting, AfterCall, AfterCancel, Begins, WaitsToEnter, InLoop, InBuiltin, Exited, Task, World}
use Rattle.abi_machine.specs.Edits as world
use Rattle.abi_machine.specs.Edits.{with_control, changed_at, with_cancellation, in_state}
use Rattle.abi_machine.specs.Canons.{flag_at}
use Rattle.abi_machine.specs.Counting.{phase_of, task_view}
use Rattle.abi_machine.specs.Gate.{is_entry_free}
use Rattle.abi_machine.specs.Reading.{func_of, kind_of}
use Rattle.abi_machine.specs.Turn.{Steps}
use Rattle.abi_machine.specs.Cancelling.{asked_turn, cancelled_turn}
use Rattle.abi_machine.proofs.sound.Found.{some_same}
use Rattle.standing.specs.Instances.{InstStands}
use Rattle.standing.specs.Tasks.{errand_of, RunsIn, TaskStands}
use Rattle.standing.specs.Stands.{Stands}
use Rattle.standing.specs.Agreeing.{acting_words, control_of, Agrees}
use Rattle.standing.specs.Marks.{CallerMarked}
use Rattle.standing.specs.Resolutions.{EndIsAsked}
use Rattle.standing.proofs.Lists.{IsFound, found_both}
use Rattle.standing.proofs.Tables.{entry_is_not_said}
use Rattle.standing.proofs.Changes.{instances_stay, tasks_change, tasks_come_to_the_chain}
use Rattle.standing.proofs.Agreeing.{get_set, changed_twice}
use Rattle.standing.proofs.Steps.{via, found, turn_found, if_true, both_as, instance_is, free_is}
use Rattle.standing.proofs.Backing.{tasks_stay}
use Rattle.standing.proofs.Resolved.{raised_stands, raised_is, may_rise}

-- Only a task that waits to enter is removed.
no_removal : (b : Bool) → (if b then asked.ResumeNow else asked.Pending) ≡ asked.Removed → ⊥
no_removal true e = absurd (cc)
no_removal false e = absurd (cc)

removed_waits : (free : Bool) (kind : Kind) (flag : ℕ → Bool) (st : TaskState) → phase_case free kind (phase_of flag st) ≡ asked.Removed → st ≡ WaitsToEnter
removed_waits free kind flag New e = absurd (cc)
removed_waits free kind flag Acting e = absurd (cc)
removed_waits free kind flag (AfterCall callee number words) e = absurd (cc)
removed_waits free kind flag (AfterCancel callee number words) e = absurd (cc)
removed_waits free kind flag (Begins n) e = absurd (cc)
removed_waits free kind flag WaitsToEnter e = refl
removed_waits free kind flag (InLoop word) e = absurd (no_removal free e)
removed_waits free kind flag (InBuiltin number words ForYield) e = absurd (no_removal _ e)
removed_waits free kind flag (InBuiltin number words (ForSet index)) e = absurd (no_removal _ e)
removed_waits free kind flag (InBuiltin number words (ForCall callee)) e = absurd (cc)
removed_waits free kind flag (InBuiltin number words (ForCopy index)) e = absurd (cc)
removed_waits free kind flag (InBuiltin number words (ForCancel index)) e = absurd (cc)
removed_waits free kind flag Exited e = absurd (cc)

-- What is kept of a task that is cancelled.
asked_stands : (g : Graph) (s : Script) (x : TaskSlot) (a : Task) → TaskStands g s x a
    → TaskStands g s (slots.with_task (record x.task { cancellation = cancellation.Asked }) x) (record a { cancellation = cancellation.Asked })
asked_stands g s x a st = record {
  does = st.does;
  place = st.place;
  lifted = st.lifted;
  called = st.called;
  seen = st.seen;
  far = st.far;
  at = st.at;
  resolved = st.resolved;
  cancelled = refl;
  words = st.words;
  placed = st.placed;
}

removed_stands : (g : Graph) (s : Script) (x : TaskSlot) (a : Task) → x.errand ≡ errand.None → TaskStands g s x a
    → TaskStands g s (slots.with_task (record x.task { phase = phase.Exited; resolution = Some resolution.Cancelled }) x) (record a { resolution = Some resolution.Cancelled; state = Exited })
removed_stands g s x a none st = record {
  does = st.does;
  place = st.place;
  lifted = st.lifted;
  called = st.called;
  seen = st.seen;
  far = refl;
  at = none;
  resolved = refl;
  cancelled = st.cancelled;
  words = st.words;
  placed = tt;
}

-- It is asked, on what is kept.
asked_is : (t at : ℕ) (h : Held) (x : TaskSlot) (i : InstanceView) → slice_get h.tasks t ≡ Some x → x.instance ≡ at → slice_get h.instances at ≡ Some i → may_cancel x.task ≡ true
    → cancel_asked t h
    ≡ Gives (cancel_case (is_free i.gate) x.task) (with_task t (slots.with_task (task_of.cancelled (cancel_case (is_free i.gate) x.task) x.task) x) h)
asked_is t at h x i is same here may =
    via _ _ _ _ (instance_is t at h x is same) ∙ via _ _ _ _ (free_is at h i here)
    ∙ found (slice_get h.tasks t) x (λ slot. asked_by (cancel_answer (is_free i.gate) slot.task) t (cancelled_slot (is_free i.gate) slot) h) is
    ∙ ap (λ (b : Bool). asked_by (if b then Some (cancel_case (is_free i.gate) x.task) else None) t
    (if b then slots.with_task (task_of.cancelled (cancel_case (is_free i.gate) x.task) x.task) x else x) h) may

unwaited_is : (at : ℕ) (h : Held) (i : InstanceView) → slice_get h.instances at ≡ Some i → nat_lt 0 i.gate.waiting ≡ true
    → gate_unwaited at h ≡ Gives tt (with_instance at (with_gate (without_wait i.gate) i) h)
unwaited_is at h i here some =
    found (slice_get h.instances at) i (λ i. if nat_lt 0 i.gate.waiting then Gives tt (with_instance at (with_gate (without_wait i.gate) i) h) else kept.Stuck) here ∙ if_true _ _ _ some

-- By what comes of it.
on_asked : (g : Graph) (values : List ValType) (s : Script) (h : Held) (stacks : List (List Stack)) (w : World) (acting t at : ℕ) (task : Task) (x : TaskSlot) (i : InstanceView) (behind : Rest)
    (control : Control) (case : Asked)
    → slice_get h.tasks t ≡ Some x → x.instance ≡ at → slice_get h.instances at ≡ Some i → TaskStands g s x task → (case ≡ asked.Removed → task.state ≡ WaitsToEnter)
    → (case ≡ asked.Removed → nat_lt 0 i.gate.waiting ≡ true) → x.task.resolution ≡ None → CallerMarked t (state_of x.task) x.caller
    → ((words : List ℕ) → control_of words behind ≡ control) → Stands g values s h stacks w
    → Agrees g values s acting h.labels stacks (cancelled_by case t behind (with_task t (slots.with_task (task_of.cancelled case x.task) x) h)) (asked_turn t case control w)
unfolding asked_turn removed
on_asked g values s h stacks w acting t at task x i behind control asked.Pending is same here alike waits counted none marked goes st =
    let k : Held = with_task t (slots.with_task (record x.task { cancellation = cancellation.Asked }) x) h in
    record {
      lines = [];
      world = with_cancellation t cancellation.Asked w;
      stands = tasks_change g values s h stacks w t x (slots.with_task (record x.task { cancellation = cancellation.Asked }) x) (λ a. record a { cancellation = cancellation.Asked }) is
          (λ a there now. asked_stands g s x a now) (λ a. refl) st;
      told = sym (append-nil h.labels);
      ends = ap (λ (c : Control). Steps [] (with_control c (with_cancellation t cancellation.Asked w))) (sym (goes (acting_words (at_rest behind k))));
    }
on_asked g values s h stacks w acting t at task x i behind control asked.ResumeNow is same here alike waits counted none marked goes st =
    let y : TaskSlot = slots.with_task (record x.task { cancellation = cancellation.Asked }) x in
    record {
      lines = [];
      world = world.chained t (with_cancellation t cancellation.Asked w);
      stands = tasks_come_to_the_chain g values s (with_task t y h) stacks (with_cancellation t cancellation.Asked w) t
          (tasks_change g values s h stacks w t x y (λ a. record a { cancellation = cancellation.Asked }) is (λ a there now. asked_stands g s x a now) (λ a. refl) st);
      told = sym (append-nil h.labels);
      ends = refl;
    }
on_asked g values s h stacks w acting t at task x i behind control asked.Removed is same here alike waits counted none marked goes st =
    let y : TaskSlot = slots.with_task (record x.task { phase = phase.Exited; resolution = Some resolution.Cancelled }) x in
    let k : Held = with_task t y h in
    let there : slice_get k.tasks t ≡ Some y = get_set h.tasks t x y is in
    let fewer : InstanceView = with_gate (without_wait i.gate) i in
    let unwaited : Held = with_instance at fewer k in
    let state_is : task.state ≡ WaitsToEnter = waits refl in
    let starts : state_of x.task ≡ state.Starting =
    ap (λ (r : Option Resolution). resolved_state x.task.cancellation r x.task.phase) none
    ∙ ap (λ (p : Phase). resolved_state x.task.cancellation None p) (alike.far ∙ ap (phase_of (flag_at g)) state_is) in
    let gone : World = in_state t Exited (world.resolved t resolution.Cancelled w) in
    let k_st : Stands g values s k stacks gone =
    subst (λ (tasks : List Task). Stands g values s k stacks (record w { tasks = tasks }))
    (sym (changed_twice t (λ (a : Task). record a { state = Exited }) (λ (a : Task). record a { resolution = Some resolution.Cancelled }) w.tasks))
    (tasks_change g values s h stacks w t x y (λ a. record a { resolution = Some resolution.Cancelled; state = Exited }) is
    (λ a a_is now. removed_stands g s x a (alike.at ∙ ap errand_of state_is) now) (λ a. refl) st) in
    let unwaited_st : Stands g values s unwaited stacks gone =
    instances_stay g values s k stacks gone at i fewer here (λ a now. entry_is_not_said values i a (without_wait i.gate) refl now) k_st in
    let raised_slot_of : TaskSlot = raised_slot state.CancelledBeforeStarted y in
    let risen : Held = with_task t raised_slot_of unwaited in
    both_as g values s acting h.labels stacks _ _ _ _
    (via _ _ _ _ (instance_is t at k y there same) ∙ via _ _ _ _ (unwaited_is at k i here (counted refl))
    ∙ via _ _ _ _ (raised_is t state.CancelledBeforeStarted unwaited y there
    (may_rise t state.Starting state.CancelledBeforeStarted x.caller refl (subst (λ (n : SubtaskState). CallerMarked t n x.caller) starts marked))))
    refl
    (record {
      lines = line.Cancelled t ∷ line.Exit t ∷ [];
      world = gone;
      stands = tasks_stay g values s unwaited stacks gone t y raised_slot_of there (λ a now. raised_stands g s state.CancelledBeforeStarted y a now) unwaited_st;
      told = append_assoc h.labels (line.Cancelled t ∷ []) (line.Exit t ∷ []);
      ends = ap (λ (c : Control). Steps (line.Cancelled t ∷ line.Exit t ∷ []) (with_control c gone)) (sym (goes (acting_words (at_rest behind risen))));
    })

no_resolution : (r : Option Resolution) → is_none r ≡ true → r ≡ None
no_resolution None e = refl
no_resolution (Some x) e = absurd (cc)

pub end_is_asked : EndIsAsked
unfolding cancelled cancelled_turn
end_is_asked g values s h stacks w acting t task f behind control there runs inst may gates states counted goes st =
    let one : IsFound (TaskStands g s) (slice_get h.tasks t) (slice_get w.tasks t) = found_both (TaskStands g s) h.tasks w.tasks t st.are_tasks (ap is_some there) in
    let x : TaskSlot = one.left in
    let alike : TaskStands g s x task = subst (λ (a : Task). TaskStands g s x a) (some_same (sym one.is_right ∙ there)) one.alike in
    let at : x.instance ≡ f.instance = subst (λ (o : Option Lifted). RunsIn x.instance o) runs alike.place in
    let here : IsFound (InstStands values) (slice_get h.instances f.instance) (slice_get w.insts f.instance) =
    found_both (InstStands values) h.instances w.insts f.instance st.are_instances inst in
    let i : InstanceView = here.left in
    let may_so : may_cancel x.task ≡ true =
    ap (λ (r : Option Resolution). is_none r && is_unasked x.task.cancellation) alike.resolved ∙ ap (λ (c : Cancellation). is_none task.resolution && is_unasked c) alike.cancelled ∙ may in
    let case : Asked = cancel_case (is_entry_free w f.instance) (task_view g w t task) in
    let same : cancel_case (is_free i.gate) x.task ≡ case =
    ap (λ (v : GateView). phase_case (is_free v) x.task.kind x.task.phase) (gates i here.is_left) ∙ ap (λ (k : Kind). phase_case (is_entry_free w f.instance) k x.task.phase) alike.lifted
    ∙ ap (λ (p : Phase). phase_case (is_entry_free w f.instance) (kind_of task) p) alike.far in
    both_as g values s acting h.labels stacks _ _ _ _
    (via _ _ _ (λ case k. cancelled_by case t behind k) (asked_is t f.instance h x i one.is_left at here.is_left may_so)
    ∙ ap (λ (c : Asked). cancelled_by c t behind (with_task t (slots.with_task (task_of.cancelled c x.task) x) h)) same)
    (turn_found (func_of task.callee) f (λ f. asked_turn t (cancel_case (is_entry_free w f.instance) (task_view g w t task)) control w) runs)
    (on_asked g values s h stacks w acting t f.instance task x i behind control case one.is_left at here.is_left alike
    (λ e. removed_waits (is_entry_free w f.instance) (kind_of task) (flag_at g) task.state e)
    (λ e. counted (removed_waits (is_entry_free w f.instance) (kind_of task) (flag_at g) task.state e) i here.is_left)
    (alike.resolved ∙ no_resolution task.resolution (and_parts (is_none task.resolution) (is_unasked task.cancellation) may).0) (states x one.is_left) goes st)
