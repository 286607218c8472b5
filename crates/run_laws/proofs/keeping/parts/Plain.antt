-- Words of context, backpressure, and how a task resolves and lets others run leave marks of handles and subtasks as they follow from tables and tasks.
use Rattle.std.proofs.Common.{◌≡◌, true, false, refl}
use Rattle.std.specs.Prelude.{ℕ, Bool, ◌&&◌, if◌then◌else◌, List, [], ◌∷◌, ◌++◌, Option, Some, None}
use Rattle.std.specs.List.{slice_get}
use Rattle.tasks.specs.declared.event.BlockedAt.TheVariants as blocked_at
use Rattle.tasks.specs.declared.event.TaskEvent.TheVariants as event
use Rattle.tasks.specs.declared.event.TaskTrap.{TaskTrap}
use Rattle.tasks.specs.declared.event.TaskTrap.TheVariants as task_trap
use Rattle.tasks.specs.declared.subtask_state.SubtaskState.TheVariants as state
use Rattle.tasks.specs.Tasks as tasks
use Rattle.tasks.specs.Tasks.{is_asked, is_sync, is_told, resolving_fault, fault}
use Rattle.tasks.specs.Views.{TaskView}
use Rattle.task_table.specs.declared.slot.TaskSlot.{TaskSlot}
use Rattle.task_table.specs.Slots as slots
use Rattle.task_table.specs.Slots.{event_answer, advanced_slot}
use Rattle.trace_labels.specs.declared.label.BlockReason.TheVariants as reason
use Rattle.trace_labels.specs.declared.label.Label.TheVariants as line
use Rattle.trace_labels.specs.declared.typed.TypedValue.{TypedValue}
use Rattle.world_parts.specs.Views.{Views}
use Rattle.world_parts.specs.declared.parts.Flow.TheVariants as flow
use Rattle.world_parts.specs.Held.{Held, Gives, after}
use Rattle.world_parts.specs.Feed.{told, got}
use Rattle.world_parts.specs.Gates.{pressure_raised, pressure_lowered, pressure_set}
use Rattle.world_parts.specs.Slots.{with_task, word_in, context_of, context_set, happened, happens, raised}
use Rattle.world_parts.specs.Calls.{blocked_in}
use Rattle.world_parts.specs.Plain.{backpressure_dec, backpressure_inc, backpressure_set, context_get, context_put, return_asked, returned, task_cancel, task_yield, yield_cancelled}
use Rattle.standing.proofs.States.{returned_is_returned, cancelled_is_cancelled}
use Rattle.run_laws.specs.keeping.Kept.{AskedAreOpen}
use Rattle.run_laws.proofs.keeping.Others.{KeptBy, keeps_after, keeps_given, keeps_if, keeps_same, keeps_through, look_keeps, traps_there}
use Rattle.run_laws.proofs.keeping.Changes.{TaskAlike}
use Rattle.run_laws.proofs.keeping.Alike.{same_task, acted_keeps}
use Rattle.run_laws.proofs.keeping.Rises.{raised_keeps, raised_last}
use Rattle.run_laws.proofs.keeping.parts.Calls.{blocked_in_keeps}
use Rattle.run_laws.proofs.keeping.parts.Feed.{got_keeps, told_keeps}
use Rattle.run_laws.proofs.keeping.parts.Gates.{pressure_lowered_keeps, pressure_raised_keeps, pressure_set_keeps}
use Rattle.run_laws.proofs.keeping.parts.Slots.{context_of_keeps, context_set_keeps, return_asked_happens, told_cancel_keeps}

pub context_get_keeps : (t : ℕ) (number : ℕ) (h : Held) → KeptBy h (context_get t number h)
unfolding context_get
context_get_keeps t number h =
    keeps_after h (context_of t number h) (λ word k. got t (word ∷ []) k) (context_of_keeps t number h) (λ word k. got_keeps t (word ∷ []) k)

pub context_put_keeps : (t : ℕ) (number : ℕ) (words : List ℕ) (h : Held) → KeptBy h (context_put t number words h)
unfolding context_put
context_put_keeps t number words h =
    keeps_given h (word_in words 0) (λ word. after (context_set t number word h) (λ done k. got t [] k)) (λ word is. keeps_after h (context_set t number word h) (λ done k. got t [] k) (context_set_keeps t number word h) (λ done k. got_keeps t [] k))

pub backpressure_inc_keeps : (t : ℕ) (at : ℕ) (h : Held) → KeptBy h (backpressure_inc t at h)
unfolding backpressure_inc
backpressure_inc_keeps t at h =
    keeps_after h (pressure_raised at h) (λ done k. got t [] k) (pressure_raised_keeps at h) (λ done k. got_keeps t [] k)

pub backpressure_dec_keeps : (t : ℕ) (at : ℕ) (h : Held) → KeptBy h (backpressure_dec t at h)
unfolding backpressure_dec
backpressure_dec_keeps t at h =
    keeps_after h (pressure_lowered at h) (λ done k. got t [] k) (pressure_lowered_keeps at h) (λ done k. got_keeps t [] k)

pub backpressure_set_keeps : (t : ℕ) (at : ℕ) (words : List ℕ) (h : Held) → KeptBy h (backpressure_set t at words h)
unfolding backpressure_set
backpressure_set_keeps t at words h =
    keeps_given h (word_in words 0) (λ enabled. after (pressure_set at enabled h) (λ done k. got t [] k)) (λ enabled is. keeps_after h (pressure_set at enabled h) (λ done k. got t [] k) (pressure_set_keeps at enabled h) (λ done k. got_keeps t [] k))

pub return_asked_keeps : (t : ℕ) (h : Held) → KeptBy h (return_asked t h)
unfolding return_asked
return_asked_keeps t h =
    keeps_after h (happens t event.AskReturn h) (λ done k. Gives flow.Returns k) (return_asked_happens t h) (λ done k. keeps_same k)

-- A task resolves: its state rises, and with it what its caller sees.
resolved_alike : (x : TaskSlot) (later : TaskView) → later.borrows ≡ x.task.borrows → later.phase ≡ x.task.phase → TaskAlike x (slots.with_task later x)
resolved_alike x later borrows p = same_task x (slots.with_task later x) refl refl refl borrows p

pub returned_keeps : (t : ℕ) (value : Option TypedValue) (h : Held) → KeptBy h (returned t value h)
unfolding returned
returned_keeps t value h =
    look_keeps h (slice_get h.tasks t) (λ x. happened (event_answer event.Return x.task) t (advanced_slot event.Return x) h)
    (λ done k. after (told (line.Return t value) k) (λ done l. raised t state.Returned l))
    (λ x is.
    acted_keeps h h t event.Return x (λ done k. after (told (line.Return t value) k) (λ done l. raised t state.Returned l)) (traps_there h t x (fault event.Return x.task) is)
    (λ may none.
    let later : TaskView = tasks.after event.Return x.task in
    let k : Held = with_task t (slots.with_task later x) h in
    let l : Held = record k { labels = k.labels ++ line.Return t value ∷ [] } in
    raised_last h l t x later state.Returned
    (record { is = is; tasks = refl; insts = λ all marks. marks; alike = resolved_alike x later refl refl; state = returned_is_returned x.task })))

-- It was told that its cancellation is asked.
told_so : (b c : Bool) (x y : TaskTrap) (o : Option TaskTrap) → (if b then Some x else (if c then o else Some y)) ≡ None → c ≡ true
told_so true c x y o e = absurd (cc)
told_so false true x y o e = refl
told_so false false x y o e = absurd (cc)

pub task_cancel_keeps : (t : ℕ) (h : Held) → KeptBy h (task_cancel t h)
unfolding task_cancel
task_cancel_keeps t h =
    look_keeps h (slice_get h.tasks t) (λ x. happened (event_answer event.Cancel x.task) t (advanced_slot event.Cancel x) h)
    (λ done k. after (told (line.Cancelled t) k) (λ done l. after (raised t state.CancelledBeforeReturned l) (λ done m. got t [] m)))
    (λ x is.
    acted_keeps h h t event.Cancel x (λ done k. after (told (line.Cancelled t) k) (λ done l. after (raised t state.CancelledBeforeReturned l) (λ done m. got t [] m)))
    (traps_there h t x (fault event.Cancel x.task) is)
    (λ may none.
    let later : TaskView = tasks.after event.Cancel x.task in
    let k : Held = with_task t (slots.with_task later x) h in
    let l : Held = record k { labels = k.labels ++ line.Cancelled t ∷ [] } in
    raised_keeps h l t x later state.CancelledBeforeReturned (λ done m. got t [] m)
    (record {
      is = is;
      tasks = refl;
      insts = λ all marks. marks;
      alike = resolved_alike x later refl refl;
      state = cancelled_is_cancelled x.task (told_so (is_sync x.task.kind) (is_told x.task.cancellation) task_trap.SyncTask task_trap.NotAsked (resolving_fault x.task) none);
    })
    (λ m p. keeps_through h m (got t [] m) p (got_keeps t [] m))))

pub yield_cancelled_keeps : (t : ℕ) (h : Held) → AskedAreOpen h → KeptBy h (yield_cancelled t h)
unfolding yield_cancelled
yield_cancelled_keeps t h still =
    keeps_after h (happens t event.ToldCancel h) (λ done k. after (told (line.Event t 6 0 0) k) (λ done l. got t (1 ∷ []) l)) (told_cancel_keeps t h still)
    (λ done k.
    keeps_after k (told (line.Event t 6 0 0) k) (λ done l. got t (1 ∷ []) l) (told_keeps (line.Event t 6 0 0) k) (λ done l. got_keeps t (1 ∷ []) l))

pub task_yield_keeps : (g : Views) (t : ℕ) (canon : ℕ) (h : Held) → AskedAreOpen h → KeptBy h (task_yield g t canon h)
unfolding task_yield
task_yield_keeps g t canon h still =
    look_keeps h (slice_get h.tasks t) (λ x. Gives (is_asked x.task.cancellation) h)
    (λ is_asked k. if g.flag canon && is_asked then yield_cancelled t k else blocked_in t canon (g.flag canon) blocked_at.Yield reason.Yield k)
    (λ x is.
    keeps_if h (g.flag canon && is_asked x.task.cancellation) (yield_cancelled t h) (blocked_in t canon (g.flag canon) blocked_at.Yield reason.Yield h) (yield_cancelled_keeps t h still)
    (blocked_in_keeps t canon (g.flag canon) blocked_at.Yield reason.Yield h tt))
