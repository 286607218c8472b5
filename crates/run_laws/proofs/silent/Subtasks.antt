-- Cancellation of tasks, and subtasks that leave the table: no event is to come next.
use Rattle.std.specs.Prelude.{ℕ, not, if◌then◌else◌, List, []}
use Rattle.tasks.specs.declared.event.Asked.{Asked}
use Rattle.tasks.specs.declared.event.Asked.TheVariants as asking
use Rattle.tasks.specs.declared.subtask_state.SubtaskState.TheVariants as state
use Rattle.task_table.specs.declared.errand.Errand.TheVariants as errand
use Rattle.trace_labels.specs.declared.label.Label.TheVariants as line
use Rattle.trace_labels.specs.declared.trap.TrapName.TheVariants as trap
use Rattle.world_parts.specs.declared.parts.Rest.{Rest}
use Rattle.world_parts.specs.declared.parts.Rest.TheVariants as rest
use Rattle.world_parts.specs.declared.parts.Flow.TheVariants as flow
use Rattle.world_parts.specs.Held.{Held, Gives, Traps, after}
use Rattle.world_parts.specs.Feed.{told, at_rest, got}
use Rattle.world_parts.specs.Entries.{subtask_found, set_left, entry_removed}
use Rattle.world_parts.specs.Gates.{gate_unwaited}
use Rattle.world_parts.specs.Slots.{instance_of, word_in, delivered, unasked, resolved, errand_set, raised, cancel_asked, closed}
use Rattle.world_parts.specs.Subtasks.{cancelled, cancelled_by, removed, subtask_asked, subtask_cancel, subtask_drop}
use Rattle.run_laws.proofs.silent.Feed.{got_silent}
use Rattle.run_laws.proofs.silent.Silent.{SilentBy, silent_after, silent_given, silent_if}

pub removed_silent : (t : ℕ) (behind : Rest) (h : Held) → SilentBy (removed t behind h)
unfolding removed
removed_silent t behind h =
    silent_after (instance_of t h) (λ at k. after (gate_unwaited at k) (λ done l. after (raised t state.CancelledBeforeStarted l) (λ done m. after (closed t m) (λ done n. after (told (line.Cancelled t) n) (λ done o. after (told (line.Exit t) o) (λ done p. Gives flow.Rests (at_rest behind p))))))) (λ at k. silent_after (gate_unwaited at k) (λ done l. after (raised t state.CancelledBeforeStarted l) (λ done m. after (closed t m) (λ done n. after (told (line.Cancelled t) n) (λ done o. after (told (line.Exit t) o) (λ done p. Gives flow.Rests (at_rest behind p)))))) (λ done l. silent_after (raised t state.CancelledBeforeStarted l) (λ done m. after (closed t m) (λ done n. after (told (line.Cancelled t) n) (λ done o. after (told (line.Exit t) o) (λ done p. Gives flow.Rests (at_rest behind p))))) (λ done m. silent_after (closed t m) (λ done n. after (told (line.Cancelled t) n) (λ done o. after (told (line.Exit t) o) (λ done p. Gives flow.Rests (at_rest behind p)))) (λ done n. silent_after (told (line.Cancelled t) n) (λ done o. after (told (line.Exit t) o) (λ done p. Gives flow.Rests (at_rest behind p))) (λ done o. silent_after (told (line.Exit t) o) (λ done p. Gives flow.Rests (at_rest behind p)) (λ done p. tt))))))

pub cancelled_by_silent : (asking : Asked) (t : ℕ) (behind : Rest) (h : Held) → SilentBy (cancelled_by asking t behind h)
cancelled_by_silent asking.Removed t behind h =
    removed_silent t behind h
cancelled_by_silent asking.ResumeNow t behind h = tt
cancelled_by_silent asking.Pending t behind h =
    tt

pub cancelled_silent : (t : ℕ) (behind : Rest) (h : Held) → SilentBy (cancelled t behind h)
unfolding cancelled
cancelled_silent t behind h =
    silent_after (cancel_asked t h) (λ case k. cancelled_by case t behind k) (λ case k. cancelled_by_silent case t behind k)

pub subtask_asked_silent : (t : ℕ) (callee : ℕ) (canon : ℕ) (index : ℕ) (h : Held) → SilentBy (subtask_asked t callee canon index h)
unfolding subtask_asked
subtask_asked_silent t callee canon index h =
    silent_after (errand_set t (errand.AfterCancel callee canon index) h) (λ done k. after (resolved callee k) (λ is_over l. if is_over then Gives flow.Rests (at_rest rest.Back l) else cancelled callee rest.Back l)) (λ done k. silent_after (resolved callee k) (λ is_over l. if is_over then Gives flow.Rests (at_rest rest.Back l) else cancelled callee rest.Back l) (λ is_over l. silent_if (is_over) (Gives flow.Rests (at_rest rest.Back l)) (cancelled callee rest.Back l) tt (cancelled_silent callee rest.Back l)))

pub subtask_cancel_silent : (t : ℕ) (at : ℕ) (canon : ℕ) (words : List ℕ) (h : Held) → SilentBy (subtask_cancel t at canon words h)
unfolding subtask_cancel
subtask_cancel_silent t at canon words h =
    silent_given (word_in words 0) (λ index. after (subtask_found at index h) (λ callee k. after (delivered callee k) (λ is_delivered l. if is_delivered then Traps trap.Delivered l else after (unasked callee l) (λ is_unasked m. if not is_unasked then Traps trap.Asked m else subtask_asked t callee canon index m)))) (λ index is. silent_after (subtask_found at index h) (λ callee k. after (delivered callee k) (λ is_delivered l. if is_delivered then Traps trap.Delivered l else after (unasked callee l) (λ is_unasked m. if not is_unasked then Traps trap.Asked m else subtask_asked t callee canon index m))) (λ callee k. silent_after (delivered callee k) (λ is_delivered l. if is_delivered then Traps trap.Delivered l else after (unasked callee l) (λ is_unasked m. if not is_unasked then Traps trap.Asked m else subtask_asked t callee canon index m)) (λ is_delivered l. silent_if (is_delivered) (Traps trap.Delivered l) (after (unasked callee l) (λ is_unasked m. if not is_unasked then Traps trap.Asked m else subtask_asked t callee canon index m)) tt (silent_after (unasked callee l) (λ is_unasked m. if not is_unasked then Traps trap.Asked m else subtask_asked t callee canon index m) (λ is_unasked m. silent_if (not is_unasked) (Traps trap.Asked m) (subtask_asked t callee canon index m) tt (subtask_asked_silent t callee canon index m))))))

pub subtask_drop_silent : (t : ℕ) (at : ℕ) (words : List ℕ) (h : Held) → SilentBy (subtask_drop t at words h)
unfolding subtask_drop
subtask_drop_silent t at words h =
    silent_given (word_in words 0) (λ index. after (subtask_found at index h) (λ callee k. after (delivered callee k) (λ is_delivered l. if not is_delivered then Traps trap.NotDelivered l else after (set_left at index l) (λ done m. after (entry_removed at index m) (λ done n. got t [] n))))) (λ index is. silent_after (subtask_found at index h) (λ callee k. after (delivered callee k) (λ is_delivered l. if not is_delivered then Traps trap.NotDelivered l else after (set_left at index l) (λ done m. after (entry_removed at index m) (λ done n. got t [] n)))) (λ callee k. silent_after (delivered callee k) (λ is_delivered l. if not is_delivered then Traps trap.NotDelivered l else after (set_left at index l) (λ done m. after (entry_removed at index m) (λ done n. got t [] n))) (λ is_delivered l. silent_if (not is_delivered) (Traps trap.NotDelivered l) (after (set_left at index l) (λ done m. after (entry_removed at index m) (λ done n. got t [] n))) tt (silent_after (set_left at index l) (λ done m. after (entry_removed at index m) (λ done n. got t [] n)) (λ done m. silent_after (entry_removed at index m) (λ done n. got t [] n) (λ done n. got_silent t [] n))))))
