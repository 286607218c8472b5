-- Cancellation of tasks, and subtasks that leave the table, leave the store alone, and no handle is lent more often.
use Rattle.std.proofs.Common.{◌≡◌, refl, Some}
use Rattle.std.specs.Prelude.{ℕ, not, if◌then◌else◌, List, []}
use Rattle.tasks.specs.declared.event.Asked.{Asked}
use Rattle.tasks.specs.declared.event.Asked.TheVariants as asking
use Rattle.tasks.specs.declared.subtask_state.SubtaskState.TheVariants as state
use Rattle.task_table.specs.declared.errand.Errand.TheVariants as errand
use Rattle.trace_labels.specs.declared.label.Label.TheVariants as line
use Rattle.trace_labels.specs.declared.trap.TrapName.TheVariants as trap
use Rattle.world_parts.specs.declared.parts.Rest.{Rest}
use Rattle.world_parts.specs.declared.parts.Rest.TheVariants as rest
use Rattle.world_parts.specs.declared.parts.Flow.{Flow}
use Rattle.world_parts.specs.declared.parts.Flow.TheVariants as flow
use Rattle.world_parts.specs.Held.{Held, Done, Gives, Traps, after, given}
use Rattle.world_parts.specs.Feed.{told, at_rest, chained, got}
use Rattle.world_parts.specs.Entries.{subtask_found, set_left, entry_removed}
use Rattle.world_parts.specs.Gates.{gate_unwaited}
use Rattle.world_parts.specs.Slots.{instance_of, word_in, delivered, unasked, resolved, errand_set, raised, cancel_asked, closed}
use Rattle.world_parts.specs.Subtasks.{cancelled, cancelled_by, removed, subtask_asked, subtask_cancel, subtask_drop}
use Rattle.value_parts.proofs.fit.Keeps.{Keeps, KeepsBy, keeps_after, keeps_given, keeps_if, keeps_same, keeps_all, keeps_from, keeps_instance}
use Rattle.value_parts.proofs.fit.Entries.{entry_removed_keeps, set_left_keeps, subtask_found_keeps}
use Rattle.value_parts.proofs.fit.Feed.{chained_keeps, got_keeps, told_keeps}
use Rattle.value_parts.proofs.fit.Gates.{gate_unwaited_keeps}
use Rattle.value_parts.proofs.fit.Slots.{cancel_asked_keeps, closed_keeps, delivered_keeps, errand_set_keeps, instance_of_keeps, raised_keeps, resolved_keeps, unasked_keeps}

pub removed_keeps : (t : ℕ) (behind : Rest) (h : Held) → KeepsBy h (removed t behind h)
unfolding removed
removed_keeps t behind h =
    keeps_after h (instance_of t h) (λ at k. after (gate_unwaited at k) (λ done l. after (raised t state.CancelledBeforeStarted l) (λ done m. after (closed t m) (λ done n. after (told (line.Cancelled t) n) (λ done o. after (told (line.Exit t) o) (λ done p. Gives flow.Rests (at_rest behind p))))))) (instance_of_keeps t h) (λ at k. keeps_after k (gate_unwaited at k) (λ done l. after (raised t state.CancelledBeforeStarted l) (λ done m. after (closed t m) (λ done n. after (told (line.Cancelled t) n) (λ done o. after (told (line.Exit t) o) (λ done p. Gives flow.Rests (at_rest behind p)))))) (gate_unwaited_keeps at k) (λ done l. keeps_after l (raised t state.CancelledBeforeStarted l) (λ done m. after (closed t m) (λ done n. after (told (line.Cancelled t) n) (λ done o. after (told (line.Exit t) o) (λ done p. Gives flow.Rests (at_rest behind p))))) (raised_keeps t state.CancelledBeforeStarted l) (λ done m. keeps_after m (closed t m) (λ done n. after (told (line.Cancelled t) n) (λ done o. after (told (line.Exit t) o) (λ done p. Gives flow.Rests (at_rest behind p)))) (closed_keeps t m) (λ done n. keeps_after n (told (line.Cancelled t) n) (λ done o. after (told (line.Exit t) o) (λ done p. Gives flow.Rests (at_rest behind p))) (told_keeps (line.Cancelled t) n) (λ done o. keeps_after o (told (line.Exit t) o) (λ done p. Gives flow.Rests (at_rest behind p)) (told_keeps (line.Exit t) o) (λ done p. keeps_all p (at_rest behind p) refl refl))))))

pub cancelled_by_keeps : (asking : Asked) (t : ℕ) (behind : Rest) (h : Held) → KeepsBy h (cancelled_by asking t behind h)
cancelled_by_keeps asking.Removed t behind h =
    removed_keeps t behind h
cancelled_by_keeps asking.ResumeNow t behind h =
    keeps_after h (chained t h) (λ done k. Gives flow.Rests (at_rest rest.Goes k)) (chained_keeps t h) (λ done k. keeps_all k (at_rest rest.Goes k) refl refl)
cancelled_by_keeps asking.Pending t behind h =
    keeps_all h (at_rest behind h) refl refl

pub cancelled_keeps : (t : ℕ) (behind : Rest) (h : Held) → KeepsBy h (cancelled t behind h)
unfolding cancelled
cancelled_keeps t behind h =
    keeps_after h (cancel_asked t h) (λ case k. cancelled_by case t behind k) (cancel_asked_keeps t h) (λ case k. cancelled_by_keeps case t behind k)

pub subtask_asked_keeps : (t : ℕ) (callee : ℕ) (canon : ℕ) (index : ℕ) (h : Held) → KeepsBy h (subtask_asked t callee canon index h)
unfolding subtask_asked
subtask_asked_keeps t callee canon index h =
    keeps_after h (errand_set t (errand.AfterCancel callee canon index) h) (λ done k. after (resolved callee k) (λ is_over l. if is_over then Gives flow.Rests (at_rest rest.Back l) else cancelled callee rest.Back l)) (errand_set_keeps t (errand.AfterCancel callee canon index) h) (λ done k. keeps_after k (resolved callee k) (λ is_over l. if is_over then Gives flow.Rests (at_rest rest.Back l) else cancelled callee rest.Back l) (resolved_keeps callee k) (λ is_over l. keeps_if l (is_over) (Gives flow.Rests (at_rest rest.Back l)) (cancelled callee rest.Back l) (keeps_all l (at_rest rest.Back l) refl refl) (cancelled_keeps callee rest.Back l)))

pub subtask_cancel_keeps : (t : ℕ) (at : ℕ) (canon : ℕ) (words : List ℕ) (h : Held) → KeepsBy h (subtask_cancel t at canon words h)
unfolding subtask_cancel
subtask_cancel_keeps t at canon words h =
    keeps_given h (word_in words 0) (λ index. after (subtask_found at index h) (λ callee k. after (delivered callee k) (λ is_delivered l. if is_delivered then Traps trap.Delivered l else after (unasked callee l) (λ is_unasked m. if not is_unasked then Traps trap.Asked m else subtask_asked t callee canon index m)))) (λ index is. keeps_after h (subtask_found at index h) (λ callee k. after (delivered callee k) (λ is_delivered l. if is_delivered then Traps trap.Delivered l else after (unasked callee l) (λ is_unasked m. if not is_unasked then Traps trap.Asked m else subtask_asked t callee canon index m))) (subtask_found_keeps at index h) (λ callee k. keeps_after k (delivered callee k) (λ is_delivered l. if is_delivered then Traps trap.Delivered l else after (unasked callee l) (λ is_unasked m. if not is_unasked then Traps trap.Asked m else subtask_asked t callee canon index m)) (delivered_keeps callee k) (λ is_delivered l. keeps_if l (is_delivered) (Traps trap.Delivered l) (after (unasked callee l) (λ is_unasked m. if not is_unasked then Traps trap.Asked m else subtask_asked t callee canon index m)) tt (keeps_after l (unasked callee l) (λ is_unasked m. if not is_unasked then Traps trap.Asked m else subtask_asked t callee canon index m) (unasked_keeps callee l) (λ is_unasked m. keeps_if m (not is_unasked) (Traps trap.Asked m) (subtask_asked t callee canon index m) tt (subtask_asked_keeps t callee canon index m))))))

pub subtask_drop_keeps : (t : ℕ) (at : ℕ) (words : List ℕ) (h : Held) → KeepsBy h (subtask_drop t at words h)
unfolding subtask_drop
subtask_drop_keeps t at words h =
    keeps_given h (word_in words 0) (λ index. after (subtask_found at index h) (λ callee k. after (delivered callee k) (λ is_delivered l. if not is_delivered then Traps trap.NotDelivered l else after (set_left at index l) (λ done m. after (entry_removed at index m) (λ done n. got t [] n))))) (λ index is. keeps_after h (subtask_found at index h) (λ callee k. after (delivered callee k) (λ is_delivered l. if not is_delivered then Traps trap.NotDelivered l else after (set_left at index l) (λ done m. after (entry_removed at index m) (λ done n. got t [] n)))) (subtask_found_keeps at index h) (λ callee k. keeps_after k (delivered callee k) (λ is_delivered l. if not is_delivered then Traps trap.NotDelivered l else after (set_left at index l) (λ done m. after (entry_removed at index m) (λ done n. got t [] n))) (delivered_keeps callee k) (λ is_delivered l. keeps_if l (not is_delivered) (Traps trap.NotDelivered l) (after (set_left at index l) (λ done m. after (entry_removed at index m) (λ done n. got t [] n))) tt (keeps_after l (set_left at index l) (λ done m. after (entry_removed at index m) (λ done n. got t [] n)) (set_left_keeps at index l) (λ done m. keeps_after m (entry_removed at index m) (λ done n. got t [] n) (entry_removed_keeps at index m) (λ done n. got_keeps t [] n))))))
