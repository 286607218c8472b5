-- Cancellation of tasks, and subtasks that leave the table: the chain and the number of tasks stay, but where a part rests.
use Rattle.std.proofs.Common.{inl, refl}
use Rattle.std.specs.Prelude.{ℕ, not, if◌then◌else◌, List, []}
use Rattle.tasks.specs.declared.event.Asked.{Asked}
use Rattle.tasks.specs.declared.event.Asked.TheVariants as asking
use Rattle.tasks.specs.declared.subtask_state.SubtaskState.TheVariants as state
use Rattle.task_table.specs.declared.errand.Errand.TheVariants as errand
use Rattle.trace_labels.specs.declared.label.Label.TheVariants as line
use Rattle.trace_labels.specs.declared.trap.TrapName.TheVariants as trap
use Rattle.world_parts.specs.declared.parts.Rest.{Rest}
use Rattle.world_parts.specs.declared.parts.Rest.TheVariants as rest
use Rattle.world_parts.specs.declared.parts.Flow.TheVariants as flow
use Rattle.world_parts.specs.Held.{Held, Gives, Traps, after}
use Rattle.world_parts.specs.Feed.{told, at_rest, got}
use Rattle.world_parts.specs.Entries.{subtask_found, set_left, entry_removed}
use Rattle.world_parts.specs.Gates.{gate_unwaited}
use Rattle.world_parts.specs.Slots.{instance_of, word_in, delivered, unasked, resolved, errand_set, raised, cancel_asked, closed}
use Rattle.world_parts.specs.Subtasks.{cancelled, cancelled_by, removed, subtask_asked, subtask_cancel, subtask_drop}
use Rattle.run_laws.proofs.stays.Entries.{entry_removed_stays, set_left_stays, subtask_found_stays}
use Rattle.run_laws.proofs.stays.Feed.{got_stays, told_stays}
use Rattle.run_laws.proofs.stays.Gates.{gate_unwaited_stays}
use Rattle.run_laws.proofs.stays.Slots.{cancel_asked_stays, closed_stays, delivered_stays, errand_set_stays, instance_of_stays, raised_stays, resolved_stays, unasked_stays}
use Rattle.run_laws.proofs.stays.Same.{FlowsBy, flows_after, flows_given, flows_if, flows_all}

pub removed_stays : (t : ℕ) (behind : Rest) (h : Held) → FlowsBy h (removed t behind h)
unfolding removed
removed_stays t behind h =
    flows_after h (instance_of t h) (λ at k. after (gate_unwaited at k) (λ done l. after (raised t state.CancelledBeforeStarted l) (λ done m. after (closed t m) (λ done n. after (told (line.Cancelled t) n) (λ done o. after (told (line.Exit t) o) (λ done p. Gives flow.Rests (at_rest behind p))))))) (instance_of_stays t h) (λ at k. flows_after k (gate_unwaited at k) (λ done l. after (raised t state.CancelledBeforeStarted l) (λ done m. after (closed t m) (λ done n. after (told (line.Cancelled t) n) (λ done o. after (told (line.Exit t) o) (λ done p. Gives flow.Rests (at_rest behind p)))))) (gate_unwaited_stays at k) (λ done l. flows_after l (raised t state.CancelledBeforeStarted l) (λ done m. after (closed t m) (λ done n. after (told (line.Cancelled t) n) (λ done o. after (told (line.Exit t) o) (λ done p. Gives flow.Rests (at_rest behind p))))) (raised_stays t state.CancelledBeforeStarted l) (λ done m. flows_after m (closed t m) (λ done n. after (told (line.Cancelled t) n) (λ done o. after (told (line.Exit t) o) (λ done p. Gives flow.Rests (at_rest behind p)))) (closed_stays t m) (λ done n. flows_after n (told (line.Cancelled t) n) (λ done o. after (told (line.Exit t) o) (λ done p. Gives flow.Rests (at_rest behind p))) (told_stays (line.Cancelled t) n) (λ done o. flows_after o (told (line.Exit t) o) (λ done p. Gives flow.Rests (at_rest behind p)) (told_stays (line.Exit t) o) (λ done p. flows_all p (at_rest behind p) refl refl))))))

pub cancelled_by_stays : (asking : Asked) (t : ℕ) (behind : Rest) (h : Held) → FlowsBy h (cancelled_by asking t behind h)
cancelled_by_stays asking.Removed t behind h =
    removed_stays t behind h
cancelled_by_stays asking.ResumeNow t behind h = inl refl
cancelled_by_stays asking.Pending t behind h =
    flows_all h (at_rest behind h) refl refl

pub cancelled_stays : (t : ℕ) (behind : Rest) (h : Held) → FlowsBy h (cancelled t behind h)
unfolding cancelled
cancelled_stays t behind h =
    flows_after h (cancel_asked t h) (λ case k. cancelled_by case t behind k) (cancel_asked_stays t h) (λ case k. cancelled_by_stays case t behind k)

pub subtask_asked_stays : (t : ℕ) (callee : ℕ) (canon : ℕ) (index : ℕ) (h : Held) → FlowsBy h (subtask_asked t callee canon index h)
unfolding subtask_asked
subtask_asked_stays t callee canon index h =
    flows_after h (errand_set t (errand.AfterCancel callee canon index) h) (λ done k. after (resolved callee k) (λ is_over l. if is_over then Gives flow.Rests (at_rest rest.Back l) else cancelled callee rest.Back l)) (errand_set_stays t (errand.AfterCancel callee canon index) h) (λ done k. flows_after k (resolved callee k) (λ is_over l. if is_over then Gives flow.Rests (at_rest rest.Back l) else cancelled callee rest.Back l) (resolved_stays callee k) (λ is_over l. flows_if l (is_over) (Gives flow.Rests (at_rest rest.Back l)) (cancelled callee rest.Back l) (flows_all l (at_rest rest.Back l) refl refl) (cancelled_stays callee rest.Back l)))

pub subtask_cancel_stays : (t : ℕ) (at : ℕ) (canon : ℕ) (words : List ℕ) (h : Held) → FlowsBy h (subtask_cancel t at canon words h)
unfolding subtask_cancel
subtask_cancel_stays t at canon words h =
    flows_given h (word_in words 0) (λ index. after (subtask_found at index h) (λ callee k. after (delivered callee k) (λ is_delivered l. if is_delivered then Traps trap.Delivered l else after (unasked callee l) (λ is_unasked m. if not is_unasked then Traps trap.Asked m else subtask_asked t callee canon index m)))) (λ index is. flows_after h (subtask_found at index h) (λ callee k. after (delivered callee k) (λ is_delivered l. if is_delivered then Traps trap.Delivered l else after (unasked callee l) (λ is_unasked m. if not is_unasked then Traps trap.Asked m else subtask_asked t callee canon index m))) (subtask_found_stays at index h) (λ callee k. flows_after k (delivered callee k) (λ is_delivered l. if is_delivered then Traps trap.Delivered l else after (unasked callee l) (λ is_unasked m. if not is_unasked then Traps trap.Asked m else subtask_asked t callee canon index m)) (delivered_stays callee k) (λ is_delivered l. flows_if l (is_delivered) (Traps trap.Delivered l) (after (unasked callee l) (λ is_unasked m. if not is_unasked then Traps trap.Asked m else subtask_asked t callee canon index m)) tt (flows_after l (unasked callee l) (λ is_unasked m. if not is_unasked then Traps trap.Asked m else subtask_asked t callee canon index m) (unasked_stays callee l) (λ is_unasked m. flows_if m (not is_unasked) (Traps trap.Asked m) (subtask_asked t callee canon index m) tt (subtask_asked_stays t callee canon index m))))))

pub subtask_drop_stays : (t : ℕ) (at : ℕ) (words : List ℕ) (h : Held) → FlowsBy h (subtask_drop t at words h)
unfolding subtask_drop
subtask_drop_stays t at words h =
    flows_given h (word_in words 0) (λ index. after (subtask_found at index h) (λ callee k. after (delivered callee k) (λ is_delivered l. if not is_delivered then Traps trap.NotDelivered l else after (set_left at index l) (λ done m. after (entry_removed at index m) (λ done n. got t [] n))))) (λ index is. flows_after h (subtask_found at index h) (λ callee k. after (delivered callee k) (λ is_delivered l. if not is_delivered then Traps trap.NotDelivered l else after (set_left at index l) (λ done m. after (entry_removed at index m) (λ done n. got t [] n)))) (subtask_found_stays at index h) (λ callee k. flows_after k (delivered callee k) (λ is_delivered l. if not is_delivered then Traps trap.NotDelivered l else after (set_left at index l) (λ done m. after (entry_removed at index m) (λ done n. got t [] n))) (delivered_stays callee k) (λ is_delivered l. flows_if l (not is_delivered) (Traps trap.NotDelivered l) (after (set_left at index l) (λ done m. after (entry_removed at index m) (λ done n. got t [] n))) tt (flows_after l (set_left at index l) (λ done m. after (entry_removed at index m) (λ done n. got t [] n)) (set_left_stays at index l) (λ done m. flows_after m (entry_removed at index m) (λ done n. got t [] n) (entry_removed_stays at index m) (λ done n. got_stays t [] n))))))
