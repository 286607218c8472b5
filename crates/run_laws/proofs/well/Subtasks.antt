-- Cancellation of tasks, and subtasks that leave the table: what is kept well stays so.
use Rattle.std.proofs.Common.{refl}
use Rattle.std.specs.Prelude.{ℕ, not, if◌then◌else◌, List, []}
use Rattle.tasks.specs.declared.event.Asked.{Asked}
use Rattle.tasks.specs.declared.event.Asked.TheVariants as asking
use Rattle.tasks.specs.declared.subtask_state.SubtaskState.TheVariants as state
use Rattle.task_table.specs.declared.errand.Errand.TheVariants as errand
use Rattle.trace_labels.specs.declared.label.Label.TheVariants as line
use Rattle.trace_labels.specs.declared.trap.TrapName.TheVariants as trap
use Rattle.world_parts.specs.declared.parts.Rest.{Rest}
use Rattle.world_parts.specs.declared.parts.Rest.TheVariants as rest
use Rattle.world_parts.specs.declared.parts.Flow.TheVariants as flow
use Rattle.world_parts.specs.Held.{Held, Gives, Traps, after}
use Rattle.world_parts.specs.Feed.{told, at_rest, chained, got}
use Rattle.world_parts.specs.Entries.{subtask_found, set_left, entry_removed}
use Rattle.world_parts.specs.Gates.{gate_unwaited}
use Rattle.world_parts.specs.Slots.{instance_of, word_in, delivered, unasked, resolved, errand_set, raised, cancel_asked, closed}
use Rattle.world_parts.specs.Subtasks.{cancelled, cancelled_by, removed, subtask_asked, subtask_cancel, subtask_drop}
use Rattle.run_laws.specs.keeping.Well.{KeepsWell}
use Rattle.run_laws.proofs.well.Entries.{entry_removed_well, set_left_well, subtask_found_well}
use Rattle.run_laws.proofs.well.Feed.{chained_well, got_well, told_well}
use Rattle.run_laws.proofs.well.Gates.{gate_unwaited_well}
use Rattle.run_laws.proofs.well.Slots.{cancel_asked_well, closed_well, delivered_well, errand_set_well, instance_of_well, raised_well, resolved_well, unasked_well}
use Rattle.run_laws.proofs.well.Behind.{well_after, well_given, well_if, well_all}

pub removed_well : (t : ℕ) (behind : Rest) (h : Held) → KeepsWell h (removed t behind h)
unfolding removed
removed_well t behind h =
    well_after h (instance_of t h) (λ at k. after (gate_unwaited at k) (λ done l. after (raised t state.CancelledBeforeStarted l) (λ done m. after (closed t m) (λ done n. after (told (line.Cancelled t) n) (λ done o. after (told (line.Exit t) o) (λ done p. Gives flow.Rests (at_rest behind p))))))) (instance_of_well t h) (λ at k. well_after k (gate_unwaited at k) (λ done l. after (raised t state.CancelledBeforeStarted l) (λ done m. after (closed t m) (λ done n. after (told (line.Cancelled t) n) (λ done o. after (told (line.Exit t) o) (λ done p. Gives flow.Rests (at_rest behind p)))))) (gate_unwaited_well at k) (λ done l. well_after l (raised t state.CancelledBeforeStarted l) (λ done m. after (closed t m) (λ done n. after (told (line.Cancelled t) n) (λ done o. after (told (line.Exit t) o) (λ done p. Gives flow.Rests (at_rest behind p))))) (raised_well t state.CancelledBeforeStarted l) (λ done m. well_after m (closed t m) (λ done n. after (told (line.Cancelled t) n) (λ done o. after (told (line.Exit t) o) (λ done p. Gives flow.Rests (at_rest behind p)))) (closed_well t m) (λ done n. well_after n (told (line.Cancelled t) n) (λ done o. after (told (line.Exit t) o) (λ done p. Gives flow.Rests (at_rest behind p))) (told_well (line.Cancelled t) n) (λ done o. well_after o (told (line.Exit t) o) (λ done p. Gives flow.Rests (at_rest behind p)) (told_well (line.Exit t) o) (λ done p. well_all p (at_rest behind p) refl))))))

pub cancelled_by_well : (asking : Asked) (t : ℕ) (behind : Rest) (h : Held) → KeepsWell h (cancelled_by asking t behind h)
cancelled_by_well asking.Removed t behind h =
    removed_well t behind h
cancelled_by_well asking.ResumeNow t behind h =
    well_after h (chained t h) (λ done k. Gives flow.Rests (at_rest rest.Goes k)) (chained_well t h) (λ done k. well_all k (at_rest rest.Goes k) refl)
cancelled_by_well asking.Pending t behind h =
    well_all h (at_rest behind h) refl

pub cancelled_well : (t : ℕ) (behind : Rest) (h : Held) → KeepsWell h (cancelled t behind h)
unfolding cancelled
cancelled_well t behind h =
    well_after h (cancel_asked t h) (λ case k. cancelled_by case t behind k) (cancel_asked_well t h) (λ case k. cancelled_by_well case t behind k)

pub subtask_asked_well : (t : ℕ) (callee : ℕ) (canon : ℕ) (index : ℕ) (h : Held) → KeepsWell h (subtask_asked t callee canon index h)
unfolding subtask_asked
subtask_asked_well t callee canon index h =
    well_after h (errand_set t (errand.AfterCancel callee canon index) h) (λ done k. after (resolved callee k) (λ is_over l. if is_over then Gives flow.Rests (at_rest rest.Back l) else cancelled callee rest.Back l)) (errand_set_well t (errand.AfterCancel callee canon index) h tt) (λ done k. well_after k (resolved callee k) (λ is_over l. if is_over then Gives flow.Rests (at_rest rest.Back l) else cancelled callee rest.Back l) (resolved_well callee k) (λ is_over l. well_if l (is_over) (Gives flow.Rests (at_rest rest.Back l)) (cancelled callee rest.Back l) (well_all l (at_rest rest.Back l) refl) (cancelled_well callee rest.Back l)))

pub subtask_cancel_well : (t : ℕ) (at : ℕ) (canon : ℕ) (words : List ℕ) (h : Held) → KeepsWell h (subtask_cancel t at canon words h)
unfolding subtask_cancel
subtask_cancel_well t at canon words h =
    well_given h (word_in words 0) (λ index. after (subtask_found at index h) (λ callee k. after (delivered callee k) (λ is_delivered l. if is_delivered then Traps trap.Delivered l else after (unasked callee l) (λ is_unasked m. if not is_unasked then Traps trap.Asked m else subtask_asked t callee canon index m)))) (λ index is. well_after h (subtask_found at index h) (λ callee k. after (delivered callee k) (λ is_delivered l. if is_delivered then Traps trap.Delivered l else after (unasked callee l) (λ is_unasked m. if not is_unasked then Traps trap.Asked m else subtask_asked t callee canon index m))) (subtask_found_well at index h) (λ callee k. well_after k (delivered callee k) (λ is_delivered l. if is_delivered then Traps trap.Delivered l else after (unasked callee l) (λ is_unasked m. if not is_unasked then Traps trap.Asked m else subtask_asked t callee canon index m)) (delivered_well callee k) (λ is_delivered l. well_if l (is_delivered) (Traps trap.Delivered l) (after (unasked callee l) (λ is_unasked m. if not is_unasked then Traps trap.Asked m else subtask_asked t callee canon index m)) tt (well_after l (unasked callee l) (λ is_unasked m. if not is_unasked then Traps trap.Asked m else subtask_asked t callee canon index m) (unasked_well callee l) (λ is_unasked m. well_if m (not is_unasked) (Traps trap.Asked m) (subtask_asked t callee canon index m) tt (subtask_asked_well t callee canon index m))))))

pub subtask_drop_well : (t : ℕ) (at : ℕ) (words : List ℕ) (h : Held) → KeepsWell h (subtask_drop t at words h)
unfolding subtask_drop
subtask_drop_well t at words h =
    well_given h (word_in words 0) (λ index. after (subtask_found at index h) (λ callee k. after (delivered callee k) (λ is_delivered l. if not is_delivered then Traps trap.NotDelivered l else after (set_left at index l) (λ done m. after (entry_removed at index m) (λ done n. got t [] n))))) (λ index is. well_after h (subtask_found at index h) (λ callee k. after (delivered callee k) (λ is_delivered l. if not is_delivered then Traps trap.NotDelivered l else after (set_left at index l) (λ done m. after (entry_removed at index m) (λ done n. got t [] n)))) (subtask_found_well at index h) (λ callee k. well_after k (delivered callee k) (λ is_delivered l. if not is_delivered then Traps trap.NotDelivered l else after (set_left at index l) (λ done m. after (entry_removed at index m) (λ done n. got t [] n))) (delivered_well callee k) (λ is_delivered l. well_if l (not is_delivered) (Traps trap.NotDelivered l) (after (set_left at index l) (λ done m. after (entry_removed at index m) (λ done n. got t [] n))) tt (well_after l (set_left at index l) (λ done m. after (entry_removed at index m) (λ done n. got t [] n)) (set_left_well at index l) (λ done m. well_after m (entry_removed at index m) (λ done n. got t [] n) (entry_removed_well at index m) (λ done n. got_well t [] n))))))
