-- Cancellation of tasks, and subtasks that leave the table, keep memories, core instances and ends as they are kept.
use Rattle.std.proofs.Common.{refl}
use Rattle.std.specs.Prelude.{ℕ, not, if◌then◌else◌, List, []}
use Rattle.tasks.specs.declared.event.Asked.{Asked}
use Rattle.tasks.specs.declared.event.Asked.TheVariants as asking
use Rattle.tasks.specs.declared.subtask_state.SubtaskState.TheVariants as state
use Rattle.task_table.specs.declared.errand.Errand.TheVariants as errand
use Rattle.trace_labels.specs.declared.label.Label.TheVariants as line
use Rattle.trace_labels.specs.declared.trap.TrapName.TheVariants as trap
use Rattle.world_parts.specs.declared.parts.Rest.{Rest}
use Rattle.world_parts.specs.declared.parts.Rest.TheVariants as rest
use Rattle.world_parts.specs.declared.parts.Flow.TheVariants as flow
use Rattle.world_parts.specs.Held.{Held, Gives, Traps, after}
use Rattle.world_parts.specs.Feed.{told, at_rest, chained, got}
use Rattle.world_parts.specs.Entries.{subtask_found, set_left, entry_removed}
use Rattle.world_parts.specs.Gates.{gate_unwaited}
use Rattle.world_parts.specs.Slots.{instance_of, word_in, delivered, unasked, resolved, errand_set, raised, cancel_asked, closed}
use Rattle.world_parts.specs.Subtasks.{cancelled, cancelled_by, removed, subtask_asked, subtask_cancel, subtask_drop}
use Rattle.run_laws.proofs.keeping.still.Still.{Kinds, StillBy, still_after, still_given, still_if, still_all}
use Rattle.run_laws.proofs.keeping.still.Entries.{entry_removed_still, set_left_still, subtask_found_still}
use Rattle.run_laws.proofs.keeping.still.Feed.{chained_still, got_still, told_still}
use Rattle.run_laws.proofs.keeping.still.Gates.{gate_unwaited_still}
use Rattle.run_laws.proofs.keeping.still.Slots.{cancel_asked_still, closed_still, delivered_still, errand_set_still, instance_of_still, raised_still, resolved_still, unasked_still}

pub removed_still : (W : Kinds) → (t : ℕ) (behind : Rest) (h : Held) → StillBy W h (removed t behind h)
unfolding removed
removed_still W t behind h =
    still_after W h (instance_of t h) (λ at k. after (gate_unwaited at k) (λ done l. after (raised t state.CancelledBeforeStarted l) (λ done m. after (closed t m) (λ done n. after (told (line.Cancelled t) n) (λ done o. after (told (line.Exit t) o) (λ done p. Gives flow.Rests (at_rest behind p))))))) (instance_of_still W t h) (λ at k. still_after W k (gate_unwaited at k) (λ done l. after (raised t state.CancelledBeforeStarted l) (λ done m. after (closed t m) (λ done n. after (told (line.Cancelled t) n) (λ done o. after (told (line.Exit t) o) (λ done p. Gives flow.Rests (at_rest behind p)))))) (gate_unwaited_still W at k) (λ done l. still_after W l (raised t state.CancelledBeforeStarted l) (λ done m. after (closed t m) (λ done n. after (told (line.Cancelled t) n) (λ done o. after (told (line.Exit t) o) (λ done p. Gives flow.Rests (at_rest behind p))))) (raised_still W t state.CancelledBeforeStarted l) (λ done m. still_after W m (closed t m) (λ done n. after (told (line.Cancelled t) n) (λ done o. after (told (line.Exit t) o) (λ done p. Gives flow.Rests (at_rest behind p)))) (closed_still W t m) (λ done n. still_after W n (told (line.Cancelled t) n) (λ done o. after (told (line.Exit t) o) (λ done p. Gives flow.Rests (at_rest behind p))) (told_still W (line.Cancelled t) n) (λ done o. still_after W o (told (line.Exit t) o) (λ done p. Gives flow.Rests (at_rest behind p)) (told_still W (line.Exit t) o) (λ done p. still_all W p (at_rest behind p) refl refl refl refl refl))))))

pub cancelled_by_still : (W : Kinds) → (asking : Asked) (t : ℕ) (behind : Rest) (h : Held) → StillBy W h (cancelled_by asking t behind h)
cancelled_by_still W asking.Removed t behind h =
    removed_still W t behind h
cancelled_by_still W asking.ResumeNow t behind h =
    still_after W h (chained t h) (λ done k. Gives flow.Rests (at_rest rest.Goes k)) (chained_still W t h) (λ done k. still_all W k (at_rest rest.Goes k) refl refl refl refl refl)
cancelled_by_still W asking.Pending t behind h =
    still_all W h (at_rest behind h) refl refl refl refl refl

pub cancelled_still : (W : Kinds) → (t : ℕ) (behind : Rest) (h : Held) → StillBy W h (cancelled t behind h)
unfolding cancelled
cancelled_still W t behind h =
    still_after W h (cancel_asked t h) (λ case k. cancelled_by case t behind k) (cancel_asked_still W t h) (λ case k. cancelled_by_still W case t behind k)

pub subtask_asked_still : (W : Kinds) → (t : ℕ) (callee : ℕ) (canon : ℕ) (index : ℕ) (h : Held) → StillBy W h (subtask_asked t callee canon index h)
unfolding subtask_asked
subtask_asked_still W t callee canon index h =
    still_after W h (errand_set t (errand.AfterCancel callee canon index) h) (λ done k. after (resolved callee k) (λ is_over l. if is_over then Gives flow.Rests (at_rest rest.Back l) else cancelled callee rest.Back l)) (errand_set_still W t (errand.AfterCancel callee canon index) h) (λ done k. still_after W k (resolved callee k) (λ is_over l. if is_over then Gives flow.Rests (at_rest rest.Back l) else cancelled callee rest.Back l) (resolved_still W callee k) (λ is_over l. still_if W l (is_over) (Gives flow.Rests (at_rest rest.Back l)) (cancelled callee rest.Back l) (still_all W l (at_rest rest.Back l) refl refl refl refl refl) (cancelled_still W callee rest.Back l)))

pub subtask_cancel_still : (W : Kinds) → (t : ℕ) (at : ℕ) (canon : ℕ) (words : List ℕ) (h : Held) → StillBy W h (subtask_cancel t at canon words h)
unfolding subtask_cancel
subtask_cancel_still W t at canon words h =
    still_given W h (word_in words 0) (λ index. after (subtask_found at index h) (λ callee k. after (delivered callee k) (λ is_delivered l. if is_delivered then Traps trap.Delivered l else after (unasked callee l) (λ is_unasked m. if not is_unasked then Traps trap.Asked m else subtask_asked t callee canon index m)))) (λ index is. still_after W h (subtask_found at index h) (λ callee k. after (delivered callee k) (λ is_delivered l. if is_delivered then Traps trap.Delivered l else after (unasked callee l) (λ is_unasked m. if not is_unasked then Traps trap.Asked m else subtask_asked t callee canon index m))) (subtask_found_still W at index h) (λ callee k. still_after W k (delivered callee k) (λ is_delivered l. if is_delivered then Traps trap.Delivered l else after (unasked callee l) (λ is_unasked m. if not is_unasked then Traps trap.Asked m else subtask_asked t callee canon index m)) (delivered_still W callee k) (λ is_delivered l. still_if W l (is_delivered) (Traps trap.Delivered l) (after (unasked callee l) (λ is_unasked m. if not is_unasked then Traps trap.Asked m else subtask_asked t callee canon index m)) (λ K asked kept. kept) (still_after W l (unasked callee l) (λ is_unasked m. if not is_unasked then Traps trap.Asked m else subtask_asked t callee canon index m) (unasked_still W callee l) (λ is_unasked m. still_if W m (not is_unasked) (Traps trap.Asked m) (subtask_asked t callee canon index m) (λ K asked kept. kept) (subtask_asked_still W t callee canon index m))))))

pub subtask_drop_still : (W : Kinds) → (t : ℕ) (at : ℕ) (words : List ℕ) (h : Held) → StillBy W h (subtask_drop t at words h)
unfolding subtask_drop
subtask_drop_still W t at words h =
    still_given W h (word_in words 0) (λ index. after (subtask_found at index h) (λ callee k. after (delivered callee k) (λ is_delivered l. if not is_delivered then Traps trap.NotDelivered l else after (set_left at index l) (λ done m. after (entry_removed at index m) (λ done n. got t [] n))))) (λ index is. still_after W h (subtask_found at index h) (λ callee k. after (delivered callee k) (λ is_delivered l. if not is_delivered then Traps trap.NotDelivered l else after (set_left at index l) (λ done m. after (entry_removed at index m) (λ done n. got t [] n)))) (subtask_found_still W at index h) (λ callee k. still_after W k (delivered callee k) (λ is_delivered l. if not is_delivered then Traps trap.NotDelivered l else after (set_left at index l) (λ done m. after (entry_removed at index m) (λ done n. got t [] n))) (delivered_still W callee k) (λ is_delivered l. still_if W l (not is_delivered) (Traps trap.NotDelivered l) (after (set_left at index l) (λ done m. after (entry_removed at index m) (λ done n. got t [] n))) (λ K asked kept. kept) (still_after W l (set_left at index l) (λ done m. after (entry_removed at index m) (λ done n. got t [] n)) (set_left_still W at index l) (λ done m. still_after W m (entry_removed at index m) (λ done n. got t [] n) (entry_removed_still W at index m) (λ done n. got_still W t [] n))))))
