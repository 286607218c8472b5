-- Cancellation of tasks, and subtasks that leave the table: lists of tasks stay as they follow from the tasks.
use Rattle.std.proofs.Common.{◌≡◌, ◌++◌, ◌∷◌, true, false, nat_lt, refl, sym, ap, ◌∙◌}
use Rattle.std.specs.Prelude.{ℕ, Bool, not, if◌then◌else◌, List, [], Some, None}
use Rattle.std.specs.List.{slice_get}
use Rattle.entry_gate.specs.Gates.{is_free, without_wait}
use Rattle.instances.specs.Instances.{with_gate}
use Rattle.tasks.specs.declared.event.Asked.{Asked}
use Rattle.tasks.specs.declared.event.Asked.TheVariants as asking
use Rattle.tasks.specs.declared.phase.Phase.TheVariants as phase
use Rattle.tasks.specs.declared.phase.Resolution.TheVariants as resolution
use Rattle.tasks.specs.declared.subtask_state.SubtaskState.TheVariants as state
use Rattle.tasks.specs.Tasks as tasks
use Rattle.tasks.specs.Tasks.{may_cancel, cancel_case}
use Rattle.task_table.specs.declared.errand.Errand.TheVariants as errand
use Rattle.task_table.specs.declared.slot.TaskSlot.{TaskSlot}
use Rattle.task_table.specs.Callers as callers
use Rattle.task_table.specs.Callers.{may_raise}
use Rattle.task_table.specs.Slots as slots
use Rattle.task_table.specs.Slots.{cancel_answer, cancelled_slot, raised_slot}
use Rattle.task_table.specs.Tasks.{without, unwatched}
use Rattle.trace_labels.specs.declared.label.Label.TheVariants as line
use Rattle.trace_labels.specs.declared.trap.TrapName.TheVariants as trap
use Rattle.world_parts.specs.declared.parts.Rest.{Rest}
use Rattle.world_parts.specs.declared.parts.Rest.TheVariants as rest
use Rattle.world_parts.specs.declared.parts.Flow.TheVariants as flow
use Rattle.world_parts.specs.Held.{Held, Gives, Traps, Stuck, after, given}
use Rattle.world_parts.specs.Feed.{told, at_rest, got}
use Rattle.world_parts.specs.Entries.{with_instance, subtask_found, set_left, entry_removed}
use Rattle.world_parts.specs.Gates.{gate_unwaited, entry_is_free}
use Rattle.world_parts.specs.Slots.{with_task, asked_by, word_in, delivered, unasked, resolved, errand_set, raised, closed}
use Rattle.world_parts.specs.Subtasks.{cancelled, cancelled_by, removed, subtask_asked, subtask_cancel, subtask_drop}
use Rattle.abi_machine.proofs.sound.Found.{some_same}
use Rattle.standing.proofs.Agreeing.{get_set}
use Rattle.run_laws.specs.TaskLists.{is_open, call_of}
use Rattle.run_laws.proofs.keeping.Alike.{set_twice}
use Rattle.run_laws.proofs.lists.Entries.{entry_removed_lists, set_left_lists, subtask_found_lists}
use Rattle.run_laws.proofs.lists.Feed.{got_lists}
use Rattle.run_laws.proofs.lists.Slots.{delivered_lists, errand_set_lists, resolved_lists, unasked_lists}
use Rattle.run_laws.proofs.lists.Same.{ListsBy, call_kept, lists_after, lists_given, lists_look, lists_if, lists_all, lists_task, lists_close, further_lists, tested_lists}

-- A task that is cancelled before it enters exits.
removed_lists : (t : ℕ) (behind : Rest) (h : Held) (x : TaskSlot) → slice_get h.tasks t ≡ Some x
    → ListsBy h (removed t behind (with_task t (slots.with_task (record x.task { phase = phase.Exited; resolution = Some resolution.Cancelled }) x) h))
unfolding removed
removed_lists t behind h x is =
    let y : TaskSlot = slots.with_task (record x.task { phase = phase.Exited; resolution = Some resolution.Cancelled }) x in
    let k : Held = with_task t y h in
    lists_look h (slice_get k.tasks t) (λ slot. Gives slot.instance k)
    (λ at k. after (gate_unwaited at k) (λ done l. after (raised t state.CancelledBeforeStarted l) (λ done m. after (closed t m) (λ done n. after (told (line.Cancelled t) n) (λ done o. after (told (line.Exit t) o) (λ done p. Gives flow.Rests (at_rest behind p)))))))
    (λ z here.
    lists_look h (slice_get k.instances z.instance)
    (λ i. if nat_lt 0 i.gate.waiting then Gives (tt {0}) (with_instance z.instance (with_gate (without_wait i.gate) i) k) else Stuck)
    (λ done l. after (raised t state.CancelledBeforeStarted l) (λ done m. after (closed t m) (λ done n. after (told (line.Cancelled t) n) (λ done o. after (told (line.Exit t) o) (λ done p. Gives flow.Rests (at_rest behind p))))))
    (λ i there.
    let l : Held = with_instance z.instance (with_gate (without_wait i.gate) i) k in
    tested_lists h (nat_lt 0 i.gate.waiting) (Gives (tt {0}) l)
    (λ done l. after (raised t state.CancelledBeforeStarted l) (λ done m. after (closed t m) (λ done n. after (told (line.Cancelled t) n) (λ done o. after (told (line.Exit t) o) (λ done p. Gives flow.Rests (at_rest behind p))))))
    (lists_look h (slice_get l.tasks t)
    (λ slot. if may_raise state.CancelledBeforeStarted slot.caller then Gives (tt {0}) (with_task t (raised_slot state.CancelledBeforeStarted slot) l) else Stuck)
    (λ done m. after (closed t m) (λ done n. after (told (line.Cancelled t) n) (λ done o. after (told (line.Exit t) o) (λ done p. Gives flow.Rests (at_rest behind p)))))
    (λ u found.
    let m : Held = with_task t (raised_slot state.CancelledBeforeStarted u) l in
    let same : u ≡ y = some_same (sym found ∙ get_set h.tasks t x y is) in
    let n : Held = record m {
      live = without t m.live;
      watched = unwatched t m.watched;
      labels = (m.labels ++ line.Cancelled t ∷ []) ++ line.Exit t ∷ [];
      rest = behind;
    } in
    tested_lists h (may_raise state.CancelledBeforeStarted u.caller) (Gives (tt {0}) m)
    (λ done m. after (closed t m) (λ done n. after (told (line.Cancelled t) n) (λ done o. after (told (line.Exit t) o) (λ done p. Gives flow.Rests (at_rest behind p)))))
    (lists_close h n t x (raised_slot state.CancelledBeforeStarted u) is (ap is_open same)
    (call_kept (callers.raised state.CancelledBeforeStarted) u.caller ∙ ap (λ (s : TaskSlot). call_of s.caller) same)
    (set_twice h.tasks t y (raised_slot state.CancelledBeforeStarted u)) refl refl refl refl)))))

-- By what comes of it.
cancelled_by_lists : (case : Asked) (t : ℕ) (behind : Rest) (h : Held) (x : TaskSlot) → slice_get h.tasks t ≡ Some x
    → ListsBy h (cancelled_by case t behind (with_task t (slots.with_task (tasks.cancelled case x.task) x) h))
cancelled_by_lists asking.Removed t behind h x is = removed_lists t behind h x is
cancelled_by_lists asking.ResumeNow t behind h x is =
    lists_task h t x (slots.with_task (tasks.cancelled asking.ResumeNow x.task) x) is (record { exited = refl; waits = refl; needs = refl; call = refl })
cancelled_by_lists asking.Pending t behind h x is =
    lists_task h t x (slots.with_task (tasks.cancelled asking.Pending x.task) x) is (record { exited = refl; waits = refl; needs = refl; call = refl })

asked_lists : (b : Bool) (case : Asked) (t : ℕ) (behind : Rest) (h : Held) (x : TaskSlot) → slice_get h.tasks t ≡ Some x
    → ListsBy h (after (asked_by (if b then Some case else None) t (if b then slots.with_task (tasks.cancelled case x.task) x else x) h) (λ case k. cancelled_by case t behind k))
asked_lists true case t behind h x is = cancelled_by_lists case t behind h x is
asked_lists false case t behind h x is = tt

pub cancelled_lists : (t : ℕ) (behind : Rest) (h : Held) → ListsBy h (cancelled t behind h)
unfolding cancelled
cancelled_lists t behind h =
    further_lists h (slice_get h.tasks t) (λ slot. Gives slot.instance h)
    (λ at k. after (entry_is_free at k) (λ free l. given (slice_get l.tasks t) (λ slot. asked_by (cancel_answer free slot.task) t (cancelled_slot free slot) l)))
    (λ case k. cancelled_by case t behind k)
    (λ z here.
    further_lists h (slice_get h.instances z.instance) (λ i. Gives (is_free i.gate) h)
    (λ free l. given (slice_get l.tasks t) (λ slot. asked_by (cancel_answer free slot.task) t (cancelled_slot free slot) l)) (λ case k. cancelled_by case t behind k)
    (λ i there.
    lists_look h (slice_get h.tasks t) (λ slot. asked_by (cancel_answer (is_free i.gate) slot.task) t (cancelled_slot (is_free i.gate) slot) h) (λ case k. cancelled_by case t behind k)
    (λ x is. asked_lists (may_cancel x.task) (cancel_case (is_free i.gate) x.task) t behind h x is)))

pub subtask_asked_lists : (t : ℕ) (callee : ℕ) (canon : ℕ) (index : ℕ) (h : Held) → ListsBy h (subtask_asked t callee canon index h)
unfolding subtask_asked
subtask_asked_lists t callee canon index h =
    lists_after h (errand_set t (errand.AfterCancel callee canon index) h) (λ done k. after (resolved callee k) (λ is_over l. if is_over then Gives flow.Rests (at_rest rest.Back l) else cancelled callee rest.Back l)) (errand_set_lists t (errand.AfterCancel callee canon index) h) (λ done k. lists_after k (resolved callee k) (λ is_over l. if is_over then Gives flow.Rests (at_rest rest.Back l) else cancelled callee rest.Back l) (resolved_lists callee k) (λ is_over l. lists_if l (is_over) (Gives flow.Rests (at_rest rest.Back l)) (cancelled callee rest.Back l) (lists_all l (at_rest rest.Back l) refl refl refl refl refl) (cancelled_lists callee rest.Back l)))

pub subtask_cancel_lists : (t : ℕ) (at : ℕ) (canon : ℕ) (words : List ℕ) (h : Held) → ListsBy h (subtask_cancel t at canon words h)
unfolding subtask_cancel
subtask_cancel_lists t at canon words h =
    lists_given h (word_in words 0) (λ index. after (subtask_found at index h) (λ callee k. after (delivered callee k) (λ is_delivered l. if is_delivered then Traps trap.Delivered l else after (unasked callee l) (λ is_unasked m. if not is_unasked then Traps trap.Asked m else subtask_asked t callee canon index m)))) (λ index is. lists_after h (subtask_found at index h) (λ callee k. after (delivered callee k) (λ is_delivered l. if is_delivered then Traps trap.Delivered l else after (unasked callee l) (λ is_unasked m. if not is_unasked then Traps trap.Asked m else subtask_asked t callee canon index m))) (subtask_found_lists at index h) (λ callee k. lists_after k (delivered callee k) (λ is_delivered l. if is_delivered then Traps trap.Delivered l else after (unasked callee l) (λ is_unasked m. if not is_unasked then Traps trap.Asked m else subtask_asked t callee canon index m)) (delivered_lists callee k) (λ is_delivered l. lists_if l (is_delivered) (Traps trap.Delivered l) (after (unasked callee l) (λ is_unasked m. if not is_unasked then Traps trap.Asked m else subtask_asked t callee canon index m)) tt (lists_after l (unasked callee l) (λ is_unasked m. if not is_unasked then Traps trap.Asked m else subtask_asked t callee canon index m) (unasked_lists callee l) (λ is_unasked m. lists_if m (not is_unasked) (Traps trap.Asked m) (subtask_asked t callee canon index m) tt (subtask_asked_lists t callee canon index m))))))

pub subtask_drop_lists : (t : ℕ) (at : ℕ) (words : List ℕ) (h : Held) → ListsBy h (subtask_drop t at words h)
unfolding subtask_drop
subtask_drop_lists t at words h =
    lists_given h (word_in words 0) (λ index. after (subtask_found at index h) (λ callee k. after (delivered callee k) (λ is_delivered l. if not is_delivered then Traps trap.NotDelivered l else after (set_left at index l) (λ done m. after (entry_removed at index m) (λ done n. got t [] n))))) (λ index is. lists_after h (subtask_found at index h) (λ callee k. after (delivered callee k) (λ is_delivered l. if not is_delivered then Traps trap.NotDelivered l else after (set_left at index l) (λ done m. after (entry_removed at index m) (λ done n. got t [] n)))) (subtask_found_lists at index h) (λ callee k. lists_after k (delivered callee k) (λ is_delivered l. if not is_delivered then Traps trap.NotDelivered l else after (set_left at index l) (λ done m. after (entry_removed at index m) (λ done n. got t [] n))) (delivered_lists callee k) (λ is_delivered l. lists_if l (not is_delivered) (Traps trap.NotDelivered l) (after (set_left at index l) (λ done m. after (entry_removed at index m) (λ done n. got t [] n))) tt (lists_after l (set_left at index l) (λ done m. after (entry_removed at index m) (λ done n. got t [] n)) (set_left_lists at index l) (λ done m. lists_after m (entry_removed at index m) (λ done n. got t [] n) (entry_removed_lists at index m) (λ done n. got_lists t [] n))))))
