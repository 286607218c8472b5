-- Cancellation of tasks, and subtasks that leave the table (Component Model, CanonicalABI.md, `canon subtask.cancel` and `canon subtask.drop`;
-- Concurrency.md, "Cancellation").
use Rattle.std.specs.Prelude.{ℕ, not, if◌then◌else◌, List, []}
use Rattle.tasks.specs.declared.event.Asked.{Asked}
use Rattle.tasks.specs.declared.event.Asked.TheVariants as asking
use Rattle.tasks.specs.declared.subtask_state.SubtaskState.TheVariants as state
use Rattle.task_table.specs.declared.errand.Errand.TheVariants as errand
use Rattle.trace_labels.specs.declared.label.Label.TheVariants as line
use Rattle.trace_labels.specs.declared.trap.TrapName.TheVariants as trap
use Rattle.world_parts.specs.declared.parts.Rest.{Rest}
use Rattle.world_parts.specs.declared.parts.Rest.TheVariants as rest
use Rattle.world_parts.specs.declared.parts.Flow.{Flow}
use Rattle.world_parts.specs.declared.parts.Flow.TheVariants as flow
use Rattle.world_parts.specs.Held.{Held, Done, Gives, Traps, after, given}
use Rattle.world_parts.specs.Feed.{told, at_rest, chained, got}
use Rattle.world_parts.specs.Entries.{subtask_found, set_left, entry_removed}
use Rattle.world_parts.specs.Gates.{gate_unwaited}
use Rattle.world_parts.specs.Slots.{instance_of, word_in, delivered, unasked, resolved, errand_set, raised, cancel_asked, closed}

-- A task that waits to enter is cancelled at once: it resolves, and exits.
unfoldable pub removed : ℕ → Rest → Held → Done Flow
removed t behind h =
    after (instance_of t h) (λ at k. after (gate_unwaited at k) (λ done l. after (raised t state.CancelledBeforeStarted l) (λ done m.
    after (closed t m) (λ done n. after (told (line.Cancelled t) n) (λ done o. after (told (line.Exit t) o) (λ done p.
    Gives flow.Rests (at_rest behind p)))))))

-- One whose wait ends by it goes on now; another one is told later.
abbrev pub cancelled_by : Asked → ℕ → Rest → Held → Done Flow
cancelled_by asking.Removed t behind h = removed t behind h
cancelled_by asking.ResumeNow t behind h = after (chained t h) (λ done k. Gives flow.Rests (at_rest rest.Goes k))
cancelled_by asking.Pending t behind h = Gives flow.Rests (at_rest behind h)

unfoldable pub cancelled : ℕ → Rest → Held → Done Flow
cancelled t behind h = after (cancel_asked t h) (λ case k. cancelled_by case t behind k)

-- A subtask that has not resolved is cancelled. Then control is back at the task that asked for it.
unfoldable pub subtask_asked : ℕ → ℕ → ℕ → ℕ → Held → Done Flow
subtask_asked t callee canon index h =
    after (errand_set t (errand.AfterCancel callee canon index) h) (λ done k. after (resolved callee k) (λ is_over l.
    if is_over then Gives flow.Rests (at_rest rest.Back l) else cancelled callee rest.Back l))

unfoldable pub subtask_cancel : ℕ → ℕ → ℕ → List ℕ → Held → Done Flow
subtask_cancel t at canon words h =
    given (word_in words 0) (λ index. after (subtask_found at index h) (λ callee k. after (delivered callee k) (λ is_delivered l.
    if is_delivered then Traps trap.Delivered l else
    after (unasked callee l) (λ is_unasked m. if not is_unasked then Traps trap.Asked m else subtask_asked t callee canon index m))))

unfoldable pub subtask_drop : ℕ → ℕ → List ℕ → Held → Done Flow
subtask_drop t at words h =
    given (word_in words 0) (λ index. after (subtask_found at index h) (λ callee k. after (delivered callee k) (λ is_delivered l.
    if not is_delivered then Traps trap.NotDelivered l else
    after (set_left at index l) (λ done m. after (entry_removed at index m) (λ done n. got t [] n)))))
