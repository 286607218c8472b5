-- What lifting moved in the table of an instance, for the call of a task (Component Model, CanonicalABI.md, `lift_borrow`, `lift_stream` and
-- `lift_future`): a handle is lent for the call, with a line, and an end that left the table leaves its set.
use Rattle.std.specs.Prelude.{◌≡◌, ℕ, ◌+◌, Bool, true, false, not, if◌then◌else◌, List, [], ◌∷◌, Result, Ok, Err}
use Rattle.std.specs.List.{slice_get}
use Rattle.tasks.specs.Subtasks.{is_over}
use Rattle.task_table.specs.declared.caller.Caller.{Caller}
use Rattle.task_table.specs.declared.caller.Caller.TheVariants.{Nobody, Host, Guest}
use Rattle.task_table.specs.declared.refusal.LendError.{LendError}
use Rattle.task_table.specs.declared.refusal.LendError.TheVariants.{NoCall, Memory}
use Rattle.task_table.specs.declared.slot.TaskSlot.{TaskSlot}
use Rattle.task_table.specs.Callers.{with_lend}
use Rattle.task_table.specs.Slots.{with_called}
use Rattle.trace_labels.specs.declared.label.Label.TheVariants as line
use Rattle.value_lift.specs.declared.moved.Moved.{Moved}
use Rattle.value_lift.specs.declared.moved.Moved.TheVariants.{Lent, Taken}
use Rattle.world_parts.specs.Held.{Held, Done, Gives, Stuck, after, given}
use Rattle.world_parts.specs.Feed.{told}
use Rattle.world_parts.specs.Entries.{set_left}
use Rattle.world_parts.specs.Slots.{with_task}

-- Handles are lent for a call by a task, until it has resolved.
abbrev pub may_lend : Caller → Bool
may_lend Nobody = false
may_lend (Host call) = false
may_lend (Guest called) = not (is_over called.subtask.state)

abbrev pub lent_slot : ℕ → TaskSlot → TaskSlot
lent_slot handle slot = with_called (with_lend handle) slot

abbrev pub LentGives : ℕ → TaskSlot → Result (Unit {0}) LendError → TaskSlot → Type 0
LentGives handle old (Ok done) new = (may_lend old.caller ≡ true) × (new ≡ lent_slot handle old)
LentGives handle old (Err NoCall) new = may_lend old.caller ≡ false
LentGives handle old (Err Memory) new = Unit {0}

abbrev pub lend_kept : ℕ → ℕ → Held → Done (Unit {0})
lend_kept t handle h =
    given (slice_get h.tasks t) (λ slot. if may_lend slot.caller then Gives tt (with_task t (lent_slot handle slot) h) else Stuck)

-- Instances are counted from 1 in lines.
abbrev pub lent : ℕ → ℕ → ℕ → Held → Done (Unit {0})
lent at callee handle h = after (lend_kept callee handle h) (λ done k. told (line.Lend (at + 1) handle callee) k)

abbrev pub one_moved : ℕ → ℕ → Moved → Held → Done (Unit {0})
one_moved at callee (Lent handle) h = lent at callee handle h
one_moved at callee (Taken index) h = set_left at index h

abbrev pub all_moved : ℕ → ℕ → List Moved → Held → Done (Unit {0})
all_moved at callee [] h = Gives tt h
all_moved at callee (one ∷ moved) h = after (one_moved at callee one h) (λ done k. all_moved at callee moved k)
