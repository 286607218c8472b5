-- What lifting moved is told: the store stays, and no handle is lent more often.
use Rattle.std.proofs.Common.{◌≡◌, refl}
use Rattle.std.specs.Prelude.{◌≡◌, ℕ, ◌+◌, Bool, true, false, not, if◌then◌else◌, List, [], ◌∷◌, Result, Ok, Err}
use Rattle.std.specs.List.{slice_get}
use Rattle.tasks.specs.Subtasks.{is_over}
use Rattle.task_table.specs.declared.caller.Caller.{Caller}
use Rattle.task_table.specs.declared.caller.Caller.TheVariants.{Nobody, Host, Guest}
use Rattle.task_table.specs.declared.refusal.LendError.{LendError}
use Rattle.task_table.specs.declared.refusal.LendError.TheVariants.{NoCall, Memory}
use Rattle.task_table.specs.declared.slot.TaskSlot.{TaskSlot}
use Rattle.task_table.specs.Callers.{with_lend}
use Rattle.task_table.specs.Slots.{with_called}
use Rattle.trace_labels.specs.declared.label.Label.TheVariants as line
use Rattle.value_lift.specs.declared.moved.Moved.{Moved}
use Rattle.value_lift.specs.declared.moved.Moved.TheVariants.{Lent, Taken}
use Rattle.world_parts.specs.Held.{Held, Done, Gives, Stuck, after, given}
use Rattle.world_parts.specs.Feed.{told}
use Rattle.world_parts.specs.Entries.{set_left}
use Rattle.world_parts.specs.Slots.{with_task}
use Rattle.value_parts.specs.Loans.{LentGives, all_moved, lend_kept, lent, lent_slot, may_lend, one_moved}
use Rattle.value_parts.proofs.fit.Keeps.{Keeps, KeepsBy, keeps_after, keeps_given, keeps_if, keeps_same, keeps_all, keeps_from}
use Rattle.value_parts.proofs.fit.Entries.{set_left_keeps}
use Rattle.value_parts.proofs.fit.Feed.{told_keeps}

pub lend_kept_keeps : (t : ℕ) (handle : ℕ) (h : Held) → KeepsBy h (lend_kept t handle h)
lend_kept_keeps t handle h =
    keeps_given h (slice_get h.tasks t) (λ slot. if may_lend slot.caller then Gives (tt {0}) (with_task t (lent_slot handle slot) h) else Stuck) (λ slot is. keeps_if h (may_lend slot.caller) (Gives (tt {0}) (with_task t (lent_slot handle slot) h)) (Stuck) (keeps_all h (with_task t (lent_slot handle slot) h) refl refl) tt)

pub lent_keeps : (at : ℕ) (callee : ℕ) (handle : ℕ) (h : Held) → KeepsBy h (lent at callee handle h)
lent_keeps at callee handle h =
    keeps_after h (lend_kept callee handle h) (λ done k. told (line.Lend (at + 1) handle callee) k) (lend_kept_keeps callee handle h) (λ done k. told_keeps (line.Lend (at + 1) handle callee) k)

pub one_moved_keeps : (at : ℕ) (callee : ℕ) (x : Moved) (h : Held) → KeepsBy h (one_moved at callee x h)
one_moved_keeps at callee (Lent handle) h =
    lent_keeps at callee handle h
one_moved_keeps at callee (Taken index) h =
    set_left_keeps at index h

pub all_moved_keeps : (at : ℕ) (callee : ℕ) (x : List Moved) (h : Held) → KeepsBy h (all_moved at callee x h)
all_moved_keeps at callee [] h =
    keeps_same h
all_moved_keeps at callee (one ∷ moved) h =
    keeps_after h (one_moved at callee one h) (λ done k. all_moved at callee moved k) (one_moved_keeps at callee one h) (λ done k. all_moved_keeps at callee moved k)
