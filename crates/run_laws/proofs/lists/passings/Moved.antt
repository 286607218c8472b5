-- What lifting moved is told: lists of tasks stay as they follow from the tasks.
use Rattle.std.specs.Prelude.{ℕ, ◌+◌, if◌then◌else◌, List, [], ◌∷◌}
use Rattle.std.specs.List.{slice_get}
use Rattle.task_table.specs.Callers.{with_lend}
use Rattle.trace_labels.specs.declared.label.Label.TheVariants as line
use Rattle.value_lift.specs.declared.moved.Moved.{Moved}
use Rattle.value_lift.specs.declared.moved.Moved.TheVariants.{Lent, Taken}
use Rattle.world_parts.specs.Held.{Held, Gives, Stuck}
use Rattle.world_parts.specs.Feed.{told}
use Rattle.world_parts.specs.Slots.{with_task}
use Rattle.value_parts.specs.Loans.{all_moved, lend_kept, lent, lent_slot, may_lend, one_moved}
use Rattle.run_laws.proofs.lists.Entries.{set_left_lists}
use Rattle.run_laws.proofs.lists.Feed.{told_lists}
use Rattle.run_laws.proofs.lists.Slots.{called_same}
use Rattle.run_laws.proofs.lists.Same.{ListsBy, lists_after, lists_given, lists_if, lists_same, lists_task}

pub lend_kept_lists : (t : ℕ) (handle : ℕ) (h : Held) → ListsBy h (lend_kept t handle h)
lend_kept_lists t handle h =
    lists_given h (slice_get h.tasks t) (λ slot. if may_lend slot.caller then Gives (tt {0}) (with_task t (lent_slot handle slot) h) else Stuck) (λ slot is. lists_if h (may_lend slot.caller) (Gives (tt {0}) (with_task t (lent_slot handle slot) h)) (Stuck) (lists_task h t slot (lent_slot handle slot) is (called_same slot (with_lend handle))) tt)

pub lent_lists : (at : ℕ) (callee : ℕ) (handle : ℕ) (h : Held) → ListsBy h (lent at callee handle h)
lent_lists at callee handle h =
    lists_after h (lend_kept callee handle h) (λ done k. told (line.Lend (at + 1) handle callee) k) (lend_kept_lists callee handle h) (λ done k. told_lists (line.Lend (at + 1) handle callee) k)

pub one_moved_lists : (at : ℕ) (callee : ℕ) (x : Moved) (h : Held) → ListsBy h (one_moved at callee x h)
one_moved_lists at callee (Lent handle) h =
    lent_lists at callee handle h
one_moved_lists at callee (Taken index) h =
    set_left_lists at index h

pub all_moved_lists : (at : ℕ) (callee : ℕ) (x : List Moved) (h : Held) → ListsBy h (all_moved at callee x h)
all_moved_lists at callee [] h =
    lists_same h
all_moved_lists at callee (one ∷ moved) h =
    lists_after h (one_moved at callee one h) (λ done k. all_moved at callee moved k) (one_moved_lists at callee one h) (λ done k. all_moved_lists at callee moved k)
