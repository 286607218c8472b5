-- What lifting moved is told: memories, core instances and ends stay as they are kept.
use Rattle.std.proofs.Common.{refl}
use Rattle.std.specs.Prelude.{ℕ, ◌+◌, if◌then◌else◌, List, [], ◌∷◌}
use Rattle.std.specs.List.{slice_get}
use Rattle.trace_labels.specs.declared.label.Label.TheVariants as line
use Rattle.value_lift.specs.declared.moved.Moved.{Moved}
use Rattle.value_lift.specs.declared.moved.Moved.TheVariants.{Lent, Taken}
use Rattle.world_parts.specs.Held.{Held, Gives, Stuck}
use Rattle.world_parts.specs.Feed.{told}
use Rattle.world_parts.specs.Slots.{with_task}
use Rattle.value_parts.specs.Loans.{all_moved, lend_kept, lent, lent_slot, may_lend, one_moved}
use Rattle.run_laws.proofs.keeping.still.Still.{no_kinds, StillBy, still_after, still_given, still_if, still_same, still_all}
use Rattle.run_laws.proofs.keeping.still.Entries.{set_left_still}
use Rattle.run_laws.proofs.keeping.still.Feed.{told_still}

pub lend_kept_still : (t : ℕ) (handle : ℕ) (h : Held) → StillBy no_kinds h (lend_kept t handle h)
lend_kept_still t handle h =
    still_given no_kinds h (slice_get h.tasks t) (λ slot. if may_lend slot.caller then Gives (tt {0}) (with_task t (lent_slot handle slot) h) else Stuck) (λ slot is. still_if no_kinds h (may_lend slot.caller) (Gives (tt {0}) (with_task t (lent_slot handle slot) h)) (Stuck) (still_all no_kinds h (with_task t (lent_slot handle slot) h) refl refl refl refl refl) tt)

pub lent_still : (at : ℕ) (callee : ℕ) (handle : ℕ) (h : Held) → StillBy no_kinds h (lent at callee handle h)
lent_still at callee handle h =
    still_after no_kinds h (lend_kept callee handle h) (λ done k. told (line.Lend (at + 1) handle callee) k) (lend_kept_still callee handle h) (λ done k. told_still no_kinds (line.Lend (at + 1) handle callee) k)

pub one_moved_still : (at : ℕ) (callee : ℕ) (x : Moved) (h : Held) → StillBy no_kinds h (one_moved at callee x h)
one_moved_still at callee (Lent handle) h =
    lent_still at callee handle h
one_moved_still at callee (Taken index) h =
    set_left_still no_kinds at index h

pub all_moved_still : (at : ℕ) (callee : ℕ) (x : List Moved) (h : Held) → StillBy no_kinds h (all_moved at callee x h)
all_moved_still at callee [] h =
    still_same no_kinds h
all_moved_still at callee (one ∷ moved) h =
    still_after no_kinds h (one_moved at callee one h) (λ done k. all_moved at callee moved k) (one_moved_still at callee one h) (λ done k. all_moved_still at callee moved k)
