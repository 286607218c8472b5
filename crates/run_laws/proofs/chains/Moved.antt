-- Lifting moves handles: who runs, and how many tasks there are, stay.
use Rattle.std.proofs.Common.{refl}
use Rattle.std.specs.Prelude.{ℕ, ◌+◌, if◌then◌else◌, List, [], ◌∷◌}
use Rattle.std.specs.List.{slice_get}
use Rattle.trace_labels.specs.declared.label.Label.TheVariants as line
use Rattle.value_lift.specs.declared.moved.Moved.{Moved}
use Rattle.value_lift.specs.declared.moved.Moved.TheVariants.{Lent, Taken}
use Rattle.world_parts.specs.Held.{Held, Gives, Stuck}
use Rattle.world_parts.specs.Feed.{told}
use Rattle.world_parts.specs.Slots.{with_task}
use Rattle.value_parts.specs.Loans.{all_moved, lend_kept, lent, lent_slot, may_lend, one_moved}
use Rattle.run_laws.proofs.chains.Parts.{set_left_chain, told_chain}
use Rattle.run_laws.proofs.chains.By.{ChainBy, chain_after, chain_given, chain_if, chain_same}
use Rattle.run_laws.proofs.stays.Same.{task_long}

pub lend_kept_chain : (t : ℕ) (handle : ℕ) (h : Held) → ChainBy h (lend_kept t handle h)
lend_kept_chain t handle h =
    chain_given h (slice_get h.tasks t) (λ slot. if may_lend slot.caller then Gives (tt {0}) (with_task t (lent_slot handle slot) h) else Stuck) (λ slot is. chain_if h (may_lend slot.caller) (Gives (tt {0}) (with_task t (lent_slot handle slot) h)) (Stuck) ((refl, task_long h t (lent_slot handle slot))) tt)

pub lent_chain : (at : ℕ) (callee : ℕ) (handle : ℕ) (h : Held) → ChainBy h (lent at callee handle h)
lent_chain at callee handle h =
    chain_after h (lend_kept callee handle h) (λ done k. told (line.Lend (at + 1) handle callee) k) (lend_kept_chain callee handle h) (λ done k. told_chain (line.Lend (at + 1) handle callee) k)

pub one_moved_chain : (at : ℕ) (callee : ℕ) (x : Moved) (h : Held) → ChainBy h (one_moved at callee x h)
one_moved_chain at callee (Lent handle) h =
    lent_chain at callee handle h
one_moved_chain at callee (Taken index) h =
    set_left_chain at index h

pub all_moved_chain : (at : ℕ) (callee : ℕ) (x : List Moved) (h : Held) → ChainBy h (all_moved at callee x h)
all_moved_chain at callee [] h =
    chain_same h
all_moved_chain at callee (one ∷ moved) h =
    chain_after h (one_moved at callee one h) (λ done k. all_moved at callee moved k) (one_moved_chain at callee one h) (λ done k. all_moved_chain at callee moved k)
