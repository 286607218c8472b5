-- Lifting moves handles: what is kept well stays so.
use Rattle.std.proofs.Common.{◌≡◌, ℕ, ◌+◌, Bool, true, false, not, if◌then◌else◌, List, [], ◌∷◌, Some, refl, subst}
use Rattle.std.specs.List.{slice_get}
use Rattle.tasks.specs.Subtasks.{is_over}
use Rattle.task_table.specs.declared.caller.Called.{Called}
use Rattle.task_table.specs.declared.caller.Caller.{Caller}
use Rattle.task_table.specs.declared.caller.Caller.TheVariants.{Nobody, Host, Guest}
use Rattle.task_table.specs.declared.slot.TaskSlot.{TaskSlot}
use Rattle.task_table.specs.Callers.{changed, with_lend}
use Rattle.trace_labels.specs.declared.label.Label.TheVariants as line
use Rattle.value_lift.specs.declared.moved.Moved.{Moved}
use Rattle.value_lift.specs.declared.moved.Moved.TheVariants.{Lent, Taken}
use Rattle.world_parts.specs.Held.{Held, Gives, Stuck}
use Rattle.world_parts.specs.Feed.{told}
use Rattle.world_parts.specs.Slots.{with_task}
use Rattle.value_parts.specs.Loans.{all_moved, lend_kept, lent, lent_slot, may_lend, one_moved}
use Rattle.abi_machine.proofs.sound.Found.{some_same}
use Rattle.run_laws.specs.keeping.Well.{KeepsWell}
use Rattle.run_laws.proofs.well.Behind.{well_after, well_given, well_same}
use Rattle.run_laws.proofs.well.Entries.{set_left_well}
use Rattle.run_laws.proofs.well.Feed.{told_well}
use Rattle.run_laws.proofs.well.Rises.{CallRises, CallerRises, SlotRises, well_task, lend_rises}

-- A handle is lent for a call that has not resolved.
not_false : (b : Bool) → not b ≡ true → b ≡ false
not_false true e = absurd (cc)
not_false false e = refl

lends_rise : (handle : ℕ) (c : Caller) → may_lend c ≡ true → CallerRises c (changed (with_lend handle) c)
lends_rise handle Nobody may called e = absurd (cc)
lends_rise handle (Host call) may called e = absurd (cc)
lends_rise handle (Guest prior) may called e = (prior, refl, subst (λ (d : Called). CallRises prior d) (some_same e) (lend_rises handle prior (not_false (is_over prior.subtask.state) may)))

lent_rises : (handle : ℕ) (x : TaskSlot) → may_lend x.caller ≡ true → SlotRises x (lent_slot handle x)
lent_rises handle x may = record {
  caller = lends_rise handle x.caller may;
  still = λ p. p;
  calls = λ callee canon e. e;
}

lent_where : (b : Bool) (handle t : ℕ) (x : TaskSlot) (h : Held) → slice_get h.tasks t ≡ Some x → (b ≡ true → SlotRises x (lent_slot handle x))
    → KeepsWell h (if b then Gives (tt {0}) (with_task t (lent_slot handle x) h) else Stuck)
lent_where true handle t x h is rises = well_task h t x (lent_slot handle x) is (rises refl)
lent_where false handle t x h is rises = tt

pub lend_kept_well : (t : ℕ) (handle : ℕ) (h : Held) → KeepsWell h (lend_kept t handle h)
lend_kept_well t handle h =
    well_given h (slice_get h.tasks t) (λ slot. if may_lend slot.caller then Gives (tt {0}) (with_task t (lent_slot handle slot) h) else Stuck)
    (λ slot is. lent_where (may_lend slot.caller) handle t slot h is (lent_rises handle slot))

pub lent_well : (at : ℕ) (callee : ℕ) (handle : ℕ) (h : Held) → KeepsWell h (lent at callee handle h)
lent_well at callee handle h =
    well_after h (lend_kept callee handle h) (λ done k. told (line.Lend (at + 1) handle callee) k) (lend_kept_well callee handle h) (λ done k. told_well (line.Lend (at + 1) handle callee) k)

pub one_moved_well : (at : ℕ) (callee : ℕ) (x : Moved) (h : Held) → KeepsWell h (one_moved at callee x h)
one_moved_well at callee (Lent handle) h =
    lent_well at callee handle h
one_moved_well at callee (Taken index) h =
    set_left_well at index h

pub all_moved_well : (at : ℕ) (callee : ℕ) (x : List Moved) (h : Held) → KeepsWell h (all_moved at callee x h)
all_moved_well at callee [] h =
    well_same h
all_moved_well at callee (one ∷ moved) h =
    well_after h (one_moved at callee one h) (λ done k. all_moved at callee moved k) (one_moved_well at callee one h) (λ done k. all_moved_well at callee moved k)
