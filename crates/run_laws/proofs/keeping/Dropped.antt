-- A handle is dropped: a borrow handle counts for its task no more. It keeps these marks.
use Rattle.std.proofs.Common.{◌≡◌, inl, inr, ℕ, ◌+◌, ◌-◌, nat_eq, Bool, if◌then◌else◌, slice_set, refl, sym, ap, ◌∙◌, arith, eq-eqb, Some}
use Rattle.std.specs.List.{slice_get}
use Rattle.std.proofs.lemmas.Bool.{ne_eqb}
use Rattle.tasks.specs.declared.event.TaskEvent.TheVariants as event
use Rattle.tasks.specs.Tasks as tasks
use Rattle.tasks.specs.Tasks.{may_happen, fault}
use Rattle.res_handles.specs.declared.handle.Handle.{Handle}
use Rattle.res_handles.specs.declared.handle.Ownership.TheVariants.{Own, Borrow}
use Rattle.instances.specs.declared.entry.WorldEntry.TheVariants as entry
use Rattle.instances.specs.Instances as instance
use Rattle.instances.specs.Instances.{InstanceView, entry_of}
use Rattle.task_table.specs.declared.slot.TaskSlot.{TaskSlot}
use Rattle.task_table.specs.Slots as slots
use Rattle.task_table.specs.Slots.{event_answer, advanced_slot}
use Rattle.world_parts.specs.Held.{Held}
use Rattle.world_parts.specs.Entries.{with_instance}
use Rattle.world_parts.specs.Slots.{with_task, happened, happens}
use Rattle.standing.specs.KeptMarks.{borrows_by, is_borrow_of, borrows_in, BorrowsMarked}
use Rattle.standing.proofs.States.{states_stay}
use Rattle.run_laws.proofs.keeping.Others.{Keeps, KeptBy, keeps_given, never_traps}
use Rattle.run_laws.proofs.keeping.Sums.{set_cases}
use Rattle.run_laws.proofs.keeping.Changes.{borrows_of, borrows_change, lends_alike, lends_table, awaited_alike, awaited_table, states_alike, waits_same}
use Rattle.run_laws.proofs.keeping.Tables.{borrow_gone, entry_gone, slot_gone}
use Rattle.run_laws.proofs.keeping.Alike.{happened_keeps}

unborrowed : TaskSlot → TaskSlot
unborrowed x = slots.with_task (tasks.after event.Unborrow x.task) x

-- As many borrow handles name each task as count for it.
borrows_less : (h : Held) (at index task : ℕ) (i : InstanceView) (z : Handle) (x : TaskSlot) → slice_get h.instances at ≡ Some i → entry_of i index ≡ Some (entry.Handle z)
    → z.ownership ≡ Borrow task → slice_get h.tasks task ≡ Some x → BorrowsMarked h.instances h.tasks
    → BorrowsMarked (slice_set h.instances at (instance.entry_removed index i)) (slice_set h.tasks task (unborrowed x))
unfolding unborrowed
borrows_less h at index task i z x is stood by there marks n slot found =
    let gone : InstanceView = instance.entry_removed index i in
    let a : borrows_in (slice_set h.instances at gone) n + borrows_of n i ≡ borrows_in h.instances n + borrows_of n gone = borrows_change h.instances at i gone n is in
    let b : borrows_of n gone + (if is_borrow_of n (Some (entry.Handle z)) then 1 else 0) ≡ borrows_of n i = borrow_gone n i index (entry.Handle z) stood in
    let named : is_borrow_of n (Some (entry.Handle z)) ≡ nat_eq task n = ap (borrows_by n) by in
    elim (set_cases h.tasks task (slots.with_task (tasks.after event.Unborrow x.task) x) n slot found) [
      | inl new ↦
          let one : ◌≡◌ {A = ℕ} (if is_borrow_of n (Some (entry.Handle z)) then 1 else 0) 1 = ap (λ (c : Bool). if c then 1 else 0) (named ∙ eq-eqb task n (sym new.0)) in
          let before : x.task.borrows ≡ borrows_in h.instances n = marks task x there ∙ ap (λ (k : ℕ). borrows_in h.instances k) (sym new.0) in
          ap (λ (s : TaskSlot). s.task.borrows) new.1 ∙ one_fewer (borrows_of n gone) a b one before
      | inr old ↦
          let none : ◌≡◌ {A = ℕ} (if is_borrow_of n (Some (entry.Handle z)) then 1 else 0) 0 = ap (λ (c : Bool). if c then 1 else 0) (named ∙ ne_eqb task n (λ e. old.0 (sym e))) in
          as_many (borrows_of n gone) a b none (marks n slot old.1)
    ]
  where
    one_fewer : {now there all : ℕ} (gone : ℕ) {one k : ℕ} → now + there ≡ all + gone → gone + one ≡ there → one ≡ 1 → k ≡ all → k - 1 ≡ now
    one_fewer gone a b c d = omega (arith, a, b, c, d)

    as_many : {now there all : ℕ} (gone : ℕ) {none k : ℕ} → now + there ≡ all + gone → gone + none ≡ there → none ≡ 0 → k ≡ all → k ≡ now
    as_many gone a b c d = omega (arith, a, b, c, d)

borrow_dropped : (h : Held) (at index task : ℕ) (i : InstanceView) (z : Handle) (x : TaskSlot) → slice_get h.instances at ≡ Some i → entry_of i index ≡ Some (entry.Handle z)
    → z.ownership ≡ Borrow task → slice_get h.tasks task ≡ Some x → Keeps h (with_task task (unborrowed x) (with_instance at (instance.entry_removed index i) h))
unfolding unborrowed
borrow_dropped h at index task i z x is stood by there marks =
    let gone : InstanceView = instance.entry_removed index i in
    let y : TaskSlot = slots.with_task (tasks.after event.Unborrow x.task) x in
    record {
      lends =
          lends_alike (slice_set h.instances at gone) h.tasks task x y there (λ n. refl) (λ p n. refl)
          (lends_table h.instances h.tasks at i gone is (λ n w found. (w, slot_gone i.slots.entries index n (entry.Handle w) found, refl)) marks.lends);
      borrows = borrows_less h at index task i z x is stood by there marks.borrows;
      awaited =
          awaited_alike (slice_set h.instances at gone) h.tasks task x y there (λ called e. (called, e, refl)) (λ n m. waits_same n m x y refl refl)
          (awaited_table h.instances h.tasks at i gone is (λ n callee found. slot_gone i.slots.entries index n (entry.Subtask callee) found) marks.awaited);
      states = states_alike h.tasks task x y there (states_stay task x (tasks.after event.Unborrow x.task) refl) marks.states;
    }

-- What is done behind the removal.
pub unborrow_keeps : (h : Held) (at index task : ℕ) (i : InstanceView) (z : Handle) → slice_get h.instances at ≡ Some i → entry_of i index ≡ Some (entry.Handle z)
    → z.ownership ≡ Borrow task → KeptBy h (happens task event.Unborrow (with_instance at (instance.entry_removed index i) h))
unfolding unborrowed
unborrow_keeps h at index task i z is stood by =
    let k : Held = with_instance at (instance.entry_removed index i) h in
    keeps_given h (slice_get h.tasks task) (λ slot. happened (event_answer event.Unborrow slot.task) task (advanced_slot event.Unborrow slot) k)
    (λ x there. happened_keeps h k task event.Unborrow x (never_traps h k task x) (λ may none. borrow_dropped h at index task i z x is stood by there))

pub own_dropped : (h : Held) (at index : ℕ) (i : InstanceView) (z : Handle) → slice_get h.instances at ≡ Some i → entry_of i index ≡ Some (entry.Handle z) → z.ownership ≡ Own
    → Keeps h (with_instance at (instance.entry_removed index i) h)
own_dropped h at index i z is stood own = entry_gone h at index i is (λ t. ap (is_borrow_of t) stood ∙ ap (borrows_by t) own)
