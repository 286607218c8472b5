-- A handle is lent for the call of a task: it is lent once more, and so it is counted. What is kept stays so.
use Rattle.std.proofs.Common.{◌≡◌, inl, inr, ℕ, ◌+◌, nat_eq, Bool, true, false, ◌&&◌, if◌then◌else◌, List, [], ◌∷◌, ◌++◌, slice_set, refl, sym, ap, ◌∙◌, subst, arith, eq-eqb, Option, Some, None}
use Rattle.std.specs.List.{slice_get, count_by}
use Rattle.std.specs.Option.{option_map}
use Rattle.std.proofs.lemmas.Bool.{cases_eq, ne_eqb}
use Rattle.std.proofs.lemmas.List.Sums.{sum_by_push}
use Rattle.handle_table.specs.Slots.{Slots, slot_at, with_slot, with_entry}
use Rattle.handle_table.proofs.Soundness.{changed_sound}
use Rattle.res_handles.specs.declared.handle.Handle.{Handle}
use Rattle.res_handles.specs.declared.entry.EntryView.{EntryView}
use Rattle.res_handles.specs.declared.entry.EntryView.TheVariants as seen
use Rattle.res_handles.specs.Calls.{with_lends, relent_by, view_at}
use Rattle.tasks.specs.Tasks as tasks
use Rattle.tasks.specs.declared.subtask_state.SubtaskState.{SubtaskState}
use Rattle.instances.specs.declared.entry.WorldEntry.{WorldEntry}
use Rattle.instances.specs.declared.entry.WorldEntry.TheVariants as entry
use Rattle.instances.specs.Entries.{seen_as, of_handle}
use Rattle.instances.specs.Instances as instance
use Rattle.instances.specs.Instances.{InstanceView, entry_of, with_slots}
use Rattle.task_table.specs.declared.caller.Called.{Called}
use Rattle.task_table.specs.declared.caller.Caller.{Caller}
use Rattle.task_table.specs.declared.caller.Caller.TheVariants.{Nobody, Host, Guest}
use Rattle.task_table.specs.declared.slot.TaskSlot.{TaskSlot}
use Rattle.task_table.specs.Callers.{called_of, changed, with_lend}
use Rattle.value_parts.specs.Loans.{lent_slot}
use Rattle.world_parts.specs.Held.{Held}
use Rattle.world_parts.specs.Entries.{with_instance}
use Rattle.world_parts.specs.Slots.{with_task}
use Rattle.abi_machine.proofs.sound.Found.{some_same}
use Rattle.standing.specs.KeptMarks.{runs_at, lends_by, is_task_at, lends_at, is_borrow_of, borrows_in}
use Rattle.standing.specs.Marks.{CallMarked, CallerMarked, StateMarked}
use Rattle.standing.specs.MarksKept.{WaitsStay}
use Rattle.standing.proofs.Agreeing.{get_set}
use Rattle.standing.proofs.EndMarks.{changed_stay_marked}
use Rattle.standing.proofs.marks.Inside.{same_seen}
use Rattle.standing.proofs.marks.Stays.{stays_further}
use Rattle.standing.proofs.marks.Tables.{put_same, put_other, slots_waited, written_set, instance_stays}
use Rattle.standing.proofs.marks.Tasks.{task_stays}
use Rattle.run_laws.specs.keeping.Kept.{CalledFrom}
use Rattle.run_laws.proofs.keeping.Sums.{set_either}
use Rattle.run_laws.proofs.keeping.Changes.{here_same, lends_change, waits_same, awaited_alike, states_alike, borrows_of, borrows_same, awaited_table}
use Rattle.run_laws.proofs.keeping.Alike.{changed_awaited}
use Rattle.run_laws.proofs.keeping.Loans.{slot_there, slot_elsewhere, relent_borrows}
use Rattle.run_laws.proofs.keeping.Told.{elsewhere}
use Rattle.run_laws.proofs.keeping.But.{lent_there, owed, LentExactly, BorrowsBut, HasBut, sound_put}

-- What it adds to how often a handle is lent.
abbrev more_lent : Bool → ℕ → ℕ → ℕ
more_lent here handle index = if here && nat_eq handle index then 1 else 0

-- The call, with one handle more.
lent_by_call : (p : ℕ → Bool) (handle index : ℕ) (c : Caller) (called : Called) → called_of c ≡ Some called
    → lends_by p index (called_of (changed (with_lend handle) c)) ≡ lends_by p index (called_of c) + more_lent (p called.by) handle index
lent_by_call p handle index Nobody called e = absurd (cc)
lent_by_call p handle index (Host call) called e = absurd (cc)
lent_by_call p handle index (Guest x) called e =
    sum_by_push (λ (k : ℕ). if p x.by && nat_eq k index then 1 else 0) x.subtask.lends handle
    ∙ ap (λ (y : Called). lends_by p index (Some x) + more_lent (p y.by) handle index) (some_same e)

lent_state : (t handle : ℕ) (state : SubtaskState) (c : Caller) → CallerMarked t state c → CallerMarked t state (changed (with_lend handle) c)
lent_state t handle state Nobody m = tt
lent_state t handle state (Host call) m = tt
lent_state t handle state (Guest x) m = record { number = m.number; seen = m.seen }

lent_prior : (handle : ℕ) (c : Caller) (called : Called) → called_of (changed (with_lend handle) c) ≡ Some called → (prior : Called) × (called_of c ≡ Some prior) × (called.by ≡ prior.by)
lent_prior handle Nobody called e = absurd (cc)
lent_prior handle (Host call) called e = absurd (cc)
lent_prior handle (Guest x) called e = (x, refl, ap (λ (y : Called). y.by) (sym (some_same e)))

-- The table.
relent : (i : InstanceView) (index : ℕ) (x : Handle) (o : Option EntryView) → view_at seen_as i.slots index ≡ o → o ≡ Some (seen.Handle x)
    → instance.lent index i ≡ with_slots (with_entry index (entry.Handle (with_lends (x.lends + 1) x)) i.slots) i
relent i index x o is there = ap (λ (v : Option EntryView). with_slots (relent_by v of_handle (λ n. n + 1) index i.slots) i) (is ∙ there)

pub lent_as : (i : InstanceView) (index : ℕ) (x : Handle) → entry_of i index ≡ Some (entry.Handle x)
    → instance.lent index i ≡ with_slots (with_entry index (entry.Handle (with_lends (x.lends + 1) x)) i.slots) i
lent_as i index x stood = relent i index x (view_at seen_as i.slots index) refl (ap (λ (o : Option WorldEntry). option_map seen_as o) stood)

module _ (C : Type 0) (t n : ℕ) (h : Held) (at index callee : ℕ) (i : InstanceView) (x : Handle) (slot : TaskSlot) (called : Called)
    (here : slice_get h.instances at ≡ Some i) (stood : entry_of i index ≡ Some (entry.Handle x)) (is : slice_get h.tasks callee ≡ Some slot)
    (by : called_of slot.caller ≡ Some called) (from : is_task_at h.tasks at called.by ≡ true) (but : HasBut C t n h) where
  abbrev now : WorldEntry
  now = entry.Handle (with_lends (x.lends + 1) x)

  abbrev z : InstanceView
  z = with_slots (with_entry index now i.slots) i

  abbrev y : TaskSlot
  y = lent_slot index slot

  there_lent : (k : ℕ) → lent_there (entry_of z k) ≡ lent_there (entry_of i k) + more_lent true index k
  there_lent k =
      elim (cases_eq k index) [
        | inl e ↦
            ap (λ (j : ℕ). lent_there (entry_of z j)) e ∙ ap lent_there (slot_there i.slots.entries index (entry.Handle x) (Some now) stood)
            ∙ ap (λ (j : ℕ). j + 1) (sym (ap (λ (j : ℕ). lent_there (entry_of i j)) e ∙ ap lent_there stood))
            ∙ ap (λ (b : Bool). lent_there (entry_of i k) + (if b then 1 else 0)) (sym (eq-eqb index k (sym e)))
        | inr other ↦
            ap lent_there (slot_elsewhere i.slots.entries index k (Some now) other) ∙ (let same : lent_there (entry_of i k) ≡ lent_there (entry_of i k) + 0 = omega arith in same)
            ∙ ap (λ (b : Bool). lent_there (entry_of i k) + (if b then 1 else 0)) (sym (ne_eqb index k (λ e. other (sym e))))
      ]

  counted_at : (m k : ℕ) → lends_at (slice_set h.tasks callee y) m k ≡ lends_at h.tasks m k + more_lent (is_task_at h.tasks m called.by) index k
  counted_at m k =
      let a : lends_at (slice_set h.tasks callee y) m k + lends_by (is_task_at h.tasks m) k (called_of slot.caller)
      ≡ lends_at h.tasks m k + lends_by (is_task_at h.tasks m) k (called_of y.caller) = lends_change h.tasks callee slot y m k is refl in
      let b : lends_by (is_task_at h.tasks m) k (called_of y.caller) ≡ lends_by (is_task_at h.tasks m) k (called_of slot.caller) + more_lent (is_task_at h.tasks m called.by) index k
      = lent_by_call (is_task_at h.tasks m) index k slot.caller called by in
      once (lends_at (slice_set h.tasks callee y) m k) (lends_by (is_task_at h.tasks m) k (called_of slot.caller)) (lends_at h.tasks m k) (lends_by (is_task_at h.tasks m) k (called_of y.caller))
      (more_lent (is_task_at h.tasks m called.by) index k) a b
    where
      once : (later was before is more : ℕ) → later + was ≡ before + is → is ≡ was + more → later ≡ before + more
      once later was before is more e f = omega (arith, e, f)

  lent_now : LentExactly (slice_set h.instances at z) (slice_set h.tasks callee y)
  lent_now m k j found =
      elim (cases_eq m at) [
        | inl e ↦
            ap (λ (v : InstanceView). lent_there (entry_of v k)) (put_same h.instances at m i z j here found e) ∙ there_lent k
            ∙ ap (λ (a : ℕ). a + more_lent true index k) (but.lent at k i here)
            ∙ ap (λ (b : Bool). lends_at h.tasks at k + more_lent b index k) (sym from) ∙ sym (counted_at at k) ∙ ap (λ (a : ℕ). lends_at (slice_set h.tasks callee y) a k) (sym e)
        | inr other ↦
            but.lent m k j (put_other h.instances at m z j found other) ∙ (let same : lends_at h.tasks m k ≡ lends_at h.tasks m k + 0 = omega arith in same)
            ∙ ap (λ (b : Bool). lends_at h.tasks m k + more_lent b index k) (sym (elsewhere h.tasks at m called.by from other)) ∙ sym (counted_at m k)
      ]

  borrows_now : BorrowsBut t n (slice_set h.instances at z) (slice_set h.tasks callee y)
  borrows_now m s found =
      let same : borrows_in (slice_set h.instances at z) m ≡ borrows_in h.instances m = borrows_same h.instances at i z m here (relent_borrows m i index x (x.lends + 1) stood) in
      elim (set_either h.tasks callee y m s found) [
        | inl new ↦
            ap (λ (v : TaskSlot). v.task.borrows + owed t n m) new.1 ∙ ap (λ (k : ℕ). slot.task.borrows + owed t n k) new.0 ∙ but.borrows callee slot is
            ∙ ap (λ (k : ℕ). borrows_in h.instances k) (sym new.0) ∙ sym same
        | inr old ↦ but.borrows m s old ∙ sym same
      ]

  no_subtask : (k number : ℕ) → entry_of z k ≡ Some (entry.Subtask number) → entry_of i k ≡ Some (entry.Subtask number)
  no_subtask k number found =
      elim (cases_eq k index) [
        | inl e ↦
            let both : now ≡ entry.Subtask number
            = some_same (sym (slot_there i.slots.entries index (entry.Handle x) (Some now) stood) ∙ ap (λ (j : ℕ). entry_of z j) (sym e) ∙ found) in
            absurd (cc)
        | inr other ↦ sym (slot_elsewhere i.slots.entries index k (Some now) other) ∙ found
      ]

  pub handle_lent : HasBut C t n (with_task callee y (with_instance at z h))
  handle_lent =
      let first : WaitsStay h (with_instance at z h) =
      instance_stays h at i z here (slots_waited i (with_entry index now i.slots) (λ k set found. written_set i.slots.entries index (Some now) k set tt found)) in
      let waits : WaitsStay h (with_task callee y (with_instance at z h)) =
      stays_further h (with_instance at z h) (with_task callee y (with_instance at z h)) first (task_stays (with_instance at z h) callee slot y is (same_seen slot y refl refl refl refl)) in
      record {
        gates = waits.gates but.gates;
        waiters = waits.waiters but.waiters;
        lent = lent_now;
        borrows = borrows_now;
        awaited =
            awaited_alike (slice_set h.instances at z) h.tasks callee slot y is (λ c e. changed_awaited (with_lend index) (λ d. refl) slot.caller c e)
            (λ m k. waits_same m k slot y refl refl) (awaited_table h.instances h.tasks at i z here no_subtask but.awaited);
        states = states_alike h.tasks callee slot y is (λ m. lent_state callee index (tasks.state_of slot.task) slot.caller m) but.states;
        sound = sound_put h.instances at i z here (changed_sound i.slots index (entry.Handle x) now stood (but.sound at i here)) but.sound;
        ends = λ c. changed_stay_marked h.instances h.streams h.futures at index i now here tt (but.ends c);
      }

-- The caller of the task runs in the instance still.
pub from_lent : (h : Held) (at index callee : ℕ) (slot : TaskSlot) → slice_get h.tasks callee ≡ Some slot → CalledFrom h at callee → CalledFrom (with_task callee (lent_slot index slot) h) at callee
from_lent h at index callee slot is from s called found by =
    let same : s ≡ lent_slot index slot = put_task h.tasks callee slot (lent_slot index slot) s is found in
    let p : (prior : Called) × (called_of slot.caller ≡ Some prior) × (called.by ≡ prior.by) =
    lent_prior index slot.caller called (ap (λ (v : TaskSlot). called_of v.caller) (sym same) ∙ by) in
    here_same h.tasks callee slot (lent_slot index slot) at called.by is refl ∙ ap (is_task_at h.tasks at) p.2 ∙ from slot p.0 is p.1
  where
    put_task : (tasks : List TaskSlot) (m : ℕ) (x y z : TaskSlot) → slice_get tasks m ≡ Some x → slice_get (slice_set tasks m y) m ≡ Some z → z ≡ y
    put_task tasks m x y z is found = some_same (sym found ∙ get_set tasks m x y is)
