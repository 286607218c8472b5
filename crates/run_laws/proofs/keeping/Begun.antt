-- A component instance begins, in which no task runs, and a task that runs no function exits: all marks stay.
use Rattle.std.proofs.Common.{◌≡◌, inl, inr, ℕ, zero, suc, ◌+◌, nat_eq, Bool, true, false, ◌&&◌, if◌then◌else◌, List, [], ◌∷◌, ◌++◌, slice_set, refl, sym, ap, ◌∙◌, subst, arith, Some}
use Rattle.std.specs.List.{slice_get, count_by}
use Rattle.std.proofs.lemmas.List.Sums.{sum_by_push}
use Rattle.entry_gate.specs.Stays.{Stay, waits, holder_of}
use Rattle.entry_gate.specs.Gates.{new_gate}
use Rattle.tasks.specs.declared.event.TaskEvent.TheVariants as event
use Rattle.tasks.specs.declared.phase.Phase.{Phase}
use Rattle.tasks.specs.declared.phase.Phase.TheVariants as phase
use Rattle.tasks.specs.Tasks as tasks
use Rattle.tasks.specs.Tasks.{is_acting, resolved_state}
use Rattle.tasks.specs.Views.{TaskView}
use Rattle.instances.specs.declared.entry.WorldEntry.{WorldEntry}
use Rattle.instances.specs.declared.entry.WorldEntry.TheVariants as entry
use Rattle.instances.specs.Instances.{InstanceView, new_instance, entry_of}
use Rattle.task_table.specs.declared.slot.TaskSlot.{TaskSlot}
use Rattle.task_table.specs.Slots as slots
use Rattle.task_table.specs.Slots.{waits_directly_at}
use Rattle.world_parts.specs.Held.{Held}
use Rattle.world_parts.specs.Slots.{with_task}
use Rattle.abi_machine.proofs.sound.Found.{some_same}
use Rattle.abi_machine.proofs.sound.Lists.{more_either}
use Rattle.standing.specs.KeptMarks.{runs_func, runs_at, stay_in, stays_at, GateMarked, is_borrow_of, borrows_in, TasksMarked}
use Rattle.standing.specs.MarksKept.{WaitsStay}
use Rattle.standing.proofs.KeptMarks.{kept_from, kept_front}
use Rattle.standing.proofs.States.{states_stay}
use Rattle.standing.proofs.marks.Tasks.{gate_as, waits_elsewhere, waiters_same}
use Rattle.run_laws.specs.keeping.Kept.{MarksStay}
use Rattle.run_laws.specs.keeping.Instantiating.{NoneRuns}
use Rattle.run_laws.proofs.keeping.Every.{all_marks}
use Rattle.run_laws.proofs.keeping.Changes.{task_keeps}
use Rattle.run_laws.proofs.keeping.Alike.{waits_alike}
use Rattle.run_laws.proofs.keeping.Going.{acting_is, gone_state}

-- A task that runs no function is at no instance.
not_here : (b c : Bool) → b ≡ false → (b && c) ≡ false
not_here true c e = absurd (cc)
not_here false c e = refl

runs_nowhere : (at : ℕ) (x : TaskSlot) → runs_func x.callee ≡ false → runs_at at x ≡ false
runs_nowhere at x none = not_here (runs_func x.callee) (nat_eq x.instance at) none

left_out : (b : Bool) (stay : Stay) (rest : List Stay) → b ≡ false → (if b then stay ∷ rest else rest) ≡ rest
left_out true stay rest e = absurd (cc)
left_out false stay rest e = refl

kept_out : (at number : ℕ) (x : TaskSlot) (tasks : List TaskSlot) → runs_at at x ≡ false → kept_from at number (x ∷ tasks) ≡ kept_from at (number + 1) tasks
kept_out at number x tasks none = kept_front at number x tasks ∙ left_out (runs_at at x) (stay_in (number, x)) (kept_from at (number + 1) tasks) none

-- Where none runs none stays at an instance.
none_kept : (at number : ℕ) (tasks : List TaskSlot) → ((n : ℕ) (x : TaskSlot) → slice_get tasks n ≡ Some x → runs_at at x ≡ false) → kept_from at number tasks ≡ []
none_kept at number [] none = refl
none_kept at number (x ∷ tasks) none = kept_out at number x tasks (none 0 x refl) ∙ none_kept at (number + 1) tasks (λ n y e. none (suc n) y e)

new_marked : (h : Held) (at : ℕ) → NoneRuns h → GateMarked h.tasks at new_gate
new_marked h at none =
    let empty : stays_at at h.tasks ≡ [] = none_kept at 0 h.tasks (λ n x found. runs_nowhere at x (none n x found)) in
    record { holder = sym (ap holder_of empty); waiting = sym (ap (count_by waits) empty) }

none_first : (index : ℕ) (e : WorldEntry) → entry_of new_instance (suc index) ≡ Some e → ⊥
none_first zero e stood = cc
none_first (suc index) e stood = cc

-- In the table of an instance that begins nothing stands.
nothing_stands : (index : ℕ) (e : WorldEntry) → entry_of new_instance index ≡ Some e → ⊥
nothing_stands zero e stood = cc
nothing_stands (suc index) e stood = none_first index e stood

begun_borrows : (instances : List InstanceView) (t : ℕ) → borrows_in (instances ++ new_instance ∷ []) t ≡ borrows_in instances t
begun_borrows instances t =
    let more : borrows_in (instances ++ new_instance ∷ []) t ≡ borrows_in instances t + count_by (is_borrow_of t) new_instance.slots.entries
    = sum_by_push (λ (i : InstanceView). count_by (is_borrow_of t) i.slots.entries) instances new_instance in
    let none : count_by (is_borrow_of t) new_instance.slots.entries ≡ 0 = refl in
    omega (arith, more, none)

pub begun_marks : (h k : Held) → NoneRuns h → k.tasks ≡ h.tasks → k.instances ≡ h.instances ++ new_instance ∷ [] → MarksStay h k
begun_marks h k none tasks_are insts_are marks =
    subst (λ (ts : List TaskSlot). TasksMarked k.instances ts) (sym tasks_are)
    (subst (λ (is : List InstanceView). TasksMarked is h.tasks) (sym insts_are)
    (record {
      gates = λ at i here. elim (more_either h.instances new_instance at i here) [
        | inl old ↦ marks.gates at i old
        | inr new ↦ subst (λ (j : InstanceView). GateMarked h.tasks at j.gate) (sym new.1) (new_marked h at none)
      ];
      waiters = λ at index set i here stood. elim (more_either h.instances new_instance at i here) [
        | inl old ↦ marks.waiters at index set i old stood
        | inr new ↦ absurd (nothing_stands index (entry.Set set) (ap (λ (j : InstanceView). entry_of j index) (sym new.1) ∙ stood))
      ];
      lends = λ at index i x here stood. elim (more_either h.instances new_instance at i here) [
        | inl old ↦ marks.lends at index i x old stood
        | inr new ↦ absurd (nothing_stands index (entry.Handle x) (ap (λ (j : InstanceView). entry_of j index) (sym new.1) ∙ stood))
      ];
      borrows = λ t slot found. marks.borrows t slot found ∙ sym (begun_borrows h.instances t);
      awaited = λ at index callee i slot called here stood found guest. elim (more_either h.instances new_instance at i here) [
        | inl old ↦ marks.awaited at index callee i slot called old stood found guest
        | inr new ↦ absurd (nothing_stands index (entry.Subtask callee) (ap (λ (j : InstanceView). entry_of j index) (sym new.1) ∙ stood))
      ];
      states = marks.states;
    }))

-- A task that runs no function is another one that runs none.
nowhere_kept : (at number : ℕ) (tasks : List TaskSlot) (t : ℕ) (x y : TaskSlot) → slice_get tasks t ≡ Some x → runs_at at x ≡ false → runs_at at y ≡ false
    → kept_from at number (slice_set tasks t y) ≡ kept_from at number tasks
nowhere_kept at number [] t x y e before now = absurd (cc)
nowhere_kept at number (z ∷ tasks) zero x y e before now =
    kept_out at number y tasks now ∙ sym (kept_out at number z tasks (ap (runs_at at) (some_same e) ∙ before))
nowhere_kept at number (z ∷ tasks) (suc t) x y e before now =
    kept_front at number z (slice_set tasks t y)
    ∙ ap (λ (rest : List Stay). if runs_at at z then stay_in (number, z) ∷ rest else rest) (nowhere_kept at (number + 1) tasks t x y e before now) ∙ sym (kept_front at number z tasks)

nowhere_waits : (h : Held) (t : ℕ) (x y : TaskSlot) → slice_get h.tasks t ≡ Some x → runs_func x.callee ≡ false → runs_func y.callee ≡ false → WaitsStay h (with_task t y h)
nowhere_waits h t x y is before now = record {
  gates = λ marks at i here.
      gate_as h.tasks (slice_set h.tasks t y) at i.gate (nowhere_kept at 0 h.tasks t x y is (runs_nowhere at x before) (runs_nowhere at y now)) (marks at i here);
  waiters = λ marks at index set i here stood.
      marks at index set i here stood
      ∙ sym (waiters_same at index h.tasks t x y is (waits_elsewhere at index y (runs_nowhere at y now) ∙ sym (waits_elsewhere at index x (runs_nowhere at x before))));
}

-- It exits.
pub init_gone : (h : Held) (t : ℕ) (x : TaskSlot) → slice_get h.tasks t ≡ Some x → runs_func x.callee ≡ false → is_acting x.task.phase ≡ true
    → MarksStay h (with_task t (slots.with_task (tasks.after event.Exit x.task) x) h)
init_gone h t x is none acts =
    let later : TaskView = tasks.after event.Exit x.task in
    let y : TaskSlot = slots.with_task later x in
    let p : x.task.phase ≡ phase.Acting = acting_is x.task.phase acts in
    all_marks h (with_task t y h) (nowhere_waits h t x y is none none)
    (task_keeps h t x y is (waits_alike x y refl refl refl refl (λ index. sym (ap (waits_directly_at index) p)))
    (states_stay t x later (gone_state x.task.cancellation x.task.resolution ∙ ap (λ (q : Phase). resolved_state x.task.cancellation x.task.resolution q) (sym p))))
