-- A task that goes on once the cancelled subtask has resolved for which it waited directly keeps all marks.
use Rattle.std.proofs.Common.{◌≡◌, inl, inr, ℕ, ◌&&◌, Bool, true, false, if◌then◌else◌, List, [], ◌∷◌, slice_set, refl, sym, ap, ◌∙◌, subst, Option, Some, None}
use Rattle.std.specs.List.{slice_get}
use Rattle.std.proofs.lemmas.Bool.{cases_eq, ne_eqb}
use Rattle.std.proofs.lemmas.Bool.Decides.{Decides-eqb}
use Rattle.handle_table.specs.Slots.{Slots, entry_at}
use Rattle.tasks.specs.declared.event.BlockedAt.TheVariants as blocked_at
use Rattle.tasks.specs.declared.event.TaskEvent.TheVariants as event
use Rattle.tasks.specs.Tasks as tasks
use Rattle.instances.specs.declared.entry.WorldEntry.{WorldEntry}
use Rattle.instances.specs.declared.entry.WorldEntry.TheVariants as entry
use Rattle.instances.specs.Instances.{InstanceView, entry_of}
use Rattle.task_table.specs.declared.caller.Called.{Called}
use Rattle.task_table.specs.declared.caller.Caller.{Caller}
use Rattle.task_table.specs.declared.caller.Caller.TheVariants.{Nobody, Host, Guest}
use Rattle.task_table.specs.declared.errand.Errand.TheVariants as errand
use Rattle.task_table.specs.declared.slot.TaskSlot.{TaskSlot}
use Rattle.task_table.specs.Callers as callers
use Rattle.task_table.specs.Callers.{called_of, changed, may_keep}
use Rattle.task_table.specs.Slots as slots
use Rattle.task_table.specs.Slots.{waits_on, waits_directly_at, at_errand, awaited_slot}
use Rattle.tasks.specs.Subtasks.{is_over}
use Rattle.world_parts.specs.Held.{Held, Gives, Stuck, after, given}
use Rattle.world_parts.specs.Entries.{subtask_number}
use Rattle.world_parts.specs.Feed.{got}
use Rattle.world_parts.specs.Slots.{with_task, awaited}
use Rattle.world_parts.specs.Calls.{subtask_told}
use Rattle.world_parts.specs.Going.{cancel_resumed}
use Rattle.abi_machine.proofs.sound.Found.{some_same}
use Rattle.standing.specs.KeptMarks.{runs_at, is_task_at, awaited_at}
use Rattle.standing.specs.MarksKept.{WaitsStay}
use Rattle.standing.proofs.marks.Calls.{subtask_told_stays}
use Rattle.standing.proofs.marks.Feed.{got_stays}
use Rattle.standing.proofs.marks.Inside.{same_seen}
use Rattle.standing.proofs.marks.Stays.{stays_after, stays_all, stays_further}
use Rattle.standing.proofs.marks.Tasks.{task_stays}
use Rattle.run_laws.specs.keeping.Kept.{MarksStay, KeepsMarks, CalledFrom, ToldGaveBack}
use Rattle.run_laws.specs.keeping.Cancels.{StandsOnly, OneWaits}
use Rattle.run_laws.proofs.keeping.Others.{OthersMarked, keeps_after}
use Rattle.run_laws.proofs.keeping.Every.{all_marks, all_by, every_through, look_every, tested_every}
use Rattle.run_laws.proofs.keeping.Sums.{set_either, set_cases, any_none}
use Rattle.run_laws.proofs.keeping.Changes.{here_same, waits_there, waits_not, waits_elsewhere, waits_same, awaited_as}
use Rattle.run_laws.proofs.keeping.Told.{runs_not, subtask_told_keeps}
use Rattle.run_laws.proofs.keeping.Entry.{gates_change}
use Rattle.run_laws.proofs.keeping.OnSets.{waiters_move, counts_not}
use Rattle.run_laws.proofs.keeping.Moves.{Move}
use Rattle.run_laws.proofs.keeping.Going.{runs_own, none_counted}
use Rattle.run_laws.proofs.keeping.Woken.{InBuiltin, set_back, woken, woken_held, woken_tasks, woken_instances, woken_state, woken_counts, move_in, from_woken, gave_woken}
use Rattle.run_laws.proofs.keeping.Awaiting.{MarkedBut, marked_but, but_task, but_itself, said_now, but_none}
use Rattle.run_laws.proofs.keeping.parts.Feed.{got_keeps}

-- The call of a task is another one, by the same task.
abbrev By : TaskSlot → TaskSlot → Type 0
By x y = (called : Called) → called_of y.caller ≡ Some called → (prior : Called) × (called_of x.caller ≡ Some prior) × (called.by ≡ prior.by)

from_by : (h : Held) (t at callee : ℕ) (x y : TaskSlot) → slice_get h.tasks t ≡ Some x → By x y → runs_at at y ≡ runs_at at x → CalledFrom h at callee → CalledFrom (with_task t y h) at callee
from_by h t at callee x y is by runs from slot called found of =
    elim (set_either h.tasks t y callee slot found) [
      | inl new ↦
          let p : (prior : Called) × (called_of x.caller ≡ Some prior) × (called.by ≡ prior.by) = by called (ap (λ (s : TaskSlot). called_of s.caller) (sym new.1) ∙ of) in
          here_same h.tasks t x y at called.by is runs ∙ ap (is_task_at h.tasks at) p.2 ∙ from x p.0 (ap (λ (k : ℕ). slice_get h.tasks k) new.0 ∙ is) p.1
      | inr old ↦ here_same h.tasks t x y at called.by is runs ∙ from slot called old of
    ]

-- For it is lent what was, and its caller was told what it was told.
abbrev Told : TaskSlot → TaskSlot → Type 0
Told x y =
    (called : Called) → called_of y.caller ≡ Some called
    → (prior : Called) × (called_of x.caller ≡ Some prior) × (called.subtask.told ≡ prior.subtask.told) × (called.subtask.lends ≡ prior.subtask.lends)

gave_by : (h : Held) (t : ℕ) (x y : TaskSlot) → slice_get h.tasks t ≡ Some x → Told x y → ToldGaveBack h → ToldGaveBack (with_task t y h)
gave_by h t x y is same gave n slot called found of told =
    elim (set_either h.tasks t y n slot found) [
      | inl new ↦
          let p : (prior : Called) × (called_of x.caller ≡ Some prior) × (called.subtask.told ≡ prior.subtask.told) × (called.subtask.lends ≡ prior.subtask.lends)
          = same called (ap (λ (s : TaskSlot). called_of s.caller) (sym new.1) ∙ of) in
          p.3 ∙ gave t x p.0 is p.1 (ap is_over (sym p.2) ∙ told)
      | inr old ↦ gave n slot called old of told
    ]

awaited_by : (b : Bool) (c : Caller) (called : Called) → called_of (changed (callers.awaited b) c) ≡ Some called → (prior : Called) × (called_of c ≡ Some prior) × (called.by ≡ prior.by)
awaited_by b Nobody called e = absurd (cc)
awaited_by b (Host call) called e = absurd (cc)
awaited_by b (Guest prior) called e = (prior, refl, ap (λ (x : Called). x.by) (sym (some_same e)))

awaited_told : (b : Bool) (c : Caller) (called : Called) → called_of (changed (callers.awaited b) c) ≡ Some called
    → (prior : Called) × (called_of c ≡ Some prior) × (called.subtask.told ≡ prior.subtask.told) × (called.subtask.lends ≡ prior.subtask.lends)
awaited_told b Nobody called e = absurd (cc)
awaited_told b (Host call) called e = absurd (cc)
awaited_told b (Guest prior) called e = (prior, refl, ap (λ (x : Called). x.subtask.told) (sym (some_same e)), ap (λ (x : Called). x.subtask.lends) (sym (some_same e)))

-- Of the gate and the sets of the instance all marks stay.
moved_waits : (h k : Held) (t at : ℕ) (x y : TaskSlot) (i j : InstanceView) → Move h t at x y i j → k.tasks ≡ slice_set h.tasks t y → k.instances ≡ slice_set h.instances at j → WaitsStay h k
moved_waits h k t at x y i j m tasks insts =
    stays_further h (record h { tasks = slice_set h.tasks t y; instances = slice_set h.instances at j }) k
    (record {
      gates = λ marks. gates_change h.instances h.tasks t at x y i j m.here m.is m.runs m.same m.gate marks;
      waiters = λ marks.
          waiters_move h.instances h.tasks t at x y i j m.here m.is m.runs m.same (λ index set found. ap (λ (s : Slots WorldEntry). entry_at s index) (sym m.slots) ∙ found) m.sets marks;
    })
    (stays_all (record h { tasks = slice_set h.tasks t y; instances = slice_set h.instances at j }) k tasks insts)

subtask_same : {a b : ℕ} → entry.Subtask a ≡ entry.Subtask b → a ≡ b
subtask_same e = cc

-- The task waited for no other subtask.
waited_for_one : (h : Held) (t index callee : ℕ) (x : TaskSlot) (i : InstanceView) → InBuiltin h t (blocked_at.Cancel index) x i → entry_of i index ≡ Some (entry.Subtask callee)
    → (n m other : ℕ) (j : InstanceView) → (other ≡ callee → ⊥) → slice_get h.instances n ≡ Some j → entry_of j m ≡ Some (entry.Subtask other) → waits_there n m (woken x) ≡ waits_there n m x
unfolding woken
waited_for_one h t index callee x i b there n m other j apart here stood =
    let y : TaskSlot = at_errand errand.None (slots.with_task (tasks.after event.Go x.task) x) in
    elim (cases_eq n x.instance) [
      | inl e ↦ elim (cases_eq m index) [
        | inl f ↦
            let same : j ≡ i = some_same (sym here ∙ ap (λ (k : ℕ). slice_get h.instances k) e ∙ b.here) in
            let both : entry.Subtask other ≡ entry.Subtask callee
            = some_same (sym stood ∙ ap (λ (k : ℕ). entry_of j k) f ∙ ap (λ (z : InstanceView). entry_of z index) same ∙ there) in
            absurd (apart (subtask_same both))
        | inr f ↦ waits_not n m y refl ∙ sym (waits_not n m x (ap (waits_directly_at m) b.far ∙ ne_eqb index m (λ g. f (sym g))))
      ]
      | inr away ↦ waits_elsewhere n m y (runs_not x.instance n x (runs_own x b.runs) away) ∙ sym (waits_elsewhere n m x (runs_not x.instance n x (runs_own x b.runs) away))
    ]

both_true : (b c : Bool) → b ≡ true → c ≡ true → (b && c) ≡ true
both_true true c e f = f
both_true false c e f = absurd (cc)

waits_nowhere : (at index : ℕ) (slot : TaskSlot) (b c : Bool) → runs_at at slot ≡ b → waits_directly_at index slot.task.phase ≡ c
    → (runs_at at slot ≡ true → waits_directly_at index slot.task.phase ≡ true → ⊥) → waits_there at index slot ≡ false
waits_nowhere at index slot false c e f p = waits_elsewhere at index slot e
waits_nowhere at index slot true false e f p = waits_not at index slot f
waits_nowhere at index slot true true e f p = absurd (p e f)

-- Behind it none waits there.
none_waits : (h : Held) (t index : ℕ) (x : TaskSlot) (i : InstanceView) → InBuiltin h t (blocked_at.Cancel index) x i → OneWaits h x.instance index
    → (n : ℕ) (slot : TaskSlot) → slice_get (slice_set h.tasks t (woken x)) n ≡ Some slot → waits_there x.instance index slot ≡ false
unfolding woken
none_waits h t index x i b one n slot found =
    let y : TaskSlot = at_errand errand.None (slots.with_task (tasks.after event.Go x.task) x) in
    elim (set_cases h.tasks t y n slot found) [
      | inl new ↦ ap (waits_there x.instance index) new.1 ∙ waits_not x.instance index y refl
      | inr old ↦
          waits_nowhere x.instance index slot (runs_at x.instance slot) (waits_directly_at index slot.task.phase) refl refl
          (λ runs waits.
          old.0 (one n t slot x old.1 b.is (both_true (runs_at x.instance slot) (waits_directly_at index slot.task.phase) runs waits)
          (both_true (runs_at x.instance x) (waits_directly_at index x.task.phase) (runs_own x b.runs) (ap (waits_directly_at index) b.far ∙ (Decides-eqb index index).1 refl))))
    ]

-- What is kept then.
told_held : (h : Held) (t callee : ℕ) (x c : TaskSlot) → Held
told_held h t callee x c = with_task callee (awaited_slot false c) (woken_held h t x)

woken_runs : (n : ℕ) (x : TaskSlot) → runs_at n (woken x) ≡ runs_at n x
unfolding woken
woken_runs n x = refl

woken_caller : (x : TaskSlot) → (woken x).caller ≡ x.caller
unfolding woken
woken_caller x = refl

woken_borrows : (x : TaskSlot) → (woken x).task.borrows ≡ x.task.borrows
unfolding woken
woken_borrows x = refl

others_marked : (h : Held) (t index callee : ℕ) (x c : TaskSlot) (i : InstanceView) → InBuiltin h t (blocked_at.Cancel index) x i → entry_of i index ≡ Some (entry.Subtask callee)
    → OneWaits h x.instance index → StandsOnly h x.instance index callee → slice_get (slice_set h.tasks t (woken x)) callee ≡ Some c → OthersMarked h.instances h.tasks
    → OthersMarked h.instances (slice_set (slice_set h.tasks t (woken x)) callee (awaited_slot false c))
others_marked h t index callee x c i b there one only found marks =
    let a : List TaskSlot = slice_set h.tasks t (woken x) in
    let first : MarkedBut callee h.instances a
    = but_task callee h.instances h.tasks t x (woken x) b.is (λ n. woken_runs n x) (woken_caller x) (woken_borrows x) (woken_state h t (blocked_at.Cancel index) x i b)
    (waited_for_one h t index callee x i b there) (marked_but callee h.instances h.tasks marks) in
    let second : MarkedBut callee h.instances (slice_set a callee (awaited_slot false c)) = but_itself callee h.instances a false c found first in
    let waits : awaited_at (slice_set a callee (awaited_slot false c)) x.instance index ≡ false
    = awaited_as (slice_set a callee (awaited_slot false c)) x.instance index
    ∙ any_none (waits_there x.instance index) (slice_set a callee (awaited_slot false c))
    (λ n slot stood. elim (set_either a callee (awaited_slot false c) n slot stood) [
      | inl new ↦
          ap (waits_there x.instance index) new.1 ∙ waits_same x.instance index c (awaited_slot false c) refl refl ∙ none_waits h t index x i b one callee c found
      | inr old ↦ none_waits h t index x i b one n slot old
    ]) in
    but_none false callee x.instance index h.instances (slice_set a callee (awaited_slot false c)) only (said_now false a callee c found) waits second

ceases : (h : Held) (t index callee : ℕ) (x c : TaskSlot) (i : InstanceView) → InBuiltin h t (blocked_at.Cancel index) x i → entry_of i index ≡ Some (entry.Subtask callee)
    → OneWaits h x.instance index → StandsOnly h x.instance index callee → slice_get (woken_held h t x).tasks callee ≡ Some c → MarksStay h (told_held h t callee x c)
unfolding told_held
ceases h t index callee x c i b there one only found =
    let k : Held = woken_held h t x in
    let now : slice_get (slice_set h.tasks t (woken x)) callee ≡ Some c = ap (λ (ts : List TaskSlot). slice_get ts callee) (sym (woken_tasks h t x)) ∙ found in
    all_marks h (with_task callee (awaited_slot false c) k)
    (stays_further h k (with_task callee (awaited_slot false c) k)
    (moved_waits h k t x.instance x (woken x) i i
    (move_in h t (blocked_at.Cancel index) x i i b refl refl (λ n set stood. none_counted _ (counts_not x.instance n x (ap (waits_on n) b.far)) (woken_counts x.instance n x)))
    (woken_tasks h t x) (woken_instances h t x ∙ sym (set_back h.instances x.instance i b.here)))
    (task_stays k callee c (awaited_slot false c) found (same_seen c (awaited_slot false c) refl refl refl refl)))
    (λ marks.
    subst (λ (is : List InstanceView). OthersMarked is (slice_set k.tasks callee (awaited_slot false c))) (sym (woken_instances h t x))
    (subst (λ (ts : List TaskSlot). OthersMarked h.instances (slice_set ts callee (awaited_slot false c))) (sym (woken_tasks h t x))
    (others_marked h t index callee x c i b there one only now marks)))

subtask_of : (o : Option WorldEntry) (callee : ℕ) → subtask_number o ≡ Some callee → o ≡ Some (entry.Subtask callee)
subtask_of None callee e = absurd (cc)
subtask_of (Some (entry.Handle x)) callee e = absurd (cc)
subtask_of (Some (entry.Subtask other)) callee e = ap (λ (n : ℕ). Some (entry.Subtask n)) (some_same e)
subtask_of (Some (entry.Set set)) callee e = absurd (cc)
subtask_of (Some (entry.End x)) callee e = absurd (cc)

-- It goes on, and is told.
pub cancel_on_marks : (h : Held) (t index : ℕ) (x : TaskSlot) (i : InstanceView) → InBuiltin h t (blocked_at.Cancel index) x i → OneWaits h x.instance index
    → ((callee : ℕ) → entry_of i index ≡ Some (entry.Subtask callee) → StandsOnly h x.instance index callee × CalledFrom h x.instance callee) → ToldGaveBack h
    → KeepsMarks h (cancel_resumed t x.instance index (woken_held h t x))
unfolding cancel_resumed told_held
cancel_on_marks h t index x i b one stands gave =
    let k : Held = woken_held h t x in
    let at : ℕ = x.instance in
    look_every h (slice_get k.instances at) (λ j. given (subtask_number (entry_of j index)) (λ callee. Gives callee k))
    (λ callee l. after (awaited callee false l) (λ done m. after (subtask_told at callee m) (λ payload n. got t (payload ∷ []) n)))
    (λ j here.
    look_every h (subtask_number (entry_of j index)) (λ callee. Gives callee k)
    (λ callee l. after (awaited callee false l) (λ done m. after (subtask_told at callee m) (λ payload n. got t (payload ∷ []) n)))
    (λ callee number.
    let same : j ≡ i = some_same (sym here ∙ ap (λ (is : List InstanceView). slice_get is at) (woken_instances h t x) ∙ b.here) in
    let there : entry_of i index ≡ Some (entry.Subtask callee) = ap (λ (z : InstanceView). entry_of z index) (sym same) ∙ subtask_of (entry_of j index) callee number in
    look_every h (slice_get k.tasks callee) (λ c. if may_keep c.caller then Gives (tt {0}) (with_task callee (awaited_slot false c) k) else Stuck)
    (λ done m. after (subtask_told at callee m) (λ payload n. got t (payload ∷ []) n))
    (λ c found.
    let m : Held = with_task callee (awaited_slot false c) k in
    tested_every h (may_keep c.caller) (Gives (tt {0}) m) (λ done m. after (subtask_told at callee m) (λ payload n. got t (payload ∷ []) n))
    (λ may.
    every_through h m (after (subtask_told at callee m) (λ payload n. got t (payload ∷ []) n))
    (ceases h t index callee x c i b there one (stands callee there).0 found)
    (all_by m (after (subtask_told at callee m) (λ payload n. got t (payload ∷ []) n))
    (stays_after m (subtask_told at callee m) (λ payload n. got t (payload ∷ []) n) (subtask_told_stays at callee m) (λ payload n. got_stays t (payload ∷ []) n))
    (keeps_after m (subtask_told at callee m) (λ payload n. got t (payload ∷ []) n)
    (subtask_told_keeps at callee m
    (from_by k callee at callee c (awaited_slot false c) found (λ called e. awaited_by false c.caller called e) refl (from_woken h t at callee x b.is (stands callee there).1))
    (gave_by k callee c (awaited_slot false c) found (λ called e. awaited_told false c.caller called e) (gave_woken h t x b.is gave)))
    (λ payload n. got_keeps t (payload ∷ []) n)))))))
