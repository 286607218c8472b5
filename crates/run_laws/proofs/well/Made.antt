-- A task is made, and called; and a task comes to be waited for directly: what is kept well stays so.
use Rattle.std.proofs.Common.{◌≡◌, inl, inr, ℕ, zero, suc, Bool, true, false, if◌then◌else◌, List, [], ◌∷◌, ◌++◌, length, slice_set, refl, sym, ap, ◌∙◌, Option, Some, None}
use Rattle.std.specs.List.{slice_get}
use Rattle.tasks.specs.declared.phase.Resolution.{Resolution}
use Rattle.tasks.specs.Tasks.{is_asked}
use Rattle.tasks.specs.Subtasks.{is_over}
use Rattle.tasks.specs.Views.{SubtaskView}
use Rattle.task_table.specs.declared.caller.Called.{Called}
use Rattle.task_table.specs.declared.caller.Caller.{Caller}
use Rattle.task_table.specs.declared.caller.Caller.TheVariants.{Nobody, Host, Guest}
use Rattle.task_table.specs.declared.errand.Errand.{Errand}
use Rattle.task_table.specs.declared.errand.Errand.TheVariants as errand
use Rattle.task_table.specs.declared.slot.TaskSlot.{TaskSlot}
use Rattle.task_table.specs.Callers as callers
use Rattle.task_table.specs.Callers.{called_of, changed, may_keep}
use Rattle.task_table.specs.Slots.{at_errand, awaited_slot}
use Rattle.world_parts.specs.Held.{Held, Gives, Stuck}
use Rattle.world_parts.specs.Slots.{with_task, awaited}
use Rattle.abi_machine.proofs.sound.Found.{some_same}
use Rattle.abi_machine.proofs.sound.Lists.{more_either}
use Rattle.run_laws.specs.keeping.Well.{NoneCalls, WellStays, KeepsWell}
use Rattle.run_laws.proofs.keeping.Sums.{set_either, set_cases}
use Rattle.run_laws.proofs.well.Behind.{well_all, well_further, well_given, well_if}

-- A new task has not resolved; its caller was told nothing, and waits for it directly nowhere.
pub record IsNew (slot : TaskSlot) : Type 0 where
  pub untold : (called : Called) → called_of slot.caller ≡ Some called → is_over called.subtask.told ≡ false
  pub unawaited : (called : Called) → called_of slot.caller ≡ Some called → called.is_awaited ≡ false
  pub unresolved : slot.task.resolution ≡ None
  pub at_none : slot.errand ≡ errand.None

not_both : {b : Bool} → b ≡ true → b ≡ false → ⊥
not_both e f = cc

none_not : {r : Option Resolution} {x : Resolution} → r ≡ None → r ≡ Some x → ⊥
none_not e f = cc

no_errand : {e : Errand} (callee canon : ℕ) → e ≡ errand.None → e ≡ errand.AfterCall callee canon → ⊥
no_errand callee canon e f = cc

pub well_more : (h k : Held) (slot : TaskSlot) → k.tasks ≡ h.tasks ++ slot ∷ [] → IsNew slot → WellStays h k
well_more h k slot same new well = record {
  gave = λ n z called found by told. elim (more_either h.tasks slot n z (ap (λ (ts : List TaskSlot). slice_get ts n) (sym same) ∙ found)) [
    | inl old ↦ well.gave n z called old by told
    | inr last ↦ absurd (not_both told (new.untold called (ap (λ (s : TaskSlot). called_of s.caller) (sym last.1) ∙ by)))
  ];
  over = λ n z called found by told. elim (more_either h.tasks slot n z (ap (λ (ts : List TaskSlot). slice_get ts n) (sym same) ∙ found)) [
    | inl old ↦ well.over n z called old by told
    | inr last ↦ absurd (not_both told (new.untold called (ap (λ (s : TaskSlot). called_of s.caller) (sym last.1) ∙ by)))
  ];
  asked = λ n z found resolved. elim (more_either h.tasks slot n z (ap (λ (ts : List TaskSlot). slice_get ts n) (sym same) ∙ found)) [
    | inl old ↦ well.asked n z old resolved
    | inr last ↦ absurd (none_not new.unresolved (ap (λ (s : TaskSlot). s.task.resolution) (sym last.1) ∙ resolved))
  ];
  unawaited = λ n callee canon z v called found at there by.
      elim (more_either h.tasks slot callee v (ap (λ (ts : List TaskSlot). slice_get ts callee) (sym same) ∙ there)) [
        | inl old ↦
            elim (more_either h.tasks slot n z (ap (λ (ts : List TaskSlot). slice_get ts n) (sym same) ∙ found)) [
              | inl before ↦ well.unawaited n callee canon z v called before at old by
              | inr last ↦ absurd (no_errand callee canon new.at_none (ap (λ (s : TaskSlot). s.errand) (sym last.1) ∙ at))
            ]
        | inr last ↦ new.unawaited called (ap (λ (s : TaskSlot). called_of s.caller) (sym last.1) ∙ by)
      ];
}

same_call : {a b c d : ℕ} → errand.AfterCall a c ≡ errand.AfterCall b d → a ≡ b
same_call e = cc

call_before : (tasks : List TaskSlot) (t : ℕ) (x y : TaskSlot) (callee : ℕ) (z : TaskSlot) (called : Called) → slice_get tasks t ≡ Some x → y.caller ≡ x.caller
    → slice_get (slice_set tasks t y) callee ≡ Some z → called_of z.caller ≡ Some called → (w : TaskSlot) × (slice_get tasks callee ≡ Some w) × (called_of w.caller ≡ Some called)
call_before tasks t x y callee z called is caller there by =
    elim (set_either tasks t y callee z there) [
      | inl new ↦ (x, ap (λ (k : ℕ). slice_get tasks k) new.0 ∙ is, ap called_of (sym caller) ∙ ap (λ (s : TaskSlot). called_of s.caller) (sym new.1) ∙ by)
      | inr old ↦ (z, old, by)
    ]

-- A task calls the one of a number, for whose call none waits directly.
pub well_called : (h : Held) (t made canon : ℕ) (x : TaskSlot) → slice_get h.tasks t ≡ Some x
    → ((slot : TaskSlot) (called : Called) → slice_get h.tasks made ≡ Some slot → called_of slot.caller ≡ Some called → called.is_awaited ≡ false)
    → WellStays h (with_task t (at_errand (errand.AfterCall made canon) x) h)
well_called h t made canon x is none well =
    let y : TaskSlot = at_errand (errand.AfterCall made canon) x in
    record {
      gave = λ n slot called found by told. elim (set_either h.tasks t y n slot found) [
        | inl new ↦ well.gave t x called is (ap (λ (s : TaskSlot). called_of s.caller) (sym new.1) ∙ by) told
        | inr old ↦ well.gave n slot called old by told
      ];
      over = λ n slot called found by told. elim (set_either h.tasks t y n slot found) [
        | inl new ↦ well.over t x called is (ap (λ (s : TaskSlot). called_of s.caller) (sym new.1) ∙ by) told
        | inr old ↦ well.over n slot called old by told
      ];
      asked = λ n slot found resolved. elim (set_either h.tasks t y n slot found) [
        | inl new ↦ ap (λ (s : TaskSlot). is_asked s.task.cancellation) new.1 ∙ well.asked t x is (ap (λ (s : TaskSlot). s.task.resolution) (sym new.1) ∙ resolved)
        | inr old ↦ well.asked n slot old resolved
      ];
      unawaited = λ n callee number slot z called found at there by.
          let p : (w : TaskSlot) × (slice_get h.tasks callee ≡ Some w) × (called_of w.caller ≡ Some called) = call_before h.tasks t x y callee z called is refl there by in
          elim (set_either h.tasks t y n slot found) [
            | inl new ↦
                let same : made ≡ callee = same_call (ap (λ (s : TaskSlot). s.errand) (sym new.1) ∙ at) in
                none p.0 called (ap (λ (k : ℕ). slice_get h.tasks k) same ∙ p.1) p.2
            | inr old ↦ well.unawaited n callee number slot p.0 called old at p.1 p.2
          ];
    }

-- The same where the one that is called stands behind all others.
set_pushed : {A : Type 0} (xs : List A) (t : ℕ) (x y z : A) → slice_get xs t ≡ Some x → slice_set (xs ++ z ∷ []) t y ≡ slice_set xs t y ++ z ∷ []
set_pushed [] t x y z is = absurd (cc)
set_pushed (w ∷ xs) zero x y z is = refl
set_pushed (w ∷ xs) (suc t) x y z is = ap (λ ys. w ∷ ys) (set_pushed xs t x y z is)

found_front : {A : Type 0} (xs : List A) (z : A) (t : ℕ) (x : A) → slice_get xs t ≡ Some x → slice_get (xs ++ z ∷ []) t ≡ Some x
found_front [] z t x is = absurd (cc)
found_front (w ∷ xs) z zero x is = is
found_front (w ∷ xs) z (suc t) x is = found_front xs z t x is

last_pushed : {A : Type 0} (xs : List A) (z v : A) → slice_get (xs ++ z ∷ []) (length xs) ≡ Some v → v ≡ z
last_pushed [] z v e = sym (some_same e)
last_pushed (w ∷ xs) z v e = last_pushed xs z v e

pub called_new : (h k : Held) (t canon : ℕ) (x slot : TaskSlot) → slice_get h.tasks t ≡ Some x → IsNew slot
    → k.tasks ≡ slice_set h.tasks t (at_errand (errand.AfterCall (length h.tasks) canon) x) ++ slot ∷ [] → WellStays h k
called_new h k t canon x slot is new tasks_are =
    let l : Held = record h { tasks = h.tasks ++ slot ∷ [] } in
    let y : TaskSlot = at_errand (errand.AfterCall (length h.tasks) canon) x in
    well_further h l k (well_more h l slot refl new)
    (well_further l (with_task t y l) k
    (well_called l t (length h.tasks) canon x (found_front h.tasks slot t x is)
    (λ z called found by. new.unawaited called (ap (λ (s : TaskSlot). called_of s.caller) (sym (last_pushed h.tasks slot z found)) ∙ by)))
    (well_all (with_task t y l) k (tasks_are ∙ sym (set_pushed h.tasks t x y slot is))))

-- A task comes to be waited for directly, which none has called whose control has yet to come back.
same_caller : (b : Bool) (c : Caller) (called : Called) → called_of (changed (callers.awaited b) c) ≡ Some called
    → (prior : Called) × (called_of c ≡ Some prior) × (called.subtask ≡ prior.subtask)
same_caller b Nobody called e = absurd (cc)
same_caller b (Host call) called e = absurd (cc)
same_caller b (Guest prior) called e = (prior, refl, ap (λ (x : Called). x.subtask) (sym (some_same e)))

errand_before : (tasks : List TaskSlot) (t : ℕ) (x y : TaskSlot) (n : ℕ) (slot : TaskSlot) (other number : ℕ) → slice_get tasks t ≡ Some x → y.errand ≡ x.errand
    → slice_get (slice_set tasks t y) n ≡ Some slot → slot.errand ≡ errand.AfterCall other number → (w : TaskSlot) × (slice_get tasks n ≡ Some w) × (w.errand ≡ errand.AfterCall other number)
errand_before tasks t x y n slot other number is same found at =
    elim (set_either tasks t y n slot found) [
      | inl new ↦ (x, ap (λ (k : ℕ). slice_get tasks k) new.0 ∙ is, sym same ∙ ap (λ (s : TaskSlot). s.errand) (sym new.1) ∙ at)
      | inr old ↦ (slot, old, at)
    ]

pub well_awaited : (h : Held) (callee : ℕ) (x : TaskSlot) → slice_get h.tasks callee ≡ Some x → NoneCalls h callee → WellStays h (with_task callee (awaited_slot true x) h)
well_awaited h callee x is apart well =
    let y : TaskSlot = awaited_slot true x in
    record {
      gave = λ n slot called found by told. elim (set_either h.tasks callee y n slot found) [
        | inl new ↦
            let p : (prior : Called) × (called_of x.caller ≡ Some prior) × (called.subtask ≡ prior.subtask) = same_caller true x.caller called (ap (λ (s : TaskSlot). called_of s.caller) (sym new.1) ∙ by) in
            ap (λ (s : SubtaskView). s.lends) p.2 ∙ well.gave callee x p.0 is p.1 (ap (λ (s : SubtaskView). is_over s.told) (sym p.2) ∙ told)
        | inr old ↦ well.gave n slot called old by told
      ];
      over = λ n slot called found by told. elim (set_either h.tasks callee y n slot found) [
        | inl new ↦
            let p : (prior : Called) × (called_of x.caller ≡ Some prior) × (called.subtask ≡ prior.subtask) = same_caller true x.caller called (ap (λ (s : TaskSlot). called_of s.caller) (sym new.1) ∙ by) in
            ap (λ (s : SubtaskView). is_over s.state) p.2 ∙ well.over callee x p.0 is p.1 (ap (λ (s : SubtaskView). is_over s.told) (sym p.2) ∙ told)
        | inr old ↦ well.over n slot called old by told
      ];
      asked = λ n slot found resolved. elim (set_either h.tasks callee y n slot found) [
        | inl new ↦ ap (λ (s : TaskSlot). is_asked s.task.cancellation) new.1 ∙ well.asked callee x is (ap (λ (s : TaskSlot). s.task.resolution) (sym new.1) ∙ resolved)
        | inr old ↦ well.asked n slot old resolved
      ];
      unawaited = λ n other number slot z called found at there by.
          let q : (w : TaskSlot) × (slice_get h.tasks n ≡ Some w) × (w.errand ≡ errand.AfterCall other number) = errand_before h.tasks callee x y n slot other number is refl found at in
          elim (set_cases h.tasks callee y other z there) [
            | inl new ↦ absurd (apart n number q.0 q.1 (q.2 ∙ ap (λ (k : ℕ). errand.AfterCall k number) new.0))
            | inr old ↦ well.unawaited n other number q.0 z called q.1 q.2 old.1 by
          ];
    }

pub awaited_well : (callee : ℕ) (h : Held) → NoneCalls h callee → KeepsWell h (awaited callee true h)
awaited_well callee h apart =
    well_given h (slice_get h.tasks callee) (λ slot. if may_keep slot.caller then Gives (tt {0}) (with_task callee (awaited_slot true slot) h) else Stuck)
    (λ slot is. well_if h (may_keep slot.caller) (Gives (tt {0}) (with_task callee (awaited_slot true slot) h)) Stuck (well_awaited h callee slot is apart) tt)
