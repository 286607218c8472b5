-- No handle is lent more often where a task enters.
use Rattle.std.proofs.Common.{◌≡◌, ◌⊎◌, inl, inr, ℕ, ◌^◌, zero, suc, Bool, true, false, nat_lt, if◌then◌else◌, List, [], ◌∷◌, slice_set, refl, sym, ap, subst, Option, Some, None, Result, Ok, Err}
use Rattle.std.specs.List.{slice_get}
use Rattle.instances.specs.Entries.{seen_as}
use Rattle.instances.specs.Instances.{InstanceView, with_gate}
use Rattle.entry_gate.specs.Gates.{GateView, without_wait}
use Rattle.entry_gate.specs.Gates as gate
use Rattle.entry_gate.specs.declared.kind.Kind.{Kind}
use Rattle.tasks.specs.declared.event.TaskEvent.{TaskEvent}
use Rattle.tasks.specs.declared.event.TaskEvent.TheVariants as event
use Rattle.tasks.specs.declared.subtask_state.SubtaskState.{SubtaskState}
use Rattle.tasks.specs.declared.subtask_state.SubtaskState.TheVariants as state
use Rattle.task_table.specs.declared.refusal.EventError.{EventError}
use Rattle.task_table.specs.declared.refusal.EventError.TheVariants as event_error
use Rattle.task_table.specs.declared.slot.TaskSlot.{TaskSlot}
use Rattle.task_table.specs.Callers.{may_raise}
use Rattle.task_table.specs.Slots.{event_answer, advanced_slot, raised_slot}
use Rattle.value_lift.specs.Tables.{MostLends}
use Rattle.world_parts.specs.Held.{Held, Done, Gives, Traps, Spent, Stuck, after, given}
use Rattle.world_parts.specs.Entries.{with_instance}
use Rattle.world_parts.specs.Gates.{gate_unwaited, gate_entered}
use Rattle.world_parts.specs.Slots.{with_task, happens, happened, raised, unparked}
use Rattle.world_parts.specs.Going.{enters, unwaited_if, waits_to_enter}
use Rattle.value_parts.specs.Lifting.{FewLent}

-- what stands in a list once an item is another one
set_either : {A : Type 0} (xs : List A) (t : ℕ) (y : A) (n : ℕ) (z : A) → slice_get (slice_set xs t y) n ≡ Some z → ((n ≡ t) × (z ≡ y)) ⊎ (slice_get xs n ≡ Some z)
set_either [] t y n z h = inr h
set_either (x ∷ xs) zero y zero z h = inl (refl, let e : z ≡ y = cc in e)
set_either (x ∷ xs) zero y (suc n) z h = inr h
set_either (x ∷ xs) (suc t) y zero z h = inr h
set_either (x ∷ xs) (suc t) y (suc n) z h =
    elim (set_either xs t y n z h) [
      | inl e ↦ inl (ap suc e.0, e.1)
      | inr e ↦ inr e
    ]

-- The gate of an instance is another one.
few_gate : (h : Held) (at : ℕ) (i : InstanceView) (g : GateView) → slice_get h.instances at ≡ Some i → FewLent h → FewLent (with_instance at (with_gate g i) h)
few_gate h at i g found few n j stands =
    elim (set_either h.instances at (with_gate g i) n j stands) [
      | inl e ↦ subst (λ (k : InstanceView). MostLends seen_as (2 ^ 63) k.slots) (sym e.1) (few at i found)
      | inr e ↦ few n j e
    ]

-- What holds behind a part, where it gives something.
abbrev Few_behind : {A : Type 0} → Done A → Type 0
Few_behind (Gives x h) = FewLent h
Few_behind (Traps why h) = Unit {0}
Few_behind (Spent h) = Unit {0}
Few_behind Stuck = Unit {0}

few_after : {A B : Type 0} (d : Done A) (f : A → Held → Done B) → Few_behind d → ((x : A) (k : Held) → FewLent k → Few_behind (f x k)) → Few_behind (after d f)
few_after (Gives x h) f few more = more x h few
few_after (Traps why h) f few more = tt
few_after (Spent h) f few more = tt
few_after Stuck f few more = tt

few_given : {A B : Type 0} (o : Option A) (f : A → Done B) → ((x : A) → o ≡ Some x → Few_behind (f x)) → Few_behind (given o f)
few_given None f more = tt
few_given (Some x) f more = more x refl

few_if : {A : Type 0} (b : Bool) (d e : Done A) → Few_behind d → Few_behind e → Few_behind (let r : Done A = if b then d else e in r)
few_if true d e few other = few
few_if false d e few other = other

few_happened : (r : Result (Unit {0}) EventError) (t : ℕ) (slot : TaskSlot) (h : Held) → FewLent h → Few_behind (happened r t slot h)
few_happened (Ok done) t slot h few = few
few_happened (Err event_error.NotNow) t slot h few = tt
few_happened (Err (event_error.Trap why)) t slot h few = tt

few_happens : (t : ℕ) (e : TaskEvent) (h : Held) → FewLent h → Few_behind (happens t e h)
few_happens t e h few = few_given (slice_get h.tasks t) (λ slot. happened (event_answer e slot.task) t (advanced_slot e slot) h) (λ slot found. few_happened (event_answer e slot.task) t (advanced_slot e slot) h few)

few_raised : (t : ℕ) (s : SubtaskState) (h : Held) → FewLent h → Few_behind (raised t s h)
few_raised t s h few =
    few_given (slice_get h.tasks t) (λ slot. if may_raise s slot.caller then Gives tt (with_task t (raised_slot s slot) h) else Stuck)
    (λ slot found. few_if (may_raise s slot.caller) (Gives tt (with_task t (raised_slot s slot) h)) Stuck few tt)

few_unwaited : (at : ℕ) (h : Held) → FewLent h → Few_behind (gate_unwaited at h)
few_unwaited at h few =
    few_given (slice_get h.instances at) (λ i. if nat_lt 0 i.gate.waiting then Gives tt (with_instance at (with_gate (without_wait i.gate) i) h) else Stuck)
    (λ i found. few_if (nat_lt 0 i.gate.waiting) (Gives tt (with_instance at (with_gate (without_wait i.gate) i) h)) Stuck (few_gate h at i (without_wait i.gate) found few) tt)

few_unwaited_if : (b : Bool) (t at : ℕ) (h : Held) → FewLent h → Few_behind (unwaited_if b t at h)
few_unwaited_if true t at h few = few_after (gate_unwaited at h) (λ done k. unparked t k) (few_unwaited at h few) (λ done k kept. kept)
few_unwaited_if false t at h few = few

few_entered : (at t : ℕ) (kind : Kind) (h : Held) → FewLent h → Few_behind (gate_entered at t kind h)
few_entered at t kind h few =
    few_given (slice_get h.instances at) (λ i. Gives tt (with_instance at (with_gate (gate.entered t kind i.gate) i) h))
    (λ i found. few_gate h at i (gate.entered t kind i.gate) found few)

few_slot : {A : Type 0} (t : ℕ) (f : TaskSlot → A) (h : Held) → FewLent h → Few_behind (given (slice_get h.tasks t) (λ slot. Gives (f slot) h))
few_slot t f h few = few_given (slice_get h.tasks t) (λ slot. Gives (f slot) h) (λ slot found. few)

few_behind_enters : (t : ℕ) (h : Held) → FewLent h → Few_behind (enters t h)
unfolding enters
few_behind_enters t h few =
    few_after _ _ (few_slot t (λ slot. slot.instance) h few) (λ at k few_k.
    few_after _ _ (few_slot t (λ slot. slot.task.kind) k few_k) (λ kind l few_l.
    few_after _ _ (few_slot t (λ slot. slot.task.phase) l few_l) (λ far m few_m.
    few_after _ _ (few_unwaited_if (waits_to_enter far) t at m few_m) (λ done n few_n.
    few_after _ _ (few_entered at t kind n few_n) (λ done o few_o.
    few_after _ _ (few_happens t event.Enter o few_o) (λ done p few_p.
    few_after _ _ (few_raised t state.Started p few_p) (λ done q few_q. few_q)))))))

given_so : {A : Type 0} (d : Done A) (x : A) (k : Held) → d ≡ Gives x k → Few_behind d → FewLent k
given_so {A} d x k is few = subst (λ (e : Done A). Few_behind e) is few

pub few_enters : (t : ℕ) (h k : Held) (done : Unit {0}) → enters t h ≡ Gives done k → FewLent h → FewLent k
few_enters t h k done is few = given_so (enters t h) done k is (few_behind_enters t h few)
