-- What each change keeps of tasks that call tasks.
use Rattle.std.proofs.Common.{◌≡◌, ◌⊎◌, inl, inr, ℕ, Bool, true, false, List, [], ◌∷◌, ◌++◌, refl, sym, ap, ◌∙◌, subst, Some}
use Rattle.std.specs.List.{slice_get}
use Rattle.comp_graph.specs.Graph.{Lifted}
use Rattle.abi_machine.specs.World.{OfSubtask, Inst, Subtask, Caller, Nobody, Host, Guest, AfterCancel, Task}
use Rattle.abi_machine.specs.Edits.{changed_at, added, caller_changed}
use Rattle.abi_machine.specs.Reading.{func_of, is_in, runs_in, subtask_of}
use Rattle.abi_machine.specs.sound.Firsts.{TaskIs}
use Rattle.abi_machine.specs.sound.Subtasks.{CallIs}
use Rattle.abi_machine.proofs.sound.Lists.{more_either, get_front}
use Rattle.abi_machine.proofs.sound.Found.{some_same}
use Rattle.abi_machine.proofs.sound.Acted.{still_is}
use Rattle.abi_machine.proofs.sound.Chained.{changed_here}
use Rattle.abi_machine.proofs.sound.Awaited.{by_call, call_changed, call_more}
use Rattle.abi_machine.proofs.sound.AwaitedTables.{NoneMore, was_added}
use Rattle.reach_laws.specs.KnownCalls.{IsFrom, IsNotFrom, CallsKnown}

-- A change of a task leaves what it runs alone, and who called it.
pub record LeavesCalls (f : Task → Task) : Type 0 where
  pub runs : (x : Task) → (f x).callee ≡ x.callee
  pub later : (x : Task) (subtask : Subtask) → subtask_of x.caller ≡ Some subtask → (new : Subtask) × (subtask_of (f x).caller ≡ Some new) × (new.by ≡ subtask.by)
  pub before : (x : Task) (subtask : Subtask) → subtask_of (f x).caller ≡ Some subtask → (old : Subtask) × (subtask_of x.caller ≡ Some old) × (subtask.by ≡ old.by)

pub same_leaves : (f : Task → Task) → ((x : Task) → (f x).callee ≡ x.callee) → ((x : Task) → (f x).caller ≡ x.caller) → LeavesCalls f
same_leaves f callee caller = record {
  runs = callee;
  later = λ x subtask guest. (subtask, ap subtask_of (caller x) ∙ guest, refl);
  before = λ x subtask guest. (subtask, ap subtask_of (sym (caller x)) ∙ guest, refl);
}

guest_before : (k : Subtask → Subtask) → ((y : Subtask) → (k y).by ≡ y.by) → (c : Caller) (subtask : Subtask) → subtask_of (caller_changed k c) ≡ Some subtask
    → (old : Subtask) × (subtask_of c ≡ Some old) × (subtask.by ≡ old.by)
guest_before k same Nobody subtask e = cc
guest_before k same (Host call values) subtask e = cc
guest_before k same (Guest other) subtask e = (other, refl, ap (λ (y : Subtask). y.by) (sym (some_same e)) ∙ same other)

pub told_leaves : (k : Subtask → Subtask) → ((y : Subtask) → (k y).by ≡ y.by) → LeavesCalls (λ x. record x { caller = caller_changed k x.caller })
told_leaves k same = record {
  runs = λ x. refl;
  later = λ x subtask guest. by_call (λ (y : Subtask). y.by ≡ subtask.by) k (λ y p. same y ∙ p) x subtask guest refl;
  before = λ x subtask guest. guest_before k same x.caller subtask guest;
}

still_runs : (tasks : List Task) (u n : ℕ) (f : Task → Task) (at : ℕ) (b : Bool) → LeavesCalls f → TaskIs tasks n (λ x. runs_in at x ≡ b) → TaskIs (changed_at u f tasks) n (λ x. runs_in at x ≡ b)
still_runs tasks u n f at b same h = still_is tasks u n f (λ x. runs_in at x ≡ b) (λ x p. ap (λ c. is_in at (func_of c)) (same.runs x) ∙ p) h

from_changed : (tasks : List Task) (u : ℕ) (f : Task → Task) (at callee : ℕ) → LeavesCalls f → CallIs tasks callee (IsFrom tasks at) → CallIs (changed_at u f tasks) callee (IsFrom (changed_at u f tasks) at)
from_changed tasks u f at callee same h =
    call_changed tasks u f (IsFrom (changed_at u f tasks) at) callee
    (λ x subtask guest p. (let new = same.later x subtask guest in (new.0, new.1, subst (λ (n : ℕ). TaskIs (changed_at u f tasks) n (λ z. runs_in at z ≡ true)) (sym new.2) p)))
    (h.0, h.1, (h.2.0, h.2.1, still_runs tasks u h.2.0.by f at true same h.2.2))

-- what the state of the changed task says, where it cancels another one
abbrev pub CancelsFrom : List Task → Task → Task → Type 0
CancelsFrom tasks x y =
    (callee number : ℕ) (words : List ℕ) (f : Lifted) → y.state ≡ AfterCancel callee number words → func_of x.callee ≡ Some f → (x.state ≡ AfterCancel callee number words) ⊎ CallIs tasks callee (IsFrom tasks f.instance)

pub edited : (tasks : List Task) (insts : List Inst) (u : ℕ) (f : Task → Task) → LeavesCalls f → ((x : Task) → slice_get tasks u ≡ Some x → CancelsFrom tasks x (f x)) → CallsKnown tasks insts
    → CallsKnown (changed_at u f tasks) insts
edited tasks insts u f same says h = record {
  inside = λ at index callee stands. from_changed tasks u f at callee same (h.inside at index callee stands);
  leaves = λ callee task subtask l there guest runs. elim (changed_here u f tasks callee task there) [
    | inl o ↦ (
        let x : Task = o.1.0 in
        let old = same.before x subtask (subst (λ (y : Task). subtask_of y.caller ≡ Some subtask) o.1.2 guest) in
        let ran : func_of x.callee ≡ Some l = ap func_of (sym (same.runs x)) ∙ subst (λ (y : Task). func_of y.callee ≡ Some l) o.1.2 runs in
        let was : TaskIs tasks old.0.by (λ y. runs_in l.instance y ≡ false) = h.leaves u x old.0 l o.1.1 old.1 ran in
        subst (λ (n : ℕ). TaskIs (changed_at u f tasks) n (λ y. runs_in l.instance y ≡ false)) (sym old.2) (still_runs tasks u old.0.by f l.instance false same was)
        )
    | inr old ↦ still_runs tasks u subtask.by f l.instance false same (h.leaves callee task subtask l old guest runs)
  ];
  cancels = λ t callee number words task l there runs is. elim (changed_here u f tasks t task there) [
    | inl o ↦ (
        let x : Task = o.1.0 in
        let ran : func_of x.callee ≡ Some l = ap func_of (sym (same.runs x)) ∙ subst (λ (y : Task). func_of y.callee ≡ Some l) o.1.2 runs in
        elim (says x o.1.1 callee number words l (subst (λ (y : Task). y.state ≡ AfterCancel callee number words) o.1.2 is) ran) [
          | inl before ↦ from_changed tasks u f l.instance callee same (h.cancels u callee number words x l o.1.1 ran before)
          | inr now ↦ from_changed tasks u f l.instance callee same now
        ]
        )
    | inr old ↦ from_changed tasks u f l.instance callee same (h.cancels t callee number words task l old runs is)
  ];
}

-- A task is made, which cancels none: by the script, or by a task that runs in another component instance.
still_front : (tasks : List Task) (new : Task) (n at : ℕ) (b : Bool) → TaskIs tasks n (λ x. runs_in at x ≡ b) → TaskIs (tasks ++ new ∷ []) n (λ x. runs_in at x ≡ b)
still_front tasks new n at b h = (h.0, get_front tasks new n h.0 h.1, h.2)

from_front : (tasks : List Task) (new : Task) (at callee : ℕ) → CallIs tasks callee (IsFrom tasks at) → CallIs (tasks ++ new ∷ []) callee (IsFrom (tasks ++ new ∷ []) at)
from_front tasks new at callee h = call_more tasks new (IsFrom (tasks ++ new ∷ []) at) callee (h.0, h.1, (h.2.0, h.2.1, still_front tasks new h.2.0.by at true h.2.2))

pub one_more : (tasks : List Task) (insts : List Inst) (new : Task)
    → ((subtask : Subtask) (f : Lifted) → subtask_of new.caller ≡ Some subtask → func_of new.callee ≡ Some f → IsNotFrom tasks f.instance subtask)
    → ((callee number : ℕ) (words : List ℕ) → new.state ≡ AfterCancel callee number words → ⊥) → CallsKnown tasks insts → CallsKnown (tasks ++ new ∷ []) insts
one_more tasks insts new apart none h = record {
  inside = λ at index callee stands. from_front tasks new at callee (h.inside at index callee stands);
  leaves = λ callee task subtask l there guest runs. elim (more_either tasks new callee task there) [
    | inl old ↦ still_front tasks new subtask.by l.instance false (h.leaves callee task subtask l old guest runs)
    | inr last ↦
        still_front tasks new subtask.by l.instance false
        (apart subtask l (subst (λ (y : Task). subtask_of y.caller ≡ Some subtask) last.1 guest) (subst (λ (y : Task). func_of y.callee ≡ Some l) last.1 runs))
  ];
  cancels = λ t callee number words task l there runs is. elim (more_either tasks new t task there) [
    | inl old ↦ from_front tasks new l.instance callee (h.cancels t callee number words task l old runs is)
    | inr last ↦ absurd (none callee number words (subst (λ (y : Task). y.state ≡ AfterCancel callee number words) last.1 is))
  ];
}

-- Tables with no subtask more; and with one that was called from the component instance.
pub fewer : (tasks : List Task) (insts others : List Inst) → NoneMore insts others → CallsKnown tasks insts → CallsKnown tasks others
fewer tasks insts others less h = record { inside = λ at index callee stands. h.inside at index callee (less at index callee stands); leaves = h.leaves; cancels = h.cancels }

pub subtask_added : (tasks : List Task) (insts : List Inst) (i callee : ℕ) → CallIs tasks callee (IsFrom tasks i) → CallsKnown tasks insts
    → CallsKnown tasks (changed_at i (λ inst. record inst { table = added (OfSubtask callee) inst.table }) insts)
subtask_added tasks insts i callee from h = record {
  inside = λ at index other stands. elim (was_added insts i callee at index other stands) [
    | inl old ↦ h.inside at index other old
    | inr new ↦ subst (λ (n : ℕ). CallIs tasks other (IsFrom tasks n)) (sym new.1) (subst (λ (n : ℕ). CallIs tasks n (IsFrom tasks i)) (sym new.0) from)
  ];
  leaves = h.leaves;
  cancels = h.cancels;
}
