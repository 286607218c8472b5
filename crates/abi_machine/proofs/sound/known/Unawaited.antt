-- Tasks for which none waits in a call: those that stand in a table, that are cancelled, and those whose caller acts again.
use Rattle.std.proofs.Common.{◌≡◌, inl, inr, ℕ, true, List, refl, sym, ap, ◌∙◌, subst, Some}
use Rattle.std.specs.List.{slice_get}
use Rattle.comp_graph.specs.Graph.{Graph}
use Rattle.abi_machine.specs.World.{OfSubtask, Subtask, ForCall, TaskState, Acting, AfterCall, AfterCancel, InBuiltin, Task, World}
use Rattle.abi_machine.specs.Edits.{changed_at, in_state}
use Rattle.abi_machine.specs.Canons.{options_at}
use Rattle.abi_machine.specs.Reading.{entry_at, runs_in}
use Rattle.abi_machine.specs.sound.Acting.{Outline}
use Rattle.abi_machine.specs.sound.Firsts.{TaskIs}
use Rattle.abi_machine.specs.sound.Called.{Called, HasCalled, HaveCalled, CalledBy}
use Rattle.abi_machine.specs.sound.Subtasks.{StandsNowhere, CallIs, IsAsync, IsUnawaited, CancelsApart, AreSubtasks}
use Rattle.abi_machine.proofs.sound.Found.{some_same, changed_kept, changed_there}
use Rattle.abi_machine.proofs.sound.Acted.{still_is}
use Rattle.abi_machine.proofs.sound.Chained.{changed_here}
use Rattle.abi_machine.proofs.sound.Outlines.{outline_back, Is}
use Rattle.abi_machine.proofs.sound.Calling.{one_waits}
use Rattle.abi_machine.proofs.sound.acts.Keeping.{IsIn}

abbrev pub acts_again : Task → Task
acts_again task = record task { state = Acting }

-- the task of a number, which is in a state
pub in_this_state : (w : World) (t : ℕ) (state : TaskState) → Is (IsIn state) t w → (x : Task) × (slice_get w.tasks t ≡ Some x) × (x.state ≡ state)
in_this_state w t state a = (let x = outline_back w.tasks t a.1.0 a.1.1 in (x.0, x.1, ap (λ (o : Outline). o.state) x.2 ∙ a.1.2))

-- No task waits in a call for a subtask of a table, and so it is once the acting task acts again.
pub standing_unawaited : (g : Graph) (w : World) (i index callee : ℕ) → AreSubtasks g w.tasks w.insts → entry_at w i index ≡ Some (OfSubtask callee) → IsUnawaited w.tasks callee
standing_unawaited g w i index callee h there t number task e c = (h.awaited t callee number task e c).1 i index there

pub still_unawaited : (tasks : List Task) (t callee : ℕ) → IsUnawaited tasks callee → IsUnawaited (changed_at t acts_again tasks) callee
still_unawaited tasks t callee h u number task e c = elim (changed_here t acts_again tasks u task e) [
  | inl o ↦ subst (λ (x : Task). CalledBy x.state callee number) o.1.2 c
  | inr old ↦ h u number task old c
]

-- The one that waited acts again, so that none waits.
pub last_waits : (tasks : List Task) (t callee number : ℕ) (x : Task) → HaveCalled tasks → slice_get tasks t ≡ Some x → CalledBy x.state callee number → IsUnawaited (changed_at t acts_again tasks) callee
last_waits tasks t callee number x called there waits u other task e c = elim (changed_here t acts_again tasks u task e) [
  | inl o ↦ subst (λ (y : Task). CalledBy y.state callee other) o.1.2 c
  | inr old ↦ (
      let same : t ≡ u = (one_waits tasks called t u callee number other x task there old waits c).0 in
      let now : task ≡ acts_again x = some_same (sym (subst (λ (n : ℕ). slice_get (changed_at t acts_again tasks) n ≡ Some task) (sym same) e) ∙ changed_there t acts_again tasks x there) in
      subst (λ (y : Task). CalledBy y.state callee other) now c
      )
]

-- by what a task waited for
pub behind_call : (g : Graph) (w : World) (t callee number : ℕ) (words : List ℕ) → HaveCalled w.tasks → Is (IsIn (AfterCall callee number words)) t w → IsUnawaited (in_state t Acting w).tasks callee
behind_call g w t callee number words called a =
    let x = in_this_state w t (AfterCall callee number words) a in
    last_waits w.tasks t callee number x.0 called x.1 (subst (λ (state : TaskState). CalledBy state callee number) (sym x.2) (refl, refl))

pub behind_wait : (g : Graph) (w : World) (t callee number : ℕ) (words : List ℕ) → HaveCalled w.tasks → Is (IsIn (InBuiltin number words (ForCall callee))) t w → IsUnawaited (in_state t Acting w).tasks callee
behind_wait g w t callee number words called a =
    let x = in_this_state w t (InBuiltin number words (ForCall callee)) a in
    last_waits w.tasks t callee number x.0 called x.1 (subst (λ (state : TaskState). CalledBy state callee number) (sym x.2) (refl, refl))

pub behind_cancel : (g : Graph) (w : World) (t callee number : ℕ) (words : List ℕ) → AreSubtasks g w.tasks w.insts → Is (IsIn (AfterCancel callee number words)) t w → IsUnawaited (in_state t Acting w).tasks callee
behind_cancel g w t callee number words h a =
    let x = in_this_state w t (AfterCancel callee number words) a in
    let apart : CancelsApart w.tasks (AfterCancel callee number words) = subst (CancelsApart w.tasks) x.2 (h.cancelled t x.0 x.1) in
    still_unawaited w.tasks t callee apart.1

-- A call that does not wait: its subtask, which is to stand in a table.
abbrev pub IsNewSubtask : Graph → World → ℕ → Type 0
IsNewSubtask g w callee = CallIs w.tasks callee (IsAsync g) × IsUnawaited w.tasks callee × StandsNowhere w.insts callee

call_is_async : (g : Graph) (tasks : List Task) (t callee number : ℕ) → Called tasks t number callee → (options_at g number).is_async ≡ true → CallIs tasks callee (IsAsync g)
call_is_async g tasks t callee number h async = (h.0, h.1, (h.2.0, h.2.1, subst (λ (n : ℕ). (options_at g n).is_async ≡ true) (sym h.2.3) async))

pub calls_acting : (tasks : List Task) (t callee : ℕ) (P : Subtask → Type 0) → CallIs tasks callee P → CallIs (changed_at t acts_again tasks) callee P
calls_acting tasks t callee P h = elim (changed_kept t acts_again tasks callee h.0 h.1) [
  | inl e ↦ (h.0, e, h.2)
  | inr e ↦ (acts_again h.0, e, h.2)
]

pub new_subtask : (g : Graph) (w : World) (t callee number : ℕ) (words : List ℕ) → HaveCalled w.tasks → AreSubtasks g w.tasks w.insts → Is (IsIn (AfterCall callee number words)) t w
    → (options_at g number).is_async ≡ true → IsNewSubtask g (in_state t Acting w) callee
new_subtask g w t callee number words called h a async =
    let x = in_this_state w t (AfterCall callee number words) a in
    let waits : CalledBy x.0.state callee number = subst (λ (state : TaskState). CalledBy state callee number) (sym x.2) (refl, refl) in
    let has : Called w.tasks t number callee = subst (HasCalled w.tasks t) x.2 (called t x.0 x.1) in (
      calls_acting w.tasks t callee (IsAsync g) (call_is_async g w.tasks t callee number has async),
      behind_call g w t callee number words called a,
      (h.awaited t callee number x.0 x.1 waits).1,
    )

-- It is to stand in the table of the component instance whose function the task runs that called it.
abbrev pub CallsInside : List Task → ℕ → Subtask → Type 0
CallsInside tasks i subtask = TaskIs tasks subtask.by (λ x. runs_in i x ≡ true)

pub new_inside : (w : World) (t i callee number : ℕ) (words : List ℕ) → HaveCalled w.tasks → TaskIs w.tasks t (λ x. runs_in i x ≡ true) → Is (IsIn (AfterCall callee number words)) t w
    → CallIs (in_state t Acting w).tasks callee (CallsInside (in_state t Acting w).tasks i)
new_inside w t i callee number words called inside a =
    let x = in_this_state w t (AfterCall callee number words) a in
    let has : Called w.tasks t number callee = subst (HasCalled w.tasks t) x.2 (called t x.0 x.1) in
    let now : TaskIs (in_state t Acting w).tasks t (λ y. runs_in i y ≡ true) = still_is w.tasks t t acts_again (λ y. runs_in i y ≡ true) (λ y p. p) inside in
    calls_acting w.tasks t callee (CallsInside (in_state t Acting w).tasks i)
    (has.0, has.1, (has.2.0, has.2.1, subst (λ (n : ℕ). TaskIs (in_state t Acting w).tasks n (λ y. runs_in i y ≡ true)) (sym has.2.2) now))
