-- What tests of tasks tell: how far a cancellation is, whether a task has resolved, and whether one may be inside its instance.
use Rattle.std.proofs.Common.{◌≡◌, inl, inr, ℕ, Bool, true, false, not, ◌&&◌, ◌||◌, is_none, nat_eq, List, refl, sym, ap, ◌∙◌, subst, Option, Some, None, if◌then◌else◌}
use Rattle.std.specs.List.{slice_get}
use Rattle.entry_gate.specs.Gates.{is_free, may_enter}
use Rattle.entry_gate.specs.Kinds.{needs_entry}
use Rattle.entry_gate.specs.Stays.{holder_of}
use Rattle.tasks.specs.declared.event.Asked.{Asked}
use Rattle.tasks.specs.declared.event.Asked.TheVariants.{Removed, ResumeNow, Pending}
use Rattle.tasks.specs.declared.phase.Cancellation.{Cancellation}
use Rattle.tasks.specs.declared.phase.Cancellation.TheVariants as cancellation
use Rattle.tasks.specs.declared.phase.Phase.{Phase}
use Rattle.tasks.specs.declared.phase.Resolution.{Resolution}
use Rattle.tasks.specs.declared.phase.Resolution.TheVariants.{Returned, Cancelled}
use Rattle.tasks.specs.declared.subtask_state.SubtaskState.TheVariants.{CancelledBeforeStarted, CancelledBeforeReturned}
use Rattle.tasks.specs.Subtasks.{is_over}
use Rattle.tasks.specs.Tasks.{is_sync, is_asked, is_told, is_unasked, resolved_state, cancel_case}
use Rattle.comp_graph.specs.Graph.{Graph, Lifted}
use Rattle.abi_machine.specs.World.{Callee, Wait, ForYield, ForSet, ForCall, ForCopy, ForCancel, TaskState, New, Acting, AfterCall, AfterCancel, Begins, WaitsToEnter, InLoop, InBuiltin, Exited, Task, World}
use Rattle.abi_machine.specs.Edits.{changed_at}
use Rattle.abi_machine.specs.Canons.{flag_at}
use Rattle.abi_machine.specs.Reading.{func_of, kind_of, kind_of_func}
use Rattle.abi_machine.specs.Counting.{passes, phase_of, task_view, subtask_state, has_resolved}
use Rattle.abi_machine.specs.Gate.{place_of, stays_in, gate_of, is_entry_free}
use Rattle.abi_machine.specs.Scheduling.{is_able_in, is_able}
use Rattle.abi_machine.specs.sound.Firsts.{TaskIs, MayBeInside}
use Rattle.abi_machine.proofs.sound.Found.{some_same}
use Rattle.abi_machine.proofs.sound.Acted.{changed_where}

pub left_true : (a b : Bool) → (a && b) ≡ true → a ≡ true
left_true true b e = refl
left_true false b e = cc

pub right_true : (a b : Bool) → (a && b) ≡ true → b ≡ true
right_true true b e = e
right_true false b e = cc

pub not_false : (b : Bool) → not b ≡ false → b ≡ true
not_false true e = refl
not_false false e = cc

-- Cancellation and resolution.

pub asked_is : (c : Cancellation) → is_asked c ≡ true → c ≡ cancellation.Asked
asked_is cancellation.NotAsked e = cc
asked_is cancellation.Asked e = refl
asked_is cancellation.Delivered e = cc

pub told_is : (c : Cancellation) → is_told c ≡ true → c ≡ cancellation.Delivered
told_is cancellation.NotAsked e = cc
told_is cancellation.Asked e = cc
told_is cancellation.Delivered e = refl

pub unasked_is : (c : Cancellation) → is_unasked c ≡ true → c ≡ cancellation.NotAsked
unasked_is cancellation.NotAsked e = refl
unasked_is cancellation.Asked e = cc
unasked_is cancellation.Delivered e = cc

cancelled_over : (b : Bool) → is_over (if b then CancelledBeforeReturned else CancelledBeforeStarted) ≡ false → ⊥
cancelled_over true e = cc
cancelled_over false e = cc

open_still : (c : Cancellation) (r : Option Resolution) (phase : Phase) → is_over (resolved_state c r phase) ≡ false → r ≡ None
open_still c None phase e = refl
open_still c (Some Returned) phase e = cc
open_still c (Some Cancelled) phase e = absurd (cancelled_over (is_told c) e)

pub unresolved_is : (task : Task) → has_resolved task ≡ false → task.resolution ≡ None
unresolved_is task e = open_still task.cancellation task.resolution (phase_of (λ number. false) task.state) e

none_is : (o : Option Resolution) → is_none o ≡ true → o ≡ None
none_is None e = refl
none_is (Some r) e = cc

pub none_resolved : (task : Task) → is_none task.resolution ≡ true → task.resolution ≡ None
none_resolved task e = none_is task.resolution e

-- The state of a subtask is the same where its task goes on behind a call.
goes_on_same : (task : Task) (callee number : ℕ) (words : List ℕ) → task.state ≡ AfterCall callee number words → subtask_state task ≡ subtask_state (record task { state = Acting })
goes_on_same task callee number words e = ap (λ (state : TaskState). resolved_state task.cancellation task.resolution (phase_of (λ (number : ℕ). false) state)) e

pub told_behind : (tasks : List Task) (t callee other number : ℕ) (words : List ℕ) (task : Task) → slice_get tasks callee ≡ Some task → TaskIs tasks t (λ x. x.state ≡ AfterCall other number words)
    → TaskIs (changed_at t (λ x. record x { state = Acting }) tasks) callee (λ x. subtask_state task ≡ subtask_state x)
told_behind tasks t callee other number words task there own = elim (changed_where t (λ (x : Task). record x { state = Acting }) tasks callee task there) [
  | inl old ↦ (task, old, refl)
  | inr new ↦ (
    record task { state = Acting },
    new.1,
    goes_on_same task other number words
        (subst (λ (x : Task). x.state ≡ AfterCall other number words) (some_same (sym own.1 ∙ (ap (λ (k : ℕ). slice_get tasks k) (sym new.0) ∙ there))) own.2),
  )
]

-- Who may be inside an instance.

pub inside_by : (tasks : List Task) (task : Task) (f : Lifted) → func_of task.callee ≡ Some f → (needs_entry (kind_of task) ≡ true → is_none (holder_of (stays_in f.instance tasks)) ≡ true)
    → MayBeInside tasks task
inside_by tasks task f runs free =
    inr (λ g e needs. subst (λ (k : Lifted). is_none (holder_of (stays_in k.instance tasks)) ≡ true) (some_same (sym runs ∙ e)) (free needs))

opens : (needs free : Bool) → (not needs || free) ≡ true → needs ≡ true → free ≡ true
opens true free e h = e
opens false free e h = cc

pub enters_inside : (w : World) (task : Task) (f : Lifted) (newcomer : Bool) → func_of task.callee ≡ Some f → may_enter (kind_of task) newcomer (gate_of w f.instance) ≡ true → MayBeInside w.tasks task
enters_inside w task f newcomer runs e =
    inside_by w.tasks task f runs
    (opens (needs_entry (kind_of task)) (is_free (gate_of w f.instance)) (right_true (nat_eq (gate_of w f.instance).pressure 0) _ (left_true _ _ e)))

able_state : (g : Graph) (w : World) (task : Task) (f : Lifted) (state : TaskState) → task.state ≡ state → func_of task.callee ≡ Some f → is_able_in g w f.instance task state ≡ true → MayBeInside w.tasks task
able_state g w task f WaitsToEnter is runs e = enters_inside w task f false runs e
able_state g w task f (InLoop word) is runs e = inside_by w.tasks task f runs (λ needs. left_true (is_entry_free w f.instance) _ e)
able_state g w task f (InBuiltin number words wait) is runs e = inl (ap place_of is)
able_state g w task f New is runs e = cc
able_state g w task f Acting is runs e = cc
able_state g w task f (AfterCall callee number words) is runs e = cc
able_state g w task f (AfterCancel callee number words) is runs e = cc
able_state g w task f (Begins n) is runs e = cc
able_state g w task f Exited is runs e = cc

pub able_inside : (g : Graph) (w : World) (task : Task) → is_able g w task ≡ true → MayBeInside w.tasks task
able_inside g w task e = by (func_of task.callee) refl e
  where
    by : (o : Option Lifted) → func_of task.callee ≡ o → passes (λ (f : Lifted). is_able_in g w f.instance task task.state) o ≡ true → MayBeInside w.tasks task
    by None runs k = cc
    by (Some f) runs k = able_state g w task f task.state refl runs k

-- What comes of a request to cancel a task, by its state.

abbrev case_at : Graph → World → ℕ → Task → Bool → TaskState → Asked
case_at g w t task free state = cancel_case free (record (task_view g w t task) { phase = phase_of (flag_at g) state })

resumes_if : (b : Bool) → (if b then ResumeNow else Pending) ≡ ResumeNow → b ≡ true
resumes_if true e = refl
resumes_if false e = cc

not_removed : (b : Bool) → (if b then ResumeNow else Pending) ≡ Removed → ⊥
not_removed true e = cc
not_removed false e = cc

resumes_state : (g : Graph) (w : World) (t : ℕ) (task : Task) (f : Lifted) (state : TaskState) → task.state ≡ state → func_of task.callee ≡ Some f
    → case_at g w t task (is_entry_free w f.instance) state ≡ ResumeNow → MayBeInside w.tasks task
resumes_state g w t task f (InLoop word) is runs e = inside_by w.tasks task f runs (λ needs. resumes_if (is_entry_free w f.instance) e)
resumes_state g w t task f (InBuiltin number words wait) is runs e = inl (ap place_of is)
resumes_state g w t task f WaitsToEnter is runs e = cc
resumes_state g w t task f New is runs e = cc
resumes_state g w t task f Acting is runs e = cc
resumes_state g w t task f (AfterCall callee number words) is runs e = cc
resumes_state g w t task f (AfterCancel callee number words) is runs e = cc
resumes_state g w t task f (Begins n) is runs e = cc
resumes_state g w t task f Exited is runs e = cc

pub resumes_inside : (g : Graph) (w : World) (t : ℕ) (task : Task) (f : Lifted) → func_of task.callee ≡ Some f → cancel_case (is_entry_free w f.instance) (task_view g w t task) ≡ ResumeNow
    → MayBeInside w.tasks task
resumes_inside g w t task f runs e = resumes_state g w t task f task.state refl runs e

removed_wait : (g : Graph) (w : World) (t number : ℕ) (words : List ℕ) (task : Task) (free : Bool) (wait : Wait) → case_at g w t task free (InBuiltin number words wait) ≡ Removed → ⊥
removed_wait g w t number words task free ForYield e = not_removed (flag_at g number && not (is_sync (kind_of task))) e
removed_wait g w t number words task free (ForSet index) e = not_removed (flag_at g number && not (is_sync (kind_of task))) e
removed_wait g w t number words task free (ForCall callee) e = cc
removed_wait g w t number words task free (ForCopy index) e = cc
removed_wait g w t number words task free (ForCancel index) e = cc

removed_state : (g : Graph) (w : World) (t : ℕ) (task : Task) (free : Bool) (state : TaskState) → case_at g w t task free state ≡ Removed → state ≡ WaitsToEnter
removed_state g w t task free WaitsToEnter e = refl
removed_state g w t task free (InLoop word) e = absurd (not_removed free e)
removed_state g w t task free (InBuiltin number words wait) e = absurd (removed_wait g w t number words task free wait e)
removed_state g w t task free New e = cc
removed_state g w t task free Acting e = cc
removed_state g w t task free (AfterCall callee number words) e = cc
removed_state g w t task free (AfterCancel callee number words) e = cc
removed_state g w t task free (Begins n) e = cc
removed_state g w t task free Exited e = cc

pub removed_waits : (g : Graph) (w : World) (t : ℕ) (task : Task) (free : Bool) → cancel_case free (task_view g w t task) ≡ Removed → task.state ≡ WaitsToEnter
removed_waits g w t task free e = removed_state g w t task free task.state e

-- A task with the callee and the state of another one may be inside where that may.
pub inside_alike : (tasks : List Task) (x y : Task) → y.callee ≡ x.callee → y.state ≡ x.state → MayBeInside tasks x → MayBeInside tasks y
inside_alike tasks x y callee state (inl there) = inl (ap place_of state ∙ there)
inside_alike tasks x y callee state (inr free) =
    inr
    (λ f e needs.
    free f (ap func_of (sym callee) ∙ e) (ap (λ (c : Callee). needs_entry (kind_of_func (func_of c))) (sym callee) ∙ needs))
