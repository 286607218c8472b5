-- What laws of reached worlds give of what is asked of a move.
use Rattle.std.proofs.Common.{◌≡◌, ℕ, Bool, true, false, nat_eq, List, refl, sym, ap, ◌∙◌, subst, arith, Option, Some, None}
use Rattle.std.specs.Prelude.{IsSome}
use Rattle.std.specs.List.{slice_get}
use Rattle.std.proofs.lemmas.Bool.Decides.{nat_tests}
use Rattle.stream_ends.specs.declared.open_copy.OpenCopy.{OpenCopy}
use Rattle.stream_ends.specs.Ends.{has_event}
use Rattle.comp_graph.specs.Graph.{Graph, Lifted}
use Rattle.script_reader.specs.Script.{Script}
use Rattle.abi_machine.specs.World.{Subtask, AfterCancel, TaskState, Task, World}
use Rattle.abi_machine.specs.Reading.{func_of, is_in, runs_in, subtask_of}
use Rattle.abi_machine.specs.Counting.{passes}
use Rattle.abi_machine.specs.sound.Acting.{outline_of, StandsBy}
use Rattle.abi_machine.specs.sound.Firsts.{TaskIs}
use Rattle.abi_machine.specs.sound.GoingOn.{IsStanding}
use Rattle.abi_machine.specs.sound.Subtasks.{CallIs}
use Rattle.abi_machine.proofs.sound.Found.{some_same}
use Rattle.abi_machine.proofs.sound.Outlines.{outline_there}
use Rattle.abi_machine.proofs.sound.Reached.{reached_stand}
use Rattle.reach_laws.specs.KnownCalls.{IsFrom, CallsAreKnown}
use Rattle.reach_laws.specs.KnownCopies.{CopiesAreKnown}
use Rattle.reach_laws.specs.KnownEnds.{EndsAreKnown}
use Rattle.reach_laws.proofs.known.Calling.{reached_calls_are_known}
use Rattle.reach_laws.proofs.known.Copies.{reached_copies_are_known}
use Rattle.reach_laws.proofs.known.Ends.{reached_ends_are_known}
use Rattle.run_laws.specs.Supplied.{CancelsOthers, IsCalledOut}
use Rattle.run_laws.specs.SuppliedWorlds.{WorldsAreSupplied}
use Rattle.run_laws.specs.Taking.{CalledFrom}

-- One test of the task that calls does not come out both ways.
not_both : (tasks : List Task) (n at : ℕ) → TaskIs tasks n (λ x. runs_in at x ≡ true) → TaskIs tasks n (λ x. runs_in at x ≡ false) → ⊥
not_both tasks n at h k =
    let same : h.0 ≡ k.0 = some_same (sym h.1 ∙ k.1) in
    let clash : true ≡ false = sym h.2 ∙ (ap (λ (x : Task). runs_in at x) same ∙ k.2) in cc

-- The caller of a task runs there.
called_from : (w : World) (at callee : ℕ) → CallIs w.tasks callee (IsFrom w.tasks at) → CalledFrom w at callee
called_from w at callee h task subtask there guest =
    let same : h.0 ≡ task = some_same (sym h.1 ∙ there) in
    let call : h.2.0 ≡ subtask = some_same (sym h.2.1 ∙ (ap (λ (x : Task). subtask_of x.caller) same ∙ ap subtask_of guest)) in
    let from : TaskIs w.tasks subtask.by (λ x. runs_in at x ≡ true) = subst (λ (x : Subtask). TaskIs w.tasks x.by (λ y. runs_in at y ≡ true)) call h.2.2 in
    ap (passes (runs_in at)) from.1 ∙ from.2

equal_is : (n m : ℕ) → nat_eq n m ≡ true → n ≡ m
equal_is n m h = grind (arith, nat_tests)

-- It runs elsewhere.
runs_elsewhere : (w : World) (at callee : ℕ) (task : Task) → CallsAreKnown w → CallIs w.tasks callee (IsFrom w.tasks at) → slice_get w.tasks callee ≡ Some task → runs_in at task ≡ false
runs_elsewhere w at callee task k h there = by (func_of task.callee) refl
  where
    guest : subtask_of task.caller ≡ Some h.2.0
    guest = ap (λ (x : Task). subtask_of x.caller) (some_same (sym there ∙ h.1)) ∙ h.2.1

    in_it : (f : Lifted) (b : Bool) → func_of task.callee ≡ Some f → nat_eq f.instance at ≡ b → nat_eq f.instance at ≡ false
    in_it f false e same = same
    in_it f true e same =
        absurd (not_both w.tasks h.2.0.by at h.2.2 (subst (λ (n : ℕ). TaskIs w.tasks h.2.0.by (λ x. runs_in n x ≡ false)) (equal_is f.instance at same) (k.leaves callee task h.2.0 f there guest e)))

    by : (o : Option Lifted) → func_of task.callee ≡ o → is_in at (func_of task.callee) ≡ false
    by None e = ap (is_in at) e
    by (Some f) e = ap (is_in at) e ∙ in_it f (nat_eq f.instance at) e refl

-- A task that cancels runs a function.
some_func : (o : Option Lifted) → IsSome o → (f : Lifted) × (o ≡ Some f)
some_func None h = cc
some_func (Some f) h = (f, refl)

equal_self : (n : ℕ) → nat_eq n n ≡ true
equal_self n = grind (arith, nat_tests)

cancels_others : (g : Graph) (s : Script) (w : World) → IsStanding g s w → CallsAreKnown w → CancelsOthers w
cancels_others g s w stands k t callee number words task there is same =
    let runs : StandsBy (AfterCancel callee number words) (outline_of task) = subst (λ (state : TaskState). StandsBy state (outline_of task)) is (stands.ordered.1 t (outline_of task) (outline_there w.tasks t task there)) in
    let f = some_func (func_of task.callee) runs.0 in
    let h : CallIs w.tasks callee (IsFrom w.tasks f.0.instance) = k.cancels t callee number words task f.0 there f.1 is in
    let elsewhere : runs_in f.0.instance task ≡ false = runs_elsewhere w f.0.instance callee task k h (ap (λ (n : ℕ). slice_get w.tasks n) same ∙ there) in
    let clash : true ≡ false = sym (ap (is_in f.0.instance) f.1 ∙ equal_self f.0.instance) ∙ elsewhere in cc

-- A copy that is to be told is there.
pending_some : (o : Option OpenCopy) → has_event o ≡ true → o ≡ None → ⊥
pending_some o h none = (let clash : false ≡ true = sym (ap has_event none) ∙ h in cc)

pub worlds_are_supplied : WorldsAreSupplied
worlds_are_supplied g s steps w apart clean r =
    let calls : CallsAreKnown w = reached_calls_are_known g s steps w apart r in
    let ends : EndsAreKnown w = reached_ends_are_known g s steps w apart clean r in
    let copies : CopiesAreKnown g w = reached_copies_are_known g s steps w apart clean r in
    record {
      called_out = λ at index callee there. (
          let h : CallIs w.tasks callee (IsFrom w.tasks at) = calls.inside at index callee there in
          let out : IsCalledOut w at callee = record { from = called_from w at callee h; leaves = λ task found. runs_elsewhere w at callee task calls h found } in out
          );
      others = cancels_others g s w (reached_stand g s steps w apart r) calls;
      cancels = λ t callee number words task f there runs is. called_from w f.instance callee (calls.cancels t callee number words task f there runs is);
      copies = λ at index e here pending. copies.waited at index e here (pending_some _ pending);
      ends = λ at index e here. ends.live at index e here;
      once = ends.once;
    }
