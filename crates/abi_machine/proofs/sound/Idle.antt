-- In a deadlock no task is able, and what blocked tasks wait for is there.
use Rattle.std.proofs.Common.{◌≡◌, ℕ, List, refl, sym, subst, Option, Some, Result, Ok, Err}
use Rattle.std.specs.Prelude.{IsSome}
use Rattle.std.specs.List.{slice_get}
use Rattle.entry_gate.specs.Callbacks.{callback_of}
use Rattle.entry_gate.specs.declared.callback.BadCode.{BadCode}
use Rattle.entry_gate.specs.declared.callback.Next.{Next}
use Rattle.entry_gate.specs.declared.callback.Next.TheVariants as word
use Rattle.comp_graph.specs.Graph.{Lifted}
use Rattle.abi_machine.specs.declared.run_end.RunEnd.TheVariants.{Deadlock}
use Rattle.abi_machine.specs.World.{Entry, Wait, ForYield, ForSet, ForCall, ForCopy, ForCancel, TaskState, New, Acting, AfterCall, AfterCancel, Begins, WaitsToEnter, InLoop, InBuiltin, Exited, Task, World}
use Rattle.abi_machine.specs.Reading.{table_in}
use Rattle.abi_machine.specs.Finding.{accepted, subtask_in}
use Rattle.abi_machine.specs.Scheduling.{able, is_able}
use Rattle.abi_machine.specs.sound.Called.{HasCalled}
use Rattle.abi_machine.specs.sound.Loops.{HasSetAt, GoesOnBy, LoopsIn, LoopsSo}
use Rattle.abi_machine.specs.sound.SetWaits.{WaitsOnSet}
use Rattle.abi_machine.specs.sound.Cancels.{CancelStands}
use Rattle.abi_machine.specs.sound.GoingOn.{IsStanding}
use Rattle.abi_machine.specs.sound.Waiting.{NoneIsAble, IsWaitThere, IsLoopThere, IsBlockThere, WaitsAreThere}
use Rattle.abi_machine.proofs.sound.Ending.{ends_come_where}
use Rattle.abi_machine.proofs.sound.Deadlocked.{none_of, none_passes}
use Rattle.abi_machine.proofs.sound.Reached.{reached_stand}
use Rattle.abi_machine.proofs.sound.nexts.Waking.{set_found}

pub none_is_able : NoneIsAble
none_is_able g s w named t task e there = none_passes (is_able g w) 0 w.tasks t task (none_of (slice_get s.items w.taken) (able g w) (ends_come_where g s w (Deadlock named) e).1).1 there

some_is : {A : Type 0} (o : Option A) (x : A) → o ≡ Some x → IsSome o
some_is {A} o x e = subst (λ (p : Option A). IsSome p) (sym e) refl

said_there : (w : World) (f : Lifted) (said : Result Next BadCode) → GoesOnBy (table_in (slice_get w.insts f.instance)) said → IsLoopThere w f.instance said
said_there w f (Ok word.Exit) h = tt
said_there w f (Ok word.Yield) h = tt
said_there w f (Ok (word.Wait index)) h = set_found w f.instance index h
said_there w f (Ok (word.Poll index)) h = set_found w f.instance index h
said_there w f (Err why) h = tt

wait_there : (w : World) (t : ℕ) (task : Task) (f : Lifted) (number : ℕ) (words : List ℕ) (wait : Wait) → task.state ≡ InBuiltin number words wait → HasCalled w.tasks t (InBuiltin number words wait)
    → ((index : ℕ) → WaitsOnSet task index → HasSetAt (table_in (slice_get w.insts f.instance)) index) → CancelStands w.tasks w.insts (Some f) (InBuiltin number words wait) → IsWaitThere w f.instance wait
wait_there w t task f number words ForYield e called sets stands = tt
wait_there w t task f number words (ForSet index) e called sets stands = set_found w f.instance index (sets index (number, words, e))
wait_there w t task f number words (ForCall callee) e called sets stands = some_is (slice_get w.tasks callee) called.0 called.1
wait_there w t task f number words (ForCopy index) e called sets stands = tt
wait_there w t task f number words (ForCancel index) e called sets stands =
    (stands.0, subst (λ (o : Option Entry). accepted (subtask_in o) ≡ Some stands.0) (sym stands.1) refl, some_is (slice_get w.tasks stands.0) stands.2.0 stands.2.1)

pub waits_are_there : WaitsAreThere
waits_are_there g s steps w t task f apart r there runs = by task.state refl (h.called t task there) (h.loops t task there) (subst (λ (o : Option Lifted). CancelStands w.tasks w.insts o task.state) runs (h.cancels.stands t task there))
  where
    h : IsStanding g s w
    h = reached_stand g s steps w apart r

    by : (state : TaskState) → task.state ≡ state → HasCalled w.tasks t state → LoopsSo w.insts task.callee state → CancelStands w.tasks w.insts (Some f) state → IsBlockThere w f.instance state
    by (InLoop said) e called loops stands = said_there w f (callback_of said) (subst (λ (o : Option Lifted). LoopsIn w.insts o said) runs loops)
    by (InBuiltin number words wait) e called loops stands = wait_there w t task f number words wait e called (λ index waits. h.sets t index task f there runs waits) stands
    by New e called loops stands = tt
    by Acting e called loops stands = tt
    by (AfterCall callee number words) e called loops stands = tt
    by (AfterCancel callee number words) e called loops stands = tt
    by (Begins n) e called loops stands = tt
    by WaitsToEnter e called loops stands = tt
    by Exited e called loops stands = tt
