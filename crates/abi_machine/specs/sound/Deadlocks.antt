-- Deadlocks (Component Model, Concurrency.md, "Summary"; CanonicalABI.md, "Task State": `Task.enter`, "Waitable Set State"): where a run ends in
-- deadlock no task runs and no item of the script is left, and the tasks that are named are those that have not exited, by rising number, but
-- for task 0. Each is blocked, and what it waits for is missing.
use Rattle.std.specs.Prelude.{◌≡◌, ◌≤◌, ◌⊎◌, ℕ, false, List, [], Some, None, IsSome, Result, Ok}
use Rattle.std.specs.List.{slice_get, AllByRecursion}
use Rattle.entry_gate.specs.Callbacks.{callback_of}
use Rattle.entry_gate.specs.declared.callback.BadCode.{BadCode}
use Rattle.entry_gate.specs.declared.callback.Next.{Next}
use Rattle.entry_gate.specs.declared.callback.Next.TheVariants as word
use Rattle.stream_ends.specs.Ends.{is_pending}
use Rattle.tasks.specs.Tasks.{is_asked}
use Rattle.comp_graph.specs.Graph.{Graph, Lifted}
use Rattle.script_reader.specs.Script.{Script}
use Rattle.trace_labels.specs.declared.label.Label.{Label}
use Rattle.abi_machine.specs.declared.run_end.RunEnd.TheVariants.{Deadlock}
use Rattle.abi_machine.specs.Control.{EndRef}
use Rattle.abi_machine.specs.World.{Wait, ForYield, ForSet, ForCall, ForCopy, ForCancel, TaskState, WaitsToEnter, InLoop, InBuiltin, Task, World, first_world}
use Rattle.abi_machine.specs.Reading.{backpressure_of, task_at, func_of, unfinished}
use Rattle.abi_machine.specs.Counting.{has_resolved, end_of, ready}
use Rattle.abi_machine.specs.Gate.{gate_of}
use Rattle.abi_machine.specs.Finding.{found_subtask, set_number, found_end}
use Rattle.abi_machine.specs.Turn.{Ends}
use Rattle.abi_machine.specs.Run.{Reaches}
use Rattle.abi_machine.specs.Next.{next}
use Rattle.abi_machine.specs.sound.Chain.{IsThere}
use Rattle.abi_machine.specs.sound.Initial.{RunsAlone}
use Rattle.abi_machine.specs.sound.Acting.{IsOrdered}
use Rattle.abi_machine.specs.sound.Loops.{HaveLoops}
use Rattle.abi_machine.specs.sound.Exiting.{ResolveFirst}

-- a number is one of these
abbrev pub IsAmong : ℕ → List ℕ → Type 0
IsAmong t numbers = (place : ℕ) × (slice_get numbers place ≡ Some t)

-- One of these tasks holds exclusive entry to an instance.
abbrev pub IsHeldBy : World → ℕ → List ℕ → Type 0
IsHeldBy w i named = (holder : ℕ) × ((gate_of w i).holder ≡ Some holder) × IsAmong holder named

-- No member of the set at an index is ready; a task has not resolved, and so is one of these, where it runs a function; the end at an index has
-- nothing to tell.
abbrev pub NoneReady : World → ℕ → ℕ → Type 0
NoneReady w i index = (set : ℕ) → set_number w i index ≡ Some set → ready w i set ≡ []

abbrev pub IsOpen : World → List ℕ → ℕ → Type 0
IsOpen w named callee = (task : Task) → task_at w callee ≡ Some task → (has_resolved task ≡ false) × (IsSome (func_of task.callee) → IsAmong callee named)

abbrev pub IsQuiet : World → ℕ → ℕ → Type 0
IsQuiet w i index = (e : EndRef) → found_end w i index ≡ Some e → is_pending (end_of w e) ≡ false

-- What a task waits for in a built-in is missing. In `yield` nothing is.
abbrev pub IsMissing : World → ℕ → List ℕ → Wait → Type 0
IsMissing w i named ForYield = ⊥
IsMissing w i named (ForSet index) = NoneReady w i index
IsMissing w i named (ForCall callee) = IsOpen w named callee
IsMissing w i named (ForCopy index) = IsQuiet w i index
IsMissing w i named (ForCancel index) = (callee : ℕ) → found_subtask w i index ≡ Some callee → IsOpen w named callee

-- So it is in a loop, by the word that said how to go on: that a cancellation is asked would end a wait.
abbrev pub LoopMisses : World → ℕ → Task → Result Next BadCode → Type 0
LoopMisses w i task (Ok (word.Wait index)) = NoneReady w i index × (is_asked task.cancellation ≡ false)
LoopMisses w i task said = ⊥

-- A task of an instance is held up: at its entry by backpressure or by the one that holds exclusive entry; in its loop by that one, or where it
-- waits; in a built-in where it waits. Others are not.
abbrev pub IsHeldUp : World → ℕ → List ℕ → Task → TaskState → Type 0
IsHeldUp w i named task WaitsToEnter = (1 ≤ backpressure_of w i) ⊎ IsHeldBy w i named
IsHeldUp w i named task (InLoop said) = IsHeldBy w i named ⊎ LoopMisses w i task (callback_of said)
IsHeldUp w i named task (InBuiltin number words wait) = IsMissing w i named wait
IsHeldUp w i named task state = ⊥

abbrev pub StandsStill : World → List ℕ → ℕ → Type 0
StandsStill w named t = (task : Task) × (f : Lifted) × (slice_get w.tasks t ≡ Some task) × (func_of task.callee ≡ Some f) × IsHeldUp w f.instance named task task.state

pub record IsDeadlocked (s : Script) (w : World) (named : List ℕ) : Type 0 where
  pub idle : w.chain ≡ []
  pub no_item : slice_get s.items w.taken ≡ None
  pub are : named ≡ unfinished w
  pub all_named : (t : ℕ) (task : Task) → 1 ≤ t → slice_get w.tasks t ≡ Some task → IsThere task.state → IsAmong t named
  pub each : AllByRecursion (StandsStill w named) named

abbrev pub DeadlocksAreReal : Type 0
DeadlocksAreReal =
    (g : Graph) (s : Script) (w : World) (named : List ℕ) → RunsAlone w → IsOrdered w → HaveLoops w.tasks w.insts → ResolveFirst w.tasks → next g s w ≡ Ends (Deadlock named) → IsDeadlocked s w named

-- So it is where a run comes to it.
abbrev pub ReachedDeadlocksAreReal : Type 0
ReachedDeadlocksAreReal =
    (g : Graph) (s : Script) (steps : List (List Label)) (w : World) (named : List ℕ) → Reaches g s (first_world g) steps w → next g s w ≡ Ends (Deadlock named) → IsDeadlocked s w named
