-- What blocked tasks wait for (Component Model, Concurrency.md, "Summary"; CanonicalABI.md, "Waitable Set State", `canon subtask.cancel`): where a run ends
-- in deadlock no task is able; and in each world that a run reaches the set, the task that was called and the subtask that is cancelled are there
-- for which a task waits, where definitions stay apart.
use Rattle.std.specs.Prelude.{◌≡◌, ℕ, false, List, Some, IsSome, Result, Ok}
use Rattle.std.specs.List.{slice_get}
use Rattle.entry_gate.specs.Callbacks.{callback_of}
use Rattle.entry_gate.specs.declared.callback.BadCode.{BadCode}
use Rattle.entry_gate.specs.declared.callback.Next.{Next}
use Rattle.entry_gate.specs.declared.callback.Next.TheVariants as word
use Rattle.comp_graph.specs.Graph.{Graph, Lifted}
use Rattle.script_reader.specs.Script.{Script}
use Rattle.trace_labels.specs.declared.label.Label.{Label}
use Rattle.abi_machine.specs.declared.run_end.RunEnd.TheVariants.{Deadlock}
use Rattle.abi_machine.specs.World.{Wait, ForYield, ForSet, ForCall, ForCopy, ForCancel, TaskState, InLoop, InBuiltin, Task, World, first_world}
use Rattle.abi_machine.specs.Reading.{task_at, func_of}
use Rattle.abi_machine.specs.Finding.{found_subtask, set_number}
use Rattle.abi_machine.specs.Scheduling.{is_able}
use Rattle.abi_machine.specs.Turn.{Ends}
use Rattle.abi_machine.specs.Next.{next}
use Rattle.abi_machine.specs.Run.{Reaches}
use Rattle.abi_machine.specs.sound.Owners.{IsApart}

-- where a world ends in deadlock, reached or not
abbrev pub NoneIsAble : Type 0
NoneIsAble = (g : Graph) (s : Script) (w : World) (named : List ℕ) (t : ℕ) (task : Task) → next g s w ≡ Ends (Deadlock named) → slice_get w.tasks t ≡ Some task → is_able g w task ≡ false

-- In a built-in; in a loop, by the word that said how to go on; by the state of a task.
abbrev pub IsWaitThere : World → ℕ → Wait → Type 0
IsWaitThere w i ForYield = Unit {0}
IsWaitThere w i (ForSet index) = IsSome (set_number w i index)
IsWaitThere w i (ForCall callee) = IsSome (task_at w callee)
IsWaitThere w i (ForCopy index) = Unit {0}
IsWaitThere w i (ForCancel index) = (callee : ℕ) × (found_subtask w i index ≡ Some callee) × IsSome (task_at w callee)

abbrev pub IsLoopThere : World → ℕ → Result Next BadCode → Type 0
IsLoopThere w i (Ok (word.Wait index)) = IsSome (set_number w i index)
IsLoopThere w i (Ok (word.Poll index)) = IsSome (set_number w i index)
IsLoopThere w i said = Unit {0}

abbrev pub IsBlockThere : World → ℕ → TaskState → Type 0
IsBlockThere w i (InLoop said) = IsLoopThere w i (callback_of said)
IsBlockThere w i (InBuiltin number words wait) = IsWaitThere w i wait
IsBlockThere w i state = Unit {0}

abbrev pub WaitsAreThere : Type 0
WaitsAreThere =
    (g : Graph) (s : Script) (steps : List (List Label)) (w : World) (t : ℕ) (task : Task) (f : Lifted) → IsApart g → Reaches g s (first_world g) steps w → slice_get w.tasks t ≡ Some task → func_of task.callee ≡ Some f
    → IsBlockThere w f.instance task.state
