-- Copies in worlds that a run reaches (Component Model, CanonicalABI.md, "Stream State" and "Future State"): each for which a task waits is under way,
-- at an end that stands at its index, where definitions stay apart and the script passes no end.
use Rattle.std.specs.Prelude.{◌≡◌, ℕ, List, Some, IsSome}
use Rattle.std.specs.List.{slice_get}
use Rattle.comp_graph.specs.Graph.{Graph, Lifted}
use Rattle.script_reader.specs.Script.{Script}
use Rattle.trace_labels.specs.declared.label.Label.{Label}
use Rattle.abi_machine.specs.World.{Wait, ForCopy, TaskState, InBuiltin, Task, World, first_world}
use Rattle.abi_machine.specs.Reading.{func_of}
use Rattle.abi_machine.specs.Finding.{found_end}
use Rattle.abi_machine.specs.Run.{Reaches}
use Rattle.abi_machine.specs.sound.Changes.{IsFirst}
use Rattle.abi_machine.specs.sound.Owners.{IsApart}
use Rattle.abi_machine.specs.sound.EndsPassed.{ScriptPassesNoEnd}
use Rattle.abi_machine.specs.sound.CopyWaits.{AwaitCopies}

-- The end of the copy for which the acting task waited stands at its index.
abbrev pub WaitsThere : World → ℕ → Wait → Type 0
WaitsThere w i (ForCopy index) = IsSome (found_end w i index)
WaitsThere w i wait = Unit {0}

abbrev pub ResumesAt : World → Lifted → TaskState → Type 0
ResumesAt w f (InBuiltin number words wait) = WaitsThere w f.instance wait
ResumesAt w f state = Unit {0}

abbrev pub ResumesThere : World → Type 0
ResumesThere w = (t : ℕ) (task : Task) (f : Lifted) → IsFirst t w.chain → slice_get w.tasks t ≡ Some task → func_of task.callee ≡ Some f → ResumesAt w f task.state

abbrev pub ReachedAwait : Type 0
ReachedAwait =
    (g : Graph) (s : Script) (steps : List (List Label)) (w : World) → IsApart g → ScriptPassesNoEnd s → Reaches g s (first_world g) steps w → AwaitCopies g w × ResumesThere w
