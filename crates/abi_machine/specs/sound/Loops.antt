-- Tasks in their loop (Component Model, CanonicalABI.md, `canon lift`, `unpack_callback_result`, "Waitable Set State"): the word that the core
-- function or the callback gave says that the task yields, waits or polls, and the set that it waits on or polls stands in the table of its instance.
use Rattle.std.specs.Prelude.{◌≡◌, ℕ, List, Option, Some, None, Result, Ok, Err}
use Rattle.std.specs.List.{slice_get}
use Rattle.handle_table.specs.History.{Event, live}
use Rattle.entry_gate.specs.Callbacks.{callback_of}
use Rattle.entry_gate.specs.declared.callback.BadCode.{BadCode}
use Rattle.entry_gate.specs.declared.callback.Next.{Next}
use Rattle.entry_gate.specs.declared.callback.Next.TheVariants as next
use Rattle.comp_graph.specs.Graph.{Graph, Lifted}
use Rattle.script_reader.specs.Script.{Script}
use Rattle.trace_labels.specs.declared.label.Label.{Label}
use Rattle.abi_machine.specs.World.{Entry, OfSet, Inst, Callee, TaskState, InLoop, Task, World, first_world}
use Rattle.abi_machine.specs.Reading.{table_in, func_of}
use Rattle.abi_machine.specs.Turn.{Steps}
use Rattle.abi_machine.specs.Next as machine
use Rattle.abi_machine.specs.sound.Initial.{RunsAlone}
use Rattle.abi_machine.specs.sound.Tables.{HaveHistories}
use Rattle.abi_machine.specs.sound.Acting.{IsOrdered}

-- a set stands at an index of a table
abbrev pub HasSetAt : List (Event Entry) → ℕ → Type 0
HasSetAt table index = (set : ℕ) × (live table index ≡ Some (OfSet set))

-- what a callback answers, where the task does not exit
abbrev pub GoesOnBy : List (Event Entry) → Result Next BadCode → Type 0
GoesOnBy table (Ok next.Exit) = ⊥
GoesOnBy table (Ok next.Yield) = Unit {0}
GoesOnBy table (Ok (next.Wait index)) = HasSetAt table index
GoesOnBy table (Ok (next.Poll index)) = HasSetAt table index
GoesOnBy table (Err why) = ⊥

-- in the instance of the function that a task runs
abbrev pub LoopsIn : List Inst → Option Lifted → ℕ → Type 0
LoopsIn insts None word = ⊥
LoopsIn insts (Some f) word = GoesOnBy (table_in (slice_get insts f.instance)) (callback_of word)

abbrev pub LoopsSo : List Inst → Callee → TaskState → Type 0
LoopsSo insts callee (InLoop word) = LoopsIn insts (func_of callee) word
LoopsSo insts callee state = Unit {0}

abbrev pub HaveLoops : List Task → List Inst → Type 0
HaveLoops tasks insts = (t : ℕ) (task : Task) → slice_get tasks t ≡ Some task → LoopsSo insts task.callee task.state

-- So it is in the first world, and so it stays.
abbrev pub FirstHasLoops : Type 0
FirstHasLoops = (g : Graph) → HaveLoops (first_world g).tasks (first_world g).insts

abbrev pub LoopsStay : Type 0
LoopsStay =
    (g : Graph) (s : Script) (w v : World) (labels : List Label) → RunsAlone w → IsOrdered w → HaveHistories w.insts → HaveLoops w.tasks w.insts → machine.next g s w ≡ Steps labels v
    → HaveLoops v.tasks v.insts
