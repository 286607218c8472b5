-- Tasks that wait on a set (Component Model, CanonicalABI.md, `canon waitable-set.wait`, "Waitable Set State"): the set stands in the table of the
-- component instance whose function the task runs.
use Rattle.std.specs.Prelude.{◌≡◌, ℕ, List, Some}
use Rattle.std.specs.List.{slice_get}
use Rattle.comp_graph.specs.Graph.{Graph, Lifted}
use Rattle.script_reader.specs.Script.{Script}
use Rattle.trace_labels.specs.declared.label.Label.{Label}
use Rattle.abi_machine.specs.World.{Inst, ForSet, InBuiltin, Task, World, first_world}
use Rattle.abi_machine.specs.Reading.{table_in, func_of}
use Rattle.abi_machine.specs.Turn.{Steps}
use Rattle.abi_machine.specs.Next.{next}
use Rattle.abi_machine.specs.sound.Initial.{RunsAlone}
use Rattle.abi_machine.specs.sound.Tables.{HaveHistories}
use Rattle.abi_machine.specs.sound.Acting.{IsOrdered}
use Rattle.abi_machine.specs.sound.Loops.{HasSetAt}
use Rattle.abi_machine.specs.sound.Owners.{IsApart, IsOwnWorld, IsControlOwn}

-- A task waits in a canonical function on the set at an index.
abbrev pub WaitsOnSet : Task → ℕ → Type 0
WaitsOnSet task index = (number : ℕ) × (words : List ℕ) × (task.state ≡ InBuiltin number words (ForSet index))

abbrev pub HaveSets : List Task → List Inst → Type 0
HaveSets tasks insts =
    (t index : ℕ) (task : Task) (f : Lifted) → slice_get tasks t ≡ Some task → func_of task.callee ≡ Some f → WaitsOnSet task index → HasSetAt (table_in (slice_get insts f.instance)) index

-- So it is in the first world, and so it stays.
abbrev pub FirstHasSets : Type 0
FirstHasSets = (g : Graph) → HaveSets (first_world g).tasks (first_world g).insts

abbrev pub SetsStay : Type 0
SetsStay =
    (g : Graph) (s : Script) (w v : World) (labels : List Label) → IsApart g → RunsAlone w → IsOrdered w → HaveHistories w.insts → IsOwnWorld g w → IsControlOwn g w.control w → HaveSets w.tasks w.insts
    → next g s w ≡ Steps labels v → HaveSets v.tasks v.insts
