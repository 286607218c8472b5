-- Steps as changes (Component Model, CanonicalABI.md, "Component Instance State", "Task State", "Subtask State", "Waitable Set State",
-- "Stream State" and "Future State"): each step makes changes of certain kinds, each where it may come.
use Rattle.std.specs.Prelude.{◌≡◌, List}
use Rattle.comp_graph.specs.Graph.{Graph}
use Rattle.script_reader.specs.Script.{Script}
use Rattle.trace_labels.specs.declared.label.Label.{Label}
use Rattle.abi_machine.specs.World.{World}
use Rattle.abi_machine.specs.Turn.{Steps}
use Rattle.abi_machine.specs.Next.{next}
use Rattle.abi_machine.specs.sound.Changes.{Change, behind_all, MayAllCome}
use Rattle.abi_machine.specs.sound.Initial.{RunsAlone}

-- Each step makes such changes, and no other.
abbrev pub StepsAreChanges : Type 0
StepsAreChanges =
    (g : Graph) (s : Script) (w v : World) (labels : List Label) → RunsAlone w → next g s w ≡ Steps labels v
    → (changes : List Change) × MayAllCome g s changes w × (v ≡ behind_all changes w)
