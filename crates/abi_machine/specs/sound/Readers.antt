-- Readable ends stay in one place: so it is in the first world, and so it stays, where the script passes no end.
use Rattle.std.specs.Prelude.{◌≡◌, List}
use Rattle.comp_graph.specs.Graph.{Graph}
use Rattle.script_reader.specs.Script.{Script}
use Rattle.trace_labels.specs.declared.label.Label.{Label}
use Rattle.abi_machine.specs.World.{World, first_world}
use Rattle.abi_machine.specs.Turn.{Steps}
use Rattle.abi_machine.specs.Next.{next}
use Rattle.abi_machine.specs.sound.Initial.{RunsAlone}
use Rattle.abi_machine.specs.sound.EndsPassed.{ReadersStand, PassesOnce, HostPassesNoEnd, ScriptPassesNoEnd}

-- Each stands in one table at most, and those that are passed stand in none, and will stand once.
abbrev pub ReadersStandOnce : World → Type 0
ReadersStandOnce w = HostPassesNoEnd w.tasks × ReadersStand w.insts w.streams w.futures × PassesOnce w.control w.insts w.streams w.futures

abbrev pub FirstHasReaders : Type 0
FirstHasReaders = (g : Graph) → ReadersStandOnce (first_world g)

abbrev pub ReadersStayInOnePlace : Type 0
ReadersStayInOnePlace =
    (g : Graph) (s : Script) (w v : World) (labels : List Label) → ScriptPassesNoEnd s → RunsAlone w → ReadersStandOnce w → next g s w ≡ Steps labels v → ReadersStandOnce v
