-- Tables (Component Model, CanonicalABI.md, "Table State"): each entry was added at the index that was next, while the table was not full,
-- and only what was live was removed.
use Rattle.std.specs.Prelude.{◌≡◌, List}
use Rattle.std.specs.List.{AllByRecursion}
use Rattle.handle_table.specs.History.{IsHistory}
use Rattle.comp_graph.specs.Graph.{Graph}
use Rattle.script_reader.specs.Script.{Script}
use Rattle.trace_labels.specs.declared.label.Label.{Label}
use Rattle.abi_machine.specs.World.{Inst, World, first_world}
use Rattle.abi_machine.specs.Turn.{Steps}
use Rattle.abi_machine.specs.Next.{next}
use Rattle.abi_machine.specs.sound.Initial.{RunsAlone}

abbrev pub HaveHistories : List Inst → Type 0
HaveHistories insts = AllByRecursion (λ inst. IsHistory inst.table) insts

-- So it is in the first world, and so it stays.
abbrev pub FirstHasHistories : Type 0
FirstHasHistories = (g : Graph) → HaveHistories (first_world g).insts

abbrev pub HistoriesStay : Type 0
HistoriesStay = (g : Graph) (s : Script) (w v : World) (labels : List Label) → RunsAlone w → HaveHistories w.insts → next g s w ≡ Steps labels v → HaveHistories v.insts
