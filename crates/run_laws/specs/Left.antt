-- What a run leaves, as it is written down: what is kept stands for a world whose text is the same (Component Model, CanonicalABI.md, "Component Instance State",
-- "Table State", "Waitable Set State", "Stream State"; Core 2.0, section 4.2.8).
use Rattle.std.specs.Prelude.{◌≡◌, List}
use Rattle.syntax_trees.specs.declared.types.ValType.{ValType}
use Rattle.wasm_store.specs.Stack.{Stack}
use Rattle.comp_graph.specs.Graph.{Graph}
use Rattle.script_reader.specs.Script.{Script}
use Rattle.trace_labels.specs.declared.label.Label.{Label}
use Rattle.programs.specs.declared.program.Program.{Program}
use Rattle.world_parts.specs.Held.{Held}
use Rattle.value_moves.specs.Passing.{Passes}
use Rattle.machine_runs.specs.declared.ending.RunEnd.{RunEnd}
use Rattle.machine_runs.specs.declared.ending.RunEnd.TheVariants as run
use Rattle.machine_runs.specs.Worlds.{IsRun}
use Rattle.world_dumps.specs.Tables as kept
use Rattle.abi_machine.specs.World.{World}
use Rattle.abi_machine.specs.Dump as machine
use Rattle.standing.specs.Stands.{Stands}
use Rattle.standing.specs.Channels.{HasMarkedEnds}
use Rattle.run_laws.specs.Carried.{IsFit}
use Rattle.run_laws.specs.Whole.{start_of, IsOfMachine, LeavesWorld}
use Rattle.run_laws.specs.keeping.Kept.{LendsRight}

-- What is left behind a run stands for the world that is left behind the machine's, but where fuel was wanting.
abbrev pub RunsLeaveWorlds : Type 0
RunsLeaveWorlds =
    (p : Program) (end : RunEnd) (lines : List Label) (h : Held) → IsFit p → IsRun Passes p (start_of p) end lines h
    → LeavesWorld p.graph.now p.types.now p.script.now lines end h

-- Of what stands for a world the text is that of the world: it asks that marks of handles that are lent are right beside it, and that ends are marked.
abbrev pub DumpsAgree : Type 0
DumpsAgree =
    (g : Graph) (values : List ValType) (s : Script) (h : Held) (stacks : List (List Stack)) (w : World) → Stands g values s h stacks w → LendsRight h → HasMarkedEnds h
    → kept.dump_of h ≡ machine.dump_of w

-- So where a run is done, no task can go on, or a trap comes, what it leaves is written down as what the machine's run leaves.
abbrev pub EndsFree : RunEnd → Type 0
EndsFree run.Done = Unit {0}
EndsFree run.Deadlock = Unit {0}
EndsFree run.Trap = Unit {0}
EndsFree run.Fuel = ⊥

abbrev pub RunsLeaveDumps : Type 0
RunsLeaveDumps =
    (p : Program) (end : RunEnd) (lines : List Label) (h : Held) → IsFit p → IsRun Passes p (start_of p) end lines h → EndsFree end
    → (m : IsOfMachine p.graph.now p.script.now lines end) × (kept.dump_of h ≡ machine.dump_of m.last)
