-- Whole runs (Component Model, Concurrency.md, "Summary"): where at each point that a run of the kept machine reaches a step may be made, the run is the machine's: the machine
-- has a run of the same graph and script with the same lines, in the same order, and with the same end.
use Rattle.std.specs.Prelude.{◌≡◌, ℕ, List}
use Rattle.syntax_trees.specs.declared.types.ValType.{ValType}
use Rattle.wasm_store.specs.Stack.{Stack}
use Rattle.comp_graph.specs.Graph.{Graph}
use Rattle.script_reader.specs.Script.{Script}
use Rattle.trace_labels.specs.declared.label.Label.{Label}
use Rattle.programs.specs.declared.program.Program.{Program}
use Rattle.world_parts.specs.Held.{Held}
use Rattle.value_moves.specs.Passing.{Passes}
use Rattle.machine_runs.specs.declared.ending.RunEnd.{RunEnd}
use Rattle.machine_runs.specs.declared.ending.RunEnd.TheVariants as kept_end
use Rattle.machine_runs.specs.Worlds.{Point, first_point, GoOn, IsRun}
use Rattle.abi_machine.specs.declared.run_end.RunEnd as machine_end
use Rattle.abi_machine.specs.declared.run_end.RunEnd.TheVariants.{Done, Trapped, Deadlock, Fuel}
use Rattle.abi_machine.specs.World.{World}
use Rattle.abi_machine.specs.Run.{Runs, trace_of}
use Rattle.standing.specs.Stands.{Stands}
use Rattle.run_laws.specs.Points.{InPoint}
use Rattle.run_laws.specs.Steps.{MayStep, IsReached}

-- the point before a program's graph is instantiated
abbrev pub start_of : Program → Point
start_of p = first_point p.graph.now p.script.now

-- A step may be made at each point that steps of a program reach, in whatever world that the machine reaches and of which it is a point.
abbrev pub MayGoOn : Program → List ValType → Type 0
MayGoOn p values =
    (count : ℕ) (lines : List Label) (b : Point) (ahead : List Label) (w : World) (at : InPoint p.graph.now values p.script.now b ahead w)
    → GoOn Passes p count (start_of p) lines b → IsReached p.graph.now p.script.now w → MayStep p values p.script.now b.held b.piles b.passing ahead w at

-- how a run of the machine ends, without what its last line names beside
abbrev pub end_of : machine_end.RunEnd → RunEnd
end_of Done = kept_end.Done
end_of (Trapped t why) = kept_end.Trap
end_of (Deadlock tasks) = kept_end.Deadlock
end_of Fuel = kept_end.Fuel

-- The machine has a run with these lines, the last one among them, and this end.
pub record IsOfMachine (g : Graph) (s : Script) (lines : List Label) (end : RunEnd) : Type 0 where
  pub told : List Label
  pub last : World
  pub by : machine_end.RunEnd
  pub runs : Runs g s told last by
  pub same_lines : lines ≡ trace_of told by
  pub same_end : end ≡ end_of by

-- What is left behind it stands for the last world of the machine's run, with some stacks, but where fuel was wanting: there a part of the last step of what is kept is done.
pub record LeavesWorld (g : Graph) (values : List ValType) (s : Script) (lines : List Label) (end : RunEnd) (h : Held) : Type 0 where
  pub run : IsOfMachine g s lines end
  pub stands : (end ≡ kept_end.Fuel → ⊥) → (stacks : List (List Stack)) × Stands g values s h stacks run.last

abbrev pub WholeRunsAgree : Type 0
WholeRunsAgree =
    (p : Program) (values : List ValType) (end : RunEnd) (lines : List Label) (h : Held) → MayGoOn p values → IsRun Passes p (start_of p) end lines h
    → IsOfMachine p.graph.now p.script.now lines end

-- So two programs of one graph and script, where both may go on so, have the same run, whatever types their tables hold besides.
abbrev pub ProgramsAgree : Type 0
ProgramsAgree =
    (p q : Program) (values others : List ValType) (end other : RunEnd) (lines more : List Label) (h k : Held) → q.graph.now ≡ p.graph.now → q.script.now ≡ p.script.now
    → MayGoOn p values → MayGoOn q others → IsRun Passes p (start_of p) end lines h → IsRun Passes q (start_of q) other more k → (end ≡ other) × (lines ≡ more)
