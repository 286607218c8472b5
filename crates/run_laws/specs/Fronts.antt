-- What is told of a run so far (Component Model, Concurrency.md, "Summary"): it is a front of what the machine's run tells, the last line among it, whether or not the run of the program
-- ever comes to an end.
use Rattle.std.specs.Prelude.{◌≡◌, List, ◌++◌}
use Rattle.trace_labels.specs.declared.label.Label.{Label}
use Rattle.programs.specs.declared.program.Program.{Program}
use Rattle.value_moves.specs.Passing.{Passes}
use Rattle.machine_runs.specs.Worlds.{SoFarTells}
use Rattle.abi_machine.specs.declared.run_end.RunEnd.{RunEnd}
use Rattle.abi_machine.specs.World.{World}
use Rattle.abi_machine.specs.Run.{Runs, trace_of}
use Rattle.run_laws.specs.Carried.{IsFit}
use Rattle.run_laws.specs.Whole.{start_of}

abbrev pub SoFarIsOfMachine : Type 0
SoFarIsOfMachine =
    (p : Program) (lines told : List Label) (last : World) (by : RunEnd) → IsFit p → SoFarTells Passes p (start_of p) lines → Runs p.graph.now p.script.now told last by
    → (rest : List Label) × (trace_of told by ≡ lines ++ rest)
