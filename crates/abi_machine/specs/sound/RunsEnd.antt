-- That runs end (Component Model, Concurrency.md, "Summary"): no step gives a unit back, and each step that costs spends one. So a run ends where in each
-- world that it reaches a step comes next, or the end, and from each finitely many steps lead to one whose next step is none that costs nothing.
use Rattle.std.specs.Prelude.{◌≡◌, ◌≤◌, List}
use Rattle.comp_graph.specs.Graph.{Graph}
use Rattle.script_reader.specs.Script.{Script}
use Rattle.trace_labels.specs.declared.label.Label.{Label}
use Rattle.abi_machine.specs.declared.run_end.RunEnd.{RunEnd}
use Rattle.abi_machine.specs.World.{World, first_world}
use Rattle.abi_machine.specs.Turn.{Steps}
use Rattle.abi_machine.specs.Next.{next}
use Rattle.abi_machine.specs.Run.{Reaches, Runs}
use Rattle.abi_machine.specs.sound.Initial.{RunsAlone}
use Rattle.abi_machine.specs.sound.GoingOn.{HasNext}

abbrev pub UnitsRise : Type 0
UnitsRise = (g : Graph) (s : Script) (w v : World) (labels : List Label) → RunsAlone w → next g s w ≡ Steps labels v → w.units ≤ v.units

-- a step that costs nothing comes next
pub record IsFree (g : Graph) (s : Script) (w : World) : Type 0 where
  pub labels : List Label
  pub behind : World
  pub comes : next g s w ≡ Steps labels behind
  pub costs_nothing : behind.units ≡ w.units

-- steps lead from the one world to the other, behind which none comes that costs nothing
pub record ComesToCost (g : Graph) (s : Script) (w : World) : Type 0 where
  pub steps : List (List Label)
  pub last : World
  pub reached : Reaches g s w steps last
  pub costs : IsFree g s last → ⊥

abbrev pub FreeStepsEnd : Graph → Script → Type 0
FreeStepsEnd g s = (steps : List (List Label)) (w : World) → Reaches g s (first_world g) steps w → ComesToCost g s w

abbrev pub GoesOnEverywhere : Graph → Script → Type 0
GoesOnEverywhere g s = (steps : List (List Label)) (w : World) → Reaches g s (first_world g) steps w → HasNext (next g s w)

pub record HasRun (g : Graph) (s : Script) : Type 0 where
  pub labels : List Label
  pub last : World
  pub end : RunEnd
  pub runs : Runs g s labels last end

abbrev pub RunsEndSo : Type 0
RunsEndSo = (g : Graph) (s : Script) → GoesOnEverywhere g s → FreeStepsEnd g s → HasRun g s
