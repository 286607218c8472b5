-- Exactly one next (Component Model, Concurrency.md, "Summary"): in each world that a run reaches either a step comes next, one alone, or the run has
-- ended. Steps that cost nothing come to an end, whatever the graph and the script. So a graph and a script that fit have exactly one run.
use Rattle.std.specs.Prelude.{◌≡◌, ◌⊎◌, List}
use Rattle.comp_graph.specs.Graph.{Graph}
use Rattle.script_reader.specs.Script.{Script}
use Rattle.trace_labels.specs.declared.label.Label.{Label}
use Rattle.abi_machine.specs.declared.run_end.RunEnd.{RunEnd}
use Rattle.abi_machine.specs.World.{World, first_world}
use Rattle.abi_machine.specs.Turn.{Turn, Steps, Ends}
use Rattle.abi_machine.specs.Next.{next}
use Rattle.abi_machine.specs.Run.{Reaches, Runs}
use Rattle.abi_machine.specs.sound.RunsEnd.{FreeStepsEnd, GoesOnEverywhere}
use Rattle.reach_laws.specs.Runnable.{IsRunnable}

-- a step with its lines and the world behind it, and the end of the run
abbrev pub IsStep : Turn → Type 0
IsStep turn = (labels : List Label) × (v : World) × (turn ≡ Steps labels v)

abbrev pub IsEnd : Turn → Type 0
IsEnd turn = (end : RunEnd) × (turn ≡ Ends end)

-- One alone: what comes next is a function of the world.
pub record IsOne (turn : Turn) : Type 0 where
  pub comes : IsStep turn ⊎ IsEnd turn
  pub not_both : IsStep turn → IsEnd turn → ⊥

abbrev pub ExactlyOneNext : Type 0
ExactlyOneNext =
    (g : Graph) (s : Script) (steps : List (List Label)) (w : World) → IsRunnable g s → Reaches g s (first_world g) steps w → IsOne (next g s w)

abbrev pub NoneIsStuck : Type 0
NoneIsStuck = (g : Graph) (s : Script) → IsRunnable g s → GoesOnEverywhere g s

-- This asks nothing of the graph and the script.
abbrev pub FreeStepsComeToEnd : Type 0
FreeStepsComeToEnd = (g : Graph) (s : Script) → FreeStepsEnd g s

-- a run, which each one is
pub record HasOneRun (g : Graph) (s : Script) : Type 0 where
  pub labels : List Label
  pub last : World
  pub end : RunEnd
  pub runs : Runs g s labels last end
  pub only : (others : List Label) (other : World) (other_end : RunEnd) → Runs g s others other other_end → (others ≡ labels) × (other ≡ last) × (other_end ≡ end)

abbrev pub OneRunComes : Type 0
OneRunComes = (g : Graph) (s : Script) → IsRunnable g s → HasOneRun g s
