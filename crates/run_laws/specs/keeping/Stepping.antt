-- Steps in which nothing is to be passed, and what follows where something was, keep all marks, and well what is kept (Component Model, Concurrency.md, "Summary"):
-- a move of the acting task with its stacks, with instantiation, and a run of its stack.
use Rattle.std.specs.Prelude.{ℕ, List, Option}
use Rattle.comp_graph.specs.Graph.{Graph}
use Rattle.world_parts.specs.Views.{Views}
use Rattle.world_parts.specs.declared.parts.Flow.{Flow}
use Rattle.world_parts.specs.declared.parts.Flow.TheVariants as flow
use Rattle.world_parts.specs.declared.parts.Rest.{Rest}
use Rattle.world_parts.specs.declared.parts.Rest.TheVariants as rest
use Rattle.world_parts.specs.Held.{Held, Done}
use Rattle.world_stacks.specs.Views.{PileView}
use Rattle.machine_runs.specs.declared.stepping.Step.{Step}
use Rattle.machine_runs.specs.Following.{followed}
use Rattle.machine_runs.specs.Moving.{moves}
use Rattle.machine_runs.specs.Stepping.{RunSteps}
use Rattle.run_laws.specs.keeping.Kept.{KeepsMarks, SubtasksAreOwn}
use Rattle.run_laws.specs.keeping.Acting.{WokenWell}
use Rattle.run_laws.specs.keeping.Instantiating.{NoneRuns}
use Rattle.run_laws.specs.keeping.Well.{CancelsApart, KeptWell, KeepsWell}

-- Both stay.
abbrev pub KeepsAll : {A : Type 0} → Held → Done A → Type 0
KeepsAll h d = KeepsMarks h d × KeepsWell h d

-- While it instantiates no task runs a function.
abbrev pub InitRuns : Rest → Held → Type 0
InitRuns (rest.Instantiates number) h = NoneRuns h
InitRuns rest.Free h = Unit {0}
InitRuns rest.Arrives h = Unit {0}
InitRuns rest.Goes h = Unit {0}
InitRuns rest.Resumes h = Unit {0}
InitRuns rest.Back h = Unit {0}
InitRuns rest.Runs h = Unit {0}
InitRuns (rest.Calls number) h = Unit {0}
InitRuns rest.Leaves h = Unit {0}

-- What is asked of a move.
pub record MoveWell (g : Graph) (r : Rest) (h : Held) : Type 0 where
  pub woken : WokenWell g r h
  pub init : InitRuns r h
  pub apart : CancelsApart h
  pub well : KeptWell h
  pub own : (at : ℕ) → SubtasksAreOwn h at

abbrev pub MovesKeepAll : Type 0
MovesKeepAll = (g : Graph) (types : List (Option ℕ)) (r : Rest) (piles : List PileView) (h : Held) → MoveWell g r h → KeepsAll h (moves g types r piles h)

-- An event of a set comes where subtasks were called from the instances in whose tables they stand.
abbrev pub OwnToHear : Held → Flow → Type 0
OwnToHear h (flow.Now words) = Unit {0}
OwnToHear h flow.Rests = Unit {0}
OwnToHear h (flow.Starts ref words) = Unit {0}
OwnToHear h flow.Enters = Unit {0}
OwnToHear h flow.Returns = Unit {0}
OwnToHear h (flow.Copies copying) = Unit {0}
OwnToHear h (flow.Delivers r set) = (at : ℕ) → SubtasksAreOwn h at
OwnToHear h (flow.Polls r set) = (at : ℕ) → SubtasksAreOwn h at
OwnToHear h (flow.HearsNone r) = Unit {0}
OwnToHear h (flow.HearsCancel r) = Unit {0}

abbrev pub FollowingKeepsAll : Type 0
FollowingKeepsAll = (g : Views) (f : Flow) (piles : List PileView) (h : Held) → KeptWell h → OwnToHear h f → KeepsAll h (followed g f piles h)

-- The acting task's stack runs.
abbrev pub RunsKeepAll : Type 0
RunsKeepAll = (piles : List PileView) (h : Held) (d : Done (Step × List PileView)) → RunSteps piles h d → KeepsAll h d
