-- What is carried from point to point of a run (Component Model, CanonicalABI.md; Concurrency.md, "Summary"): where the machine is, what of what is kept is right beside its world, and,
-- where values are to be passed, from which rest a step led there. The first point has it, it gives all that a step asks, and each step leaves it:
-- so each run of a program that is made of a graph and a script that fit is the machine's.
use Rattle.std.specs.Prelude.{◌≡◌, ◌⊎◌, List, [], ◌++◌}
use Rattle.script_reader.specs.Script.{Script}
use Rattle.trace_labels.specs.declared.label.Label.{Label}
use Rattle.programs.specs.declared.program.Program.{Program}
use Rattle.program_maker.specs.Programs as made
use Rattle.world_parts.specs.declared.parts.Copying.{Copying}
use Rattle.world_parts.specs.Held.{Held, Gives}
use Rattle.value_parts.specs.declared.to_pass.Passing.TheVariants as passing
use Rattle.value_moves.specs.Passing.{Passes}
use Rattle.machine_runs.specs.declared.ending.RunEnd.{RunEnd}
use Rattle.machine_runs.specs.declared.stepping.Step.TheVariants as step
use Rattle.machine_runs.specs.Worlds.{Point, StepsTo, Goes, IsRun, handed}
use Rattle.abi_machine.specs.World.{World, first_world}
use Rattle.abi_machine.specs.Run.{Reaches, lines_of}
use Rattle.reach_laws.specs.Fits.{Fits}
use Rattle.standing.specs.Channels.{HasMarkedEnds}
use Rattle.standing.specs.KeptMarks.{HasMarks}
use Rattle.run_laws.specs.Points.{InPoint, AtRest, stacks_at}
use Rattle.run_laws.specs.Steps.{MayStep, IsReached}
use Rattle.run_laws.specs.TaskLists.{HasLists}
use Rattle.run_laws.specs.Whole.{start_of, IsOfMachine}
use Rattle.run_laws.specs.keeping.Steps.{StepsSo}
use Rattle.run_laws.specs.keeping.Still.{MemoriesKept}
use Rattle.run_laws.specs.keeping.Tables.{HandlesAloneLent}
use Rattle.run_laws.specs.keeping.Well.{KeptWell}

-- Where a run of a program is, and the machine.
pub record HasCome (p : Program) (lines : List Label) (b : Point) : Type 0 where
  pub steps : List (List Label)
  pub world : World
  pub ahead : List Label
  pub reached : Reaches p.graph.now p.script.now (first_world p.graph.now) steps world
  pub point : InPoint p.graph.now p.types.now p.script.now b ahead world
  pub same_lines : lines ≡ lines_of steps ++ ahead
  pub none : b.held.labels ≡ []

-- What is right of what is kept, of which the world says nothing.
pub record IsRight (s : Script) (h : Held) : Type 0 where
  pub marks : HasMarks h
  pub well : KeptWell h
  pub lists : HasLists s h
  pub ends : HasMarkedEnds h
  pub lent : HandlesAloneLent h.instances h.tasks
  pub memories : MemoriesKept h

-- A step led here from a rest. Where it told nothing, no line was told ahead.
pub record ComesFrom (p : Program) (b : Point) (ahead : List Label) : Type 0 where
  pub before : Point
  pub world : World
  pub reached : IsReached p.graph.now p.script.now world
  pub rests : AtRest p.graph.now p.types.now p.script.now before.held (stacks_at before.piles) [] world
  pub nothing : before.passing ≡ passing.Nothing
  pub none : before.held.labels ≡ []
  pub right : IsRight p.script.now before.held
  pub later : Held
  pub step : StepsTo Passes p before (Gives (step.GoesOn b.passing, b.piles) later)
  pub same : b.held ≡ handed later
  pub told : later.labels ≡ [] → ahead ≡ []

-- All that is carried.
pub record IsCarried (p : Program) (lines : List Label) (b : Point) : Type 0 where
  pub come : HasCome p lines b
  pub right : IsRight p.script.now b.held
  pub from : (b.passing ≡ passing.Nothing) ⊎ ComesFrom p b come.ahead

-- The program is made of a graph and a script that fit.
pub record IsFit (p : Program) : Type 0 where
  pub made : made.IsProgram p.graph.now p.script.now p
  pub fits : Fits p.graph.now p.script.now

-- Before the graph is instantiated it is carried; it gives all that a step asks, of what is kept and of the machine; and each step that goes on leaves it.
abbrev pub FirstIsCarried : Type 0
FirstIsCarried = (p : Program) → IsCarried p [] (start_of p)

abbrev pub CarriedStepsSo : Type 0
CarriedStepsSo = (p : Program) (lines : List Label) (b : Point) → IsFit p → IsCarried p lines b → StepsSo p b.held b.passing

abbrev pub CarriedMayStep : Type 0
CarriedMayStep =
    (p : Program) (lines : List Label) (b : Point) → IsFit p → (c : IsCarried p lines b)
    → MayStep p p.types.now p.script.now b.held b.piles b.passing c.come.ahead c.come.world c.come.point

abbrev pub StepsCarry : Type 0
StepsCarry = (p : Program) (lines more : List Label) (b to : Point) → IsFit p → IsCarried p lines b → Goes Passes p b more to → IsCarried p (lines ++ more) to

-- So a run is the machine's.
abbrev pub RunsAreOfMachine : Type 0
RunsAreOfMachine =
    (p : Program) (end : RunEnd) (lines : List Label) (h : Held) → IsFit p → IsRun Passes p (start_of p) end lines h → IsOfMachine p.graph.now p.script.now lines end
