-- Runs (Component Model, Concurrency.md, "Summary"): steps, one behind the other, from a world on, each with its lines; and how a step ends a run.
use Rattle.std.specs.Prelude.{◌≡◌, ◌<◌, ◌⊎◌, ℕ, zero, suc, List, [], ◌∷◌, ◌++◌, Option, Some, None}
use Rattle.comp_graph.specs.Graph.{Graph}
use Rattle.script_reader.specs.Script.{Script}
use Rattle.programs.specs.declared.program.Program.{Program}
use Rattle.trace_labels.specs.declared.label.Label.{Label}
use Rattle.trace_labels.specs.declared.label.Label.TheVariants as line
use Rattle.trace_labels.specs.declared.trap.TrapName.{TrapName}
use Rattle.world_parts.specs.declared.parts.Flow.{Flow}
use Rattle.world_parts.specs.Held.{Held, held, Done, Gives, Traps, Spent, Stuck}
use Rattle.world_stacks.specs.Views.{PileView}
use Rattle.value_parts.specs.declared.to_pass.Passing.{Passing}
use Rattle.value_parts.specs.declared.to_pass.Passing.TheVariants as passing
use Rattle.machine_runs.specs.declared.stepping.Step.{Step}
use Rattle.machine_runs.specs.declared.stepping.Step.TheVariants as step
use Rattle.machine_runs.specs.declared.world.World.{World}
use Rattle.machine_runs.specs.declared.ending.RunEnd.{RunEnd}
use Rattle.machine_runs.specs.declared.ending.RunEnd.TheVariants as run
use Rattle.machine_runs.specs.declared.ending.LastLine.{LastLine}
use Rattle.machine_runs.specs.Beginning.{first_held, first_piles}
use Rattle.machine_runs.specs.Moving.{acting_of}
use Rattle.machine_runs.specs.Stepping.{Steps, CanStep}

-- where a run is: what is kept, the stacks of tasks, and what is to be passed next
pub record Point : Type 0 where
  pub held : Held
  pub piles : List PileView
  pub passing : Passing

abbrev pub point_of : World → Point
point_of w = record { held = held w.parts; piles = w.stacks.piles.items; passing = w.passing }

-- before a graph is instantiated
abbrev pub first_point : Graph → Script → Point
first_point g s = record { held = first_held g s; piles = first_piles; passing = passing.Nothing }

-- what a step may come to there
abbrev pub StepsTo : (Program → Passing → Held → Done Flow → Type 0) → Program → Point → Done (Step × List PileView) → Type 0
StepsTo may_pass p a d = Steps may_pass p a.passing a.piles a.held d

-- The last line, where a step ends the run: where nothing may be done the tasks are named that have not exited, and a trap names the acting task.
abbrev pub free_line : List ℕ → LastLine
free_line [] = record { end = run.Done; line = line.Done }
free_line (t ∷ tasks) = record { end = run.Deadlock; line = line.Deadlock (t ∷ tasks) }

abbrev pub trap_line : TrapName → Option ℕ → Option LastLine
trap_line why None = None
trap_line why (Some t) = Some (record { end = run.Trap; line = line.Trap t why })

abbrev pub fuel_line : LastLine
fuel_line = record { end = run.Fuel; line = line.Fuel }

abbrev pub free_end : Step → Held → Option LastLine
free_end step.Ends k = Some (free_line k.live)
free_end (step.GoesOn x) k = None

abbrev pub last_line : Done (Step × List PileView) → Option LastLine
last_line (Gives r k) = free_end r.0 k
last_line (Traps why k) = trap_line why (acting_of k)
last_line (Spent k) = Some fuel_line
last_line Stuck = None

-- what is kept behind a step
abbrev pub kept_behind : Done (Step × List PileView) → Option Held
kept_behind (Gives r k) = Some k
kept_behind (Traps why k) = Some k
kept_behind (Spent k) = Some k
kept_behind Stuck = None

-- What a step comes to from a world: another one, with the lines that were told, and the last line, where it ends the run.
abbrev pub Ends : (Program → Passing → Held → Done Flow → Type 0) → Program → Point → LastLine → Held → Type 0
Ends may_pass p a last k =
    (d : Done (Step × List PileView)) × StepsTo may_pass p a d × (last_line d ≡ Some last) × (kept_behind d ≡ Some k)

abbrev pub StepGives : (Program → Passing → Held → Done Flow → Type 0) → Program → Point → Option LastLine → Point → Type 0
StepGives may_pass p a None b = StepsTo may_pass p a (Gives (step.GoesOn b.passing, b.piles) b.held)
StepGives may_pass p a (Some last) b = Ends may_pass p a last b.held

-- its lines, with the last one of the run
abbrev pub with_last : List Label → Option LastLine → List Label
with_last lines None = lines
with_last lines (Some last) = lines ++ last.line ∷ []

-- All lines are handed on.
abbrev pub handed : Held → Held
handed h = record h { labels = [] }

abbrev pub handed_on : Point → Point
handed_on b = record b { held = handed b.held }

-- A run goes on, with lines; and so many steps of it do.
abbrev pub Goes : (Program → Passing → Held → Done Flow → Type 0) → Program → Point → List Label → Point → Type 0
Goes may_pass p a lines c = (b : Point) × StepGives may_pass p a None b × (lines ≡ b.held.labels) × (c ≡ handed_on b)

abbrev pub GoOn : (Program → Passing → Held → Done Flow → Type 0) → Program → ℕ → Point → List Label → Point → Type 0
GoOn may_pass p zero a lines b = (lines ≡ []) × (b ≡ a)
GoOn may_pass p (suc count) a lines b =
    (mid : Point) × (before : List Label) × (more : List Label) × GoOn may_pass p count a before mid × Goes may_pass p mid more b × (lines ≡ before ++ more)

pub record Reached (may_pass : Program → Passing → Held → Done Flow → Type 0) (p : Program) (a : Point) (lines : List Label) (b : Point) : Type 0 where
  pub count : ℕ
  pub steps : GoOn may_pass p count a lines b

-- It ends, with lines.
abbrev pub EndsBy : (Program → Passing → Held → Done Flow → Type 0) → Program → Point → RunEnd → List Label → Held → Type 0
EndsBy may_pass p a end lines h =
    (last : LastLine) × (b : Point) × StepGives may_pass p a (Some last) b × (end ≡ last.end) × (lines ≡ with_last b.held.labels (Some last)) × (h ≡ handed b.held)

-- A run from a world on, to its end, with all its lines.
pub record IsRun (may_pass : Program → Passing → Held → Done Flow → Type 0) (p : Program) (a : Point) (end : RunEnd) (lines : List Label) (h : Held) : Type 0 where
  pub before : List Label
  pub last : Point
  pub more : List Label
  pub goes : Reached may_pass p a before last
  pub ends : EndsBy may_pass p last end more h
  pub lines_are : lines ≡ before ++ more

-- The lines of a step, whether or not it ends the run; and those of a run so far.
abbrev pub StepTells : (Program → Passing → Held → Done Flow → Type 0) → Program → Point → List Label → Type 0
StepTells may_pass p a lines = (last : Option LastLine) × (b : Point) × StepGives may_pass p a last b × (lines ≡ with_last b.held.labels last)

abbrev pub RunTells : (Program → Passing → Held → Done Flow → Type 0) → Program → Point → List Label → Type 0
RunTells may_pass p a lines =
    (b : Point) × (before : List Label) × (more : List Label) × Reached may_pass p a before b × StepTells may_pass p b more × (lines ≡ before ++ more)

-- Those of a run so far, where the next step may not have been made.
abbrev pub SoFarTells : (Program → Passing → Held → Done Flow → Type 0) → Program → Point → List Label → Type 0
SoFarTells may_pass p a lines = ((b : Point) × Reached may_pass p a lines b) ⊎ RunTells may_pass p a lines

-- How many steps a run may make, and that a step can be made in each world to which fewer lead.
abbrev pub most_steps : ℕ
most_steps = 34359738368

abbrev pub StepsOn : (Program → Passing → Held → Done Flow → Type 0) → Program → Point → Type 0
StepsOn may_pass p a =
    (count : ℕ) (lines : List Label) (b : Point) → count < most_steps → GoOn may_pass p count a lines b → CanStep b.passing b.piles b.held
