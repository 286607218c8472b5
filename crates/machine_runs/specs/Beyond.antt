-- Runs that go beyond what is run (Component Model, Concurrency.md, "Summary"): up to a world from which no rule applies, or from which a step is a
-- trap while no task acts, or behind as many steps as are made at most. That no run of a linked component comes to one of the first two is not said.
use Rattle.std.specs.Prelude.{◌≡◌, ◌⊎◌, ℕ, List, None}
use Rattle.programs.specs.declared.program.Program.{Program}
use Rattle.trace_labels.specs.declared.label.Label.{Label}
use Rattle.world_parts.specs.declared.parts.Flow.{Flow}
use Rattle.world_parts.specs.Held.{Held, Done, Gives, Traps, Spent, Stuck}
use Rattle.world_stacks.specs.Views.{PileView}
use Rattle.value_parts.specs.declared.to_pass.Passing.{Passing}
use Rattle.machine_runs.specs.declared.stepping.Step.{Step}
use Rattle.machine_runs.specs.Moving.{acting_of}
use Rattle.machine_runs.specs.Worlds.{Point, StepsTo, GoOn, most_steps}

-- A step comes to nothing that goes on or ends a run.
abbrev pub IsLost : Done (Step × List PileView) → Type 0
IsLost (Gives r k) = ⊥
IsLost (Traps why k) = acting_of k ≡ None
IsLost (Spent k) = ⊥
IsLost Stuck = Unit {0}

-- A step from a world does.
abbrev pub StepIsLost : (Program → Passing → Held → Done Flow → Type 0) → Program → Point → Type 0
StepIsLost may_pass p a = (d : Done (Step × List PileView)) × StepsTo may_pass p a d × IsLost d

-- Steps with these lines lead from a world to one from which a step does, or they are as many as are made at most.
pub record IsBeyond (may_pass : Program → Passing → Held → Done Flow → Type 0) (p : Program) (a : Point) (lines : List Label) : Type 0 where
  pub count : ℕ
  pub last : Point
  pub steps : GoOn may_pass p count a lines last
  pub behind : StepIsLost may_pass p last ⊎ (count ≡ most_steps)
