-- A step as a whole keeps all marks, whatever it does, from any point, and keeps well what is kept of tasks and of their calls (Component Model, CanonicalABI.md;
-- Concurrency.md, "Summary"). What is asked is named by where the run rests, or by what is to be passed.
use Rattle.std.specs.Prelude.{◌≡◌, ℕ, List, Some}
use Rattle.programs.specs.declared.program.Program.{Program}
use Rattle.world_parts.specs.declared.parts.Rest.TheVariants as rest
use Rattle.world_parts.specs.Held.{Held, Done}
use Rattle.world_stacks.specs.Views.{PileView}
use Rattle.value_parts.specs.declared.to_pass.Passing.{Passing}
use Rattle.value_parts.specs.declared.to_pass.Passing.TheVariants as passing
use Rattle.value_moves.specs.Passing.{Passes}
use Rattle.machine_runs.specs.declared.stepping.Step.{Step}
use Rattle.machine_runs.specs.Moving.{acting_of}
use Rattle.machine_runs.specs.Stepping.{Steps}
use Rattle.run_laws.specs.keeping.Passings.{PassesSo}
use Rattle.run_laws.specs.keeping.Stepping.{KeepsAll, MoveWell}
use Rattle.run_laws.specs.keeping.Tables.{TablesWell}
use Rattle.run_laws.specs.keeping.Turning.{TurnWell}
use Rattle.run_laws.specs.keeping.Well.{KeptWell}

-- From where the run rests.
pub record GoesSo (p : Program) (h : Held) : Type 0 where
  pub move : MoveWell p.graph.now h.rest h
  pub turn : h.rest ≡ rest.Free → TurnWell h

-- Values are passed for the acting task.
pub record PassesWell (p : Program) (x : Passing) (h : Held) : Type 0 where
  pub now : (t : ℕ) → acting_of h ≡ Some t → PassesSo p t h x
  pub tables : TablesWell h
  pub well : KeptWell h

abbrev pub StepsSo : Program → Held → Passing → Type 0
StepsSo p h passing.Nothing = GoesSo p h
StepsSo p h passing.Arguments = PassesWell p passing.Arguments h
StepsSo p h passing.Returned = PassesWell p passing.Returned h
StepsSo p h (passing.Ended words) = PassesWell p (passing.Ended words) h
StepsSo p h (passing.Elements copying) = PassesWell p (passing.Elements copying) h

abbrev pub StepKeepsAll : Type 0
StepKeepsAll = (p : Program) (x : Passing) (piles : List PileView) (h : Held) (d : Done (Step × List PileView)) → StepsSo p h x → Steps Passes p x piles h d → KeepsAll h d
