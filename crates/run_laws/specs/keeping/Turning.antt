-- Turns, where no task runs, keep all marks, and well what is kept (Component Model, Concurrency.md, "Summary"): the script's next item, or an able task that goes on.
use Rattle.std.specs.Prelude.{◌≡◌, ℕ, List, Some}
use Rattle.programs.specs.declared.program.Program.{Program}
use Rattle.world_parts.specs.Channels.{numbered}
use Rattle.world_parts.specs.Held.{Held}
use Rattle.world_stacks.specs.Views.{PileView}
use Rattle.machine_runs.specs.Turning.{turns}
use Rattle.run_laws.specs.keeping.Kept.{NumbersThere, RunsFunction}
use Rattle.run_laws.specs.keeping.Stepping.{KeepsAll}

-- Numbers name tasks that are there, and the tasks of the script's calls run functions.
pub record TurnWell (h : Held) : Type 0 where
  pub numbers : NumbersThere h
  pub calls : (call t : ℕ) → numbered h.calls call ≡ Some t → RunsFunction h t

abbrev pub TurnsKeepAll : Type 0
TurnsKeepAll = (p : Program) (piles : List PileView) (h : Held) → TurnWell h → KeepsAll h (turns p piles h)
