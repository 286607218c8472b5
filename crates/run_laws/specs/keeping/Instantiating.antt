-- Instantiation, and runs of core code, keep all marks (Component Model, Explainer.md, "Instance Definitions"; Core 2.0, sections 4.4 and 4.5.4): while not all is
-- instantiated no task runs a function.
use Rattle.std.specs.Prelude.{◌≡◌, ℕ, false, List, Option, Some}
use Rattle.std.specs.List.{slice_get}
use Rattle.wasm_execution.specs.declared.running.Outcome.{Outcome}
use Rattle.comp_graph.specs.Graph.{Graph}
use Rattle.task_table.specs.declared.slot.TaskSlot.{TaskSlot}
use Rattle.world_parts.specs.Held.{Held, Done}
use Rattle.world_stacks.specs.Views.{PileView}
use Rattle.world_stacks.specs.Instantiating.{instantiates}
use Rattle.machine_runs.specs.Stepping.{outcome_done}
use Rattle.standing.specs.KeptMarks.{runs_func}
use Rattle.run_laws.specs.keeping.Kept.{KeepsMarks}
use Rattle.run_laws.specs.keeping.Well.{KeepsWell}

-- No task runs a function of a component instance.
abbrev pub NoneRuns : Held → Type 0
NoneRuns h = (t : ℕ) (slot : TaskSlot) → slice_get h.tasks t ≡ Some slot → runs_func slot.callee ≡ false

-- An action of the graph's plan: a component instance begins, a core instance is made, or task 0 has done its work.
abbrev pub InstantiatingKeepsMarks : Type 0
InstantiatingKeepsMarks =
    (g : Graph) (number : ℕ) (piles : List PileView) (h : Held)
    → (NoneRuns h → KeepsMarks h (instantiates g number piles h)) × KeepsWell h (instantiates g number piles h)

-- What follows what a run of a task's stack came to: it waits at a call of a canonical function, or has ended.
abbrev pub RunningKeepsMarks : Type 0
RunningKeepsMarks =
    (t : ℕ) (p : PileView) (o : Outcome) (h : Held) (d : Done (Option (List ℕ) × PileView)) → outcome_done t p o h ≡ Some d → KeepsMarks h d × KeepsWell h d
