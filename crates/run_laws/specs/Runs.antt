-- Where the acting task's stack is to run (Core 2.0, section 4.4; Component Model, Concurrency.md, "Summary"): what the kept machine comes to by a run
-- of it, the machine comes to by its turns.
use Rattle.std.specs.Prelude.{◌≡◌, List, []}
use Rattle.syntax_trees.specs.declared.types.ValType.{ValType}
use Rattle.comp_graph.specs.Graph.{Graph}
use Rattle.script_reader.specs.Script.{Script}
use Rattle.trace_labels.specs.declared.label.Label.{Label}
use Rattle.world_parts.specs.declared.parts.Rest.TheVariants as rest
use Rattle.world_parts.specs.Held as kept
use Rattle.world_parts.specs.Held.{Held, Done, Gives, Traps, Spent}
use Rattle.world_stacks.specs.Views.{PileView}
use Rattle.machine_runs.specs.declared.stepping.Step.{Step}
use Rattle.machine_runs.specs.Stepping.{RunSteps}
use Rattle.abi_machine.specs.World.{World}
use Rattle.abi_machine.specs.sound.Acting.{IsOrdered}
use Rattle.run_laws.specs.Points.{AtRest, stacks_at, StepAgrees}

-- A step agrees, where a rule applies.
abbrev pub RuleAgrees : Graph → List ValType → Script → List Label → World → Done (Step × List PileView) → Type 0
RuleAgrees g values s ahead w (Gives r k) = StepAgrees g values s ahead w (Gives r k)
RuleAgrees g values s ahead w (Traps why k) = StepAgrees g values s ahead w (Traps why k)
RuleAgrees g values s ahead w (Spent k) = StepAgrees g values s ahead w (Spent k)
RuleAgrees g values s ahead w kept.Stuck = Unit {0}

abbrev pub RunStepsAgree : Type 0
RunStepsAgree =
    (g : Graph) (values : List ValType) (s : Script) (h : Held) (piles : List PileView) (w : World) (d : Done (Step × List PileView))
    → IsOrdered w → h.labels ≡ [] → h.rest ≡ rest.Runs → AtRest g values s h (stacks_at piles) [] w → RunSteps piles h d → RuleAgrees g values s [] w d
