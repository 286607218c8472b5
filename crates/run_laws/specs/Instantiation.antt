-- Where task 0 instantiates (Component Model, Explainer.md, "Instance Definitions"; Core 2.0, section 4.5.4): a step of the kept machine makes the next thing
-- of the graph's plan, as the machine does in a turn.
use Rattle.std.specs.Prelude.{◌≡◌, ℕ, List, []}
use Rattle.syntax_trees.specs.declared.types.ValType.{ValType}
use Rattle.comp_graph.specs.Graph.{Graph}
use Rattle.script_reader.specs.Script.{Script}
use Rattle.programs.specs.declared.program.Program.{Program}
use Rattle.world_parts.specs.declared.parts.Rest.TheVariants as rest
use Rattle.world_parts.specs.Held.{Held}
use Rattle.world_stacks.specs.Views.{PileView}
use Rattle.machine_runs.specs.Stepping.{move_steps}
use Rattle.abi_machine.specs.World.{Task, World}
use Rattle.standing.specs.Instantiates.{InitActs}
use Rattle.run_laws.specs.Points.{AtRest, stacks_at}
use Rattle.run_laws.specs.Runs.{RuleAgrees}

abbrev pub InstantiationAgrees : Type 0
InstantiationAgrees =
    (g : Graph) (values : List ValType) (s : Script) (p : Program) (h : Held) (piles : List PileView) (w : World) (n : ℕ) (task : Task)
    → p.graph.now ≡ g → h.labels ≡ [] → h.rest ≡ rest.Instantiates n → InitActs w task → AtRest g values s h (stacks_at piles) [] w
    → RuleAgrees g values s [] w (move_steps p piles h)
