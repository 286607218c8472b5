-- Values that are lowered over what is kept (Component Model, CanonicalABI.md, "Storing", "Flat Lowering", "Lifting and Lowering Context"): what
-- that comes to stands for a world to which the machine comes from where it follows the plan.
use Rattle.std.specs.Prelude.{◌≡◌, ℕ, List, ◌++◌, Some}
use Rattle.std.specs.List.{slice_get}
use Rattle.wasm_store.specs.Stack.{Stack}
use Rattle.syntax_trees.specs.declared.types.ValType.{ValType}
use Rattle.value_lower.specs.Plan as lower
use Rattle.comp_graph.specs.Graph.{Graph}
use Rattle.script_reader.specs.Script.{Script}
use Rattle.trace_labels.specs.declared.label.Label.{Label}
use Rattle.task_table.specs.declared.slot.TaskSlot.{TaskSlot}
use Rattle.world_parts.specs.Held as kept
use Rattle.world_parts.specs.Held.{Held, Done, Gives, Traps, Spent}
use Rattle.value_moves.specs.declared.lowering.Destination.{Destination}
use Rattle.value_moves.specs.Lowering.{Site, LowersAt}
use Rattle.abi_machine.specs.declared.run_end.RunEnd.TheVariants.{Fuel}
use Rattle.abi_machine.specs.LoweringOver as machine
use Rattle.abi_machine.specs.Control.{Lowering, Lowers, Doomed}
use Rattle.abi_machine.specs.World.{World}
use Rattle.abi_machine.specs.Lowering.{lowered}
use Rattle.standing.specs.Stands.{Stands}
use Rattle.standing.specs.Reaching.{Meets}
use Rattle.standing.specs.Leading.{ComesBy, EndsBy}
use Rattle.standing.specs.Lowers.{PlanAgrees, IsMemory}

-- Where values go is where the machine's lowering goes, and it begins with what is kept.
pub record IsSiteOf (g : Graph) (values : List ValType) (s : Script) (w : World) (h : Held) (stacks : List (List Stack)) (l : Lowering) (to : Destination) (site : Site) (slot : TaskSlot) : Type 0 where
  pub stands : Stands g values s h stacks w
  pub instance : to.instance ≡ l.inst
  pub task : to.task ≡ l.acts_for
  pub memory : IsMemory l.memory to.options.memory w.store
  pub realloc : to.options.realloc ≡ l.realloc
  pub inst_there : slice_get h.instances l.inst ≡ Some site.instance
  pub task_there : slice_get h.tasks l.acts_for ≡ Some slot
  pub context : site.context ≡ slot.context

-- Behind it comes what follows core values, for a world for which what is kept stands; or a trap, or the end of the run.
pub record WordsFollow (g : Graph) (values : List ValType) (s : Script) (w : World) (before : List Label) (k : Held) (stacks : List (List Stack)) (l : Lowering) (words : List ℕ) : Type 0 where
  pub lines : List Label
  pub world : World
  pub meets : Meets g s w lines (lowered l.next words world)
  pub stands : Stands g values s k stacks world
  pub told : k.labels ≡ before ++ lines

abbrev pub LoweredLeads : Graph → List ValType → Script → World → List Label → List (List Stack) → Lowering → Done (List ℕ) → Type 0
LoweredLeads g values s w before stacks l (Gives words k) = WordsFollow g values s w before k stacks l words
LoweredLeads g values s w before stacks l (Traps why k) = ComesBy g values s w before k stacks (λ v. v.control ≡ Doomed l.blame why)
LoweredLeads g values s w before stacks l (Spent k) = EndsBy g values s w before k stacks Fuel
LoweredLeads g values s w before stacks l kept.Stuck = Unit {0}

abbrev pub LowersAtLeads : Type 0
LowersAtLeads =
    (g : Graph) (values : List ValType) (s : Script) (w : World) (h : Held) (stacks : List (List Stack)) (l : Lowering) (to : Destination) (site : Site) (slot : TaskSlot)
    (plan : lower.Plan) (m : machine.Plan) (d : Done (List ℕ))
    → w.control ≡ Lowers l m → PlanAgrees plan m → IsSiteOf g values s w h stacks l to site slot → LowersAt g to values plan site h d
    → LoweredLeads g values s w h.labels stacks l d
