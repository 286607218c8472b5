-- A task that enters (Component Model, CanonicalABI.md, "Task State": `Task.enter`; `canon lift`, "Flat Lifting" and "Flat Lowering"): its arguments are
-- lifted from its caller and lowered into its own instance over what is kept as the machine lifts and lowers them, and its core function is to start on
-- both sides. Of a destructor nothing is said.
use Rattle.std.specs.Prelude.{◌≡◌, ℕ, List, Some}
use Rattle.wasm_store.specs.Stack.{Stack}
use Rattle.syntax_trees.specs.declared.types.ValType.{ValType}
use Rattle.syntax_trees.specs.declared.value.Value.{Value}
use Rattle.laid_types.specs.Known.{Numbered}
use Rattle.comp_graph.specs.declared.graph.CanonFunc.{CanonFunc}
use Rattle.comp_graph.specs.Graph.{Lifted}
use Rattle.script_reader.specs.Script.{Script}
use Rattle.task_table.specs.declared.errand.Callee as kept
use Rattle.programs.specs.declared.program.Program.{Program}
use Rattle.programs.specs.Program.{params_of, host_values, resources_of}
use Rattle.world_parts.specs.declared.parts.Flow.{Flow}
use Rattle.world_parts.specs.Held.{Held, Done}
use Rattle.value_moves.specs.Entering.{Enters}
use Rattle.abi_machine.specs.World.{Func, Guest, Subtask, Task, World}
use Rattle.abi_machine.specs.Canons.{canon_at, options_at, inst_of_canon, defines}
use Rattle.abi_machine.specs.Passing.{params_type}
use Rattle.standing.specs.Tasks.{callee_of, IsCallOf}
use Rattle.standing.specs.Agreeing.{enters}
use Rattle.standing.specs.Moves.{Acts}
use Rattle.standing.specs.Ends.{HasMemory}
use Rattle.standing.specs.Plans.{AreOwn}
use Rattle.run_laws.specs.Taking.{StandsMarked}
use Rattle.run_laws.specs.Lifted.{LendsFrom}
use Rattle.run_laws.specs.Copied.{TurnLeads}

-- The acting task runs a lifted function, whose arguments have the type of a number; the values of the script's calls are those that the script gives; and
-- a handle is lent for a task's call from the instance of its caller.
pub record MayEnter (p : Program) (values : List ValType) (s : Script) (h : Held) (w : World) (t : ℕ) (task : Task) (f : Lifted) : Type 0 where
  pub types : p.types.now ≡ values
  pub acts : Acts w t task f
  pub runs : task.callee ≡ Func f
  pub params : (callee : kept.Callee) (type : Numbered) → callee_of p.graph.now callee ≡ Some (Func f) → params_of p callee ≡ Some type → type.val_type ≡ params_type f.func_type
  pub given : (number : ℕ) (all : List Value) → IsCallOf s number all → host_values p number ≡ Some all
  pub lends : (subtask : Subtask) (c : CanonFunc) → task.caller ≡ Guest subtask → canon_at p.graph.now subtask.canon ≡ Some c
      → LendsFrom w (inst_of_canon c) t (Some (params_type f.func_type))
  pub memory : HasMemory h w f.options
  pub memories : (number : ℕ) → HasMemory h w (options_at p.graph.now number)
  pub own : (resources : List ℕ) → resources_of p f.instance ≡ Some resources → AreOwn resources (defines p.graph.now f.instance)

abbrev pub TaskEnters : Type 0
TaskEnters =
    (p : Program) (values : List ValType) (s : Script) (h : Held) (stacks : List (List Stack)) (w : World) (t : ℕ) (task : Task) (f : Lifted) (d : Done Flow)
    → MayEnter p values s h w t task f → StandsMarked p.graph.now values s h stacks w → Enters p t h d
    → TurnLeads p.graph.now values s t h.labels stacks d (enters p.graph.now t w)
