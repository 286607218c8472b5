-- Entry (Component Model, CanonicalABI.md, "Task State": `Task.enter`; `canon lift`, "Flat Lifting" and "Flat Lowering"): a task enters, or
-- waits to; when it enters, its arguments are lifted from its caller as they are then, and are lowered into its own instance.
use Rattle.std.specs.Prelude.{ℕ, if◌then◌else◌, [], ◌∷◌}
use Rattle.wasm_store.specs.Store.{Store}
use Rattle.syntax_trees.specs.declared.value.Value.{Value}
use Rattle.syntax_trees.specs.declared.value.Value.TheViews as value
use Rattle.comp_graph.specs.declared.graph.CanonFunc.{CanonFunc}
use Rattle.comp_graph.specs.Graph.{Graph, Lifted}
use Rattle.trace_labels.specs.declared.label.BlockReason.TheVariants as reason
use Rattle.trace_labels.specs.declared.label.Label.TheVariants as line
use Rattle.abi_machine.specs.Control.{Starts, Lowering, Lowers}
use Rattle.abi_machine.specs.World.{Subtask, Caller, Nobody, Host, Guest, Acting, WaitsToEnter, Task, World}
use Rattle.abi_machine.specs.Edits.{in_state}
use Rattle.abi_machine.specs.Canons.{memory_of, realloc_of, bytes_of, options_of_canon, inst_of_canon, canon_at, defines}
use Rattle.abi_machine.specs.Gate.{may_arrive}
use Rattle.abi_machine.specs.Lifting.{Came, once_lifted}
use Rattle.abi_machine.specs.Passing.{arguments_lifted, arguments_plan}
use Rattle.abi_machine.specs.Pausing.{entries_by}
use Rattle.abi_machine.specs.Turn.{Turn, Stuck, silent, behind, given, with_func, blocked}

-- The lowering of arguments acts for the task that is called.
abbrev pub arguments_lowering : Store → ℕ → Lifted → Lowering
arguments_lowering s t f = record {
  inst = f.instance;
  memory = memory_of s f.options;
  realloc = realloc_of s f.options;
  acts_for = t;
  blame = t;
  next = Starts;
}

unfoldable pub with_arguments : Graph → ℕ → Lifted → Value → World → Turn
with_arguments g t f v w =
    silent (Lowers (arguments_lowering w.store t f) (arguments_plan (entries_by (defines g f.instance)) f.func_type v)) w

-- The arguments of a call: those of the script, or what a task passes to a function that it lowers. A borrow is lent for the call of the
-- task that enters.
unfoldable pub arguments_passed : ℕ → Lifted → Subtask → CanonFunc → World → Came Value
arguments_passed t f subtask c w =
    arguments_lifted (inst_of_canon c) t (options_of_canon c).is_async f.func_type (bytes_of w.store (memory_of w.store (options_of_canon c)))
    subtask.words w

unfoldable pub arguments_turn : Graph → ℕ → Lifted → Caller → World → Turn
arguments_turn g t f Nobody w = Stuck
arguments_turn g t f (Host call values) w = with_arguments g t f (value.Record values) w
arguments_turn g t f (Guest subtask) w =
    given (canon_at g subtask.canon) (λ c. once_lifted t (arguments_passed t f subtask c w) (λ v later. with_arguments g t f v later))

-- A task enters.
unfoldable pub entered : Graph → ℕ → Task → Lifted → World → Turn
entered g t task f w = behind (line.Enter t ∷ []) (arguments_turn g t f task.caller (in_state t Acting w))

-- A task that is new enters, or waits to.
unfoldable pub arriving_turn : Graph → World → Turn
arriving_turn g w =
    with_func w (λ t task f. if may_arrive w f.instance task then entered g t task f w else blocked t WaitsToEnter reason.Entry w)
