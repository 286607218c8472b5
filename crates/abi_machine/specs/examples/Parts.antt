-- What the examples are made of (Component Model, CanonicalABI.md; Concurrency.md): small graphs, core functions that call what the
-- Canonical ABI makes, and worlds in which all is instantiated, or in which a task acts already.
use Rattle.std.specs.Prelude.{◌≡◌, ◌+◌, ℕ, pos, codes, true, false, List, [], ◌∷◌, ◌++◌, map, length, replicate, Option, Some, None}
use Rattle.std.specs.List.{range_with_len}
use Rattle.syntax_trees.specs.declared.module_types.ValType.TheVariants.{I32, I64}
use Rattle.syntax_trees.specs.declared.module_types.FuncType as core
use Rattle.syntax_trees.specs.declared.instr.Instr.TheVariants.{Drop, I32Const}
use Rattle.syntax_trees.specs.declared.instr.Instr.TheVariants as instr
use Rattle.syntax_trees.specs.Expr.{Expr, Plain}
use Rattle.wasm_store.specs.Store.{Function, Own, Instance, Store}
use Rattle.wasm_store.specs.Store as stores
use Rattle.wasm_store.specs.Step.{start}
use Rattle.syntax_trees.specs.declared.types.ValType.{ValType}
use Rattle.syntax_trees.specs.declared.types.FuncType.{FuncType}
use Rattle.syntax_trees.specs.declared.exports.Export.{Export}
use Rattle.builtin_kinds.specs.declared.ResourceOp.{ResourceOp}
use Rattle.builtin_kinds.specs.declared.PlainBuiltin.{PlainBuiltin}
use Rattle.builtin_kinds.specs.declared.ContextOp.{ContextOp}
use Rattle.builtin_kinds.specs.declared.WaitOp.{WaitOp}
use Rattle.builtin_kinds.specs.declared.EndKind.{EndKind}
use Rattle.comp_graph.specs.declared.graph.CoreRef.{CoreRef}
use Rattle.comp_graph.specs.declared.graph.FuncRef.{FuncRef}
use Rattle.comp_graph.specs.declared.graph.FuncRef.TheVariants as func_ref
use Rattle.comp_graph.specs.declared.graph.Options.{Options}
use Rattle.comp_graph.specs.declared.graph.Lift.{Lift}
use Rattle.comp_graph.specs.declared.graph.Resource.{Resource}
use Rattle.comp_graph.specs.declared.graph.EndOp.{EndOp}
use Rattle.comp_graph.specs.declared.graph.BuiltinKind.{BuiltinKind}
use Rattle.comp_graph.specs.declared.graph.BuiltinKind.TheVariants as kind
use Rattle.comp_graph.specs.declared.graph.CanonFunc.{CanonFunc}
use Rattle.comp_graph.specs.declared.graph.CanonFunc.TheVariants as canon
use Rattle.comp_graph.specs.Graph.{Graph, no_options}
use Rattle.script_reader.specs.declared.script.Item.{Item}
use Rattle.script_reader.specs.declared.script.Item.TheVariants as item
use Rattle.script_reader.specs.Script.{Script}
use Rattle.trace_labels.specs.declared.label.Label.{Label}
use Rattle.trace_labels.specs.declared.dump.LiveEntry.{LiveEntry}
use Rattle.abi_machine.specs.declared.run_end.RunEnd.{RunEnd}
use Rattle.abi_machine.specs.Control.{Free, Runs}
use Rattle.abi_machine.specs.World.{Init, Func, Nobody, Host, Acting, Exited, Task, World, new_inst, new_task}
use Rattle.abi_machine.specs.Run.{RunsFrom}
use Rattle.abi_machine.specs.Dump.{dumped_instances, dumped_memories}

-- Types: a function of values of these types, and core functions of so many i32.
abbrev pub func_type : List ValType → Option ValType → FuncType
func_type types result = record { params = map (λ type. record { label = codes "a"; val_type = type }) types; result = result }

abbrev pub of_nothing : FuncType
of_nothing = func_type [] None

abbrev pub words : ℕ → ℕ → core.FuncType
words params results = record { params = replicate params I32; results = replicate results I32 }

-- of nothing to both indices of a stream or a future
abbrev pub to_both : core.FuncType
to_both = record { params = []; results = I64 ∷ [] }

-- Core functions: one of the core instance of this number, a constant, and calls of the function of this index with these words, whose
-- answer is left or dropped.
abbrev pub own : ℕ → core.FuncType → Expr → Function
own instance type body = Own type instance [] body

abbrev pub number : ℕ → Expr → Expr
number n more = Plain (I32Const (pos n)) more

abbrev pub calls : ℕ → List ℕ → Expr → Expr
calls index [] more = Plain (instr.Call index) more
calls index (word ∷ words) more = number word (calls index words more)

abbrev pub asks : ℕ → List ℕ → Expr → Expr
asks index words more = calls index words (Plain Drop more)

-- What the Canonical ABI makes, for the component instance of this number.
abbrev pub builtin : ℕ → BuiltinKind → CanonFunc
builtin i kind = canon.Builtin (record { instance = i; kind = kind })

abbrev pub plain : ℕ → PlainBuiltin → CanonFunc
plain i op = builtin i (kind.Plain op)

abbrev pub resource : ℕ → ResourceOp → ℕ → CanonFunc
resource i op number = builtin i (kind.Resource op number)

abbrev pub context : ℕ → ContextOp → ℕ → CanonFunc
context i op slot = builtin i (kind.Context op slot)

abbrev pub task_return : ℕ → Option ValType → Options → CanonFunc
task_return i result options = builtin i (kind.TaskReturn result options)

abbrev pub wait : ℕ → WaitOp → CoreRef → CanonFunc
wait i op memory = builtin i (kind.Wait op false memory)

abbrev pub ends : ℕ → EndKind → Option ValType → EndOp → CanonFunc
ends i what element op = builtin i (kind.End what element op)

abbrev pub lower : ℕ → Lift → FuncType → Options → CanonFunc
lower i lift type options = canon.Lower (record { instance = i; lift = lift; func_type = type; options = options })

-- Options: the core instances have the numbers of their component instances, and a memory each.
abbrev pub core_at : ℕ → ℕ → CoreRef
core_at i index = record { instance = i; index = index }

abbrev pub core_func : ℕ → ℕ → FuncRef
core_func i index = func_ref.Instance (core_at i index)

abbrev pub asynchronous : Options
asynchronous = record no_options { is_async = true }

abbrev pub callback : ℕ → ℕ → Options
callback i index = record asynchronous { callback = Some (core_func i index) }

abbrev pub with_memory : ℕ → Options → Options
with_memory i options = record options { memory = Some (core_at i 0) }

abbrev pub with_realloc : ℕ → ℕ → Options → Options
with_realloc i index options = record options { realloc = Some (core_func i index) }

abbrev pub lift : ℕ → ℕ → Options → Lift
lift i index options = record { instance = i; core = core_func i index; options = options }

-- Graphs: the core functions that the Canonical ABI makes, resources, and functions that can be called. Nothing is left to instantiate.
abbrev pub graph_of : ℕ → List CanonFunc → List Resource → List Export → List Lift → Graph
graph_of count canons resources exports lifts =
    record { plan = []; instance_count = count; cores = []; canons = canons; resources = resources; exports = exports; lifts = lifts; end_types = [] }

abbrev pub exported : List ℕ → FuncType → Export
exported name type = record { name = name; func_type = type }

-- Stores: functions of the host of these types and these functions; and core instances, with a memory of these bytes each, which all
-- have all functions, each at the index that is its address.
abbrev pub instances_from : ℕ → ℕ → List (List ℕ) → List Instance
instances_from i count [] = []
instances_from i count (bytes ∷ memories) =
    record { types = []; funcs = range_with_len 0 count; tables = []; memories = i ∷ []; globals = [] } ∷ instances_from (i + 1) count memories

abbrev pub store_of : List core.FuncType → List Function → List (List ℕ) → Store
store_of hosts funcs memories = record {
  funcs = map stores.Host hosts ++ funcs;
  tables = [];
  memories = map (λ bytes. record { bytes = bytes; maximum = None }) memories;
  globals = [];
  instances = instances_from 0 (length hosts + length funcs) memories;
}

-- Worlds: so many component instances have begun, and nothing has been called.
abbrev pub instantiated : ℕ → Store → World
instantiated count s = record {
  store = s;
  insts = replicate count new_inst;
  tasks = new_task Init Nobody Exited ∷ [];
  streams = [];
  futures = [];
  chain = [];
  control = Free;
  units = 0;
  picks = 0;
  taken = 0;
}

-- The only item is taken: task 1 acts, and its core function, which lifts without `async` to a function of nothing, has this left.
abbrev pub run_name : List ℕ
run_name = codes "run"

abbrev pub running : Expr → Task
running body = record (new_task (Func (record { instance = 0; core = core_func 0 0; options = no_options; func_type = of_nothing })) (Host 1 []) Acting) {
  stacks = start (own 0 (words 0 0) body) 0 [] ∷ [];
}

abbrev pub acting : Expr → World → World
acting body w = record w { tasks = w.tasks ++ running body ∷ []; chain = 1 ∷ []; control = Runs; taken = 1 }

-- Scripts.
abbrev pub script_of : List Item → Script
script_of items = record { fuel = 100; items = items; picks = [] }

abbrev pub call : List ℕ → Item
call name = item.Call (record { name = name; values = [] })

abbrev pub one_call : Script
one_call = script_of (call run_name ∷ [])

-- From a world the run has these lines and this end, where so many units are used.
pub record Shows (g : Graph) (s : Script) (w : World) (labels : List Label) (end : RunEnd) (units : ℕ) : Type 0 where
  pub last : World
  pub runs : RunsFrom g s w labels last end
  pub used : last.units ≡ units

-- The same, and what is left in the tables and the memories.
pub record Leaves (g : Graph) (s : Script) (w : World) (labels : List Label) (end : RunEnd) (units : ℕ) (instances : List (List LiveEntry)) (memories : List (List ℕ)) : Type 0 where
  pub last : World
  pub runs : RunsFrom g s w labels last end
  pub used : last.units ≡ units
  pub tables : dumped_instances last ≡ instances
  pub bytes : dumped_memories last ≡ memories
