-- Worlds (Component Model, CanonicalABI.md, "Component Instance State", "Task State", "Subtask State", "Waitable Set State", "Stream
-- State" and "Future State"; Concurrency.md): what a run has so far. Things are numbered in the order in which they are made: tasks
-- from 0 on, where task 0 instantiates; component instances and the sets of each from 0 on, though lines count instances from 1;
-- resources, streams and futures from 1 on. What follows from the rest is not kept: lends, borrows, states of subtasks, who holds
-- exclusive entry, events, may-leave. A canonical function is a core function that the Canonical ABI makes (`canon`): a function that is
-- lowered, or a built-in.
use Rattle.std.specs.Prelude.{ℕ, List, [], ◌∷◌, map, Option, None}
use Rattle.wasm_store.specs.Store as stores
use Rattle.wasm_store.specs.Store.{Store}
use Rattle.wasm_store.specs.Stack.{Stack}
use Rattle.wasm_store.specs.Instantiation.{empty}
use Rattle.syntax_trees.specs.declared.types.ValType.{ValType}
use Rattle.syntax_trees.specs.declared.value.Value.{Value}
use Rattle.handle_table.specs.History.{Event}
use Rattle.stream_ends.specs.Ends.{Ends}
use Rattle.stream_ends.specs.Closed.{new_ends}
use Rattle.tasks.specs.declared.phase.Resolution.{Resolution}
use Rattle.tasks.specs.declared.phase.Cancellation.{Cancellation}
use Rattle.tasks.specs.declared.phase.Cancellation.TheVariants.{NotAsked}
use Rattle.tasks.specs.declared.subtask_state.SubtaskState.{SubtaskState}
use Rattle.comp_graph.specs.Graph.{Graph, Lifted, canon_type}
use Rattle.abi_machine.specs.Control.{EndRef, Control, Instantiates}

-- what stands in a table: an own handle of a resource with a representation, a borrow handle of a task, the subtask that a task is, a
-- set, or an end
pub data Entry : Type 0 where
  OwnHandle : ℕ → ℕ → Entry
  BorrowHandle : ℕ → ℕ → ℕ → Entry
  OfSubtask : ℕ → Entry
  OfSet : ℕ → Entry
  OfEnd : EndRef → Entry

-- A component instance: all adds to its table and removals so far, the latest first; the members of each set that was made here, by
-- the time of joining, as indices of the table; and the backpressure.
pub record Inst : Type 0 where
  pub table : List (Event Entry)
  pub sets : List (List ℕ)
  pub backpressure : ℕ

-- what a task does: it instantiates, runs a function, or runs the destructor of the resource of this number, as a function of the
-- representation
pub data Callee : Type 0 where
  Init : Callee
  Func : Lifted → Callee
  Destroys : ℕ → Lifted → Callee

-- The caller's side of a call of a task by another one, kept with the task that is called: the task that calls, the number of the
-- canonical function by which it calls, and the words that it passes; the state of the subtask that it was told last; the caller's
-- handles that are lent for the call, by time; and the core values of the result.
pub record Subtask : Type 0 where
  pub by : ℕ
  pub canon : ℕ
  pub words : List ℕ
  pub told : SubtaskState
  pub lends : List ℕ
  pub result : List ℕ

pub data Caller : Type 0 where
  -- of the task that instantiates
  Nobody : Caller
  -- the script's call of this number, counted from 1, with these arguments
  Host : ℕ → List Value → Caller
  Guest : Subtask → Caller

-- what a task waits for in a built-in: to go on after others, an event of the set at an index, the task that it called, the copy of the end
-- at an index, or the cancelled subtask at an index
pub data Wait : Type 0 where
  ForYield : Wait
  ForSet : ℕ → Wait
  ForCall : ℕ → Wait
  ForCopy : ℕ → Wait
  ForCancel : ℕ → Wait

pub data TaskState : Type 0 where
  -- On the chain: it was made, and has not entered.
  New : TaskState
  Acting : TaskState
  -- It called the task of this number, by this canonical function with these words, and goes on when control is back.
  AfterCall : ℕ → ℕ → List ℕ → TaskState
  -- the same where it cancelled the task
  AfterCancel : ℕ → ℕ → List ℕ → TaskState
  -- of task 0: a start function runs, and behind it comes the action of this number
  Begins : ℕ → TaskState
  -- Off the chain: blocked at its entry, in its loop after its core function or its callback gave this word, or in a canonical function
  -- that was called with these words.
  WaitsToEnter : TaskState
  InLoop : ℕ → TaskState
  InBuiltin : ℕ → List ℕ → Wait → TaskState
  Exited : TaskState

-- The stacks of a task are those of its core functions, the acting one first: under it wait those whose `resource.drop` runs a
-- destructor. A task has two words of context.
pub record Task : Type 0 where
  pub callee : Callee
  pub caller : Caller
  pub stacks : List Stack
  pub context : ℕ × ℕ
  pub resolution : Option Resolution
  pub cancellation : Cancellation
  pub state : TaskState

-- A stream or a future: the type of its elements, where they hold anything; the elements written and those read, each a value where it holds
-- anything; and its ends with their copies.
pub record Channel : Type 0 where
  pub element : Option ValType
  pub written : List (Option Value)
  pub read : List (Option Value)
  pub ends : Ends

-- The store of all core instances; the component instances that have begun; the tasks by their numbers; the streams and the futures;
-- the numbers of the running tasks, the acting one first; what the run does next; and how many units of fuel and how many picks are
-- used, and how many items of the script are taken.
pub record World : Type 0 where
  pub store : Store
  pub insts : List Inst
  pub tasks : List Task
  pub streams : List Channel
  pub futures : List Channel
  pub chain : List ℕ
  pub control : Control
  pub units : ℕ
  pub picks : ℕ
  pub taken : ℕ

-- The canonical functions stand first in the store: that of number k has address k.
abbrev pub first_store : Graph → Store
first_store g = record empty { funcs = map (λ c. stores.Host (canon_type c)) g.canons }

-- an instance that begins, a task that is made, and a stream or future
abbrev pub new_inst : Inst
new_inst = record { table = []; sets = []; backpressure = 0 }

abbrev pub new_task : Callee → Caller → TaskState → Task
new_task callee caller state =
    record { callee = callee; caller = caller; stacks = []; context = (0, 0); resolution = None; cancellation = NotAsked; state = state }

abbrev pub new_channel : Option ValType → Channel
new_channel element = record { element = element; written = []; read = []; ends = new_ends }

-- before a graph is instantiated
abbrev pub first_world : Graph → World
first_world g = record {
  store = first_store g;
  insts = [];
  tasks = new_task Init Nobody Acting ∷ [];
  streams = [];
  futures = [];
  chain = 0 ∷ [];
  control = Instantiates 0;
  units = 0;
  picks = 0;
  taken = 0;
}
