-- What a run does next (Component Model, CanonicalABI.md, `canon lift`, `canon lower` and the built-ins; Concurrency.md): of all that a
-- world has this alone may hold functions, those of a lowering that is half done.
use Rattle.std.specs.Prelude.{ℕ, List, Option}
use Rattle.wasm_store.specs.Stack.{Stack}
use Rattle.syntax_trees.specs.declared.value.Value.{Value}
use Rattle.stream_ends.specs.declared.side.Side.{Side}
use Rattle.builtin_kinds.specs.declared.EndKind.{EndKind}
use Rattle.trace_labels.specs.declared.trap.TrapName.{TrapName}
use Rattle.abi_machine.specs.LoweringOver.{Plan}

-- An end: the readable or writable one of a stream or a future, by its number, counted from 1.
pub record EndRef : Type 0 where
  pub kind : EndKind
  pub number : ℕ
  pub side : Side

-- what a task does when its result has reached its caller: it goes on behind `task.return`, or its core function has ended with these
-- words
pub data After : Type 0 where
  Replies : After
  Finishes : List ℕ → After

-- A copy that is half done: the end of the call, how many elements the call has room for or offers, and what is copied, a value for each
-- element that holds anything.
pub record Copying : Type 0 where
  pub end : EndRef
  pub length : ℕ
  pub values : List (Option Value)

-- what follows a lowering
pub data Then : Type 0 where
  -- of arguments: the acting task's core function starts with the words
  Starts : Then
  -- of the result of the task of this number: its words are kept for the caller, or it stands at the caller's place
  Resolves : ℕ → After → Then
  -- of elements: they are copied
  Transfers : Copying → Then

-- A lowering, without what is left of its plan: the component instance into which values are lowered, the addresses of its memory
-- and of the function that gives places in it, the task that it acts for, the task that a trap names, and what follows.
pub record Lowering : Type 0 where
  pub inst : ℕ
  pub memory : Option ℕ
  pub realloc : Option ℕ
  pub acts_for : ℕ
  pub blame : ℕ
  pub next : Then

-- where a stack is whose calls of functions of the host are answered in place
pub data HostedState : Type 0 where
  Going : Stack → HostedState
  -- It waits at a call: of the function of the host with this number, with these words.
  AtCall : ℕ → List ℕ → Stack → HostedState

-- Nested code, on a stack of its own: where it is, the component instance whose code it is, the task that it acts for and the task
-- that a trap names.
pub record Nested : Type 0 where
  pub state : HostedState
  pub inst : ℕ
  pub acts_for : ℕ
  pub blame : ℕ

-- what follows nested code
pub data Behind : Type 0 where
  -- of a realloc: the lowering goes on with the place that it gives
  InLowering : Lowering → (ℕ → Plan) → Behind
  -- of a post-return: the acting task exits
  BeforeLeaving : Behind

-- what an event is: none, the state of a subtask, what came of a read or write, or that a task's cancellation is asked
pub data EventCode : Type 0 where
  NoEvent : EventCode
  SubtaskEvent : EventCode
  StreamRead : EventCode
  StreamWrite : EventCode
  FutureRead : EventCode
  FutureWrite : EventCode
  TaskCancelled : EventCode

-- what gets an event: the wait of a task at a call of this canonical function with these words, or its callback
pub data Receiver : Type 0 where
  InWait : ℕ → List ℕ → Receiver
  InCallback : Receiver

pub data Control : Type 0 where
  -- no task runs
  Free : Control
  -- of several alternatives this one was picked
  Chosen : ℕ → Control
  -- task 0 is at this action of the graph's plan
  Instantiates : ℕ → Control
  -- the acting task's stack makes a move
  Runs : Control
  -- it waits at a call: of the canonical function of this number, with these words
  Calls : ℕ → List ℕ → Control
  -- the acting task is new
  Arrives : Control
  -- this is left of the plan of a lowering
  Lowers : Lowering → Plan → Control
  -- nested code runs
  Quiet : Nested → Behind → Control
  -- control is back at the acting task, which called or cancelled another one
  Back : Control
  -- the acting task was blocked, and is to go on
  Goes : Control
  -- it goes on, by what it was blocked at
  Resumes : Control
  -- an event of a ready member of the set of this number comes to it; of several members this one was picked
  Delivers : ℕ → Receiver → Option ℕ → Control
  -- the acting task exits
  Leaves : Control
  -- the run ends in this trap of the task of this number
  Doomed : ℕ → TrapName → Control
