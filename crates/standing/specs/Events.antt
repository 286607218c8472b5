-- Events (Component Model, CanonicalABI.md, "Waitable Set State", `canon waitable-set.{wait,poll}`, `canon lift`; Concurrency.md, "Waitables and Waitable
-- Sets"): where one comes to a task, or none, what is kept does what the machine does in one turn or in some, one behind the other.
use Rattle.std.specs.Prelude.{◌≡◌, ◌≤◌, ℕ, zero, suc, ◌+◌, true, List, length, Option, Some, None}
use Rattle.std.specs.List.{slice_get}
use Rattle.std.specs.Option.{option_and_then}
use Rattle.syntax_trees.specs.declared.types.ValType.{ValType}
use Rattle.wasm_store.specs.Stack.{Stack}
use Rattle.tasks.specs.Tasks.{is_asked}
use Rattle.comp_graph.specs.declared.graph.FuncRef.{FuncRef}
use Rattle.comp_graph.specs.declared.graph.Lift.{Lift}
use Rattle.comp_graph.specs.Graph.{Graph, Lifted}
use Rattle.script_reader.specs.Script.{Script}
use Rattle.trace_labels.specs.declared.label.Label.{Label}
use Rattle.task_table.specs.declared.errand.Callee as runs
use Rattle.world_parts.specs.declared.parts.Flow.{Flow}
use Rattle.world_parts.specs.declared.parts.Receiver as kept
use Rattle.world_parts.specs.declared.parts.Receiver.TheVariants as receiver
use Rattle.world_parts.specs.Views.{Views}
use Rattle.world_parts.specs.Held.{Held, Done}
use Rattle.world_parts.specs.Events.{received_none, received_cancel}
use Rattle.abi_machine.specs.Control.{Receiver}
use Rattle.abi_machine.specs.World.{Task, World}
use Rattle.abi_machine.specs.Canons.{options_at, memory_of, bytes_of}
use Rattle.abi_machine.specs.Reading.{func_of}
use Rattle.abi_machine.specs.Turn.{Turn, Steps, behind}
use Rattle.abi_machine.specs.Delivering as machine
use Rattle.abi_machine.specs.Next.{next}
use Rattle.standing.specs.Tasks.{callee_of}
use Rattle.standing.specs.Stands.{Stands}
use Rattle.standing.specs.Agreeing.{Receives, Agrees}
use Rattle.standing.specs.Ends.{Sees, HasMemory}

-- So it is of what comes so many turns behind a turn, with the lines of all of them in front.
abbrev pub Behind : Graph → Script → (Turn → Type 0) → ℕ → Turn → Type 0
Behind g s P zero turn = P turn
Behind g s P (suc n) turn = (lines : List Label) × (v : World) × (turn ≡ Steps lines v) × Behind g s P n (behind lines (next g s v))

-- What a part comes to agrees with a turn and those behind it.
abbrev pub AgreesOn : Graph → List ValType → Script → ℕ → List Label → List (List Stack) → Done Flow → Turn → Type 0
AgreesOn g values s t before stacks d turn = (n : ℕ) × Behind g s (Agrees g values s t before stacks d) n turn

-- The callback of what a task runs is told as the graph has it.
abbrev pub callback_in : Option Lift → Option FuncRef
callback_in None = None
callback_in (Some lift) = lift.options.callback

abbrev pub SeesCallbacks : Graph → Views → Type 0
SeesCallbacks g v = (callee : runs.Callee) (f : Lifted) → option_and_then func_of (callee_of g callee) ≡ Some f → callback_in (v.lift callee) ≡ f.options.callback

-- Where an event comes at a wait its eight bytes are inside the memory.
abbrev pub HasPlace : Graph → Held → World → kept.Receiver → Type 0
HasPlace g h w (receiver.InWait canon place) = HasMemory h w (options_at g canon) × (place + 8 ≤ length (bytes_of w.store (memory_of w.store (options_at g canon))))
HasPlace g h w receiver.InCallback = Unit {0}

-- what is known of a task to which an event comes, and of what gets it
pub record Hears (g : Graph) (v : Views) (h : Held) (w : World) (t : ℕ) (f : Lifted) (r : kept.Receiver) (to : Receiver) : Type 0 where
  pub sees : Sees g v
  pub callbacks : SeesCallbacks g v
  pub task : Task
  pub there : slice_get w.tasks t ≡ Some task
  pub runs : func_of task.callee ≡ Some f
  pub receives : Receives r to
  pub place : HasPlace g h w r

-- No event comes, or that of its cancellation, where this is asked.
abbrev pub NothingIsHeard : Type 0
NothingIsHeard =
    (g : Graph) (values : List ValType) (s : Script) (v : Views) (h : Held) (stacks : List (List Stack)) (w : World) (t : ℕ) (f : Lifted) (r : kept.Receiver) (to : Receiver)
    → Hears g v h w t f r to → Stands g values s h stacks w
    → Agrees g values s t h.labels stacks (received_none v t r h) (machine.received_none g t f to w)

abbrev pub CancelIsHeard : Type 0
CancelIsHeard =
    (g : Graph) (values : List ValType) (s : Script) (v : Views) (h : Held) (stacks : List (List Stack)) (w : World) (t : ℕ) (f : Lifted) (r : kept.Receiver) (to : Receiver) (task : Task)
    → Hears g v h w t f r to → slice_get w.tasks t ≡ Some task → is_asked task.cancellation ≡ true → Stands g values s h stacks w
    → Agrees g values s t h.labels stacks (received_cancel v t r h) (machine.received_cancel g t f to w)
