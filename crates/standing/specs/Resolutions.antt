-- How tasks resolve, and are cancelled (Component Model, CanonicalABI.md, `canon task.return`, `canon task.cancel`, `canon subtask.cancel`;
-- Concurrency.md, "Cancellation"): what is kept does what the machine does.
use Rattle.std.specs.Prelude.{◌≡◌, ℕ, nat_lt, true, List, Option, Some, IsSome}
use Rattle.std.specs.List.{slice_get}
use Rattle.syntax_trees.specs.declared.types.ValType.{ValType}
use Rattle.wasm_store.specs.Stack.{Stack}
use Rattle.tasks.specs.Tasks.{may_cancel}
use Rattle.comp_graph.specs.declared.graph.Builtin.{Builtin}
use Rattle.comp_graph.specs.declared.graph.BuiltinKind.TheVariants as kind
use Rattle.comp_graph.specs.declared.graph.CanonFunc.TheVariants as canon
use Rattle.comp_graph.specs.declared.graph.Options.{Options}
use Rattle.comp_graph.specs.Graph.{Graph, Lifted}
use Rattle.script_reader.specs.Script.{Script}
use Rattle.instances.specs.declared.entry.WorldEntry.TheVariants as entry
use Rattle.instances.specs.Instances.{InstanceView}
use Rattle.task_table.specs.declared.slot.TaskSlot.{TaskSlot}
use Rattle.world_parts.specs.declared.parts.Rest.{Rest}
use Rattle.world_parts.specs.declared.parts.Rest.TheVariants as rest
use Rattle.world_parts.specs.Held.{Held}
use Rattle.world_parts.specs.Plain.{return_asked, task_cancel}
use Rattle.world_parts.specs.Slots.{word_in}
use Rattle.world_parts.specs.Subtasks.{cancelled, subtask_cancel}
use Rattle.abi_machine.specs.Control.{Control}
use Rattle.abi_machine.specs.World.{Acting, AfterCancel, WaitsToEnter, Task, World}
use Rattle.abi_machine.specs.Edits.{in_state}
use Rattle.abi_machine.specs.Canons.{canon_at}
use Rattle.abi_machine.specs.Counting.{borrows_of, task_view}
use Rattle.abi_machine.specs.Reading.{func_of}
use Rattle.abi_machine.specs.Cancelling.{cancelled_turn}
use Rattle.abi_machine.specs.replies.Tasks.{return_turn, task_cancel_turn}
use Rattle.abi_machine.specs.replies.Subtasks.{subtask_cancel_turn}
use Rattle.standing.specs.Stands.{Stands}
use Rattle.standing.specs.Agreeing.{control_of, Agrees}
use Rattle.standing.specs.Marks.{StateMarked}
use Rattle.standing.specs.Moves.{KeepsGate, StandsAt}

-- What is kept beside a task that is there: its borrow handles as they are counted, the state that its caller sees, and the words of its call.
abbrev pub KeepsBorrows : Held → World → ℕ → Type 0
KeepsBorrows h w t = (slot : TaskSlot) → slice_get h.tasks t ≡ Some slot → slot.task.borrows ≡ borrows_of w t

abbrev pub KeepsState : Held → ℕ → Type 0
KeepsState h t = (slot : TaskSlot) → slice_get h.tasks t ≡ Some slot → StateMarked t slot

abbrev pub HasWords : Held → ℕ → List ℕ → Type 0
HasWords h t words = (slot : TaskSlot) → slice_get h.tasks t ≡ Some slot → slot.at_words ≡ words

-- `task.return`, up to where its type and its options are tested.
abbrev pub TaskReturns : Type 0
TaskReturns =
    (g : Graph) (values : List ValType) (s : Script) (h : Held) (stacks : List (List Stack)) (w : World) (t number : ℕ) (task : Task) (b : Builtin) (options : Options)
    (words : List ℕ) (result : Option ValType)
    → slice_get w.chain 0 ≡ Some t → slice_get w.tasks t ≡ Some task → task.state ≡ Acting → canon_at g number ≡ Some (canon.Builtin b) → b.kind ≡ kind.TaskReturn result options
    → h.rest ≡ rest.Calls number → HasWords h t words → Stands g values s h stacks w
    → Agrees g values s t h.labels stacks (return_asked t h) (return_turn g t task b.instance result options words w)

-- `task.cancel`
abbrev pub TaskCancels : Type 0
TaskCancels =
    (g : Graph) (values : List ValType) (s : Script) (h : Held) (stacks : List (List Stack)) (w : World) (t : ℕ) (task : Task)
    → slice_get w.tasks t ≡ Some task → task.state ≡ Acting → KeepsBorrows h w t → KeepsState h t → Stands g values s h stacks w
    → Agrees g values s t h.labels stacks (task_cancel t h) (task_cancel_turn g t task w)

-- That a task come to an end is asked of it, by one that acts or by the script. Where it waits to enter its gate counts that.
abbrev pub WaitIsCounted : Held → ℕ → Task → Type 0
WaitIsCounted h at task = task.state ≡ WaitsToEnter → (i : InstanceView) → slice_get h.instances at ≡ Some i → nat_lt 0 i.gate.waiting ≡ true

abbrev pub EndIsAsked : Type 0
EndIsAsked =
    (g : Graph) (values : List ValType) (s : Script) (h : Held) (stacks : List (List Stack)) (w : World) (acting t : ℕ) (task : Task) (f : Lifted) (behind : Rest) (control : Control)
    → slice_get w.tasks t ≡ Some task → func_of task.callee ≡ Some f → IsSome (slice_get w.insts f.instance) → may_cancel (task_view g w t task) ≡ true
    → KeepsGate h w f.instance → KeepsState h t → WaitIsCounted h f.instance task → ((words : List ℕ) → control_of words behind ≡ control) → Stands g values s h stacks w
    → Agrees g values s acting h.labels stacks (cancelled t behind h) (cancelled_turn g t task control w)

-- `subtask.cancel`, of the subtask at an index: it is another task, which runs a function of an instance that is there. Its gate is kept as it
-- follows from the tasks, where the one that asks waits for control.
pub record MayBeAsked (h : Held) (w : World) (t callee : ℕ) : Type 0 where
  pub apart : callee ≡ t → ⊥
  pub state : KeepsState h callee
  pub func : (task : Task) → slice_get w.tasks callee ≡ Some task
      → (f : Lifted) × (func_of task.callee ≡ Some f) × IsSome (slice_get w.insts f.instance) × KeepsGate h w f.instance × WaitIsCounted h f.instance task

abbrev pub SubtaskIsAsked : Type 0
SubtaskIsAsked =
    (g : Graph) (values : List ValType) (s : Script) (h : Held) (stacks : List (List Stack)) (w : World) (t at number word : ℕ) (words : List ℕ) (task : Task)
    → word_in words 0 ≡ Some word → slice_get w.tasks t ≡ Some task → task.state ≡ Acting → IsSome (slice_get w.insts at)
    → ((callee : ℕ) → StandsAt h at word (entry.Subtask callee) → MayBeAsked h (in_state t (AfterCancel callee number words) w) t callee) → Stands g values s h stacks w
    → Agrees g values s t h.labels stacks (subtask_cancel t at number words h) (subtask_cancel_turn g t at number words w)
