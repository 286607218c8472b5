-- Moves of the acting task (Component Model, CanonicalABI.md, "Task State": `Task.enter`; `canon lift`, `canon lower`, `canon subtask.cancel`;
-- Concurrency.md, "Summary"): a new task enters or waits to, a blocked one goes on, and control is back at one that called or cancelled another:
-- what is kept does what the machine does.
use Rattle.std.specs.Prelude.{◌≡◌, ℕ, ◌&&◌, nat_lt, true, List, [], ◌∷◌, Some, IsSome, Ok}
use Rattle.std.specs.List.{slice_get}
use Rattle.syntax_trees.specs.declared.types.ValType.{ValType}
use Rattle.wasm_store.specs.Stack.{Stack}
use Rattle.entry_gate.specs.Callbacks.{callback_of}
use Rattle.entry_gate.specs.declared.callback.Next.{Next}
use Rattle.entry_gate.specs.declared.callback.Next.TheVariants as next
use Rattle.tasks.specs.Tasks.{state_of}
use Rattle.tasks.specs.Subtasks.{is_over}
use Rattle.comp_graph.specs.Graph.{Graph, Lifted}
use Rattle.script_reader.specs.Script.{Script}
use Rattle.instances.specs.declared.entry.WorldEntry.{WorldEntry}
use Rattle.instances.specs.declared.entry.WorldEntry.TheVariants as entry
use Rattle.instances.specs.Instances.{InstanceView, entry_of, lends_of, given_back}
use Rattle.instances.specs.Calls.{is_there, has_waiter}
use Rattle.task_table.specs.declared.caller.Called.{Called}
use Rattle.task_table.specs.declared.caller.Caller.TheVariants as by
use Rattle.task_table.specs.declared.slot.TaskSlot.{TaskSlot}
use Rattle.world_parts.specs.Held.{Held}
use Rattle.world_parts.specs.Views.{Views}
use Rattle.world_parts.specs.Slots.{word_in}
use Rattle.world_parts.specs.Calls.{back}
use Rattle.world_parts.specs.Going.{arrives, resumes}
use Rattle.abi_machine.specs.World.{ForYield, ForSet, ForCall, ForCancel, New, AfterCall, AfterCancel, WaitsToEnter, InLoop, InBuiltin, Task, World}
use Rattle.abi_machine.specs.Canons.{options_at, flag_at}
use Rattle.abi_machine.specs.Reading.{func_of}
use Rattle.abi_machine.specs.Gate.{gate_of}
use Rattle.abi_machine.specs.Entering.{arriving_turn}
use Rattle.abi_machine.specs.Delivering.{resuming_turn}
use Rattle.abi_machine.specs.Cancelling.{back_turn}
use Rattle.standing.specs.Stands.{Stands}
use Rattle.standing.specs.Agreeing.{Agrees}

-- The acting task, which runs a function of a component instance that is there.
pub record Acts (w : World) (t : ℕ) (task : Task) (f : Lifted) : Type 0 where
  pub first : slice_get w.chain 0 ≡ Some t
  pub there : slice_get w.tasks t ≡ Some task
  pub runs : func_of task.callee ≡ Some f
  pub inside : IsSome (slice_get w.insts f.instance)

-- Who holds and who waits for exclusive entry is kept as it follows from the tasks.
abbrev pub KeepsGate : Held → World → ℕ → Type 0
KeepsGate h w at = (i : InstanceView) → slice_get h.instances at ≡ Some i → i.gate ≡ gate_of w at

-- A new task enters, or waits to.
abbrev pub TaskArrives : Type 0
TaskArrives =
    (g : Graph) (values : List ValType) (s : Script) (h : Held) (stacks : List (List Stack)) (w : World) (t : ℕ) (task : Task) (f : Lifted)
    → Acts w t task f → task.state ≡ New → KeepsGate h w f.instance → Stands g values s h stacks w
    → Agrees g values s t h.labels stacks (arrives h) (arriving_turn g w)

-- One that waited to enters.
abbrev pub EntryResumes : Type 0
EntryResumes =
    (g : Graph) (values : List ValType) (s : Script) (h : Held) (stacks : List (List Stack)) (w : World) (t : ℕ) (task : Task) (f : Lifted)
    → Acts w t task f → task.state ≡ WaitsToEnter → Stands g values s h stacks w
    → Agrees g values s t h.labels stacks (resumes h) (resuming_turn g w)

-- At this index of an instance a set stands on which a task is kept to wait.
abbrev pub IsWaitedOn : Held → ℕ → ℕ → Type 0
IsWaitedOn h at index =
    (i : InstanceView) → slice_get h.instances at ≡ Some i
    → (set : ℕ) × (entry_of i index ≡ Some (entry.Set set)) × ((is_there set i.sets && has_waiter set i.sets) ≡ true)

-- One that was blocked in its loop goes on: the event of its cancellation comes, or of a member of its set, or none.
abbrev pub LoopsAt : Held → ℕ → Next → Type 0
LoopsAt h at next.Exit = ⊥
LoopsAt h at next.Yield = Unit {0}
LoopsAt h at (next.Wait index) = IsWaitedOn h at index
LoopsAt h at (next.Poll index) = IsWaitedOn h at index

abbrev pub LoopResumes : Type 0
LoopResumes =
    (g : Graph) (values : List ValType) (s : Script) (h : Held) (stacks : List (List Stack)) (w : World) (t : ℕ) (task : Task) (f : Lifted) (word : ℕ) (next : Next)
    → Acts w t task f → task.state ≡ InLoop word → callback_of word ≡ Ok next → LoopsAt h f.instance next → Stands g values s h stacks w
    → Agrees g values s t h.labels stacks (resumes h) (resuming_turn g w)

-- One that let others run goes on in `yield`.
abbrev pub YieldResumes : Type 0
YieldResumes =
    (g : Graph) (values : List ValType) (s : Script) (h : Held) (stacks : List (List Stack)) (w : World) (t : ℕ) (task : Task) (f : Lifted) (number : ℕ) (words : List ℕ)
    → Acts w t task f → task.state ≡ InBuiltin number words ForYield → KeepsGate h w f.instance → Stands g values s h stacks w
    → Agrees g values s t h.labels stacks (resumes h) (resuming_turn g w)

-- One that waited for an event of a set. It has kept the place of the call.
abbrev pub KeepsPlace : Held → ℕ → List ℕ → Type 0
KeepsPlace h t words = (slot : TaskSlot) → slice_get h.tasks t ≡ Some slot → (place : ℕ) × (word_in slot.at_words 1 ≡ Some place) × (word_in words 1 ≡ Some place)

abbrev pub SetResumes : Type 0
SetResumes =
    (g : Graph) (values : List ValType) (s : Script) (h : Held) (stacks : List (List Stack)) (w : World) (t : ℕ) (task : Task) (f : Lifted) (number index : ℕ) (words : List ℕ)
    → Acts w t task f → task.state ≡ InBuiltin number words (ForSet index) → KeepsGate h w f.instance → KeepsPlace h t words → IsWaitedOn h f.instance index
    → Stands g values s h stacks w
    → Agrees g values s t h.labels stacks (resumes h) (resuming_turn g w)

-- Handles of an instance are lent often enough to be given back, one after the other.
abbrev pub GivesBack : List ℕ → InstanceView → Type 0
GivesBack [] i = Unit {0}
GivesBack (handle ∷ handles) i = (nat_lt 0 (lends_of i handle) ≡ true) × GivesBack handles (given_back handle i)

-- Of the call of a task it is kept what its caller is told next; all that is lent for it can be given back in the caller's instance; and a call that
-- was told to be over has given it back.
pub record CallKept (h : Held) (at callee : ℕ) (slot : TaskSlot) (called : Called) : Type 0 where
  pub there : slice_get h.tasks callee ≡ Some slot
  pub guest : slot.caller ≡ by.Guest called
  pub marked : called.subtask.state ≡ state_of slot.task
  pub lent : (i : InstanceView) → slice_get h.instances at ≡ Some i → GivesBack called.subtask.lends i
  pub over : is_over called.subtask.told ≡ true → called.subtask.lends ≡ []

-- One that waited for the task that it called, and for the subtask at an index, which it cancelled.
abbrev pub CallResumes : Type 0
CallResumes =
    (g : Graph) (values : List ValType) (s : Script) (h : Held) (stacks : List (List Stack)) (w : World) (t : ℕ) (task : Task) (f : Lifted) (number callee : ℕ)
    (words : List ℕ) (slot : TaskSlot) (called : Called)
    → Acts w t task f → task.state ≡ InBuiltin number words (ForCall callee) → (callee ≡ t → ⊥) → CallKept h f.instance callee slot called → Stands g values s h stacks w
    → Agrees g values s t h.labels stacks (resumes h) (resuming_turn g w)

abbrev pub StandsAt : Held → ℕ → ℕ → WorldEntry → Type 0
StandsAt h at index e = (i : InstanceView) → slice_get h.instances at ≡ Some i → entry_of i index ≡ Some e

abbrev pub CancelResumes : Type 0
CancelResumes =
    (g : Graph) (values : List ValType) (s : Script) (h : Held) (stacks : List (List Stack)) (w : World) (t : ℕ) (task : Task) (f : Lifted) (number index callee : ℕ)
    (words : List ℕ) (slot : TaskSlot) (called : Called)
    → Acts w t task f → task.state ≡ InBuiltin number words (ForCancel index) → (callee ≡ t → ⊥) → StandsAt h f.instance index (entry.Subtask callee)
    → CallKept h f.instance callee slot called → Stands g values s h stacks w
    → Agrees g values s t h.labels stacks (resumes h) (resuming_turn g w)

-- Control is back at a task that called another one, or cancelled a subtask.
abbrev pub BackFromCall : Type 0
BackFromCall =
    (g : Graph) (values : List ValType) (s : Script) (v : Views) (h : Held) (stacks : List (List Stack)) (w : World) (t : ℕ) (task : Task) (f : Lifted) (number callee : ℕ)
    (words : List ℕ) (slot : TaskSlot) (called : Called)
    → v.flag number ≡ flag_at g number → v.is_async number ≡ (options_at g number).is_async → Acts w t task f → task.state ≡ AfterCall callee number words
    → (callee ≡ t → ⊥) → CallKept h f.instance callee slot called → Stands g values s h stacks w
    → Agrees g values s t h.labels stacks (back v h) (back_turn g w)

abbrev pub BackFromCancel : Type 0
BackFromCancel =
    (g : Graph) (values : List ValType) (s : Script) (v : Views) (h : Held) (stacks : List (List Stack)) (w : World) (t : ℕ) (task : Task) (f : Lifted) (number callee : ℕ)
    (words : List ℕ) (slot : TaskSlot) (called : Called)
    → v.flag number ≡ flag_at g number → Acts w t task f → task.state ≡ AfterCancel callee number words → (callee ≡ t → ⊥) → CallKept h f.instance callee slot called
    → Stands g values s h stacks w
    → Agrees g values s t h.labels stacks (back v h) (back_turn g w)
