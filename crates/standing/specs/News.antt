-- What has news (Component Model, Concurrency.md, "Waitables and Waitable Sets"): the ready members of a set are the same on both sides where what is
-- kept says right who waits directly for a subtask, and where a copy is waited for directly exactly if its call does not go on before it is done.
use Rattle.std.specs.Prelude.{◌≡◌, ℕ, true, not, List, Some, IsSome}
use Rattle.std.specs.List.{slice_get}
use Rattle.syntax_trees.specs.declared.types.ValType.{ValType}
use Rattle.wasm_store.specs.Stack.{Stack}
use Rattle.stream_ends.specs.Ends.{is_pending}
use Rattle.tasks.specs.Tasks.{state_of}
use Rattle.comp_graph.specs.Graph.{Graph}
use Rattle.script_reader.specs.Script.{Script}
use Rattle.instances.specs.declared.entry.WorldEntry.TheVariants as entry
use Rattle.instances.specs.Instances.{InstanceView, entry_of}
use Rattle.task_table.specs.declared.caller.Called.{Called}
use Rattle.task_table.specs.declared.caller.Caller.TheVariants as by
use Rattle.task_table.specs.declared.slot.TaskSlot.{TaskSlot}
use Rattle.world_parts.specs.Views.{Views}
use Rattle.world_parts.specs.Held.{Held}
use Rattle.abi_machine.specs.Control.{EndRef}
use Rattle.abi_machine.specs.World.{OfEnd, World}
use Rattle.abi_machine.specs.Reading.{entry_at}
use Rattle.abi_machine.specs.Counting.{passes, end_of, is_waited_for}
use Rattle.abi_machine.specs.replies.Streams.{is_async_copy}
use Rattle.standing.specs.Stands.{Stands}
use Rattle.standing.specs.Channels.{HasMarkedEnds}
use Rattle.standing.specs.Ends.{Sees}
use Rattle.standing.specs.Waits.{ReadyAlike}

-- Of the call of a subtask in a table its state is kept, and whether a task waits for it directly, by its index.
abbrev pub KeepsWho : Held → World → ℕ → Type 0
KeepsWho h w at =
    (index callee : ℕ) (i : InstanceView) (slot : TaskSlot) (called : Called) → slice_get h.instances at ≡ Some i → entry_of i index ≡ Some (entry.Subtask callee)
    → slice_get h.tasks callee ≡ Some slot → slot.caller ≡ by.Guest called → (called.subtask.state ≡ state_of slot.task) × (called.is_awaited ≡ is_waited_for w at index)

-- A copy whose end is to be told is waited for directly exactly where its call waits.
abbrev pub CopiesWait : Graph → World → ℕ → Type 0
CopiesWait g w at =
    (index : ℕ) (e : EndRef) → entry_at w at index ≡ Some (OfEnd e) → is_pending (end_of w e) ≡ true
    → passes (is_async_copy g) (end_of w e).copy ≡ not (is_waited_for w at index)

-- The ready members of a set are the same.
abbrev pub ReadyIsAlike : Type 0
ReadyIsAlike =
    (g : Graph) (values : List ValType) (s : Script) (v : Views) (h : Held) (stacks : List (List Stack)) (w : World) (at set : ℕ)
    → Sees g v → IsSome (slice_get w.insts at) → HasMarkedEnds h → KeepsWho h w at → CopiesWait g w at → Stands g values s h stacks w → ReadyAlike v h w at set
