-- `resource.drop` (Component Model, CanonicalABI.md, `canon resource.drop`, "Resource State"): a handle leaves the table, a borrow handle counts for its
-- task no more, and what an own handle owned is destroyed: in the resource's own instance on a further stack of the task, else by a call, and without a
-- destructor not at all. What is kept does what the machine does.
use Rattle.std.specs.Prelude.{◌≡◌, ℕ, nat_lt, true, List, Some, IsSome}
use Rattle.std.specs.List.{slice_get}
use Rattle.syntax_trees.specs.declared.types.ValType.{ValType}
use Rattle.wasm_store.specs.Stack.{Stack}
use Rattle.res_handles.specs.declared.handle.Handle.{Handle}
use Rattle.res_handles.specs.declared.handle.Ownership.{Ownership}
use Rattle.res_handles.specs.declared.handle.Ownership.TheVariants.{Own, Borrow}
use Rattle.comp_graph.specs.Graph.{Graph}
use Rattle.script_reader.specs.Script.{Script}
use Rattle.instances.specs.declared.entry.WorldEntry.TheVariants as entry
use Rattle.instances.specs.Instances.{InstanceView, entry_of}
use Rattle.task_table.specs.declared.slot.TaskSlot.{TaskSlot}
use Rattle.copy_replies.specs.Seen.{seen}
use Rattle.world_parts.specs.Views.{Views}
use Rattle.world_parts.specs.Held.{Held}
use Rattle.world_parts.specs.Slots.{word_in}
use Rattle.world_parts.specs.Handles.{resource_drop}
use Rattle.abi_machine.specs.World.{Acting, Task, World}
use Rattle.abi_machine.specs.Canons.{resource_at}
use Rattle.abi_machine.specs.Reading.{func_of}
use Rattle.abi_machine.specs.Counting.{lends_of}
use Rattle.abi_machine.specs.replies.Resources.{resource_drop_turn}
use Rattle.standing.specs.Stands.{Stands}
use Rattle.standing.specs.Callings.{AgreesMade, CallersRun}

-- A resource is told as the graph has it.
abbrev pub SeesResources : Graph → Views → Type 0
SeesResources g v = (number : ℕ) → v.resource number ≡ resource_at g number

abbrev pub ResourcesAreSeen : Type 0
ResourcesAreSeen = (g : Graph) → SeesResources g (seen g)

-- The task that a borrow handle names is there, and counts one at least.
abbrev pub CountsOne : List TaskSlot → ℕ → Type 0
CountsOne tasks t = (slot : TaskSlot) × (slice_get tasks t ≡ Some slot) × (nat_lt 0 slot.task.borrows ≡ true)

abbrev pub IsCounted : List TaskSlot → Ownership → Type 0
IsCounted tasks Own = Unit {0}
IsCounted tasks (Borrow task) = CountsOne tasks task

-- What is kept beside the handle at an index: it is lent as often as the machine counts, and as a borrow handle it is among those of its task.
pub record HandleKept (tasks : List TaskSlot) (w : World) (at index : ℕ) (x : Handle) : Type 0 where
  pub lends : x.lends ≡ lends_of w at index
  pub counted : IsCounted tasks x.ownership

abbrev pub KeepsHandle : Held → World → ℕ → ℕ → Type 0
KeepsHandle h w at index = (i : InstanceView) (x : Handle) → slice_get h.instances at ≡ Some i → entry_of i index ≡ Some (entry.Handle x) → HandleKept h.tasks w at index x

-- The acting task, which runs a function, drops the handle at an index, by a canonical function of an instance that is there.
abbrev pub HandleIsDropped : Type 0
HandleIsDropped =
    (g : Graph) (values : List ValType) (s : Script) (v : Views) (h : Held) (stacks : List (List Stack)) (w : World) (t at canon resource word : ℕ) (words : List ℕ) (task : Task)
    → SeesResources g v → word_in words 0 ≡ Some word → slice_get w.tasks t ≡ Some task → task.state ≡ Acting → IsSome (func_of task.callee) → CallersRun w
    → IsSome (slice_get w.insts at) → KeepsHandle h w at word → Stands g values s h stacks w
    → AgreesMade g values s t h.labels stacks (resource_drop v t at canon resource words h) (resource_drop_turn g t at canon resource words w)
