-- Indices that are used where values are lifted (Component Model, CanonicalABI.md, `lift_own`, `lift_borrow`, `lift_stream` and `lift_future`): an own
-- handle and a readable end leave the table of an instance, and a borrow is lent for the call of a task, on both sides. It is kept of a handle how
-- often it is lent; the machine counts that over all calls.
use Rattle.std.specs.Prelude.{◌≡◌, ℕ, true, List, Option, Some, IsSome}
use Rattle.std.specs.List.{slice_get}
use Rattle.wasm_store.specs.Stack.{Stack}
use Rattle.syntax_trees.specs.declared.types.ValType.{ValType}
use Rattle.builtin_kinds.specs.declared.EndKind.{EndKind}
use Rattle.res_handles.specs.declared.handle.Handle.{Handle}
use Rattle.res_handles.specs.declared.readable_end.ReadableEnd.{ReadableEnd}
use Rattle.res_handles.specs.declared.entry.EntryView.TheVariants as seen
use Rattle.value_lift.specs.Tables.{is_end_at}
use Rattle.waitables.specs.Sets.{left}
use Rattle.comp_graph.specs.Graph.{Graph, ends_type}
use Rattle.script_reader.specs.Script.{Script}
use Rattle.instances.specs.declared.entry.WorldEntry.TheVariants as entry
use Rattle.instances.specs.Entries.{end_type_of}
use Rattle.instances.specs.Instances as instance
use Rattle.instances.specs.Instances.{InstanceView, entry_of, view_of, with_sets}
use Rattle.task_table.specs.declared.slot.TaskSlot.{TaskSlot}
use Rattle.world_parts.specs.Held.{Held}
use Rattle.world_parts.specs.Entries.{with_instance}
use Rattle.world_parts.specs.Slots.{with_task}
use Rattle.value_parts.specs.Loans.{may_lend, lent_slot}
use Rattle.abi_machine.specs.World.{Subtask, Guest, Task, World}
use Rattle.abi_machine.specs.Edits as world
use Rattle.abi_machine.specs.Reading.{entry_at, task_at, runs_in}
use Rattle.abi_machine.specs.Counting.{passes, lends_of, view_at}
use Rattle.abi_machine.specs.Finding.{is_end_of}
use Rattle.standing.specs.Stands.{Stands}
use Rattle.standing.specs.Channels.{HasMarkedEnds}

-- Each handle in a table is lent as often as the machine counts.
abbrev pub LendsMarked : List InstanceView → World → Type 0
LendsMarked instances w =
    (at index : ℕ) (i : InstanceView) (x : Handle) → slice_get instances at ≡ Some i → entry_of i index ≡ Some (entry.Handle x) → x.lends ≡ lends_of w at index

-- What is kept stands for a world, with how often handles are lent, and of ends the type and whether they are idle.
pub record StandsMarked (g : Graph) (values : List ValType) (s : Script) (h : Held) (stacks : List (List Stack)) (w : World) : Type 0 where
  pub stands : Stands g values s h stacks w
  pub ends : HasMarkedEnds h
  pub lends : LendsMarked h.instances w

-- The caller of a task, where a task called it, runs a function of this instance.
abbrev pub CalledFrom : World → ℕ → ℕ → Type 0
CalledFrom w at callee =
    (task : Task) (subtask : Subtask) → slice_get w.tasks callee ≡ Some task → task.caller ≡ Guest subtask → passes (runs_in at) (task_at w subtask.by) ≡ true

-- At an index there is a handle or a readable end on both sides, the same one; and an end is of a type on both sides.
abbrev pub ViewsAreAlike : Type 0
ViewsAreAlike =
    (g : Graph) (values : List ValType) (s : Script) (h : Held) (stacks : List (List Stack)) (w : World) (at index : ℕ) (i : InstanceView) → slice_get h.instances at ≡ Some i
    → StandsMarked g values s h stacks w → view_of i index ≡ view_at w at index

abbrev pub EndTypesAreAlike : Type 0
EndTypesAreAlike =
    (g : Graph) (values : List ValType) (s : Script) (h : Held) (stacks : List (List Stack)) (w : World) (at index : ℕ) (i : InstanceView) (x : ReadableEnd) (kind : EndKind)
    (element : Option ValType)
    → slice_get h.instances at ≡ Some i → view_of i index ≡ Some (seen.ReadableEnd x) → StandsMarked g values s h stacks w
    → is_end_at end_type_of values i.slots index (ends_type kind element) ≡ is_end_of w kind element (entry_at w at index)

-- A handle leaves the table; an end leaves it, and its set.
abbrev pub HandleLeaves : Type 0
HandleLeaves =
    (g : Graph) (values : List ValType) (s : Script) (h : Held) (stacks : List (List Stack)) (w : World) (at index : ℕ) (i : InstanceView)
    → slice_get h.instances at ≡ Some i → IsSome (entry_of i index) → StandsMarked g values s h stacks w
    → StandsMarked g values s (with_instance at (instance.entry_removed index i) h) stacks (world.entry_removed at index w)

abbrev pub EndLeaves : Type 0
EndLeaves =
    (g : Graph) (values : List ValType) (s : Script) (h : Held) (stacks : List (List Stack)) (w : World) (at index : ℕ) (i : InstanceView)
    → slice_get h.instances at ≡ Some i → IsSome (entry_of i index) → StandsMarked g values s h stacks w
    → StandsMarked g values s (with_instance at (with_sets (left index i.sets) (instance.entry_removed index i)) h) stacks
    (world.left_set at index (world.entry_removed at index w))

-- A handle is lent for the call of a task by a task of the instance.
abbrev pub HandleIsLent : Type 0
HandleIsLent =
    (g : Graph) (values : List ValType) (s : Script) (h : Held) (stacks : List (List Stack)) (w : World) (at index callee : ℕ) (i : InstanceView) (x : Handle) (slot : TaskSlot)
    → slice_get h.instances at ≡ Some i → entry_of i index ≡ Some (entry.Handle x) → slice_get h.tasks callee ≡ Some slot → may_lend slot.caller ≡ true
    → CalledFrom w at callee → StandsMarked g values s h stacks w
    → StandsMarked g values s (with_task callee (lent_slot index slot) (with_instance at (instance.lent index i) h)) stacks (world.lent callee index w)
