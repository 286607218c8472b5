-- What is changed of what is kept is changed of the world (Component Model, CanonicalABI.md, "Component Instance State", "Table State", "Waitable
-- Set State", "Task State"; Concurrency.md, "Summary"): each change keeps that the one stands for the other.
use Rattle.std.specs.Prelude.{◌≡◌, ℕ, ◌+◌, ◌-◌, true, nat_lt, List, [], ◌∷◌, ◌++◌, length, take, Some, IsSome}
use Rattle.std.specs.List.{slice_get}
use Rattle.syntax_trees.specs.declared.types.ValType.{ValType}
use Rattle.wasm_store.specs.Store.{Store}
use Rattle.wasm_store.specs.Stack.{Stack}
use Rattle.handle_table.specs.History.{Remove, live, next_index, live_count, most_live}
use Rattle.handle_table.specs.Slots.{count, next_of}
use Rattle.handle_table.specs.Alike.{SlotAlike}
use Rattle.waitables.specs.Sets as waitable
use Rattle.entry_gate.specs.Gates.{GateView, with_pressure}
use Rattle.choices.specs.Choosing as picks
use Rattle.choices.specs.Drawing.{drawn, drawn_answer}
use Rattle.comp_graph.specs.Graph.{Graph}
use Rattle.script_reader.specs.Script.{Script}
use Rattle.instances.specs.declared.entry.WorldEntry.{WorldEntry}
use Rattle.instances.specs.Instances.{InstanceView, new_instance, with_sets, with_gate, entry_of, entry_added, entry_removed, entry_changed}
use Rattle.task_table.specs.declared.slot.TaskSlot.{TaskSlot}
use Rattle.world_parts.specs.Held.{Held}
use Rattle.world_parts.specs.Entries.{with_instance}
use Rattle.world_parts.specs.Slots.{with_task}
use Rattle.abi_machine.specs.World.{Entry, Inst, Task, World}
use Rattle.abi_machine.specs.Edits as world
use Rattle.abi_machine.specs.Edits.{changed_at, with_inst, by_views, with_store, unit_spent, item_taken, picked, instance_begun, answered_stacks, answered}
use Rattle.abi_machine.specs.Choosing.{picks_of}
use Rattle.standing.specs.Instances.{EntryStands, InstStands}
use Rattle.standing.specs.Tasks.{TaskStands}
use Rattle.standing.specs.Stands.{Stands}

-- Component instances: one is changed, or of it only what is not said; a refused call writes back what it looked at; one begins.
abbrev pub InstancesChange : Type 0
InstancesChange =
    (g : Graph) (values : List ValType) (s : Script) (h : Held) (stacks : List (List Stack)) (w : World) (at : ℕ) (x y : InstanceView) (f : Inst → Inst)
    → slice_get h.instances at ≡ Some x → ((a : Inst) → slice_get w.insts at ≡ Some a → InstStands values x a → InstStands values y (f a)) → Stands g values s h stacks w
    → Stands g values s (with_instance at y h) stacks (with_inst at f w)

abbrev pub InstancesStay : Type 0
InstancesStay =
    (g : Graph) (values : List ValType) (s : Script) (h : Held) (stacks : List (List Stack)) (w : World) (at : ℕ) (x y : InstanceView)
    → slice_get h.instances at ≡ Some x → ((a : Inst) → InstStands values x a → InstStands values y a) → Stands g values s h stacks w
    → Stands g values s (with_instance at y h) stacks w

abbrev pub RefusalsChangeNothing : Type 0
RefusalsChangeNothing =
    (g : Graph) (values : List ValType) (s : Script) (h : Held) (stacks : List (List Stack)) (w : World) (at : ℕ) (x : InstanceView)
    → slice_get h.instances at ≡ Some x → Stands g values s h stacks w → Stands g values s (with_instance at x h) stacks w

abbrev pub InstancesBegin : Type 0
InstancesBegin =
    (g : Graph) (values : List ValType) (s : Script) (h : Held) (stacks : List (List Stack)) (w : World)
    → Stands g values s h stacks w → Stands g values s (record h { instances = h.instances ++ new_instance ∷ [] }) stacks (instance_begun w)

-- Tables: at an index there is an entry on both sides or on none, the next index is one, and so is whether there is room. One more entry, one
-- less, and one that stands for the same.
abbrev pub EntriesAreAlike : Type 0
EntriesAreAlike = (values : List ValType) (i : InstanceView) (a : Inst) (index : ℕ) → InstStands values i a → SlotAlike (EntryStands values) (entry_of i index) (live a.table index)

abbrev pub NextIsAlike : Type 0
NextIsAlike = (values : List ValType) (i : InstanceView) (a : Inst) → InstStands values i a → next_of i.slots ≡ next_index a.table

abbrev pub RoomIsAlike : Type 0
RoomIsAlike = (values : List ValType) (i : InstanceView) (a : Inst) → InstStands values i a → nat_lt (count i.slots) most_live ≡ nat_lt (live_count a.table) most_live

abbrev pub EntriesAreAdded : Type 0
EntriesAreAdded =
    (values : List ValType) (i : InstanceView) (a : Inst) (e : WorldEntry) (entry : Entry)
    → nat_lt (count i.slots) most_live ≡ true → EntryStands values e entry → InstStands values i a
    → InstStands values (entry_added e i) (record a { table = world.added entry a.table })

abbrev pub EntriesAreRemoved : Type 0
EntriesAreRemoved =
    (values : List ValType) (i : InstanceView) (a : Inst) (index : ℕ)
    → IsSome (entry_of i index) → InstStands values i a → InstStands values (entry_removed index i) (record a { table = Remove index ∷ a.table })

abbrev pub EntriesStayAlike : Type 0
EntriesStayAlike =
    (values : List ValType) (i : InstanceView) (a : Inst) (index : ℕ) (e now : WorldEntry)
    → entry_of i index ≡ Some e → ((entry : Entry) → EntryStands values e entry → EntryStands values now entry) → InstStands values i a
    → InstStands values (entry_changed index now i) a

-- Sets: one is made, a waitable is in none, or joins one; and how many tasks wait on one is not said.
abbrev pub SetsAreMade : Type 0
SetsAreMade =
    (values : List ValType) (i : InstanceView) (a : Inst) → InstStands values i a
    → InstStands values (with_sets (i.sets ++ waitable.no_set ∷ []) i) (record a { sets = a.sets ++ [] ∷ [] })

abbrev pub WaitablesLeave : Type 0
WaitablesLeave =
    (values : List ValType) (i : InstanceView) (a : Inst) (index : ℕ) → InstStands values i a
    → InstStands values (with_sets (waitable.left index i.sets) i) (record a { sets = by_views (waitable.left index) a.sets })

abbrev pub WaitablesJoin : Type 0
WaitablesJoin =
    (values : List ValType) (i : InstanceView) (a : Inst) (index set : ℕ) → InstStands values i a
    → InstStands values (with_sets (waitable.joined index set i.sets) i) (record a { sets = by_views (waitable.joined index set) a.sets })

abbrev pub WaitersAreNotSaid : Type 0
WaitersAreNotSaid =
    (values : List ValType) (i : InstanceView) (a : Inst) (set count : ℕ) → InstStands values i a → InstStands values (with_sets (waitable.with_waiters set count i.sets) i) a

-- The gate: its backpressure; who holds and waits for entry is not said.
abbrev pub PressureChanges : Type 0
PressureChanges =
    (values : List ValType) (i : InstanceView) (a : Inst) (pressure : ℕ) → InstStands values i a
    → InstStands values (with_gate (with_pressure pressure i.gate) i) (record a { backpressure = pressure })

abbrev pub EntryIsNotSaid : Type 0
EntryIsNotSaid =
    (values : List ValType) (i : InstanceView) (a : Inst) (gate : GateView) → gate.pressure ≡ i.gate.pressure → InstStands values i a → InstStands values (with_gate gate i) a

-- Tasks: one is changed, and keeps its stacks; one is made; and the acting stack of one is answered.
abbrev pub TasksChange : Type 0
TasksChange =
    (g : Graph) (values : List ValType) (s : Script) (h : Held) (stacks : List (List Stack)) (w : World) (t : ℕ) (x y : TaskSlot) (f : Task → Task)
    → slice_get h.tasks t ≡ Some x → ((a : Task) → slice_get w.tasks t ≡ Some a → TaskStands g s x a → TaskStands g s y (f a))
    → ((a : Task) → (f a).stacks ≡ a.stacks) → Stands g values s h stacks w
    → Stands g values s (with_task t y h) stacks (world.with_task t f w)

abbrev pub TasksAreMade : Type 0
TasksAreMade =
    (g : Graph) (values : List ValType) (s : Script) (h : Held) (stacks : List (List Stack)) (w : World) (slot : TaskSlot) (new : Task)
    → TaskStands g s slot new → Stands g values s h stacks w
    → Stands g values s (record h { tasks = h.tasks ++ slot ∷ [] }) (stacks ++ new.stacks ∷ []) (record w { tasks = w.tasks ++ new ∷ [] })

abbrev pub StacksAreAnswered : Type 0
StacksAreAnswered =
    (g : Graph) (values : List ValType) (s : Script) (h : Held) (stacks : List (List Stack)) (w : World) (t : ℕ) (words : List ℕ) → Stands g values s h stacks w
    → Stands g values s h (changed_at t (answered_stacks words) stacks) (answered t words w)

-- The chain: a task comes to it, and the acting one leaves it.
abbrev pub TasksComeToTheChain : Type 0
TasksComeToTheChain =
    (g : Graph) (values : List ValType) (s : Script) (h : Held) (stacks : List (List Stack)) (w : World) (t : ℕ) → Stands g values s h stacks w
    → Stands g values s (record h { chain = h.chain ++ t ∷ [] }) stacks (world.chained t w)

abbrev pub TasksLeaveTheChain : Type 0
TasksLeaveTheChain =
    (g : Graph) (values : List ValType) (s : Script) (h : Held) (stacks : List (List Stack)) (w : World) → Stands g values s h stacks w
    → Stands g values s (record h { chain = take (length h.chain - 1) h.chain }) stacks (world.unchained w)

abbrev pub ActingIsAlike : Type 0
ActingIsAlike =
    (g : Graph) (values : List ValType) (s : Script) (h : Held) (stacks : List (List Stack)) (w : World) → Stands g values s h stacks w
    → slice_get h.chain (length h.chain - 1) ≡ slice_get w.chain 0

-- What a script gives: whether a unit is left, one is spent, and an item is taken.
abbrev pub FuelIsAlike : Type 0
FuelIsAlike =
    (g : Graph) (values : List ValType) (s : Script) (h : Held) (stacks : List (List Stack)) (w : World) → Stands g values s h stacks w → nat_lt 0 h.left ≡ nat_lt w.units s.fuel

abbrev pub UnitsAreSpent : Type 0
UnitsAreSpent =
    (g : Graph) (values : List ValType) (s : Script) (h : Held) (stacks : List (List Stack)) (w : World) → nat_lt 0 h.left ≡ true → Stands g values s h stacks w
    → Stands g values s (record h { left = h.left - 1 }) stacks (unit_spent w)

abbrev pub ItemsAreTaken : Type 0
ItemsAreTaken =
    (g : Graph) (values : List ValType) (s : Script) (h : Held) (stacks : List (List Stack)) (w : World) → Stands g values s h stacks w
    → Stands g values s (record h { taken = h.taken + 1 }) stacks (item_taken w)

-- One of so many alternatives is picked, and then fewer picks are left.
abbrev pub PicksAreAlike : Type 0
PicksAreAlike =
    (g : Graph) (values : List ValType) (s : Script) (h : Held) (stacks : List (List Stack)) (w : World) (count : ℕ) → Stands g values s h stacks w
    → picks.picked count h.picks ≡ drawn_answer count (picks_of s w)

abbrev pub PicksAreUsed : Type 0
PicksAreUsed =
    (g : Graph) (values : List ValType) (s : Script) (h : Held) (stacks : List (List Stack)) (w : World) (count : ℕ) → Stands g values s h stacks w
    → Stands g values s (record h { picks = picks.left count h.picks }) stacks (picked (drawn count (picks_of s w)).used w)

-- The store is another one.
abbrev pub StoresChange : Type 0
StoresChange =
    (g : Graph) (values : List ValType) (s : Script) (h : Held) (stacks : List (List Stack)) (w : World) (store : Store) → Stands g values s h stacks w
    → Stands g values s (record h { store = store }) stacks (with_store store w)
