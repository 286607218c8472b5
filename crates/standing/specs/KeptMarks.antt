-- Marks of what is kept, of what is kept alone (Component Model, CanonicalABI.md, "Component Instance State", "Task State", "Subtask State", "Resource State",
-- "Waitable Set State"): who holds and waits for exclusive entry to an instance, how many tasks wait on a set, how often a handle is lent, how many borrow
-- handles a task has, and who waits directly for a subtask are as they follow from tasks and tables. Where what is kept stands for a world they are what
-- the machine computes of the world.
use Rattle.std.specs.Prelude.{◌≡◌, ℕ, Bool, true, false, ◌&&◌, nat_eq, List, [], ◌∷◌, map, filter, Option, Some, None}
use Rattle.std.specs.List.{slice_get, list_any, count_by, sum_by}
use Rattle.syntax_trees.specs.declared.types.ValType.{ValType}
use Rattle.wasm_store.specs.Stack.{Stack}
use Rattle.waitables.specs.Sets.{set_at}
use Rattle.entry_gate.specs.Gates.{GateView}
use Rattle.entry_gate.specs.Stays.{Place, Outside, Waiting, Inside, InLoop, Stay, waits, holder_of}
use Rattle.tasks.specs.declared.event.BlockedAt.{BlockedAt}
use Rattle.tasks.specs.declared.event.BlockedAt.TheVariants as blocked_at
use Rattle.tasks.specs.declared.phase.Phase.{Phase}
use Rattle.tasks.specs.declared.phase.Phase.TheVariants as phase
use Rattle.res_handles.specs.declared.handle.Handle.{Handle}
use Rattle.res_handles.specs.declared.handle.Ownership.{Ownership}
use Rattle.res_handles.specs.declared.handle.Ownership.TheVariants.{Own, Borrow}
use Rattle.comp_graph.specs.Graph.{Graph}
use Rattle.script_reader.specs.Script.{Script}
use Rattle.instances.specs.declared.entry.WorldEntry.{WorldEntry}
use Rattle.instances.specs.declared.entry.WorldEntry.TheVariants as entry
use Rattle.instances.specs.Instances.{InstanceView, entry_of}
use Rattle.task_table.specs.declared.caller.Called.{Called}
use Rattle.task_table.specs.declared.caller.Caller.TheVariants as by
use Rattle.task_table.specs.declared.errand.Callee.{Callee}
use Rattle.task_table.specs.declared.errand.Callee.TheVariants as callee
use Rattle.task_table.specs.declared.slot.TaskSlot.{TaskSlot}
use Rattle.task_table.specs.Callers.{called_of}
use Rattle.task_table.specs.Slots.{waits_on, waits_directly_at}
use Rattle.world_parts.specs.Held.{Held}
use Rattle.abi_machine.specs.World.{World}
use Rattle.abi_machine.specs.Reading.{with_numbers}
use Rattle.abi_machine.specs.Counting.{passes, lends_of}
use Rattle.standing.specs.Moves.{KeepsGate}
use Rattle.standing.specs.News.{KeepsWho}
use Rattle.standing.specs.Replies.{CountsWaiters}
use Rattle.standing.specs.Resolutions.{KeepsBorrows}
use Rattle.standing.specs.Marks.{StatesMarked}
use Rattle.standing.specs.Stands.{Stands}

-- A task runs a function, of a component instance. The one that instantiates runs none.
abbrev pub runs_func : Callee → Bool
runs_func callee.Init = false
runs_func (callee.Export number) = true
runs_func (callee.Lowered number) = true
runs_func (callee.Destroys resource) = true

abbrev pub runs_at : ℕ → TaskSlot → Bool
runs_at at slot = runs_func slot.callee && nat_eq slot.instance at

-- where it is, as its gate sees it, and all tasks at an instance
abbrev pub place_blocked : BlockedAt → Place
place_blocked blocked_at.Entry = Waiting
place_blocked (blocked_at.Loop word) = InLoop
place_blocked blocked_at.Yield = Inside
place_blocked (blocked_at.Set index) = Inside
place_blocked (blocked_at.Call task) = Inside
place_blocked (blocked_at.Copy index) = Inside
place_blocked (blocked_at.Cancel index) = Inside

abbrev pub place_in : Phase → Place
place_in phase.New = Outside
place_in phase.Acting = Inside
place_in (phase.Blocked why flag) = place_blocked why
place_in phase.Exited = Outside

abbrev pub stay_in : ℕ × TaskSlot → Stay
stay_in x = record { task = x.0; kind = x.1.task.kind; place = place_in x.1.task.phase }

abbrev pub stays_at : ℕ → List TaskSlot → List Stay
stays_at at tasks = map stay_in (filter (λ (x : ℕ × TaskSlot). runs_at at x.1) (with_numbers 0 tasks))

-- Who holds exclusive entry, and how many tasks wait for it.
pub record GateMarked (tasks : List TaskSlot) (at : ℕ) (gate : GateView) : Type 0 where
  pub holder : gate.holder ≡ holder_of (stays_at at tasks)
  pub waiting : gate.waiting ≡ count_by waits (stays_at at tasks)

abbrev pub GatesMarked : List InstanceView → List TaskSlot → Type 0
GatesMarked instances tasks = (at : ℕ) (i : InstanceView) → slice_get instances at ≡ Some i → GateMarked tasks at i.gate

-- How many tasks wait on the set at an index: in a built-in, or in their loop.
abbrev pub waiters_at : List TaskSlot → ℕ → ℕ → ℕ
waiters_at tasks at index = count_by (λ (slot : TaskSlot). runs_at at slot && waits_on index slot.task.phase) tasks

abbrev pub WaitersMarked : List InstanceView → List TaskSlot → Type 0
WaitersMarked instances tasks =
    (at index set : ℕ) (i : InstanceView) → slice_get instances at ≡ Some i → entry_of i index ≡ Some (entry.Set set) → (set_at i.sets set).waiters ≡ waiters_at tasks at index

-- How often the handle at an index is lent: for calls of tasks of its instance.
abbrev pub lends_by : (ℕ → Bool) → ℕ → Option Called → ℕ
lends_by is_here index None = 0
lends_by is_here index (Some called) = count_by (λ handle. is_here called.by && nat_eq handle index) called.subtask.lends

abbrev pub is_task_at : List TaskSlot → ℕ → ℕ → Bool
is_task_at tasks at t = passes (runs_at at) (slice_get tasks t)

abbrev pub lends_at : List TaskSlot → ℕ → ℕ → ℕ
lends_at tasks at index = sum_by (λ (slot : TaskSlot). lends_by (is_task_at tasks at) index (called_of slot.caller)) tasks

abbrev pub LendsMarked : List InstanceView → List TaskSlot → Type 0
LendsMarked instances tasks =
    (at index : ℕ) (i : InstanceView) (x : Handle) → slice_get instances at ≡ Some i → entry_of i index ≡ Some (entry.Handle x) → x.lends ≡ lends_at tasks at index

-- How many borrow handles name a task.
abbrev pub borrows_by : ℕ → Ownership → Bool
borrows_by t Own = false
borrows_by t (Borrow task) = nat_eq task t

abbrev pub is_borrow_of : ℕ → Option WorldEntry → Bool
is_borrow_of t None = false
is_borrow_of t (Some (entry.Handle x)) = borrows_by t x.ownership
is_borrow_of t (Some (entry.Subtask callee)) = false
is_borrow_of t (Some (entry.Set set)) = false
is_borrow_of t (Some (entry.End e)) = false

abbrev pub borrows_in : List InstanceView → ℕ → ℕ
borrows_in instances t = sum_by (λ (i : InstanceView). count_by (is_borrow_of t) i.slots.entries) instances

abbrev pub BorrowsMarked : List InstanceView → List TaskSlot → Type 0
BorrowsMarked instances tasks = (t : ℕ) (slot : TaskSlot) → slice_get tasks t ≡ Some slot → slot.task.borrows ≡ borrows_in instances t

-- Whether a task waits directly for the subtask at an index.
abbrev pub awaited_at : List TaskSlot → ℕ → ℕ → Bool
awaited_at tasks at index = list_any (λ (slot : TaskSlot). runs_at at slot && waits_directly_at index slot.task.phase) tasks

abbrev pub AwaitedMarked : List InstanceView → List TaskSlot → Type 0
AwaitedMarked instances tasks =
    (at index callee : ℕ) (i : InstanceView) (slot : TaskSlot) (called : Called) → slice_get instances at ≡ Some i → entry_of i index ≡ Some (entry.Subtask callee)
    → slice_get tasks callee ≡ Some slot → slot.caller ≡ by.Guest called → called.is_awaited ≡ awaited_at tasks at index

-- All these marks, with the states of subtasks.
pub record TasksMarked (instances : List InstanceView) (tasks : List TaskSlot) : Type 0 where
  pub gates : GatesMarked instances tasks
  pub waiters : WaitersMarked instances tasks
  pub lends : LendsMarked instances tasks
  pub borrows : BorrowsMarked instances tasks
  pub awaited : AwaitedMarked instances tasks
  pub states : StatesMarked tasks

abbrev pub HasMarks : Held → Type 0
HasMarks h = TasksMarked h.instances h.tasks

-- Before a graph is instantiated no instance is there.
abbrev pub FirstIsMarked : Type 0
FirstIsMarked = (slot : TaskSlot) → slot.task.borrows ≡ 0 → slot.caller ≡ by.Nobody → TasksMarked [] (slot ∷ [])

-- Where what is kept stands for a world, marks are what the machine computes of it.
abbrev pub GatesAreKept : Type 0
GatesAreKept =
    (g : Graph) (values : List ValType) (s : Script) (h : Held) (stacks : List (List Stack)) (w : World) (at : ℕ) → Stands g values s h stacks w → HasMarks h → KeepsGate h w at

abbrev pub WaitersAreCounted : Type 0
WaitersAreCounted =
    (g : Graph) (values : List ValType) (s : Script) (h : Held) (stacks : List (List Stack)) (w : World) (at : ℕ) (i : InstanceView) → Stands g values s h stacks w → HasMarks h
    → slice_get h.instances at ≡ Some i → CountsWaiters w at i

abbrev pub LendsAreCounted : Type 0
LendsAreCounted =
    (g : Graph) (values : List ValType) (s : Script) (h : Held) (stacks : List (List Stack)) (w : World) (at index : ℕ) (i : InstanceView) (x : Handle) → Stands g values s h stacks w → HasMarks h
    → slice_get h.instances at ≡ Some i → entry_of i index ≡ Some (entry.Handle x) → x.lends ≡ lends_of w at index

abbrev pub BorrowsAreCounted : Type 0
BorrowsAreCounted =
    (g : Graph) (values : List ValType) (s : Script) (h : Held) (stacks : List (List Stack)) (w : World) (t : ℕ) → Stands g values s h stacks w → HasMarks h → KeepsBorrows h w t

abbrev pub WhoWaitsIsKept : Type 0
WhoWaitsIsKept =
    (g : Graph) (values : List ValType) (s : Script) (h : Held) (stacks : List (List Stack)) (w : World) (at : ℕ) → Stands g values s h stacks w → HasMarks h → KeepsWho h w at
