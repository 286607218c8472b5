-- What holds where a change comes (Component Model, CanonicalABI.md, "Task State", "Subtask State", "Stream State" and "Future State"; Concurrency.md,
-- "Cancellation"): beside what is said of each change, what the task is that it is of, what was told, and what is under way at an end.
use Rattle.std.specs.Prelude.{◌≡◌, ◌<◌, ◌≤◌, ◌⊎◌, ◌+◌, ℕ, true, false, List, [], length, Option, Some, None, IsSome}
use Rattle.std.specs.List.{slice_get}
use Rattle.syntax_trees.specs.declared.types.ValType.{ValType}
use Rattle.laid_types.specs.Handles.{held_borrow}
use Rattle.handle_table.specs.History.{live_count, most_live}
use Rattle.choices.specs.Drawing.{drawn}
use Rattle.entry_gate.specs.declared.kind.Kind.TheVariants.{Callback}
use Rattle.tasks.specs.declared.phase.Resolution.{Resolution}
use Rattle.tasks.specs.declared.phase.Resolution.TheVariants.{Returned, Cancelled}
use Rattle.tasks.specs.declared.phase.Cancellation.{Cancellation}
use Rattle.tasks.specs.declared.phase.Cancellation.TheVariants.{NotAsked, Asked, Delivered}
use Rattle.tasks.specs.declared.subtask_state.SubtaskState.TheVariants.{Starting}
use Rattle.tasks.specs.Subtasks.{is_over}
use Rattle.stream_ends.specs.declared.open_copy.By.TheVariants as by
use Rattle.stream_ends.specs.declared.open_copy.OpenCopy.{OpenCopy}
use Rattle.stream_ends.specs.Ends.{new_copy}
use Rattle.comp_graph.specs.declared.graph.CanonFunc.{CanonFunc}
use Rattle.comp_graph.specs.declared.graph.CanonFunc.TheVariants.{Lower, Builtin}
use Rattle.comp_graph.specs.Graph.{Graph, Lifted, func_named, passed_value}
use Rattle.script_reader.specs.declared.script.Item.{Item}
use Rattle.script_reader.specs.Script.{Script}
use Rattle.builtin_kinds.specs.declared.EndKind.{EndKind}
use Rattle.builtin_kinds.specs.declared.EndKind.TheVariants.{Stream, Future}
use Rattle.stream_ends.specs.declared.side.Side.TheVariants.{Writer}
use Rattle.abi_machine.specs.Control.{EndRef}
use Rattle.abi_machine.specs.World.{Entry, OwnHandle, BorrowHandle, OfSubtask, OfSet, OfEnd, Callee, Init, Subtask, Caller, Nobody, Host, Guest, TaskState, New, WaitsToEnter, InLoop, Task, Channel, World}
use Rattle.abi_machine.specs.Canons.{inst_of_canon, canon_at}
use Rattle.abi_machine.specs.Reading.{table_of, entry_at, sets_in, backpressure_of, func_of, kind_of, task_at, may_leave}
use Rattle.abi_machine.specs.Counting.{lends_of, borrows_of, subtask_state, end_of}
use Rattle.abi_machine.specs.Choosing.{picks_of}
use Rattle.abi_machine.specs.Scheduling.{is_call, calls_taken}
use Rattle.abi_machine.specs.replies.Pressure.{most_backpressure}
use Rattle.abi_machine.specs.replies.Streams.{max_length}
use Rattle.abi_machine.specs.sound.Changes.{Change, SpendsUnit, UsesPicks, TakesItem, AddsEntry, MakesSet, RemovesEntry, RemovesWaitable, JoinsSet, HasBackpressure, IsCalled, Calls, ComesBack, Acts, Begins, Cancels, Blocks, Exits, IsRemoved, Resolves, IsCancelled, IsTold, IsLent, MakesChannel, Offers, Transfers, DropsEnd, IsWaitable, Stands, IsLeft, IsAdded, IsFirst, IsGuest, HasFunc, FirstCancels, IsBlocked}
use Rattle.abi_machine.specs.sound.Chain.{IsThere}
use Rattle.abi_machine.specs.sound.Firsts.{TaskIs, IsActing, IsLetIn}
use Rattle.abi_machine.specs.sound.Agreeing.{IsDueAt, channel_in}
use Rattle.abi_machine.specs.sound.CallsFit.{IsNextCall, IsCalledBy, CopiesAt}
use Rattle.abi_machine.specs.sound.EndPlaces.{EndStandsNowhere, IsFreshEnd}
use Rattle.abi_machine.specs.sound.EndsPassed.{HostPassesNoEnd, IsFreshReader, AreOfScript}
use Rattle.abi_machine.specs.sound.Entering.{HasEntered}
use Rattle.abi_machine.specs.sound.Entered.{NamesEntered}
use Rattle.abi_machine.specs.sound.GraphFuncs.{IsOfGraph}
use Rattle.abi_machine.specs.sound.Subtasks.{CallIs}
use Rattle.abi_machine.specs.sound.Taken.{MadeTask}

-- One that is to wait until it may enter is new, and any other one acts before it blocks. One that blocks in its loop has a callback.
abbrev pub BlocksFrom : TaskState → Task → Type 0
BlocksFrom WaitsToEnter task = task.state ≡ New
BlocksFrom (InLoop word) task = IsActing task × (kind_of task ≡ Callback)
BlocksFrom state task = IsActing task

-- A task has not resolved, and that it be cancelled was not asked.
abbrev pub IsUnasked : Task → Type 0
IsUnasked task = (task.resolution ≡ None) × (task.cancellation ≡ NotAsked)

abbrev pub IsRemovable : Task → Type 0
IsRemovable task = (task.state ≡ WaitsToEnter) × (task.resolution ≡ None) × (task.cancellation ≡ NotAsked)

-- It resolves once, while no live borrow handle names it, and as cancelled only where it was told that this is asked.
abbrev pub MayResolveTo : Resolution → Task → Type 0
MayResolveTo Returned task = Unit {0}
MayResolveTo Cancelled task = task.cancellation ≡ Delivered

abbrev pub MayResolve : Resolution → Task → Type 0
MayResolve resolution task = IsActing task × (task.resolution ≡ None) × MayResolveTo resolution task

-- That it be cancelled is asked once, and told where it was asked.
abbrev pub MayBecome : Cancellation → Task → Type 0
MayBecome NotAsked task = ⊥
MayBecome Asked task = IsUnasked task
MayBecome Delivered task = task.cancellation ≡ Asked

-- A task that exits has resolved, where it runs a function: task 0 runs none.
abbrev pub ExitsResolved : Task → Type 0
ExitsResolved task = IsSome (func_of task.callee) → IsSome task.resolution

-- Any other task acts, and has resolved.
abbrev pub ExitsFrom : ℕ → Task → Type 0
ExitsFrom t task = 1 ≤ t → IsActing task × IsSome task.resolution

-- A subtask that is new: nothing was told of it, and nothing is lent for it.
abbrev pub IsNewSubtask : Subtask → Type 0
IsNewSubtask subtask = (subtask.told ≡ Starting) × (subtask.lends ≡ [])

-- A handle; what leaves a table by itself: a handle of which nothing is lent, or a set without members.
abbrev pub IsHandle : Entry → Type 0
IsHandle (OwnHandle resource rep) = Unit {0}
IsHandle (BorrowHandle resource rep task) = Unit {0}
IsHandle (OfSubtask callee) = ⊥
IsHandle (OfSet set) = ⊥
IsHandle (OfEnd e) = ⊥

abbrev pub IsUnlent : World → ℕ → ℕ → Entry → Type 0
IsUnlent w i index (OwnHandle resource rep) = lends_of w i index ≡ 0
IsUnlent w i index (BorrowHandle resource rep task) = lends_of w i index ≡ 0
IsUnlent w i index entry = Unit {0}

abbrev pub IsFree : World → ℕ → ℕ → Entry → Type 0
IsFree w i index entry = IsLeft w i entry × IsUnlent w i index entry

-- A handle is lent for the call of a task where it stands in the table of the instance that calls, and the caller was not told that the task
-- has resolved.
abbrev pub IsOpenCall : ℕ → Caller → Type 0
IsOpenCall number Nobody = ⊥
IsOpenCall number (Host call values) = ⊥
IsOpenCall number (Guest subtask) = (subtask.canon ≡ number) × (is_over subtask.told ≡ false)

abbrev pub IsOpenOf : ℕ → Task → Type 0
IsOpenOf number task = IsOpenCall number task.caller

abbrev pub IsArgument : Graph → World → ℕ → ℕ → Type 0
IsArgument g w i callee = (number : ℕ) × (c : CanonFunc) × (canon_at g number ≡ Some c) × (inst_of_canon c ≡ i) × TaskIs w.tasks callee (IsOpenOf number)

-- Else it is in a result or an element, whose type holds a borrow: of a canonical function or an export of the graph, of the function that a
-- task runs, or of the elements of a stream or a future.
abbrev pub passed_type : CanonFunc → Option ValType
passed_type (Lower l) = l.func_type.result
passed_type (Builtin b) = passed_value b.kind

abbrev pub CanonPassesBorrow : Graph → Type 0
CanonPassesBorrow g = (number : ℕ) × (c : CanonFunc) × (canon_at g number ≡ Some c) × (held_borrow (passed_type c) ≡ true)

abbrev pub ExportPassesBorrow : Graph → Type 0
ExportPassesBorrow g = (name : List ℕ) × (f : Lifted) × (func_named g name ≡ Some f) × (held_borrow f.func_type.result ≡ true)

abbrev pub GraphPassesBorrow : Graph → Type 0
GraphPassesBorrow g = CanonPassesBorrow g ⊎ ExportPassesBorrow g

abbrev pub ReturnsBorrow : Callee → Type 0
ReturnsBorrow callee = (f : Lifted) × (func_of callee ≡ Some f) × (held_borrow f.func_type.result ≡ true)

abbrev pub HasBorrowResult : Task → Type 0
HasBorrowResult task = ReturnsBorrow task.callee

abbrev pub HaveBorrowResult : List Task → Type 0
HaveBorrowResult tasks = (t : ℕ) × TaskIs tasks t HasBorrowResult

abbrev pub HaveBorrowElement : List Channel → List Channel → Type 0
HaveBorrowElement streams futures =
    (kind : EndKind) × (number : ℕ) × (c : Channel) × (channel_in kind number streams futures ≡ Some c) × (held_borrow c.element ≡ true)

abbrev pub PassBorrow : Graph → World → Type 0
PassBorrow g w = GraphPassesBorrow g ⊎ (HaveBorrowResult w.tasks ⊎ HaveBorrowElement w.streams w.futures)

abbrev pub MayBeLent : Graph → World → ℕ → ℕ → Type 0
MayBeLent g w callee index = (i : ℕ) × Stands w i index IsHandle × (IsArgument g w i callee ⊎ PassBorrow g w)

-- What leaves a table with its set: a subtask, or an end at which nothing is under way.
abbrev pub HasNoCopy : World → Entry → Type 0
HasNoCopy w (OfEnd e) = (end_of w e).copy ≡ None
HasNoCopy w entry = Unit {0}

-- of which the caller was told that it has resolved, where it is a subtask
abbrev pub WasDropped : List Task → Entry → Type 0
WasDropped tasks (OfSubtask callee) = CallIs tasks callee (λ subtask. is_over subtask.told ≡ true)
WasDropped tasks entry = Unit {0}

abbrev pub IsTaken : World → Entry → Type 0
IsTaken w entry = IsWaitable entry × HasNoCopy w entry × WasDropped w.tasks entry

-- A read or write at an end that stands in a table and at which nothing is under way, by a task and a canonical function that are there. This one
-- reads or writes at such ends.
-- One of a future is of one value.
abbrev pub IsSizeIn : EndKind → ℕ → Type 0
IsSizeIn Stream size = size ≤ max_length
IsSizeIn Future size = size ≡ 1

pub record IsCall (g : Graph) (w : World) (e : EndRef) (call : OpenCopy) : Type 0 where
  pub task : ℕ
  pub canon : ℕ
  pub place : ℕ
  pub size : ℕ
  pub inst : ℕ
  pub index : ℕ
  pub is : call ≡ new_copy (by.Task task) canon place size
  pub acts : IsSome (slice_get w.tasks task)
  pub entered : HasEntered w.tasks task
  pub made : IsSome (canon_at g canon)
  pub fits : IsSizeIn e.kind size
  pub held : entry_at w inst index ≡ Some (OfEnd e)
  pub quiet : (end_of w e).copy ≡ None
  pub not_done : (end_of w e).done ≡ false
  pub copies : CopiesAt g w.streams w.futures e canon

-- An end that is dropped stands in no table, a readable one where the script passes no end.
abbrev pub IsGone : World → EndRef → Type 0
IsGone w e = (e.side ≡ Writer → EndStandsNowhere w.insts e) × (HostPassesNoEnd w.tasks → EndStandsNowhere w.insts e)

-- An item that is taken is there, and where it calls a function this call, which is the next one, made its task.
abbrev pub IsTakeable : Script → World → Type 0
IsTakeable s w = IsSome (slice_get s.items w.taken) × ((i : Item) → slice_get s.items w.taken ≡ Some i → is_call i ≡ true → MadeTask w.tasks (calls_taken s w + 1))

-- Where a change comes: where it may come, and what else holds there.
abbrev pub Comes : Graph → Script → Change → World → Type 0
Comes g s SpendsUnit w = w.units < s.fuel
Comes g s (UsesPicks picks) w = (count : ℕ) × (picks ≡ (drawn count (picks_of s w)).used)
Comes g s TakesItem w = IsTakeable s w
Comes g s (AddsEntry i entry) w = (live_count (table_of w i) < most_live) × IsAdded w.tasks entry × IsFreshEnd w entry × NamesEntered w.tasks entry × (HostPassesNoEnd w.tasks → IsFreshReader w entry)
Comes g s (MakesSet i set) w = (live_count (table_of w i) < most_live) × (set ≡ length (sets_in (slice_get w.insts i)))
Comes g s (RemovesEntry i index) w = Stands w i index (IsFree w i index)
Comes g s (RemovesWaitable i index) w = Stands w i index (IsTaken w)
Comes g s (JoinsSet i index set) w = Stands w i index IsWaitable × ((other : ℕ) × (entry_at w i other ≡ Some (OfSet set)))
Comes g s (HasBackpressure i backpressure) w = (backpressure ≤ most_backpressure) ⊎ (backpressure ≤ backpressure_of w i)
Comes g s (IsCalled callee call values) w = IsSome (func_of callee) × (w.chain ≡ []) × (ReturnsBorrow callee → GraphPassesBorrow g) × IsOfGraph g callee × IsNextCall g s w callee values × AreOfScript s values
Comes g s (Calls number callee subtask words) w =
    IsSome (func_of callee) × IsSome (task_at w subtask.by) × IsFirst subtask.by w.chain × (may_leave w ≡ true) × TaskIs w.tasks subtask.by IsActing
    × IsNewSubtask subtask × (ReturnsBorrow callee → GraphPassesBorrow g) × IsOfGraph g callee × IsCalledBy g subtask.canon callee
Comes g s (ComesBack t) w = HasFunc w.tasks t × ((w.chain ≡ []) ⊎ FirstCancels w.tasks w.chain)
Comes g s (Acts t) w = IsFirst t w.chain × IsLetIn w.tasks t × TaskIs w.tasks t (λ task. IsThere task.state)
Comes g s (Begins n) w = IsFirst 0 w.chain × TaskIs w.tasks 0 (λ task. task.callee ≡ Init)
Comes g s (Cancels t callee number words) w = IsFirst t w.chain × (may_leave w ≡ true) × TaskIs w.tasks t IsActing × IsGuest w.tasks callee
Comes g s (Blocks t state) w = IsFirst t w.chain × IsBlocked state × ((may_leave w ≡ true) ⊎ HasFunc w.tasks t) × TaskIs w.tasks t (BlocksFrom state)
Comes g s (Exits t) w = IsFirst t w.chain × TaskIs w.tasks t ExitsResolved × TaskIs w.tasks t (ExitsFrom t)
Comes g s (IsRemoved t) w = HasFunc w.tasks t × TaskIs w.tasks t IsRemovable × (borrows_of w t ≡ 0)
Comes g s (Resolves t resolution) w = TaskIs w.tasks t (MayResolve resolution) × (borrows_of w t ≡ 0)
Comes g s (IsCancelled t cancellation) w = TaskIs w.tasks t (MayBecome cancellation)
Comes g s (IsTold t state) w = TaskIs w.tasks t (λ task. state ≡ subtask_state task)
Comes g s (IsLent t handle) w = MayBeLent g w t handle
Comes g s (MakesChannel kind element) w = held_borrow element ≡ true → GraphPassesBorrow g
Comes g s (Offers e call) w = IsCall g w e call
Comes g s (Transfers e size values) w = IsDueAt e (length values) w.streams w.futures
Comes g s (DropsEnd e) w = ((end_of w e).copy ≡ None) × IsGone w e
Comes g s change w = Unit {0}
