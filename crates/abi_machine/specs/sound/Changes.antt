-- What a step changes (Component Model, CanonicalABI.md, "Component Instance State", "Task State", "Subtask State", "Waitable Set State",
-- "Stream State" and "Future State"): a step makes changes of these kinds, one after the other, and each comes only where what is said of
-- it holds. So what each change keeps every step keeps.
use Rattle.std.specs.Prelude.{◌≡◌, ◌<◌, ◌≤◌, ◌⊎◌, ℕ, true, List, [], ◌∷◌, length, Option, Some, IsSome}
use Rattle.std.specs.List.{slice_get}
use Rattle.wasm_store.specs.Store.{Store}
use Rattle.wasm_store.specs.Stack.{Stack}
use Rattle.syntax_trees.specs.declared.types.ValType.{ValType}
use Rattle.syntax_trees.specs.declared.value.Value.{Value}
use Rattle.handle_table.specs.History.{live_count, most_live}
use Rattle.choices.specs.Drawing.{drawn}
use Rattle.tasks.specs.declared.phase.Resolution.{Resolution}
use Rattle.tasks.specs.declared.phase.Resolution.TheVariants.{Cancelled}
use Rattle.tasks.specs.declared.phase.Cancellation.{Cancellation}
use Rattle.tasks.specs.declared.subtask_state.SubtaskState.{SubtaskState}
use Rattle.stream_ends.specs.declared.open_copy.OpenCopy.{OpenCopy}
use Rattle.comp_graph.specs.Graph.{Graph}
use Rattle.script_reader.specs.Script.{Script}
use Rattle.builtin_kinds.specs.declared.EndKind.{EndKind}
use Rattle.abi_machine.specs.Control.{EndRef, Control}
use Rattle.abi_machine.specs.World.{Entry, OwnHandle, BorrowHandle, OfSubtask, OfSet, OfEnd, Callee, Subtask, Caller, Host, Guest, TaskState, Acting, AfterCall, AfterCancel, WaitsToEnter, InLoop, InBuiltin, Exited, Task, World}
use Rattle.abi_machine.specs.World as world
use Rattle.abi_machine.specs.Edits.{with_control, with_store, unit_spent, picked, item_taken, instance_begun, entry_added, entry_removed, set_made, left_set, joined, with_backpressure, task_made, chained, unchained, in_state, resolved, with_cancellation, word_set, stacked, with_stack, unstacked, answered, told, lent, result_kept, channel_made, offered, transferred, concluded, end_dropped}
use Rattle.abi_machine.specs.Reading.{table_of, entry_at, sets_in, members_of, backpressure_of, func_of, subtask_of, task_at, may_leave}
use Rattle.abi_machine.specs.Choosing.{picks_of}
use Rattle.abi_machine.specs.replies.Pressure.{most_backpressure}

pub data Change : Type 0 where
  -- What a run has once: what it does next, the store, a unit of fuel, the number of picks that are used, and an item of the script.
  GoesTo : Control → Change
  HasStore : Store → Change
  SpendsUnit : Change
  UsesPicks : ℕ → Change
  TakesItem : Change
  -- Component instances, by their number: one begins; an entry is added; a set is made, with its entry; the handle or the set at an index is
  -- removed; the waitable at an index is, and leaves its set; a waitable leaves its set, or joins the set of a number; and the backpressure.
  BeginsInstance : Change
  AddsEntry : ℕ → Entry → Change
  MakesSet : ℕ → ℕ → Change
  RemovesEntry : ℕ → ℕ → Change
  RemovesWaitable : ℕ → ℕ → Change
  LeavesSet : ℕ → ℕ → Change
  JoinsSet : ℕ → ℕ → ℕ → Change
  HasBackpressure : ℕ → ℕ → Change
  -- Tasks: the script calls one; the acting task calls one, by a core function of the Canonical ABI with words; one that was blocked comes
  -- to the front of the chain; the acting one acts, runs a start function, cancels another one, blocks or exits; one that waits to enter is
  -- removed.
  IsCalled : Callee → ℕ → List Value → Change
  Calls : ℕ → Callee → Subtask → List ℕ → Change
  ComesBack : ℕ → Change
  Acts : ℕ → Change
  Begins : ℕ → Change
  Cancels : ℕ → ℕ → ℕ → List ℕ → Change
  Blocks : ℕ → TaskState → Change
  Exits : ℕ → Change
  IsRemoved : ℕ → Change
  -- what a task resolved to, how far its cancellation is, a word of context, and its stacks
  Resolves : ℕ → Resolution → Change
  IsCancelled : ℕ → Cancellation → Change
  HasWord : ℕ → ℕ → ℕ → Change
  HasNewStack : ℕ → Stack → Change
  HasStack : ℕ → Stack → Change
  LosesStack : ℕ → Change
  IsAnswered : ℕ → List ℕ → Change
  -- The caller's side of the call of a task: it is told the task's state, a handle is lent, and the words of the result are kept.
  IsTold : ℕ → SubtaskState → Change
  IsLent : ℕ → ℕ → Change
  HasResult : ℕ → List ℕ → Change
  -- streams and futures: one is made, a read or write meets the other end, elements are copied, a copy is told, and an end is dropped
  MakesChannel : EndKind → Option ValType → Change
  Offers : EndRef → OpenCopy → Change
  Transfers : EndRef → ℕ → List (Option Value) → Change
  Concludes : EndRef → Change
  DropsEnd : EndRef → Change

abbrev pub after : Change → World → World
after (GoesTo control) w = with_control control w
after (HasStore store) w = with_store store w
after SpendsUnit w = unit_spent w
after (UsesPicks picks) w = picked picks w
after TakesItem w = item_taken w
after BeginsInstance w = instance_begun w
after (AddsEntry i entry) w = entry_added i entry w
after (MakesSet i set) w = set_made i (entry_added i (OfSet set) w)
after (RemovesEntry i index) w = entry_removed i index w
after (RemovesWaitable i index) w = left_set i index (entry_removed i index w)
after (LeavesSet i index) w = left_set i index w
after (JoinsSet i index set) w = joined i index set w
after (HasBackpressure i backpressure) w = with_backpressure i backpressure w
after (IsCalled callee call values) w = chained (length w.tasks) (task_made callee (Host call values) w)
after (Calls number callee subtask words) w =
    (let v = in_state subtask.by (AfterCall (length w.tasks) number words) w in chained (length v.tasks) (task_made callee (Guest subtask) v))
after (ComesBack t) w = chained t w
after (Acts t) w = in_state t Acting w
after (Begins n) w = in_state 0 (world.Begins n) w
after (Cancels t callee number words) w = in_state t (AfterCancel callee number words) w
after (Blocks t state) w = unchained (in_state t state w)
after (Exits t) w = unchained (in_state t Exited w)
after (IsRemoved t) w = in_state t Exited (resolved t Cancelled w)
after (Resolves t resolution) w = resolved t resolution w
after (IsCancelled t cancellation) w = with_cancellation t cancellation w
after (HasWord t slot word) w = word_set t slot word w
after (HasNewStack t k) w = stacked t k w
after (HasStack t k) w = with_stack t k w
after (LosesStack t) w = unstacked t w
after (IsAnswered t words) w = answered t words w
after (IsTold t state) w = told t state w
after (IsLent t handle) w = lent t handle w
after (HasResult t words) w = result_kept t words w
after (MakesChannel kind element) w = channel_made kind element w
after (Offers e call) w = offered e call w
after (Transfers e size values) w = transferred e size values w
after (Concludes e) w = concluded e w
after (DropsEnd e) w = end_dropped e w

-- Whether an entry can be the member of a set: it is a subtask or an end.
abbrev pub IsWaitable : Entry → Type 0
IsWaitable (OwnHandle resource rep) = ⊥
IsWaitable (BorrowHandle resource rep task) = ⊥
IsWaitable (OfSubtask callee) = Unit {0}
IsWaitable (OfSet set) = ⊥
IsWaitable (OfEnd e) = Unit {0}

-- what stands at an index
abbrev pub Stands : World → ℕ → ℕ → (Entry → Type 0) → Type 0
Stands w i index P = (entry : Entry) × (entry_at w i index ≡ Some entry) × P entry

-- A handle; or a set without members.
abbrev pub IsLeft : World → ℕ → Entry → Type 0
IsLeft w i (OwnHandle resource rep) = Unit {0}
IsLeft w i (BorrowHandle resource rep task) = Unit {0}
IsLeft w i (OfSubtask callee) = ⊥
IsLeft w i (OfSet set) = members_of w i set ≡ []
IsLeft w i (OfEnd e) = ⊥

-- The task of a number was called by another one.
abbrev pub IsGuest : List Task → ℕ → Type 0
IsGuest tasks t = (task : Task) × (slice_get tasks t ≡ Some task) × IsSome (subtask_of task.caller)

-- What is added by itself: a set comes with its members only.
abbrev pub IsAdded : List Task → Entry → Type 0
IsAdded tasks (OwnHandle resource rep) = Unit {0}
IsAdded tasks (BorrowHandle resource rep task) = Unit {0}
IsAdded tasks (OfSubtask callee) = IsGuest tasks callee
IsAdded tasks (OfSet set) = ⊥
IsAdded tasks (OfEnd e) = Unit {0}

-- the acting task, and a task that runs a function
abbrev pub IsFirst : ℕ → List ℕ → Type 0
IsFirst t chain = slice_get chain 0 ≡ Some t

abbrev pub HasFunc : List Task → ℕ → Type 0
HasFunc tasks t = (task : Task) × (slice_get tasks t ≡ Some task) × IsSome (func_of task.callee)

-- the acting task cancels another one
abbrev pub IsCancelling : TaskState → Type 0
IsCancelling (AfterCancel callee number words) = Unit {0}
IsCancelling state = ⊥

abbrev pub FirstCancels : List Task → List ℕ → Type 0
FirstCancels tasks chain = (t : ℕ) × IsFirst t chain × ((task : Task) × (slice_get tasks t ≡ Some task) × IsCancelling task.state)

-- A task is blocked in this state.
abbrev pub IsBlocked : TaskState → Type 0
IsBlocked WaitsToEnter = Unit {0}
IsBlocked (InLoop word) = Unit {0}
IsBlocked (InBuiltin number words wait) = Unit {0}
IsBlocked state = ⊥

-- Where a change comes.
abbrev pub MayCome : Graph → Script → Change → World → Type 0
MayCome g s SpendsUnit w = w.units < s.fuel
MayCome g s (UsesPicks picks) w = (count : ℕ) × (picks ≡ (drawn count (picks_of s w)).used)
MayCome g s TakesItem w = IsSome (slice_get s.items w.taken)
MayCome g s (AddsEntry i entry) w = (live_count (table_of w i) < most_live) × IsAdded w.tasks entry
MayCome g s (MakesSet i set) w = (live_count (table_of w i) < most_live) × (set ≡ length (sets_in (slice_get w.insts i)))
MayCome g s (RemovesEntry i index) w = Stands w i index (IsLeft w i)
MayCome g s (RemovesWaitable i index) w = Stands w i index IsWaitable
MayCome g s (JoinsSet i index set) w = Stands w i index IsWaitable × ((other : ℕ) × (entry_at w i other ≡ Some (OfSet set)))
MayCome g s (HasBackpressure i backpressure) w = (backpressure ≤ most_backpressure) ⊎ (backpressure ≤ backpressure_of w i)
MayCome g s (IsCalled callee call values) w = IsSome (func_of callee) × (w.chain ≡ [])
MayCome g s (Calls number callee subtask words) w =
    IsSome (func_of callee) × IsSome (task_at w subtask.by) × IsFirst subtask.by w.chain × (may_leave w ≡ true)
MayCome g s (ComesBack t) w = HasFunc w.tasks t × ((w.chain ≡ []) ⊎ FirstCancels w.tasks w.chain)
MayCome g s (Acts t) w = IsFirst t w.chain
MayCome g s (Begins n) w = IsFirst 0 w.chain
MayCome g s (Cancels t callee number words) w = IsFirst t w.chain × (may_leave w ≡ true)
MayCome g s (Blocks t state) w = IsFirst t w.chain × IsBlocked state × ((may_leave w ≡ true) ⊎ HasFunc w.tasks t)
MayCome g s (Exits t) w = IsFirst t w.chain
MayCome g s (IsRemoved t) w = HasFunc w.tasks t
MayCome g s change w = Unit {0}

-- the world behind changes, one after the other, and that each comes where it may
abbrev pub behind_all : List Change → World → World
behind_all [] w = w
behind_all (change ∷ changes) w = behind_all changes (after change w)

abbrev pub MayAllCome : Graph → Script → List Change → World → Type 0
MayAllCome g s [] w = Unit {0}
MayAllCome g s (change ∷ changes) w = MayCome g s change w × MayAllCome g s changes (after change w)
