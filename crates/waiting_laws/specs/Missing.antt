-- What a blocked task waits for in vain (Component Model, Concurrency.md, "Backpressure", "Waitables and Waitable Sets" and "Cancellation"; CanonicalABI.md,
-- "Task State": `Task.enter`, "Waitable Set State", "Subtask State", "Stream State" and "Future State"): by where it is blocked.
use Rattle.std.specs.Prelude.{◌≡◌, ◌≤◌, ◌⊎◌, ◌&&◌, not, ℕ, true, false, List, Some, None, Result, Ok}
use Rattle.std.specs.List.{slice_get}
use Rattle.entry_gate.specs.Kinds.{needs_entry}
use Rattle.entry_gate.specs.Stays.{is_inside}
use Rattle.entry_gate.specs.Callbacks.{callback_of}
use Rattle.entry_gate.specs.declared.callback.BadCode.{BadCode}
use Rattle.entry_gate.specs.declared.callback.Next.{Next}
use Rattle.entry_gate.specs.declared.callback.Next.TheVariants as word
use Rattle.stream_ends.specs.declared.open_copy.OpenCopy.{OpenCopy}
use Rattle.stream_ends.specs.Ends.{end_at, other_side, standing_of}
use Rattle.tasks.specs.Tasks.{is_asked, is_unasked, is_sync}
use Rattle.comp_graph.specs.Graph.{Graph}
use Rattle.abi_machine.specs.Control.{EndRef}
use Rattle.abi_machine.specs.World.{OfSubtask, OfSet, OfEnd, Subtask, Wait, ForYield, ForSet, ForCall, ForCopy, ForCancel, TaskState, WaitsToEnter, InLoop, InBuiltin, Task, Channel, World}
use Rattle.abi_machine.specs.Canons.{flag_at}
use Rattle.abi_machine.specs.Reading.{entry_at, members_of, backpressure_of, channel_at, kind_of, runs_in, subtask_of}
use Rattle.abi_machine.specs.Counting.{has_news}
use Rattle.abi_machine.specs.Copying.{task_by}
use Rattle.abi_machine.specs.Gate.{place_of}

-- a number is one of these
abbrev pub IsNamed : ℕ → List ℕ → Type 0
IsNamed t named = (place : ℕ) × (slice_get named place ≡ Some t)

-- A task holds exclusive entry to an instance: it runs a function of the instance which needs that, being lifted without `async` or with a callback; it has
-- entered, has not exited, and is not blocked in its loop.
pub record Holds (w : World) (i t : ℕ) : Type 0 where
  pub task : Task
  pub there : slice_get w.tasks t ≡ Some task
  pub runs : runs_in i task ≡ true
  pub needs : needs_entry (kind_of task) ≡ true
  pub inside : is_inside (place_of task.state) ≡ true

-- Another task than this one does, which is named.
pub record IsHeldByAnother (w : World) (named : List ℕ) (i t : ℕ) : Type 0 where
  pub holder : ℕ
  pub holds : Holds w i holder
  pub another : holder ≡ t → ⊥
  pub is_named : IsNamed holder named

-- At its entry: there is backpressure, or another task holds exclusive entry, which this one needs.
abbrev pub IsKeptOut : World → List ℕ → ℕ → ℕ → Task → Type 0
IsKeptOut w named i t task = (1 ≤ backpressure_of w i) ⊎ ((needs_entry (kind_of task) ≡ true) × IsHeldByAnother w named i t)

-- At an index stands a set, of which no member has an event, but where a task waits for the member itself, which gets its event then.
pub record HasNoEvent (w : World) (i index : ℕ) : Type 0 where
  pub set : ℕ
  pub stands : entry_at w i index ≡ Some (OfSet set)
  pub none : (place member : ℕ) → slice_get (members_of w i set) place ≡ Some member → has_news w i member ≡ false

-- A task has not resolved, and is named.
pub record IsOpen (w : World) (named : List ℕ) (callee : ℕ) : Type 0 where
  pub task : Task
  pub there : slice_get w.tasks callee ≡ Some task
  pub unresolved : task.resolution ≡ None
  pub is_named : IsNamed callee named

-- A task is open that this one called, by the canonical function in which it waits.
pub record HasNotReturned (w : World) (named : List ℕ) (t number callee : ℕ) : Type 0 where
  pub is_open : IsOpen w named callee
  pub side : Subtask
  pub called : subtask_of is_open.task.caller ≡ Some side
  pub by_task : side.by ≡ t
  pub by_canon : side.canon ≡ number

-- At an index stands an end with a copy under way, which this task began by the canonical function in which it waits. Nothing is to be told of the copy, so
-- that its offer stands; the other end was not dropped, and has no offer that meets it.
pub record MeetsNone (w : World) (i t number index : ℕ) : Type 0 where
  pub end : EndRef
  pub stands : entry_at w i index ≡ Some (OfEnd end)
  pub channel : Channel
  pub there : channel_at w end.kind end.number ≡ Some channel
  pub copy : OpenCopy
  pub under_way : (end_at end.side channel.ends.view).copy ≡ Some copy
  pub of_task : task_by copy.by ≡ t
  pub of_canon : copy.canon ≡ number
  pub untold : copy.event ≡ None
  pub offers : copy.standing ≡ true
  pub not_dropped : (end_at (other_side end.side) channel.ends.view).dropped ≡ false
  pub alone : standing_of (end_at (other_side end.side) channel.ends.view).copy ≡ None

-- At an index stands a subtask, whose task is open, and was asked to come to its end.
pub record HasNotEnded (w : World) (named : List ℕ) (i index : ℕ) : Type 0 where
  pub callee : ℕ
  pub stands : entry_at w i index ≡ Some (OfSubtask callee)
  pub is_open : IsOpen w named callee
  pub asked : is_unasked is_open.task.cancellation ≡ false

-- In a canonical function. A cancellation that is asked of a task ends a wait on a set where the canonical function was made so that it does, and the task's
-- function is lifted with `async`; it ends no other one. A `yield` waits for nothing.
abbrev pub IsMissing : Graph → World → List ℕ → ℕ → ℕ → Task → ℕ → Wait → Type 0
IsMissing g w named i t task number ForYield = ⊥
IsMissing g w named i t task number (ForSet index) =
    HasNoEvent w i index × (is_asked task.cancellation ≡ true → (flag_at g number && not (is_sync (kind_of task))) ≡ false)
IsMissing g w named i t task number (ForCall callee) = HasNotReturned w named t number callee
IsMissing g w named i t task number (ForCopy index) = MeetsNone w i t number index
IsMissing g w named i t task number (ForCancel index) = HasNotEnded w named i index

-- In its loop, by the word that said how to go on: that a cancellation is asked would end a wait. One that yields or polls waits for nothing.
abbrev pub LoopMisses : World → ℕ → Task → Result Next BadCode → Type 0
LoopMisses w i task (Ok (word.Wait index)) = HasNoEvent w i index × (is_asked task.cancellation ≡ false)
LoopMisses w i task said = ⊥

-- A task of an instance waits in vain, by its state: only one that is blocked does. To go on in its loop it needs exclusive entry again.
abbrev pub WaitsInVain : Graph → World → List ℕ → ℕ → ℕ → Task → TaskState → Type 0
WaitsInVain g w named i t task WaitsToEnter = IsKeptOut w named i t task
WaitsInVain g w named i t task (InLoop said) = IsHeldByAnother w named i t ⊎ LoopMisses w i task (callback_of said)
WaitsInVain g w named i t task (InBuiltin number words wait) = IsMissing g w named i t task number wait
WaitsInVain g w named i t task state = ⊥
