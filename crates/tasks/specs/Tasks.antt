-- What happens to a task (Component Model, CanonicalABI.md, "Task State", `canon task.return` and `canon task.cancel`;
-- Concurrency.md, "Cancellation").
use Rattle.std.specs.Prelude.{◌+◌, ◌-◌, ◌^◌, Bool, true, false, not, ◌&&◌, ◌||◌, nat_lt, if◌then◌else◌, is_some, is_none, Option, Some, None, Result, Ok, Err}
use Rattle.entry_gate.specs.declared.kind.Kind.{Kind}
use Rattle.entry_gate.specs.declared.kind.Kind.TheVariants.{Sync, Callback, Stackful}
use Rattle.tasks.specs.declared.event.BlockedAt.{BlockedAt}
use Rattle.tasks.specs.declared.event.BlockedAt.TheVariants.{Entry, Loop, Yield, Set, Call, Copy, Cancel as AtCancel}
use Rattle.tasks.specs.declared.event.TaskEvent.{TaskEvent}
use Rattle.tasks.specs.declared.event.TaskEvent.TheVariants.{Enter, Block, Go, AskReturn, Return, Cancel, Borrow, Unborrow, ToldCancel, Exit}
use Rattle.tasks.specs.declared.event.TaskTrap.{TaskTrap}
use Rattle.tasks.specs.declared.event.TaskTrap.TheVariants.{SyncTask, NotAsked as NeverTold, Resolved, BorrowLives}
use Rattle.tasks.specs.declared.event.Asked.{Asked}
use Rattle.tasks.specs.declared.event.Asked.TheVariants.{Removed, ResumeNow, Pending}
use Rattle.tasks.specs.declared.phase.Caller.{Caller}
use Rattle.tasks.specs.declared.phase.Caller.TheVariants.{Nobody, Host, Guest}
use Rattle.tasks.specs.declared.phase.Phase.{Phase}
use Rattle.tasks.specs.declared.phase.Phase.TheVariants.{New, Acting, Blocked, Exited}
use Rattle.tasks.specs.declared.phase.Resolution.{Resolution}
use Rattle.tasks.specs.declared.phase.Resolution.TheVariants.{Returned, Cancelled}
use Rattle.tasks.specs.declared.phase.Cancellation.{Cancellation}
use Rattle.tasks.specs.declared.phase.Cancellation.TheVariants.{NotAsked, Asked as WasAsked, Delivered}
use Rattle.tasks.specs.declared.subtask_state.SubtaskState.{SubtaskState}
use Rattle.tasks.specs.declared.subtask_state.SubtaskState.TheVariants.{Starting, Started, Returned as StateReturned, CancelledBeforeStarted, CancelledBeforeReturned}
use Rattle.tasks.specs.Views.{TaskView}

-- a new task
abbrev pub new_task : Kind → Caller → TaskView
new_task kind caller =
    record { kind = kind; caller = caller; phase = New; resolution = None; cancellation = NotAsked; borrows = 0 }

abbrev pub is_sync : Kind → Bool
is_sync Sync = true
is_sync Callback = false
is_sync Stackful = false

abbrev pub is_nobody : Caller → Bool
is_nobody Nobody = true
is_nobody (Host call) = false
is_nobody (Guest task) = false

abbrev pub is_entry : BlockedAt → Bool
is_entry Entry = true
is_entry (Loop word) = false
is_entry Yield = false
is_entry (Set index) = false
is_entry (Call task) = false
is_entry (Copy index) = false
is_entry (AtCancel index) = false

abbrev pub is_new : Phase → Bool
is_new New = true
is_new Acting = false
is_new (Blocked why flag) = false
is_new Exited = false

abbrev pub is_acting : Phase → Bool
is_acting New = false
is_acting Acting = true
is_acting (Blocked why flag) = false
is_acting Exited = false

-- the task waits to enter
abbrev pub waits_to_enter : Phase → Bool
waits_to_enter New = false
waits_to_enter Acting = false
waits_to_enter (Blocked why flag) = is_entry why
waits_to_enter Exited = false

-- the task is blocked, and has entered
abbrev pub waits_inside : Phase → Bool
waits_inside New = false
waits_inside Acting = false
waits_inside (Blocked why flag) = not (is_entry why)
waits_inside Exited = false

abbrev pub is_asked : Cancellation → Bool
is_asked NotAsked = false
is_asked WasAsked = true
is_asked Delivered = false

abbrev pub is_told : Cancellation → Bool
is_told NotAsked = false
is_told WasAsked = false
is_told Delivered = true

-- The caller may ask for this event now.
abbrev pub may_happen : TaskEvent → TaskView → Bool
may_happen Enter t = is_new t.phase || waits_to_enter t.phase
may_happen (Block why flag) t = if is_entry why then is_new t.phase else is_acting t.phase
may_happen Go t = waits_inside t.phase
may_happen AskReturn t = is_acting t.phase
may_happen Return t = is_acting t.phase
may_happen Cancel t = is_acting t.phase
may_happen Borrow t = is_acting t.phase && (is_none t.resolution && nat_lt t.borrows (2 ^ 64 - 1))
may_happen Unborrow t = nat_lt 0 t.borrows
may_happen ToldCancel t = is_asked t.cancellation
may_happen Exit t = is_acting t.phase && (is_some t.resolution || is_nobody t.caller)

-- why a task can't be resolved now
abbrev pub resolving_fault : TaskView → Option TaskTrap
resolving_fault t = if is_some t.resolution then Some Resolved else (if nat_lt 0 t.borrows then Some BorrowLives else None)

-- why `task.return` can't be called
abbrev pub asking_fault : TaskView → Option TaskTrap
asking_fault t = if is_sync t.kind then Some SyncTask else None

-- why `task.cancel` can't be called
abbrev pub cancel_fault : TaskView → Option TaskTrap
cancel_fault t = if is_sync t.kind then Some SyncTask else (if is_told t.cancellation then resolving_fault t else Some NeverTold)

-- why an event is refused: the first failed test
abbrev pub fault : TaskEvent → TaskView → Option TaskTrap
fault Enter t = None
fault (Block why flag) t = None
fault Go t = None
fault AskReturn t = asking_fault t
fault Return t = resolving_fault t
fault Cancel t = cancel_fault t
fault Borrow t = None
fault Unborrow t = None
fault ToldCancel t = None
fault Exit t = None

-- the answer to an event
abbrev pub answer : Option TaskTrap → Result (Unit {0}) TaskTrap
answer None = Ok tt
answer (Some trap) = Err trap

-- the task once an event happened
abbrev pub after : TaskEvent → TaskView → TaskView
after Enter t = record t { phase = Acting }
after (Block why flag) t = record t { phase = Blocked why flag }
after Go t = record t { phase = Acting }
after AskReturn t = t
after Return t = record t { resolution = Some Returned }
after Cancel t = record t { resolution = Some Cancelled }
after Borrow t = record t { borrows = t.borrows + 1 }
after Unborrow t = record t { borrows = t.borrows - 1 }
after ToldCancel t = record t { cancellation = Delivered }
after Exit t = record t { phase = Exited }

abbrev pub unless : Option TaskTrap → TaskView → TaskView → TaskView
unless None later t = later
unless (Some trap) later t = t

-- The task after an event, which changes nothing where it is refused.
abbrev pub advanced : TaskEvent → TaskView → TaskView
advanced event t = unless (fault event t) (after event t) t

-- A cancellation ends this wait: in the loop where no task holds exclusive entry, and in a wait or `yield` with the flag
-- where the task isn't sync.
abbrev pub is_cancellable : Bool → Kind → BlockedAt → Bool → Bool
is_cancellable entry_free kind Entry flag = false
is_cancellable entry_free kind (Loop word) flag = entry_free
is_cancellable entry_free kind Yield flag = flag && not (is_sync kind)
is_cancellable entry_free kind (Set index) flag = flag && not (is_sync kind)
is_cancellable entry_free kind (Call task) flag = false
is_cancellable entry_free kind (Copy index) flag = false
is_cancellable entry_free kind (AtCancel index) flag = false

-- what comes of a request to cancel a task that is blocked there
abbrev pub blocked_case : Bool → Kind → BlockedAt → Bool → Asked
blocked_case entry_free kind why flag =
    if is_entry why then Removed else (if is_cancellable entry_free kind why flag then ResumeNow else Pending)

abbrev pub phase_case : Bool → Kind → Phase → Asked
phase_case entry_free kind New = Pending
phase_case entry_free kind Acting = Pending
phase_case entry_free kind (Blocked why flag) = blocked_case entry_free kind why flag
phase_case entry_free kind Exited = Pending

-- what comes of a request to cancel a task: the first case that holds
abbrev pub cancel_case : Bool → TaskView → Asked
cancel_case entry_free t = phase_case entry_free t.kind t.phase

-- That it be cancelled may be asked.
abbrev pub is_unasked : Cancellation → Bool
is_unasked NotAsked = true
is_unasked WasAsked = false
is_unasked Delivered = false

abbrev pub may_cancel : TaskView → Bool
may_cancel t = is_none t.resolution && is_unasked t.cancellation

-- the task once a cancellation was asked
abbrev pub cancelled : Asked → TaskView → TaskView
cancelled Removed t = record t { phase = Exited; resolution = Some Cancelled }
cancelled ResumeNow t = record t { cancellation = WasAsked }
cancelled Pending t = record t { cancellation = WasAsked }

abbrev pub open_state : Phase → SubtaskState
open_state New = Starting
open_state Acting = Started
open_state (Blocked why flag) = if is_entry why then Starting else Started
open_state Exited = Started

abbrev pub resolved_state : Cancellation → Option Resolution → Phase → SubtaskState
resolved_state c None phase = open_state phase
resolved_state c (Some Returned) phase = StateReturned
resolved_state c (Some Cancelled) phase = if is_told c then CancelledBeforeReturned else CancelledBeforeStarted

-- The state of the subtask that this task is for its caller. A task that is cancelled before it was told was cancelled
-- before it entered.
abbrev pub state_of : TaskView → SubtaskState
state_of t = resolved_state t.cancellation t.resolution t.phase
