-- What happened to a task, and what a task is by that.
use Rattle.std.specs.Prelude.{◌≡◌, ◌+◌, Bool, true, false, List, [], ◌∷◌, ◌++◌, Option, Some, None}
use Rattle.std.specs.List.{count_by, list_any}
use Rattle.std.specs.Option.{option_to_list}
use Rattle.entry_gate.specs.declared.kind.Kind.{Kind}
use Rattle.tasks.specs.declared.event.TaskEvent.{TaskEvent}
use Rattle.tasks.specs.declared.event.TaskEvent.TheVariants.{Enter, Block, Go, AskReturn, Return, Cancel, Borrow, Unborrow, ToldCancel, Exit}
use Rattle.tasks.specs.declared.event.TaskTrap.{TaskTrap}
use Rattle.tasks.specs.declared.event.Asked.{Asked}
use Rattle.tasks.specs.declared.event.Asked.TheVariants.{Removed, ResumeNow, Pending}
use Rattle.tasks.specs.declared.phase.Caller.{Caller}
use Rattle.tasks.specs.declared.phase.Phase.{Phase}
use Rattle.tasks.specs.declared.phase.Phase.TheVariants.{New, Acting, Blocked, Exited}
use Rattle.tasks.specs.declared.phase.Resolution.{Resolution}
use Rattle.tasks.specs.declared.phase.Resolution.TheVariants.{Returned, Cancelled}
use Rattle.tasks.specs.declared.phase.Cancellation.{Cancellation}
use Rattle.tasks.specs.declared.phase.Cancellation.TheVariants.{NotAsked, Asked as WasAsked, Delivered}
use Rattle.tasks.specs.Views.{TaskView}

-- what happened
pub data Happening : Type 0 where
  -- an event that wasn't refused
  Did : TaskEvent → Happening
  -- a cancellation was asked
  AskedToCancel : Happening
  -- the task was removed, which waited to enter
  WasRemoved : Happening

-- a task's kind and caller, and what happened to it, the first first
pub record History : Type 0 where
  pub kind : Kind
  pub caller : Caller
  pub happenings : List Happening

abbrev pub history_of : Kind → Caller → History
history_of kind caller = record { kind = kind; caller = caller; happenings = [] }

abbrev pub and_then : Happening → History → History
and_then happening h = record h { happenings = h.happenings ++ happening ∷ [] }

-- the history after an event, which leaves nothing where it is refused
abbrev pub happened : Option TaskTrap → TaskEvent → History → History
happened None event h = and_then (Did event) h
happened (Some trap) event h = h

-- the history after a cancellation was asked
abbrev pub asked_for : Asked → History → History
asked_for Removed h = and_then WasRemoved h
asked_for ResumeNow h = and_then AskedToCancel h
asked_for Pending h = and_then AskedToCancel h

-- where an event leaves a task
abbrev pub phase_after : TaskEvent → Phase → Phase
phase_after Enter phase = Acting
phase_after (Block why flag) phase = Blocked why flag
phase_after Go phase = Acting
phase_after AskReturn phase = phase
phase_after Return phase = phase
phase_after Cancel phase = phase
phase_after Borrow phase = phase
phase_after Unborrow phase = phase
phase_after ToldCancel phase = phase
phase_after Exit phase = Exited

abbrev pub phase_once : Happening → Phase → Phase
phase_once (Did event) phase = phase_after event phase
phase_once AskedToCancel phase = phase
phase_once WasRemoved phase = Exited

-- where a task is
abbrev pub phase_by : Phase → List Happening → Phase
phase_by phase [] = phase
phase_by phase (happening ∷ later) = phase_by (phase_once happening phase) later

-- how an event resolves a task, if it does
abbrev pub resolves : TaskEvent → Option Resolution
resolves Enter = None
resolves (Block why flag) = None
resolves Go = None
resolves AskReturn = None
resolves Return = Some Returned
resolves Cancel = Some Cancelled
resolves Borrow = None
resolves Unborrow = None
resolves ToldCancel = None
resolves Exit = None

abbrev pub resolution_at : Happening → Option Resolution
resolution_at (Did event) = resolves event
resolution_at AskedToCancel = None
resolution_at WasRemoved = Some Cancelled

-- all resolutions of a task
abbrev pub resolutions : List Happening → List Resolution
resolutions [] = []
resolutions (happening ∷ later) = option_to_list (resolution_at happening) ++ resolutions later

-- a borrow handle is made
abbrev pub makes_borrow : TaskEvent → Bool
makes_borrow Enter = false
makes_borrow (Block why flag) = false
makes_borrow Go = false
makes_borrow AskReturn = false
makes_borrow Return = false
makes_borrow Cancel = false
makes_borrow Borrow = true
makes_borrow Unborrow = false
makes_borrow ToldCancel = false
makes_borrow Exit = false

-- a borrow handle is dropped
abbrev pub drops_borrow : TaskEvent → Bool
drops_borrow Enter = false
drops_borrow (Block why flag) = false
drops_borrow Go = false
drops_borrow AskReturn = false
drops_borrow Return = false
drops_borrow Cancel = false
drops_borrow Borrow = false
drops_borrow Unborrow = true
drops_borrow ToldCancel = false
drops_borrow Exit = false

-- the task is told of its cancellation
abbrev pub is_telling : TaskEvent → Bool
is_telling Enter = false
is_telling (Block why flag) = false
is_telling Go = false
is_telling AskReturn = false
is_telling Return = false
is_telling Cancel = false
is_telling Borrow = false
is_telling Unborrow = false
is_telling ToldCancel = true
is_telling Exit = false

abbrev pub is_borrow : Happening → Bool
is_borrow (Did event) = makes_borrow event
is_borrow AskedToCancel = false
is_borrow WasRemoved = false

abbrev pub is_unborrow : Happening → Bool
is_unborrow (Did event) = drops_borrow event
is_unborrow AskedToCancel = false
is_unborrow WasRemoved = false

abbrev pub asks : Happening → Bool
asks (Did event) = false
asks AskedToCancel = true
asks WasRemoved = false

abbrev pub tells : Happening → Bool
tells (Did event) = is_telling event
tells AskedToCancel = false
tells WasRemoved = false

-- how far a cancellation is, of which this says whether it was asked and whether the task was told
abbrev pub far : Bool → Bool → Cancellation
far asked true = Delivered
far true false = WasAsked
far false false = NotAsked

-- A task is this after this history: it was resolved at most once, and so. Of the borrow handles that were made for it
-- those are live that were not dropped.
pub record StandsFor (h : History) (t : TaskView) : Type 0 where
  pub kind : t.kind ≡ h.kind
  pub caller : t.caller ≡ h.caller
  pub phase : t.phase ≡ phase_by New h.happenings
  pub resolution : resolutions h.happenings ≡ option_to_list t.resolution
  pub cancellation : t.cancellation ≡ far (list_any asks h.happenings) (list_any tells h.happenings)
  pub borrows : t.borrows + count_by is_unborrow h.happenings ≡ count_by is_borrow h.happenings
