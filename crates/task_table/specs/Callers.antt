-- Who called a task, and the caller's side of the call (Component Model, CanonicalABI.md, "Subtask State").
use Rattle.std.specs.Prelude.{◌≡◌, ℕ, Bool, true, false, not, ◌&&◌, IsTrue, if◌then◌else◌, List, [], Option, Some, None, Result, Ok, Err}
use Rattle.tasks.specs.Views.{SubtaskView}
use Rattle.tasks.specs.Subtasks as subtasks
use Rattle.tasks.specs.Subtasks.{code_of, follows, is_over, has_event, delivered, new_subtask}
use Rattle.tasks.specs.declared.phase.Caller as views
use Rattle.tasks.specs.declared.phase.Caller.TheVariants as view
use Rattle.tasks.specs.declared.subtask_state.SubtaskState.{SubtaskState}
use Rattle.task_table.specs.declared.caller.Called.{Called}
use Rattle.task_table.specs.declared.caller.Caller.{Caller}
use Rattle.task_table.specs.declared.caller.Caller.TheVariants.{Nobody, Host, Guest}
use Rattle.task_table.specs.declared.refusal.LendError.{LendError}
use Rattle.task_table.specs.declared.refusal.LendError.TheVariants.{NoCall, Memory}

-- a new call of a task
abbrev pub new_called : ℕ → ℕ → List ℕ → ℕ → Called
new_called by canon words callee = record { by = by; canon = canon; words = words; subtask = new_subtask callee; result = []; is_awaited = false }

-- the caller by a number
abbrev pub caller_view : Caller → views.Caller
caller_view Nobody = view.Nobody
caller_view (Host call) = view.Host call
caller_view (Guest called) = view.Guest called.by

-- the call, where a task called
abbrev pub called_of : Caller → Option Called
called_of Nobody = None
called_of (Host call) = None
called_of (Guest called) = Some called

abbrev pub with_subtask : SubtaskView → Called → Called
with_subtask subtask called = record called { subtask = subtask }

-- The call in the next state; where another state comes next nothing changes.
abbrev pub raised : SubtaskState → Called → Called
raised state called = if follows called.subtask.state state then with_subtask (subtasks.raised state called.subtask) called else called

-- the call once its state is told, which changes nothing where it was told before
abbrev pub told : Called → Called
told called = if has_event called.subtask then with_subtask (delivered called.subtask) called else called

-- the call once a handle is lent for it
abbrev pub with_lend : ℕ → Called → Called
with_lend handle called = with_subtask (subtasks.with_lend handle called.subtask) called

-- A handle is lent for a call that isn't resolved.
abbrev pub CalledLends : ℕ → Called → Result (Unit {0}) LendError → Called → Type 0
CalledLends handle old (Ok done) new = IsTrue (not (is_over old.subtask.state)) × (new ≡ with_lend handle old)
CalledLends handle old (Err NoCall) new = IsTrue (is_over old.subtask.state) × (new ≡ old)
CalledLends handle old (Err Memory) new = IsTrue (not (is_over old.subtask.state)) × (new ≡ old)

-- what is changed in the call, where a task called
abbrev pub changed : (Called → Called) → Caller → Caller
changed f Nobody = Nobody
changed f (Host call) = Host call
changed f (Guest called) = Guest (f called)

-- A caller is to be told the state, by a set: no task waits for the subtask directly.
abbrev pub called_has_news : Called → Bool
called_has_news called = has_event called.subtask && not called.is_awaited

abbrev pub has_news : Caller → Bool
has_news Nobody = false
has_news (Host call) = false
has_news (Guest called) = called_has_news called

-- a task waits for the subtask directly, or not
abbrev pub awaited : Bool → Called → Called
awaited is_awaited called = record called { is_awaited = is_awaited }

-- what it is told
abbrev pub payload_of : Caller → Option ℕ
payload_of Nobody = None
payload_of (Host call) = None
payload_of (Guest called) = Some (code_of called.subtask.state)

-- the caller's handles that are lent
abbrev pub lends_of : Caller → Option (List ℕ)
lends_of Nobody = None
lends_of (Host call) = None
lends_of (Guest called) = Some called.subtask.lends

-- no state rises, or this one comes next
abbrev pub may_raise : SubtaskState → Caller → Bool
may_raise state Nobody = true
may_raise state (Host call) = true
may_raise state (Guest called) = follows called.subtask.state state

-- a task called: its result is kept, and it may wait for the call
abbrev pub may_keep : Caller → Bool
may_keep Nobody = false
may_keep (Host call) = false
may_keep (Guest called) = true

-- A handle is lent for a call by a task.
abbrev pub CallerLends : ℕ → Caller → Result (Unit {0}) LendError → Caller → Type 0
CallerLends handle (Guest called) (Ok done) new = IsTrue (not (is_over called.subtask.state)) × (new ≡ Guest (with_lend handle called))
CallerLends handle (Guest called) (Err NoCall) new = IsTrue (is_over called.subtask.state) × (new ≡ Guest called)
CallerLends handle (Guest called) (Err Memory) new = IsTrue (not (is_over called.subtask.state)) × (new ≡ Guest called)
CallerLends handle Nobody (Ok done) new = ⊥
CallerLends handle Nobody (Err NoCall) new = new ≡ Nobody
CallerLends handle Nobody (Err Memory) new = ⊥
CallerLends handle (Host call) (Ok done) new = ⊥
CallerLends handle (Host call) (Err NoCall) new = new ≡ Host call
CallerLends handle (Host call) (Err Memory) new = ⊥
