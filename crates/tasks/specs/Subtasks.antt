-- A subtask: how its states rise, what of them the caller is told, and when what it lent for the call is free again
-- (Component Model, CanonicalABI.md, "Subtask State").
use Rattle.std.specs.Prelude.{ℕ, Bool, true, false, not, nat_eq, if◌then◌else◌, [], ◌∷◌, ◌++◌}
use Rattle.tasks.specs.declared.subtask_state.SubtaskState.{SubtaskState}
use Rattle.tasks.specs.declared.subtask_state.SubtaskState.TheVariants.{Starting, Started, Returned, CancelledBeforeStarted, CancelledBeforeReturned}
use Rattle.tasks.specs.Views.{SubtaskView}

-- the number by which a state is told
abbrev pub code_of : SubtaskState → ℕ
code_of Starting = 0
code_of Started = 1
code_of Returned = 2
code_of CancelledBeforeStarted = 3
code_of CancelledBeforeReturned = 4

-- the callee is resolved
abbrev pub is_over : SubtaskState → Bool
is_over Starting = false
is_over Started = false
is_over Returned = true
is_over CancelledBeforeStarted = true
is_over CancelledBeforeReturned = true

-- a state that comes right after another: a subtask starts or is cancelled before, and then returns or is cancelled
abbrev pub follows_starting : SubtaskState → Bool
follows_starting Starting = false
follows_starting Started = true
follows_starting Returned = false
follows_starting CancelledBeforeStarted = true
follows_starting CancelledBeforeReturned = false

abbrev pub follows_started : SubtaskState → Bool
follows_started Starting = false
follows_started Started = false
follows_started Returned = true
follows_started CancelledBeforeStarted = false
follows_started CancelledBeforeReturned = true

abbrev pub follows : SubtaskState → SubtaskState → Bool
follows Starting later = follows_starting later
follows Started later = follows_started later
follows Returned later = false
follows CancelledBeforeStarted later = false
follows CancelledBeforeReturned later = false

abbrev pub new_subtask : ℕ → SubtaskView
new_subtask callee = record { callee = callee; state = Starting; told = Starting; lends = [] }

-- there is something to tell: the state isn't the one that was told last
abbrev pub has_event : SubtaskView → Bool
has_event s = not (nat_eq (code_of s.state) (code_of s.told))

-- the subtask in a new state
abbrev pub raised : SubtaskState → SubtaskView → SubtaskView
raised state s = record s { state = state }

-- the subtask once its state is told. With the last state what it lent is free again.
abbrev pub delivered : SubtaskView → SubtaskView
delivered s = record s { told = s.state; lends = if is_over s.state then [] else s.lends }

-- the subtask once one more handle is lent for it
abbrev pub with_lend : ℕ → SubtaskView → SubtaskView
with_lend handle s = record s { lends = s.lends ++ handle ∷ [] }
