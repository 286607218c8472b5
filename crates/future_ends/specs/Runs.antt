-- Whole runs of a future's ends: reads and writes, deliveries, cancels and drops, one after the other.
use Rattle.std.specs.Prelude.{ℕ, ◌+◌, Bool, true, false, ◌||◌, if◌then◌else◌, List, [], ◌∷◌, ◌++◌, Option, Some, None}
use Rattle.stream_ends.specs.declared.side.Side.{Side}
use Rattle.stream_ends.specs.declared.open_copy.By.{By}
use Rattle.stream_ends.specs.declared.open_copy.CopyResult.{CopyResult}
use Rattle.stream_ends.specs.declared.open_copy.CopyResult.TheVariants.{Completed, Dropped as OtherDropped, Cancelled}
use Rattle.stream_ends.specs.declared.open_copy.OpenCopy.{OpenCopy}
use Rattle.stream_ends.specs.Ends.{ClosedCopy, Ends, end_at, is_idle, is_copying, is_pending, code_of}
use Rattle.stream_ends.specs.Closed.{after_drop}
use Rattle.stream_ends.specs.Runs.{told_to, listed}
use Rattle.future_ends.specs.declared.meet.Meet.{Meet}
use Rattle.future_ends.specs.declared.meet.Meet.TheVariants.{Stands, Copies, Dropped}
use Rattle.future_ends.specs.Meeting.{new_offer, met_at, may_drop_at, told_payload}
use Rattle.future_ends.specs.Closed.{offered, transferred, concluded}

-- what may happen at the ends
pub data Act : Type 0 where
  -- a read or write, with its copy where it meets one
  Call : Side → By → (canon place : ℕ) → Act
  -- a result is told
  Deliver : Side → Act
  -- a copy is given up
  Cancel : Side → Act
  -- an end is dropped
  Drop : Side → Act

-- the values that a meeting copies
abbrev pub count_of : Meet → ℕ
count_of Copies = 1
count_of Stands = 0
count_of Dropped = 0

-- the ends once what a meeting copies is copied
abbrev pub once_copied : Side → Meet → Ends → Ends
once_copied side Copies ends = transferred side ends
once_copied side Stands ends = ends
once_copied side Dropped ends = ends

-- the ends after a call with this offer
abbrev pub called : Side → OpenCopy → Ends → Ends
called side call ends = once_copied side (met_at side call ends.view).meet (offered side call ends)

-- What happens changes the ends where it may happen, and nothing elsewhere.
abbrev pub happens : Ends → Act → Ends
happens ends (Call side by canon place) =
    if is_idle (end_at side ends.view) then called side (new_offer by canon place) ends else ends
happens ends (Deliver side) = if is_pending (end_at side ends.view) then concluded side ends else ends
happens ends (Cancel side) = if is_copying (end_at side ends.view) then concluded side ends else ends
happens ends (Drop side) = if may_drop_at side (end_at side ends.view) then after_drop side ends else ends

-- a whole run
abbrev pub run : List Act → Ends → Ends
run [] ends = ends
run (act ∷ acts) ends = run acts (happens ends act)

-- the values that are copied when this happens
abbrev pub copied_by : Ends → Act → ℕ
copied_by ends (Call side by canon place) =
    if is_idle (end_at side ends.view) then count_of (met_at side (new_offer by canon place) ends.view).meet else 0
copied_by ends (Deliver side) = 0
copied_by ends (Cancel side) = 0
copied_by ends (Drop side) = 0

-- the values that are copied in a run
abbrev pub values : List Act → Ends → ℕ
values [] ends = 0
values (act ∷ acts) ends = copied_by ends act + values acts (happens ends act)

-- the payload of a call that is answered at once
abbrev pub payload_at_once : Meet → Option ℕ
payload_at_once Stands = None
payload_at_once Copies = Some (code_of Completed)
payload_at_once Dropped = Some (code_of OtherDropped)

-- the payloads that a meeting answers at once
abbrev pub answers : Meet → List ℕ
answers meet = listed (payload_at_once meet)

-- the payloads that a side is told when this happens
abbrev pub told_by : Side → Ends → Act → List ℕ
told_by side ends (Call own by canon place) =
    if is_idle (end_at own ends.view) then told_to side own (answers (met_at own (new_offer by canon place) ends.view).meet) else []
told_by side ends (Deliver own) =
    if is_pending (end_at own ends.view) then told_to side own (told_payload (end_at own ends.view).copy ∷ []) else []
told_by side ends (Cancel own) =
    if is_copying (end_at own ends.view) then told_to side own (told_payload (end_at own ends.view).copy ∷ []) else []
told_by side ends (Drop own) = []

-- the payloads that a side is told in a run
abbrev pub payloads : Side → List Act → Ends → List ℕ
payloads side [] ends = []
payloads side (act ∷ acts) ends = told_by side ends act ++ payloads side acts (happens ends act)

-- the payload of a closed copy
abbrev pub payload_at : ClosedCopy → ℕ
payload_at copy = code_of copy.result

-- a result that is no cancel
abbrev pub is_end : CopyResult → Bool
is_end Completed = true
is_end OtherDropped = true
is_end Cancelled = false

-- one of the closed copies was completed, or told that the other end is dropped
abbrev pub has_ended : List ClosedCopy → Bool
has_ended [] = false
has_ended (copy ∷ copies) = is_end copy.result || has_ended copies
