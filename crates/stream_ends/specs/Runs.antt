-- Whole runs of a stream's ends: reads and writes, deliveries, cancels and drops, one after the other.
use Rattle.std.specs.Prelude.{ℕ, ◌+◌, ◌^◌, Bool, ◌&&◌, if◌then◌else◌, nat_lt, List, [], ◌∷◌, ◌++◌, sum_by, Option, Some, None}
use Rattle.stream_ends.specs.declared.side.Side.{Side}
use Rattle.stream_ends.specs.declared.side.Side.TheVariants.{Reader, Writer}
use Rattle.stream_ends.specs.declared.open_copy.By.{By}
use Rattle.stream_ends.specs.declared.open_copy.CopyResult.TheVariants.{Completed, Dropped as OtherDropped}
use Rattle.stream_ends.specs.declared.open_copy.OpenCopy.{OpenCopy}
use Rattle.stream_ends.specs.declared.meet.Meet.{Meet}
use Rattle.stream_ends.specs.declared.meet.Meet.TheVariants.{Stands, Copies, Dropped, Displaces, ZeroDone, NothingNow}
use Rattle.stream_ends.specs.Ends.{ClosedCopy, Ends, end_at, new_copy, copied_of, is_idle, is_copying, is_pending, payload_of, told_payload}
use Rattle.stream_ends.specs.Meeting.{met_at, may_drop}
use Rattle.stream_ends.specs.Closed.{closed_at, offered, transferred, concluded, after_drop}

-- what may happen at the ends
pub data Act : Type 0 where
  -- a read or write of this length, with its copy where it meets one
  Call : Side → By → (canon place length : ℕ) → Act
  -- a result is told
  Deliver : Side → Act
  -- a copy is given up
  Cancel : Side → Act
  -- an end is dropped
  Drop : Side → Act

-- the elements that a meeting copies
abbrev pub count_of : Meet → ℕ
count_of (Copies count) = count
count_of Stands = 0
count_of Dropped = 0
count_of Displaces = 0
count_of ZeroDone = 0
count_of NothingNow = 0

-- the ends once what a meeting copies is copied
abbrev pub once_copied : Side → ℕ → Meet → Ends → Ends
once_copied side length (Copies count) ends = transferred side length count ends
once_copied side length Stands ends = ends
once_copied side length Dropped ends = ends
once_copied side length Displaces ends = ends
once_copied side length ZeroDone ends = ends
once_copied side length NothingNow ends = ends

-- the end may be read or written with this length
abbrev pub may_call : Side → ℕ → Ends → Bool
may_call side length ends = is_idle (end_at side ends.view) && nat_lt length (2 ^ 28)

-- the ends after a call with this offer
abbrev pub called : Side → OpenCopy → Ends → Ends
called side call ends = once_copied side call.length (met_at side call ends.view).meet (offered side call ends)

-- What happens changes the ends where it may happen, and nothing elsewhere.
abbrev pub happens : Ends → Act → Ends
happens ends (Call side by canon place length) =
    if may_call side length ends then called side (new_copy by canon place length) ends else ends
happens ends (Deliver side) = if is_pending (end_at side ends.view) then concluded side ends else ends
happens ends (Cancel side) = if is_copying (end_at side ends.view) then concluded side ends else ends
happens ends (Drop side) = if may_drop (end_at side ends.view) then after_drop side ends else ends

-- a whole run
abbrev pub run : List Act → Ends → Ends
run [] ends = ends
run (act ∷ acts) ends = run acts (happens ends act)

-- the elements that are copied when this happens
abbrev pub copied_by : Ends → Act → ℕ
copied_by ends (Call side by canon place length) =
    if may_call side length ends then count_of (met_at side (new_copy by canon place length) ends.view).meet else 0
copied_by ends (Deliver side) = 0
copied_by ends (Cancel side) = 0
copied_by ends (Drop side) = 0

-- the elements that are copied in a run
abbrev pub elements : List Act → Ends → ℕ
elements [] ends = 0
elements (act ∷ acts) ends = copied_by ends act + elements acts (happens ends act)

-- the elements that passed an end: those of its closed copies, and of the one under way
abbrev pub passed : Side → Ends → ℕ
passed side ends = sum_by (λ copy. copy.count) (closed_at side ends) + copied_of (end_at side ends.view).copy

-- the payload of a call that is answered at once
abbrev pub payload_at_once : Meet → Option ℕ
payload_at_once Stands = None
payload_at_once (Copies count) = Some (payload_of Completed count)
payload_at_once Dropped = Some (payload_of OtherDropped 0)
payload_at_once Displaces = None
payload_at_once ZeroDone = Some (payload_of Completed 0)
payload_at_once NothingNow = Some (payload_of Completed 0)

abbrev pub listed : Option ℕ → List ℕ
listed None = []
listed (Some payload) = payload ∷ []

-- the payloads that a meeting answers at once
abbrev pub answers : Meet → List ℕ
answers meet = listed (payload_at_once meet)

-- of what is told to one side, what the other is told
abbrev pub told_to : Side → Side → List ℕ → List ℕ
told_to Reader Reader payloads = payloads
told_to Reader Writer payloads = []
told_to Writer Reader payloads = []
told_to Writer Writer payloads = payloads

-- the payloads that a side is told when this happens
abbrev pub told_by : Side → Ends → Act → List ℕ
told_by side ends (Call own by canon place length) =
    if may_call own length ends
    then told_to side own (answers (met_at own (new_copy by canon place length) ends.view).meet)
    else []
told_by side ends (Deliver own) =
    if is_pending (end_at own ends.view) then told_to side own (told_payload (end_at own ends.view).copy ∷ []) else []
told_by side ends (Cancel own) =
    if is_copying (end_at own ends.view) then told_to side own (told_payload (end_at own ends.view).copy ∷ []) else []
told_by side ends (Drop own) = []

-- the payloads that a side is told in a run
abbrev pub payloads : Side → List Act → Ends → List ℕ
payloads side [] ends = []
payloads side (act ∷ acts) ends = told_by side ends act ++ payloads side acts (happens ends act)

-- the payload of a closed copy
abbrev pub payload_at : ClosedCopy → ℕ
payload_at copy = payload_of copy.result copy.count
