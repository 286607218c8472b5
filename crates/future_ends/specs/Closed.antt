-- The ends of a future with the copies that were told: what each call adds to them. A copy is told once, by the call
-- that closes it. The count of a closed copy is 1 where the value was copied, and 0 elsewhere.
use Rattle.std.specs.Prelude.{List, []}
use Rattle.stream_ends.specs.declared.side.Side.{Side}
use Rattle.stream_ends.specs.declared.open_copy.CopyResult.TheVariants.{Completed, Dropped as OtherDropped}
use Rattle.stream_ends.specs.declared.open_copy.OpenCopy.{OpenCopy}
use Rattle.stream_ends.specs.Ends.{ClosedCopy, Ends, end_at}
use Rattle.stream_ends.specs.Meeting.{changed}
use Rattle.stream_ends.specs.Closed.{closing, closed_as, closed_from}
use Rattle.future_ends.specs.declared.meet.Meet.{Meet}
use Rattle.future_ends.specs.declared.meet.Meet.TheVariants.{Stands, Copies, Dropped}
use Rattle.future_ends.specs.Meeting.{met_at, after, after_copy, told}

-- What a call closes by its meeting. An offer that stands is closed later, and one that copies by `transferred`
abbrev pub closed_at_once : Meet → List ClosedCopy
closed_at_once Stands = []
closed_at_once Copies = []
closed_at_once Dropped = closed_as 1 OtherDropped 0

-- the ends after a call of this side, with its offer
abbrev pub offered : Side → OpenCopy → Ends → Ends
offered side call ends = closing side (closed_at_once (met_at side call ends.view).meet) (after side call ends.view) ends

-- the ends after the value was copied to or from a call of this side, which completes the call
abbrev pub transferred : Side → Ends → Ends
transferred side ends = closing side (closed_as 1 Completed 1) (after_copy ends.view) ends

-- the ends after the copy at this one was told
abbrev pub concluded : Side → Ends → Ends
concluded side ends = closing side (closed_from (end_at side ends.view).copy) (changed side told ends.view) ends
