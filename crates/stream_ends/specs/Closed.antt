-- The ends of a stream with the copies that were told: what each call adds to them. A copy is told once, by the call
-- that closes it.
use Rattle.std.specs.Prelude.{ℕ, List, [], ◌∷◌, ◌++◌, Option, Some, None}
use Rattle.stream_ends.specs.declared.side.Side.{Side}
use Rattle.stream_ends.specs.declared.side.Side.TheVariants.{Reader, Writer}
use Rattle.stream_ends.specs.declared.open_copy.CopyResult.{CopyResult}
use Rattle.stream_ends.specs.declared.open_copy.CopyResult.TheVariants.{Completed, Dropped as OtherDropped}
use Rattle.stream_ends.specs.declared.open_copy.OpenCopy.{OpenCopy}
use Rattle.stream_ends.specs.declared.meet.Meet.{Meet}
use Rattle.stream_ends.specs.declared.meet.Meet.TheVariants.{Stands, Copies, Dropped, Displaces, ZeroDone, NothingNow}
use Rattle.stream_ends.specs.Ends.{EndsView, ClosedCopy, Ends, no_end, end_at, result_of, told}
use Rattle.stream_ends.specs.Meeting.{met_at, after, after_copy, after_dropping, changed}

-- a new stream
abbrev pub new_ends : Ends
new_ends = record { view = record { reader = no_end; writer = no_end }; reader_closed = []; writer_closed = [] }

abbrev pub closed_at : Side → Ends → List ClosedCopy
closed_at Reader ends = ends.reader_closed
closed_at Writer ends = ends.writer_closed

-- what is closed at the one side, of what a call of the other closes
abbrev pub reader_part : Side → List ClosedCopy → List ClosedCopy
reader_part Reader copies = copies
reader_part Writer copies = []

abbrev pub writer_part : Side → List ClosedCopy → List ClosedCopy
writer_part Reader copies = []
writer_part Writer copies = copies

-- the ends after a call of this side that closed these copies of its own
abbrev pub closing : Side → List ClosedCopy → EndsView → Ends → Ends
closing side copies view ends =
    record {
      view = view;
      reader_closed = ends.reader_closed ++ reader_part side copies;
      writer_closed = ends.writer_closed ++ writer_part side copies;
    }

abbrev pub closed_as : ℕ → CopyResult → ℕ → List ClosedCopy
closed_as length result count = record { length = length; result = result; count = count } ∷ []

-- What a call of this length closes by its meeting. An offer that stands is closed later, and one that copies by `transferred`
abbrev pub closed_at_once : ℕ → Meet → List ClosedCopy
closed_at_once length Stands = []
closed_at_once length (Copies count) = []
closed_at_once length Dropped = closed_as length OtherDropped 0
closed_at_once length Displaces = []
closed_at_once length ZeroDone = closed_as length Completed 0
closed_at_once length NothingNow = closed_as length Completed 0

-- the ends after a call of this side, with its offer
abbrev pub offered : Side → OpenCopy → Ends → Ends
offered side call ends =
    closing side (closed_at_once call.length (met_at side call ends.view).meet) (after side (met_at side call ends.view)) ends

-- the ends after so many elements of a call of this side and this length were copied, which completes the call
abbrev pub transferred : Side → ℕ → ℕ → Ends → Ends
transferred side length count ends = closing side (closed_as length Completed count) (after_copy count ends.view) ends

-- the copy under way, as it is closed
abbrev pub closed_from : Option OpenCopy → List ClosedCopy
closed_from None = []
closed_from (Some copy) = closed_as copy.length (result_of copy.event) copy.copied

-- the ends after the copy at this one was told
abbrev pub concluded : Side → Ends → Ends
concluded side ends = closing side (closed_from (end_at side ends.view).copy) (changed side told ends.view) ends

-- the ends after this one was dropped
abbrev pub after_drop : Side → Ends → Ends
after_drop side ends = record ends { view = after_dropping side ends.view }
