-- The two ends of a stream, without the values that pass through it (Component Model, CanonicalABI.md, "Stream State"):
-- what is under way at each end, what was closed there, and the edits of one end.
use Rattle.std.specs.Prelude.{ℕ, ◌+◌, ◌-◌, ◌*◌, Bool, true, false, not, ◌&&◌, ◌||◌, if◌then◌else◌, is_some, is_none, List, Option, Some, None}
use Rattle.stream_ends.specs.declared.side.Side.{Side}
use Rattle.stream_ends.specs.declared.side.Side.TheVariants.{Reader, Writer}
use Rattle.stream_ends.specs.declared.open_copy.By.{By}
use Rattle.stream_ends.specs.declared.open_copy.CopyEvent.{CopyEvent}
use Rattle.stream_ends.specs.declared.open_copy.CopyEvent.TheVariants.{Completed as EventCompleted, Dropped as OtherDropped}
use Rattle.stream_ends.specs.declared.open_copy.CopyResult.{CopyResult}
use Rattle.stream_ends.specs.declared.open_copy.CopyResult.TheVariants.{Completed, Dropped, Cancelled}
use Rattle.stream_ends.specs.declared.open_copy.Offer.{Offer}
use Rattle.stream_ends.specs.declared.open_copy.OpenCopy.{OpenCopy}
use Rattle.stream_ends.specs.declared.stream_end.End.{End}

-- both ends as they stand
pub record EndsView : Type 0 where
  pub reader : End
  pub writer : End

-- a copy that was told
pub record ClosedCopy : Type 0 where
  pub length : ℕ
  pub result : CopyResult
  pub count : ℕ

-- both ends, and the closed copies of each, the first one first
pub record Ends : Type 0 where
  pub view : EndsView
  pub reader_closed : List ClosedCopy
  pub writer_closed : List ClosedCopy

abbrev pub other_side : Side → Side
other_side Reader = Writer
other_side Writer = Reader

abbrev pub end_at : Side → EndsView → End
end_at Reader ends = ends.reader
end_at Writer ends = ends.writer

-- the ends of a stream, from one side
abbrev pub arranged : Side → End → End → EndsView
arranged Reader own other = record { reader = own; writer = other }
arranged Writer own other = record { reader = other; writer = own }

abbrev pub no_end : End
no_end = record { dropped = false; done = false; copy = None }

-- a copy as it begins: it stands, and nothing is copied
abbrev pub new_copy : By → ℕ → ℕ → ℕ → OpenCopy
new_copy by canon place length =
    record { by = by; canon = canon; place = place; length = length; copied = 0; event = None; standing = true }

-- the copy that the other end can meet
abbrev pub standing_of : Option OpenCopy → Option OpenCopy
standing_of None = None
standing_of (Some copy) = if copy.standing then Some copy else None

-- how much can still be copied
abbrev pub room_of : Option OpenCopy → ℕ
room_of None = 0
room_of (Some copy) = copy.length - copy.copied

abbrev pub offer_of : Side → OpenCopy → Offer
offer_of side copy =
    record { side = side; by = copy.by; canon = copy.canon; place = copy.place; length = copy.length; copied = copy.copied }

-- a copy may begin
abbrev pub is_idle : End → Bool
is_idle e = not e.dropped && not e.done && is_none e.copy

abbrev pub is_copying : End → Bool
is_copying e = is_some e.copy

-- a result waits to be told
abbrev pub has_event : Option OpenCopy → Bool
has_event None = false
has_event (Some copy) = is_some copy.event

abbrev pub is_pending : End → Bool
is_pending e = has_event e.copy

-- how a copy with this event ends when it is told. With none it is cancelled
abbrev pub result_of : Option CopyEvent → CopyResult
result_of (Some EventCompleted) = Completed
result_of (Some OtherDropped) = Dropped
result_of None = Cancelled

abbrev pub code_of : CopyResult → ℕ
code_of Completed = 0
code_of Dropped = 1
code_of Cancelled = 2

abbrev pub payload_of : CopyResult → ℕ → ℕ
payload_of result count = code_of result + 16 * count

-- what is told of the copy under way
abbrev pub told_payload : Option OpenCopy → ℕ
told_payload None = 0
told_payload (Some copy) = payload_of (result_of copy.event) copy.copied

abbrev pub is_dropped : CopyResult → Bool
is_dropped Dropped = true
is_dropped Completed = false
is_dropped Cancelled = false

abbrev pub ends_stream : Option OpenCopy → Bool
ends_stream None = false
ends_stream (Some copy) = is_dropped (result_of copy.event)

-- an end once its copy is told: idle, or done after dropped
abbrev pub told : End → End
told e = record e { done = e.done || ends_stream e.copy; copy = None }

abbrev pub length_of : Option OpenCopy → ℕ
length_of None = 0
length_of (Some copy) = copy.length

abbrev pub copied_of : Option OpenCopy → ℕ
copied_of None = 0
copied_of (Some copy) = copy.copied

-- an end with another copy in place of the standing one
abbrev pub replaced : (OpenCopy → OpenCopy) → Option OpenCopy → End → End
replaced edit None e = e
replaced edit (Some copy) e = record e { copy = Some (edit copy) }

-- an end with so many more elements of its standing offer copied
abbrev pub grown : ℕ → End → End
grown count e = replaced (λ copy. record copy { copied = copy.copied + count; event = Some EventCompleted }) (standing_of e.copy) e

-- an end whose standing offer is completed and leaves
abbrev pub leaves : End → End
leaves e = replaced (λ copy. record copy { event = Some EventCompleted; standing = false }) (standing_of e.copy) e

-- an end whose standing offer is to be told that the other end is dropped. It stands until it is told
abbrev pub hears_of_drop : End → End
hears_of_drop e = replaced (λ copy. record copy { event = Some OtherDropped }) (standing_of e.copy) e
