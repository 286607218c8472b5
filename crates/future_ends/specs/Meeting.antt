-- How the read and the write of a future meet (Component Model, CanonicalABI.md, "Future State"). A copy is of the read
-- at the readable end, and of the write at the writable end, and each has length 1. The rules hold from either side:
-- `own` is the end of the call. The ends are a stream's ends.
use Rattle.std.specs.Prelude.{◌≡◌, ℕ, ◌≤◌, Bool, true, false, ◌&&◌, ◌||◌, if◌then◌else◌, is_some, IsTrue, Option, Some, None}
use Rattle.stream_ends.specs.declared.side.Side.{Side}
use Rattle.stream_ends.specs.declared.side.Side.TheVariants.{Reader, Writer}
use Rattle.stream_ends.specs.declared.open_copy.By.{By}
use Rattle.stream_ends.specs.declared.open_copy.CopyEvent.TheVariants.{Completed as EventCompleted}
use Rattle.stream_ends.specs.declared.open_copy.OpenCopy.{OpenCopy}
use Rattle.stream_ends.specs.declared.stream_end.End.{End}
use Rattle.future_ends.specs.declared.meet.Meet.{Meet}
use Rattle.future_ends.specs.declared.meet.Meet.TheVariants.{Stands, Copies, Dropped}
use Rattle.stream_ends.specs.Ends.{EndsView, end_at, other_side, arranged, new_copy, standing_of, length_of, copied_of, has_event, code_of, result_of, replaced, is_idle, is_copying}
use Rattle.stream_ends.specs.Meeting.{with_offer, made_done, may_drop, stands, standing_side}

-- the offer of a read or write
abbrev pub new_offer : By → ℕ → ℕ → OpenCopy
new_offer by canon place = new_copy by canon place 1

-- what came of a call, and its own end afterwards. The other end stays as it is
pub record Meeting : Type 0 where
  pub meet : Meet
  pub own : End

-- the call at the offer that stands at the other end
abbrev pub met_offer : OpenCopy → End → Option OpenCopy → Meeting
met_offer call own None = record { meet = Stands; own = with_offer call own }
met_offer call own (Some offer) = record { meet = Copies; own = own }

-- a call with its offer
unfoldable pub met : OpenCopy → End → End → Meeting
met call own other =
    if other.dropped then record { meet = Dropped; own = made_done own } else met_offer call own (standing_of other.copy)

-- the call at both ends
abbrev pub met_at : Side → OpenCopy → EndsView → Meeting
met_at side call ends = met call (end_at side ends) (end_at (other_side side) ends)

abbrev pub after : Side → OpenCopy → EndsView → EndsView
after side call ends = arranged side (met_at side call ends).own (end_at (other_side side) ends)

-- an end whose standing offer has its value: it is over, and is told so
abbrev pub taken : End → End
taken e = replaced (λ copy. record copy { copied = 1; event = Some EventCompleted; standing = false }) (standing_of e.copy) e

-- The ends once the value is copied between the standing offer and a call of the other side: that call is completed.
abbrev pub copied_from : Side → EndsView → EndsView
copied_from side ends = arranged side (taken (end_at side ends)) (made_done (end_at (other_side side) ends))

abbrev pub after_copy : EndsView → EndsView
after_copy ends = copied_from (standing_side ends) ends

-- An offer stands, and the other side is that of a call.
pub record IsDue (ends : EndsView) : Type 0 where
  pub offer : IsTrue (stands (end_at (standing_side ends) ends))
  pub idle : IsTrue (is_idle (end_at (other_side (standing_side ends)) ends))

-- a meeting that copies is due
abbrev pub DueIfCopies : Meet → EndsView → Type 0
DueIfCopies Copies ends = IsDue ends
DueIfCopies Stands ends = Unit {0}
DueIfCopies Dropped ends = Unit {0}

-- what is told of the copy under way
abbrev pub told_payload : Option OpenCopy → ℕ
told_payload None = 0
told_payload (Some copy) = code_of (result_of copy.event)

-- a copy that ends the future for its end: one that is told of anything but a cancel
abbrev pub ends_future : Option OpenCopy → Bool
ends_future None = false
ends_future (Some copy) = is_some copy.event

-- an end once its copy is told: idle after a cancel, else done
abbrev pub told : End → End
told e = record e { done = e.done || ends_future e.copy; copy = None }

-- An end is dropped once, and not while a copy is under way there. A writable end is dropped only when it is done.
abbrev pub may_drop_at : Side → End → Bool
may_drop_at Reader e = may_drop e
may_drop_at Writer e = may_drop e && e.done

-- What holds of an end at any time. Once it is done it has no copy. A copy has length 1, and nothing is copied of an offer
-- that stands. A copy of which nothing is to be told stands.
pub record EndSound (e : End) : Type 0 where
  pub over : e.done ≡ true → is_copying e ≡ false
  pub length : is_copying e ≡ true → length_of e.copy ≡ 1
  pub copied : copied_of e.copy ≤ 1
  pub fresh : copied_of (standing_of e.copy) ≡ 0
  pub waits : has_event e.copy ≡ false → stands e ≡ is_copying e

-- What holds of both ends at any time: at most one offer stands.
pub record Sound (ends : EndsView) : Type 0 where
  pub reader : EndSound ends.reader
  pub writer : EndSound ends.writer
  pub one : stands ends.reader ≡ true → stands ends.writer ≡ false
