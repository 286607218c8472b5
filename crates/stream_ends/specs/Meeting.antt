-- How reads and writes of a stream meet (Component Model, CanonicalABI.md, "Stream State"). A copy is of a read at the
-- readable end, and of a write at the writable end. The rules hold from either side: `own` is the end of the call.
use Rattle.std.specs.Prelude.{◌≡◌, ℕ, ◌-◌, ◌<◌, ◌≤◌, ◌^◌, min, Bool, true, false, not, ◌&&◌, if◌then◌else◌, is_some, nat_lt, nat_eq, IsTrue, Option, Some, None}
use Rattle.std.specs.Option.{option_map, option_or}
use Rattle.stream_ends.specs.declared.side.Side.{Side}
use Rattle.stream_ends.specs.declared.side.Side.TheVariants.{Reader, Writer}
use Rattle.stream_ends.specs.declared.open_copy.Offer.{Offer}
use Rattle.stream_ends.specs.declared.open_copy.OpenCopy.{OpenCopy}
use Rattle.stream_ends.specs.declared.stream_end.End.{End}
use Rattle.stream_ends.specs.declared.meet.Meet.{Meet}
use Rattle.stream_ends.specs.declared.meet.Meet.TheVariants.{Stands, Copies, Dropped, Displaces, ZeroDone, NothingNow}
use Rattle.stream_ends.specs.Ends.{EndsView, end_at, other_side, arranged, standing_of, room_of, length_of, copied_of, offer_of, is_idle, is_copying, has_event, grown, leaves, hears_of_drop}

-- what came of a call, and both ends afterwards
pub record Meeting : Type 0 where
  pub meet : Meet
  pub own : End
  pub other : End

-- the end with the call's offer
abbrev pub with_offer : OpenCopy → End → End
with_offer call own = record own { copy = Some call }

-- the end of a call that is told at once that the other end is dropped
abbrev pub made_done : End → End
made_done own = record own { done = true }

-- what comes of a call at an offer with room: elements are copied as far as both have, and a call for none is completed
abbrev pub room_meet : OpenCopy → OpenCopy → Meet
room_meet call offer =
    if nat_lt 0 call.length then Copies (min (offer.length - offer.copied) call.length) else NothingNow

-- a write of no element that finds a read of none
abbrev pub is_empty_pair : Side → OpenCopy → OpenCopy → Bool
is_empty_pair Reader call offer = false
is_empty_pair Writer call offer = nat_eq offer.length 0 && nat_eq call.length 0

-- The standing offer has no room. An empty write is completed by an empty read; any other call takes the offer's place.
abbrev pub met_full : Side → OpenCopy → End → End → OpenCopy → Meeting
met_full side call own other offer =
    if is_empty_pair side call offer
    then record { meet = ZeroDone; own = own; other = other }
    else record { meet = Displaces; own = with_offer call own; other = leaves other }

-- the call at the offer that stands at the other end
abbrev pub met_offer : Side → OpenCopy → End → End → Option OpenCopy → Meeting
met_offer side call own other None = record { meet = Stands; own = with_offer call own; other = other }
met_offer side call own other (Some offer) =
    if nat_lt offer.copied offer.length then record { meet = room_meet call offer; own = own; other = other } else met_full side call own other offer

-- a call of this side, with its offer
unfoldable pub met : Side → OpenCopy → End → End → Meeting
met side call own other =
    if other.dropped
    then record { meet = Dropped; own = made_done own; other = other }
    else met_offer side call own other (standing_of other.copy)

-- the call at both ends
abbrev pub met_at : Side → OpenCopy → EndsView → Meeting
met_at side call ends = met side call (end_at side ends) (end_at (other_side side) ends)

abbrev pub after : Side → Meeting → EndsView
after side meeting = arranged side meeting.own meeting.other

-- the end's offer stands
abbrev pub stands : End → Bool
stands e = is_some (standing_of e.copy)

-- the offer that stands
abbrev pub standing : EndsView → Option Offer
standing ends =
    option_or (option_map (offer_of Reader) (standing_of ends.reader.copy)) (option_map (offer_of Writer) (standing_of ends.writer.copy))

-- the side of the offer that stands, where one does
abbrev pub standing_side : EndsView → Side
standing_side ends = if stands ends.reader then Reader else Writer

-- the ends with one of them changed
abbrev pub changed : Side → (End → End) → EndsView → EndsView
changed Reader edit ends = record ends { reader = edit ends.reader }
changed Writer edit ends = record ends { writer = edit ends.writer }

-- The ends once so many elements are copied between the standing offer and a call of the other side.
abbrev pub after_copy : ℕ → EndsView → EndsView
after_copy count ends = changed (standing_side ends) (grown count) ends

-- The standing offer has room for so many elements, and the other side is that of a call.
pub record IsDue (count : ℕ) (ends : EndsView) : Type 0 where
  pub some : 1 ≤ count
  pub room : count ≤ room_of (standing_of (end_at (standing_side ends) ends).copy)
  pub idle : IsTrue (is_idle (end_at (other_side (standing_side ends)) ends))

-- a meeting that copies is due
abbrev pub DueIfCopies : Meet → EndsView → Type 0
DueIfCopies (Copies count) ends = IsDue count ends
DueIfCopies Stands ends = Unit {0}
DueIfCopies Dropped ends = Unit {0}
DueIfCopies Displaces ends = Unit {0}
DueIfCopies ZeroDone ends = Unit {0}
DueIfCopies NothingNow ends = Unit {0}

-- An end is dropped once, and not while a copy is under way there.
abbrev pub may_drop : End → Bool
may_drop e = not e.dropped && not (is_copying e)

-- The ends once one of them is dropped. The other one's standing offer is to be told so.
abbrev pub after_dropping : Side → EndsView → EndsView
after_dropping side ends =
    arranged side (record (end_at side ends) { dropped = true }) (hears_of_drop (end_at (other_side side) ends))

-- What holds of an end at any time. The counts of the copy under way are in their ranges, and an end that is done has no
-- copy. A copy of which nothing is to be told stands, and nothing of it is copied.
pub record EndSound (e : End) : Type 0 where
  pub copied : copied_of e.copy ≤ length_of e.copy
  pub length : length_of e.copy < 2 ^ 28
  pub over : e.done ≡ true → is_copying e ≡ false
  pub fresh : has_event e.copy ≡ false → copied_of e.copy ≡ 0
  pub waits : has_event e.copy ≡ false → stands e ≡ is_copying e

-- What holds of both ends at any time: at most one offer stands.
pub record Sound (ends : EndsView) : Type 0 where
  pub reader : EndSound ends.reader
  pub writer : EndSound ends.writer
  pub one : stands ends.reader ≡ true → stands ends.writer ≡ false
