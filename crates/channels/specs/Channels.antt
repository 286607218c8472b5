-- Streams and futures with one face (Component Model, CanonicalABI.md, "Stream State" and "Future State"): what is told of their ends, and what
-- each call makes of them, by the definitions of streams and of futures.
use Rattle.std.specs.Prelude.{ℕ, ◌^◌, nat_eq, nat_lt, Bool, true, ◌&&◌, Option}
use Rattle.builtin_kinds.specs.declared.EndKind.{EndKind}
use Rattle.builtin_kinds.specs.declared.EndKind.TheVariants as kind
use Rattle.stream_ends.specs.declared.side.Side.{Side}
use Rattle.stream_ends.specs.declared.open_copy.By.{By}
use Rattle.stream_ends.specs.declared.open_copy.Offer.{Offer}
use Rattle.stream_ends.specs.declared.stream_end.End.{End}
use Rattle.stream_ends.specs.declared.meet.Meet.{Meet}
use Rattle.stream_ends.specs.declared.meet.Meet.TheVariants as meet
use Rattle.stream_ends.specs.Ends.{EndsView, end_at, is_idle, new_copy}
use Rattle.stream_ends.specs.Ends as stream_end
use Rattle.stream_ends.specs.Meeting as streams
use Rattle.stream_ends.specs.Closed.{new_ends as no_ends}
use Rattle.stream_ends.specs.Places as stream_place
use Rattle.future_ends.specs.declared.meet.Meet as future
use Rattle.future_ends.specs.declared.meet.Meet.TheVariants as met
use Rattle.future_ends.specs.Meeting as futures
use Rattle.future_ends.specs.Places as future_place
use Rattle.channels.specs.declared.channel.Ends.{Ends}
use Rattle.channels.specs.declared.channel.Ends.TheVariants.{Stream, Future}
use Rattle.channels.specs.declared.channel.Channel.{Channel}

-- new ends, the kind of ends, and both as they stand
abbrev pub new_ends : EndKind → Ends
new_ends kind.Stream = Stream (stream_place.settled no_ends.view)
new_ends kind.Future = Future (future_place.settled no_ends.view)

abbrev pub kind_of : Ends → EndKind
kind_of (Stream p) = kind.Stream
kind_of (Future p) = kind.Future

abbrev pub view_of : Ends → EndsView
view_of (Stream p) = p.ends
view_of (Future p) = p.ends

abbrev pub with_ends : Ends → Channel → Channel
with_ends ends c = record c { ends = ends }

-- one of the ends, and the offer that stands
abbrev pub end_in : Side → Ends → End
end_in side ends = end_at side (view_of ends)

abbrev pub standing_in : Ends → Option Offer
standing_in ends = streams.standing (view_of ends)

-- The end may be read or written with this length.
abbrev pub is_short : ℕ → Ends → Bool
is_short length (Stream p) = nat_lt length (2 ^ 28)
is_short length (Future p) = true

abbrev pub may_offer : Side → ℕ → Ends → Bool
may_offer side length ends = is_idle (end_in side ends) && is_short length ends

-- what comes of a read or write, that of a future as of a stream with one element
abbrev pub future_meet : future.Meet → Meet
future_meet met.Stands = meet.Stands
future_meet met.Copies = meet.Copies 1
future_meet met.Dropped = meet.Dropped

abbrev pub meet_in : Side → By → (canon place length : ℕ) → Ends → Meet
meet_in side by canon place length (Stream p) = (streams.met_at side (new_copy by canon place length) p.ends).meet
meet_in side by canon place length (Future p) = future_meet (futures.met_at side (futures.new_offer by canon place) p.ends).meet

-- the ends then
abbrev pub offered : Side → By → (canon place length : ℕ) → Ends → Ends
offered side by canon place length (Stream p) = Stream (stream_place.offered_at side (new_copy by canon place length) p)
offered side by canon place length (Future p) = Future (future_place.offered_at side (futures.new_offer by canon place) p)

-- a meeting of so many elements is due, and the ends once they are moved
abbrev pub is_due : ℕ → Ends → Bool
is_due count (Stream p) = stream_place.is_due count p
is_due count (Future p) = nat_eq count 1 && p.is_due

abbrev pub copied : ℕ → Ends → Ends
copied count (Stream p) = Stream (stream_place.settled (streams.after_copy count p.ends))
copied count (Future p) = Future (future_place.settled (futures.after_copy p.ends))

-- what is told of the copy at an end, and the ends once it is told
abbrev pub payload_in : Side → Ends → ℕ
payload_in side (Stream p) = stream_end.told_payload (end_at side p.ends).copy
payload_in side (Future p) = futures.told_payload (end_at side p.ends).copy

abbrev pub told : Side → Ends → Ends
told side (Stream p) = Stream (stream_place.settled (streams.changed side stream_end.told p.ends))
told side (Future p) = Future (future_place.settled (streams.changed side futures.told p.ends))

-- whether an end may be dropped, and the ends then
abbrev pub may_drop : Side → Ends → Bool
may_drop side (Stream p) = streams.may_drop (end_at side p.ends)
may_drop side (Future p) = futures.may_drop_at side (end_at side p.ends)

abbrev pub dropped : Side → Ends → Ends
dropped side (Stream p) = Stream (stream_place.settled (streams.after_dropping side p.ends))
dropped side (Future p) = Future (future_place.settled (streams.after_dropping side p.ends))
