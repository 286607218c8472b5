-- Streams and futures (Component Model, CanonicalABI.md, "Stream State" and "Future State"), each counted from 1: what is told of their ends,
-- and what happens at them. The type of an end tells whether it is of a stream or of a future, since no type has two numbers.
use Rattle.std.specs.Prelude.{ℕ, ◌+◌, ◌-◌, nat_eq, Bool, false, if◌then◌else◌, List, [], ◌∷◌, ◌++◌, length, slice_set, Option, Some, None}
use Rattle.std.specs.List.{slice_get}
use Rattle.builtin_kinds.specs.declared.EndKind.{EndKind}
use Rattle.builtin_kinds.specs.declared.EndKind.TheVariants.{Stream, Future}
use Rattle.stream_ends.specs.declared.side.Side.{Side}
use Rattle.stream_ends.specs.declared.open_copy.By.{By}
use Rattle.stream_ends.specs.declared.meet.Meet.{Meet}
use Rattle.stream_ends.specs.declared.stream_end.End.{End}
use Rattle.stream_ends.specs.Ends.{is_idle, is_copying}
use Rattle.channels.specs.declared.channel.Channel.{Channel}
use Rattle.channels.specs.Channels as channel
use Rattle.channels.specs.Channels.{new_ends, end_in, may_offer, meet_in, is_due, payload_in, may_drop, with_ends}
use Rattle.instances.specs.declared.entry.EndEntry.{EndEntry}
use Rattle.world_parts.specs.Held.{Held, Done, Gives, Stuck, after, given}

-- things that are counted from 1, by their places
abbrev pub place_of : ℕ → Option ℕ
place_of number = if nat_eq number 0 then None else Some (number - 1)

abbrev pub at_place : {A : Type 0} → List A → Option ℕ → Option A
at_place xs None = None
at_place xs (Some place) = slice_get xs place

abbrev pub numbered : {A : Type 0} → List A → ℕ → Option A
numbered xs number = at_place xs (place_of number)

abbrev pub channels : EndKind → Held → List Channel
channels Stream h = h.streams
channels Future h = h.futures

abbrev pub with_channels : EndKind → List Channel → Held → Held
with_channels Stream all h = record h { streams = all }
with_channels Future all h = record h { futures = all }

abbrev pub channel_at : EndKind → ℕ → Held → Option Channel
channel_at kind number h = numbered (channels kind h) number

abbrev pub with_channel : EndKind → ℕ → Channel → Held → Held
with_channel kind place c h = with_channels kind (slice_set (channels kind h) place c) h

-- what an end belongs to
abbrev pub is_of_type : ℕ → Option Channel → Bool
is_of_type type None = false
is_of_type type (Some c) = nat_eq c.end_type type

abbrev pub kind_of_end : EndEntry → Held → EndKind
kind_of_end e h = if is_of_type e.end_type (channel_at Stream e.number h) then Stream else Future

abbrev pub channel_of : EndEntry → Held → Option Channel
channel_of e h = channel_at (kind_of_end e h) e.number h

-- A stream or a future is made.
abbrev pub channel_made : EndKind → ℕ → Held → Done ℕ
channel_made kind type h =
    Gives (length (channels kind h) + 1) (with_channels kind (channels kind h ++ (record { end_type = type; ends = new_ends kind }) ∷ []) h)

-- The end of a side: as it stands, whether it is idle, and the payload of what is told of its copy.
abbrev pub end_seen : EndKind → Side → ℕ → Held → Done End
end_seen kind side number h = given (channel_at kind number h) (λ c. Gives (end_in side c.ends) h)

abbrev pub idle_seen : EndKind → Side → ℕ → Held → Done Bool
idle_seen kind side number h = given (channel_at kind number h) (λ c. Gives (is_idle (end_in side c.ends)) h)

-- what an end answers, if it may, and the stream or future then
abbrev pub answered : {A : Type 0} → Option A → EndKind → ℕ → Channel → Held → Done A
answered None kind place c h = Stuck
answered (Some x) kind place c h = Gives x (with_channel kind place c h)

-- A read or write meets the other end.
abbrev pub offered_at : EndKind → ℕ → Side → By → ℕ → ℕ → ℕ → Held → Done Meet
offered_at kind place side by canon address size h =
    given (slice_get (channels kind h) place) (λ c.
    answered (if may_offer side size c.ends then Some (meet_in side by canon address size c.ends) else None) kind place
    (if may_offer side size c.ends then with_ends (channel.offered side by canon address size c.ends) c else c) h)

abbrev pub offered : EndKind → Side → ℕ → By → ℕ → ℕ → ℕ → Held → Done Meet
offered kind side number by canon address size h = given (place_of number) (λ place. offered_at kind place side by canon address size h)

-- So many elements went over, the copy at an end is told or given up, and an end is dropped.
abbrev pub copied_at : EndKind → ℕ → ℕ → Held → Done (Unit {0})
copied_at kind place count h =
    given (slice_get (channels kind h) place) (λ c.
    if is_due count c.ends then Gives tt (with_channel kind place (with_ends (channel.copied count c.ends) c) h) else Stuck)

abbrev pub copied : EndKind → ℕ → ℕ → Held → Done (Unit {0})
copied kind number count h = given (place_of number) (λ place. copied_at kind place count h)

abbrev pub concluded_at : EndKind → ℕ → Side → Held → Done ℕ
concluded_at kind place side h =
    given (slice_get (channels kind h) place) (λ c.
    answered (if is_copying (end_in side c.ends) then Some (payload_in side c.ends) else None) kind place
    (if is_copying (end_in side c.ends) then with_ends (channel.told side c.ends) c else c) h)

abbrev pub concluded : EndKind → Side → ℕ → Held → Done ℕ
concluded kind side number h = given (place_of number) (λ place. concluded_at kind place side h)

abbrev pub end_dropped_at : EndKind → ℕ → Side → Held → Done (Unit {0})
end_dropped_at kind place side h =
    given (slice_get (channels kind h) place) (λ c.
    if may_drop side c.ends then Gives tt (with_channel kind place (with_ends (channel.dropped side c.ends) c) h) else Stuck)

abbrev pub end_dropped : EndKind → Side → ℕ → Held → Done (Unit {0})
end_dropped kind side number h = given (place_of number) (λ place. end_dropped_at kind place side h)
