-- Streams and futures change neither memories nor core instances.
use Rattle.std.proofs.Common.{refl, Some}
use Rattle.std.specs.Prelude.{ℕ, if◌then◌else◌, List, [], ◌∷◌, ◌++◌, slice_set, Option, Some, None}
use Rattle.std.specs.List.{slice_get}
use Rattle.builtin_kinds.specs.declared.EndKind.{EndKind}
use Rattle.builtin_kinds.specs.declared.EndKind.TheVariants.{Stream, Future}
use Rattle.stream_ends.specs.declared.side.Side.{Side}
use Rattle.stream_ends.specs.declared.open_copy.By.{By}
use Rattle.stream_ends.specs.Ends.{is_idle, is_copying}
use Rattle.channels.specs.declared.channel.Channel.{Channel}
use Rattle.channels.specs.Channels as channel
use Rattle.channels.specs.Channels.{new_ends, end_in, may_offer, meet_in, is_due, payload_in, may_drop, with_ends}
use Rattle.world_parts.specs.Held.{Held, Gives, Stuck}
use Rattle.world_parts.specs.Channels.{answered, channel_at, channel_made, channels, concluded, concluded_at, copied, copied_at, end_dropped, end_dropped_at, end_seen, idle_seen, offered, offered_at, place_of, with_channel, with_channels}
use Rattle.run_laws.proofs.keeping.still.Still.{no_kinds, Still, StillBy, still_given, still_if, still_same, still_bare}

-- Streams and futures are others.
channels_still : (kind : EndKind) (all : List Channel) (h : Held) → Still no_kinds h (with_channels kind all h)
channels_still Stream all h = still_bare h (with_channels Stream all h) refl refl
channels_still Future all h = still_bare h (with_channels Future all h) refl refl

pub channel_made_still : (kind : EndKind) (type : ℕ) (h : Held) → StillBy no_kinds h (channel_made kind type h)
channel_made_still kind type h =
    channels_still kind (channels kind h ++ (record { end_type = type; ends = new_ends kind }) ∷ []) h

answered_still : {A : Type 0} (o : Option A) (kind : EndKind) (place : ℕ) (c : Channel) (h : Held) → StillBy no_kinds h (answered o kind place c h)
answered_still None kind place c h = tt
answered_still (Some x) kind place c h = channels_still kind (slice_set (channels kind h) place c) h

pub offered_at_still : (kind : EndKind) (place : ℕ) (side : Side) (by : By) (canon address size : ℕ) (h : Held) → StillBy no_kinds h (offered_at kind place side by canon address size h)
offered_at_still kind place side by canon address size h =
    still_given no_kinds h (slice_get (channels kind h) place)
    (λ c.
    answered (if may_offer side size c.ends then Some (meet_in side by canon address size c.ends) else None) kind place
    (if may_offer side size c.ends then with_ends (channel.offered side by canon address size c.ends) c else c) h)
    (λ c is.
    answered_still (if may_offer side size c.ends then Some (meet_in side by canon address size c.ends) else None) kind place
    (if may_offer side size c.ends then with_ends (channel.offered side by canon address size c.ends) c else c) h)

pub copied_at_still : (kind : EndKind) (place count : ℕ) (h : Held) → StillBy no_kinds h (copied_at kind place count h)
copied_at_still kind place count h =
    still_given no_kinds h (slice_get (channels kind h) place)
    (λ c. if is_due count c.ends then Gives (tt {0}) (with_channel kind place (with_ends (channel.copied count c.ends) c) h) else Stuck)
    (λ c is.
    still_if no_kinds h (is_due count c.ends) (Gives (tt {0}) (with_channel kind place (with_ends (channel.copied count c.ends) c) h)) Stuck
    (channels_still kind (slice_set (channels kind h) place (with_ends (channel.copied count c.ends) c)) h) tt)

pub concluded_at_still : (kind : EndKind) (place : ℕ) (side : Side) (h : Held) → StillBy no_kinds h (concluded_at kind place side h)
concluded_at_still kind place side h =
    still_given no_kinds h (slice_get (channels kind h) place)
    (λ c.
    answered (if is_copying (end_in side c.ends) then Some (payload_in side c.ends) else None) kind place
    (if is_copying (end_in side c.ends) then with_ends (channel.told side c.ends) c else c) h)
    (λ c is.
    answered_still (if is_copying (end_in side c.ends) then Some (payload_in side c.ends) else None) kind place
    (if is_copying (end_in side c.ends) then with_ends (channel.told side c.ends) c else c) h)

pub end_dropped_at_still : (kind : EndKind) (place : ℕ) (side : Side) (h : Held) → StillBy no_kinds h (end_dropped_at kind place side h)
end_dropped_at_still kind place side h =
    still_given no_kinds h (slice_get (channels kind h) place)
    (λ c. if may_drop side c.ends then Gives (tt {0}) (with_channel kind place (with_ends (channel.dropped side c.ends) c) h) else Stuck)
    (λ c is.
    still_if no_kinds h (may_drop side c.ends) (Gives (tt {0}) (with_channel kind place (with_ends (channel.dropped side c.ends) c) h)) Stuck
    (channels_still kind (slice_set (channels kind h) place (with_ends (channel.dropped side c.ends) c)) h) tt)

pub end_seen_still : (kind : EndKind) (side : Side) (number : ℕ) (h : Held) → StillBy no_kinds h (end_seen kind side number h)
end_seen_still kind side number h =
    still_given no_kinds h (channel_at kind number h) (λ c. Gives (end_in side c.ends) h) (λ c is. still_same no_kinds h)

pub idle_seen_still : (kind : EndKind) (side : Side) (number : ℕ) (h : Held) → StillBy no_kinds h (idle_seen kind side number h)
idle_seen_still kind side number h =
    still_given no_kinds h (channel_at kind number h) (λ c. Gives (is_idle (end_in side c.ends)) h) (λ c is. still_same no_kinds h)

pub offered_still : (kind : EndKind) (side : Side) (number : ℕ) (by : By) (canon : ℕ) (address : ℕ) (size : ℕ) (h : Held) → StillBy no_kinds h (offered kind side number by canon address size h)
offered_still kind side number by canon address size h =
    still_given no_kinds h (place_of number) (λ place. offered_at kind place side by canon address size h) (λ place is. offered_at_still kind place side by canon address size h)

pub copied_still : (kind : EndKind) (number : ℕ) (count : ℕ) (h : Held) → StillBy no_kinds h (copied kind number count h)
copied_still kind number count h =
    still_given no_kinds h (place_of number) (λ place. copied_at kind place count h) (λ place is. copied_at_still kind place count h)

pub concluded_still : (kind : EndKind) (side : Side) (number : ℕ) (h : Held) → StillBy no_kinds h (concluded kind side number h)
concluded_still kind side number h =
    still_given no_kinds h (place_of number) (λ place. concluded_at kind place side h) (λ place is. concluded_at_still kind place side h)

pub end_dropped_still : (kind : EndKind) (side : Side) (number : ℕ) (h : Held) → StillBy no_kinds h (end_dropped kind side number h)
end_dropped_still kind side number h =
    still_given no_kinds h (place_of number) (λ place. end_dropped_at kind place side h) (λ place is. end_dropped_at_still kind place side h)
