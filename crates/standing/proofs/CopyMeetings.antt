-- How a read or a write meets the other end, on both sides.
use Rattle.std.proofs.Common.{◌≡◌, ◌≤◌, ℕ, Bool, true, false, not, ◌&&◌, is_some, is_none, nat_lt, if◌then◌else◌, refl, sym, ap, ◌∙◌, arith, List, Option, Some, None}
use Rattle.std.proofs.lemmas.Bool.{lt-ltb, ltb-false, and_from}
use Rattle.syntax_trees.specs.declared.types.ValType.{ValType}
use Rattle.builtin_kinds.specs.declared.EndKind.{EndKind}
use Rattle.builtin_kinds.specs.declared.EndKind.TheVariants as kind
use Rattle.stream_ends.specs.declared.side.Side.{Side}
use Rattle.stream_ends.specs.declared.open_copy.By.{By}
use Rattle.stream_ends.specs.declared.open_copy.OpenCopy.{OpenCopy}
use Rattle.stream_ends.specs.declared.meet.Meet.{Meet}
use Rattle.stream_ends.specs.declared.meet.Meet.TheVariants as meet
use Rattle.stream_ends.specs.declared.stream_end.End.{End}
use Rattle.stream_ends.specs.Ends.{EndsView, other_side, end_at, standing_of, is_idle, is_copying, arranged, new_copy}
use Rattle.stream_ends.specs.Ends as stream_end
use Rattle.stream_ends.specs.Meeting.{Meeting, with_offer, made_done, room_meet, is_empty_pair, met_full, met_offer, met, met_at, after}
use Rattle.stream_ends.proofs.Counting.{arranged_is}
use Rattle.stream_ends.proofs.Meetings.{if_holds}
use Rattle.future_ends.specs.declared.meet.Meet as future_meet
use Rattle.future_ends.specs.declared.meet.Meet.TheVariants as future
use Rattle.future_ends.specs.Meeting as futures
use Rattle.channels.specs.declared.channel.Ends.{Ends}
use Rattle.channels.specs.declared.channel.Ends.TheVariants.{Stream, Future}
use Rattle.channels.specs.declared.channel.Channel as kept
use Rattle.channels.specs.Channels as channel
use Rattle.channels.specs.Channels.{kind_of, view_of, end_in, with_ends, may_offer, meet_in}
use Rattle.copy_replies.specs.Reads.{most_elements}
use Rattle.abi_machine.specs.World.{Channel}
use Rattle.abi_machine.specs.Edits as world
use Rattle.abi_machine.specs.Copying.{Met, AtOnce, Moves, Stands, stream_met, future_met, met_by}
use Rattle.standing.specs.Stands.{ChannelStands}

-- A copy of a future is of one element.
abbrev pub SizeFits : EndKind → ℕ → Type 0
SizeFits kind.Stream size = Unit {0}
SizeFits kind.Future size = size ≡ 1

-- A read or write may begin.
idle_by : (d n : Bool) (copy : Option OpenCopy) → d ≡ false → n ≡ false → is_some copy ≡ false → (not d && not n && is_none copy) ≡ true
idle_by false false None a b c = refl
idle_by false false (Some copy) a b c = absurd (cc)
idle_by false true copy a b c = absurd (cc)
idle_by true n copy a b c = absurd (cc)

short_when : (size : ℕ) (ends : Ends) → nat_lt most_elements size ≡ false → channel.is_short size ends ≡ true
short_when size (Stream p) few = let most : size ≤ 268435455 = ltb-false 268435455 size few in lt-ltb size 268435456 (omega (arith, most))
short_when size (Future p) few = refl

pub may_offer_when : (side : Side) (size : ℕ) (ends : Ends) → (end_in side ends).dropped ≡ false → (end_in side ends).done ≡ false → is_copying (end_in side ends) ≡ false
    → nat_lt most_elements size ≡ false → may_offer side size ends ≡ true
may_offer_when side size ends live undone none few =
    and_from (is_idle (end_in side ends)) (channel.is_short size ends) (idle_by (end_in side ends).dropped (end_in side ends).done (end_in side ends).copy live undone none)
    (short_when size ends few)

-- What comes of it.
abbrev pub met_of : Meet → Met
met_of meet.Stands = Stands
met_of (meet.Copies count) = Moves count
met_of meet.Dropped = AtOnce 1
met_of meet.Displaces = Stands
met_of meet.ZeroDone = AtOnce 0
met_of meet.NothingNow = AtOnce 0

stream_met_of : (m : Meet) → stream_met m ≡ met_of m
stream_met_of meet.Stands = refl
stream_met_of (meet.Copies count) = refl
stream_met_of meet.Dropped = refl
stream_met_of meet.Displaces = refl
stream_met_of meet.ZeroDone = refl
stream_met_of meet.NothingNow = refl

future_met_of : (m : future_meet.Meet) → future_met m ≡ met_of (channel.future_meet m)
future_met_of future.Stands = refl
future_met_of future.Copies = refl
future_met_of future.Dropped = refl

met_same : (k : EndKind) (side : Side) (by : By) (canon place size : ℕ) (ends : Ends) (view : EndsView) → kind_of ends ≡ k → view_of ends ≡ view → SizeFits k size
    → met_by k side (new_copy by canon place size) view ≡ met_of (meet_in side by canon place size ends)
met_same kind.Stream side by canon place size (Stream p) view of same fits =
    ap (λ (v : EndsView). stream_met (met_at side (new_copy by canon place size) v).meet) (sym same) ∙ stream_met_of (met_at side (new_copy by canon place size) p.ends).meet
met_same kind.Stream side by canon place size (Future p) view of same fits = absurd (cc)
met_same kind.Future side by canon place size (Stream p) view of same fits = absurd (cc)
met_same kind.Future side by canon place size (Future p) view of same fits =
    ap (λ (n : ℕ). future_met (futures.met_at side (new_copy by canon place n) view).meet) fits
    ∙ ap (λ (v : EndsView). future_met (futures.met_at side (futures.new_offer by canon place) v).meet) (sym same)
    ∙ future_met_of (futures.met_at side (futures.new_offer by canon place) p.ends).meet

pub met_alike : (values : List ValType) (k : EndKind) (side : Side) (by : By) (canon place size : ℕ) (c : kept.Channel) (a : Channel) → SizeFits k size → ChannelStands values k c a
    → met_by k side (new_copy by canon place size) a.ends.view ≡ met_of (meet_in side by canon place size c.ends)
met_alike values k side by canon place size c a fits st = met_same k side by canon place size c.ends a.ends.view st.of st.ends fits

-- The ends then.
offered_kind : (side : Side) (by : By) (canon place size : ℕ) (ends : Ends) → kind_of (channel.offered side by canon place size ends) ≡ kind_of ends
offered_kind side by canon place size (Stream p) = refl
offered_kind side by canon place size (Future p) = refl

offered_view : (k : EndKind) (side : Side) (by : By) (canon place size : ℕ) (ends : Ends) (others : stream_end.Ends) → kind_of ends ≡ k → view_of ends ≡ others.view → SizeFits k size
    → view_of (channel.offered side by canon place size ends) ≡ (world.offered_by k side (new_copy by canon place size) others).view
offered_view kind.Stream side by canon place size (Stream p) others of same fits = ap (λ (v : EndsView). after side (met_at side (new_copy by canon place size) v)) same
offered_view kind.Stream side by canon place size (Future p) others of same fits = absurd (cc)
offered_view kind.Future side by canon place size (Stream p) others of same fits = absurd (cc)
offered_view kind.Future side by canon place size (Future p) others of same fits =
    ap (λ (v : EndsView). futures.after side (futures.new_offer by canon place) v) same
    ∙ ap (λ (n : ℕ). futures.after side (new_copy by canon place n) others.view) (sym fits)

pub offered_stands : (values : List ValType) (k : EndKind) (side : Side) (by : By) (canon place size : ℕ) (c : kept.Channel) (a : Channel) → SizeFits k size → ChannelStands values k c a
    → ChannelStands values k (with_ends (channel.offered side by canon place size c.ends) c) (record a { ends = world.offered_by k side (new_copy by canon place size) a.ends })
offered_stands values k side by canon place size c a fits st = record {
  of = offered_kind side by canon place size c.ends ∙ st.of;
  typed = st.typed;
  ends = offered_view k side by canon place size c.ends a.ends st.of st.ends fits;
}

-- A meeting that copies leaves the ends as they are, until it is copied.
abbrev SameIfCopies : End → End → Meeting → Type 0
SameIfCopies own other m = (count : ℕ) → m.meet ≡ meet.Copies count → (m.own ≡ own) × (m.other ≡ other)

no_copies : (own other : End) (m : Meeting) → ((count : ℕ) → m.meet ≡ meet.Copies count → ⊥) → SameIfCopies own other m
no_copies own other m h = λ count e. absurd (h count e)

offer_same : (side : Side) (call : OpenCopy) (own other : End) (o : Option OpenCopy) → SameIfCopies own other (met_offer side call own other o)
offer_same side call own other None = no_copies own other (met_offer side call own other None) (λ count e. cc)
offer_same side call own other (Some offer) =
    if_holds (SameIfCopies own other) (nat_lt offer.copied offer.length) (record { meet = room_meet call offer; own = own; other = other }) (met_full side call own other offer)
    (λ _ count e. (refl, refl))
    (λ _. if_holds (SameIfCopies own other) (is_empty_pair side call offer) (record { meet = meet.ZeroDone; own = own; other = other })
    (record { meet = meet.Displaces; own = with_offer call own; other = stream_end.leaves other })
    (λ _ count e. (refl, refl))
    (λ _. no_copies own other (record { meet = meet.Displaces; own = with_offer call own; other = stream_end.leaves other }) (λ count e. cc)))

meeting_same : (side : Side) (call : OpenCopy) (own other : End) → SameIfCopies own other (met side call own other)
unfolding met
meeting_same side call own other =
    if_holds (SameIfCopies own other) other.dropped (record { meet = meet.Dropped; own = made_done own; other = other }) (met_offer side call own other (standing_of other.copy))
    (λ _. no_copies own other (record { meet = meet.Dropped; own = made_done own; other = other }) (λ count e. cc))
    (λ _. offer_same side call own other (standing_of other.copy))

stream_same : (side : Side) (call : OpenCopy) (view : EndsView) (count : ℕ) → (met_at side call view).meet ≡ meet.Copies count → after side (met_at side call view) ≡ view
stream_same side call view count h =
    let same : ((met_at side call view).own ≡ end_at side view) × ((met_at side call view).other ≡ end_at (other_side side) view) =
    meeting_same side call (end_at side view) (end_at (other_side side) view) count h in
    ap (λ (e : End). arranged side e (met_at side call view).other) same.0
    ∙ ap (λ (e : End). arranged side (end_at side view) e) same.1
    ∙ sym (arranged_is side view)

future_offer : (call : OpenCopy) (own : End) (o : Option OpenCopy) → (futures.met_offer call own o).meet ≡ future.Copies → (futures.met_offer call own o).own ≡ own
future_offer call own None h = absurd (let w : ⊥ = cc in w)
future_offer call own (Some offer) h = refl

abbrev none_left : End → futures.Meeting
none_left own = record { meet = future.Dropped; own = made_done own }

future_meeting : (call : OpenCopy) (own other : End) (b : Bool) → (if b then none_left own else futures.met_offer call own (standing_of other.copy)).meet ≡ future.Copies
    → (if b then none_left own else futures.met_offer call own (standing_of other.copy)).own ≡ own
future_meeting call own other true h = absurd (let w : ⊥ = cc in w)
future_meeting call own other false h = future_offer call own (standing_of other.copy) h

future_own : (call : OpenCopy) (own other : End) → (futures.met call own other).meet ≡ future.Copies → (futures.met call own other).own ≡ own
unfolding futures.met
future_own call own other h = future_meeting call own other other.dropped h

future_copies : (m : future_meet.Meet) (count : ℕ) → channel.future_meet m ≡ meet.Copies count → m ≡ future.Copies
future_copies future.Stands count h = absurd (let w : ⊥ = cc in w)
future_copies future.Copies count h = refl
future_copies future.Dropped count h = absurd (let w : ⊥ = cc in w)

copying_view : (side : Side) (by : By) (canon place size count : ℕ) (ends : Ends) → meet_in side by canon place size ends ≡ meet.Copies count
    → view_of (channel.offered side by canon place size ends) ≡ view_of ends
copying_view side by canon place size count (Stream p) h = stream_same side (new_copy by canon place size) p.ends count h
copying_view side by canon place size count (Future p) h =
    ap (λ (e : End). arranged side e (end_at (other_side side) p.ends))
    (future_own (futures.new_offer by canon place) (end_at side p.ends) (end_at (other_side side) p.ends)
    (future_copies (futures.met_at side (futures.new_offer by canon place) p.ends).meet count h))
    ∙ sym (arranged_is side p.ends)

pub copying_stands : (values : List ValType) (k : EndKind) (side : Side) (by : By) (canon place size count : ℕ) (c : kept.Channel) (a : Channel)
    → meet_in side by canon place size c.ends ≡ meet.Copies count → ChannelStands values k c a
    → ChannelStands values k (with_ends (channel.offered side by canon place size c.ends) c) a
copying_stands values k side by canon place size count c a is st = record {
  of = offered_kind side by canon place size c.ends ∙ st.of;
  typed = st.typed;
  ends = copying_view side by canon place size count c.ends is ∙ st.ends;
}
