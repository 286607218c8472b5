-- What happens at one end of a stream or a future leaves whether the other end is idle, and the marks of ends stay where those of a stream or a
-- future are said right.
use Rattle.std.proofs.Common.{◌≡◌, ◌⊎◌, inl, inr, ℕ, zero, suc, Bool, not, ◌&&◌, is_none, nat_lt, List, [], ◌∷◌, slice_set, refl, sym, ap, ◌∙◌, subst, Option, Some, None}
use Rattle.std.specs.List.{slice_get}
use Rattle.builtin_kinds.specs.declared.EndKind.{EndKind}
use Rattle.builtin_kinds.specs.declared.EndKind.TheVariants as kind
use Rattle.stream_ends.specs.declared.side.Side.{Side}
use Rattle.stream_ends.specs.declared.side.Side.TheVariants.{Reader, Writer}
use Rattle.stream_ends.specs.declared.open_copy.OpenCopy.{OpenCopy}
use Rattle.stream_ends.specs.declared.meet.Meet.TheVariants as meet
use Rattle.stream_ends.specs.declared.stream_end.End.{End}
use Rattle.stream_ends.specs.Ends.{standing_of, is_idle, replaced, leaves, hears_of_drop, new_copy}
use Rattle.stream_ends.specs.Meeting.{Meeting, with_offer, made_done, room_meet, is_empty_pair, met_full, met_offer, met}
use Rattle.stream_ends.proofs.Meetings.{if_holds, standing_is}
use Rattle.channels.specs.declared.channel.Channel.{Channel}
use Rattle.channels.specs.declared.channel.Ends.TheVariants.{Stream, Future}
use Rattle.channels.specs.Channels.{kind_of, end_in}
use Rattle.instances.specs.declared.entry.EndEntry.{EndEntry}
use Rattle.world_parts.specs.Channels.{place_of, at_place, numbered}
use Rattle.abi_machine.proofs.sound.Found.{some_same}
use Rattle.standing.specs.Channels.{of_kind, EndMarked}
use Rattle.standing.specs.EndMarks.{streams_with, futures_with, ChannelsStayMarked, TellingLeavesOther, DroppingLeavesOther, MeetingLeavesOther}

pub telling_leaves_other : TellingLeavesOther
telling_leaves_other Reader (Stream p) = refl
telling_leaves_other Writer (Stream p) = refl
telling_leaves_other Reader (Future p) = refl
telling_leaves_other Writer (Future p) = refl

-- A copy in place of another one is a copy.
replaced_by : (edit : OpenCopy → OpenCopy) (e : End) (o : Option OpenCopy) → standing_of e.copy ≡ o → is_idle (replaced edit o e) ≡ is_idle e
replaced_by edit e None is = refl
replaced_by edit e (Some copy) is =
    ap (λ (b : Bool). not e.dropped && not e.done && b) (sym (ap (λ (o : Option OpenCopy). is_none o) (standing_is e.copy copy is)))

hears_same : (e : End) → is_idle (hears_of_drop e) ≡ is_idle e
hears_same e = replaced_by _ e (standing_of e.copy) refl

leaves_same : (e : End) → is_idle (leaves e) ≡ is_idle e
leaves_same e = replaced_by _ e (standing_of e.copy) refl

pub dropping_leaves_other : DroppingLeavesOther
dropping_leaves_other Reader (Stream p) = hears_same p.ends.writer
dropping_leaves_other Writer (Stream p) = hears_same p.ends.reader
dropping_leaves_other Reader (Future p) = hears_same p.ends.writer
dropping_leaves_other Writer (Future p) = hears_same p.ends.reader

abbrev OtherIdle : End → Meeting → Type 0
OtherIdle other m = is_idle m.other ≡ is_idle other

offer_idle : (side : Side) (call : OpenCopy) (own other : End) (o : Option OpenCopy) → OtherIdle other (met_offer side call own other o)
offer_idle side call own other None = refl
offer_idle side call own other (Some offer) =
    if_holds (OtherIdle other) (nat_lt offer.copied offer.length) (record { meet = room_meet call offer; own = own; other = other }) (met_full side call own other offer)
    (λ _. refl)
    (λ _. if_holds (OtherIdle other) (is_empty_pair side call offer) (record { meet = meet.ZeroDone; own = own; other = other })
    (record { meet = meet.Displaces; own = with_offer call own; other = leaves other }) (λ _. refl) (λ _. leaves_same other))

met_idle : (side : Side) (call : OpenCopy) (own other : End) → OtherIdle other (met side call own other)
unfolding met
met_idle side call own other =
    if_holds (OtherIdle other) other.dropped (record { meet = meet.Dropped; own = made_done own; other = other }) (met_offer side call own other (standing_of other.copy))
    (λ _. refl) (λ _. offer_idle side call own other (standing_of other.copy))

pub meeting_leaves_other : MeetingLeavesOther
meeting_leaves_other Reader by canon place size (Stream p) = met_idle Reader (new_copy by canon place size) p.ends.reader p.ends.writer
meeting_leaves_other Writer by canon place size (Stream p) = met_idle Writer (new_copy by canon place size) p.ends.writer p.ends.reader
meeting_leaves_other Reader by canon place size (Future p) = refl
meeting_leaves_other Writer by canon place size (Future p) = refl

-- A stream or a future is another one.
one_on : {A : Type 0} (m n : ℕ) (o : Option A) (z y : A) → ((m ≡ n) × (o ≡ Some z)) ⊎ (o ≡ Some y) → ((suc m ≡ suc n) × (o ≡ Some z)) ⊎ (o ≡ Some y)
one_on m n o z y (inl both) = inl (ap suc both.0, both.1)
one_on m n o z y (inr there) = inr there

get_other : {A : Type 0} (xs : List A) (m n : ℕ) (c z y : A) → slice_get xs m ≡ Some c → slice_get xs n ≡ Some y
    → ((m ≡ n) × (slice_get (slice_set xs m z) n ≡ Some z)) ⊎ (slice_get (slice_set xs m z) n ≡ Some y)
get_other [] m n c z y is there = absurd (cc)
get_other (x ∷ xs) zero zero c z y is there = inl (refl, refl)
get_other (x ∷ xs) zero (suc n) c z y is there = inr there
get_other (x ∷ xs) (suc m) zero c z y is there = inr there
get_other (x ∷ xs) (suc m) (suc n) c z y is there = one_on m n (slice_get (slice_set xs m z) n) z y (get_other xs m n c z y is there)

by_one : (xs : List Channel) (place number n : ℕ) (z d : Channel) → place_of number ≡ Some n
    → ((place ≡ n) × (slice_get (slice_set xs place z) n ≡ Some z)) ⊎ (slice_get (slice_set xs place z) n ≡ Some d)
    → ((place_of number ≡ Some place) × (slice_get (slice_set xs place z) n ≡ Some z)) ⊎ (slice_get (slice_set xs place z) n ≡ Some d)
by_one xs place number n z d at (inl both) = inl (at ∙ ap (λ (k : ℕ). Some k) (sym both.0), both.1)
by_one xs place number n z d at (inr there) = inr there

still_at : (xs : List Channel) (place number : ℕ) (c z d : Channel) (o : Option ℕ) → place_of number ≡ o → slice_get xs place ≡ Some c → at_place xs o ≡ Some d
    → ((place_of number ≡ Some place) × (at_place (slice_set xs place z) o ≡ Some z)) ⊎ (at_place (slice_set xs place z) o ≡ Some d)
still_at xs place number c z d None at is there = absurd (cc)
still_at xs place number c z d (Some n) at is there = by_one xs place number n z d at (get_other xs place n c z d is there)

-- The channel of an end then.
with_kind : (k : EndKind) (P Q R : Type 0) → (P × Q) ⊎ R → (P × (k ≡ k) × Q) ⊎ R
with_kind k P Q R (inl both) = inl (both.0, refl, both.1)
with_kind k P Q R (inr other) = inr other

pub now_at : (streams futures : List Channel) (kind other : EndKind) (place number : ℕ) (c z d : Channel) → slice_get (of_kind kind streams futures) place ≡ Some c
    → numbered (of_kind other streams futures) number ≡ Some d
    → ((place_of number ≡ Some place) × (kind ≡ other) × (numbered (of_kind other (streams_with kind place z streams) (futures_with kind place z futures)) number ≡ Some z))
    ⊎ (numbered (of_kind other (streams_with kind place z streams) (futures_with kind place z futures)) number ≡ Some d)
now_at streams futures kind.Stream kind.Stream place number c z d is there = with_kind kind.Stream _ _ _ (still_at streams place number c z d (place_of number) refl is there)
now_at streams futures kind.Stream kind.Future place number c z d is there = inr there
now_at streams futures kind.Future kind.Stream place number c z d is there = inr there
now_at streams futures kind.Future kind.Future place number c z d is there = with_kind kind.Future _ _ _ (still_at futures place number c z d (place_of number) refl is there)

same_there : (xs : List Channel) (place number : ℕ) (c d : Channel) → place_of number ≡ Some place → slice_get xs place ≡ Some c → numbered xs number ≡ Some d → d ≡ c
same_there xs place number c d at is there = some_same (sym there ∙ ap (λ (o : Option ℕ). at_place xs o) at ∙ is)

pub still_marked : (streams futures : List Channel) (kind : EndKind) (place : ℕ) (c z : Channel) (e : EndEntry) (m : EndMarked streams futures e)
    → slice_get (of_kind kind streams futures) place ≡ Some c → kind_of z.ends ≡ kind_of c.ends → z.end_type ≡ c.end_type
    → (place_of e.number ≡ Some place → e.is_idle ≡ is_idle (end_in e.side c.ends) → e.end_type ≡ c.end_type → e.is_idle ≡ is_idle (end_in e.side z.ends))
    → ((place_of e.number ≡ Some place) × (kind ≡ m.kind) × (numbered (of_kind m.kind (streams_with kind place z streams) (futures_with kind place z futures)) e.number ≡ Some z))
    ⊎ (numbered (of_kind m.kind (streams_with kind place z streams) (futures_with kind place z futures)) e.number ≡ Some m.channel)
    → EndMarked (streams_with kind place z streams) (futures_with kind place z futures) e
still_marked streams futures kind place c z e m is kinds types idle (inr there) = record {
  kind = m.kind;
  channel = m.channel;
  there = there;
  of = m.of;
  typed = m.typed;
  idle = m.idle;
}
still_marked streams futures kind place c z e m is kinds types idle (inl (at, same, there)) =
    let one : m.channel ≡ c = same_there (of_kind m.kind streams futures) place e.number c m.channel at (subst (λ (k : EndKind). slice_get (of_kind k streams futures) place ≡ Some c) same is) m.there in
    let typed : e.end_type ≡ c.end_type = m.typed ∙ ap (λ (x : Channel). x.end_type) one in
    record {
      kind = m.kind;
      channel = z;
      there = there;
      of = kinds ∙ ap (λ (x : Channel). kind_of x.ends) (sym one) ∙ m.of;
      typed = typed ∙ sym types;
      idle = idle at (m.idle ∙ ap (λ (x : Channel). is_idle (end_in e.side x.ends)) one) typed;
    }

pub channels_stay_marked : ChannelsStayMarked
channels_stay_marked instances streams futures kind place c z is kinds types idle marks =
    λ at index i e there found.
    let m : EndMarked streams futures e = marks at index i e there found in
    still_marked streams futures kind place c z e m is kinds types (λ placed was typed. idle at index i e there found placed was typed)
    (now_at streams futures kind m.kind place e.number c z m.channel is m.there)
