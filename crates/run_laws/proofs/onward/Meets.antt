-- Where a read or a write meets an offer so that elements go over: the stream or the future, as it is before and then, and that the call and the offer have room for what goes over.
use Rattle.std.proofs.Common.{◌≡◌, ◌<◌, ◌≤◌, ◌+◌, ◌-◌, ℕ, min, nat_lt, Bool, true, false, if◌then◌else◌, is_some, refl, sym, ap, ◌∙◌, subst, arith, Option, Some, None, Result, Ok, Err}
use Rattle.std.specs.List.{slice_get}
use Rattle.std.proofs.lemmas.Bool.{eqb-true, ltb-true}
use Rattle.builtin_kinds.specs.declared.EndKind.{EndKind}
use Rattle.builtin_kinds.specs.declared.EndKind.TheVariants as kind
use Rattle.stream_ends.specs.declared.side.Side.{Side}
use Rattle.stream_ends.specs.declared.side.Side.TheVariants.{Reader, Writer}
use Rattle.stream_ends.specs.declared.open_copy.By.{By}
use Rattle.stream_ends.specs.declared.open_copy.By.TheVariants as by
use Rattle.stream_ends.specs.declared.open_copy.OpenCopy.{OpenCopy}
use Rattle.stream_ends.specs.declared.meet.Meet.{Meet}
use Rattle.stream_ends.specs.declared.meet.Meet.TheVariants as meet
use Rattle.stream_ends.specs.declared.stream_end.End.{End}
use Rattle.stream_ends.specs.Ends.{EndsView, other_side, end_at, standing_of, copied_of, length_of, new_copy}
use Rattle.stream_ends.specs.Ends as stream_end
use Rattle.stream_ends.specs.Meeting as streams
use Rattle.future_ends.specs.declared.meet.Meet as future_meets
use Rattle.future_ends.specs.declared.meet.Meet.TheVariants as future
use Rattle.future_ends.specs.Meeting as futures
use Rattle.channels.specs.declared.channel.Channel.{Channel}
use Rattle.channels.specs.declared.channel.Ends.{Ends}
use Rattle.channels.specs.declared.channel.Ends.TheVariants as ends
use Rattle.channels.specs.Channels as channel
use Rattle.channels.specs.Channels.{future_meet, kind_of, may_offer, meet_in, view_of, with_ends}
use Rattle.instances.specs.declared.entry.EndEntry.{EndEntry}
use Rattle.instances.specs.declared.entry.WorldEntry.{WorldEntry}
use Rattle.instances.specs.declared.entry.WorldEntry.TheVariants as entry
use Rattle.instances.specs.Entries as entries
use Rattle.res_handles.specs.declared.refusal.Refusal.{Refusal}
use Rattle.res_handles.specs.declared.refusal.Refusal.TheVariants.{OtherKind, OtherType}
use Rattle.world_parts.specs.Held.{Held, Done, Gives, given}
use Rattle.world_parts.specs.Channels.{answered, at_place, channel_at, channels, offered, offered_at, place_of, with_channel}
use Rattle.standing.proofs.Agreeing.{get_set}
use Rattle.standing.proofs.CopyMeetings.{SizeFits}

-- What is found by a number before and then, where so many elements go over.
pub record HasMet (side : Side) (t canon place size count : ℕ) (before later : Option Channel) : Type 0 where
  pub met : Channel
  pub here : before ≡ Some met
  pub meets : meet_in side (by.Task t) canon place size met.ends ≡ meet.Copies count
  pub then_is : later ≡ Some (with_ends (channel.offered side (by.Task t) canon place size met.ends) met)

what_gives : {A : Type 0} {x y : A} {h k : Held} → Gives x h ≡ Gives y k → x ≡ y
what_gives e = cc

held_gives : {A : Type 0} {x y : A} {h k : Held} → Gives x h ≡ Gives y k → h ≡ k
held_gives e = cc

pub met_by_offer : (k : EndKind) (side : Side) (number t canon place size count : ℕ) (m l : Held) → offered k side number (by.Task t) canon place size m ≡ Gives (meet.Copies count) l
    → HasMet side t canon place size count (channel_at k number m) (channel_at k number l)
met_by_offer k side number t canon place size count m l e = by_place (place_of number) refl e
  where
    Goal : Type 0
    Goal = HasMet side t canon place size count (channel_at k number m) (channel_at k number l)

    put_there : (k : EndKind) (at : ℕ) (c z : Channel) → place_of number ≡ Some at → slice_get (channels k m) at ≡ Some c → channel_at k number (with_channel k at z m) ≡ Some z
    put_there kind.Stream at c z some there = ap (λ (o : Option ℕ). at_place (channels kind.Stream (with_channel kind.Stream at z m)) o) some ∙ get_set m.streams at c z there
    put_there kind.Future at c z some there = ap (λ (o : Option ℕ). at_place (channels kind.Future (with_channel kind.Future at z m)) o) some ∙ get_set m.futures at c z there

    by_offer : (at : ℕ) (c : Channel) → place_of number ≡ Some at → slice_get (channels k m) at ≡ Some c → (b : Bool)
        → (let d : Done Meet = answered (if b then Some (meet_in side (by.Task t) canon place size c.ends) else None) k at
        (if b then with_ends (channel.offered side (by.Task t) canon place size c.ends) c else c) m in d) ≡ Gives (meet.Copies count) l → Goal
    by_offer at c some there false e = absurd (cc)
    by_offer at c some there true e =
        let z : Channel = with_ends (channel.offered side (by.Task t) canon place size c.ends) c in
        record {
          met = c;
          here = ap (λ (o : Option ℕ). at_place (channels k m) o) some ∙ there;
          meets = what_gives e;
          then_is = subst (λ (x : Held). channel_at k number x ≡ Some z) (held_gives e) (put_there k at c z some there);
        }

    by_channel : (at : ℕ) → place_of number ≡ Some at → (o : Option Channel) → slice_get (channels k m) at ≡ o
        → (let d : Done Meet = given o (λ c. answered (if may_offer side size c.ends then Some (meet_in side (by.Task t) canon place size c.ends) else None) k at
        (if may_offer side size c.ends then with_ends (channel.offered side (by.Task t) canon place size c.ends) c else c) m) in d) ≡ Gives (meet.Copies count) l → Goal
    by_channel at some None none e = absurd (cc)
    by_channel at some (Some c) there e = by_offer at c some there (may_offer side size c.ends) e

    by_place : (o : Option ℕ) → place_of number ≡ o → (let d : Done Meet = given o (λ at. offered_at k at side (by.Task t) canon place size m) in d) ≡ Gives (meet.Copies count) l → Goal
    by_place None none e = absurd (cc)
    by_place (Some at) some e = by_channel at some (slice_get (channels k m) at) refl e

-- Some elements go over, no more than the call is of, and the offer has room for them behind those that went over.
pub record HasRoom (size count : ℕ) (offer : OpenCopy) : Type 0 where
  pub some : 1 ≤ count
  pub own : count ≤ size
  pub other : offer.copied + count ≤ offer.length

copies_same : (n count : ℕ) → meet.Copies n ≡ meet.Copies count → n ≡ count
copies_same n count e = cc

full_copies_none : (side : Side) (call : OpenCopy) (own other : End) (offer : OpenCopy) (count : ℕ) → (streams.met_full side call own other offer).meet ≡ meet.Copies count → ⊥
full_copies_none side call own other offer count e = by_pair (streams.is_empty_pair side call offer) e
  where
    by_pair : (b : Bool)
        → (let m : streams.Meeting = if b then record { meet = meet.ZeroDone; own = own; other = other } else record { meet = meet.Displaces; own = streams.with_offer call own; other = stream_end.leaves other } in
        m.meet) ≡ meet.Copies count → ⊥
    by_pair true e = cc
    by_pair false e = cc

room_by : (call offer : OpenCopy) (count : ℕ) → nat_lt offer.copied offer.length ≡ true → streams.room_meet call offer ≡ meet.Copies count → HasRoom call.length count offer
room_by call offer count room e = by_length (nat_lt 0 call.length) refl e
  where
    by_length : (b : Bool) → nat_lt 0 call.length ≡ b → (let m : Meet = if b then meet.Copies (min (offer.length - offer.copied) call.length) else meet.NothingNow in m) ≡ meet.Copies count
        → HasRoom call.length count offer
    by_length false none e = absurd (cc)
    by_length true some e =
        let left : offer.copied < offer.length = ltb-true offer.copied offer.length room in
        let full : 0 < call.length = ltb-true 0 call.length some in
        let same : min (offer.length - offer.copied) call.length ≡ count = copies_same (min (offer.length - offer.copied) call.length) count e in
        record { some = omega (arith, left, full, same); own = omega (arith, same); other = omega (arith, left, same) }

offer_room : (side : Side) (call : OpenCopy) (own other : End) (o : Option OpenCopy) (offer : OpenCopy) (count : ℕ) → o ≡ Some offer → (streams.met_offer side call own other o).meet ≡ meet.Copies count
    → HasRoom call.length count offer
offer_room side call own other None offer count there e = absurd (cc)
offer_room side call own other (Some x) offer count there e = subst (λ (y : OpenCopy). HasRoom call.length count y) (one x offer there) (by_room (nat_lt x.copied x.length) refl e)
  where
    one : (x y : OpenCopy) → Some x ≡ Some y → x ≡ y
    one x y e = cc

    by_room : (b : Bool) → nat_lt x.copied x.length ≡ b
        → (let m : streams.Meeting = if b then record { meet = streams.room_meet call x; own = own; other = other } else streams.met_full side call own other x in m.meet) ≡ meet.Copies count
        → HasRoom call.length count x
    by_room true room e = room_by call x count room e
    by_room false full e = absurd (full_copies_none side call own other x count e)

stream_room : (side : Side) (call : OpenCopy) (own other : End) (offer : OpenCopy) (count : ℕ) → standing_of other.copy ≡ Some offer → (streams.met side call own other).meet ≡ meet.Copies count
    → HasRoom call.length count offer
unfolding streams.met
stream_room side call own other offer count stands e = by_drop other.dropped e
  where
    by_drop : (b : Bool)
        → (let m : streams.Meeting = if b then record { meet = meet.Dropped; own = streams.made_done own; other = other } else streams.met_offer side call own other (standing_of other.copy) in m.meet)
        ≡ meet.Copies count → HasRoom call.length count offer
    by_drop true e = absurd (cc)
    by_drop false e = offer_room side call own other (standing_of other.copy) offer count stands e

-- Of a future nothing is copied while its offer stands.
sound_end : (side : Side) (view : EndsView) → futures.Sound view → futures.EndSound (end_at side view)
sound_end Reader view sound = sound.reader
sound_end Writer view sound = sound.writer

stands_there : (o : Option OpenCopy) (offer : OpenCopy) → standing_of o ≡ Some offer → o ≡ Some offer
stands_there None offer e = absurd (cc)
stands_there (Some copy) offer e = by_test copy.standing e
  where
    by_test : (b : Bool) → (let o : Option OpenCopy = if b then Some copy else None in o) ≡ Some offer → Some copy ≡ Some offer
    by_test true e = e
    by_test false e = absurd (cc)

one_goes : (m : future_meets.Meet) (count : ℕ) → future_meet m ≡ meet.Copies count → count ≡ 1
one_goes future.Stands count e = absurd (cc)
one_goes future.Copies count e = sym (copies_same 1 count e)
one_goes future.Dropped count e = absurd (cc)

future_room : (e : End) (offer : OpenCopy) (size count : ℕ) → futures.EndSound e → standing_of e.copy ≡ Some offer → size ≡ 1 → count ≡ 1 → HasRoom size count offer
future_room e offer size count sound stands size_is one =
    let there : e.copy ≡ Some offer = stands_there e.copy offer stands in
    let none : offer.copied ≡ 0 = subst (λ (o : Option OpenCopy). copied_of o ≡ 0) stands sound.fresh in
    let long : offer.length ≡ 1 = subst (λ (o : Option OpenCopy). length_of o ≡ 1) there (sound.length (ap (λ (o : Option OpenCopy). is_some o) there)) in
    record { some = omega (arith, one); own = omega (arith, one, size_is); other = omega (arith, one, none, long) }

-- Both, where what is known of futures is so.
abbrev pub SoundIfFuture : EndKind → EndsView → Type 0
SoundIfFuture kind.Stream view = Unit {0}
SoundIfFuture kind.Future view = futures.Sound view

pub room_met : (k : EndKind) (side : Side) (who : By) (canon place size count : ℕ) (e : Ends) (view : EndsView) (offer : OpenCopy) → kind_of e ≡ k → view_of e ≡ view → SizeFits k size
    → SoundIfFuture k view → standing_of (end_at (other_side side) view).copy ≡ Some offer → meet_in side who canon place size e ≡ meet.Copies count → HasRoom size count offer
room_met kind.Stream side who canon place size count (ends.Stream p) view offer is same fits sound stands met =
    let here : standing_of (end_at (other_side side) p.ends).copy ≡ Some offer = ap (λ (v : EndsView). standing_of (end_at (other_side side) v).copy) same ∙ stands in
    stream_room side (new_copy who canon place size) (end_at side p.ends) (end_at (other_side side) p.ends) offer count here met
room_met kind.Stream side who canon place size count (ends.Future p) view offer is same fits sound stands met = absurd (cc)
room_met kind.Future side who canon place size count (ends.Stream p) view offer is same fits sound stands met = absurd (cc)
room_met kind.Future side who canon place size count (ends.Future p) view offer is same fits sound stands met =
    future_room (end_at (other_side side) view) offer size count (sound_end (other_side side) view sound) stands fits
    (one_goes (futures.met_at side (futures.new_offer who canon place) p.ends).meet count met)

-- The end that is found is of the type and the side that were asked.
typed_so : (wanted : ℕ) (x y : EndEntry) → entries.typed_end wanted x ≡ Ok y → (x.end_type ≡ wanted) × (x ≡ y)
typed_so wanted x y e = by_test (entries.is_of_type wanted x) refl e
  where
    ok_is : (v w : EndEntry) → ◌≡◌ {A = Result EndEntry Refusal} (Ok v) (Ok w) → v ≡ w
    ok_is v w e = cc

    by_test : (b : Bool) → entries.is_of_type wanted x ≡ b → ◌≡◌ {A = Result EndEntry Refusal} (if b then Ok x else Err OtherType) (Ok y) → (x.end_type ≡ wanted) × (x ≡ y)
    by_test true same e = (eqb-true x.end_type wanted same, ok_is x y e)
    by_test false same e = absurd (cc)

end_same : (x y : EndEntry) → Some (entry.End x) ≡ Some (entry.End y) → x ≡ y
end_same x y e = cc

side_told : (a b : Side) → entries.same_side a b ≡ true → a ≡ b
side_told Reader Reader h = refl
side_told Reader Writer h = absurd (cc)
side_told Writer Reader h = absurd (cc)
side_told Writer Writer h = refl

abbrev pub IsEnd : Side → ℕ → EndEntry → EndEntry → Type 0
IsEnd side wanted x y = (x.end_type ≡ wanted) × (x.number ≡ y.number) × (x.side ≡ side)

pub end_is : (side : Side) (wanted : ℕ) (o : Option WorldEntry) (x y : EndEntry) → entries.end_in side wanted o ≡ Ok y → o ≡ Some (entry.End x) → IsEnd side wanted x y
end_is side wanted None x y found stands = absurd (cc)
end_is side wanted (Some (entry.Handle z)) x y found stands = absurd (cc)
end_is side wanted (Some (entry.Subtask callee)) x y found stands = absurd (cc)
end_is side wanted (Some (entry.Set set)) x y found stands = absurd (cc)
end_is side wanted (Some (entry.End z)) x y found stands = subst (λ (v : EndEntry). IsEnd side wanted v y) (end_same z x stands) (by_side (entries.same_side z.side side) refl found)
  where
    by_side : (b : Bool) → entries.same_side z.side side ≡ b → ◌≡◌ {A = Result EndEntry Refusal} (if b then entries.typed_end wanted z else Err OtherKind) (Ok y) → IsEnd side wanted z y
    by_side true same e = (let both = typed_so wanted z y e in (both.0, ap (λ (v : EndEntry). v.number) both.1, side_told z.side side same))
    by_side false same e = absurd (cc)
