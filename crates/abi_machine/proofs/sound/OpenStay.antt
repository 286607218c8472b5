-- What edits of streams and futures leave of a copy under way: it stays, of the same task and canonical function.
use Rattle.std.proofs.Common.{◌≡◌, ◌⊎◌, inl, inr, ℕ, zero, suc, ◌-◌, Bool, true, false, nat_lt, List, refl, sym, ap, ◌∙◌, Option, Some, None, if◌then◌else◌}
use Rattle.std.specs.Prelude.{min}
use Rattle.builtin_kinds.specs.declared.EndKind.{EndKind}
use Rattle.builtin_kinds.specs.declared.EndKind.TheVariants.{Stream, Future}
use Rattle.stream_ends.specs.declared.side.Side.{Side}
use Rattle.stream_ends.specs.declared.side.Side.TheVariants.{Reader, Writer}
use Rattle.stream_ends.specs.declared.open_copy.CopyEvent.TheVariants.{Dropped as OtherDropped}
use Rattle.stream_ends.specs.declared.open_copy.OpenCopy.{OpenCopy}
use Rattle.stream_ends.specs.declared.stream_end.End.{End}
use Rattle.stream_ends.specs.declared.meet.Meet.TheVariants.{Copies, Dropped, Displaces, ZeroDone, NothingNow}
use Rattle.stream_ends.specs.declared.meet.Meet.TheVariants as stream_case
use Rattle.stream_ends.specs.Ends.{EndsView, Ends, end_at, standing_of, replaced, leaves, hears_of_drop, grown}
use Rattle.stream_ends.specs.Meeting.{Meeting, met, met_offer, met_full, room_meet, is_empty_pair, with_offer, made_done, standing_side, changed, after_dropping}
use Rattle.stream_ends.proofs.Meetings.{if_holds, standing_is}
use Rattle.future_ends.specs.declared.meet.Meet.TheVariants as future_case
use Rattle.future_ends.specs.Meeting as future
use Rattle.future_ends.proofs.Meetings as future_meetings
use Rattle.abi_machine.specs.World.{Channel, World}
use Rattle.abi_machine.specs.Edits.{changed_number, with_channel, offered_by, transferred_by, concluded_by}
use Rattle.abi_machine.specs.Reading.{numbered}
use Rattle.abi_machine.specs.Copying.{AtOnce, Stands, stream_met, future_met, met_by}
use Rattle.abi_machine.specs.sound.EndPlaces.{channel_in}
use Rattle.abi_machine.proofs.sound.Found.{some_same, changed_there}
use Rattle.abi_machine.proofs.sound.Acted.{changed_where}

-- A copy stays where it was under way.
abbrev pub Stays : Option OpenCopy → Option OpenCopy → Type 0
Stays old new = (copy : OpenCopy) → old ≡ Some copy → (later : OpenCopy) × (new ≡ Some later) × (later.by ≡ copy.by) × (later.canon ≡ copy.canon)

pub same_stays : (o : Option OpenCopy) → Stays o o
same_stays o copy e = (copy, e, refl, refl)

replaced_stays : (edit : OpenCopy → OpenCopy) → ((x : OpenCopy) → (edit x).by ≡ x.by) → ((x : OpenCopy) → (edit x).canon ≡ x.canon) → (e : End) (o : Option OpenCopy) → standing_of e.copy ≡ o
    → Stays e.copy (replaced edit o e).copy
replaced_stays edit by_same canon_same e None h copy k = (copy, k, refl, refl)
replaced_stays edit by_same canon_same e (Some x) h copy k =
    let same : x ≡ copy = some_same (sym (standing_is e.copy x h) ∙ k) in
    (edit x, refl, by_same x ∙ ap (λ (y : OpenCopy). y.by) same, canon_same x ∙ ap (λ (y : OpenCopy). y.canon) same)

abbrev pub AllStay : EndsView → EndsView → Type 0
AllStay old new = (side : Side) → Stays (end_at side old).copy (end_at side new).copy

-- Only that at the own end of a call may be another one.
abbrev pub OthersStay : Side → EndsView → EndsView → Type 0
OthersStay own old new = (side : Side) → (side ≡ own) ⊎ Stays (end_at side old).copy (end_at side new).copy

pub conclude_stays : (kind : EndKind) (own : Side) (ends : Ends) → OthersStay own ends.view (concluded_by kind own ends).view
conclude_stays Stream Reader ends Reader = inl refl
conclude_stays Stream Reader ends Writer = inr (same_stays _)
conclude_stays Stream Writer ends Reader = inr (same_stays _)
conclude_stays Stream Writer ends Writer = inl refl
conclude_stays Future Reader ends Reader = inl refl
conclude_stays Future Reader ends Writer = inr (same_stays _)
conclude_stays Future Writer ends Reader = inr (same_stays _)
conclude_stays Future Writer ends Writer = inl refl

hears_stays : (e : End) → Stays e.copy (hears_of_drop e).copy
hears_stays e = replaced_stays (λ copy. record copy { event = Some OtherDropped }) (λ x. refl) (λ x. refl) e (standing_of e.copy) refl

pub drop_stays : (side : Side) (view : EndsView) → AllStay view (after_dropping side view)
drop_stays Reader view Reader = same_stays _
drop_stays Reader view Writer = hears_stays view.writer
drop_stays Writer view Reader = hears_stays view.reader
drop_stays Writer view Writer = same_stays _

grown_stays : (count : ℕ) (e : End) → Stays e.copy (grown count e).copy
grown_stays count e = replaced_stays _ (λ x. refl) (λ x. refl) e (standing_of e.copy) refl

changed_stays : (side : Side) (count : ℕ) (view : EndsView) → AllStay view (changed side (grown count) view)
changed_stays Reader count view Reader = grown_stays count view.reader
changed_stays Reader count view Writer = same_stays _
changed_stays Writer count view Reader = same_stays _
changed_stays Writer count view Writer = grown_stays count view.writer

taken_stays : (e : End) → Stays e.copy (future.taken e).copy
taken_stays e = replaced_stays _ (λ x. refl) (λ x. refl) e (standing_of e.copy) refl

copied_stays : (side : Side) (view : EndsView) → AllStay view (future.copied_from side view)
copied_stays Reader view Reader = taken_stays view.reader
copied_stays Reader view Writer = same_stays _
copied_stays Writer view Reader = same_stays _
copied_stays Writer view Writer = taken_stays view.writer

pub transfer_stays : (kind : EndKind) (side : Side) (size count : ℕ) (ends : Ends) → AllStay ends.view (transferred_by kind side size count ends).view
transfer_stays Stream side size count ends = changed_stays (standing_side ends.view) count ends.view
transfer_stays Future side size count ends = copied_stays (standing_side ends.view) ends.view

-- A read or write.

leaves_stays : (e : End) → Stays e.copy (leaves e).copy
leaves_stays e = replaced_stays _ (λ x. refl) (λ x. refl) e (standing_of e.copy) refl

offer_stays : (side : Side) (call : OpenCopy) (own other : End) (o : Option OpenCopy) → Stays other.copy (met_offer side call own other o).other.copy
offer_stays side call own other None = same_stays other.copy
offer_stays side call own other (Some offer) =
    if_holds (λ (m : Meeting). Stays other.copy m.other.copy) (nat_lt offer.copied offer.length) (record { meet = room_meet call offer; own = own; other = other }) (met_full side call own other offer)
    (λ _. same_stays other.copy)
    (λ _.
    if_holds (λ (m : Meeting). Stays other.copy m.other.copy) (is_empty_pair side call offer) (record { meet = ZeroDone; own = own; other = other }) (record { meet = Displaces; own = with_offer call own; other = leaves other })
    (λ _. same_stays other.copy) (λ _. leaves_stays other))

met_stays : (side : Side) (call : OpenCopy) (own other : End) → Stays other.copy (met side call own other).other.copy
unfolding met
met_stays side call own other =
    if_holds (λ (m : Meeting). Stays other.copy m.other.copy) other.dropped (record { meet = Dropped; own = made_done own; other = other }) (met_offer side call own other (standing_of other.copy))
    (λ _. same_stays other.copy) (λ _. offer_stays side call own other (standing_of other.copy))

pub offered_stays : (kind : EndKind) (own : Side) (call : OpenCopy) (ends : Ends) → OthersStay own ends.view (offered_by kind own call ends).view
offered_stays Stream Reader call ends Reader = inl refl
offered_stays Stream Reader call ends Writer = inr (met_stays Reader call ends.view.reader ends.view.writer)
offered_stays Stream Writer call ends Reader = inr (met_stays Writer call ends.view.writer ends.view.reader)
offered_stays Stream Writer call ends Writer = inl refl
offered_stays Future Reader call ends Reader = inl refl
offered_stays Future Reader call ends Writer = inr (same_stays ends.view.writer.copy)
offered_stays Future Writer call ends Reader = inr (same_stays ends.view.reader.copy)
offered_stays Future Writer call ends Writer = inl refl

-- Where a call's offer stands it is the copy at its end.

abbrev IsOffered : OpenCopy → Meeting → Type 0
IsOffered call m = stream_met m.meet ≡ Stands → m.own.copy ≡ Some call

no_stand : (b : Bool) (count : ℕ) → stream_met (if b then Copies count else NothingNow) ≡ Stands → ⊥
no_stand true count e = cc
no_stand false count e = cc

dropped_not : stream_met Dropped ≡ Stands → ⊥
dropped_not e = cc

zero_not : stream_met ZeroDone ≡ Stands → ⊥
zero_not e = cc

offer_offers : (side : Side) (call : OpenCopy) (own other : End) (o : Option OpenCopy) → IsOffered call (met_offer side call own other o)
offer_offers side call own other None = λ e. refl
offer_offers side call own other (Some offer) =
    if_holds (IsOffered call) (nat_lt offer.copied offer.length) (record { meet = room_meet call offer; own = own; other = other }) (met_full side call own other offer)
    (λ _. λ e. absurd (no_stand (nat_lt 0 call.length) (min (offer.length - offer.copied) call.length) e))
    (λ _.
    if_holds (IsOffered call) (is_empty_pair side call offer) (record { meet = ZeroDone; own = own; other = other }) (record { meet = Displaces; own = with_offer call own; other = leaves other })
    (λ _. λ e. absurd (zero_not e)) (λ _. λ e. refl))

met_offers : (side : Side) (call : OpenCopy) (own other : End) → IsOffered call (met side call own other)
unfolding met
met_offers side call own other =
    if_holds (IsOffered call) other.dropped (record { meet = Dropped; own = made_done own; other = other }) (met_offer side call own other (standing_of other.copy))
    (λ _. λ e. absurd (dropped_not e)) (λ _. offer_offers side call own other (standing_of other.copy))

abbrev IsFutureOffered : OpenCopy → future.Meeting → Type 0
IsFutureOffered call m = future_met m.meet ≡ Stands → m.own.copy ≡ Some call

future_dropped_not : future_met future_case.Dropped ≡ Stands → ⊥
future_dropped_not e = cc

future_copies_not : future_met future_case.Copies ≡ Stands → ⊥
future_copies_not e = cc

future_offer_offers : (call : OpenCopy) (own : End) (o : Option OpenCopy) → IsFutureOffered call (future.met_offer call own o)
future_offer_offers call own None = λ e. refl
future_offer_offers call own (Some offer) = λ e. absurd (future_copies_not e)

future_offers : (call : OpenCopy) (own other : End) → IsFutureOffered call (future.met call own other)
unfolding future.met
future_offers call own other =
    future_meetings.if_holds (IsFutureOffered call) other.dropped (record { meet = future_case.Dropped; own = made_done own }) (future.met_offer call own (standing_of other.copy)) (λ e. absurd (future_dropped_not e))
    (future_offer_offers call own (standing_of other.copy))

pub stands_offered : (kind : EndKind) (side : Side) (call : OpenCopy) (ends : Ends) → met_by kind side call ends.view ≡ Stands → (end_at side (offered_by kind side call ends).view).copy ≡ Some call
stands_offered Stream Reader call ends e = met_offers Reader call ends.view.reader ends.view.writer e
stands_offered Stream Writer call ends e = met_offers Writer call ends.view.writer ends.view.reader e
stands_offered Future Reader call ends e = future_offers call ends.view.reader ends.view.writer e
stands_offered Future Writer call ends e = future_offers call ends.view.writer ends.view.reader e

-- Where it is answered at once its end is left alone.

abbrev IsLeftAlone : End → Meeting → Type 0
IsLeftAlone own m = (payload : ℕ) → stream_met m.meet ≡ AtOnce payload → m.own.copy ≡ own.copy

stands_not_at_once : (payload : ℕ) → stream_met stream_case.Stands ≡ AtOnce payload → ⊥
stands_not_at_once payload e = cc

displaces_not_at_once : (payload : ℕ) → stream_met Displaces ≡ AtOnce payload → ⊥
displaces_not_at_once payload e = cc

offer_leaves_alone : (side : Side) (call : OpenCopy) (own other : End) (o : Option OpenCopy) → IsLeftAlone own (met_offer side call own other o)
offer_leaves_alone side call own other None = λ payload e. absurd (stands_not_at_once payload e)
offer_leaves_alone side call own other (Some offer) =
    if_holds (IsLeftAlone own) (nat_lt offer.copied offer.length) (record { meet = room_meet call offer; own = own; other = other }) (met_full side call own other offer)
    (λ _. λ payload e. refl)
    (λ _.
    if_holds (IsLeftAlone own) (is_empty_pair side call offer) (record { meet = ZeroDone; own = own; other = other }) (record { meet = Displaces; own = with_offer call own; other = leaves other })
    (λ _. λ payload e. refl) (λ _. λ payload e. absurd (displaces_not_at_once payload e)))

met_leaves_alone : (side : Side) (call : OpenCopy) (own other : End) → IsLeftAlone own (met side call own other)
unfolding met
met_leaves_alone side call own other =
    if_holds (IsLeftAlone own) other.dropped (record { meet = Dropped; own = made_done own; other = other }) (met_offer side call own other (standing_of other.copy))
    (λ _. λ payload e. refl) (λ _. offer_leaves_alone side call own other (standing_of other.copy))

abbrev IsFutureLeft : End → future.Meeting → Type 0
IsFutureLeft own m = (payload : ℕ) → future_met m.meet ≡ AtOnce payload → m.own.copy ≡ own.copy

future_stands_not : (payload : ℕ) → future_met future_case.Stands ≡ AtOnce payload → ⊥
future_stands_not payload e = cc

future_offer_leaves : (call : OpenCopy) (own : End) (o : Option OpenCopy) → IsFutureLeft own (future.met_offer call own o)
future_offer_leaves call own None = λ payload e. absurd (future_stands_not payload e)
future_offer_leaves call own (Some offer) = λ payload e. refl

future_leaves : (call : OpenCopy) (own other : End) → IsFutureLeft own (future.met call own other)
unfolding future.met
future_leaves call own other =
    future_meetings.if_holds (IsFutureLeft own) other.dropped (record { meet = future_case.Dropped; own = made_done own }) (future.met_offer call own (standing_of other.copy)) (λ payload e. refl)
    (future_offer_leaves call own (standing_of other.copy))

pub at_once_leaves : (kind : EndKind) (side : Side) (call : OpenCopy) (ends : Ends) (payload : ℕ) → met_by kind side call ends.view ≡ AtOnce payload
    → (end_at side (offered_by kind side call ends).view).copy ≡ (end_at side ends.view).copy
at_once_leaves Stream Reader call ends payload e = met_leaves_alone Reader call ends.view.reader ends.view.writer payload e
at_once_leaves Stream Writer call ends payload e = met_leaves_alone Writer call ends.view.writer ends.view.reader payload e
at_once_leaves Future Reader call ends payload e = future_leaves call ends.view.reader ends.view.writer payload e
at_once_leaves Future Writer call ends payload e = future_leaves call ends.view.writer ends.view.reader payload e

-- Streams and futures behind a change of one.

numbered_now : (number : ℕ) (f : Channel → Channel) (all : List Channel) (c : Channel) → numbered all number ≡ Some c → numbered (changed_number number f all) number ≡ Some (f c)
numbered_now zero f all c h = cc
numbered_now (suc place) f all c h = changed_there place f all c h

pub channel_now : (kind : EndKind) (number : ℕ) (f : Channel → Channel) (w : World) (c : Channel) → channel_in kind number w.streams w.futures ≡ Some c
    → channel_in kind number (with_channel kind number f w).streams (with_channel kind number f w).futures ≡ Some (f c)
channel_now Stream number f w c h = numbered_now number f w.streams c h
channel_now Future number f w c h = numbered_now number f w.futures c h

numbered_after : (number n : ℕ) (f : Channel → Channel) (all : List Channel) (c : Channel) → numbered all n ≡ Some c
    → (numbered (changed_number number f all) n ≡ Some c) ⊎ ((n ≡ number) × (numbered (changed_number number f all) n ≡ Some (f c)))
numbered_after number zero f all c h = cc
numbered_after zero (suc place) f all c h = inl h
numbered_after (suc at) (suc place) f all c h = elim (changed_where at f all place c h) [
  | inl old ↦ inl old
  | inr new ↦ inr (ap suc new.0, new.1)
]

abbrev pub IsAfter : EndKind → EndKind → ℕ → ℕ → (Channel → Channel) → World → Channel → Type 0
IsAfter kind k number n f w c =
    (channel_in k n (with_channel kind number f w).streams (with_channel kind number f w).futures ≡ Some c)
    ⊎ ((k ≡ kind) × (n ≡ number) × (channel_in k n (with_channel kind number f w).streams (with_channel kind number f w).futures ≡ Some (f c)))

pub channel_after : (kind k : EndKind) (number n : ℕ) (f : Channel → Channel) (w : World) (c : Channel) → channel_in k n w.streams w.futures ≡ Some c → IsAfter kind k number n f w c
channel_after Stream Stream number n f w c h = elim (numbered_after number n f w.streams c h) [
  | inl old ↦ inl old
  | inr new ↦ inr (refl, new.0, new.1)
]
channel_after Stream Future number n f w c h = inl h
channel_after Future Stream number n f w c h = inl h
channel_after Future Future number n f w c h = elim (numbered_after number n f w.futures c h) [
  | inl old ↦ inl old
  | inr new ↦ inr (refl, new.0, new.1)
]
