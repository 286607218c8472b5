-- Where nothing is to be told of a copy under way, the other end was not dropped.
use Rattle.std.proofs.Common.{◌≡◌, ◌+◌, ℕ, Bool, true, false, is_some, nat_lt, List, [], ◌∷◌, length, refl, sym, ap, ◌∙◌, subst, Option, Some, None, if◌then◌else◌}
use Rattle.wasm_store.proofs.Lists.{if_both}
use Rattle.syntax_trees.specs.declared.types.ValType.{ValType}
use Rattle.syntax_trees.specs.declared.value.Value.{Value}
use Rattle.builtin_kinds.specs.declared.EndKind.{EndKind}
use Rattle.builtin_kinds.specs.declared.EndKind.TheVariants.{Stream, Future}
use Rattle.stream_ends.specs.declared.side.Side.{Side}
use Rattle.stream_ends.specs.declared.side.Side.TheVariants.{Reader, Writer}
use Rattle.stream_ends.specs.declared.open_copy.CopyEvent.{CopyEvent}
use Rattle.stream_ends.specs.declared.open_copy.CopyEvent.TheVariants.{Completed as EventCompleted, Dropped as OtherDropped}
use Rattle.stream_ends.specs.declared.open_copy.OpenCopy.{OpenCopy}
use Rattle.stream_ends.specs.declared.stream_end.End.{End}
use Rattle.stream_ends.specs.declared.meet.Meet.TheVariants.{Dropped, Displaces, ZeroDone}
use Rattle.stream_ends.specs.Ends.{EndsView, end_at, other_side, standing_of, grown, leaves, hears_of_drop, replaced, is_copying, has_event}
use Rattle.stream_ends.specs.Ends as stream_ends
use Rattle.stream_ends.specs.Meeting as stream
use Rattle.stream_ends.specs.Meeting.{Meeting, with_offer, made_done, stands, standing_side}
use Rattle.future_ends.specs.declared.meet.Meet.TheVariants as future_case
use Rattle.future_ends.specs.Meeting as future
use Rattle.comp_graph.specs.Graph.{Graph}
use Rattle.script_reader.specs.Script.{Script}
use Rattle.trace_labels.specs.declared.label.Label.{Label}
use Rattle.abi_machine.specs.Control.{EndRef}
use Rattle.abi_machine.specs.World.{Channel, World, new_channel, first_world}
use Rattle.abi_machine.specs.Edits.{with_channel, channel_made, carried, offered_by, transferred_by, concluded_by}
use Rattle.abi_machine.specs.Run.{Reaches}
use Rattle.abi_machine.specs.sound.Changes.{Change, GoesTo, HasStore, SpendsUnit, UsesPicks, TakesItem, BeginsInstance, AddsEntry, MakesSet, RemovesEntry, RemovesWaitable, LeavesSet, JoinsSet, HasBackpressure, IsCalled, Calls, ComesBack, Acts, Begins, Cancels, Blocks, Exits, IsRemoved, Resolves, IsCancelled, HasWord, HasNewStack, HasStack, LosesStack, IsAnswered, IsTold, IsLent, HasResult, MakesChannel, Offers, Transfers, Concludes, DropsEnd, after}
use Rattle.abi_machine.specs.sound.Premises.{Comes}
use Rattle.abi_machine.specs.sound.Agreeing.{channel_in}
use Rattle.abi_machine.specs.sound.Initial.{RunsAlone}
use Rattle.abi_machine.specs.sound.Copies.{IsCopied}
use Rattle.abi_machine.proofs.sound.Lists.{all_more}
use Rattle.abi_machine.proofs.sound.Copied.{IsSoundOf, numbered_changed, sound_there, end_there, copied_kept, first_is_copied}
use Rattle.abi_machine.proofs.sound.Alone.{kept_so, first_runs_alone, stays_alone}
use Rattle.waiting_laws.specs.Offers.{IsOpenTo, AreOpen, OffersOpen, HasOpenOffers, FirstHasOpenOffers, OffersStayOpen, ReachedOffersAreOpen}

-- Both ends from one side: the end of the call, and the other one.
pub record Both (own other : End) : Type 0 where
  pub mine : IsOpenTo own.copy other
  pub theirs : IsOpenTo other.copy own

pub from_side : (side : Side) (ends : EndsView) → AreOpen ends → Both (end_at side ends) (end_at (other_side side) ends)
from_side Reader ends h = record { mine = h.reader; theirs = h.writer }
from_side Writer ends h = record { mine = h.writer; theirs = h.reader }

to_sides : (side : Side) (own other : End) → Both own other → AreOpen (stream_ends.arranged side own other)
to_sides Reader own other h = record { reader = h.mine; writer = h.theirs }
to_sides Writer own other h = record { reader = h.theirs; writer = h.mine }

-- Whether the other end is dropped decides.
open_as : (o : Option OpenCopy) (x y : End) → y.dropped ≡ x.dropped → IsOpenTo o x → IsOpenTo o y
open_as None x y same h = tt
open_as (Some copy) x y same h = λ none. same ∙ h none

-- A copy to which something is to be told, in place of one that stands or of none.
replaced_open : (edit : OpenCopy → OpenCopy) (event : CopyEvent) → ((copy : OpenCopy) → (edit copy).event ≡ Some event) → (o : Option OpenCopy) (e other : End) → IsOpenTo e.copy other
    → IsOpenTo (replaced edit o e).copy other
replaced_open edit event is None e other h = h
replaced_open edit event is (Some copy) e other h = λ none. (let clash : Some event ≡ None = sym (is copy) ∙ none in cc)

replaced_drop : (edit : OpenCopy → OpenCopy) (o : Option OpenCopy) (e : End) → (replaced edit o e).dropped ≡ e.dropped
replaced_drop edit None e = refl
replaced_drop edit (Some copy) e = refl

-- A stream's call, at an end without a copy, meets the other end.
abbrev MeetsOpen : Meeting → Type 0
MeetsOpen m = Both m.own m.other

displaced : (call : OpenCopy) (own other : End) → other.dropped ≡ false → Both own other → Both (with_offer call own) (leaves other)
displaced call own other live h = record {
  mine = λ none. replaced_drop _ (standing_of other.copy) other ∙ live;
  theirs =
      open_as (leaves other).copy own (with_offer call own) refl
      (replaced_open (λ copy. record copy { event = Some EventCompleted; standing = false }) EventCompleted (λ copy. refl) (standing_of other.copy) other own h.theirs);
}

at_offer : (side : Side) (call : OpenCopy) (own other : End) (o : Option OpenCopy) → other.dropped ≡ false → Both own other → MeetsOpen (stream.met_offer side call own other o)
at_offer side call own other None live h = record { mine = λ none. live; theirs = open_as other.copy own (with_offer call own) refl h.theirs }
at_offer side call own other (Some offer) live h =
    if_both MeetsOpen (nat_lt offer.copied offer.length) (record { meet = stream.room_meet call offer; own = own; other = other }) (stream.met_full side call own other offer) (λ e. h)
    (λ e.
    if_both MeetsOpen (stream.is_empty_pair side call offer) (record { meet = ZeroDone; own = own; other = other })
    (record { meet = Displaces; own = with_offer call own; other = leaves other }) (λ k. h) (λ k. displaced call own other live h))

meets_open : (side : Side) (call : OpenCopy) (own other : End) → Both own other → MeetsOpen (stream.met side call own other)
unfolding stream.met
meets_open side call own other h =
    if_both MeetsOpen other.dropped (record { meet = Dropped; own = made_done own; other = other }) (stream.met_offer side call own other (standing_of other.copy))
    (λ e. record { mine = h.mine; theirs = open_as other.copy own (made_done own) refl h.theirs }) (λ e. at_offer side call own other (standing_of other.copy) e h)

-- The same of a future's.
abbrev FutureMeets : End → future.Meeting → Type 0
FutureMeets other m = Both m.own other

future_offer : (call : OpenCopy) (own other : End) (o : Option OpenCopy) → other.dropped ≡ false → Both own other → FutureMeets other (future.met_offer call own o)
future_offer call own other None live h = record { mine = λ none. live; theirs = open_as other.copy own (with_offer call own) refl h.theirs }
future_offer call own other (Some offer) live h = h

future_meets : (call : OpenCopy) (own other : End) → Both own other → FutureMeets other (future.met call own other)
unfolding future.met
future_meets call own other h =
    if_both (FutureMeets other) other.dropped (record { meet = future_case.Dropped; own = made_done own }) (future.met_offer call own (standing_of other.copy))
    (λ e. record { mine = h.mine; theirs = open_as other.copy own (made_done own) refl h.theirs }) (λ e. future_offer call own other (standing_of other.copy) e h)

offer_open : (kind : EndKind) (side : Side) (call : OpenCopy) (c : Channel) → AreOpen c.ends.view → AreOpen (offered_by kind side call c.ends).view
offer_open Stream side call c h =
    let own : End = end_at side c.ends.view in
    let other : End = end_at (other_side side) c.ends.view in
    to_sides side (stream.met side call own other).own (stream.met side call own other).other (meets_open side call own other (from_side side c.ends.view h))
offer_open Future side call c h =
    let own : End = end_at side c.ends.view in
    let other : End = end_at (other_side side) c.ends.view in
    to_sides side (future.met call own other).own other (future_meets call own other (from_side side c.ends.view h))

-- Elements go over.
grown_open : (count : ℕ) (e other : End) → Both e other → Both (grown count e) other
grown_open count e other h = record {
  mine = replaced_open (λ copy. record copy { copied = copy.copied + count; event = Some EventCompleted }) EventCompleted (λ copy. refl) (standing_of e.copy) e other h.mine;
  theirs = open_as other.copy e (grown count e) (replaced_drop _ (standing_of e.copy) e) h.theirs;
}

copied_open : (side : Side) (count : ℕ) (ends : EndsView) → AreOpen ends → AreOpen (stream.changed side (grown count) ends)
copied_open Reader count ends h = to_sides Reader (grown count ends.reader) ends.writer (grown_open count ends.reader ends.writer (from_side Reader ends h))
copied_open Writer count ends h = to_sides Writer (grown count ends.writer) ends.reader (grown_open count ends.writer ends.reader (from_side Writer ends h))

taken_open : (e other : End) → Both e other → Both (future.taken e) (made_done other)
taken_open e other h = record {
  mine =
      open_as (future.taken e).copy other (made_done other) refl
      (replaced_open (λ copy. record copy { copied = 1; event = Some EventCompleted; standing = false }) EventCompleted (λ copy. refl) (standing_of e.copy) e other h.mine);
  theirs = open_as other.copy e (future.taken e) (replaced_drop _ (standing_of e.copy) e) h.theirs;
}

transfer_open : (kind : EndKind) (side : Side) (size count : ℕ) (c : Channel) → AreOpen c.ends.view → AreOpen (transferred_by kind side size count c.ends).view
transfer_open Stream side size count c h = copied_open (standing_side c.ends.view) count c.ends.view h
transfer_open Future side size count c h =
    let from : Side = standing_side c.ends.view in
    let e : End = end_at from c.ends.view in
    let other : End = end_at (other_side from) c.ends.view in
    to_sides from (future.taken e) (made_done other) (taken_open e other (from_side from c.ends.view h))

-- A copy is told, and is over.
told_open : (own other told : End) → told.copy ≡ None → told.dropped ≡ own.dropped → Both own other → Both told other
told_open own other told none same h = record { mine = subst (λ (o : Option OpenCopy). IsOpenTo o other) (sym none) tt; theirs = open_as other.copy own told same h.theirs }

conclude_open : (kind : EndKind) (side : Side) (c : Channel) → AreOpen c.ends.view → AreOpen (concluded_by kind side c.ends).view
conclude_open Stream Reader c h = (let ends : EndsView = c.ends.view in to_sides Reader (stream_ends.told ends.reader) ends.writer (told_open ends.reader ends.writer (stream_ends.told ends.reader) refl refl (from_side Reader ends h)))
conclude_open Stream Writer c h = (let ends : EndsView = c.ends.view in to_sides Writer (stream_ends.told ends.writer) ends.reader (told_open ends.writer ends.reader (stream_ends.told ends.writer) refl refl (from_side Writer ends h)))
conclude_open Future Reader c h = (let ends : EndsView = c.ends.view in to_sides Reader (future.told ends.reader) ends.writer (told_open ends.reader ends.writer (future.told ends.reader) refl refl (from_side Reader ends h)))
conclude_open Future Writer c h = (let ends : EndsView = c.ends.view in to_sides Writer (future.told ends.writer) ends.reader (told_open ends.writer ends.reader (future.told ends.writer) refl refl (from_side Writer ends h)))

-- An end without a copy is dropped: a copy at the other one of which nothing is to be told stands, and so hears of it.
abbrev pub WaitsSo : End → Type 0
WaitsSo e = has_event e.copy ≡ false → stands e ≡ is_copying e

heard : (own other gone : End) → WaitsSo other → IsOpenTo (hears_of_drop other).copy gone
heard own other gone waits = by other.copy refl
  where
    stood : (copy : OpenCopy) (b : Bool) → copy.standing ≡ b → other.copy ≡ Some copy → IsOpenTo (hears_of_drop other).copy gone
    stood copy true is at =
        subst (λ (o : Option OpenCopy). IsOpenTo (replaced (λ x. record x { event = Some OtherDropped }) (standing_of o) other).copy gone) (sym at)
        (subst (λ (b : Bool). IsOpenTo (replaced (λ x. record x { event = Some OtherDropped }) (if b then Some copy else None) other).copy gone) (sym is) (λ none. cc))
    stood copy false is at =
        subst (λ (o : Option OpenCopy). IsOpenTo (replaced (λ x. record x { event = Some OtherDropped }) (standing_of o) other).copy gone) (sym at)
        (subst (λ (b : Bool). IsOpenTo (replaced (λ x. record x { event = Some OtherDropped }) (if b then Some copy else None) other).copy gone) (sym is)
        (subst (λ (o : Option OpenCopy). IsOpenTo o gone) (sym at) (λ none. absurd (untold copy is at none))))
      where
        untold : (x : OpenCopy) → x.standing ≡ false → other.copy ≡ Some x → x.event ≡ None → ⊥
        untold x down there none =
            let event : has_event other.copy ≡ false = subst (λ (o : Option OpenCopy). has_event o ≡ false) (sym there) (ap is_some none) in
            let copying : is_copying other ≡ true = ap is_some there in
            let standing : stands other ≡ false = subst (λ (o : Option OpenCopy). is_some (standing_of o) ≡ false) (sym there) (ap (λ (b : Bool). is_some (if b then Some x else None)) down) in
            let same : stands other ≡ is_copying other = waits event in
            cc

    by : (o : Option OpenCopy) → other.copy ≡ o → IsOpenTo (hears_of_drop other).copy gone
    by None at =
        subst (λ (o : Option OpenCopy). IsOpenTo (replaced (λ x. record x { event = Some OtherDropped }) (standing_of o) other).copy gone) (sym at)
        (subst (λ (o : Option OpenCopy). IsOpenTo o gone) (sym at) tt)
    by (Some copy) at = stood copy copy.standing refl at

abbrev dropped_end : End → End
dropped_end e = record e { dropped = true }

pub waits_in : (kind : EndKind) (side : Side) (ends : EndsView) → IsSoundOf kind ends → WaitsSo (end_at side ends)
waits_in Stream Reader ends h = h.reader.waits
waits_in Stream Writer ends h = h.writer.waits
waits_in Future Reader ends h = h.reader.waits
waits_in Future Writer ends h = h.writer.waits

drop_open : (kind : EndKind) (side : Side) (c : Channel) → (end_at side c.ends.view).copy ≡ None → IsSoundOf kind c.ends.view → AreOpen c.ends.view → AreOpen (stream.after_dropping side c.ends.view)
drop_open kind side c none sound h =
    let own : End = end_at side c.ends.view in
    let other : End = end_at (other_side side) c.ends.view in
    to_sides side (dropped_end own) (hears_of_drop other)
    (record {
      mine = subst (λ (o : Option OpenCopy). IsOpenTo o (hears_of_drop other)) (sym none) tt;
      theirs = heard own other (dropped_end own) (waits_in kind (other_side side) c.ends.view sound);
    })

-- A channel is changed, or made.
changed_open : (kind : EndKind) (number : ℕ) (f : Channel → Channel) (w : World)
    → ((c : Channel) → channel_in kind number w.streams w.futures ≡ Some c → AreOpen c.ends.view → AreOpen (f c).ends.view) → OffersOpen w.streams w.futures
    → (let v = with_channel kind number f w in OffersOpen v.streams v.futures)
changed_open Stream number f w keeps h =
    record { of_streams = numbered_changed (λ (c : Channel). AreOpen c.ends.view) number f w.streams keeps h.of_streams; of_futures = h.of_futures }
changed_open Future number f w keeps h =
    record { of_streams = h.of_streams; of_futures = numbered_changed (λ (c : Channel). AreOpen c.ends.view) number f w.futures keeps h.of_futures }

made_open : (kind : EndKind) (element : Option ValType) (w : World) → OffersOpen w.streams w.futures → (let v = channel_made kind element w in OffersOpen v.streams v.futures)
made_open Stream element w h =
    record { of_streams = all_more (λ (c : Channel). AreOpen c.ends.view) w.streams (new_channel element) h.of_streams (record { reader = tt; writer = tt }); of_futures = h.of_futures }
made_open Future element w h =
    record { of_streams = h.of_streams; of_futures = all_more (λ (c : Channel). AreOpen c.ends.view) w.futures (new_channel element) h.of_futures (record { reader = tt; writer = tt }) }

abbrev Has : World → Type 0
Has w = OffersOpen w.streams w.futures

transferred_open : (e : EndRef) (size : ℕ) (values : List (Option Value)) (w : World) → Has w → Has (after (Transfers e size values) w)
transferred_open e size values w h =
    changed_open e.kind e.number _ (with_channel e.kind e.number (carried values) w) (λ c there k. transfer_open e.kind e.side size (length values) c k)
    (changed_open e.kind e.number (carried values) w (λ c there k. k) h)

open_kept : (g : Graph) (s : Script) (c : Change) (w : World) → Comes g s c w → IsCopied w → Has w → Has (after c w)
open_kept g s (MakesChannel kind element) w may copied h = made_open kind element w h
open_kept g s (Offers e call) w may copied h = changed_open e.kind e.number _ w (λ c there k. offer_open e.kind e.side call c k) h
open_kept g s (Transfers e size values) w may copied h = transferred_open e size values w h
open_kept g s (Concludes e) w may copied h = changed_open e.kind e.number _ w (λ c there k. conclude_open e.kind e.side c k) h
open_kept g s (DropsEnd e) w may copied h =
    changed_open e.kind e.number _ w
    (λ c there k. drop_open e.kind e.side c (ap (λ (x : End). x.copy) (sym (end_there w e c there)) ∙ may.0) (sound_there e.kind e.number c w there copied) k) h
open_kept g s (GoesTo control) w may copied h = h
open_kept g s (HasStore store) w may copied h = h
open_kept g s SpendsUnit w may copied h = h
open_kept g s (UsesPicks picks) w may copied h = h
open_kept g s TakesItem w may copied h = h
open_kept g s BeginsInstance w may copied h = h
open_kept g s (AddsEntry i entry) w may copied h = h
open_kept g s (MakesSet i set) w may copied h = h
open_kept g s (RemovesEntry i index) w may copied h = h
open_kept g s (RemovesWaitable i index) w may copied h = h
open_kept g s (LeavesSet i index) w may copied h = h
open_kept g s (JoinsSet i index set) w may copied h = h
open_kept g s (HasBackpressure i pressure) w may copied h = h
open_kept g s (IsCalled callee call values) w may copied h = h
open_kept g s (Calls number callee subtask words) w may copied h = h
open_kept g s (ComesBack t) w may copied h = h
open_kept g s (Acts t) w may copied h = h
open_kept g s (Begins n) w may copied h = h
open_kept g s (Cancels t callee number words) w may copied h = h
open_kept g s (Blocks t state) w may copied h = h
open_kept g s (Exits t) w may copied h = h
open_kept g s (IsRemoved t) w may copied h = h
open_kept g s (Resolves t resolution) w may copied h = h
open_kept g s (IsCancelled t cancellation) w may copied h = h
open_kept g s (HasWord t slot word) w may copied h = h
open_kept g s (HasNewStack t k) w may copied h = h
open_kept g s (HasStack t k) w may copied h = h
open_kept g s (LosesStack t) w may copied h = h
open_kept g s (IsAnswered t words) w may copied h = h
open_kept g s (IsTold t state) w may copied h = h
open_kept g s (IsLent t handle) w may copied h = h
open_kept g s (HasResult t words) w may copied h = h

open_both : (g : Graph) (s : Script) (c : Change) (w : World) → Comes g s c w → HasOpenOffers w → HasOpenOffers (after c w)
open_both g s c w may h = (copied_kept g s c w may h.0, open_kept g s c w may h.0 h.1)

pub first_has_open_offers : FirstHasOpenOffers
first_has_open_offers g = (first_is_copied g, record { of_streams = tt; of_futures = tt })

pub offers_stay_open : OffersStayOpen
offers_stay_open g s w v labels alone h e = kept_so g s HasOpenOffers (open_both g s) w v labels alone h e

open_from : (g : Graph) (s : Script) (steps : List (List Label)) (w v : World) → RunsAlone w → HasOpenOffers w → Reaches g s w steps v → HasOpenOffers v
open_from g s [] w v alone h r = subst HasOpenOffers (sym r) h
open_from g s (labels ∷ steps) w v alone h r = open_from g s steps r.0 v (stays_alone g s w r.0 labels alone r.1) (offers_stay_open g s w r.0 labels alone h r.1) r.2

pub reached_offers_are_open : ReachedOffersAreOpen
reached_offers_are_open g s steps w r = open_from g s steps (first_world g) w (first_runs_alone g) (first_has_open_offers g) r
