-- What edits of streams and futures leave of the copies under way at their ends.
use Rattle.std.proofs.Common.{◌≡◌, ◌⊎◌, inl, inr, ℕ, zero, suc, nat_lt, List, [], ◌∷◌, ◌++◌, refl, sym, ap, ◌∙◌, subst, Option, Some, None}
use Rattle.builtin_kinds.specs.declared.EndKind.{EndKind}
use Rattle.builtin_kinds.specs.declared.EndKind.TheVariants.{Stream, Future}
use Rattle.stream_ends.specs.declared.side.Side.{Side}
use Rattle.stream_ends.specs.declared.side.Side.TheVariants.{Reader, Writer}
use Rattle.stream_ends.specs.declared.open_copy.CopyEvent.TheVariants.{Dropped as OtherDropped}
use Rattle.stream_ends.specs.declared.open_copy.OpenCopy.{OpenCopy}
use Rattle.stream_ends.specs.declared.stream_end.End.{End}
use Rattle.stream_ends.specs.declared.meet.Meet.TheVariants.{Dropped, Displaces, ZeroDone}
use Rattle.stream_ends.specs.Ends.{EndsView, Ends, end_at, standing_of, replaced, leaves, hears_of_drop, grown}
use Rattle.stream_ends.specs.Meeting.{Meeting, met, met_offer, met_full, room_meet, is_empty_pair, with_offer, made_done, standing_side, changed, after_dropping}
use Rattle.stream_ends.proofs.Meetings.{if_holds, standing_is}
use Rattle.future_ends.specs.declared.meet.Meet.TheVariants as future_case
use Rattle.future_ends.specs.Meeting as future
use Rattle.future_ends.proofs.Meetings as future_meetings
use Rattle.syntax_trees.specs.declared.types.ValType.{ValType}
use Rattle.abi_machine.specs.Control.{EndRef}
use Rattle.abi_machine.specs.World.{Channel, World, new_channel}
use Rattle.abi_machine.specs.Edits.{changed_number, with_channel, channel_made, offered_by, transferred_by, concluded_by}
use Rattle.abi_machine.specs.Reading.{numbered}
use Rattle.abi_machine.specs.sound.Agreeing.{channel_in}
use Rattle.abi_machine.proofs.sound.Lists.{more_either}
use Rattle.abi_machine.proofs.sound.Found.{some_same}
use Rattle.abi_machine.proofs.sound.OnePlace.{changed_back}

-- What edits of ends leave of the copies there: each was there before, of the same task and canonical function, at the same place and of as many
-- elements.

abbrev pub Before : Option OpenCopy → OpenCopy → Type 0
Before old copy = (before : OpenCopy) × (old ≡ Some before) × (copy.by ≡ before.by) × (copy.canon ≡ before.canon) × (copy.place ≡ before.place) × (copy.length ≡ before.length)

abbrev pub ComesFrom : Option OpenCopy → Option OpenCopy → Type 0
ComesFrom old new = (copy : OpenCopy) → new ≡ Some copy → Before old copy

pub same_comes : (o : Option OpenCopy) → ComesFrom o o
same_comes o copy e = (copy, e, refl, refl, refl, refl)

none_comes : (o : Option OpenCopy) → ComesFrom o None
none_comes o copy e = cc

replaced_comes : (edit : OpenCopy → OpenCopy) → ((x : OpenCopy) → (edit x).by ≡ x.by) → ((x : OpenCopy) → (edit x).canon ≡ x.canon) → ((x : OpenCopy) → (edit x).place ≡ x.place) → ((x : OpenCopy) → (edit x).length ≡ x.length) → (e : End) (o : Option OpenCopy) → standing_of e.copy ≡ o
    → ComesFrom e.copy (replaced edit o e).copy
replaced_comes edit by_same canon_same place_same length_same e None h copy k = (copy, k, refl, refl, refl, refl)
replaced_comes edit by_same canon_same place_same length_same e (Some x) h copy k = (
  x,
  standing_is e.copy x h,
  subst (λ (c : OpenCopy). c.by ≡ x.by) (some_same k) (by_same x),
  subst (λ (c : OpenCopy). c.canon ≡ x.canon) (some_same k) (canon_same x),
  subst (λ (c : OpenCopy). c.place ≡ x.place) (some_same k) (place_same x),
  subst (λ (c : OpenCopy). c.length ≡ x.length) (some_same k) (length_same x),
)

abbrev pub AllCome : EndsView → EndsView → Type 0
AllCome old new = (side : Side) → ComesFrom (end_at side old).copy (end_at side new).copy

pub conclude_come : (kind : EndKind) (side : Side) (ends : Ends) → AllCome ends.view (concluded_by kind side ends).view
conclude_come Stream Reader ends Reader = none_comes _
conclude_come Stream Reader ends Writer = same_comes _
conclude_come Stream Writer ends Reader = same_comes _
conclude_come Stream Writer ends Writer = none_comes _
conclude_come Future Reader ends Reader = none_comes _
conclude_come Future Reader ends Writer = same_comes _
conclude_come Future Writer ends Reader = same_comes _
conclude_come Future Writer ends Writer = none_comes _

hears_come : (e : End) → ComesFrom e.copy (hears_of_drop e).copy
hears_come e = replaced_comes (λ copy. record copy { event = Some OtherDropped }) (λ x. refl) (λ x. refl) (λ x. refl) (λ x. refl) e (standing_of e.copy) refl

pub drop_come : (side : Side) (view : EndsView) → AllCome view (after_dropping side view)
drop_come Reader view Reader = same_comes _
drop_come Reader view Writer = hears_come view.writer
drop_come Writer view Reader = hears_come view.reader
drop_come Writer view Writer = same_comes _

grown_come : (count : ℕ) (e : End) → ComesFrom e.copy (grown count e).copy
grown_come count e = replaced_comes _ (λ x. refl) (λ x. refl) (λ x. refl) (λ x. refl) e (standing_of e.copy) refl

changed_come : (side : Side) (count : ℕ) (view : EndsView) → AllCome view (changed side (grown count) view)
changed_come Reader count view Reader = grown_come count view.reader
changed_come Reader count view Writer = same_comes _
changed_come Writer count view Reader = same_comes _
changed_come Writer count view Writer = grown_come count view.writer

taken_come : (e : End) → ComesFrom e.copy (future.taken e).copy
taken_come e = replaced_comes _ (λ x. refl) (λ x. refl) (λ x. refl) (λ x. refl) e (standing_of e.copy) refl

copied_come : (side : Side) (view : EndsView) → AllCome view (future.copied_from side view)
copied_come Reader view Reader = taken_come view.reader
copied_come Reader view Writer = same_comes _
copied_come Writer view Reader = same_comes _
copied_come Writer view Writer = taken_come view.writer

pub transfer_come : (kind : EndKind) (side : Side) (size count : ℕ) (ends : Ends) → AllCome ends.view (transferred_by kind side size count ends).view
transfer_come Stream side size count ends = changed_come (standing_side ends.view) count ends.view
transfer_come Future side size count ends = copied_come (standing_side ends.view) ends.view

-- A read or write: the copy at its own end may be that of the call.

abbrev OwnOr : OpenCopy → Option OpenCopy → Option OpenCopy → Type 0
OwnOr call old new = (copy : OpenCopy) → new ≡ Some copy → (copy ≡ call) ⊎ Before old copy

same_or : (call : OpenCopy) (o : Option OpenCopy) → OwnOr call o o
same_or call o copy e = inr (copy, e, refl, refl, refl, refl)

call_or : (call : OpenCopy) (o : Option OpenCopy) → OwnOr call o (Some call)
call_or call o copy e = inl (sym (some_same e))

abbrev MeetsFrom : OpenCopy → End → End → Meeting → Type 0
MeetsFrom call own other m = OwnOr call own.copy m.own.copy × ComesFrom other.copy m.other.copy

leaves_come : (e : End) → ComesFrom e.copy (leaves e).copy
leaves_come e = replaced_comes _ (λ x. refl) (λ x. refl) (λ x. refl) (λ x. refl) e (standing_of e.copy) refl

offer_from : (side : Side) (call : OpenCopy) (own other : End) (o : Option OpenCopy) → MeetsFrom call own other (met_offer side call own other o)
offer_from side call own other None = (call_or call own.copy, same_comes other.copy)
offer_from side call own other (Some offer) =
    if_holds (MeetsFrom call own other) (nat_lt offer.copied offer.length) (record { meet = room_meet call offer; own = own; other = other }) (met_full side call own other offer)
    (λ _. (same_or call own.copy, same_comes other.copy))
    (λ _.
    if_holds (MeetsFrom call own other) (is_empty_pair side call offer) (record { meet = ZeroDone; own = own; other = other }) (record { meet = Displaces; own = with_offer call own; other = leaves other })
    (λ _. (same_or call own.copy, same_comes other.copy)) (λ _. (call_or call own.copy, leaves_come other)))

met_from : (side : Side) (call : OpenCopy) (own other : End) → MeetsFrom call own other (met side call own other)
unfolding met
met_from side call own other =
    if_holds (MeetsFrom call own other) other.dropped (record { meet = Dropped; own = made_done own; other = other }) (met_offer side call own other (standing_of other.copy))
    (λ _. (same_or call own.copy, same_comes other.copy)) (λ _. offer_from side call own other (standing_of other.copy))

future_offer_from : (call : OpenCopy) (own : End) (o : Option OpenCopy) → OwnOr call own.copy (future.met_offer call own o).own.copy
future_offer_from call own None = call_or call own.copy
future_offer_from call own (Some offer) = same_or call own.copy

future_from : (call : OpenCopy) (own other : End) → OwnOr call own.copy (future.met call own other).own.copy
unfolding future.met
future_from call own other =
    future_meetings.if_holds (λ m. OwnOr call own.copy m.own.copy) other.dropped (record { meet = future_case.Dropped; own = made_done own }) (future.met_offer call own (standing_of other.copy))
    (same_or call own.copy) (future_offer_from call own (standing_of other.copy))

-- what a copy is behind a read or write at a side
abbrev pub OfCall : Side → OpenCopy → Ends → Side → OpenCopy → Type 0
OfCall side call ends at copy = ((at ≡ side) × (copy ≡ call)) ⊎ Before (end_at at ends.view).copy copy

own_of : (side : Side) (call : OpenCopy) (ends : Ends) (copy : OpenCopy) → (copy ≡ call) ⊎ Before (end_at side ends.view).copy copy → OfCall side call ends side copy
own_of side call ends copy (inl same) = inl (refl, same)
own_of side call ends copy (inr before) = inr before

pub offered_copies : (kind : EndKind) (side : Side) (call : OpenCopy) (ends : Ends) (at : Side) (copy : OpenCopy) → (end_at at (offered_by kind side call ends).view).copy ≡ Some copy → OfCall side call ends at copy
offered_copies Stream Reader call ends Reader copy e = own_of Reader call ends copy ((met_from Reader call ends.view.reader ends.view.writer).0 copy e)
offered_copies Stream Reader call ends Writer copy e = inr ((met_from Reader call ends.view.reader ends.view.writer).1 copy e)
offered_copies Stream Writer call ends Reader copy e = inr ((met_from Writer call ends.view.writer ends.view.reader).1 copy e)
offered_copies Stream Writer call ends Writer copy e = own_of Writer call ends copy ((met_from Writer call ends.view.writer ends.view.reader).0 copy e)
offered_copies Future Reader call ends Reader copy e = own_of Reader call ends copy (future_from call ends.view.reader ends.view.writer copy e)
offered_copies Future Reader call ends Writer copy e = inr (same_comes ends.view.writer.copy copy e)
offered_copies Future Writer call ends Reader copy e = inr (same_comes ends.view.reader.copy copy e)
offered_copies Future Writer call ends Writer copy e = own_of Writer call ends copy (future_from call ends.view.writer ends.view.reader copy e)

-- Streams and futures that are changed.

number_either : (number n : ℕ) (f : Channel → Channel) (all : List Channel) (y : Channel) → numbered (changed_number number f all) n ≡ Some y
    → ((n ≡ number) × ((x : Channel) × (numbered all n ≡ Some x) × (y ≡ f x))) ⊎ (numbered all n ≡ Some y)
number_either number zero f all y h = cc
number_either zero (suc place) f all y h = inr h
number_either (suc at) (suc place) f all y h = elim (changed_back at f all place y h) [
  | inl new ↦ inl (ap suc new.0, new.1)
  | inr old ↦ inr old
]

abbrev pub WasChanged : EndKind → EndKind → ℕ → ℕ → (Channel → Channel) → World → Channel → Type 0
WasChanged kind k number n f w y =
    ((k ≡ kind) × (n ≡ number) × ((x : Channel) × (channel_in k n w.streams w.futures ≡ Some x) × (y ≡ f x))) ⊎ (channel_in k n w.streams w.futures ≡ Some y)

pub channel_either : (kind k : EndKind) (number n : ℕ) (f : Channel → Channel) (w : World) (y : Channel) → channel_in k n (with_channel kind number f w).streams (with_channel kind number f w).futures ≡ Some y
    → WasChanged kind k number n f w y
channel_either Stream Stream number n f w y h = elim (number_either number n f w.streams y h) [
  | inl new ↦ inl (refl, new.0, new.1)
  | inr old ↦ inr old
]
channel_either Stream Future number n f w y h = inr h
channel_either Future Stream number n f w y h = inr h
channel_either Future Future number n f w y h = elim (number_either number n f w.futures y h) [
  | inl new ↦ inl (refl, new.0, new.1)
  | inr old ↦ inr old
]

-- The new one has no copies.
numbers_more : (element : Option ValType) (all : List Channel) (n : ℕ) (c : Channel) → numbered (all ++ new_channel element ∷ []) n ≡ Some c → (numbered all n ≡ Some c) ⊎ (c ≡ new_channel element)
numbers_more element all zero c k = cc
numbers_more element all (suc place) c k = elim (more_either all (new_channel element) place c k) [
  | inl old ↦ inl old
  | inr last ↦ inr last.1
]

made_either : (element : Option ValType) (w : World) (made k : EndKind) (n : ℕ) (c : Channel) → channel_in k n (channel_made made element w).streams (channel_made made element w).futures ≡ Some c
    → (channel_in k n w.streams w.futures ≡ Some c) ⊎ (c ≡ new_channel element)
made_either element w Stream Stream n c k = numbers_more element w.streams n c k
made_either element w Stream Future n c k = inl k
made_either element w Future Stream n c k = inl k
made_either element w Future Future n c k = numbers_more element w.futures n c k

nothing_at : (element : Option ValType) (side : Side) (copy : OpenCopy) → (end_at side (new_channel element).ends.view).copy ≡ Some copy → ⊥
nothing_at element Reader copy k = cc
nothing_at element Writer copy k = cc

pub made_copies : (kind : EndKind) (element : Option ValType) (w : World) (e : EndRef) (c : Channel) (copy : OpenCopy)
    → channel_in e.kind e.number (channel_made kind element w).streams (channel_made kind element w).futures ≡ Some c → (end_at e.side c.ends.view).copy ≡ Some copy
    → channel_in e.kind e.number w.streams w.futures ≡ Some c
made_copies kind element w e c copy there under = elim (made_either element w kind e.kind e.number c there) [
  | inl old ↦ old
  | inr new ↦ absurd (nothing_at element e.side copy (ap (λ (x : Channel). (end_at e.side x.ends.view).copy) (sym new) ∙ under))
]
