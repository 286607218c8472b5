-- Ends that were not dropped: what is done to streams and futures but drops leaves them so.
use Rattle.std.proofs.Common.{◌≡◌, inl, inr, ℕ, zero, suc, ◌+◌, Bool, false, nat_lt, List, [], ◌∷◌, ◌++◌, length, refl, sym, ap, ◌∙◌, subst, arith, Option, Some, None}
use Rattle.syntax_trees.specs.declared.types.ValType.{ValType}
use Rattle.builtin_kinds.specs.declared.EndKind.{EndKind}
use Rattle.builtin_kinds.specs.declared.EndKind.TheVariants.{Stream, Future}
use Rattle.stream_ends.specs.declared.side.Side.{Side}
use Rattle.stream_ends.specs.declared.side.Side.TheVariants.{Reader, Writer}
use Rattle.stream_ends.specs.declared.open_copy.OpenCopy.{OpenCopy}
use Rattle.stream_ends.specs.declared.stream_end.End.{End}
use Rattle.stream_ends.specs.declared.meet.Meet.TheVariants.{Dropped, Displaces, ZeroDone}
use Rattle.stream_ends.specs.Ends.{EndsView, Ends, end_at, other_side, arranged, standing_of, replaced, leaves, grown}
use Rattle.stream_ends.specs.Ends as stream
use Rattle.stream_ends.specs.Closed.{after_drop}
use Rattle.stream_ends.specs.Meeting.{Meeting, met, met_offer, met_full, room_meet, is_empty_pair, with_offer, made_done, standing_side, changed}
use Rattle.stream_ends.proofs.Meetings.{if_holds}
use Rattle.future_ends.specs.declared.meet.Meet.TheVariants as future_case
use Rattle.future_ends.specs.Meeting as future
use Rattle.future_ends.proofs.Meetings as future_meetings
use Rattle.abi_machine.specs.Control.{EndRef}
use Rattle.abi_machine.specs.World.{Channel, World, new_channel}
use Rattle.abi_machine.specs.Edits.{with_channel, channel_made, offered_by, transferred_by, concluded_by}
use Rattle.abi_machine.specs.Reading.{numbered, channels}
use Rattle.abi_machine.specs.sound.EndPlaces.{LiveAt}
use Rattle.abi_machine.proofs.sound.Lists.{get_front}
use Rattle.abi_machine.proofs.sound.Chained.{last_there}
use Rattle.abi_machine.proofs.sound.OpenStay.{channel_after}

-- Both ends are dropped where they were.
abbrev pub SameDrops : EndsView → EndsView → Type 0
SameDrops old new = (side : Side) → (end_at side new).dropped ≡ (end_at side old).dropped

replaced_drops : (edit : OpenCopy → OpenCopy) (o : Option OpenCopy) (e : End) → (replaced edit o e).dropped ≡ e.dropped
replaced_drops edit None e = refl
replaced_drops edit (Some copy) e = refl

changed_drops : (own : Side) (edit : End → End) (view : EndsView) → ((e : End) → (edit e).dropped ≡ e.dropped) → SameDrops view (changed own edit view)
changed_drops Reader edit view same Reader = same view.reader
changed_drops Reader edit view same Writer = refl
changed_drops Writer edit view same Reader = refl
changed_drops Writer edit view same Writer = same view.writer

arranged_drops : (own : Side) (one other : End) (view : EndsView) → one.dropped ≡ (end_at own view).dropped → other.dropped ≡ (end_at (other_side own) view).dropped → SameDrops view (arranged own one other)
arranged_drops Reader one other view same also Reader = same
arranged_drops Reader one other view same also Writer = also
arranged_drops Writer one other view same also Reader = also
arranged_drops Writer one other view same also Writer = same

-- A copy is told.
told_drops : (own : Side) (view : EndsView) → SameDrops view (changed own stream.told view)
told_drops own view = changed_drops own stream.told view (λ e. refl)

future_told_drops : (own : Side) (view : EndsView) → SameDrops view (changed own future.told view)
future_told_drops own view = changed_drops own future.told view (λ e. refl)

pub concluded_drops : (kind : EndKind) (own : Side) (ends : Ends) → SameDrops ends.view (concluded_by kind own ends).view
concluded_drops Stream own ends = told_drops own ends.view
concluded_drops Future own ends = future_told_drops own ends.view

-- Elements go over.
copied_drops : (own : Side) (view : EndsView) → SameDrops view (future.copied_from own view)
copied_drops own view = arranged_drops own (future.taken (end_at own view)) (made_done (end_at (other_side own) view)) view (replaced_drops _ (standing_of (end_at own view).copy) (end_at own view)) refl

pub transferred_drops : (kind : EndKind) (side : Side) (size count : ℕ) (ends : Ends) → SameDrops ends.view (transferred_by kind side size count ends).view
transferred_drops Stream side size count ends = changed_drops (standing_side ends.view) (grown count) ends.view (λ e. replaced_drops _ (standing_of e.copy) e)
transferred_drops Future side size count ends = copied_drops (standing_side ends.view) ends.view

-- A read or write meets the other end.
abbrev LeavesDrops : End → End → Meeting → Type 0
LeavesDrops own other m = (m.own.dropped ≡ own.dropped) × (m.other.dropped ≡ other.dropped)

offer_drops : (side : Side) (call : OpenCopy) (own other : End) (o : Option OpenCopy) → LeavesDrops own other (met_offer side call own other o)
offer_drops side call own other None = (refl, refl)
offer_drops side call own other (Some offer) =
    if_holds (LeavesDrops own other) (nat_lt offer.copied offer.length) (record { meet = room_meet call offer; own = own; other = other }) (met_full side call own other offer) (λ _. (refl, refl))
    (λ _.
    if_holds (LeavesDrops own other) (is_empty_pair side call offer) (record { meet = ZeroDone; own = own; other = other }) (record { meet = Displaces; own = with_offer call own; other = leaves other }) (λ _. (refl, refl))
    (λ _. (refl, replaced_drops _ (standing_of other.copy) other)))

met_drops : (side : Side) (call : OpenCopy) (own other : End) → LeavesDrops own other (met side call own other)
unfolding met
met_drops side call own other =
    if_holds (LeavesDrops own other) other.dropped (record { meet = Dropped; own = made_done own; other = other }) (met_offer side call own other (standing_of other.copy)) (λ _. (refl, refl))
    (λ _. offer_drops side call own other (standing_of other.copy))

future_offer_drops : (call : OpenCopy) (own : End) (o : Option OpenCopy) → (future.met_offer call own o).own.dropped ≡ own.dropped
future_offer_drops call own None = refl
future_offer_drops call own (Some offer) = refl

future_met_drops : (call : OpenCopy) (own other : End) → (future.met call own other).own.dropped ≡ own.dropped
unfolding future.met
future_met_drops call own other =
    future_meetings.if_holds (λ m. m.own.dropped ≡ own.dropped) other.dropped (record { meet = future_case.Dropped; own = made_done own }) (future.met_offer call own (standing_of other.copy)) refl
    (future_offer_drops call own (standing_of other.copy))

pub offered_drops : (kind : EndKind) (own : Side) (call : OpenCopy) (ends : Ends) → SameDrops ends.view (offered_by kind own call ends).view
offered_drops Stream own call ends =
    let m : Meeting = met own call (end_at own ends.view) (end_at (other_side own) ends.view) in
    let same : LeavesDrops (end_at own ends.view) (end_at (other_side own) ends.view) m = met_drops own call (end_at own ends.view) (end_at (other_side own) ends.view) in
    arranged_drops own m.own m.other ends.view same.0 same.1
offered_drops Future own call ends =
    arranged_drops own (future.met call (end_at own ends.view) (end_at (other_side own) ends.view)).own (end_at (other_side own) ends.view) ends.view
    (future_met_drops call (end_at own ends.view) (end_at (other_side own) ends.view)) refl

-- A drop leaves the other end as it is.
pub other_drops : (own side : Side) (ends : Ends) → (side ≡ own → ⊥) → (end_at side (after_drop own ends).view).dropped ≡ (end_at side ends.view).dropped
other_drops Reader Reader ends apart = absurd (apart refl)
other_drops Reader Writer ends apart = replaced_drops _ (standing_of ends.view.writer.copy) ends.view.writer
other_drops Writer Reader ends apart = replaced_drops _ (standing_of ends.view.reader.copy) ends.view.reader
other_drops Writer Writer ends apart = absurd (apart refl)

-- The stream or the future of a number, where one is changed or made.

abbrev pub IsDroppedAt : Side → Channel → Bool
IsDroppedAt side c = (end_at side c.ends.view).dropped

abbrev LiveIn : List Channel → ℕ → Side → Type 0
LiveIn all n side = (c : Channel) × (numbered all n ≡ Some c) × (IsDroppedAt side c ≡ false)

pub edit_live : (kind k : EndKind) (number n : ℕ) (side : Side) (f : Channel → Channel) (w : World) → ((c : Channel) → k ≡ kind → n ≡ number → IsDroppedAt side (f c) ≡ IsDroppedAt side c)
    → LiveAt k n side w.streams w.futures → LiveAt k n side (with_channel kind number f w).streams (with_channel kind number f w).futures
edit_live kind k number n side f w keeps h = elim (channel_after kind k number n f w h.0 h.1) [
  | inl old ↦ (h.0, old, h.2)
  | inr new ↦ (f h.0, new.2, keeps h.0 new.0 new.1 ∙ h.2)
]

number_more : (all : List Channel) (new : Channel) (n : ℕ) (side : Side) → LiveIn all n side → LiveIn (all ++ new ∷ []) n side
number_more all new zero side h = let none : None ≡ Some h.0 = h.1 in cc
number_more all new (suc n) side h = (h.0, get_front all new n h.0 h.1, h.2)

pub made_live : (kind k : EndKind) (n : ℕ) (side : Side) (element : Option ValType) (w : World) → LiveAt k n side w.streams w.futures
    → LiveAt k n side (channel_made kind element w).streams (channel_made kind element w).futures
made_live Stream Stream n side element w h = number_more w.streams (new_channel element) n side h
made_live Stream Future n side element w h = h
made_live Future Stream n side element w h = h
made_live Future Future n side element w h = number_more w.futures (new_channel element) n side h

-- What was just made is live at both ends.

last_live : (all : List Channel) (element : Option ValType) (side : Side) → LiveIn (all ++ new_channel element ∷ []) (length all + 1) side
last_live all element side = (new_channel element, subst (λ (n : ℕ). numbered (all ++ new_channel element ∷ []) n ≡ Some (new_channel element)) (sym next) (last_there all (new_channel element)), open_at side)
  where
    next : length all + 1 ≡ suc (length all)
    next = omega arith

    open_at : (s : Side) → IsDroppedAt s (new_channel element) ≡ false
    open_at Reader = refl
    open_at Writer = refl

pub new_live : (kind : EndKind) (element : Option ValType) (w : World) (side : Side) → LiveAt kind (length (channels kind w) + 1) side (channel_made kind element w).streams (channel_made kind element w).futures
new_live Stream element w side = last_live w.streams element side
new_live Future element w side = last_live w.futures element side

-- Ends of one kind, number and side are one.
pub same_end : (x e : EndRef) → x.kind ≡ e.kind → x.number ≡ e.number → x.side ≡ e.side → x ≡ e
same_end x e kind number side =
    ap (λ (k : EndKind). (let r : EndRef = record { kind = k; number = x.number; side = x.side } in r)) kind
    ∙ ap (λ (n : ℕ). (let r : EndRef = record { kind = e.kind; number = n; side = x.side } in r)) number
    ∙ ap (λ (s : Side). (let r : EndRef = record { kind = e.kind; number = e.number; side = s } in r)) side
