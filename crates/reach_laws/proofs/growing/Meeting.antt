-- How many elements go over where a read or write meets an offer: no more than either has room for.
use Rattle.std.proofs.Common.{◌≡◌, ◌≤◌, ◌+◌, ◌-◌, ℕ, zero, suc, min, Bool, true, false, if◌then◌else◌, nat_lt, refl, sym, subst, arith, Option, Some, None}
use Rattle.std.proofs.Math.Nat.{min-le_right}
use Rattle.wasm_store.proofs.Lists.{all_at}
use Rattle.builtin_kinds.specs.declared.EndKind.{EndKind}
use Rattle.builtin_kinds.specs.declared.EndKind.TheVariants.{Stream, Future}
use Rattle.stream_ends.specs.declared.side.Side.{Side}
use Rattle.stream_ends.specs.declared.side.Side.TheVariants.{Reader}
use Rattle.stream_ends.specs.declared.open_copy.OpenCopy.{OpenCopy}
use Rattle.stream_ends.specs.declared.stream_end.End.{End}
use Rattle.stream_ends.specs.declared.meet.Meet.{Meet}
use Rattle.stream_ends.specs.declared.meet.Meet.TheVariants as stream
use Rattle.stream_ends.specs.Ends.{EndsView, other_side, end_at, standing_of, copied_of, length_of, is_copying}
use Rattle.stream_ends.specs.Meeting.{Meeting, met, met_offer, met_full, room_meet, is_empty_pair}
use Rattle.stream_ends.specs.Meeting as of_streams
use Rattle.future_ends.specs.declared.meet.Meet as future_meet
use Rattle.future_ends.specs.declared.meet.Meet.TheVariants as future
use Rattle.future_ends.specs.Meeting as of_futures
use Rattle.abi_machine.specs.World.{Channel, World}
use Rattle.abi_machine.specs.Reading.{channel_at}
use Rattle.abi_machine.specs.Copying.{Moves, stream_met, future_met, met_by}
use Rattle.abi_machine.specs.sound.Agreeing.{FitsIn}
use Rattle.abi_machine.specs.sound.Copies.{IsCopied}

-- at most so many elements go over
abbrev Most : ℕ → Meet → Type 0
Most n (stream.Copies count) = count ≤ n
Most n meet = Unit {0}

either_most : (n : ℕ) (b : Bool) (x y : Meeting) → Most n x.meet → Most n y.meet → Most n (if b then x else y).meet
either_most n true x y h k = h
either_most n false x y h k = k

room_most : (call offer : OpenCopy) → Most call.length (room_meet call offer)
room_most call offer = by (nat_lt 0 call.length)
  where
    by : (b : Bool) → Most call.length (if b then stream.Copies (min (offer.length - offer.copied) call.length) else stream.NothingNow)
    by true = min-le_right (offer.length - offer.copied) call.length
    by false = tt

offer_most : (side : Side) (call : OpenCopy) (own other : End) (o : Option OpenCopy) → Most call.length (met_offer side call own other o).meet
offer_most side call own other None = tt
offer_most side call own other (Some offer) =
    either_most call.length (nat_lt offer.copied offer.length) _ _ (room_most call offer) (either_most call.length (is_empty_pair side call offer) _ _ tt tt)

met_most : (side : Side) (call : OpenCopy) (own other : End) → Most call.length (met side call own other).meet
unfolding met
met_most side call own other = either_most call.length other.dropped _ _ tt (offer_most side call own other (standing_of other.copy))

moves_same : (k count : ℕ) → Moves k ≡ Moves count → k ≡ count
moves_same k count e = cc

at_most : (n count : ℕ) (m : Meet) → Most n m → stream_met m ≡ Moves count → count ≤ n
at_most n count (stream.Copies k) h e = subst (λ (x : ℕ). x ≤ n) (moves_same k count e) h
at_most n count stream.Stands h e = cc
at_most n count stream.Dropped h e = cc
at_most n count stream.Displaces h e = cc
at_most n count stream.ZeroDone h e = cc
at_most n count stream.NothingNow h e = cc

one_goes : (m : future_meet.Meet) (count : ℕ) → future_met m ≡ Moves count → count ≡ 1
one_goes future.Stands count e = cc
one_goes future.Copies count e = cc
one_goes future.Dropped count e = cc

-- A read or write of a future is of one value.
abbrev pub IsOneOf : EndKind → ℕ → Type 0
IsOneOf Stream size = Unit {0}
IsOneOf Future size = size ≡ 1

pub call_has_room : (kind : EndKind) (side : Side) (call : OpenCopy) (ends : EndsView) (count : ℕ) → IsOneOf kind call.length → met_by kind side call ends ≡ Moves count → count ≤ call.length
call_has_room Stream side call ends count one e = at_most call.length count _ (met_most side call (end_at side ends) (end_at (other_side side) ends)) e
call_has_room Future side call ends count one e = (let n : count ≡ 1 = one_goes _ count e in omega (arith, n, one))

-- The offer that stands at an end.
standing_same : (o : Option OpenCopy) (offer : OpenCopy) → standing_of o ≡ Some offer → o ≡ Some offer
standing_same None offer e = cc
standing_same (Some copy) offer e = by copy.standing e
  where
    by : (b : Bool) → (let o : Option OpenCopy = if b then Some copy else None in o) ≡ Some offer → Some copy ≡ Some offer
    by true k = k
    by false k = cc

pub standing_at : (side : Side) (ends : EndsView) (offer : OpenCopy) → standing_of (end_at side ends).copy ≡ Some offer → (end_at side ends).copy ≡ Some offer
standing_at side ends offer e = standing_same (end_at side ends).copy offer e

copying_there : (e : End) (offer : OpenCopy) → e.copy ≡ Some offer → is_copying e ≡ true
copying_there e offer there = subst (λ (o : Option OpenCopy). is_copying (record e { copy = o }) ≡ true) (sym there) refl

stream_at : (w : World) (number : ℕ) (c : Channel) → IsCopied w → channel_at w Stream number ≡ Some c → of_streams.Sound c.ends.view
stream_at w zero c h e = cc
stream_at w (suc place) c h e = all_at (λ (x : Channel). of_streams.Sound x.ends.view) w.streams place c h.of_streams e

future_at : (w : World) (number : ℕ) (c : Channel) → IsCopied w → channel_at w Future number ≡ Some c → of_futures.Sound c.ends.view
future_at w zero c h e = cc
future_at w (suc place) c h e = all_at (λ (x : Channel). of_futures.Sound x.ends.view) w.futures place c h.of_futures e

stream_fits : (e : End) (offer : OpenCopy) (count : ℕ) → of_streams.EndSound e → e.copy ≡ Some offer → count ≤ offer.length - offer.copied → offer.copied + count ≤ offer.length
stream_fits e offer count sound there room =
    let fits : offer.copied ≤ offer.length = subst (λ (o : Option OpenCopy). copied_of o ≤ length_of o) there sound.copied in
    omega (arith, fits, room)

future_fits : (e : End) (offer : OpenCopy) (count : ℕ) → of_futures.EndSound e → standing_of e.copy ≡ Some offer → e.copy ≡ Some offer → count ≡ 1 → offer.copied + count ≤ offer.length
future_fits e offer count sound stands there one =
    let none : offer.copied ≡ 0 = subst (λ (o : Option OpenCopy). copied_of o ≡ 0) stands sound.fresh in
    let long : offer.length ≡ 1 = subst (λ (o : Option OpenCopy). length_of o ≡ 1) there (sound.length (copying_there e offer there)) in
    omega (arith, none, long, one)

-- What a read that stands has room for.
pub offer_has_room : (w : World) (kind : EndKind) (number : ℕ) (c : Channel) (offer : OpenCopy) (count : ℕ) → IsCopied w → channel_at w kind number ≡ Some c → standing_of (end_at Reader c.ends.view).copy ≡ Some offer → FitsIn kind count offer
    → offer.copied + count ≤ offer.length
offer_has_room w Stream number c offer count copied there stands fits =
    stream_fits (end_at Reader c.ends.view) offer count (stream_at w number c copied there).reader (standing_at Reader c.ends.view offer stands) fits
offer_has_room w Future number c offer count copied there stands fits =
    future_fits (end_at Reader c.ends.view) offer count (future_at w number c copied there).reader stands (standing_at Reader c.ends.view offer stands) fits
