-- That elements are to go over is due: the offer that stands has room for them, and as many are lifted as were counted.
use Rattle.std.proofs.Common.{◌≡◌, ◌≤◌, ℕ, zero, suc, ◌+◌, ◌-◌, ◌*◌, min, Bool, true, false, ◌==◌, nat_lt, List, [], ◌∷◌, ◌++◌, length, map, replicate, refl, ◌∙◌, subst, arith, Option, Some, None, Ok, Err, if◌then◌else◌}
use Rattle.std.proofs.lemmas.Bool.Decides.{nat_tests}
use Rattle.std.proofs.lemmas.List.{length-map, length-replicate}
use Rattle.std.proofs.Math.Nat.{min-le_left}
use Rattle.syntax_trees.specs.declared.types.ValType.{ValType}
use Rattle.syntax_trees.specs.declared.value.Value.{Value}
use Rattle.value_lift.specs.Bytes.{is_inside, is_aligned}
use Rattle.builtin_kinds.specs.declared.EndKind.{EndKind}
use Rattle.builtin_kinds.specs.declared.EndKind.TheVariants.{Stream, Future}
use Rattle.stream_ends.specs.declared.side.Side.{Side}
use Rattle.stream_ends.specs.declared.open_copy.OpenCopy.{OpenCopy}
use Rattle.stream_ends.specs.declared.stream_end.End.{End}
use Rattle.stream_ends.specs.declared.meet.Meet.{Meet}
use Rattle.stream_ends.specs.declared.meet.Meet.TheVariants as stream
use Rattle.stream_ends.specs.Ends.{EndsView, other_side, end_at, standing_of}
use Rattle.stream_ends.specs.Meeting.{Meeting, met, met_offer}
use Rattle.future_ends.specs.declared.meet.Meet as future_meet
use Rattle.future_ends.specs.declared.meet.Meet.TheVariants as future
use Rattle.abi_machine.specs.LiftingOver.{Ledger, Part}
use Rattle.abi_machine.specs.LiftingOver as over
use Rattle.abi_machine.specs.Control.{EndRef}
use Rattle.abi_machine.specs.World.{Channel, World}
use Rattle.abi_machine.specs.Reading.{channel_at}
use Rattle.abi_machine.specs.Counting.{channel_end, end_of}
use Rattle.abi_machine.specs.Lifting.{Kept, Came, by_world}
use Rattle.abi_machine.specs.Passing.{elements_lifted}
use Rattle.abi_machine.specs.Copying.{Moves, stream_met, future_met, met_by, other_offer}
use Rattle.abi_machine.specs.sound.Agreeing.{FitsIn, IsDueAt, channel_in}
use Rattle.abi_machine.proofs.sound.Lists.{length_more}

-- What comes of a call at a stream.

either_case : (Q : Type 0) (P : Meeting → Type 0) (b : Bool) (x y : Meeting) → P (if b then x else y) → (P x → Q) → (P y → Q) → Q
either_case Q P true x y h f k = f h
either_case Q P false x y h f k = k h

room_case : (b : Bool) (n count : ℕ) → stream_met (if b then stream.Copies n else stream.NothingNow) ≡ Moves count → n ≡ count
room_case true n count e = cc
room_case false n count e = cc

full_case : (b : Bool) (x y : Meeting) (count : ℕ) → x.meet ≡ stream.ZeroDone → y.meet ≡ stream.Displaces → stream_met (if b then x else y).meet ≡ Moves count → ⊥
full_case true x y count zero_done displaces e = (let same : stream_met stream.ZeroDone ≡ Moves count = subst (λ (m : Meet). stream_met m ≡ Moves count) zero_done e in cc)
full_case false x y count zero_done displaces e = (let same : stream_met stream.Displaces ≡ Moves count = subst (λ (m : Meet). stream_met m ≡ Moves count) displaces e in cc)

moves_offer : (side : Side) (call : OpenCopy) (own other : End) (count : ℕ) (o : Option OpenCopy) (offer : OpenCopy) → stream_met (met_offer side call own other o).meet ≡ Moves count → o ≡ Some offer
    → count ≤ offer.length - offer.copied
moves_offer side call own other count None offer e there = cc
moves_offer side call own other count (Some x) offer e there =
    let same : x ≡ offer = cc in
    subst (λ (y : OpenCopy). count ≤ y.length - y.copied) same
    (either_case (count ≤ x.length - x.copied) (λ m. stream_met m.meet ≡ Moves count) (nat_lt x.copied x.length) _ _ e
    (λ room.
    subst (λ (n : ℕ). n ≤ x.length - x.copied) (room_case (nat_lt 0 call.length) (min (x.length - x.copied) call.length) count room) (min-le_left (x.length - x.copied) call.length))
    (λ full. absurd (full_case _ _ _ count refl refl full)))

stream_moves : (side : Side) (call : OpenCopy) (own other : End) (count : ℕ) (offer : OpenCopy) → stream_met (met side call own other).meet ≡ Moves count → standing_of other.copy ≡ Some offer
    → count ≤ offer.length - offer.copied
unfolding met
stream_moves side call own other count offer e there =
    either_case (count ≤ offer.length - offer.copied) (λ m. stream_met m.meet ≡ Moves count) other.dropped _ _ e (λ gone. cc)
    (λ k. moves_offer side call own other count (standing_of other.copy) offer k there)

future_one : (m : future_meet.Meet) (count : ℕ) → future_met m ≡ Moves count → count ≡ 1
future_one future.Stands count e = cc
future_one future.Copies count e = cc
future_one future.Dropped count e = cc

pub met_fits : (kind : EndKind) (side : Side) (call : OpenCopy) (ends : EndsView) (count : ℕ) (offer : OpenCopy) → met_by kind side call ends ≡ Moves count → other_offer side ends ≡ Some offer
    → FitsIn kind count offer
met_fits Stream side call ends count offer e there = stream_moves side call (end_at side ends) (end_at (other_side side) ends) count offer e there
met_fits Future side call ends count offer e there = future_one _ count e

pub channel_is : (kind : EndKind) (number : ℕ) (w : World) → channel_in kind number w.streams w.futures ≡ channel_at w kind number
channel_is Stream number w = refl
channel_is Future number w = refl

pub due_at : (w : World) (e : EndRef) (c : Channel) (count : ℕ) (offer : OpenCopy) → channel_at w e.kind e.number ≡ Some c → (end_of w e).copy ≡ None → other_offer e.side c.ends.view ≡ Some offer
    → FitsIn e.kind count offer → IsDueAt e count w.streams w.futures
due_at w e c count offer there quiet standing fits = (
  c,
  channel_is e.kind e.number w ∙ there,
  record { quiet = subst (λ (o : Option Channel). (channel_end e.side o).copy ≡ None) there quiet; offer = offer; stands = standing; room = fits },
)

-- As many elements are lifted as were counted.

abbrev IsLong : {S F : Type 0} → ℕ → over.Came S F (List Value) → Type 0
IsLong n (Ok x) = length x.0 ≡ n
IsLong n (Err fault) = Unit {0}

one_longer : (before : List Value) (v : Value) (count : ℕ) → length (before ++ v ∷ []) + count ≡ length before + suc count
one_longer before v count = (let longer : length (before ++ v ∷ []) ≡ suc (length before) = length_more before v in omega (arith, longer))

none_counted : (count : ℕ) → (count == 0) ≡ true → 0 ≡ count
none_counted count e = grind (arith, nat_tests)

after_long : {S F A : Type 0} (n : ℕ) (c : over.Came S F A) (f : A → S → over.Came S F (List Value)) → ((x : A) (s : S) → IsLong n (f x s)) → IsLong n (over.after c f)
after_long n (Ok x) f h = h x.0 x.1
after_long n (Err fault) f h = tt

either_long : {S F : Type 0} (n : ℕ) (b : Bool) (x y : over.Came S F (List Value)) → (b ≡ true → IsLong n x) → IsLong n y → IsLong n (if b then x else y)
either_long n true x y h k = h refl
either_long n false x y h k = k

module _ {S F : Type 0} (l : Ledger S F) where
  from_long : (p : Part S F) (memory : List ℕ) (before : List Value) (count at : ℕ) (s : S) → IsLong (length before + count) (over.elements_from l p memory before count at s)
  from_long p memory before zero at s = omega arith
  from_long p memory before (suc count) at s =
      after_long (length before + suc count) (p.lift memory at s) _ (λ v t.
      subst (λ (n : ℕ). IsLong n (over.elements_from l p memory (before ++ v ∷ []) count (at + p.laid.size) t)) (one_longer before v count)
      (from_long p memory (before ++ v ∷ []) count (at + p.laid.size) t))

  all_long : (p : Part S F) (at count : ℕ) (memory : List ℕ) (place : ℕ) (s : S) → IsLong count (over.elements_of l p at count memory place s)
  all_long p at count memory place s =
      either_long count (is_aligned at p.laid.align) _ _ (λ aligned.
      either_long count (is_inside at (count * p.laid.size) memory) _ _
      (λ inside. subst (λ (n : ℕ). IsLong n (over.elements_from l p memory [] count at s)) (omega arith) (from_long p memory [] count at s)) tt) tt

  load_long : (type : ValType) (memory : List ℕ) (place count : ℕ) (s : S) → IsLong count (over.load_list_by l type memory place count s)
  load_long type memory place count s = either_long count (count == 0) _ _ (λ none. none_counted count none) (all_long (over.part l type) place count memory place s)

elements_long : (i t : ℕ) (type : ValType) (bytes : List ℕ) (place count : ℕ) (w : World) → IsLong count (elements_lifted i t type bytes place count w)
unfolding elements_lifted
elements_long i t type bytes place count w = load_long (by_world i t) type bytes place count _

pub lifted_long : (i t : ℕ) (type : ValType) (bytes : List ℕ) (place count : ℕ) (w : World) (values : List Value) (k : Kept) → elements_lifted i t type bytes place count w ≡ Ok (values, k) → length values ≡ count
lifted_long i t type bytes place count w values k e =
    subst (λ (c : Came (List Value)). IsLong count c) e (elements_long i t type bytes place count w)

pub values_long : (values : List Value) (count : ℕ) → length values ≡ count → length (map (λ (v : Value). Some v) values) ≡ count
values_long values count e = length-map values (λ (v : Value). Some v) ∙ e

pub units_long : (count : ℕ) (x : Option Value) → length (replicate count x) ≡ count
units_long count x = length-replicate count x
