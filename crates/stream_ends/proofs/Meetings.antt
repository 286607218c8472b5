-- What a meeting keeps: counts in their ranges, one standing offer, and what a copy needs.
use Rattle.std.proofs.Common.{◌≡◌, ℕ, ◌-◌, ◌<◌, ◌≤◌, ◌^◌, min, sym, ap, subst, refl, ◌∙◌, arith, Bool, true, false, not, ◌&&◌, if◌then◌else◌, is_some, is_none, IsTrue, nat_lt, Option, Some, None}
use Rattle.std.proofs.lemmas.Bool.{ltb-true}
use Rattle.std.proofs.Math.Nat.{min-le_left, min-le_right, le-min}
use Rattle.stream_ends.specs.declared.side.Side.{Side}
use Rattle.stream_ends.specs.declared.side.Side.TheVariants.{Reader, Writer}
use Rattle.stream_ends.specs.declared.open_copy.By.{By}
use Rattle.stream_ends.specs.declared.open_copy.CopyEvent.TheVariants.{Completed as EventCompleted}
use Rattle.stream_ends.specs.declared.open_copy.OpenCopy.{OpenCopy}
use Rattle.stream_ends.specs.declared.stream_end.End.{End}
use Rattle.stream_ends.specs.declared.meet.Meet.TheVariants.{Copies, Dropped, Displaces, ZeroDone, NothingNow}
use Rattle.stream_ends.specs.Ends.{EndsView, end_at, arranged, new_copy, standing_of, length_of, copied_of, is_idle, is_copying, replaced, leaves}
use Rattle.stream_ends.specs.Runs.{count_of}
use Rattle.stream_ends.specs.Meeting.{Meeting, met, met_offer, met_full, room_meet, is_empty_pair, with_offer, made_done, stands, met_at, after, EndSound, Sound, DueIfCopies}

-- a property of each branch of a test is one of the test
pub if_holds : (P : Meeting → Type 0) (b : Bool) (x y : Meeting) → (b ≡ true → P x) → (b ≡ false → P y) → P (if b then x else y)
if_holds P true x y h k = h refl
if_holds P false x y h k = k refl

-- An idle end is an end without a copy.
idle_none : (d n : Bool) (copy : Option OpenCopy) → IsTrue (not d && not n && is_none copy) → copy ≡ None
idle_none d n None h = refl
idle_none true n (Some copy) h = cc
idle_none false true (Some copy) h = cc
idle_none false false (Some copy) h = cc

pub idle_bare : (e : End) → IsTrue (is_idle e) → record e { copy = None } ≡ e
idle_bare e h = ap (λ (c : Option OpenCopy). (let f : End = record e { copy = c } in f)) (sym (idle_none e.dropped e.done e.copy h))

-- A copy that stands is the end's copy.
standing_if : (b : Bool) (copy other : OpenCopy) → (if b then Some copy else None) ≡ Some other → Some copy ≡ Some other
standing_if true copy other h = h
standing_if false copy other h = cc

pub standing_is : (o : Option OpenCopy) (copy : OpenCopy) → standing_of o ≡ Some copy → o ≡ Some copy
standing_is None copy h = cc
standing_is (Some other) copy h = standing_if other.standing other copy h

-- An idle end is not done.
not_done : (d n c : Bool) → IsTrue (not d && not n && c) → n ≡ false
not_done d false c h = refl
not_done true true c h = cc
not_done false true c h = cc

pub idle_not_done : (e : End) → IsTrue (is_idle e) → e.done ≡ false
idle_not_done e h = not_done e.dropped e.done (is_none e.copy) h

-- An end without a copy is sound.
pub none_sound : (d n : Bool) → EndSound (record { dropped = d; done = n; copy = None })
none_sound d n = record { copied = omega arith; length = omega arith; over = λ _. refl; fresh = λ _. refl; waits = λ _. refl }

-- A new offer at an idle end is sound.
pub new_offer_sound : (by : By) (canon place length : ℕ) (e : End) → IsTrue (is_idle e) → length < 2 ^ 28 → EndSound (with_offer (new_copy by canon place length) e)
new_offer_sound by canon place length e idle short =
    record {
      copied = omega arith;
      length = short;
      over = λ done. absurd (let f : false ≡ true = sym (idle_not_done e idle) ∙ done in let w : ⊥ = cc in w);
      fresh = λ _. refl;
      waits = λ _. refl;
    }

-- The counts of the copy under way are in their ranges.
pub record InRange (copy : OpenCopy) : Type 0 where
  pub within : copy.copied ≤ copy.length
  pub short : copy.length < 2 ^ 28

pub in_range : (e : End) (copy : OpenCopy) → e.copy ≡ Some copy → EndSound e → InRange copy
in_range e copy is sound =
    record {
      within = subst (λ (o : Option OpenCopy). copied_of o ≤ length_of o) is sound.copied;
      short = subst (λ (o : Option OpenCopy). length_of o < 2 ^ 28) is sound.length;
    }

-- An end stays sound with another copy of which something is to be told.
pub told_copy_sound : (e : End) (old copy : OpenCopy) → e.copy ≡ Some old → EndSound e → InRange copy → is_some copy.event ≡ true → EndSound (record e { copy = Some copy })
told_copy_sound e old copy is sound range told =
    let busy : is_copying e ≡ true = ap is_some is in
    record {
      copied = range.within;
      length = range.short;
      over = λ done. absurd (let f : false ≡ true = sym (sound.over done) ∙ busy in let w : ⊥ = cc in w);
      fresh = λ none. absurd (let f : false ≡ true = sym none ∙ told in let w : ⊥ = cc in w);
      waits = λ none. absurd (let f : false ≡ true = sym none ∙ told in let w : ⊥ = cc in w);
    }

-- An end whose offer left is sound, and no offer of it stands.
pub record Gone (e : End) : Type 0 where
  pub fits : EndSound e
  pub gone : stands e ≡ false

leaves_at : (e : End) (o : Option OpenCopy) → standing_of e.copy ≡ o → EndSound e → Gone (replaced (λ copy. record copy { event = Some EventCompleted; standing = false }) o e)
leaves_at e None h sound = record { fits = sound; gone = ap is_some h }
leaves_at e (Some copy) h sound =
    let is : e.copy ≡ Some copy = standing_is e.copy copy h in
    let range : InRange copy = in_range e copy is sound in
    record {
      fits = told_copy_sound e copy (record copy { event = Some EventCompleted; standing = false }) is sound (record { within = range.within; short = range.short }) refl;
      gone = refl;
    }

pub leaves_gone : (e : End) → EndSound e → Gone (leaves e)
leaves_gone e sound = leaves_at e (standing_of e.copy) refl sound

-- What holds of both ends, from either side.
pub record Keeps (own other : End) : Type 0 where
  pub own_fits : EndSound own
  pub other_fits : EndSound other
  pub one : stands own ≡ true → stands other ≡ false

abbrev KeepsBoth : Meeting → Type 0
KeepsBoth m = Keeps m.own m.other

offer_keeps : (side : Side) (call : OpenCopy) (own other : End) (o : Option OpenCopy) → Keeps (record own { copy = None }) other → EndSound (with_offer call own) → standing_of other.copy ≡ o → KeepsBoth (met_offer side call (record own { copy = None }) other o)
offer_keeps side call own other None keeps new h =
    record { own_fits = new; other_fits = keeps.other_fits; one = λ _. ap is_some h }
offer_keeps side call own other (Some offer) keeps new h =
    let bare : End = record own { copy = None } in
    let gone : Gone (leaves other) = leaves_gone other keeps.other_fits in
    if_holds KeepsBoth (nat_lt offer.copied offer.length) (record { meet = room_meet call offer; own = bare; other = other }) (met_full side call bare other offer)
    (λ _. keeps)
    (λ _. if_holds KeepsBoth (is_empty_pair side call offer) (record { meet = ZeroDone; own = bare; other = other }) (record { meet = Displaces; own = with_offer call bare; other = leaves other })
    (λ _. keeps)
    (λ _. record { own_fits = new; other_fits = gone.fits; one = λ _. gone.gone }))

pub met_keeps : (side : Side) (call : OpenCopy) (own other : End) → IsTrue (is_idle own) → EndSound (with_offer call own) → EndSound other → KeepsBoth (met side call own other)
unfolding met
met_keeps side call own other idle new other_fits =
    let bare : End = record own { copy = None } in
    let keeps : Keeps bare other = record { own_fits = none_sound own.dropped own.done; other_fits = other_fits; one = λ (h : false ≡ true). absurd (let w : ⊥ = cc in w) } in
    let P : End → Type 0 = λ e. KeepsBoth (met side call e other) in
    subst P (idle_bare own idle)
    (if_holds KeepsBoth other.dropped (record { meet = Dropped; own = made_done bare; other = other }) (met_offer side call bare other (standing_of other.copy))
    (λ _. record { own_fits = none_sound own.dropped true; other_fits = other_fits; one = λ (h : false ≡ true). absurd (let w : ⊥ = cc in w) })
    (λ _. offer_keeps side call own other (standing_of other.copy) keeps new refl))

-- Not both stand, from either side.
pub one_turned : (a b : Bool) → (a ≡ true → b ≡ false) → b ≡ true → a ≡ false
one_turned true b h e = absurd (let k : b ≡ false = h refl in let w : ⊥ = cc in w)
one_turned false b h e = refl

-- An offer leaves sound ends sound.
pub offer_sound : (side : Side) (by : By) (canon place length : ℕ) (ends : EndsView) → Sound ends → IsTrue (is_idle (end_at side ends)) → length < 2 ^ 28 → Sound (after side (met_at side (new_copy by canon place length) ends))
offer_sound Reader by canon place length ends sound idle short =
    let call : OpenCopy = new_copy by canon place length in
    let keeps : KeepsBoth (met Reader call ends.reader ends.writer) = met_keeps Reader call ends.reader ends.writer idle (new_offer_sound by canon place length ends.reader idle short) sound.writer in
    record { reader = keeps.own_fits; writer = keeps.other_fits; one = keeps.one }
offer_sound Writer by canon place length ends sound idle short =
    let call : OpenCopy = new_copy by canon place length in
    let keeps : KeepsBoth (met Writer call ends.writer ends.reader) = met_keeps Writer call ends.writer ends.reader idle (new_offer_sound by canon place length ends.writer idle short) sound.reader in
    record { reader = keeps.other_fits; writer = keeps.own_fits; one = one_turned (stands (met Writer call ends.writer ends.reader).own) (stands (met Writer call ends.writer ends.reader).other) keeps.one }

-- What a copy needs is there where a meeting copies.
abbrev DueAfter : Side → Meeting → Type 0
DueAfter side m = DueIfCopies m.meet (after side m)

room_due : (side : Side) (call : OpenCopy) (own other : End) (offer : OpenCopy) → standing_of other.copy ≡ Some offer → IsTrue (is_idle (record own { copy = None })) → nat_lt offer.copied offer.length ≡ true → (b : Bool) → nat_lt 0 call.length ≡ b → DueIfCopies (if b then Copies (min (offer.length - offer.copied) call.length) else NothingNow) (arranged side (record own { copy = None }) other)
room_due side call own other offer h idle room false e = tt
room_due Reader call own other offer h idle room true e =
    let more : offer.copied < offer.length = ltb-true offer.copied offer.length room in
    let some : 0 < call.length = ltb-true 0 call.length e in
    let left : 1 ≤ offer.length - offer.copied = omega arith in
    let one : 1 ≤ call.length = omega arith in
    record {
      some = le-min left one;
      room = rw h (min-le_left (offer.length - offer.copied) call.length);
      idle = idle;
    }
room_due Writer call own other offer h idle room true e =
    let more : offer.copied < offer.length = ltb-true offer.copied offer.length room in
    let some : 0 < call.length = ltb-true 0 call.length e in
    let left : 1 ≤ offer.length - offer.copied = omega arith in
    let one : 1 ≤ call.length = omega arith in
    record {
      some = le-min left one;
      room = rw (h, h) (min-le_left (offer.length - offer.copied) call.length);
      idle = rw h idle;
    }

offer_due_at : (side : Side) (call : OpenCopy) (own other : End) (o : Option OpenCopy) → standing_of other.copy ≡ o → IsTrue (is_idle (record own { copy = None })) → DueAfter side (met_offer side call (record own { copy = None }) other o)
offer_due_at side call own other None h idle = tt
offer_due_at side call own other (Some offer) h idle =
    let bare : End = record own { copy = None } in
    if_holds (DueAfter side) (nat_lt offer.copied offer.length) (record { meet = room_meet call offer; own = bare; other = other }) (met_full side call bare other offer)
    (λ room. room_due side call own other offer h idle room (nat_lt 0 call.length) refl)
    (λ _. if_holds (DueAfter side) (is_empty_pair side call offer) (record { meet = ZeroDone; own = bare; other = other }) (record { meet = Displaces; own = with_offer call bare; other = leaves other }) (λ _. tt) (λ _. tt))

due_bare : (side : Side) (call : OpenCopy) (own other : End) → IsTrue (is_idle (record own { copy = None })) → DueAfter side (met side call (record own { copy = None }) other)
unfolding met
due_bare side call own other idle =
    let bare : End = record own { copy = None } in
    if_holds (DueAfter side) other.dropped (record { meet = Dropped; own = made_done bare; other = other }) (met_offer side call bare other (standing_of other.copy))
    (λ _. tt)
    (λ _. offer_due_at side call own other (standing_of other.copy) refl idle)

pub met_due : (side : Side) (call : OpenCopy) (own other : End) → IsTrue (is_idle own) → DueAfter side (met side call own other)
met_due side call own other idle =
    let P : End → Type 0 = λ e. DueAfter side (met side call e other) in
    let Q : End → Type 0 = λ e. IsTrue (is_idle e) in
    subst P (idle_bare own idle) (due_bare side call own other (subst Q (sym (idle_bare own idle)) idle))

pub offer_due : (side : Side) (call : OpenCopy) (ends : EndsView) → IsTrue (is_idle (end_at side ends)) → DueIfCopies (met_at side call ends).meet (after side (met_at side call ends))
offer_due Reader call ends idle = met_due Reader call ends.reader ends.writer idle
offer_due Writer call ends idle = met_due Writer call ends.writer ends.reader idle

-- A meeting copies no more than the call has.
abbrev CopiesUpTo : ℕ → Meeting → Type 0
CopiesUpTo length m = count_of m.meet ≤ length

room_up_to : (offer : OpenCopy) (length : ℕ) (b : Bool) → count_of (if b then Copies (min (offer.length - offer.copied) length) else NothingNow) ≤ length
room_up_to offer length true = min-le_right (offer.length - offer.copied) length
room_up_to offer length false = omega arith

offer_up_to : (side : Side) (call : OpenCopy) (own other : End) (o : Option OpenCopy) → CopiesUpTo call.length (met_offer side call own other o)
offer_up_to side call own other None = omega arith
offer_up_to side call own other (Some offer) =
    if_holds (CopiesUpTo call.length) (nat_lt offer.copied offer.length) (record { meet = room_meet call offer; own = own; other = other }) (met_full side call own other offer)
    (λ _. room_up_to offer call.length (nat_lt 0 call.length))
    (λ _. if_holds (CopiesUpTo call.length) (is_empty_pair side call offer) (record { meet = ZeroDone; own = own; other = other }) (record { meet = Displaces; own = with_offer call own; other = leaves other })
    (λ _. omega arith)
    (λ _. omega arith))

pub copies_up_to : (side : Side) (call : OpenCopy) (own other : End) → CopiesUpTo call.length (met side call own other)
unfolding met
copies_up_to side call own other =
    if_holds (CopiesUpTo call.length) other.dropped (record { meet = Dropped; own = made_done own; other = other }) (met_offer side call own other (standing_of other.copy))
    (λ _. omega arith)
    (λ _. offer_up_to side call own other (standing_of other.copy))
