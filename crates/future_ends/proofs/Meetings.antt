-- What a meeting keeps: an end that is done has no copy, one offer stands, and what a copy needs is there.
use Rattle.std.proofs.Common.{◌≡◌, ℕ, arith, sym, ap, subst, refl, ◌∙◌, Bool, true, false, if◌then◌else◌, is_some, IsTrue, Option, Some, None}
use Rattle.stream_ends.specs.declared.side.Side.{Side}
use Rattle.stream_ends.specs.declared.side.Side.TheVariants.{Reader, Writer}
use Rattle.stream_ends.specs.declared.open_copy.By.{By}
use Rattle.stream_ends.specs.declared.open_copy.OpenCopy.{OpenCopy}
use Rattle.stream_ends.specs.declared.stream_end.End.{End}
use Rattle.stream_ends.specs.Ends.{EndsView, end_at, arranged, standing_of, is_idle}
use Rattle.stream_ends.specs.Meeting.{with_offer, made_done, stands}
use Rattle.stream_ends.proofs.Meetings.{idle_bare, idle_not_done, one_turned}
use Rattle.future_ends.specs.declared.meet.Meet.TheVariants.{Dropped}
use Rattle.future_ends.specs.Meeting.{Meeting, new_offer, met, met_offer, met_at, after, EndSound, Sound, IsDue, DueIfCopies}

-- a property of each branch of a test is one of the test
pub if_holds : (P : Meeting → Type 0) (b : Bool) (x y : Meeting) → P x → P y → P (if b then x else y)
if_holds P true x y h k = h
if_holds P false x y h k = k

-- An end without a copy is sound.
pub none_sound : (d n : Bool) → EndSound (record { dropped = d; done = n; copy = None })
none_sound d n =
    record { over = λ _. refl; length = λ (h : false ≡ true). absurd (let w : ⊥ = cc in w); copied = omega arith; fresh = refl; waits = λ _. refl }

-- A new offer at an idle end is sound.
pub new_offer_sound : (by : By) (canon place : ℕ) (e : End) → IsTrue (is_idle e) → EndSound (with_offer (new_offer by canon place) e)
new_offer_sound by canon place e idle =
    record {
      over = λ done. absurd (let f : false ≡ true = sym (idle_not_done e idle) ∙ done in let w : ⊥ = cc in w);
      length = λ _. refl;
      copied = omega arith;
      fresh = refl;
      waits = λ _. refl;
    }

-- What holds of the end of a call, and of both.
pub record Keeps (other own_end : End) : Type 0 where
  pub own : EndSound own_end
  pub one : stands own_end ≡ true → stands other ≡ false

abbrev KeepsOwn : End → Meeting → Type 0
KeepsOwn other m = Keeps other m.own

offer_keeps : (call : OpenCopy) (own other : End) (o : Option OpenCopy) → EndSound (with_offer call own) → standing_of other.copy ≡ o → KeepsOwn other (met_offer call (record own { copy = None }) o)
offer_keeps call own other None new h =
    record { own = new; one = λ _. ap is_some h }
offer_keeps call own other (Some offer) new h =
    record { own = none_sound own.dropped own.done; one = λ (e : false ≡ true). absurd (let w : ⊥ = cc in w) }

pub met_keeps : (call : OpenCopy) (own other : End) → EndSound (with_offer call own) → IsTrue (is_idle own) → KeepsOwn other (met call own other)
unfolding met
met_keeps call own other new idle =
    let bare : End = record own { copy = None } in
    let P : End → Type 0 = λ e. KeepsOwn other (met call e other) in
    subst P (idle_bare own idle)
    (if_holds (KeepsOwn other) other.dropped (record { meet = Dropped; own = made_done bare }) (met_offer call bare (standing_of other.copy))
    (record { own = none_sound own.dropped true; one = λ (e : false ≡ true). absurd (let w : ⊥ = cc in w) })
    (offer_keeps call own other (standing_of other.copy) new refl))

-- An offer leaves sound ends sound.
pub offer_sound : (side : Side) (by : By) (canon place : ℕ) (ends : EndsView) → Sound ends → IsTrue (is_idle (end_at side ends)) → Sound (after side (new_offer by canon place) ends)
offer_sound Reader by canon place ends sound idle =
    let call : OpenCopy = new_offer by canon place in
    let keeps : Keeps ends.writer (met call ends.reader ends.writer).own = met_keeps call ends.reader ends.writer (new_offer_sound by canon place ends.reader idle) idle in
    record { reader = keeps.own; writer = sound.writer; one = keeps.one }
offer_sound Writer by canon place ends sound idle =
    let call : OpenCopy = new_offer by canon place in
    let keeps : Keeps ends.reader (met call ends.writer ends.reader).own = met_keeps call ends.writer ends.reader (new_offer_sound by canon place ends.writer idle) idle in
    record { reader = sound.reader; writer = keeps.own; one = one_turned (stands (met call ends.writer ends.reader).own) (stands ends.reader) keeps.one }

-- What a copy needs is there where a meeting copies.
abbrev DueAfter : Side → End → Meeting → Type 0
DueAfter side other m = DueIfCopies m.meet (arranged side m.own other)

copies_due : (side : Side) (own other : End) (offer : OpenCopy) → standing_of other.copy ≡ Some offer → IsTrue (is_idle (record own { copy = None })) → IsDue (arranged side (record own { copy = None }) other)
copies_due Reader own other offer h idle = record { offer = ap is_some h; idle = idle }
copies_due Writer own other offer h idle = record { offer = rw (h, h) refl; idle = rw h idle }

offer_due_at : (side : Side) (call : OpenCopy) (own other : End) (o : Option OpenCopy) → standing_of other.copy ≡ o → IsTrue (is_idle (record own { copy = None })) → DueAfter side other (met_offer call (record own { copy = None }) o)
offer_due_at side call own other None h idle = tt
offer_due_at side call own other (Some offer) h idle = copies_due side own other offer h idle

due_bare : (side : Side) (call : OpenCopy) (own other : End) → IsTrue (is_idle (record own { copy = None })) → DueAfter side other (met call (record own { copy = None }) other)
unfolding met
due_bare side call own other idle =
    let bare : End = record own { copy = None } in
    if_holds (DueAfter side other) other.dropped (record { meet = Dropped; own = made_done bare }) (met_offer call bare (standing_of other.copy))
    tt
    (offer_due_at side call own other (standing_of other.copy) refl idle)

pub met_due : (side : Side) (call : OpenCopy) (own other : End) → IsTrue (is_idle own) → DueAfter side other (met call own other)
met_due side call own other idle =
    let P : End → Type 0 = λ e. DueAfter side other (met call e other) in
    let Q : End → Type 0 = λ e. IsTrue (is_idle e) in
    subst P (idle_bare own idle) (due_bare side call own other (subst Q (sym (idle_bare own idle)) idle))

pub offer_due : (side : Side) (call : OpenCopy) (ends : EndsView) → IsTrue (is_idle (end_at side ends)) → DueIfCopies (met_at side call ends).meet (after side call ends)
offer_due Reader call ends idle = met_due Reader call ends.reader ends.writer idle
offer_due Writer call ends idle = met_due Writer call ends.writer ends.reader idle
