-- What every step keeps: at most one standing offer, and no copy at an end that is done.
use Rattle.std.proofs.Common.{◌≡◌, ℕ, ◌≤◌, arith, sym, ap, subst, refl, ◌∙◌, Bool, true, false, if◌then◌else◌, is_some, IsTrue, Option, Some, None, List, [], ◌∷◌}
use Rattle.stream_ends.specs.declared.side.Side.{Side}
use Rattle.stream_ends.specs.declared.side.Side.TheVariants.{Reader, Writer}
use Rattle.stream_ends.specs.declared.open_copy.By.{By}
use Rattle.stream_ends.specs.declared.open_copy.CopyEvent.TheVariants.{Completed as EventCompleted, Dropped as OtherDropped}
use Rattle.stream_ends.specs.declared.open_copy.OpenCopy.{OpenCopy}
use Rattle.stream_ends.specs.declared.stream_end.End.{End}
use Rattle.stream_ends.specs.Ends.{EndsView, ClosedCopy, Ends, end_at, other_side, standing_of, length_of, copied_of, is_idle, is_pending, is_copying, replaced, hears_of_drop}
use Rattle.stream_ends.specs.Meeting.{made_done, stands, standing_side, changed, after_dropping}
use Rattle.stream_ends.specs.Closed.{closing, after_drop, new_ends}
use Rattle.stream_ends.proofs.Meetings.{idle_bare, standing_is}
use Rattle.stream_ends.proofs.Keeping.{standing_true, hears_stands}
use Rattle.future_ends.specs.declared.meet.Meet.{Meet}
use Rattle.future_ends.specs.declared.meet.Meet.TheVariants.{Stands, Copies, Dropped}
use Rattle.future_ends.specs.Meeting.{new_offer, met_at, after, taken, copied_from, told, may_drop_at, EndSound, Sound, DueIfCopies}
use Rattle.future_ends.specs.Closed.{closed_at_once, concluded}
use Rattle.future_ends.specs.Runs.{Act, Call, Deliver, Cancel, Drop, once_copied, called, happens, run}
use Rattle.future_ends.proofs.Meetings.{none_sound, offer_sound, offer_due}

-- An end stays sound with another copy of which something is to be told.
told_copy_sound : (e : End) (old copy : OpenCopy) → e.copy ≡ Some old → EndSound e → copy.length ≡ old.length → copy.copied ≤ 1 → copied_of (standing_of (Some copy)) ≡ 0 → is_some copy.event ≡ true → EndSound (record e { copy = Some copy })
told_copy_sound e old copy is sound same within none told =
    let busy : is_copying e ≡ true = ap is_some is in
    record {
      over = λ done. absurd (let f : false ≡ true = sym (sound.over done) ∙ busy in let w : ⊥ = cc in w);
      length = λ _. same ∙ sym (ap length_of is) ∙ sound.length busy;
      copied = within;
      fresh = none;
      waits = λ quiet. absurd (let f : false ≡ true = sym quiet ∙ told in let w : ⊥ = cc in w);
    }

-- An end whose offer no longer stands is sound.
pub record Gone (e : End) : Type 0 where
  pub sound : EndSound e
  pub gone : stands e ≡ false

taken_at : (e : End) (o : Option OpenCopy) → standing_of e.copy ≡ o → EndSound e → Gone (replaced (λ copy. record copy { copied = 1; event = Some EventCompleted; standing = false }) o e)
taken_at e None h sound = record { sound = sound; gone = ap is_some h }
taken_at e (Some copy) h sound =
    record {
      sound = told_copy_sound e copy (record copy { copied = 1; event = Some EventCompleted; standing = false }) (standing_is e.copy copy h) sound refl (omega arith) refl refl;
      gone = refl;
    }

taken_gone : (e : End) → EndSound e → Gone (taken e)
taken_gone e sound = taken_at e (standing_of e.copy) refl sound

-- An offer that hears of a drop leaves its end sound.
hears_sound_at : (e : End) (o : Option OpenCopy) → standing_of e.copy ≡ o → EndSound e → EndSound (replaced (λ copy. record copy { event = Some OtherDropped }) o e)
hears_sound_at e None h sound = sound
hears_sound_at e (Some copy) h sound =
    let none : copy.copied ≡ 0 = sym (ap copied_of h) ∙ sound.fresh in
    told_copy_sound e copy (record copy { event = Some OtherDropped }) (standing_is e.copy copy h) sound refl (omega (arith, none)) (rw (standing_true e.copy copy h) none) refl

pub hears_sound : (e : End) → EndSound e → EndSound (hears_of_drop e)
hears_sound e sound = hears_sound_at e (standing_of e.copy) refl sound

-- An idle end is sound once its call is completed.
finished_gone : (e : End) → IsTrue (is_idle e) → Gone (made_done e)
finished_gone e idle =
    let P : End → Type 0 = λ x. Gone (made_done x) in
    subst P (idle_bare e idle) (record { sound = none_sound e.dropped true; gone = refl })

-- Not both stand where the first one is gone.
first_gone : (a b : Bool) → a ≡ false → a ≡ true → b ≡ false
first_gone a b gone h = absurd (let f : false ≡ true = sym gone ∙ h in let w : ⊥ = cc in w)

pub copied_from_sound : (side : Side) (ends : EndsView) → Sound ends → IsTrue (is_idle (end_at (other_side side) ends)) → Sound (copied_from side ends)
copied_from_sound Reader ends sound idle =
    let one : Gone (taken ends.reader) = taken_gone ends.reader sound.reader in
    let two : Gone (made_done ends.writer) = finished_gone ends.writer idle in
    record { reader = one.sound; writer = two.sound; one = λ _. two.gone }
copied_from_sound Writer ends sound idle =
    let one : Gone (made_done ends.reader) = finished_gone ends.reader idle in
    let two : Gone (taken ends.writer) = taken_gone ends.writer sound.writer in
    record { reader = one.sound; writer = two.sound; one = λ _. two.gone }

pub told_sound : (side : Side) (ends : EndsView) → Sound ends → Sound (changed side told ends)
told_sound Reader ends sound =
    record { reader = none_sound ends.reader.dropped (told ends.reader).done; writer = sound.writer; one = first_gone false (stands ends.writer) refl }
told_sound Writer ends sound = record { reader = sound.reader; writer = none_sound ends.writer.dropped (told ends.writer).done; one = λ _. refl }

-- That an end is dropped leaves it sound.
pub dropped_end_sound : (e : End) → EndSound e → EndSound (record e { dropped = true })
dropped_end_sound e sound = record { over = sound.over; length = sound.length; copied = sound.copied; fresh = sound.fresh; waits = sound.waits }

pub dropped_sound : (side : Side) (ends : EndsView) → Sound ends → Sound (after_dropping side ends)
dropped_sound Reader ends sound =
    record {
      reader = dropped_end_sound ends.reader sound.reader;
      writer = hears_sound ends.writer sound.writer;
      one = λ h. hears_stands ends.writer ∙ sound.one h;
    }
dropped_sound Writer ends sound =
    record {
      reader = hears_sound ends.reader sound.reader;
      writer = dropped_end_sound ends.writer sound.writer;
      one = λ h. sound.one (sym (hears_stands ends.reader) ∙ h);
    }

finished_sound : (side : Side) (meet : Meet) (copies : List ClosedCopy) (view : EndsView) (ends : Ends) → Sound view → DueIfCopies meet view → Sound (once_copied side meet (closing side copies view ends)).view
finished_sound side Copies copies view ends sound due = copied_from_sound (standing_side view) view sound due.idle
finished_sound side Stands copies view ends sound due = sound
finished_sound side Dropped copies view ends sound due = sound

called_sound : (side : Side) (by : By) (canon place : ℕ) (ends : Ends) → Sound ends.view → IsTrue (is_idle (end_at side ends.view)) → Sound (called side (new_offer by canon place) ends).view
called_sound side by canon place ends sound idle =
    let call : OpenCopy = new_offer by canon place in
    finished_sound side (met_at side call ends.view).meet (closed_at_once (met_at side call ends.view).meet) (after side call ends.view) ends
    (offer_sound side by canon place ends.view sound idle)
    (offer_due side call ends.view idle)

if_sound : (b : Bool) (later ends : Ends) → (b ≡ true → Sound later.view) → Sound ends.view → Sound (if b then later else ends).view
if_sound true later ends h k = h refl
if_sound false later ends h k = k

pub happens_sound : (ends : Ends) (act : Act) → Sound ends.view → Sound (happens ends act).view
happens_sound ends (Call side by canon place) sound =
    if_sound (is_idle (end_at side ends.view)) (called side (new_offer by canon place) ends) ends (called_sound side by canon place ends sound) sound
happens_sound ends (Deliver side) sound = if_sound (is_pending (end_at side ends.view)) (concluded side ends) ends (λ _. told_sound side ends.view sound) sound
happens_sound ends (Cancel side) sound = if_sound (is_copying (end_at side ends.view)) (concluded side ends) ends (λ _. told_sound side ends.view sound) sound
happens_sound ends (Drop side) sound = if_sound (may_drop_at side (end_at side ends.view)) (after_drop side ends) ends (λ _. dropped_sound side ends.view sound) sound

pub run_sound : (acts : List Act) (ends : Ends) → Sound ends.view → Sound (run acts ends).view
run_sound [] ends sound = sound
run_sound (act ∷ acts) ends sound = run_sound acts (happens ends act) (happens_sound ends act sound)

pub new_sound : Sound new_ends.view
new_sound = record {
  reader = none_sound false false;
  writer = none_sound false false;
  one = λ _. refl;
}

pub one_stands : (acts : List Act) → stands (run acts new_ends).view.reader ≡ true → stands (run acts new_ends).view.writer ≡ false
one_stands acts h = (run_sound acts new_ends new_sound).one h
