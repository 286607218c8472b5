-- What every step keeps: counts in their ranges, at most one standing offer, and what is dropped.
use Rattle.std.proofs.Common.{◌≡◌, ℕ, ◌+◌, ◌<◌, ◌≤◌, ◌^◌, sym, refl, ◌∙◌, arith, Bool, true, false, not, ◌&&◌, if◌then◌else◌, is_none, IsTrue, nat_lt, Option, Some, None, List, [], ◌∷◌}
use Rattle.std.proofs.lemmas.Bool.{ltb-true}
use Rattle.stream_ends.specs.declared.side.Side.{Side}
use Rattle.stream_ends.specs.declared.side.Side.TheVariants.{Reader, Writer}
use Rattle.stream_ends.specs.declared.open_copy.By.{By}
use Rattle.stream_ends.specs.declared.open_copy.CopyEvent.TheVariants.{Completed as EventCompleted, Dropped as OtherDropped}
use Rattle.stream_ends.specs.declared.open_copy.OpenCopy.{OpenCopy}
use Rattle.stream_ends.specs.declared.stream_end.End.{End}
use Rattle.stream_ends.specs.declared.meet.Meet.{Meet}
use Rattle.stream_ends.specs.declared.meet.Meet.TheVariants.{Stands, Copies, Dropped, Displaces, ZeroDone, NothingNow}
use Rattle.stream_ends.specs.Ends.{EndsView, ClosedCopy, Ends, end_at, new_copy, standing_of, room_of, is_idle, is_pending, is_copying, replaced, grown, leaves, hears_of_drop, told}
use Rattle.stream_ends.specs.Meeting.{Meeting, met, met_at, met_offer, met_full, room_meet, is_empty_pair, with_offer, made_done, after, stands, standing_side, changed, after_dropping, may_drop, EndSound, Sound, DueIfCopies}
use Rattle.stream_ends.specs.Closed.{closing, closed_at_once, concluded, after_drop, new_ends}
use Rattle.stream_ends.specs.Runs.{Act, Call, Deliver, Cancel, Drop, count_of, once_copied, may_call, called, happens, run, copied_by, elements}
use Rattle.stream_ends.proofs.Meetings.{if_holds, standing_is, none_sound, InRange, in_range, told_copy_sound, offer_sound, offer_due}
use Rattle.stream_ends.proofs.Counting.{may_idle}

-- A copy that stands is one whose flag says so.
standing_true_if : (other copy : OpenCopy) (b : Bool) → other.standing ≡ b → (if b then Some other else None) ≡ Some copy → copy.standing ≡ true
standing_true_if other copy true e h = cc
standing_true_if other copy false e h = cc

pub standing_true : (o : Option OpenCopy) (copy : OpenCopy) → standing_of o ≡ Some copy → copy.standing ≡ true
standing_true None copy h = cc
standing_true (Some other) copy h = standing_true_if other copy other.standing refl h

grown_fits_at : (n : ℕ) (e : End) (o : Option OpenCopy) → standing_of e.copy ≡ o → EndSound e → n ≤ room_of o → EndSound (replaced (λ copy. record copy { copied = copy.copied + n; event = Some EventCompleted }) o e)
grown_fits_at n e None h fits room = fits
grown_fits_at n e (Some copy) h fits room =
    let is : e.copy ≡ Some copy = standing_is e.copy copy h in
    let range : InRange copy = in_range e copy is fits in
    let within : copy.copied ≤ copy.length = range.within in
    told_copy_sound e copy (record copy { copied = copy.copied + n; event = Some EventCompleted }) is fits (record { within = omega arith; short = range.short }) refl

grown_fits : (n : ℕ) (e : End) → EndSound e → n ≤ room_of (standing_of e.copy) → EndSound (grown n e)
grown_fits n e fits room = grown_fits_at n e (standing_of e.copy) refl fits room

grown_stands_at : (n : ℕ) (e : End) (o : Option OpenCopy) → standing_of e.copy ≡ o → stands (replaced (λ copy. record copy { copied = copy.copied + n; event = Some EventCompleted }) o e) ≡ stands e
grown_stands_at n e None h = refl
grown_stands_at n e (Some copy) h = rw (standing_true e.copy copy h, h) refl

grown_stands : (n : ℕ) (e : End) → stands (grown n e) ≡ stands e
grown_stands n e = grown_stands_at n e (standing_of e.copy) refl

-- An offer that hears of a drop stands as before.
hears_sound_at : (e : End) (o : Option OpenCopy) → standing_of e.copy ≡ o → EndSound e → EndSound (replaced (λ copy. record copy { event = Some OtherDropped }) o e)
hears_sound_at e None h sound = sound
hears_sound_at e (Some copy) h sound =
    let is : e.copy ≡ Some copy = standing_is e.copy copy h in
    let range : InRange copy = in_range e copy is sound in
    told_copy_sound e copy (record copy { event = Some OtherDropped }) is sound (record { within = range.within; short = range.short }) refl

pub hears_sound : (e : End) → EndSound e → EndSound (hears_of_drop e)
hears_sound e sound = hears_sound_at e (standing_of e.copy) refl sound

hears_stands_at : (e : End) (o : Option OpenCopy) → standing_of e.copy ≡ o → stands (replaced (λ copy. record copy { event = Some OtherDropped }) o e) ≡ stands e
hears_stands_at e None h = refl
hears_stands_at e (Some copy) h = rw (standing_true e.copy copy h, h) refl

pub hears_stands : (e : End) → stands (hears_of_drop e) ≡ stands e
hears_stands e = hears_stands_at e (standing_of e.copy) refl

pub grown_sound : (side : Side) (n : ℕ) (ends : EndsView) → Sound ends → n ≤ room_of (standing_of (end_at side ends).copy) → Sound (changed side (grown n) ends)
grown_sound Reader n ends sound room =
    record { reader = grown_fits n ends.reader sound.reader room; writer = sound.writer; one = λ h. sound.one (sym (grown_stands n ends.reader) ∙ h) }
grown_sound Writer n ends sound room =
    record { reader = sound.reader; writer = grown_fits n ends.writer sound.writer room; one = λ h. grown_stands n ends.writer ∙ sound.one h }

pub told_sound : (side : Side) (ends : EndsView) → Sound ends → Sound (changed side told ends)
told_sound Reader ends sound =
    record { reader = none_sound ends.reader.dropped (told ends.reader).done; writer = sound.writer; one = λ (h : false ≡ true). absurd (let w : ⊥ = cc in w) }
told_sound Writer ends sound =
    record { reader = sound.reader; writer = none_sound ends.writer.dropped (told ends.writer).done; one = λ _. refl }

-- That an end is dropped leaves it sound.
pub dropped_end_sound : (e : End) → EndSound e → EndSound (record e { dropped = true })
dropped_end_sound e sound = record { copied = sound.copied; length = sound.length; over = sound.over; fresh = sound.fresh; waits = sound.waits }

pub dropped_sound : (side : Side) (ends : EndsView) → Sound ends → Sound (after_dropping side ends)
dropped_sound Reader ends sound =
    record {
      reader = dropped_end_sound ends.reader sound.reader;
      writer = hears_sound ends.writer sound.writer;
      one = λ h. hears_stands ends.writer ∙ sound.one h;
    }
dropped_sound Writer ends sound =
    record {
      reader = hears_sound ends.reader sound.reader;
      writer = dropped_end_sound ends.writer sound.writer;
      one = λ h. sound.one (sym (hears_stands ends.reader) ∙ h);
    }

finished_sound : (side : Side) (length : ℕ) (meet : Meet) (copies : List ClosedCopy) (view : EndsView) (ends : Ends) → Sound view → DueIfCopies meet view → Sound (once_copied side length meet (closing side copies view ends)).view
finished_sound side length (Copies count) copies view ends sound due = grown_sound (standing_side view) count view sound due.room
finished_sound side length Stands copies view ends sound due = sound
finished_sound side length Dropped copies view ends sound due = sound
finished_sound side length Displaces copies view ends sound due = sound
finished_sound side length ZeroDone copies view ends sound due = sound
finished_sound side length NothingNow copies view ends sound due = sound

second_too : (a b : Bool) → IsTrue (a && b) → IsTrue b
second_too true b h = h
second_too false b h = cc

may_short : (side : Side) (length : ℕ) (ends : Ends) → IsTrue (may_call side length ends) → length < 2 ^ 28
may_short side length ends h = ltb-true length (2 ^ 28) (second_too (is_idle (end_at side ends.view)) (nat_lt length (2 ^ 28)) h)

called_sound : (side : Side) (by : By) (canon place length : ℕ) (ends : Ends) → Sound ends.view → IsTrue (may_call side length ends) → Sound (called side (new_copy by canon place length) ends).view
called_sound side by canon place length ends sound may =
    let call : OpenCopy = new_copy by canon place length in
    let idle : IsTrue (is_idle (end_at side ends.view)) = may_idle side length ends may in
    finished_sound side length (met_at side call ends.view).meet (closed_at_once length (met_at side call ends.view).meet) (after side (met_at side call ends.view)) ends
    (offer_sound side by canon place length ends.view sound idle (may_short side length ends may))
    (offer_due side call ends.view idle)

if_sound : (b : Bool) (later ends : Ends) → (b ≡ true → Sound later.view) → (b ≡ false → Sound ends.view) → Sound (if b then later else ends).view
if_sound true later ends h k = h refl
if_sound false later ends h k = k refl

happens_sound : (ends : Ends) (act : Act) → Sound ends.view → Sound (happens ends act).view
happens_sound ends (Call side by canon place length) sound =
    if_sound (may_call side length ends) (called side (new_copy by canon place length) ends) ends (called_sound side by canon place length ends sound) (λ _. sound)
happens_sound ends (Deliver side) sound = if_sound (is_pending (end_at side ends.view)) (concluded side ends) ends (λ _. told_sound side ends.view sound) (λ _. sound)
happens_sound ends (Cancel side) sound = if_sound (is_copying (end_at side ends.view)) (concluded side ends) ends (λ _. told_sound side ends.view sound) (λ _. sound)
happens_sound ends (Drop side) sound = if_sound (may_drop (end_at side ends.view)) (after_drop side ends) ends (λ _. dropped_sound side ends.view sound) (λ _. sound)

run_sound : (acts : List Act) (ends : Ends) → Sound ends.view → Sound (run acts ends).view
run_sound [] ends sound = sound
run_sound (act ∷ acts) ends sound = run_sound acts (happens ends act) (happens_sound ends act sound)

new_sound : Sound new_ends.view
new_sound = record {
  reader = none_sound false false;
  writer = none_sound false false;
  one = λ _. refl;
}

pub one_stands : (acts : List Act) → stands (run acts new_ends).view.reader ≡ true → stands (run acts new_ends).view.writer ≡ false
one_stands acts h = (run_sound acts new_ends new_sound).one h

-- Edits of the copies keep what is dropped.
pub replaced_dropped : (edit : OpenCopy → OpenCopy) (o : Option OpenCopy) (e : End) → (replaced edit o e).dropped ≡ e.dropped
replaced_dropped edit None e = refl
replaced_dropped edit (Some copy) e = refl

abbrev SameDropped : End → End → Meeting → Type 0
SameDropped own other m = (m.own.dropped ≡ own.dropped) × (m.other.dropped ≡ other.dropped)

offer_dropped : (side : Side) (call : OpenCopy) (own other : End) (o : Option OpenCopy) → SameDropped own other (met_offer side call own other o)
offer_dropped side call own other None = (refl, refl)
offer_dropped side call own other (Some offer) =
    if_holds (SameDropped own other) (nat_lt offer.copied offer.length) (record { meet = room_meet call offer; own = own; other = other }) (met_full side call own other offer)
    (λ _. (refl, refl))
    (λ _. if_holds (SameDropped own other) (is_empty_pair side call offer) (record { meet = ZeroDone; own = own; other = other }) (record { meet = Displaces; own = with_offer call own; other = leaves other })
    (λ _. (refl, refl))
    (λ _. (refl, replaced_dropped (λ copy. record copy { event = Some EventCompleted; standing = false }) (standing_of other.copy) other)))

met_dropped : (side : Side) (call : OpenCopy) (own other : End) → SameDropped own other (met side call own other)
unfolding met
met_dropped side call own other =
    if_holds (SameDropped own other) other.dropped (record { meet = Dropped; own = made_done own; other = other }) (met_offer side call own other (standing_of other.copy))
    (λ _. (refl, refl))
    (λ _. offer_dropped side call own other (standing_of other.copy))

abbrev pub is_gone : Side → EndsView → Bool
is_gone s ends = (end_at s ends).dropped

after_dropped : (s side : Side) (call : OpenCopy) (ends : EndsView) → is_gone s (after side (met_at side call ends)) ≡ is_gone s ends
after_dropped Reader Reader call ends = (met_dropped Reader call ends.reader ends.writer).0
after_dropped Reader Writer call ends = (met_dropped Writer call ends.writer ends.reader).1
after_dropped Writer Reader call ends = (met_dropped Reader call ends.reader ends.writer).1
after_dropped Writer Writer call ends = (met_dropped Writer call ends.writer ends.reader).0

grown_dropped : (n : ℕ) (e : End) → (grown n e).dropped ≡ e.dropped
grown_dropped n e = replaced_dropped (λ copy. record copy { copied = copy.copied + n; event = Some EventCompleted }) (standing_of e.copy) e

pub changed_dropped : (s side : Side) (edit : End → End) (ends : EndsView) → ((e : End) → (edit e).dropped ≡ e.dropped) → is_gone s (changed side edit ends) ≡ is_gone s ends
changed_dropped Reader Reader edit ends h = h ends.reader
changed_dropped Reader Writer edit ends h = refl
changed_dropped Writer Reader edit ends h = refl
changed_dropped Writer Writer edit ends h = h ends.writer

finished_dropped : (s side : Side) (length : ℕ) (meet : Meet) (copies : List ClosedCopy) (view : EndsView) (ends : Ends) → is_gone s (once_copied side length meet (closing side copies view ends)).view ≡ is_gone s view
finished_dropped s side length (Copies count) copies view ends = changed_dropped s (standing_side view) (grown count) view (grown_dropped count)
finished_dropped s side length Stands copies view ends = refl
finished_dropped s side length Dropped copies view ends = refl
finished_dropped s side length Displaces copies view ends = refl
finished_dropped s side length ZeroDone copies view ends = refl
finished_dropped s side length NothingNow copies view ends = refl

called_dropped : (s side : Side) (call : OpenCopy) (ends : Ends) → is_gone s (called side call ends).view ≡ is_gone s ends.view
called_dropped s side call ends =
    finished_dropped s side call.length (met_at side call ends.view).meet (closed_at_once call.length (met_at side call ends.view).meet) (after side (met_at side call ends.view)) ends
    ∙ after_dropped s side call ends.view

pub drop_dropped : (s side : Side) (ends : EndsView) → is_gone s ends ≡ true → is_gone s (after_dropping side ends) ≡ true
drop_dropped Reader Reader ends h = refl
drop_dropped Reader Writer ends h = replaced_dropped (λ copy. record copy { event = Some OtherDropped }) (standing_of ends.reader.copy) ends.reader ∙ h
drop_dropped Writer Reader ends h = replaced_dropped (λ copy. record copy { event = Some OtherDropped }) (standing_of ends.writer.copy) ends.writer ∙ h
drop_dropped Writer Writer ends h = refl

pub if_gone : (s : Side) (b : Bool) (later ends : Ends) → is_gone s later.view ≡ true → is_gone s ends.view ≡ true → is_gone s (if b then later else ends).view ≡ true
if_gone s true later ends h k = h
if_gone s false later ends h k = k

happens_dropped : (s : Side) (ends : Ends) (act : Act) → is_gone s ends.view ≡ true → is_gone s (happens ends act).view ≡ true
happens_dropped s ends (Call side by canon place length) h =
    if_gone s (may_call side length ends) (called side (new_copy by canon place length) ends) ends (called_dropped s side (new_copy by canon place length) ends ∙ h) h
happens_dropped s ends (Deliver side) h = if_gone s (is_pending (end_at side ends.view)) (concluded side ends) ends (changed_dropped s side told ends.view (λ _. refl) ∙ h) h
happens_dropped s ends (Cancel side) h = if_gone s (is_copying (end_at side ends.view)) (concluded side ends) ends (changed_dropped s side told ends.view (λ _. refl) ∙ h) h
happens_dropped s ends (Drop side) h = if_gone s (may_drop (end_at side ends.view)) (after_drop side ends) ends (drop_dropped s side ends.view h) h

-- Nothing is copied where an end is dropped.
dropped_copies_none : (side : Side) (call : OpenCopy) (own other : End) → other.dropped ≡ true → count_of (met side call own other).meet ≡ 0
unfolding met
dropped_copies_none side call own other h = rw h refl

idle_stays : (d n c : Bool) → d ≡ true → IsTrue (not d && n && c) → ⊥
idle_stays true n c e h = cc
idle_stays false n c e h = cc

pub own_not_gone : (e : End) → e.dropped ≡ true → IsTrue (is_idle e) → ⊥
own_not_gone e h idle = idle_stays e.dropped (not e.done) (is_none e.copy) h idle

pub if_zero : (b : Bool) (n : ℕ) → (b ≡ true → n ≡ 0) → (if b then n else 0) ≡ 0
if_zero true n h = h refl
if_zero false n h = refl

copied_none : (s : Side) (ends : Ends) (act : Act) → is_gone s ends.view ≡ true → copied_by ends act ≡ 0
copied_none Reader ends (Call Reader by canon place length) h =
    if_zero (may_call Reader length ends) (count_of (met_at Reader (new_copy by canon place length) ends.view).meet) (λ may. absurd (own_not_gone ends.view.reader h (may_idle Reader length ends may)))
copied_none Reader ends (Call Writer by canon place length) h =
    if_zero (may_call Writer length ends) (count_of (met_at Writer (new_copy by canon place length) ends.view).meet) (λ _. dropped_copies_none Writer (new_copy by canon place length) ends.view.writer ends.view.reader h)
copied_none Writer ends (Call Reader by canon place length) h =
    if_zero (may_call Reader length ends) (count_of (met_at Reader (new_copy by canon place length) ends.view).meet) (λ _. dropped_copies_none Reader (new_copy by canon place length) ends.view.reader ends.view.writer h)
copied_none Writer ends (Call Writer by canon place length) h =
    if_zero (may_call Writer length ends) (count_of (met_at Writer (new_copy by canon place length) ends.view).meet) (λ may. absurd (own_not_gone ends.view.writer h (may_idle Writer length ends may)))
copied_none s ends (Deliver side) h = refl
copied_none s ends (Cancel side) h = refl
copied_none s ends (Drop side) h = refl

elements_none : (s : Side) (acts : List Act) (ends : Ends) → is_gone s ends.view ≡ true → elements acts ends ≡ 0
elements_none s [] ends h = refl
elements_none s (act ∷ acts) ends h = omega (arith, copied_none s ends act h, elements_none s acts (happens ends act) (happens_dropped s ends act h))

pub nothing_after_drop : (before later : List Act) (s : Side) → (end_at s (run before new_ends).view).dropped ≡ true → elements later (run before new_ends) ≡ 0
nothing_after_drop before later s h = elements_none s later (run before new_ends) h
