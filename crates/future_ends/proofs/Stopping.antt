-- Nothing is copied once an end is dropped, or once a copy was completed at it.
use Rattle.std.proofs.Common.{◌≡◌, ℕ, ◌≤◌, arith, sym, ap, subst, refl, ◌∙◌, ◌+◌, Bool, true, false, ◌||◌, if◌then◌else◌, is_some, IsTrue, Option, Some, None, List, [], ◌∷◌, ◌⊎◌, inl, inr}
use Rattle.stream_ends.specs.declared.side.Side.{Side}
use Rattle.stream_ends.specs.declared.side.Side.TheVariants.{Reader, Writer}
use Rattle.stream_ends.specs.declared.open_copy.CopyEvent.TheVariants.{Completed as EventCompleted, Dropped as OtherDropped}
use Rattle.stream_ends.specs.declared.open_copy.OpenCopy.{OpenCopy}
use Rattle.stream_ends.specs.declared.stream_end.End.{End}
use Rattle.stream_ends.specs.Ends.{EndsView, ClosedCopy, Ends, end_at, other_side, arranged, standing_of, is_idle, is_pending, is_copying, replaced}
use Rattle.stream_ends.specs.Meeting.{made_done, standing_side, changed, after_dropping}
use Rattle.stream_ends.specs.Closed.{closing, after_drop, new_ends}
use Rattle.stream_ends.proofs.Meetings.{idle_bare, idle_not_done}
use Rattle.stream_ends.proofs.Keeping.{own_not_gone, if_zero}
use Rattle.future_ends.specs.declared.meet.Meet.{Meet}
use Rattle.future_ends.specs.declared.meet.Meet.TheVariants.{Stands, Copies, Dropped}
use Rattle.future_ends.specs.Meeting.{Meeting, new_offer, met, met_offer, met_at, after, copied_from, told, may_drop_at, EndSound, Sound}
use Rattle.future_ends.specs.Closed.{closed_at_once, concluded}
use Rattle.future_ends.specs.Runs.{Act, Call, Deliver, Cancel, Drop, count_of, once_copied, called, happens, run, copied_by, values}
use Rattle.future_ends.proofs.Meetings.{if_holds}
use Rattle.future_ends.proofs.Keeping.{happens_sound, run_sound, new_sound}
use Rattle.future_ends.proofs.Counting.{copied_at}

-- A mark of an end that lasts, and where an end has it nothing is copied.
pub record Stops (mark : End → Bool) : Type 0 where
  pub copy : (e : End) (copy : Option OpenCopy) → mark e ≡ true → mark (record e { copy = copy }) ≡ true
  pub done : (e : End) → mark e ≡ true → mark (made_done e) ≡ true
  pub drop : (e : End) → mark e ≡ true → mark (record e { dropped = true }) ≡ true
  pub told : (e : End) → mark e ≡ true → mark (told e) ≡ true
  pub own : (e : End) → mark e ≡ true → IsTrue (is_idle e) → ⊥
  pub other : (call : OpenCopy) (own other : End) → EndSound other → mark other ≡ true → count_of (met call own other).meet ≡ 0

abbrev pub marked : (End → Bool) → Side → EndsView → Type 0
marked mark s view = mark (end_at s view) ≡ true

replaced_lasts : (mark : End → Bool) → Stops mark → (edit : OpenCopy → OpenCopy) (o : Option OpenCopy) (e : End) → mark e ≡ true → mark (replaced edit o e) ≡ true
replaced_lasts mark stops edit None e h = h
replaced_lasts mark stops edit (Some copy) e h = stops.copy e (Some (edit copy)) h

offer_lasts : (mark : End → Bool) → Stops mark → (call : OpenCopy) (own : End) (o : Option OpenCopy) → mark own ≡ true → mark (met_offer call own o).own ≡ true
offer_lasts mark stops call own None h = stops.copy own (Some call) h
offer_lasts mark stops call own (Some offer) h = h

met_lasts : (mark : End → Bool) → Stops mark → (call : OpenCopy) (own other : End) → mark own ≡ true → mark (met call own other).own ≡ true
unfolding met
met_lasts mark stops call own other h =
    if_holds (λ m. mark m.own ≡ true) other.dropped (record { meet = Dropped; own = made_done own }) (met_offer call own (standing_of other.copy))
    (stops.done own h)
    (offer_lasts mark stops call own (standing_of other.copy) h)

after_lasts : (mark : End → Bool) → Stops mark → (s side : Side) (call : OpenCopy) (ends : EndsView) → marked mark s ends → marked mark s (after side call ends)
after_lasts mark stops Reader Reader call ends h = met_lasts mark stops call ends.reader ends.writer h
after_lasts mark stops Reader Writer call ends h = h
after_lasts mark stops Writer Reader call ends h = h
after_lasts mark stops Writer Writer call ends h = met_lasts mark stops call ends.writer ends.reader h

taken_lasts : (mark : End → Bool) → Stops mark → (e : End) → mark e ≡ true → mark (replaced (λ copy. record copy { copied = 1; event = Some EventCompleted; standing = false }) (standing_of e.copy) e) ≡ true
taken_lasts mark stops e h = replaced_lasts mark stops (λ copy. record copy { copied = 1; event = Some EventCompleted; standing = false }) (standing_of e.copy) e h

copied_lasts : (mark : End → Bool) → Stops mark → (s side : Side) (ends : EndsView) → marked mark s ends → marked mark s (copied_from side ends)
copied_lasts mark stops Reader Reader ends h = taken_lasts mark stops ends.reader h
copied_lasts mark stops Reader Writer ends h = stops.done ends.reader h
copied_lasts mark stops Writer Reader ends h = stops.done ends.writer h
copied_lasts mark stops Writer Writer ends h = taken_lasts mark stops ends.writer h

once_lasts : (mark : End → Bool) → Stops mark → (s side : Side) (meet : Meet) (copies : List ClosedCopy) (view : EndsView) (ends : Ends) → marked mark s view → marked mark s (once_copied side meet (closing side copies view ends)).view
once_lasts mark stops s side Copies copies view ends h = copied_lasts mark stops s (standing_side view) view h
once_lasts mark stops s side Stands copies view ends h = h
once_lasts mark stops s side Dropped copies view ends h = h

called_lasts : (mark : End → Bool) → Stops mark → (s side : Side) (call : OpenCopy) (ends : Ends) → marked mark s ends.view → marked mark s (called side call ends).view
called_lasts mark stops s side call ends h =
    once_lasts mark stops s side (met_at side call ends.view).meet (closed_at_once (met_at side call ends.view).meet) (after side call ends.view) ends
    (after_lasts mark stops s side call ends.view h)

told_lasts : (mark : End → Bool) → Stops mark → (s side : Side) (ends : EndsView) → marked mark s ends → marked mark s (changed side told ends)
told_lasts mark stops Reader Reader ends h = stops.told ends.reader h
told_lasts mark stops Reader Writer ends h = h
told_lasts mark stops Writer Reader ends h = h
told_lasts mark stops Writer Writer ends h = stops.told ends.writer h

drop_lasts : (mark : End → Bool) → Stops mark → (s side : Side) (ends : EndsView) → marked mark s ends → marked mark s (after_dropping side ends)
drop_lasts mark stops Reader Reader ends h = stops.drop ends.reader h
drop_lasts mark stops Reader Writer ends h = replaced_lasts mark stops (λ copy. record copy { event = Some OtherDropped }) (standing_of ends.reader.copy) ends.reader h
drop_lasts mark stops Writer Reader ends h = replaced_lasts mark stops (λ copy. record copy { event = Some OtherDropped }) (standing_of ends.writer.copy) ends.writer h
drop_lasts mark stops Writer Writer ends h = stops.drop ends.writer h

if_lasts : (mark : End → Bool) (s : Side) (b : Bool) (later ends : Ends) → marked mark s later.view → marked mark s ends.view → marked mark s (if b then later else ends).view
if_lasts mark s true later ends h k = h
if_lasts mark s false later ends h k = k

happens_lasts : (mark : End → Bool) → Stops mark → (s : Side) (ends : Ends) (act : Act) → marked mark s ends.view → marked mark s (happens ends act).view
happens_lasts mark stops s ends (Call side by canon place) h =
    if_lasts mark s (is_idle (end_at side ends.view)) (called side (new_offer by canon place) ends) ends (called_lasts mark stops s side (new_offer by canon place) ends h) h
happens_lasts mark stops s ends (Deliver side) h = if_lasts mark s (is_pending (end_at side ends.view)) (concluded side ends) ends (told_lasts mark stops s side ends.view h) h
happens_lasts mark stops s ends (Cancel side) h = if_lasts mark s (is_copying (end_at side ends.view)) (concluded side ends) ends (told_lasts mark stops s side ends.view h) h
happens_lasts mark stops s ends (Drop side) h = if_lasts mark s (may_drop_at side (end_at side ends.view)) (after_drop side ends) ends (drop_lasts mark stops s side ends.view h) h

copied_none : (mark : End → Bool) → Stops mark → (s : Side) (ends : Ends) (act : Act) → Sound ends.view → marked mark s ends.view → copied_by ends act ≡ 0
copied_none mark stops Reader ends (Call Reader by canon place) sound h =
    if_zero (is_idle ends.view.reader) (count_of (met_at Reader (new_offer by canon place) ends.view).meet) (λ idle. absurd (stops.own ends.view.reader h idle))
copied_none mark stops Reader ends (Call Writer by canon place) sound h =
    if_zero (is_idle ends.view.writer) (count_of (met_at Writer (new_offer by canon place) ends.view).meet) (λ _. stops.other (new_offer by canon place) ends.view.writer ends.view.reader sound.reader h)
copied_none mark stops Writer ends (Call Reader by canon place) sound h =
    if_zero (is_idle ends.view.reader) (count_of (met_at Reader (new_offer by canon place) ends.view).meet) (λ _. stops.other (new_offer by canon place) ends.view.reader ends.view.writer sound.writer h)
copied_none mark stops Writer ends (Call Writer by canon place) sound h =
    if_zero (is_idle ends.view.writer) (count_of (met_at Writer (new_offer by canon place) ends.view).meet) (λ idle. absurd (stops.own ends.view.writer h idle))
copied_none mark stops s ends (Deliver side) sound h = refl
copied_none mark stops s ends (Cancel side) sound h = refl
copied_none mark stops s ends (Drop side) sound h = refl

values_none : (mark : End → Bool) → Stops mark → (s : Side) (acts : List Act) (ends : Ends) → Sound ends.view → marked mark s ends.view → values acts ends ≡ 0
values_none mark stops s [] ends sound h = refl
values_none mark stops s (act ∷ acts) ends sound h =
    omega (arith, copied_none mark stops s ends act sound h, values_none mark stops s acts (happens ends act) (happens_sound ends act sound) (happens_lasts mark stops s ends act h))

-- A dropped end stops all.
dropped_none : (call : OpenCopy) (own other : End) → other.dropped ≡ true → count_of (met call own other).meet ≡ 0
unfolding met
dropped_none call own other h = rw h refl

dropped_stops : Stops (λ e. e.dropped)
dropped_stops = record {
  copy = λ e copy h. h;
  done = λ e h. h;
  drop = λ e h. refl;
  told = λ e h. h;
  own = own_not_gone;
  other = λ call own other sound h. dropped_none call own other h;
}

pub nothing_after_drop : (before later : List Act) (s : Side) → (end_at s (run before new_ends).view).dropped ≡ true → values later (run before new_ends) ≡ 0
nothing_after_drop before later s h = values_none (λ e. e.dropped) dropped_stops s later (run before new_ends) (run_sound before new_ends new_sound) h

-- An end that is done stops all: it has no copy that stands.
none_stands : (o : Option OpenCopy) → is_some o ≡ false → standing_of o ≡ None
none_stands None h = refl
none_stands (Some copy) h = cc

no_offer_none : (call : OpenCopy) (own : End) (o : Option OpenCopy) → o ≡ None → count_of (met_offer call own o).meet ≡ 0
no_offer_none call own None h = refl
no_offer_none call own (Some copy) h = cc

done_none : (call : OpenCopy) (own other : End) → EndSound other → other.done ≡ true → count_of (met call own other).meet ≡ 0
unfolding met
done_none call own other sound h =
    if_holds (λ m. count_of m.meet ≡ 0) other.dropped (record { meet = Dropped; own = made_done own }) (met_offer call own (standing_of other.copy))
    refl
    (no_offer_none call own (standing_of other.copy) (none_stands other.copy (sound.over h)))

or_stays : (a b : Bool) → a ≡ true → a || b ≡ true
or_stays true b h = refl
or_stays false b h = cc

done_stops : Stops (λ e. e.done)
done_stops = record {
  copy = λ e copy h. h;
  done = λ e h. refl;
  drop = λ e h. h;
  told = λ e h. or_stays e.done _ h;
  own = λ e h idle. let f : false ≡ true = sym (idle_not_done e idle) ∙ h in let w : ⊥ = cc in w;
  other = done_none;
}

-- A call that copies is done at its own end.
abbrev DoneIfCopied : Side → Ends → End → Meeting → Type 0
DoneIfCopied side ends other m =
    (count_of m.meet ≡ 0) ⊎ ((end_at side (once_copied side m.meet (closing side (closed_at_once m.meet) (arranged side m.own other) ends)).view).done ≡ true)

own_at : (side : Side) (own other : End) → end_at side (arranged side own other) ≡ own
own_at Reader own other = refl
own_at Writer own other = refl

offer_done : (side : Side) (call : OpenCopy) (own other : End) (o : Option OpenCopy) (ends : Ends) → standing_of other.copy ≡ o → DoneIfCopied side ends other (met_offer call (record own { copy = None }) o)
offer_done side call own other None ends h = inl refl
offer_done side call own other (Some copy) ends h =
    let P : EndsView → Type 0 = λ view. (end_at side view).done ≡ true in
    inr (subst P (sym (copied_at side own other copy h)) (ap (λ (e : End). e.done) (own_at side _ _)))

bare_done : (side : Side) (call : OpenCopy) (own other : End) (ends : Ends) → DoneIfCopied side ends other (met call (record own { copy = None }) other)
unfolding met
bare_done side call own other ends =
    let bare : End = record own { copy = None } in
    if_holds (DoneIfCopied side ends other) other.dropped (record { meet = Dropped; own = made_done bare }) (met_offer call bare (standing_of other.copy))
    (inl refl)
    (offer_done side call own other (standing_of other.copy) ends refl)

called_done : (side : Side) (call : OpenCopy) (ends : Ends) → IsTrue (is_idle (end_at side ends.view)) → (count_of (met_at side call ends.view).meet ≡ 0) ⊎ ((end_at side (called side call ends).view).done ≡ true)
called_done side call ends idle =
    let own : End = end_at side ends.view in
    let other : End = end_at (other_side side) ends.view in
    let P : End → Type 0 = λ e. DoneIfCopied side ends other (met call e other) in
    subst P (idle_bare own idle) (bare_done side call own other ends)

if_done : (side : Side) (b : Bool) (n : ℕ) (later ends : Ends) → (b ≡ true → (n ≡ 0) ⊎ ((end_at side later.view).done ≡ true)) → ((if b then n else 0) ≡ 0) ⊎ ((end_at side (if b then later else ends).view).done ≡ true)
if_done side true n later ends h = h refl
if_done side false n later ends h = inl refl

if_at_most : (b : Bool) (n : ℕ) → n ≤ 1 → (if b then n else 0) ≤ 1
if_at_most true n h = h
if_at_most false n h = omega arith

count_at_most : (meet : Meet) → count_of meet ≤ 1
count_at_most Copies = omega arith
count_at_most Stands = omega arith
count_at_most Dropped = omega arith

one_more : (acts : List Act) (side : Side) (n : ℕ) (next : Ends) → Sound next.view → n ≤ 1 → (n ≡ 0) ⊎ ((end_at side next.view).done ≡ true) → values acts next ≤ 1 → n + values acts next ≤ 1
one_more acts side n next sound small (inl none) rest = omega arith
one_more acts side n next sound small (inr done) rest = omega (arith, values_none (λ e. e.done) done_stops side acts next sound done)

values_at_most : (acts : List Act) (ends : Ends) → Sound ends.view → values acts ends ≤ 1
values_at_most [] ends sound = omega arith
values_at_most (Call side by canon place ∷ acts) ends sound =
    let call : OpenCopy = new_offer by canon place in
    let act : Act = Call side by canon place in
    let next : Sound (happens ends act).view = happens_sound ends act sound in
    one_more acts side (copied_by ends act) (happens ends act) next
    (if_at_most (is_idle (end_at side ends.view)) (count_of (met_at side call ends.view).meet) (count_at_most (met_at side call ends.view).meet))
    (if_done side (is_idle (end_at side ends.view)) (count_of (met_at side call ends.view).meet) (called side call ends) ends (λ idle. called_done side call ends idle))
    (values_at_most acts (happens ends act) next)
values_at_most (Deliver side ∷ acts) ends sound = omega (arith, values_at_most acts (happens ends (Deliver side)) (happens_sound ends (Deliver side) sound))
values_at_most (Cancel side ∷ acts) ends sound = omega (arith, values_at_most acts (happens ends (Cancel side)) (happens_sound ends (Cancel side) sound))
values_at_most (Drop side ∷ acts) ends sound = omega (arith, values_at_most acts (happens ends (Drop side)) (happens_sound ends (Drop side) sound))

pub at_most_one : (acts : List Act) → values acts new_ends ≤ 1
at_most_one acts = values_at_most acts new_ends new_sound
