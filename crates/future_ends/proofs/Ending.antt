-- Where an end is done, step by step.
use Rattle.std.proofs.Common.{◌≡◌, ℕ, sym, ap, subst, refl, ◌∙◌, Bool, true, false, ◌||◌, if◌then◌else◌, is_some, IsTrue, Option, Some, None, List, [], ◌∷◌, ◌++◌}
use Rattle.stream_ends.specs.declared.side.Side.{Side}
use Rattle.stream_ends.specs.declared.side.Side.TheVariants.{Reader, Writer}
use Rattle.stream_ends.specs.declared.open_copy.By.{By}
use Rattle.stream_ends.specs.declared.open_copy.CopyEvent.{CopyEvent}
use Rattle.stream_ends.specs.declared.open_copy.CopyEvent.TheVariants.{Completed as EventCompleted, Dropped as OtherDropped}
use Rattle.stream_ends.specs.declared.open_copy.CopyResult.TheVariants.{Completed, Dropped as OtherWent}
use Rattle.stream_ends.specs.declared.open_copy.OpenCopy.{OpenCopy}
use Rattle.stream_ends.specs.declared.stream_end.End.{End}
use Rattle.stream_ends.specs.Ends.{EndsView, ClosedCopy, Ends, end_at, other_side, arranged, standing_of, is_idle, is_pending, is_copying, replaced, hears_of_drop, result_of}
use Rattle.stream_ends.specs.Meeting.{with_offer, made_done}
use Rattle.stream_ends.specs.Closed.{closed_at, closing, closed_as, closed_from, after_drop, new_ends}
use Rattle.stream_ends.proofs.Meetings.{idle_bare}
use Rattle.stream_ends.proofs.Counting.{arranged_is, changed_at}
use Rattle.future_ends.specs.declared.meet.Meet.TheVariants.{Dropped}
use Rattle.future_ends.specs.Meeting.{Meeting, new_offer, met, met_offer, taken, told, ends_future, may_drop_at}
use Rattle.future_ends.specs.Closed.{closed_at_once, concluded}
use Rattle.future_ends.specs.Runs.{Act, Call, Deliver, Cancel, Drop, once_copied, called, happens, run, is_end, has_ended}
use Rattle.future_ends.proofs.Meetings.{if_holds}
use Rattle.future_ends.proofs.Counting.{copied_at}

or_assoc : (a b c : Bool) → (a || b) || c ≡ a || (b || c)
or_assoc true b c = refl
or_assoc false b c = refl

or_false : (a : Bool) → a ≡ a || false
or_false true = refl
or_false false = refl

or_true : (a : Bool) → true ≡ a || true
or_true true = refl
or_true false = refl

ended_append : (xs ys : List ClosedCopy) → has_ended (xs ++ ys) ≡ has_ended xs || has_ended ys
ended_append [] ys = refl
ended_append (x ∷ xs) ys = ap (λ (b : Bool). is_end x.result || b) (ended_append xs ys) ∙ sym (or_assoc (is_end x.result) (has_ended xs) (has_ended ys))

-- the side is done as its closed copies say
abbrev IsTold : Side → Ends → Type 0
IsTold s ends = has_ended (closed_at s ends) ≡ (end_at s ends.view).done

own_step : (closed copies : List ClosedCopy) (was here now : Bool) → has_ended closed ≡ was → was ≡ here → now ≡ here || has_ended copies → has_ended (closed ++ copies) ≡ now
own_step closed copies was here now h v n = ended_append closed copies ∙ ap (λ (b : Bool). b || has_ended copies) (h ∙ v) ∙ sym n

other_step : (closed : List ClosedCopy) (was here now : Bool) → has_ended closed ≡ was → was ≡ here → now ≡ here → has_ended (closed ++ []) ≡ now
other_step closed was here now h v n = own_step closed [] was here now h v (n ∙ or_false here)

-- Where an end is done after a call that closed these copies.
told_step : (s side : Side) (copies : List ClosedCopy) (own other new_own new_other : End) (ends : Ends) → ends.view ≡ arranged side own other → new_own.done ≡ own.done || has_ended copies → new_other.done ≡ other.done → IsTold s ends → IsTold s (closing side copies (arranged side new_own new_other) ends)
told_step Reader Reader copies own other new_own new_other ends v own_is other_is h =
    own_step ends.reader_closed copies ends.view.reader.done own.done new_own.done h (ap (λ (e : EndsView). e.reader.done) v) own_is
told_step Reader Writer copies own other new_own new_other ends v own_is other_is h =
    other_step ends.reader_closed ends.view.reader.done other.done new_other.done h (ap (λ (e : EndsView). e.reader.done) v) other_is
told_step Writer Reader copies own other new_own new_other ends v own_is other_is h =
    other_step ends.writer_closed ends.view.writer.done other.done new_other.done h (ap (λ (e : EndsView). e.writer.done) v) other_is
told_step Writer Writer copies own other new_own new_other ends v own_is other_is h =
    own_step ends.writer_closed copies ends.view.writer.done own.done new_own.done h (ap (λ (e : EndsView). e.writer.done) v) own_is

replaced_done : (edit : OpenCopy → OpenCopy) (o : Option OpenCopy) (e : End) → (replaced edit o e).done ≡ e.done
replaced_done edit None e = refl
replaced_done edit (Some copy) e = refl

-- a call that met this
abbrev Tells : Side → Side → End → Ends → Meeting → Type 0
Tells s side other ends m = IsTold s (once_copied side m.meet (closing side (closed_at_once m.meet) (arranged side m.own other) ends))

offer_tells : (s side : Side) (by : By) (canon place : ℕ) (own other : End) (o : Option OpenCopy) (ends : Ends) → IsTold s ends → standing_of other.copy ≡ o → ends.view ≡ arranged side (record own { copy = None }) other → Tells s side other ends (met_offer (new_offer by canon place) (record own { copy = None }) o)
offer_tells s side by canon place own other None ends is h v =
    let bare : End = record own { copy = None } in
    told_step s side [] bare other (with_offer (new_offer by canon place) bare) other ends v (or_false own.done) refl is
offer_tells s side by canon place own other (Some copy) ends is h v =
    let bare : End = record own { copy = None } in
    let first : Ends = closing side [] (arranged side bare other) ends in
    let same : IsTold s first = told_step s side [] bare other bare other ends v (or_false own.done) refl is in
    let P : EndsView → Type 0 = λ e. IsTold s (closing side (closed_as 1 Completed 1) e first) in
    subst P (sym (copied_at side own other copy h))
    (told_step s side (closed_as 1 Completed 1) bare other (made_done bare) (taken other) first refl (or_true own.done)
    (replaced_done (λ copy. record copy { copied = 1; event = Some EventCompleted; standing = false }) (standing_of other.copy) other) same)

bare_tells : (s side : Side) (by : By) (canon place : ℕ) (own other : End) (ends : Ends) → IsTold s ends → ends.view ≡ arranged side (record own { copy = None }) other → Tells s side other ends (met (new_offer by canon place) (record own { copy = None }) other)
unfolding met
bare_tells s side by canon place own other ends is v =
    let bare : End = record own { copy = None } in
    if_holds (Tells s side other ends) other.dropped (record { meet = Dropped; own = made_done bare }) (met_offer (new_offer by canon place) bare (standing_of other.copy))
    (told_step s side (closed_as 1 OtherWent 0) bare other (made_done bare) other ends v (or_true own.done) refl is)
    (offer_tells s side by canon place own other (standing_of other.copy) ends is refl v)

called_tells : (s side : Side) (by : By) (canon place : ℕ) (ends : Ends) → IsTold s ends → IsTrue (is_idle (end_at side ends.view)) → IsTold s (called side (new_offer by canon place) ends)
called_tells s side by canon place ends is idle =
    let own : End = end_at side ends.view in
    let other : End = end_at (other_side side) ends.view in
    let P : End → Type 0 = λ e. ends.view ≡ arranged side e other → Tells s side other ends (met (new_offer by canon place) e other) in
    subst P (idle_bare own idle) (bare_tells s side by canon place own other ends is) (arranged_is side ends.view)

event_ends : (event : Option CopyEvent) → is_some event ≡ is_end (result_of event) || false
event_ends None = refl
event_ends (Some EventCompleted) = refl
event_ends (Some OtherDropped) = refl

closed_ends : (o : Option OpenCopy) → ends_future o ≡ has_ended (closed_from o)
closed_ends None = refl
closed_ends (Some copy) = event_ends copy.event

concluded_tells : (s side : Side) (ends : Ends) → IsTold s ends → IsTold s (concluded side ends)
concluded_tells s side ends is =
    let own : End = end_at side ends.view in
    let other : End = end_at (other_side side) ends.view in
    let P : EndsView → Type 0 = λ e. IsTold s (closing side (closed_from own.copy) e ends) in
    subst P (sym (changed_at side told ends.view))
    (told_step s side (closed_from own.copy) own other (told own) other ends (arranged_is side ends.view) (ap (λ (b : Bool). own.done || b) (closed_ends own.copy)) refl is)

hears_done : (e : End) → (hears_of_drop e).done ≡ e.done
hears_done e = replaced_done (λ copy. record copy { event = Some OtherDropped }) (standing_of e.copy) e

drop_tells : (s side : Side) (ends : Ends) → IsTold s ends → IsTold s (after_drop side ends)
drop_tells Reader Reader ends is = is
drop_tells Reader Writer ends is = is ∙ sym (hears_done ends.view.reader)
drop_tells Writer Reader ends is = is ∙ sym (hears_done ends.view.writer)
drop_tells Writer Writer ends is = is

if_tells : (s : Side) (b : Bool) (later ends : Ends) → (b ≡ true → IsTold s later) → IsTold s ends → IsTold s (if b then later else ends)
if_tells s true later ends h k = h refl
if_tells s false later ends h k = k

happens_tells : (s : Side) (ends : Ends) (act : Act) → IsTold s ends → IsTold s (happens ends act)
happens_tells s ends (Call side by canon place) is =
    if_tells s (is_idle (end_at side ends.view)) (called side (new_offer by canon place) ends) ends (λ idle. called_tells s side by canon place ends is idle) is
happens_tells s ends (Deliver side) is = if_tells s (is_pending (end_at side ends.view)) (concluded side ends) ends (λ _. concluded_tells s side ends is) is
happens_tells s ends (Cancel side) is = if_tells s (is_copying (end_at side ends.view)) (concluded side ends) ends (λ _. concluded_tells s side ends is) is
happens_tells s ends (Drop side) is = if_tells s (may_drop_at side (end_at side ends.view)) (after_drop side ends) ends (λ _. drop_tells s side ends is) is

run_tells : (s : Side) (acts : List Act) (ends : Ends) → IsTold s ends → IsTold s (run acts ends)
run_tells s [] ends is = is
run_tells s (act ∷ acts) ends is = run_tells s acts (happens ends act) (happens_tells s ends act is)

new_told : (s : Side) → IsTold s new_ends
new_told Reader = refl
new_told Writer = refl

pub done_where_ended : (acts : List Act) (s : Side) → has_ended (closed_at s (run acts new_ends)) ≡ (end_at s (run acts new_ends).view).done
done_where_ended acts s = run_tells s acts new_ends (new_told s)
