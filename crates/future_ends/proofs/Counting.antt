-- The values that pass the ends, and where an end is done, step by step.
use Rattle.std.proofs.Common.{◌≡◌, ℕ, ◌+◌, sym, ap, subst, refl, ◌∙◌, arith, IsTrue, Option, Some, None, List, [], ◌∷◌}
use Rattle.stream_ends.specs.declared.side.Side.{Side}
use Rattle.stream_ends.specs.declared.side.Side.TheVariants.{Reader, Writer}
use Rattle.stream_ends.specs.declared.open_copy.By.{By}
use Rattle.stream_ends.specs.declared.open_copy.CopyResult.TheVariants.{Completed, Dropped as OtherWent}
use Rattle.stream_ends.specs.declared.open_copy.OpenCopy.{OpenCopy}
use Rattle.stream_ends.specs.declared.stream_end.End.{End}
use Rattle.stream_ends.specs.Ends.{EndsView, Ends, end_at, other_side, arranged, standing_of, copied_of, is_idle, is_pending, is_copying}
use Rattle.stream_ends.specs.Meeting.{with_offer, made_done}
use Rattle.stream_ends.specs.Closed.{closing, closed_as, closed_from, after_drop, new_ends}
use Rattle.stream_ends.specs.Runs.{passed}
use Rattle.stream_ends.proofs.Meetings.{idle_bare, standing_is}
use Rattle.stream_ends.proofs.Counting.{arranged_is, passed_step, changed_at, closed_counted, drop_passed, if_passed, if_same}
use Rattle.future_ends.specs.declared.meet.Meet.TheVariants.{Dropped}
use Rattle.future_ends.specs.Meeting.{Meeting, new_offer, met, met_offer, met_at, taken, after_copy, told, may_drop_at, EndSound, Sound}
use Rattle.future_ends.specs.Closed.{closed_at_once, concluded}
use Rattle.future_ends.specs.Runs.{Act, Call, Deliver, Cancel, Drop, count_of, once_copied, called, happens, run, copied_by, values}
use Rattle.future_ends.proofs.Meetings.{if_holds}
use Rattle.future_ends.proofs.Keeping.{happens_sound, new_sound}

-- The standing offer counts its value.
taken_count : (e : End) (copy : OpenCopy) → standing_of e.copy ≡ Some copy → copied_of (standing_of e.copy) ≡ 0 → copied_of (taken e).copy ≡ copied_of e.copy + 1
taken_count e copy h fresh =
    let same : copied_of e.copy ≡ copy.copied = ap copied_of (standing_is e.copy copy h) in
    let none : copy.copied ≡ 0 = sym (ap copied_of h) ∙ fresh in
    rw (h, same, none) refl

-- The value goes to the other side's offer where the own end has none.
pub copied_at : (side : Side) (own other : End) (copy : OpenCopy) → standing_of other.copy ≡ Some copy → after_copy (arranged side (record own { copy = None }) other) ≡ arranged side (made_done (record own { copy = None })) (taken other)
copied_at Reader own other copy h = refl
copied_at Writer own other copy h = rw (h, h) refl

-- what passed each end after a call that met this
abbrev Passes : Side → Side → End → Ends → Meeting → Type 0
Passes s side other ends m = passed s (once_copied side m.meet (closing side (closed_at_once m.meet) (arranged side m.own other) ends)) ≡ passed s ends + count_of m.meet

offer_passes : (s side : Side) (by : By) (canon place : ℕ) (own other : End) (o : Option OpenCopy) (ends : Ends) → copied_of (standing_of other.copy) ≡ 0 → standing_of other.copy ≡ o → ends.view ≡ arranged side (record own { copy = None }) other → Passes s side other ends (met_offer (new_offer by canon place) (record own { copy = None }) o)
offer_passes s side by canon place own other None ends fresh h v =
    let bare : End = record own { copy = None } in
    passed_step s side [] bare other (with_offer (new_offer by canon place) bare) other 0 ends v refl (omega arith)
offer_passes s side by canon place own other (Some copy) ends fresh h v =
    let bare : End = record own { copy = None } in
    let first : Ends = closing side [] (arranged side bare other) ends in
    let same : passed s first ≡ passed s ends + 0 = passed_step s side [] bare other bare other 0 ends v refl (omega arith) in
    let more : passed s (closing side (closed_as 1 Completed 1) (arranged side (made_done bare) (taken other)) first) ≡ passed s first + 1 =
    passed_step s side (closed_as 1 Completed 1) bare other (made_done bare) (taken other) 1 first refl refl (taken_count other copy h fresh) in
    let P : EndsView → Type 0 = λ e. passed s (closing side (closed_as 1 Completed 1) e first) ≡ passed s ends + 1 in
    subst P (sym (copied_at side own other copy h)) (omega (arith, more, same))

bare_passes : (s side : Side) (by : By) (canon place : ℕ) (own other : End) (ends : Ends) → copied_of (standing_of other.copy) ≡ 0 → ends.view ≡ arranged side (record own { copy = None }) other → Passes s side other ends (met (new_offer by canon place) (record own { copy = None }) other)
unfolding met
bare_passes s side by canon place own other ends fresh v =
    let bare : End = record own { copy = None } in
    if_holds (Passes s side other ends) other.dropped (record { meet = Dropped; own = made_done bare }) (met_offer (new_offer by canon place) bare (standing_of other.copy))
    (passed_step s side (closed_as 1 OtherWent 0) bare other (made_done bare) other 0 ends v refl (omega arith))
    (offer_passes s side by canon place own other (standing_of other.copy) ends fresh refl v)

pub end_sound : (side : Side) (view : EndsView) → Sound view → EndSound (end_at side view)
end_sound Reader view sound = sound.reader
end_sound Writer view sound = sound.writer

called_passed : (s side : Side) (by : By) (canon place : ℕ) (ends : Ends) → Sound ends.view → IsTrue (is_idle (end_at side ends.view)) → passed s (called side (new_offer by canon place) ends) ≡ passed s ends + count_of (met_at side (new_offer by canon place) ends.view).meet
called_passed s side by canon place ends sound idle =
    let own : End = end_at side ends.view in
    let other : End = end_at (other_side side) ends.view in
    let P : End → Type 0 = λ e. ends.view ≡ arranged side e other → Passes s side other ends (met (new_offer by canon place) e other) in
    subst P (idle_bare own idle) (bare_passes s side by canon place own other ends (end_sound (other_side side) ends.view sound).fresh) (arranged_is side ends.view)

concluded_passed : (s side : Side) (ends : Ends) → passed s (concluded side ends) ≡ passed s ends + 0
concluded_passed s side ends =
    let own : End = end_at side ends.view in
    let other : End = end_at (other_side side) ends.view in
    let P : EndsView → Type 0 = λ e. passed s (closing side (closed_from own.copy) e ends) ≡ passed s ends + 0 in
    subst P (sym (changed_at side told ends.view))
    (passed_step s side (closed_from own.copy) own other (told own) other 0 ends (arranged_is side ends.view) (closed_counted own.copy) (omega arith))

happens_passed : (s : Side) (ends : Ends) (act : Act) → Sound ends.view → passed s (happens ends act) ≡ passed s ends + copied_by ends act
happens_passed s ends (Call side by canon place) sound =
    if_passed s (is_idle (end_at side ends.view)) (called side (new_offer by canon place) ends) ends (count_of (met_at side (new_offer by canon place) ends.view).meet)
    (λ idle. called_passed s side by canon place ends sound idle)
happens_passed s ends (Deliver side) sound = if_same s (is_pending (end_at side ends.view)) (concluded side ends) ends (concluded_passed s side ends)
happens_passed s ends (Cancel side) sound = if_same s (is_copying (end_at side ends.view)) (concluded side ends) ends (concluded_passed s side ends)
happens_passed s ends (Drop side) sound = if_same s (may_drop_at side (end_at side ends.view)) (after_drop side ends) ends (drop_passed s side ends)

run_passed : (s : Side) (acts : List Act) (ends : Ends) → Sound ends.view → passed s (run acts ends) ≡ passed s ends + values acts ends
run_passed s [] ends sound = omega arith
run_passed s (act ∷ acts) ends sound =
    let rest : passed s (run acts (happens ends act)) ≡ passed s (happens ends act) + values acts (happens ends act) = run_passed s acts (happens ends act) (happens_sound ends act sound) in
    let step : passed s (happens ends act) ≡ passed s ends + copied_by ends act = happens_passed s ends act sound in
    omega arith

new_passed : (s : Side) → passed s new_ends ≡ 0
new_passed Reader = refl
new_passed Writer = refl

pub nothing_lost : (acts : List Act) (s : Side) → passed s (run acts new_ends) ≡ values acts new_ends
nothing_lost acts s = omega (arith, run_passed s acts new_ends new_sound, new_passed s)
