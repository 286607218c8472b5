-- The payloads that the ends are told, step by step.
use Rattle.std.proofs.Common.{◌≡◌, ℕ, sym, ap, refl, ◌∙◌, append_assoc, Bool, true, false, if◌then◌else◌, Option, Some, None, List, [], ◌∷◌, ◌++◌, map}
use Rattle.stream_ends.specs.declared.side.Side.{Side}
use Rattle.stream_ends.specs.declared.side.Side.TheVariants.{Reader, Writer}
use Rattle.stream_ends.specs.declared.open_copy.OpenCopy.{OpenCopy}
use Rattle.stream_ends.specs.declared.open_copy.CopyResult.TheVariants.{Completed, Dropped as OtherWent}
use Rattle.stream_ends.specs.Ends.{EndsView, Ends, end_at, is_idle, is_pending, is_copying}
use Rattle.stream_ends.specs.Meeting.{changed}
use Rattle.stream_ends.specs.Closed.{closed_at, closing, closed_as, closed_from, after_drop, new_ends}
use Rattle.stream_ends.specs.Runs.{told_to}
use Rattle.stream_ends.proofs.Telling.{told_at, append_none, closing_told, told_none, if_told, IsUnderWay, pending_under_way, copying_under_way}
use Rattle.future_ends.specs.declared.meet.Meet.{Meet}
use Rattle.future_ends.specs.declared.meet.Meet.TheVariants.{Stands, Copies, Dropped}
use Rattle.future_ends.specs.Meeting.{new_offer, met_at, after, after_copy, told, told_payload, may_drop_at}
use Rattle.future_ends.specs.Closed.{closed_at_once, concluded}
use Rattle.future_ends.specs.Runs.{Act, Call, Deliver, Cancel, Drop, once_copied, called, happens, run, answers, told_by, payloads, payload_at}

-- a call, whatever it meets
finished_told : (s side : Side) (meet : Meet) (view : EndsView) (ends : Ends) → told_at payload_at s (once_copied side meet (closing side (closed_at_once meet) view ends)) ≡ told_at payload_at s ends ++ told_to s side (answers meet)
finished_told s side Copies view ends =
    let first : Ends = closing side [] view ends in
    let same : told_at payload_at s first ≡ told_at payload_at s ends = closing_told payload_at s side [] view ends ∙ ap (λ (ps : List ℕ). told_at payload_at s ends ++ ps) (told_none s side) ∙ append_none (told_at payload_at s ends) in
    closing_told payload_at s side (closed_as 1 Completed 1) (after_copy view) first ∙ ap (λ (ps : List ℕ). ps ++ told_to s side (answers Copies)) same
finished_told s side Stands view ends = closing_told payload_at s side [] view ends
finished_told s side Dropped view ends = closing_told payload_at s side (closed_as 1 OtherWent 0) view ends

-- A copy that is under way is closed with its payload.
closed_payload : (o : Option OpenCopy) → IsUnderWay o → map payload_at (closed_from o) ≡ told_payload o ∷ []
closed_payload None h = absurd h
closed_payload (Some copy) h = refl

concluded_told : (s side : Side) (ends : Ends) → IsUnderWay (end_at side ends.view).copy → told_at payload_at s (concluded side ends) ≡ told_at payload_at s ends ++ told_to s side (told_payload (end_at side ends.view).copy ∷ [])
concluded_told s side ends h =
    closing_told payload_at s side (closed_from (end_at side ends.view).copy) (changed side told ends.view) ends
    ∙ ap (λ (ps : List ℕ). told_at payload_at s ends ++ told_to s side ps) (closed_payload (end_at side ends.view).copy h)

drop_told : (s side : Side) (ends : Ends) → told_at payload_at s (after_drop side ends) ≡ told_at payload_at s ends
drop_told Reader side ends = refl
drop_told Writer side ends = refl

dropped_told : (s : Side) (b : Bool) (later ends : Ends) → told_at payload_at s later ≡ told_at payload_at s ends → told_at payload_at s (if b then later else ends) ≡ told_at payload_at s ends ++ []
dropped_told s true later ends h = h ∙ sym (append_none (told_at payload_at s ends))
dropped_told s false later ends h = sym (append_none (told_at payload_at s ends))

happens_told : (s : Side) (ends : Ends) (act : Act) → told_at payload_at s (happens ends act) ≡ told_at payload_at s ends ++ told_by s ends act
happens_told s ends (Call side by canon place) =
    if_told payload_at s (is_idle (end_at side ends.view)) (called side (new_offer by canon place) ends) ends (told_to s side (answers (met_at side (new_offer by canon place) ends.view).meet))
    (λ _. finished_told s side (met_at side (new_offer by canon place) ends.view).meet (after side (new_offer by canon place) ends.view) ends)
happens_told s ends (Deliver side) =
    if_told payload_at s (is_pending (end_at side ends.view)) (concluded side ends) ends (told_to s side (told_payload (end_at side ends.view).copy ∷ []))
    (λ h. concluded_told s side ends (pending_under_way (end_at side ends.view).copy h))
happens_told s ends (Cancel side) =
    if_told payload_at s (is_copying (end_at side ends.view)) (concluded side ends) ends (told_to s side (told_payload (end_at side ends.view).copy ∷ []))
    (λ h. concluded_told s side ends (copying_under_way (end_at side ends.view).copy h))
happens_told s ends (Drop side) = dropped_told s (may_drop_at side (end_at side ends.view)) (after_drop side ends) ends (drop_told s side ends)

run_told : (s : Side) (acts : List Act) (ends : Ends) → told_at payload_at s (run acts ends) ≡ told_at payload_at s ends ++ payloads s acts ends
run_told s [] ends = sym (append_none (told_at payload_at s ends))
run_told s (act ∷ acts) ends =
    run_told s acts (happens ends act)
    ∙ ap (λ (ps : List ℕ). ps ++ payloads s acts (happens ends act)) (happens_told s ends act)
    ∙ append_assoc (told_at payload_at s ends) (told_by s ends act) (payloads s acts (happens ends act))

new_told : (s : Side) (ps : List ℕ) → told_at payload_at s new_ends ++ ps ≡ ps
new_told Reader ps = refl
new_told Writer ps = refl

pub told_once : (acts : List Act) (s : Side) → payloads s acts new_ends ≡ map payload_at (closed_at s (run acts new_ends))
told_once acts s = sym (run_told s acts new_ends ∙ new_told s (payloads s acts new_ends))
