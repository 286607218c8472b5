-- The payloads that the ends are told, step by step.
use Rattle.std.proofs.Common.{◌≡◌, ℕ, sym, ap, refl, ◌∙◌, append_assoc, Bool, true, false, if◌then◌else◌, is_some, Option, Some, None, List, [], ◌∷◌, ◌++◌, map}
use Rattle.stream_ends.specs.declared.side.Side.{Side}
use Rattle.stream_ends.specs.declared.side.Side.TheVariants.{Reader, Writer}
use Rattle.stream_ends.specs.declared.open_copy.OpenCopy.{OpenCopy}
use Rattle.stream_ends.specs.declared.open_copy.CopyResult.TheVariants.{Completed, Dropped as OtherWent}
use Rattle.stream_ends.specs.declared.meet.Meet.{Meet}
use Rattle.stream_ends.specs.declared.meet.Meet.TheVariants.{Stands, Copies, Dropped, Displaces, ZeroDone, NothingNow}
use Rattle.stream_ends.specs.Ends.{EndsView, ClosedCopy, Ends, end_at, new_copy, has_event, is_pending, is_copying, told, told_payload}
use Rattle.stream_ends.specs.Meeting.{met_at, after, changed, after_copy, may_drop}
use Rattle.stream_ends.specs.Closed.{closed_at, closing, closed_at_once, closed_as, closed_from, concluded, after_drop, new_ends}
use Rattle.stream_ends.specs.Runs.{Act, Call, Deliver, Cancel, Drop, once_copied, may_call, called, happens, run, answers, told_to, told_by, payloads, payload_at}

-- what is told of the copies that are closed at an end
abbrev pub told_at : (ClosedCopy → ℕ) → Side → Ends → List ℕ
told_at tell s ends = map tell (closed_at s ends)

map_append : (tell : ClosedCopy → ℕ) (xs ys : List ClosedCopy) → map tell (xs ++ ys) ≡ map tell xs ++ map tell ys
map_append tell [] ys = refl
map_append tell (x ∷ xs) ys = ap (λ (ps : List ℕ). tell x ∷ ps) (map_append tell xs ys)

pub append_none : (xs : List ℕ) → xs ++ [] ≡ xs
append_none [] = refl
append_none (x ∷ xs) = ap (λ (ps : List ℕ). x ∷ ps) (append_none xs)

-- what a call that closes these copies tells
pub closing_told : (tell : ClosedCopy → ℕ) (s side : Side) (copies : List ClosedCopy) (view : EndsView) (ends : Ends) → told_at tell s (closing side copies view ends) ≡ told_at tell s ends ++ told_to s side (map tell copies)
closing_told tell Reader Reader copies view ends = map_append tell ends.reader_closed copies
closing_told tell Reader Writer copies view ends = map_append tell ends.reader_closed []
closing_told tell Writer Reader copies view ends = map_append tell ends.writer_closed []
closing_told tell Writer Writer copies view ends = map_append tell ends.writer_closed copies

pub told_none : (s side : Side) → told_to s side [] ≡ []
told_none Reader Reader = refl
told_none Reader Writer = refl
told_none Writer Reader = refl
told_none Writer Writer = refl

-- a call, whatever it meets
finished_told : (s side : Side) (length : ℕ) (meet : Meet) (view : EndsView) (ends : Ends) → told_at payload_at s (once_copied side length meet (closing side (closed_at_once length meet) view ends)) ≡ told_at payload_at s ends ++ told_to s side (answers meet)
finished_told s side length (Copies count) view ends =
    let first : Ends = closing side [] view ends in
    let same : told_at payload_at s first ≡ told_at payload_at s ends = closing_told payload_at s side [] view ends ∙ ap (λ (ps : List ℕ). told_at payload_at s ends ++ ps) (told_none s side) ∙ append_none (told_at payload_at s ends) in
    closing_told payload_at s side (closed_as length Completed count) (after_copy count view) first ∙ ap (λ (ps : List ℕ). ps ++ told_to s side (answers (Copies count))) same
finished_told s side length Stands view ends = closing_told payload_at s side [] view ends
finished_told s side length Dropped view ends = closing_told payload_at s side (closed_as length OtherWent 0) view ends
finished_told s side length Displaces view ends = closing_told payload_at s side [] view ends
finished_told s side length ZeroDone view ends = closing_told payload_at s side (closed_as length Completed 0) view ends
finished_told s side length NothingNow view ends = closing_told payload_at s side (closed_as length Completed 0) view ends

-- a test of what may happen
pub if_told : (tell : ClosedCopy → ℕ) (s : Side) (b : Bool) (later ends : Ends) (ps : List ℕ) → (b ≡ true → told_at tell s later ≡ told_at tell s ends ++ ps) → told_at tell s (if b then later else ends) ≡ told_at tell s ends ++ (if b then ps else [])
if_told tell s true later ends ps h = h refl
if_told tell s false later ends ps h = sym (append_none (told_at tell s ends))

pub if_none : (tell : ClosedCopy → ℕ) (s : Side) (b : Bool) (later ends : Ends) → told_at tell s later ≡ told_at tell s ends → told_at tell s (if b then later else ends) ≡ told_at tell s ends ++ []
if_none tell s true later ends h = h ∙ sym (append_none (told_at tell s ends))
if_none tell s false later ends h = sym (append_none (told_at tell s ends))

-- A copy that is under way is closed with its payload.
abbrev pub IsUnderWay : Option OpenCopy → Type 0
IsUnderWay None = ⊥
IsUnderWay (Some copy) = Unit {0}

pub pending_under_way : (o : Option OpenCopy) → has_event o ≡ true → IsUnderWay o
pending_under_way None h = cc
pending_under_way (Some copy) h = tt

pub copying_under_way : (o : Option OpenCopy) → is_some o ≡ true → IsUnderWay o
copying_under_way None h = cc
copying_under_way (Some copy) h = tt

closed_payload : (o : Option OpenCopy) → IsUnderWay o → map payload_at (closed_from o) ≡ told_payload o ∷ []
closed_payload None h = absurd h
closed_payload (Some copy) h = refl

concluded_told : (s side : Side) (ends : Ends) → IsUnderWay (end_at side ends.view).copy → told_at payload_at s (concluded side ends) ≡ told_at payload_at s ends ++ told_to s side (told_payload (end_at side ends.view).copy ∷ [])
concluded_told s side ends h =
    closing_told payload_at s side (closed_from (end_at side ends.view).copy) (changed side told ends.view) ends
    ∙ ap (λ (ps : List ℕ). told_at payload_at s ends ++ told_to s side ps) (closed_payload (end_at side ends.view).copy h)

drop_told : (s side : Side) (ends : Ends) → told_at payload_at s (after_drop side ends) ≡ told_at payload_at s ends
drop_told Reader side ends = refl
drop_told Writer side ends = refl

happens_told : (s : Side) (ends : Ends) (act : Act) → told_at payload_at s (happens ends act) ≡ told_at payload_at s ends ++ told_by s ends act
happens_told s ends (Call side by canon place length) =
    if_told payload_at s (may_call side length ends) (called side (new_copy by canon place length) ends) ends (told_to s side (answers (met_at side (new_copy by canon place length) ends.view).meet))
    (λ _. finished_told s side length (met_at side (new_copy by canon place length) ends.view).meet (after side (met_at side (new_copy by canon place length) ends.view)) ends)
happens_told s ends (Deliver side) =
    if_told payload_at s (is_pending (end_at side ends.view)) (concluded side ends) ends (told_to s side (told_payload (end_at side ends.view).copy ∷ []))
    (λ h. concluded_told s side ends (pending_under_way (end_at side ends.view).copy h))
happens_told s ends (Cancel side) =
    if_told payload_at s (is_copying (end_at side ends.view)) (concluded side ends) ends (told_to s side (told_payload (end_at side ends.view).copy ∷ []))
    (λ h. concluded_told s side ends (copying_under_way (end_at side ends.view).copy h))
happens_told s ends (Drop side) = if_none payload_at s (may_drop (end_at side ends.view)) (after_drop side ends) ends (drop_told s side ends)

run_told : (s : Side) (acts : List Act) (ends : Ends) → told_at payload_at s (run acts ends) ≡ told_at payload_at s ends ++ payloads s acts ends
run_told s [] ends = sym (append_none (told_at payload_at s ends))
run_told s (act ∷ acts) ends =
    run_told s acts (happens ends act)
    ∙ ap (λ (ps : List ℕ). ps ++ payloads s acts (happens ends act)) (happens_told s ends act)
    ∙ append_assoc (told_at payload_at s ends) (told_by s ends act) (payloads s acts (happens ends act))

new_told : (s : Side) (ps : List ℕ) → told_at payload_at s new_ends ++ ps ≡ ps
new_told Reader ps = refl
new_told Writer ps = refl

pub told_once : (acts : List Act) (s : Side) → payloads s acts new_ends ≡ map payload_at (closed_at s (run acts new_ends))
told_once acts s = sym (run_told s acts new_ends ∙ new_told s (payloads s acts new_ends))
