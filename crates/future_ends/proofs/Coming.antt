-- What each call adds to the run of which a meeting place comes.
use Rattle.std.proofs.Common.{◌≡◌, ℕ, sym, ap, subst, refl, ◌∙◌, Bool, true, false, if◌then◌else◌, IsTrue, Option, Some, None, List, [], ◌∷◌, ◌++◌}
use Rattle.stream_ends.specs.declared.side.Side.{Side}
use Rattle.stream_ends.specs.declared.open_copy.By.{By}
use Rattle.stream_ends.specs.declared.open_copy.OpenCopy.{OpenCopy}
use Rattle.stream_ends.specs.declared.stream_end.End.{End}
use Rattle.stream_ends.specs.Ends.{EndsView, Ends, end_at, other_side, arranged, standing_of, is_idle, is_pending, is_copying}
use Rattle.stream_ends.specs.Meeting.{made_done, changed, after_dropping}
use Rattle.stream_ends.specs.Closed.{new_ends, after_drop}
use Rattle.stream_ends.proofs.Counting.{arranged_is}
use Rattle.future_ends.specs.declared.meet.Meet.{Meet}
use Rattle.future_ends.specs.declared.meet.Meet.TheVariants.{Stands, Copies, Dropped}
use Rattle.future_ends.specs.Meeting.{Meeting, new_offer, met, met_offer, met_at, after, after_copy, told, may_drop_at, DueIfCopies}
use Rattle.future_ends.specs.Closed.{offered, concluded}
use Rattle.future_ends.specs.Runs.{Act, Call, Deliver, Cancel, Drop, once_copied, called, happens, run}
use Rattle.future_ends.specs.Places.{FuturePlace, settled, copies, offered_at, AsksIfCopies, DueFits, ComesOf, ComesOfCall}
use Rattle.future_ends.proofs.Meetings.{if_holds}

-- one act more
run_more : (acts : List Act) (act : Act) (ends : Ends) → run (acts ++ act ∷ []) ends ≡ happens (run acts ends) act
run_more [] act ends = refl
run_more (first ∷ acts) act ends = run_more acts act (happens ends first)

-- An act that may happen makes of the ends of a run what it makes of any.
comes_of : (acts : List Act) (act : Act) (p q : FuturePlace) (later : EndsView → EndsView) → ((ends : Ends) → ends.view ≡ p.ends → (happens ends act).view ≡ later ends.view) → q.ends ≡ later p.ends → ComesOf acts p → ComesOf (acts ++ act ∷ []) q
comes_of acts act p q later does is comes =
    is ∙ ap later comes ∙ sym (does (run acts new_ends) (sym comes)) ∙ ap (λ (e : Ends). e.view) (sym (run_more acts act new_ends))

if_view : (b : Bool) (later ends : Ends) → IsTrue b → (if b then later else ends).view ≡ later.view
if_view true later ends h = refl
if_view false later ends h = cc

-- the test at equal ends
at_same : (P : EndsView → Bool) (a b : EndsView) → a ≡ b → IsTrue (P b) → IsTrue (P a)
at_same P a b e h = subst (λ (v : EndsView). IsTrue (P v)) (sym e) h

pub deliver_comes : (side : Side) (acts : List Act) (p : FuturePlace) → IsTrue (is_pending (end_at side p.ends)) → ComesOf acts p → ComesOf (acts ++ Deliver side ∷ []) (settled (changed side told p.ends))
deliver_comes side acts p may comes =
    comes_of acts (Deliver side) p (settled (changed side told p.ends)) (changed side told)
    (λ ends same. if_view (is_pending (end_at side ends.view)) (concluded side ends) ends (at_same (λ v. is_pending (end_at side v)) ends.view p.ends same may))
    refl comes

pub cancel_comes : (side : Side) (acts : List Act) (p : FuturePlace) → IsTrue (is_copying (end_at side p.ends)) → ComesOf acts p → ComesOf (acts ++ Cancel side ∷ []) (settled (changed side told p.ends))
cancel_comes side acts p may comes =
    comes_of acts (Cancel side) p (settled (changed side told p.ends)) (changed side told)
    (λ ends same. if_view (is_copying (end_at side ends.view)) (concluded side ends) ends (at_same (λ v. is_copying (end_at side v)) ends.view p.ends same may))
    refl comes

pub drop_comes : (side : Side) (acts : List Act) (p : FuturePlace) → IsTrue (may_drop_at side (end_at side p.ends)) → ComesOf acts p → ComesOf (acts ++ Drop side ∷ []) (settled (after_dropping side p.ends))
drop_comes side acts p may comes =
    comes_of acts (Drop side) p (settled (after_dropping side p.ends)) (after_dropping side)
    (λ ends same. if_view (may_drop_at side (end_at side ends.view)) (after_drop side ends) ends (at_same (λ v. may_drop_at side (end_at side v)) ends.view p.ends same may))
    refl comes

-- A meeting that copies leaves the ends as they are, until it is copied.
abbrev SameIfCopies : End → Meeting → Type 0
SameIfCopies own m = m.meet ≡ Copies → m.own ≡ own

offer_same : (call : OpenCopy) (own : End) (o : Option OpenCopy) → SameIfCopies own (met_offer call own o)
offer_same call own None = λ e. absurd (let w : ⊥ = cc in w)
offer_same call own (Some offer) = λ e. refl

met_same : (call : OpenCopy) (own other : End) → SameIfCopies own (met call own other)
unfolding met
met_same call own other =
    if_holds (SameIfCopies own) other.dropped (record { meet = Dropped; own = made_done own }) (met_offer call own (standing_of other.copy))
    (λ e. absurd (let w : ⊥ = cc in w))
    (offer_same call own (standing_of other.copy))

copies_same : (side : Side) (call : OpenCopy) (view : EndsView) → (met_at side call view).meet ≡ Copies → after side call view ≡ view
copies_same side call view h =
    ap (λ (e : End). arranged side e (end_at (other_side side) view)) (met_same call (end_at side view) (end_at (other_side side) view) h)
    ∙ sym (arranged_is side view)

-- a call that copies nothing
abbrev CopiesNone : Meet → Type 0
CopiesNone meet = (side : Side) (ends : Ends) → (once_copied side meet ends).view ≡ ends.view

none_comes : (side : Side) (by : By) (canon place : ℕ) (acts : List Act) (p : FuturePlace) → IsTrue (is_idle (end_at side p.ends)) → CopiesNone (met_at side (new_offer by canon place) p.ends).meet → ComesOf acts p → ComesOf (acts ++ Call side by canon place ∷ []) (offered_at side (new_offer by canon place) p)
none_comes side by canon place acts p may none comes =
    let call : OpenCopy = new_offer by canon place in
    comes_of acts (Call side by canon place) p (offered_at side call p) (after side call)
    (λ ends same.
    if_view (is_idle (end_at side ends.view)) (called side call ends) ends (at_same (λ v. is_idle (end_at side v)) ends.view p.ends same may)
    ∙ subst (λ (v : EndsView). CopiesNone (met_at side call v).meet) (sym same) none side (offered side call ends))
    refl comes

by_meet : (meet : Meet) (acts : List Act) (call : Act) (q : FuturePlace) → (meet ≡ Copies → ComesOf acts q) → (CopiesNone meet → ComesOf (acts ++ call ∷ []) q) → ComesOfCall acts call meet q
by_meet Copies acts call q some none = some refl
by_meet Stands acts call q some none = none (λ side ends. refl)
by_meet Dropped acts call q some none = none (λ side ends. refl)

pub offer_comes : (side : Side) (by : By) (canon place : ℕ) (acts : List Act) (p : FuturePlace) → IsTrue (is_idle (end_at side p.ends)) → ComesOf acts p → ComesOfCall acts (Call side by canon place) (met_at side (new_offer by canon place) p.ends).meet (offered_at side (new_offer by canon place) p)
offer_comes side by canon place acts p idle comes =
    let call : OpenCopy = new_offer by canon place in
    by_meet (met_at side call p.ends).meet acts (Call side by canon place) (offered_at side call p)
    (λ copies. copies_same side call p.ends copies ∙ comes)
    (λ none. none_comes side by canon place acts p idle none comes)

-- A call that copies is part of the run once that is done.
copies_view : (side : Side) (by : By) (canon place : ℕ) (ends : Ends) → IsTrue (is_idle (end_at side ends.view)) → (met_at side (new_offer by canon place) ends.view).meet ≡ Copies → (happens ends (Call side by canon place)).view ≡ after_copy ends.view
copies_view side by canon place ends may copies =
    let call : OpenCopy = new_offer by canon place in
    if_view (is_idle (end_at side ends.view)) (called side call ends) ends may
    ∙ ap (λ (m : Meet). (once_copied side m (offered side call ends)).view) copies
    ∙ ap after_copy (copies_same side call ends.view copies)

pub copied_comes : (side : Side) (by : By) (canon place : ℕ) (acts : List Act) (p : FuturePlace) → IsTrue (is_idle (end_at side p.ends)) → (met_at side (new_offer by canon place) p.ends).meet ≡ Copies → ComesOf acts p → ComesOf (acts ++ Call side by canon place ∷ []) (settled (after_copy p.ends))
copied_comes side by canon place acts p may copies comes =
    let call : OpenCopy = new_offer by canon place in
    ap after_copy comes
    ∙ sym (copies_view side by canon place (run acts new_ends) (at_same (λ v. is_idle (end_at side v)) (run acts new_ends).view p.ends (sym comes) may) (subst (λ (v : EndsView). (met_at side call v).meet ≡ Copies) comes copies))
    ∙ ap (λ (e : Ends). e.view) (sym (run_more acts (Call side by canon place) new_ends))

-- What is to be copied is there.
pub copies_fit : (meet : Meet) (ends : EndsView) → DueIfCopies meet ends → DueFits (copies meet) ends
copies_fit Copies ends due = due
copies_fit Stands ends due = tt
copies_fit Dropped ends due = tt

pub asks_for : (meet : Meet) (ends : EndsView) (due : Bool) → due ≡ copies meet → AsksIfCopies meet (record { ends = ends; is_due = due })
asks_for Copies ends due same = same
asks_for Stands ends due same = tt
asks_for Dropped ends due same = tt
