-- What each call adds to the run of which a meeting place comes.
use Rattle.std.proofs.Common.{◌≡◌, ℕ, zero, suc, ◌<◌, ◌^◌, sym, ap, subst, refl, ◌∙◌, arith, Bool, true, false, ◌&&◌, if◌then◌else◌, nat_lt, nat_eq, IsTrue, Option, Some, None, List, [], ◌∷◌, ◌++◌}
use Rattle.std.proofs.lemmas.Bool.{eqb-true, eq-eqb, ltb-true, lt-ltb, and_parts}
use Rattle.stream_ends.specs.declared.side.Side.{Side}
use Rattle.stream_ends.specs.declared.open_copy.By.{By}
use Rattle.stream_ends.specs.declared.open_copy.OpenCopy.{OpenCopy}
use Rattle.stream_ends.specs.declared.stream_end.End.{End}
use Rattle.stream_ends.specs.declared.meet.Meet.{Meet}
use Rattle.stream_ends.specs.declared.meet.Meet.TheVariants.{Stands, Copies, Dropped, Displaces, ZeroDone, NothingNow}
use Rattle.stream_ends.specs.Ends.{EndsView, Ends, end_at, other_side, arranged, new_copy, standing_of, is_idle, is_pending, is_copying, told, leaves}
use Rattle.stream_ends.specs.Meeting.{Meeting, met, met_at, met_offer, met_full, room_meet, is_empty_pair, with_offer, made_done, after, may_drop, changed, after_copy, after_dropping, IsDue, DueIfCopies}
use Rattle.stream_ends.specs.Closed.{new_ends, offered, concluded, after_drop}
use Rattle.stream_ends.specs.Runs.{Act, Call, Deliver, Cancel, Drop, count_of, once_copied, may_call, called, happens, run}
use Rattle.stream_ends.specs.Places.{MeetingPlace, settled, offered_at, is_due, AsksIfCopies, DueFits, SoundPlace, ComesOf, ComesOfCall}
use Rattle.stream_ends.proofs.Meetings.{if_holds}
use Rattle.stream_ends.proofs.Counting.{arranged_is}

-- one act more
run_more : (acts : List Act) (act : Act) (ends : Ends) → run (acts ++ act ∷ []) ends ≡ happens (run acts ends) act
run_more [] act ends = refl
run_more (first ∷ acts) act ends = run_more acts act (happens ends first)

-- An act that may happen makes of the ends of a run what it makes of any.
comes_of : (acts : List Act) (act : Act) (p q : MeetingPlace) (later : EndsView → EndsView) → ((ends : Ends) → ends.view ≡ p.ends → (happens ends act).view ≡ later ends.view) → q.ends ≡ later p.ends → ComesOf acts p → ComesOf (acts ++ act ∷ []) q
comes_of acts act p q later does is comes =
    is ∙ ap later comes ∙ sym (does (run acts new_ends) (sym comes)) ∙ ap (λ (e : Ends). e.view) (sym (run_more acts act new_ends))

if_view : (b : Bool) (later ends : Ends) → IsTrue b → (if b then later else ends).view ≡ later.view
if_view true later ends h = refl
if_view false later ends h = cc

-- the test at equal ends
at_same : (P : EndsView → Bool) (a b : EndsView) → a ≡ b → IsTrue (P b) → IsTrue (P a)
at_same P a b e h = subst (λ (v : EndsView). IsTrue (P v)) (sym e) h

pub deliver_comes : (side : Side) (acts : List Act) (p : MeetingPlace) → IsTrue (is_pending (end_at side p.ends)) → ComesOf acts p → ComesOf (acts ++ Deliver side ∷ []) (settled (changed side told p.ends))
deliver_comes side acts p may comes =
    comes_of acts (Deliver side) p (settled (changed side told p.ends)) (changed side told)
    (λ ends same. if_view (is_pending (end_at side ends.view)) (concluded side ends) ends (at_same (λ v. is_pending (end_at side v)) ends.view p.ends same may))
    refl comes

pub cancel_comes : (side : Side) (acts : List Act) (p : MeetingPlace) → IsTrue (is_copying (end_at side p.ends)) → ComesOf acts p → ComesOf (acts ++ Cancel side ∷ []) (settled (changed side told p.ends))
cancel_comes side acts p may comes =
    comes_of acts (Cancel side) p (settled (changed side told p.ends)) (changed side told)
    (λ ends same. if_view (is_copying (end_at side ends.view)) (concluded side ends) ends (at_same (λ v. is_copying (end_at side v)) ends.view p.ends same may))
    refl comes

pub drop_comes : (side : Side) (acts : List Act) (p : MeetingPlace) → IsTrue (may_drop (end_at side p.ends)) → ComesOf acts p → ComesOf (acts ++ Drop side ∷ []) (settled (after_dropping side p.ends))
drop_comes side acts p may comes =
    comes_of acts (Drop side) p (settled (after_dropping side p.ends)) (after_dropping side)
    (λ ends same. if_view (may_drop (end_at side ends.view)) (after_drop side ends) ends (at_same (λ v. may_drop (end_at side v)) ends.view p.ends same may))
    refl comes

-- A meeting that copies leaves the ends as they are, until it is copied.
abbrev SameIfCopies : End → End → Meeting → Type 0
SameIfCopies own other m = (count : ℕ) → m.meet ≡ Copies count → (m.own ≡ own) × (m.other ≡ other)

no_copies : (own other : End) (m : Meeting) → ((count : ℕ) → m.meet ≡ Copies count → ⊥) → SameIfCopies own other m
no_copies own other m h = λ count e. absurd (h count e)

offer_same : (side : Side) (call : OpenCopy) (own other : End) (o : Option OpenCopy) → SameIfCopies own other (met_offer side call own other o)
offer_same side call own other None = no_copies own other (met_offer side call own other None) (λ count e. cc)
offer_same side call own other (Some offer) =
    if_holds (SameIfCopies own other) (nat_lt offer.copied offer.length) (record { meet = room_meet call offer; own = own; other = other }) (met_full side call own other offer)
    (λ _ count e. (refl, refl))
    (λ _. if_holds (SameIfCopies own other) (is_empty_pair side call offer) (record { meet = ZeroDone; own = own; other = other }) (record { meet = Displaces; own = with_offer call own; other = leaves other })
    (λ _ count e. (refl, refl))
    (λ _. no_copies own other (record { meet = Displaces; own = with_offer call own; other = leaves other }) (λ count e. cc)))

met_same : (side : Side) (call : OpenCopy) (own other : End) → SameIfCopies own other (met side call own other)
unfolding met
met_same side call own other =
    if_holds (SameIfCopies own other) other.dropped (record { meet = Dropped; own = made_done own; other = other }) (met_offer side call own other (standing_of other.copy))
    (λ _. no_copies own other (record { meet = Dropped; own = made_done own; other = other }) (λ count e. cc))
    (λ _. offer_same side call own other (standing_of other.copy))

copies_same : (side : Side) (call : OpenCopy) (view : EndsView) (count : ℕ) → (met_at side call view).meet ≡ Copies count → after side (met_at side call view) ≡ view
copies_same side call view count h =
    let same : ((met_at side call view).own ≡ end_at side view) × ((met_at side call view).other ≡ end_at (other_side side) view) = met_same side call (end_at side view) (end_at (other_side side) view) count h in
    ap (λ (e : End). arranged side e (met_at side call view).other) same.0
    ∙ ap (λ (e : End). arranged side (end_at side view) e) same.1
    ∙ sym (arranged_is side view)

-- a call that copies nothing
abbrev CopiesNone : Meet → Type 0
CopiesNone meet = (side : Side) (length : ℕ) (ends : Ends) → (once_copied side length meet ends).view ≡ ends.view

call_view : (side : Side) (by : By) (canon place length : ℕ) (ends : Ends) → IsTrue (may_call side length ends) → CopiesNone (met_at side (new_copy by canon place length) ends.view).meet → (happens ends (Call side by canon place length)).view ≡ after side (met_at side (new_copy by canon place length) ends.view)
call_view side by canon place length ends may none =
    if_view (may_call side length ends) (called side (new_copy by canon place length) ends) ends may
    ∙ none side length (offered side (new_copy by canon place length) ends)

abbrev may_at : Side → ℕ → EndsView → Bool
may_at side length view = is_idle (end_at side view) && nat_lt length (2 ^ 28)

none_comes : (side : Side) (by : By) (canon place length : ℕ) (acts : List Act) (p : MeetingPlace) → IsTrue (may_at side length p.ends) → CopiesNone (met_at side (new_copy by canon place length) p.ends).meet → ComesOf acts p → ComesOf (acts ++ Call side by canon place length ∷ []) (offered_at side (new_copy by canon place length) p)
none_comes side by canon place length acts p may none comes =
    let call : OpenCopy = new_copy by canon place length in
    comes_of acts (Call side by canon place length) p (offered_at side call p) (λ v. after side (met_at side call v))
    (λ ends same. call_view side by canon place length ends (at_same (may_at side length) ends.view p.ends same may) (subst (λ (v : EndsView). CopiesNone (met_at side call v).meet) (sym same) none))
    refl comes

by_meet : (meet : Meet) (acts : List Act) (call : Act) (q : MeetingPlace) → ((count : ℕ) → meet ≡ Copies count → ComesOf acts q) → (CopiesNone meet → ComesOf (acts ++ call ∷ []) q) → ComesOfCall acts call meet q
by_meet (Copies count) acts call q some none = some count refl
by_meet Stands acts call q some none = none (λ side length ends. refl)
by_meet Dropped acts call q some none = none (λ side length ends. refl)
by_meet Displaces acts call q some none = none (λ side length ends. refl)
by_meet ZeroDone acts call q some none = none (λ side length ends. refl)
by_meet NothingNow acts call q some none = none (λ side length ends. refl)

both_true : (a b : Bool) → IsTrue a → IsTrue b → IsTrue (a && b)
both_true true b h k = k
both_true false b h k = cc

short_true : (length : ℕ) → length < 2 ^ 28 → IsTrue (nat_lt length (2 ^ 28))
short_true length h = lt-ltb length (2 ^ 28) h

pub offer_comes : (side : Side) (by : By) (canon place length : ℕ) (acts : List Act) (p : MeetingPlace) → IsTrue (is_idle (end_at side p.ends)) → length < 2 ^ 28 → ComesOf acts p → ComesOfCall acts (Call side by canon place length) (met_at side (new_copy by canon place length) p.ends).meet (offered_at side (new_copy by canon place length) p)
offer_comes side by canon place length acts p idle short comes =
    let call : OpenCopy = new_copy by canon place length in
    by_meet (met_at side call p.ends).meet acts (Call side by canon place length) (offered_at side call p)
    (λ count copies. copies_same side call p.ends count copies ∙ comes)
    (λ none. none_comes side by canon place length acts p (both_true (is_idle (end_at side p.ends)) (nat_lt length (2 ^ 28)) idle (short_true length short)) none comes)

-- A call that copies is part of the run once that is done.
copies_view : (side : Side) (by : By) (canon place length count : ℕ) (ends : Ends) → IsTrue (may_call side length ends) → (met_at side (new_copy by canon place length) ends.view).meet ≡ Copies count → (happens ends (Call side by canon place length)).view ≡ after_copy count ends.view
copies_view side by canon place length count ends may copies =
    let call : OpenCopy = new_copy by canon place length in
    if_view (may_call side length ends) (called side call ends) ends may
    ∙ ap (λ (m : Meet). (once_copied side length m (offered side call ends)).view) copies
    ∙ ap (after_copy count) (copies_same side call ends.view count copies)

pub copied_comes : (side : Side) (by : By) (canon place length count : ℕ) (acts : List Act) (p : MeetingPlace) → IsTrue (may_call side length (run acts new_ends)) → (met_at side (new_copy by canon place length) p.ends).meet ≡ Copies count → ComesOf acts p → ComesOf (acts ++ Call side by canon place length ∷ []) (settled (after_copy count p.ends))
copied_comes side by canon place length count acts p may copies comes =
    let call : OpenCopy = new_copy by canon place length in
    ap (after_copy count) comes
    ∙ sym (copies_view side by canon place length count (run acts new_ends) may (subst (λ (v : EndsView). (met_at side call v).meet ≡ Copies count) comes copies))
    ∙ ap (λ (e : Ends). e.view) (sym (run_more acts (Call side by canon place length) new_ends))

-- What is to be copied fits.
due_fits : (due : ℕ) (ends : EndsView) → 0 < due → DueFits due ends → IsDue due ends
due_fits zero ends h f = absurd (omega arith)
due_fits (suc more) ends h f = f

pub due_room : (count : ℕ) (p : MeetingPlace) → SoundPlace p → IsTrue (is_due count p) → IsDue count p.ends
due_room count p sound may =
    let parts : (nat_lt 0 count ≡ true) × (nat_eq p.due count ≡ true) = and_parts (nat_lt 0 count) (nat_eq p.due count) may in
    let same : p.due ≡ count = eqb-true p.due count parts.1 in
    subst (λ (n : ℕ). IsDue n p.ends) same (due_fits p.due p.ends (subst (λ (n : ℕ). 0 < n) (sym same) (ltb-true 0 count parts.0)) sound.due)

pub count_fits : (meet : Meet) (ends : EndsView) → DueIfCopies meet ends → DueFits (count_of meet) ends
count_fits (Copies zero) ends due = tt
count_fits (Copies (suc more)) ends due = due
count_fits Stands ends due = tt
count_fits Dropped ends due = tt
count_fits Displaces ends due = tt
count_fits ZeroDone ends due = tt
count_fits NothingNow ends due = tt

pub asks_for : (meet : Meet) (ends : EndsView) (due : ℕ) → DueIfCopies meet ends → due ≡ count_of meet → AsksIfCopies meet (record { ends = ends; due = due })
asks_for (Copies count) ends due fits same =
    both_true (nat_lt 0 count) (nat_eq due count) (lt-ltb 0 count fits.some) (eq-eqb due count same)
asks_for Stands ends due fits same = tt
asks_for Dropped ends due fits same = tt
asks_for Displaces ends due fits same = tt
asks_for ZeroDone ends due fits same = tt
asks_for NothingNow ends due fits same = tt
