-- The elements that pass the ends, step by step.
use Rattle.std.proofs.Common.{◌≡◌, ℕ, ◌+◌, ◌-◌, ◌^◌, min, sym, ap, subst, refl, ◌∙◌, arith, Bool, true, false, ◌&&◌, if◌then◌else◌, IsTrue, nat_lt, Option, Some, None, List, [], ◌∷◌}
use Rattle.std.specs.List.{sum_by}
use Rattle.std.proofs.lemmas.List.Sums.{sum_by-append}
use Rattle.stream_ends.specs.declared.side.Side.{Side}
use Rattle.stream_ends.specs.declared.side.Side.TheVariants.{Reader, Writer}
use Rattle.stream_ends.specs.declared.open_copy.CopyEvent.TheVariants.{Completed as EventCompleted, Dropped as OtherDropped}
use Rattle.stream_ends.specs.declared.open_copy.By.{By}
use Rattle.stream_ends.specs.declared.open_copy.CopyResult.TheVariants.{Completed, Dropped as OtherWent}
use Rattle.stream_ends.specs.declared.open_copy.OpenCopy.{OpenCopy}
use Rattle.stream_ends.specs.declared.stream_end.End.{End}
use Rattle.stream_ends.specs.declared.meet.Meet.TheVariants.{Copies, Dropped, Displaces, ZeroDone, NothingNow}
use Rattle.stream_ends.specs.Ends.{EndsView, ClosedCopy, Ends, end_at, other_side, arranged, new_copy, standing_of, copied_of, is_idle, is_pending, is_copying, replaced, grown, leaves, hears_of_drop, told}
use Rattle.stream_ends.specs.Meeting.{Meeting, met, met_at, met_offer, met_full, room_meet, is_empty_pair, with_offer, made_done, after, changed, after_copy, may_drop}
use Rattle.stream_ends.specs.Closed.{closing, closed_at_once, closed_as, closed_from, concluded, after_drop, new_ends}
use Rattle.stream_ends.specs.Runs.{Act, Call, Deliver, Cancel, Drop, count_of, once_copied, may_call, called, happens, run, copied_by, elements, passed}
use Rattle.stream_ends.proofs.Meetings.{if_holds, idle_bare, standing_is}

-- the elements of closed copies
abbrev pub counted : List ClosedCopy → ℕ
counted copies = sum_by (λ (copy : ClosedCopy). copy.count) copies

-- An offer that leaves, or hears of a drop, keeps its count, and one that grows counts more.
kept_count_at : (edit : OpenCopy → OpenCopy) (keeps : (copy : OpenCopy) → (edit copy).copied ≡ copy.copied) (e : End) (o : Option OpenCopy) → standing_of e.copy ≡ o → copied_of (replaced edit o e).copy ≡ copied_of e.copy
kept_count_at edit keeps e None h = refl
kept_count_at edit keeps e (Some copy) h = keeps copy ∙ ap copied_of (sym (standing_is e.copy copy h))

pub leaves_count : (e : End) → copied_of (leaves e).copy ≡ copied_of e.copy
leaves_count e = kept_count_at (λ copy. record copy { event = Some EventCompleted; standing = false }) (λ _. refl) e (standing_of e.copy) refl

pub hears_count : (e : End) → copied_of (hears_of_drop e).copy ≡ copied_of e.copy
hears_count e = kept_count_at (λ copy. record copy { event = Some OtherDropped }) (λ _. refl) e (standing_of e.copy) refl

pub grown_count : (n : ℕ) (e : End) (copy : OpenCopy) → standing_of e.copy ≡ Some copy → copied_of (grown n e).copy ≡ copied_of e.copy + n
grown_count n e copy h =
    let same : copied_of e.copy ≡ copy.copied = ap copied_of (standing_is e.copy copy h) in
    rw (h, same) refl

-- The ends from one side are the ends.
pub arranged_is : (side : Side) (view : EndsView) → view ≡ arranged side (end_at side view) (end_at (other_side side) view)
arranged_is Reader view = refl
arranged_is Writer view = refl

-- What passed each end after a call that closed these copies, where each end counts n more.
pub passed_step : (s side : Side) (copies : List ClosedCopy) (own other new_own new_other : End) (n : ℕ) (ends : Ends) → ends.view ≡ arranged side own other → counted copies + copied_of new_own.copy ≡ copied_of own.copy + n → copied_of new_other.copy ≡ copied_of other.copy + n → passed s (closing side copies (arranged side new_own new_other) ends) ≡ passed s ends + n
passed_step Reader Reader copies own other new_own new_other n ends v own_is other_is =
    let here : copied_of ends.view.reader.copy ≡ copied_of own.copy = ap (λ (e : EndsView). copied_of e.reader.copy) v in
    omega (arith, here, sum_by-append (λ (copy : ClosedCopy). copy.count) ends.reader_closed copies)
passed_step Reader Writer copies own other new_own new_other n ends v own_is other_is =
    let here : copied_of ends.view.reader.copy ≡ copied_of other.copy = ap (λ (e : EndsView). copied_of e.reader.copy) v in
    omega (arith, here, sum_by-append (λ (copy : ClosedCopy). copy.count) ends.reader_closed [])
passed_step Writer Reader copies own other new_own new_other n ends v own_is other_is =
    let here : copied_of ends.view.writer.copy ≡ copied_of other.copy = ap (λ (e : EndsView). copied_of e.writer.copy) v in
    omega (arith, here, sum_by-append (λ (copy : ClosedCopy). copy.count) ends.writer_closed [])
passed_step Writer Writer copies own other new_own new_other n ends v own_is other_is =
    let here : copied_of ends.view.writer.copy ≡ copied_of own.copy = ap (λ (e : EndsView). copied_of e.writer.copy) v in
    omega (arith, here, sum_by-append (λ (copy : ClosedCopy). copy.count) ends.writer_closed copies)

-- A copy grows the standing offer, which is the other side's where the own end has none.
pub copied_at : (side : Side) (n : ℕ) (own other : End) (copy : OpenCopy) → standing_of other.copy ≡ Some copy → after_copy n (arranged side (record own { copy = None }) other) ≡ arranged side (record own { copy = None }) (grown n other)
copied_at Reader n own other copy h = refl
copied_at Writer n own other copy h = rw (h, h) refl

-- what passed each end after a call that met this
abbrev Passes : Side → Side → ℕ → Ends → Meeting → Type 0
Passes s side length ends m = passed s (once_copied side length m.meet (closing side (closed_at_once length m.meet) (after side m) ends)) ≡ passed s ends + count_of m.meet

copies_passes : (s side : Side) (length : ℕ) (own other : End) (copy : OpenCopy) (n : ℕ) (ends : Ends) → standing_of other.copy ≡ Some copy → ends.view ≡ arranged side (record own { copy = None }) other → Passes s side length ends (record { meet = Copies n; own = record own { copy = None }; other = other })
copies_passes s side length own other copy n ends h v =
    let bare : End = record own { copy = None } in
    let first : Ends = closing side [] (arranged side bare other) ends in
    let same : passed s first ≡ passed s ends + 0 = passed_step s side [] bare other bare other 0 ends v refl (omega arith) in
    let more : passed s (closing side (closed_as length Completed n) (arranged side bare (grown n other)) first) ≡ passed s first + n =
    passed_step s side (closed_as length Completed n) bare other bare (grown n other) n first refl (omega arith) (grown_count n other copy h) in
    let P : EndsView → Type 0 = λ e. passed s (closing side (closed_as length Completed n) e first) ≡ passed s ends + n in
    subst P (sym (copied_at side n own other copy h)) (omega (arith, more, same))

room_passes : (s side : Side) (length : ℕ) (own other : End) (copy : OpenCopy) (n : ℕ) (b : Bool) (ends : Ends) → standing_of other.copy ≡ Some copy → ends.view ≡ arranged side (record own { copy = None }) other → Passes s side length ends (record { meet = if b then Copies n else NothingNow; own = record own { copy = None }; other = other })
room_passes s side length own other copy n true ends h v = copies_passes s side length own other copy n ends h v
room_passes s side length own other copy n false ends h v =
    let bare : End = record own { copy = None } in
    passed_step s side (closed_as length Completed 0) bare other bare other 0 ends v refl (omega arith)

offer_passes : (s side : Side) (by : By) (canon place length : ℕ) (own other : End) (o : Option OpenCopy) (ends : Ends) → standing_of other.copy ≡ o → ends.view ≡ arranged side (record own { copy = None }) other → Passes s side length ends (met_offer side (new_copy by canon place length) (record own { copy = None }) other o)
offer_passes s side by canon place length own other None ends h v =
    let bare : End = record own { copy = None } in
    passed_step s side [] bare other (with_offer (new_copy by canon place length) bare) other 0 ends v refl (omega arith)
offer_passes s side by canon place length own other (Some offer) ends h v =
    let bare : End = record own { copy = None } in
    let call : OpenCopy = new_copy by canon place length in
    if_holds (Passes s side length ends) (nat_lt offer.copied offer.length) (record { meet = room_meet call offer; own = bare; other = other }) (met_full side call bare other offer)
    (λ _. room_passes s side length own other offer (min (offer.length - offer.copied) length) (nat_lt 0 length) ends h v)
    (λ _. if_holds (Passes s side length ends) (is_empty_pair side call offer) (record { meet = ZeroDone; own = bare; other = other }) (record { meet = Displaces; own = with_offer call bare; other = leaves other })
    (λ _. passed_step s side (closed_as length Completed 0) bare other bare other 0 ends v refl (omega arith))
    (λ _. passed_step s side [] bare other (with_offer call bare) (leaves other) 0 ends v refl (omega (arith, leaves_count other))))

bare_passes : (s side : Side) (by : By) (canon place length : ℕ) (own other : End) (ends : Ends) → ends.view ≡ arranged side (record own { copy = None }) other → Passes s side length ends (met side (new_copy by canon place length) (record own { copy = None }) other)
unfolding met
bare_passes s side by canon place length own other ends v =
    let bare : End = record own { copy = None } in
    if_holds (Passes s side length ends) other.dropped (record { meet = Dropped; own = made_done bare; other = other }) (met_offer side (new_copy by canon place length) bare other (standing_of other.copy))
    (λ _. passed_step s side (closed_as length OtherWent 0) bare other (made_done bare) other 0 ends v refl (omega arith))
    (λ _. offer_passes s side by canon place length own other (standing_of other.copy) ends refl v)

pub called_passed : (s side : Side) (by : By) (canon place length : ℕ) (ends : Ends) → IsTrue (is_idle (end_at side ends.view)) → passed s (called side (new_copy by canon place length) ends) ≡ passed s ends + count_of (met_at side (new_copy by canon place length) ends.view).meet
called_passed s side by canon place length ends idle =
    let own : End = end_at side ends.view in
    let other : End = end_at (other_side side) ends.view in
    let P : End → Type 0 = λ e. ends.view ≡ arranged side e other → Passes s side length ends (met side (new_copy by canon place length) e other) in
    subst P (idle_bare own idle) (bare_passes s side by canon place length own other ends) (arranged_is side ends.view)

-- A test of what may happen decides what passes, too.
pub if_passed : (s : Side) (b : Bool) (later ends : Ends) (n : ℕ) → (b ≡ true → passed s later ≡ passed s ends + n) → passed s (if b then later else ends) ≡ passed s ends + (if b then n else 0)
if_passed s true later ends n h = h refl
if_passed s false later ends n h = omega arith

pub if_same : (s : Side) (b : Bool) (later ends : Ends) → passed s later ≡ passed s ends + 0 → passed s (if b then later else ends) ≡ passed s ends + 0
if_same s true later ends h = h
if_same s false later ends h = omega arith

-- A copy that is told goes on counting.
pub closed_counted : (o : Option OpenCopy) → counted (closed_from o) + 0 ≡ copied_of o + 0
closed_counted None = refl
closed_counted (Some copy) = omega arith

pub changed_at : (side : Side) (edit : End → End) (view : EndsView) → changed side edit view ≡ arranged side (edit (end_at side view)) (end_at (other_side side) view)
changed_at Reader edit view = refl
changed_at Writer edit view = refl

concluded_passed : (s side : Side) (ends : Ends) → passed s (concluded side ends) ≡ passed s ends + 0
concluded_passed s side ends =
    let own : End = end_at side ends.view in
    let other : End = end_at (other_side side) ends.view in
    let P : EndsView → Type 0 = λ e. passed s (closing side (closed_from own.copy) e ends) ≡ passed s ends + 0 in
    subst P (sym (changed_at side told ends.view))
    (passed_step s side (closed_from own.copy) own other (told own) other 0 ends (arranged_is side ends.view) (closed_counted own.copy) (omega arith))

pub drop_passed : (s side : Side) (ends : Ends) → passed s (after_drop side ends) ≡ passed s ends + 0
drop_passed Reader Reader ends = omega arith
drop_passed Reader Writer ends = omega (arith, hears_count ends.view.reader)
drop_passed Writer Reader ends = omega (arith, hears_count ends.view.writer)
drop_passed Writer Writer ends = omega arith

-- An end that may be called is idle.
idle_first : (a b : Bool) → IsTrue (a && b) → IsTrue a
idle_first true b h = refl
idle_first false b h = cc

pub may_idle : (side : Side) (length : ℕ) (ends : Ends) → IsTrue (may_call side length ends) → IsTrue (is_idle (end_at side ends.view))
may_idle side length ends h = idle_first (is_idle (end_at side ends.view)) (nat_lt length (2 ^ 28)) h

-- one thing that happens, and a run
pub happens_passed : (s : Side) (ends : Ends) (act : Act) → passed s (happens ends act) ≡ passed s ends + copied_by ends act
happens_passed s ends (Call side by canon place length) =
    if_passed s (may_call side length ends) (called side (new_copy by canon place length) ends) ends (count_of (met_at side (new_copy by canon place length) ends.view).meet)
    (λ may. called_passed s side by canon place length ends (may_idle side length ends may))
happens_passed s ends (Deliver side) = if_same s (is_pending (end_at side ends.view)) (concluded side ends) ends (concluded_passed s side ends)
happens_passed s ends (Cancel side) = if_same s (is_copying (end_at side ends.view)) (concluded side ends) ends (concluded_passed s side ends)
happens_passed s ends (Drop side) = if_same s (may_drop (end_at side ends.view)) (after_drop side ends) ends (drop_passed s side ends)

pub run_passed : (s : Side) (acts : List Act) (ends : Ends) → passed s (run acts ends) ≡ passed s ends + elements acts ends
run_passed s [] ends = omega arith
run_passed s (act ∷ acts) ends = omega (arith, run_passed s acts (happens ends act), happens_passed s ends act)

new_passed : (s : Side) → passed s new_ends ≡ 0
new_passed Reader = refl
new_passed Writer = refl

pub nothing_lost : (acts : List Act) (s : Side) → passed s (run acts new_ends) ≡ elements acts new_ends
nothing_lost acts s = omega (arith, run_passed s acts new_ends, new_passed s)
