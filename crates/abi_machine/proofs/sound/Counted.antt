-- The counts of copies add up, and so they stay.
use Rattle.std.proofs.Common.{◌≡◌, ◌-◌, ◌+◌, ℕ, min, Bool, true, false, nat_lt, List, [], ◌++◌, length, refl, sym, ap, ◌∙◌, subst, arith, Option, Some, None, if◌then◌else◌}
use Rattle.std.proofs.lemmas.List.{length-append}
use Rattle.syntax_trees.specs.declared.types.ValType.{ValType}
use Rattle.syntax_trees.specs.declared.value.Value.{Value}
use Rattle.builtin_kinds.specs.declared.EndKind.{EndKind}
use Rattle.builtin_kinds.specs.declared.EndKind.TheVariants.{Stream, Future}
use Rattle.stream_ends.specs.declared.side.Side.{Side}
use Rattle.stream_ends.specs.declared.side.Side.TheVariants.{Reader, Writer}
use Rattle.stream_ends.specs.declared.open_copy.By.{By}
use Rattle.stream_ends.specs.declared.open_copy.By.TheVariants as by
use Rattle.stream_ends.specs.declared.open_copy.CopyResult.TheVariants.{Completed, Dropped as OtherWent}
use Rattle.stream_ends.specs.declared.open_copy.OpenCopy.{OpenCopy}
use Rattle.stream_ends.specs.declared.stream_end.End.{End}
use Rattle.stream_ends.specs.declared.meet.Meet.TheVariants.{Copies, Dropped, Displaces, ZeroDone, NothingNow}
use Rattle.stream_ends.specs.Ends.{EndsView, Ends, end_at, other_side, arranged, new_copy, standing_of, copied_of, leaves, grown}
use Rattle.stream_ends.specs.Ends as stream_ends
use Rattle.stream_ends.specs.Meeting.{Meeting, met, met_offer, met_full, room_meet, is_empty_pair, with_offer, made_done, after_copy}
use Rattle.stream_ends.specs.Closed.{closing, closed_at_once, closed_as, closed_from, new_ends}
use Rattle.stream_ends.specs.Closed as stream
use Rattle.stream_ends.specs.Runs.{passed}
use Rattle.stream_ends.proofs.Meetings.{if_holds, standing_is}
use Rattle.stream_ends.proofs.Counting.{arranged_is, passed_step, copied_at, grown_count, leaves_count, closed_counted, changed_at as changed_ends, drop_passed}
use Rattle.future_ends.specs.declared.meet.Meet.TheVariants as future_case
use Rattle.future_ends.specs.Meeting as future_meeting
use Rattle.future_ends.specs.Closed as future
use Rattle.future_ends.proofs.Meetings as future_meetings
use Rattle.comp_graph.specs.Graph.{Graph}
use Rattle.script_reader.specs.Script.{Script}
use Rattle.abi_machine.specs.Control.{EndRef}
use Rattle.abi_machine.specs.World.{Channel, World, new_channel}
use Rattle.abi_machine.specs.Edits.{with_channel, channel_made, carried, offered_by, transferred_by, transferred, concluded_by}
use Rattle.abi_machine.specs.sound.Changes.{Change, GoesTo, HasStore, SpendsUnit, UsesPicks, TakesItem, BeginsInstance, AddsEntry, MakesSet, RemovesEntry, RemovesWaitable, LeavesSet, JoinsSet, HasBackpressure, IsCalled, Calls, ComesBack, Acts, Begins, Cancels, Blocks, Exits, IsRemoved, Resolves, IsCancelled, HasWord, HasNewStack, HasStack, LosesStack, IsAnswered, IsTold, IsLent, HasResult, MakesChannel, Offers, Transfers, Concludes, DropsEnd, after}
use Rattle.abi_machine.specs.sound.Premises.{IsSizeIn, IsCall, Comes}
use Rattle.abi_machine.specs.sound.Agreeing.{IsDue, IsDueAt, channel_in}
use Rattle.abi_machine.specs.sound.Copies.{IsCopied}
use Rattle.abi_machine.specs.sound.Counts.{AddsUp, CountsAddUp, FirstAddsUp, CountsStay}
use Rattle.abi_machine.proofs.sound.Lists.{all_more}
use Rattle.abi_machine.proofs.sound.Copied.{IsSoundOf, numbered_changed, sound_there, end_there, due_there, channel_twice, copied_kept}
use Rattle.abi_machine.proofs.sound.Meetings.{bare_is}
use Rattle.abi_machine.proofs.sound.Alone.{kept_so}

-- A read or write at a stream counts nothing.

abbrev Stays : Side → Side → ℕ → Ends → Meeting → Type 0
Stays s side size ends m = passed s (closing side (closed_at_once size m.meet) (arranged side m.own m.other) ends) ≡ passed s ends + 0

room_stays : (s side : Side) (size : ℕ) (own other : End) (n : ℕ) (b : Bool) (ends : Ends) → ends.view ≡ arranged side own other
    → Stays s side size ends (record { meet = if b then Copies n else NothingNow; own = own; other = other })
room_stays s side size own other n true ends v = passed_step s side [] own other own other 0 ends v (omega arith) (omega arith)
room_stays s side size own other n false ends v = passed_step s side (closed_as size Completed 0) own other own other 0 ends v (omega arith) (omega arith)

offer_stays : (s side : Side) (of_task : By) (canon place size : ℕ) (own other : End) (o : Option OpenCopy) (ends : Ends) → standing_of other.copy ≡ o → ends.view ≡ arranged side (record own { copy = None }) other
    → Stays s side size ends (met_offer side (new_copy of_task canon place size) (record own { copy = None }) other o)
offer_stays s side of_task canon place size own other None ends h v =
    let bare : End = record own { copy = None } in
    passed_step s side [] bare other (with_offer (new_copy of_task canon place size) bare) other 0 ends v refl (omega arith)
offer_stays s side of_task canon place size own other (Some offer) ends h v =
    let bare : End = record own { copy = None } in
    let call : OpenCopy = new_copy of_task canon place size in
    if_holds (Stays s side size ends) (nat_lt offer.copied offer.length) (record { meet = room_meet call offer; own = bare; other = other }) (met_full side call bare other offer)
    (λ _. room_stays s side size bare other (min (offer.length - offer.copied) size) (nat_lt 0 size) ends v)
    (λ _.
    if_holds (Stays s side size ends) (is_empty_pair side call offer) (record { meet = ZeroDone; own = bare; other = other }) (record { meet = Displaces; own = with_offer call bare; other = leaves other })
    (λ _. passed_step s side (closed_as size Completed 0) bare other bare other 0 ends v refl (omega arith))
    (λ _. passed_step s side [] bare other (with_offer call bare) (leaves other) 0 ends v refl (omega (arith, leaves_count other))))

bare_stays : (s side : Side) (of_task : By) (canon place size : ℕ) (own other : End) (ends : Ends) → ends.view ≡ arranged side (record own { copy = None }) other
    → Stays s side size ends (met side (new_copy of_task canon place size) (record own { copy = None }) other)
unfolding met
bare_stays s side of_task canon place size own other ends v =
    let bare : End = record own { copy = None } in
    if_holds (Stays s side size ends) other.dropped (record { meet = Dropped; own = made_done bare; other = other }) (met_offer side (new_copy of_task canon place size) bare other (standing_of other.copy))
    (λ _. passed_step s side (closed_as size OtherWent 0) bare other (made_done bare) other 0 ends v refl (omega arith))
    (λ _. offer_stays s side of_task canon place size own other (standing_of other.copy) ends refl v)

stream_offer : (s side : Side) (of_task : By) (canon place size : ℕ) (ends : Ends) → (end_at side ends.view).copy ≡ None → passed s (stream.offered side (new_copy of_task canon place size) ends) ≡ passed s ends + 0
stream_offer s side of_task canon place size ends quiet =
    let own : End = end_at side ends.view in
    let other : End = end_at (other_side side) ends.view in
    let P : End → Type 0 = λ e. ends.view ≡ arranged side e other → Stays s side size ends (met side (new_copy of_task canon place size) e other) in
    subst P (bare_is own quiet) (bare_stays s side of_task canon place size own other ends) (arranged_is side ends.view)

-- So many elements go over: both ends count them.

quiet_arranged : (side : Side) (view : EndsView) → (end_at side view).copy ≡ None → view ≡ arranged side (record (end_at side view) { copy = None }) (end_at (other_side side) view)
quiet_arranged side view quiet = arranged_is side view ∙ ap (λ (e : End). arranged side e (end_at (other_side side) view)) (sym (bare_is (end_at side view) quiet))

stream_moves : (s side : Side) (size count : ℕ) (ends : Ends) (offer : OpenCopy) → (end_at side ends.view).copy ≡ None → standing_of (end_at (other_side side) ends.view).copy ≡ Some offer
    → passed s (stream.transferred side size count ends) ≡ passed s ends + count
stream_moves s side size count ends offer quiet h =
    let own : End = end_at side ends.view in
    let other : End = end_at (other_side side) ends.view in
    let bare : End = record own { copy = None } in
    let v : ends.view ≡ arranged side bare other = quiet_arranged side ends.view quiet in
    subst (λ (view : EndsView). passed s (closing side (closed_as size Completed count) view ends) ≡ passed s ends + count) (sym (ap (after_copy count) v ∙ copied_at side count own other offer h))
    (passed_step s side (closed_as size Completed count) bare other bare (grown count other) count ends v (omega arith) (grown_count count other offer h))

-- The same of a future, which has one value.

abbrev StaysOne : Side → Side → End → Ends → future_meeting.Meeting → Type 0
StaysOne s side other ends m = passed s (closing side (future.closed_at_once m.meet) (arranged side m.own other) ends) ≡ passed s ends + 0

future_offer_stays : (s side : Side) (of_task : By) (canon place : ℕ) (own other : End) (o : Option OpenCopy) (ends : Ends) → ends.view ≡ arranged side (record own { copy = None }) other
    → StaysOne s side other ends (future_meeting.met_offer (new_copy of_task canon place 1) (record own { copy = None }) o)
future_offer_stays s side of_task canon place own other None ends v =
    let bare : End = record own { copy = None } in
    passed_step s side [] bare other (with_offer (new_copy of_task canon place 1) bare) other 0 ends v refl (omega arith)
future_offer_stays s side of_task canon place own other (Some offer) ends v =
    let bare : End = record own { copy = None } in passed_step s side [] bare other bare other 0 ends v refl (omega arith)

future_bare_stays : (s side : Side) (of_task : By) (canon place : ℕ) (own other : End) (ends : Ends) → ends.view ≡ arranged side (record own { copy = None }) other
    → StaysOne s side other ends (future_meeting.met (new_copy of_task canon place 1) (record own { copy = None }) other)
unfolding future_meeting.met
future_bare_stays s side of_task canon place own other ends v =
    let bare : End = record own { copy = None } in
    future_meetings.if_holds (StaysOne s side other ends) other.dropped (record { meet = future_case.Dropped; own = made_done bare })
    (future_meeting.met_offer (new_copy of_task canon place 1) bare (standing_of other.copy)) (passed_step s side (closed_as 1 OtherWent 0) bare other (made_done bare) other 0 ends v refl (omega arith))
    (future_offer_stays s side of_task canon place own other (standing_of other.copy) ends v)

future_offer : (s side : Side) (of_task : By) (canon place : ℕ) (ends : Ends) → (end_at side ends.view).copy ≡ None → passed s (future.offered side (new_copy of_task canon place 1) ends) ≡ passed s ends + 0
future_offer s side of_task canon place ends quiet =
    let own : End = end_at side ends.view in
    let other : End = end_at (other_side side) ends.view in
    subst (λ (e : End). StaysOne s side other ends (future_meeting.met (new_copy of_task canon place 1) e other)) (bare_is own quiet)
    (future_bare_stays s side of_task canon place own other ends (quiet_arranged side ends.view quiet))

value_counted : (e : End) (copy : OpenCopy) → standing_of e.copy ≡ Some copy → copied_of (standing_of e.copy) ≡ 0 → copied_of (future_meeting.taken e).copy ≡ copied_of e.copy + 1
value_counted e copy h fresh =
    let same : copied_of e.copy ≡ copy.copied = ap copied_of (standing_is e.copy copy h) in
    let none : copy.copied ≡ 0 = sym (ap copied_of h) ∙ fresh in
    rw (h, same, none) refl

value_at : (side : Side) (own other : End) (copy : OpenCopy) → standing_of other.copy ≡ Some copy
    → future_meeting.after_copy (arranged side (record own { copy = None }) other) ≡ arranged side (made_done (record own { copy = None })) (future_meeting.taken other)
value_at Reader own other copy h = refl
value_at Writer own other copy h = rw (h, h) refl

future_moves : (s side : Side) (ends : Ends) (offer : OpenCopy) → (end_at side ends.view).copy ≡ None → standing_of (end_at (other_side side) ends.view).copy ≡ Some offer
    → copied_of (standing_of (end_at (other_side side) ends.view).copy) ≡ 0 → passed s (future.transferred side ends) ≡ passed s ends + 1
future_moves s side ends offer quiet h fresh =
    let own : End = end_at side ends.view in
    let other : End = end_at (other_side side) ends.view in
    let bare : End = record own { copy = None } in
    let v : ends.view ≡ arranged side bare other = quiet_arranged side ends.view quiet in
    subst (λ (view : EndsView). passed s (closing side (closed_as 1 Completed 1) view ends) ≡ passed s ends + 1) (sym (ap future_meeting.after_copy v ∙ value_at side own other offer h))
    (passed_step s side (closed_as 1 Completed 1) bare other (made_done bare) (future_meeting.taken other) 1 ends v (omega arith) (value_counted other offer h fresh))

-- A copy is told.
conclude_stays : (kind : EndKind) (s side : Side) (ends : Ends) → passed s (concluded_by kind side ends) ≡ passed s ends + 0
conclude_stays Stream s side ends =
    let own : End = end_at side ends.view in
    subst (λ (view : EndsView). passed s (closing side (closed_from own.copy) view ends) ≡ passed s ends + 0) (sym (changed_ends side stream_ends.told ends.view))
    (passed_step s side (closed_from own.copy) own (end_at (other_side side) ends.view) (stream_ends.told own) (end_at (other_side side) ends.view) 0 ends (arranged_is side ends.view) (closed_counted own.copy) (omega arith))
conclude_stays Future s side ends =
    let own : End = end_at side ends.view in
    subst (λ (view : EndsView). passed s (closing side (closed_from own.copy) view ends) ≡ passed s ends + 0) (sym (changed_ends side future_meeting.told ends.view))
    (passed_step s side (closed_from own.copy) own (end_at (other_side side) ends.view) (future_meeting.told own) (end_at (other_side side) ends.view) 0 ends (arranged_is side ends.view) (closed_counted own.copy)
    (omega arith))

-- Streams and futures that are changed.

adds_up : (c : Channel) (ends : Ends) → ((s : Side) → passed s ends ≡ passed s c.ends + 0) → AddsUp c → AddsUp (record c { ends = ends })
adds_up c ends step h s = (let same : passed s ends ≡ passed s c.ends + 0 = step s in let was : passed s c.ends ≡ length c.written = h s in omega (arith, same, was))

counts_changed : (kind : EndKind) (number : ℕ) (f : Channel → Channel) (w : World) → ((c : Channel) → channel_in kind number w.streams w.futures ≡ Some c → AddsUp c → AddsUp (f c)) → CountsAddUp w
    → CountsAddUp (with_channel kind number f w)
counts_changed Stream number f w keeps h = record { of_streams = numbered_changed AddsUp number f w.streams keeps h.of_streams; of_futures = h.of_futures }
counts_changed Future number f w keeps h = record { of_streams = h.of_streams; of_futures = numbered_changed AddsUp number f w.futures keeps h.of_futures }

none_passed : (element : Option ValType) → AddsUp (new_channel element)
none_passed element Reader = refl
none_passed element Writer = refl

counts_made : (kind : EndKind) (element : Option ValType) (w : World) → CountsAddUp w → CountsAddUp (channel_made kind element w)
counts_made Stream element w h = record { of_streams = all_more AddsUp w.streams (new_channel element) h.of_streams (none_passed element); of_futures = h.of_futures }
counts_made Future element w h = record { of_streams = h.of_streams; of_futures = all_more AddsUp w.futures (new_channel element) h.of_futures (none_passed element) }

offer_adds : (kind : EndKind) (side : Side) (task canon place size : ℕ) (c : Channel) → IsSizeIn kind size → (end_at side c.ends.view).copy ≡ None
    → (s : Side) → passed s (offered_by kind side (new_copy (by.Task task) canon place size) c.ends) ≡ passed s c.ends + 0
offer_adds Stream side task canon place size c fits quiet s = stream_offer s side (by.Task task) canon place size c.ends quiet
offer_adds Future side task canon place size c fits quiet s =
    subst (λ (n : ℕ). passed s (offered_by Future side (new_copy (by.Task task) canon place n) c.ends) ≡ passed s c.ends + 0) (sym fits) (future_offer s side (by.Task task) canon place c.ends quiet)

call_adds : (g : Graph) (w : World) (e : EndRef) (call : OpenCopy) (c : Channel) → IsCall g w e call → channel_in e.kind e.number w.streams w.futures ≡ Some c
    → (s : Side) → passed s (offered_by e.kind e.side call c.ends) ≡ passed s c.ends + 0
call_adds g w e call c may there s =
    subst (λ (x : OpenCopy). passed s (offered_by e.kind e.side x c.ends) ≡ passed s c.ends + 0) (sym may.is)
    (offer_adds e.kind e.side may.task may.canon may.place may.size c may.fits (ap (λ (x : End). x.copy) (sym (end_there w e c there)) ∙ may.quiet) s)

-- the offer that stands at a future has nothing copied
fresh_at : (side : Side) (view : EndsView) → future_meeting.Sound view → copied_of (standing_of (end_at side view).copy) ≡ 0
fresh_at Reader view sound = sound.reader.fresh
fresh_at Writer view sound = sound.writer.fresh

transfer_adds : (kind : EndKind) (side : Side) (size count : ℕ) (c : Channel) → IsDue kind side count c.ends.view → IsSoundOf kind c.ends.view
    → (s : Side) → passed s (transferred_by kind side size count c.ends) ≡ passed s c.ends + count
transfer_adds Stream side size count c due sound s = stream_moves s side size count c.ends due.offer due.quiet due.stands
transfer_adds Future side size count c due sound s =
    subst (λ (n : ℕ). passed s (future.transferred side c.ends) ≡ passed s c.ends + n) (sym due.room)
    (future_moves s side c.ends due.offer due.quiet due.stands (fresh_at (other_side side) c.ends.view sound))

transferred_adds : (e : EndRef) (size : ℕ) (values : List (Option Value)) (w : World) → IsDueAt e (length values) w.streams w.futures → IsCopied w → CountsAddUp w → CountsAddUp (transferred e size values w)
transferred_adds e size values w may sound h =
    let completes : Channel → Channel = λ c. record c { ends = transferred_by e.kind e.side size (length values) c.ends } in
    subst CountsAddUp (sym (channel_twice e.kind e.number (carried values) completes w))
    (counts_changed e.kind e.number (λ c. completes (carried values c)) w
    (λ c there k s.
    let step : passed s (transferred_by e.kind e.side size (length values) c.ends) ≡ passed s c.ends + length values =
    transfer_adds e.kind e.side size (length values) c (due_there w e (length values) c there may) (sound_there e.kind e.number c w there sound) s in
    let was : passed s c.ends ≡ length c.written = k s in
    let longer : length (c.written ++ values) ≡ length c.written + length values = length-append c.written values in
    omega (arith, step, was, longer)) h)

abbrev Kept : World → Type 0
Kept w = IsCopied w × CountsAddUp w

counted_kept : (g : Graph) (s : Script) (c : Change) (w : World) → Comes g s c w → Kept w → CountsAddUp (after c w)
counted_kept g s (MakesChannel kind element) w may h = counts_made kind element w h.1
counted_kept g s (Offers e call) w may h = counts_changed e.kind e.number _ w (λ c there k. adds_up c (offered_by e.kind e.side call c.ends) (call_adds g w e call c may there) k) h.1
counted_kept g s (Transfers e size values) w may h = transferred_adds e size values w may h.0 h.1
counted_kept g s (Concludes e) w may h = counts_changed e.kind e.number _ w (λ c there k. adds_up c (concluded_by e.kind e.side c.ends) (λ s. conclude_stays e.kind s e.side c.ends) k) h.1
counted_kept g s (DropsEnd e) w may h = counts_changed e.kind e.number _ w (λ c there k. adds_up c (stream.after_drop e.side c.ends) (λ s. drop_passed s e.side c.ends) k) h.1
counted_kept g s (GoesTo control) w may h = h.1
counted_kept g s (HasStore store) w may h = h.1
counted_kept g s SpendsUnit w may h = h.1
counted_kept g s (UsesPicks picks) w may h = h.1
counted_kept g s TakesItem w may h = h.1
counted_kept g s BeginsInstance w may h = h.1
counted_kept g s (AddsEntry i entry) w may h = h.1
counted_kept g s (MakesSet i set) w may h = h.1
counted_kept g s (RemovesEntry i index) w may h = h.1
counted_kept g s (RemovesWaitable i index) w may h = h.1
counted_kept g s (LeavesSet i index) w may h = h.1
counted_kept g s (JoinsSet i index set) w may h = h.1
counted_kept g s (HasBackpressure i pressure) w may h = h.1
counted_kept g s (IsCalled callee call values) w may h = h.1
counted_kept g s (Calls number callee subtask words) w may h = h.1
counted_kept g s (ComesBack t) w may h = h.1
counted_kept g s (Acts t) w may h = h.1
counted_kept g s (Begins n) w may h = h.1
counted_kept g s (Cancels t callee number words) w may h = h.1
counted_kept g s (Blocks t state) w may h = h.1
counted_kept g s (Exits t) w may h = h.1
counted_kept g s (IsRemoved t) w may h = h.1
counted_kept g s (Resolves t resolution) w may h = h.1
counted_kept g s (IsCancelled t cancellation) w may h = h.1
counted_kept g s (HasWord t slot word) w may h = h.1
counted_kept g s (HasNewStack t k) w may h = h.1
counted_kept g s (HasStack t k) w may h = h.1
counted_kept g s (LosesStack t) w may h = h.1
counted_kept g s (IsAnswered t words) w may h = h.1
counted_kept g s (IsTold t state) w may h = h.1
counted_kept g s (IsLent t handle) w may h = h.1
counted_kept g s (HasResult t words) w may h = h.1

pub first_adds_up : FirstAddsUp
first_adds_up g = record { of_streams = tt; of_futures = tt }

pub counts_stay : CountsStay
counts_stay g s w v labels alone sound h e =
    (kept_so g s Kept (λ c u may k. (copied_kept g s c u may k.0, counted_kept g s c u may k)) w v labels alone (sound, h) e).1
