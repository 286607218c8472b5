-- Sets, and waits on them, leave the marks of gates and of sets as they are.
use Rattle.std.proofs.Common.{◌≡◌, ◌<◌, true, false, slice_set, refl, sym, ap, ◌∙◌, Some, Ok, Err}
use Rattle.std.specs.Prelude.{ℕ, ◌+◌, ◌%◌, nat_eq, nat_lt, Bool, not, ◌&&◌, if◌then◌else◌, List, [], ◌∷◌, length}
use Rattle.builtin_kinds.specs.declared.WaitOp.{WaitOp}
use Rattle.builtin_kinds.specs.declared.WaitOp.TheVariants as wait_op
use Rattle.tasks.specs.declared.event.BlockedAt.TheVariants as blocked_at
use Rattle.tasks.specs.Tasks.{is_sync}
use Rattle.instances.specs.declared.entry.WorldEntry.TheVariants as entry
use Rattle.world_parts.specs.Views.{Views}
use Rattle.trace_labels.specs.declared.label.BlockReason.TheVariants as reason
use Rattle.trace_labels.specs.declared.trap.TrapName.TheVariants as trap
use Rattle.world_parts.specs.declared.parts.Receiver.TheVariants as receiver
use Rattle.world_parts.specs.Held.{Held, Done, Gives, Traps, Stuck, after, given}
use Rattle.world_parts.specs.Feed.{got}
use Rattle.world_parts.specs.Entries.{set_found, waitable_found, entry_added, entry_removed, set_made, set_joined, set_left, set_dropped}
use Rattle.world_parts.specs.Slots.{word_in, asked}
use Rattle.world_parts.specs.Places.{memory_of, bytes_at}
use Rattle.world_parts.specs.News.{ready}
use Rattle.world_parts.specs.Events.{received_cancel, delivered_among}
use Rattle.world_parts.specs.Waits.{blocked_at_set, by_ready, joined_to, none_ready, set_drop, set_new, set_wait, waitable_join, waited}
use Rattle.std.proofs.lemmas.Bool.{ltb-true}
use Rattle.std.specs.List.{slice_get}
use Rattle.waitables.specs.Sets.{set_at, waited_on}
use Rattle.handle_table.specs.History.{most_live}
use Rattle.handle_table.specs.Slots.{count, next_of}
use Rattle.instances.specs.Entries.{set_in}
use Rattle.instances.specs.Instances as instance
use Rattle.instances.specs.Instances.{InstanceView, entry_of, with_sets}
use Rattle.tasks.specs.Tasks.{is_acting, is_asked}
use Rattle.tasks.specs.declared.event.TaskEvent.TheVariants as event
use Rattle.tasks.specs.declared.phase.Phase.TheVariants as phase
use Rattle.task_table.specs.declared.errand.Errand.TheVariants as errand
use Rattle.task_table.specs.declared.refusal.EventError.TheVariants as event_error
use Rattle.task_table.specs.declared.slot.TaskSlot.{TaskSlot}
use Rattle.task_table.specs.Slots as slots
use Rattle.task_table.specs.Slots.{event_answer, advanced_slot, at_errand}
use Rattle.trace_labels.specs.declared.label.Label.TheVariants as line
use Rattle.world_parts.specs.Calls.{blocked, blocked_in}
use Rattle.world_parts.specs.Entries.{with_instance, named}
use Rattle.world_parts.specs.Feed.{told, left_chain}
use Rattle.world_parts.specs.Slots.{with_task, happened}
use Rattle.abi_machine.proofs.sound.Found.{some_same}
use Rattle.standing.specs.KeptMarks.{runs_at, waiters_at}
use Rattle.standing.specs.MarksKept.{WaitsStay, StayBy, StandOnce, CallsIn}
use Rattle.standing.proofs.Agreeing.{get_set}
use Rattle.standing.proofs.Joining.{set_there}
use Rattle.standing.proofs.marks.Entering.{BeginsWait, wait_begins}
use Rattle.standing.proofs.marks.Inside.{same_stay, same_seen, acting_inside, acting_waits_not}
use Rattle.standing.proofs.marks.Tables.{new_set_stays, waiters_none}
use Rattle.standing.proofs.marks.Tasks.{task_stays}
use Rattle.standing.proofs.marks.Stays.{look_stays, found_stays, tested_stays, trapped_stays, stays_after, stays_further, stays_given, stays_if, stays_through}
use Rattle.standing.proofs.marks.Entries.{entry_removed_stays, set_dropped_stays, set_found_stays, set_joined_stays, set_left_stays, set_made_stays, waitable_found_stays}
use Rattle.standing.proofs.marks.Events.{delivered_among_stays, received_cancel_stays, received_none_stays}
use Rattle.standing.proofs.marks.Feed.{got_stays, told_stays, left_chain_stays}

pub set_drop_stays : (t : ℕ) (at : ℕ) (words : List ℕ) (h : Held) → StayBy h (set_drop t at words h)
unfolding set_drop
set_drop_stays t at words h =
    stays_given h (word_in words 0) (λ index. after (set_found at index h) (λ set k. after (set_dropped at set k) (λ done l. after (entry_removed at index l) (λ done m. got t [] m)))) (λ index is. stays_after h (set_found at index h) (λ set k. after (set_dropped at set k) (λ done l. after (entry_removed at index l) (λ done m. got t [] m))) (set_found_stays at index h) (λ set k. stays_after k (set_dropped at set k) (λ done l. after (entry_removed at index l) (λ done m. got t [] m)) (set_dropped_stays at set k) (λ done l. stays_after l (entry_removed at index l) (λ done m. got t [] m) (entry_removed_stays at index l) (λ done m. got_stays t [] m))))

pub joined_to_stays : (t : ℕ) (at : ℕ) (index : ℕ) (other : ℕ) (h : Held) → StayBy h (joined_to t at index other h)
unfolding joined_to
joined_to_stays t at index other h =
    stays_if h (nat_eq other 0) (after (set_left at index h) (λ done k. got t [] k)) (after (set_found at other h) (λ set k. after (set_joined at index set k) (λ done l. got t [] l))) (stays_after h (set_left at index h) (λ done k. got t [] k) (set_left_stays at index h) (λ done k. got_stays t [] k)) (stays_after h (set_found at other h) (λ set k. after (set_joined at index set k) (λ done l. got t [] l)) (set_found_stays at other h) (λ set k. stays_after k (set_joined at index set k) (λ done l. got t [] l) (set_joined_stays at index set k) (λ done l. got_stays t [] l)))

pub waitable_join_stays : (t : ℕ) (at : ℕ) (words : List ℕ) (h : Held) → StayBy h (waitable_join t at words h)
unfolding waitable_join
waitable_join_stays t at words h =
    stays_given h (word_in words 0) (λ index. given (word_in words 1) (λ other. after (waitable_found at index h) (λ there k. joined_to t at index other k))) (λ index is. stays_given h (word_in words 1) (λ other. after (waitable_found at index h) (λ there k. joined_to t at index other k)) (λ other is. stays_after h (waitable_found at index h) (λ there k. joined_to t at index other k) (waitable_found_stays at index h) (λ there k. joined_to_stays t at index other k)))

-- A new set, on which no task waits, comes to stand where no task waits.
set_added : (h : Held) (t at number : ℕ) (i j : InstanceView) → slice_get h.instances at ≡ Some i → slice_get h.instances at ≡ Some j → number ≡ length i.sets
    → waiters_at h.tasks at (next_of j.slots) ≡ 0 → WaitsStay h (with_instance at (instance.entry_added (entry.Set number) j) h)
set_added h t at number i j is js new none =
    let same : j ≡ i = some_same (sym js ∙ is) in
    let fresh : (set_at j.sets number).waiters ≡ 0 =
    ap (λ (x : InstanceView). (set_at x.sets number).waiters) same ∙ ap (λ (n : ℕ). (set_at i.sets n).waiters) new ∙ waiters_none i.sets in
    new_set_stays h at number j js fresh none

pub set_new_stays : (t at : ℕ) (h : Held) → ((i : InstanceView) → slice_get h.instances at ≡ Some i → waiters_at h.tasks at (next_of i.slots) ≡ 0) → StayBy h (set_new t at h)
unfolding set_new
set_new_stays t at h none =
    look_stays h (slice_get h.instances at) (λ i. Gives (length i.sets) h)
    (λ set k. after (entry_added at (entry.Set set) k) (λ index l. after (set_made at l) (λ number m. got t (index ∷ []) m)))
    (λ i is.
    look_stays h (slice_get h.instances at)
    (λ j. if nat_lt (count j.slots) most_live then Gives (next_of j.slots) (with_instance at (instance.entry_added (entry.Set (length i.sets)) j) h) else Traps trap.TableFull (with_instance at j h))
    (λ index l. after (set_made at l) (λ number m. got t (index ∷ []) m))
    (λ j js.
    trapped_stays h (with_instance at j h) (nat_lt (count j.slots) most_live) trap.TableFull (Gives (next_of j.slots) (with_instance at (instance.entry_added (entry.Set (length i.sets)) j) h))
    (λ index l. after (set_made at l) (λ number m. got t (index ∷ []) m))
    (made_stays t at h (with_instance at (instance.entry_added (entry.Set (length i.sets)) j) h) (next_of j.slots) (set_added h t at (length i.sets) i j is js refl (none j js)))))
  where
    made_stays : (t at : ℕ) (h k : Held) (index : ℕ) → WaitsStay h k → StayBy h (after (set_made at k) (λ number m. got t (index ∷ []) m))
    made_stays t at h k index p =
        stays_through h k (after (set_made at k) (λ number m. got t (index ∷ []) m)) p
        (stays_after k (set_made at k) (λ number m. got t (index ∷ []) m) (set_made_stays at k) (λ number m. got_stays t (index ∷ []) m))

-- A task that acts blocks.
acted_stays : {A : Type 0} (h l : Held) (t : ℕ) (b : Bool) (x y : TaskSlot) (c : Unit {0} → Held → Done A) → (b ≡ true → StayBy h (c tt (with_task t y l)))
    → StayBy h (after (happened (if b then Ok tt else Err event_error.NotNow) t (if b then y else x) l) c)
acted_stays h l t true x y c p = p refl
acted_stays h l t false x y c p = tt

at_set : ℕ → Bool → TaskSlot → TaskSlot
at_set index flag x = slots.with_task (record x.task { phase = phase.Blocked (blocked_at.Set index) flag }) x

begins_wait : (index : ℕ) (flag : Bool) (x : TaskSlot) → is_acting x.task.phase ≡ true → BeginsWait index x (at_set index flag x)
unfolding at_set
begins_wait index flag x acts = record {
  stay = same_stay x (slots.with_task (record x.task { phase = phase.Blocked (blocked_at.Set index) flag }) x) refl refl refl (sym (acting_inside x.task.phase acts));
  before = λ n. acting_waits_not n x.task.phase acts;
  now = λ n. refl;
}

-- What is asked where a task waits on a set at an index.
record WaitsThere (h : Held) (t at index set : ℕ) : Type 0 where
  stands : (i : InstanceView) → slice_get h.instances at ≡ Some i → entry_of i index ≡ Some (entry.Set set)
  once : (i : InstanceView) → slice_get h.instances at ≡ Some i → StandOnce i
  runs : (slot : TaskSlot) → slice_get h.tasks t ≡ Some slot → runs_at at slot ≡ true

-- The set is waited on, and the task, which is in a built-in, blocks there.
set_entered : (h : Held) (t at index set canon : ℕ) (flag : Bool) (i : InstanceView) (x y : TaskSlot) → slice_get h.instances at ≡ Some i → slice_get h.tasks t ≡ Some x
    → slice_get (slice_set h.tasks t (at_errand (errand.InBuiltin canon) x)) t ≡ Some y → is_acting y.task.phase ≡ true → set < length i.sets → WaitsThere h t at index set
    → WaitsStay h (with_task t (at_set index flag y) (with_task t (at_errand (errand.InBuiltin canon) x) (with_instance at (with_sets (waited_on set i.sets) i) h)))
set_entered h t at index set canon flag i x y is there found acts within w =
    let z : TaskSlot = at_errand (errand.InBuiltin canon) x in
    let same : y ≡ z = some_same (sym found ∙ get_set h.tasks t x z there) in
    let runs : runs_at at y ≡ true = ap (λ (s : TaskSlot). runs_at at s) same ∙ w.runs x there in
    stays_further h (with_task t z h) (with_task t (at_set index flag y) (with_instance at (with_sets (waited_on set i.sets) i) (with_task t z h)))
    (task_stays h t x z there (same_seen x z refl refl refl refl))
    (wait_begins (with_task t z h) t at index set i y (at_set index flag y) found is runs (begins_wait index flag y acts) within (w.stands i is) (w.once i is))

blocked_at_set_stays : (g : Views) (t at canon index set : ℕ) (h : Held) → WaitsThere h t at index set → StayBy h (blocked_at_set g t at canon index set h)
unfolding blocked_at_set blocked_in blocked at_set
blocked_at_set_stays g t at canon index set h w =
    look_stays h (slice_get h.instances at) (λ i. if nat_lt set (length i.sets) then Gives (tt {0}) (with_instance at (with_sets (waited_on set i.sets) i) h) else Stuck)
    (λ done k. blocked_in t canon (g.flag canon) (blocked_at.Set index) (reason.Wait index) k)
    (λ i is.
    tested_stays h (nat_lt set (length i.sets)) (Gives (tt {0}) (with_instance at (with_sets (waited_on set i.sets) i) h))
    (λ done k. blocked_in t canon (g.flag canon) (blocked_at.Set index) (reason.Wait index) k)
    (λ within.
    let k : Held = with_instance at (with_sets (waited_on set i.sets) i) h in
    look_stays h (slice_get h.tasks t) (λ x. Gives (tt {0}) (with_task t (at_errand (errand.InBuiltin canon) x) k))
    (λ done l. blocked t (blocked_at.Set index) (g.flag canon) (reason.Wait index) l)
    (λ x there.
    let l : Held = with_task t (at_errand (errand.InBuiltin canon) x) k in
    look_stays h (slice_get l.tasks t)
    (λ y. happened (event_answer (event.Block (blocked_at.Set index) (g.flag canon)) y.task) t (advanced_slot (event.Block (blocked_at.Set index) (g.flag canon)) y) l)
    (λ done m. after (told (line.Block t (reason.Wait index)) m) (λ done n. left_chain n))
    (λ y found.
    acted_stays h l t (is_acting y.task.phase) y (at_set index (g.flag canon) y) (λ done m. after (told (line.Block t (reason.Wait index)) m) (λ done n. left_chain n))
    (λ acts.
    let m : Held = with_task t (at_set index (g.flag canon) y) l in
    stays_through h m (after (told (line.Block t (reason.Wait index)) m) (λ done n. left_chain n))
    (set_entered h t at index set canon (g.flag canon) i x y is there found acts (ltb-true set (length i.sets) within) w)
    (stays_after m (told (line.Block t (reason.Wait index)) m) (λ done n. left_chain n) (told_stays (line.Block t (reason.Wait index)) m) (λ done n. left_chain_stays n)))))))

none_ready_stays : (g : Views) (t at canon : ℕ) (x : WaitOp) (index place set : ℕ) (h : Held) → WaitsThere h t at index set → StayBy h (none_ready g t at canon x index place set h)
none_ready_stays g t at canon wait_op.Wait index place set h w = blocked_at_set_stays g t at canon index set h w
none_ready_stays g t at canon wait_op.Poll index place set h w = received_none_stays g t (receiver.InWait canon place) h

by_ready_stays : (g : Views) (t at canon : ℕ) (op : WaitOp) (index place set : ℕ) (members : List ℕ) (h : Held) → WaitsThere h t at index set
    → StayBy h (by_ready g t at canon op index place set members h)
unfolding by_ready
by_ready_stays g t at canon op index place set members h w =
    stays_if h (nat_eq (length members) 0) (none_ready g t at canon op index place set h) (delivered_among g t at (receiver.InWait canon place) members h)
    (none_ready_stays g t at canon op index place set h w) (delivered_among_stays g t at (receiver.InWait canon place) members h)

waited_stays : (g : Views) (t at canon : ℕ) (op : WaitOp) (index place set : ℕ) (h : Held) → WaitsThere h t at index set → StayBy h (waited g t at canon op index place set h)
unfolding waited
waited_stays g t at canon op index place set h w =
    look_stays h (slice_get h.tasks t) (λ x. Gives x.task.kind h)
    (λ kind k. after (asked t k) (λ is_asked l.
    if g.flag canon && not (is_sync kind) && is_asked then received_cancel g t (receiver.InWait canon place) l else by_ready g t at canon op index place set (ready g at set l) l))
    (λ x is.
    look_stays h (slice_get h.tasks t) (λ y. Gives (is_asked y.task.cancellation) h)
    (λ is_asked l.
    if g.flag canon && not (is_sync x.task.kind) && is_asked then received_cancel g t (receiver.InWait canon place) l else by_ready g t at canon op index place set (ready g at set l) l)
    (λ y there.
    stays_if h (g.flag canon && not (is_sync x.task.kind) && is_asked y.task.cancellation) (received_cancel g t (receiver.InWait canon place) h)
    (by_ready g t at canon op index place set (ready g at set h) h) (received_cancel_stays g t (receiver.InWait canon place) h)
    (by_ready_stays g t at canon op index place set (ready g at set h) h w)))

-- The bytes for an event have room.
placed_stays : (g : Views) (t at canon : ℕ) (op : WaitOp) (index place set : ℕ) (h : Held) → WaitsThere h t at index set
    → StayBy h (if not (nat_eq (place % 4) 0) then Traps trap.Misaligned h else if nat_lt (length (bytes_at (memory_of (g.options canon) h) h.store)) (place + 8) then Traps trap.Bounds h else waited g t at canon op index place set h)
placed_stays g t at canon op index place set h w =
    stays_if h (not (nat_eq (place % 4) 0)) (Traps trap.Misaligned h)
    (if nat_lt (length (bytes_at (memory_of (g.options canon) h) h.store)) (place + 8) then Traps trap.Bounds h else waited g t at canon op index place set h) tt
    (stays_if h (nat_lt (length (bytes_at (memory_of (g.options canon) h) h.store)) (place + 8)) (Traps trap.Bounds h) (waited g t at canon op index place set h) tt
    (waited_stays g t at canon op index place set h w))

pub set_wait_stays : (g : Views) (t at canon : ℕ) (op : WaitOp) (words : List ℕ) (h : Held) → CallsIn h t at → StayBy h (set_wait g t at canon op words h)
unfolding set_wait
set_wait_stays g t at canon op words h own =
    stays_given h (word_in words 0)
    (λ index. given (word_in words 1) (λ place. after (set_found at index h) (λ set k.
    if not (nat_eq (place % 4) 0) then Traps trap.Misaligned k else if nat_lt (length (bytes_at (memory_of (g.options canon) k) k.store)) (place + 8) then Traps trap.Bounds k else waited g t at canon op index place set k)))
    (λ index first.
    stays_given h (word_in words 1)
    (λ place. after (set_found at index h) (λ set k.
    if not (nat_eq (place % 4) 0) then Traps trap.Misaligned k else if nat_lt (length (bytes_at (memory_of (g.options canon) k) k.store)) (place + 8) then Traps trap.Bounds k else waited g t at canon op index place set k))
    (λ place next.
    look_stays h (slice_get h.instances at) (λ i. named (set_in (entry_of i index)) h)
    (λ set k.
    if not (nat_eq (place % 4) 0) then Traps trap.Misaligned k else if nat_lt (length (bytes_at (memory_of (g.options canon) k) k.store)) (place + 8) then Traps trap.Bounds k else waited g t at canon op index place set k)
    (λ i is.
    found_stays h (set_in (entry_of i index))
    (λ set k.
    if not (nat_eq (place % 4) 0) then Traps trap.Misaligned k else if nat_lt (length (bytes_at (memory_of (g.options canon) k) k.store)) (place + 8) then Traps trap.Bounds k else waited g t at canon op index place set k)
    (λ set found.
    placed_stays g t at canon op index place set h
    (record {
      stands = λ j there. ap (λ (z : InstanceView). entry_of z index) (some_same (sym there ∙ is)) ∙ set_there (entry_of i index) set found;
      once = λ j there. own.sets j there;
      runs = λ slot there. own.caller slot there;
    })))))
