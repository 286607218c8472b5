-- Sets, and waits on them, leave marks of handles and subtasks as they follow from tables and tasks.
use Rattle.std.proofs.Common.{◌≡◌, refl, sym, ap, ◌∙◌}
use Rattle.std.specs.Prelude.{ℕ, ◌+◌, ◌%◌, nat_eq, nat_lt, not, ◌&&◌, if◌then◌else◌, List, [], ◌∷◌, length, Option, Some, None, Result, Ok, Err}
use Rattle.std.specs.List.{slice_get}
use Rattle.builtin_kinds.specs.declared.WaitOp.{WaitOp}
use Rattle.builtin_kinds.specs.declared.WaitOp.TheVariants as wait_op
use Rattle.tasks.specs.declared.event.BlockedAt.TheVariants as blocked_at
use Rattle.tasks.specs.Tasks.{is_sync, is_asked}
use Rattle.instances.specs.declared.entry.WorldEntry.{WorldEntry}
use Rattle.instances.specs.declared.entry.WorldEntry.TheVariants as entry
use Rattle.instances.specs.declared.refusal.DropSetError.{DropSetError}
use Rattle.instances.specs.declared.refusal.DropSetError.TheVariants as drop_error
use Rattle.instances.specs.Entries.{set_in}
use Rattle.instances.specs.Calls.{dropped_set}
use Rattle.instances.specs.Instances.{InstanceView, entry_of}
use Rattle.trace_labels.specs.declared.label.BlockReason.TheVariants as reason
use Rattle.trace_labels.specs.declared.trap.TrapName.TheVariants as trap
use Rattle.world_parts.specs.Views.{Views}
use Rattle.world_parts.specs.declared.parts.Receiver.TheVariants as receiver
use Rattle.world_parts.specs.Held.{Held, Gives, Traps, after, given}
use Rattle.world_parts.specs.Feed.{got}
use Rattle.world_parts.specs.Entries.{with_instance, named, set_found, waitable_found, entry_added, entry_removed, set_made, set_joined, set_left, set_waited_on, set_gone, set_dropped}
use Rattle.world_parts.specs.Slots.{word_in, asked}
use Rattle.world_parts.specs.Places.{memory_of, bytes_at}
use Rattle.world_parts.specs.News.{ready}
use Rattle.world_parts.specs.Calls.{blocked_in}
use Rattle.world_parts.specs.Events.{received_cancel, delivered_among}
use Rattle.world_parts.specs.Waits.{blocked_at_set, by_ready, joined_to, none_ready, set_drop, set_new, set_wait, waitable_join, waited}
use Rattle.abi_machine.proofs.sound.Found.{some_same}
use Rattle.standing.specs.KeptMarks.{is_borrow_of}
use Rattle.standing.proofs.marks.Tables.{put_same}
use Rattle.run_laws.specs.keeping.Kept.{TableIsSound, SubtasksAreOwn, ToldGaveBack, AskedAreOpen}
use Rattle.run_laws.proofs.keeping.Others.{KeptBy, keeps_after, keeps_given, keeps_if, keeps_through, look_keeps, found_keeps, traps_same}
use Rattle.run_laws.proofs.keeping.Changes.{same_keeps}
use Rattle.run_laws.proofs.keeping.parts.Calls.{blocked_in_keeps}
use Rattle.run_laws.proofs.keeping.parts.Entries.{NotBorrow, other_added_keeps, entry_removed_keeps, set_found_keeps, set_joined_keeps, set_left_keeps, set_made_keeps, set_waited_on_keeps, waitable_found_keeps}
use Rattle.run_laws.proofs.keeping.parts.Events.{delivered_among_keeps, received_cancel_keeps, received_none_keeps}
use Rattle.run_laws.proofs.keeping.parts.Feed.{got_keeps}

pub set_new_keeps : (t at : ℕ) (h : Held) → TableIsSound h at → KeptBy h (set_new t at h)
unfolding set_new
set_new_keeps t at h sound =
    look_keeps h (slice_get h.instances at) (λ i. Gives (length i.sets) h)
    (λ set k. after (entry_added at (entry.Set set) k) (λ index l. after (set_made at l) (λ number m. got t (index ∷ []) m)))
    (λ i is.
    keeps_after h (entry_added at (entry.Set (length i.sets)) h) (λ index l. after (set_made at l) (λ number m. got t (index ∷ []) m))
    (other_added_keeps at (entry.Set (length i.sets)) h tt sound)
    (λ index l. keeps_after l (set_made at l) (λ number m. got t (index ∷ []) m) (set_made_keeps at l) (λ number m. got_keeps t (index ∷ []) m)))

-- The set that is dropped stood at the index.
pub set_stands : (o : Option WorldEntry) (set : ℕ) → set_in o ≡ Ok set → o ≡ Some (entry.Set set)
set_stands None set e = absurd (cc)
set_stands (Some (entry.Handle x)) set e = absurd (cc)
set_stands (Some (entry.Subtask callee)) set e = absurd (cc)
set_stands (Some (entry.Set other)) set e = (let same : other ≡ set = cc in ap (λ (n : ℕ). Some (entry.Set n)) same)
set_stands (Some (entry.End x)) set e = absurd (cc)

dropped_set_keeps : (t at index : ℕ) (r : Result (Unit {0}) DropSetError) (k : Held) → NotBorrow k at index
    → KeptBy k (after (set_gone r k) (λ done l. after (entry_removed at index l) (λ done m. got t [] m)))
dropped_set_keeps t at index (Ok done) k none =
    keeps_after k (entry_removed at index k) (λ done m. got t [] m) (entry_removed_keeps at index k none) (λ done m. got_keeps t [] m)
dropped_set_keeps t at index (Err drop_error.NoSet) k none = tt
dropped_set_keeps t at index (Err (drop_error.Refused why)) k none = traps_same k

pub set_drop_keeps : (t at : ℕ) (words : List ℕ) (h : Held) → KeptBy h (set_drop t at words h)
unfolding set_drop
set_drop_keeps t at words h =
    keeps_given h (word_in words 0)
    (λ index. after (set_found at index h) (λ set k. after (set_dropped at set k) (λ done l. after (entry_removed at index l) (λ done m. got t [] m))))
    (λ index word.
    look_keeps h (slice_get h.instances at) (λ i. named (set_in (entry_of i index)) h)
    (λ set k. after (set_dropped at set k) (λ done l. after (entry_removed at index l) (λ done m. got t [] m)))
    (λ i is.
    found_keeps h (set_in (entry_of i index)) (λ set k. after (set_dropped at set k) (λ done l. after (entry_removed at index l) (λ done m. got t [] m)))
    (λ set found.
    look_keeps h (slice_get h.instances at) (λ j. set_gone (dropped_set set j.sets) (with_instance at j h)) (λ done l. after (entry_removed at index l) (λ done m. got t [] m))
    (λ j js.
    let k : Held = with_instance at j h in
    keeps_through h k (after (set_gone (dropped_set set j.sets) k) (λ done l. after (entry_removed at index l) (λ done m. got t [] m))) (same_keeps h at j j js refl)
    (dropped_set_keeps t at index (dropped_set set j.sets) k
    (λ x there n.
    let one : x ≡ j = put_same h.instances at at j j x js there refl in
    let two : j ≡ i = some_same (sym js ∙ is) in
    ap (λ (y : InstanceView). is_borrow_of n (entry_of y index)) (one ∙ two) ∙ ap (is_borrow_of n) (set_stands (entry_of i index) set found)))))))

pub joined_to_keeps : (t at index other : ℕ) (h : Held) → KeptBy h (joined_to t at index other h)
unfolding joined_to
joined_to_keeps t at index other h =
    keeps_if h (nat_eq other 0) (after (set_left at index h) (λ done k. got t [] k)) (after (set_found at other h) (λ set k. after (set_joined at index set k) (λ done l. got t [] l)))
    (keeps_after h (set_left at index h) (λ done k. got t [] k) (set_left_keeps at index h) (λ done k. got_keeps t [] k))
    (keeps_after h (set_found at other h) (λ set k. after (set_joined at index set k) (λ done l. got t [] l)) (set_found_keeps at other h)
    (λ set k. keeps_after k (set_joined at index set k) (λ done l. got t [] l) (set_joined_keeps at index set k) (λ done l. got_keeps t [] l)))

pub waitable_join_keeps : (t at : ℕ) (words : List ℕ) (h : Held) → KeptBy h (waitable_join t at words h)
unfolding waitable_join
waitable_join_keeps t at words h =
    keeps_given h (word_in words 0) (λ index. given (word_in words 1) (λ other. after (waitable_found at index h) (λ there k. joined_to t at index other k)))
    (λ index is.
    keeps_given h (word_in words 1) (λ other. after (waitable_found at index h) (λ there k. joined_to t at index other k))
    (λ other is.
    keeps_after h (waitable_found at index h) (λ there k. joined_to t at index other k) (waitable_found_keeps at index h) (λ there k. joined_to_keeps t at index other k)))

blocked_at_set_keeps : (g : Views) (t at canon index set : ℕ) (h : Held) → KeptBy h (blocked_at_set g t at canon index set h)
unfolding blocked_at_set
blocked_at_set_keeps g t at canon index set h =
    keeps_after h (set_waited_on at set h) (λ done k. blocked_in t canon (g.flag canon) (blocked_at.Set index) (reason.Wait index) k) (set_waited_on_keeps at set h)
    (λ done k. blocked_in_keeps t canon (g.flag canon) (blocked_at.Set index) (reason.Wait index) k tt)

none_ready_keeps : (g : Views) (t at canon : ℕ) (op : WaitOp) (index place set : ℕ) (h : Held) → KeptBy h (none_ready g t at canon op index place set h)
none_ready_keeps g t at canon wait_op.Wait index place set h = blocked_at_set_keeps g t at canon index set h
none_ready_keeps g t at canon wait_op.Poll index place set h = received_none_keeps g t (receiver.InWait canon place) h

by_ready_keeps : (g : Views) (t at canon : ℕ) (op : WaitOp) (index place set : ℕ) (members : List ℕ) (h : Held) → SubtasksAreOwn h at → ToldGaveBack h
    → KeptBy h (by_ready g t at canon op index place set members h)
unfolding by_ready
by_ready_keeps g t at canon op index place set members h own gave =
    keeps_if h (nat_eq (length members) 0) (none_ready g t at canon op index place set h) (delivered_among g t at (receiver.InWait canon place) members h)
    (none_ready_keeps g t at canon op index place set h) (delivered_among_keeps g t at (receiver.InWait canon place) members h own gave)

waited_keeps : (g : Views) (t at canon : ℕ) (op : WaitOp) (index place set : ℕ) (h : Held) → SubtasksAreOwn h at → ToldGaveBack h → AskedAreOpen h
    → KeptBy h (waited g t at canon op index place set h)
unfolding waited
waited_keeps g t at canon op index place set h own gave still =
    look_keeps h (slice_get h.tasks t) (λ x. Gives x.task.kind h)
    (λ kind k. after (asked t k) (λ is_asked l.
    if g.flag canon && not (is_sync kind) && is_asked then received_cancel g t (receiver.InWait canon place) l else by_ready g t at canon op index place set (ready g at set l) l))
    (λ x is.
    look_keeps h (slice_get h.tasks t) (λ y. Gives (is_asked y.task.cancellation) h)
    (λ is_asked l.
    if g.flag canon && not (is_sync x.task.kind) && is_asked then received_cancel g t (receiver.InWait canon place) l else by_ready g t at canon op index place set (ready g at set l) l)
    (λ y there.
    keeps_if h (g.flag canon && not (is_sync x.task.kind) && is_asked y.task.cancellation) (received_cancel g t (receiver.InWait canon place) h)
    (by_ready g t at canon op index place set (ready g at set h) h) (received_cancel_keeps g t (receiver.InWait canon place) h still)
    (by_ready_keeps g t at canon op index place set (ready g at set h) h own gave)))

-- The bytes for an event have room.
placed_keeps : (g : Views) (t at canon : ℕ) (op : WaitOp) (index place set : ℕ) (h : Held) → SubtasksAreOwn h at → ToldGaveBack h → AskedAreOpen h
    → KeptBy h (if not (nat_eq (place % 4) 0) then Traps trap.Misaligned h else if nat_lt (length (bytes_at (memory_of (g.options canon) h) h.store)) (place + 8) then Traps trap.Bounds h else waited g t at canon op index place set h)
placed_keeps g t at canon op index place set h own gave still =
    keeps_if h (not (nat_eq (place % 4) 0)) (Traps trap.Misaligned h)
    (if nat_lt (length (bytes_at (memory_of (g.options canon) h) h.store)) (place + 8) then Traps trap.Bounds h else waited g t at canon op index place set h) (traps_same h)
    (keeps_if h (nat_lt (length (bytes_at (memory_of (g.options canon) h) h.store)) (place + 8)) (Traps trap.Bounds h) (waited g t at canon op index place set h) (traps_same h)
    (waited_keeps g t at canon op index place set h own gave still))

pub set_wait_keeps : (g : Views) (t at canon : ℕ) (op : WaitOp) (words : List ℕ) (h : Held) → SubtasksAreOwn h at → ToldGaveBack h → AskedAreOpen h
    → KeptBy h (set_wait g t at canon op words h)
unfolding set_wait
set_wait_keeps g t at canon op words h own gave still =
    keeps_given h (word_in words 0)
    (λ index. given (word_in words 1) (λ place. after (set_found at index h) (λ set k.
    if not (nat_eq (place % 4) 0) then Traps trap.Misaligned k else if nat_lt (length (bytes_at (memory_of (g.options canon) k) k.store)) (place + 8) then Traps trap.Bounds k else waited g t at canon op index place set k)))
    (λ index first.
    keeps_given h (word_in words 1)
    (λ place. after (set_found at index h) (λ set k.
    if not (nat_eq (place % 4) 0) then Traps trap.Misaligned k else if nat_lt (length (bytes_at (memory_of (g.options canon) k) k.store)) (place + 8) then Traps trap.Bounds k else waited g t at canon op index place set k))
    (λ place next.
    look_keeps h (slice_get h.instances at) (λ i. named (set_in (entry_of i index)) h)
    (λ set k.
    if not (nat_eq (place % 4) 0) then Traps trap.Misaligned k else if nat_lt (length (bytes_at (memory_of (g.options canon) k) k.store)) (place + 8) then Traps trap.Bounds k else waited g t at canon op index place set k)
    (λ i is.
    found_keeps h (set_in (entry_of i index))
    (λ set k.
    if not (nat_eq (place % 4) 0) then Traps trap.Misaligned k else if nat_lt (length (bytes_at (memory_of (g.options canon) k) k.store)) (place + 8) then Traps trap.Bounds k else waited g t at canon op index place set k)
    (λ set found. placed_keeps g t at canon op index place set h own gave still))))
