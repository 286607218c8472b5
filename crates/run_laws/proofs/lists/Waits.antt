-- Sets, and waits on them: lists of tasks stay as they follow from the tasks.
use Rattle.std.proofs.Common.{refl}
use Rattle.std.specs.Prelude.{ℕ, ◌+◌, ◌%◌, nat_eq, nat_lt, not, ◌&&◌, if◌then◌else◌, List, [], ◌∷◌, length}
use Rattle.builtin_kinds.specs.declared.WaitOp.{WaitOp}
use Rattle.builtin_kinds.specs.declared.WaitOp.TheVariants as wait_op
use Rattle.tasks.specs.declared.event.BlockedAt.TheVariants as blocked_at
use Rattle.tasks.specs.Tasks.{is_sync}
use Rattle.instances.specs.declared.entry.WorldEntry.TheVariants as entry
use Rattle.world_parts.specs.Views.{Views}
use Rattle.trace_labels.specs.declared.label.BlockReason.TheVariants as reason
use Rattle.trace_labels.specs.declared.trap.TrapName.TheVariants as trap
use Rattle.world_parts.specs.declared.parts.Receiver.TheVariants as receiver
use Rattle.world_parts.specs.Held.{Held, Traps, after, given}
use Rattle.world_parts.specs.Feed.{got}
use Rattle.world_parts.specs.Entries.{set_found, waitable_found, entry_added, entry_removed, sets_made, set_made, set_joined, set_left, set_dropped, set_waited_on}
use Rattle.world_parts.specs.Slots.{word_in, kind_of, asked}
use Rattle.world_parts.specs.Places.{memory_of, bytes_at}
use Rattle.world_parts.specs.Calls.{blocked_in}
use Rattle.world_parts.specs.News.{ready}
use Rattle.world_parts.specs.Events.{received_cancel, delivered_among}
use Rattle.world_parts.specs.Waits.{blocked_at_set, by_ready, joined_to, none_ready, set_drop, set_new, set_wait, waitable_join, waited}
use Rattle.run_laws.proofs.lists.Calls.{blocked_in_lists}
use Rattle.run_laws.proofs.lists.Entries.{entry_added_lists, entry_removed_lists, set_dropped_lists, set_found_lists, set_joined_lists, set_left_lists, set_made_lists, set_waited_on_lists, sets_made_lists, waitable_found_lists}
use Rattle.run_laws.proofs.lists.Events.{delivered_among_lists, received_cancel_lists, received_none_lists}
use Rattle.run_laws.proofs.lists.Feed.{got_lists}
use Rattle.run_laws.proofs.lists.Slots.{asked_lists, kind_of_lists}
use Rattle.run_laws.proofs.lists.Same.{ListsBy, lists_after, lists_given, lists_if}

pub set_new_lists : (t : ℕ) (at : ℕ) (h : Held) → ListsBy h (set_new t at h)
unfolding set_new
set_new_lists t at h =
    lists_after h (sets_made at h) (λ set k. after (entry_added at (entry.Set set) k) (λ index l. after (set_made at l) (λ number m. got t (index ∷ []) m))) (sets_made_lists at h) (λ set k. lists_after k (entry_added at (entry.Set set) k) (λ index l. after (set_made at l) (λ number m. got t (index ∷ []) m)) (entry_added_lists at (entry.Set set) k) (λ index l. lists_after l (set_made at l) (λ number m. got t (index ∷ []) m) (set_made_lists at l) (λ number m. got_lists t (index ∷ []) m)))

pub set_drop_lists : (t : ℕ) (at : ℕ) (words : List ℕ) (h : Held) → ListsBy h (set_drop t at words h)
unfolding set_drop
set_drop_lists t at words h =
    lists_given h (word_in words 0) (λ index. after (set_found at index h) (λ set k. after (set_dropped at set k) (λ done l. after (entry_removed at index l) (λ done m. got t [] m)))) (λ index is. lists_after h (set_found at index h) (λ set k. after (set_dropped at set k) (λ done l. after (entry_removed at index l) (λ done m. got t [] m))) (set_found_lists at index h) (λ set k. lists_after k (set_dropped at set k) (λ done l. after (entry_removed at index l) (λ done m. got t [] m)) (set_dropped_lists at set k) (λ done l. lists_after l (entry_removed at index l) (λ done m. got t [] m) (entry_removed_lists at index l) (λ done m. got_lists t [] m))))

pub joined_to_lists : (t : ℕ) (at : ℕ) (index : ℕ) (other : ℕ) (h : Held) → ListsBy h (joined_to t at index other h)
unfolding joined_to
joined_to_lists t at index other h =
    lists_if h (nat_eq other 0) (after (set_left at index h) (λ done k. got t [] k)) (after (set_found at other h) (λ set k. after (set_joined at index set k) (λ done l. got t [] l))) (lists_after h (set_left at index h) (λ done k. got t [] k) (set_left_lists at index h) (λ done k. got_lists t [] k)) (lists_after h (set_found at other h) (λ set k. after (set_joined at index set k) (λ done l. got t [] l)) (set_found_lists at other h) (λ set k. lists_after k (set_joined at index set k) (λ done l. got t [] l) (set_joined_lists at index set k) (λ done l. got_lists t [] l)))

pub waitable_join_lists : (t : ℕ) (at : ℕ) (words : List ℕ) (h : Held) → ListsBy h (waitable_join t at words h)
unfolding waitable_join
waitable_join_lists t at words h =
    lists_given h (word_in words 0) (λ index. given (word_in words 1) (λ other. after (waitable_found at index h) (λ there k. joined_to t at index other k))) (λ index is. lists_given h (word_in words 1) (λ other. after (waitable_found at index h) (λ there k. joined_to t at index other k)) (λ other is. lists_after h (waitable_found at index h) (λ there k. joined_to t at index other k) (waitable_found_lists at index h) (λ there k. joined_to_lists t at index other k)))

pub blocked_at_set_lists : (g : Views) (t : ℕ) (at : ℕ) (canon : ℕ) (index : ℕ) (set : ℕ) (h : Held) → ListsBy h (blocked_at_set g t at canon index set h)
unfolding blocked_at_set
blocked_at_set_lists g t at canon index set h =
    lists_after h (set_waited_on at set h) (λ done k. blocked_in t canon (g.flag canon) (blocked_at.Set index) (reason.Wait index) k) (set_waited_on_lists at set h) (λ done k. blocked_in_lists t canon (g.flag canon) (blocked_at.Set index) (reason.Wait index) k refl)

pub none_ready_lists : (g : Views) (t : ℕ) (at : ℕ) (canon : ℕ) (x : WaitOp) (index : ℕ) (place : ℕ) (set : ℕ) (h : Held) → ListsBy h (none_ready g t at canon x index place set h)
none_ready_lists g t at canon wait_op.Wait index place set h =
    blocked_at_set_lists g t at canon index set h
none_ready_lists g t at canon wait_op.Poll index place set h =
    received_none_lists g t (receiver.InWait canon place) h

pub by_ready_lists : (g : Views) (t : ℕ) (at : ℕ) (canon : ℕ) (op : WaitOp) (index : ℕ) (place : ℕ) (set : ℕ) (members : List ℕ) (h : Held) → ListsBy h (by_ready g t at canon op index place set members h)
unfolding by_ready
by_ready_lists g t at canon op index place set members h =
    lists_if h (nat_eq (length members) 0) (none_ready g t at canon op index place set h) (delivered_among g t at (receiver.InWait canon place) members h) (none_ready_lists g t at canon op index place set h) (delivered_among_lists g t at (receiver.InWait canon place) members h)

pub waited_lists : (g : Views) (t : ℕ) (at : ℕ) (canon : ℕ) (op : WaitOp) (index : ℕ) (place : ℕ) (set : ℕ) (h : Held) → ListsBy h (waited g t at canon op index place set h)
unfolding waited
waited_lists g t at canon op index place set h =
    lists_after h (kind_of t h) (λ kind k. after (asked t k) (λ is_asked l. if g.flag canon && not (is_sync kind) && is_asked then received_cancel g t (receiver.InWait canon place) l else by_ready g t at canon op index place set (ready g at set l) l)) (kind_of_lists t h) (λ kind k. lists_after k (asked t k) (λ is_asked l. if g.flag canon && not (is_sync kind) && is_asked then received_cancel g t (receiver.InWait canon place) l else by_ready g t at canon op index place set (ready g at set l) l) (asked_lists t k) (λ is_asked l. lists_if l (g.flag canon && not (is_sync kind) && is_asked) (received_cancel g t (receiver.InWait canon place) l) (by_ready g t at canon op index place set (ready g at set l) l) (received_cancel_lists g t (receiver.InWait canon place) l) (by_ready_lists g t at canon op index place set (ready g at set l) l)))

pub set_wait_lists : (g : Views) (t : ℕ) (at : ℕ) (canon : ℕ) (op : WaitOp) (words : List ℕ) (h : Held) → ListsBy h (set_wait g t at canon op words h)
unfolding set_wait
set_wait_lists g t at canon op words h =
    lists_given h (word_in words 0) (λ index. given (word_in words 1) (λ place. after (set_found at index h) (λ set k. if not (nat_eq (place % 4) 0) then Traps trap.Misaligned k else if nat_lt (length (bytes_at (memory_of (g.options canon) k) k.store)) (place + 8) then Traps trap.Bounds k else waited g t at canon op index place set k))) (λ index is. lists_given h (word_in words 1) (λ place. after (set_found at index h) (λ set k. if not (nat_eq (place % 4) 0) then Traps trap.Misaligned k else if nat_lt (length (bytes_at (memory_of (g.options canon) k) k.store)) (place + 8) then Traps trap.Bounds k else waited g t at canon op index place set k)) (λ place is. lists_after h (set_found at index h) (λ set k. if not (nat_eq (place % 4) 0) then Traps trap.Misaligned k else if nat_lt (length (bytes_at (memory_of (g.options canon) k) k.store)) (place + 8) then Traps trap.Bounds k else waited g t at canon op index place set k) (set_found_lists at index h) (λ set k. lists_if k (not (nat_eq (place % 4) 0)) (Traps trap.Misaligned k) (if nat_lt (length (bytes_at (memory_of (g.options canon) k) k.store)) (place + 8) then Traps trap.Bounds k else waited g t at canon op index place set k) tt (lists_if k (nat_lt (length (bytes_at (memory_of (g.options canon) k) k.store)) (place + 8)) (Traps trap.Bounds k) (waited g t at canon op index place set k) tt (waited_lists g t at canon op index place set k)))))
