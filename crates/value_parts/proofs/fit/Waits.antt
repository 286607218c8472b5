-- Sets, and waits on them, keep stacks typed, and no handle is lent more often.
use Rattle.std.proofs.Common.{◌≡◌, refl, Some}
use Rattle.std.specs.Prelude.{ℕ, ◌+◌, ◌%◌, nat_eq, nat_lt, Bool, not, ◌&&◌, if◌then◌else◌, List, [], ◌∷◌, length}
use Rattle.builtin_kinds.specs.declared.WaitOp.{WaitOp}
use Rattle.builtin_kinds.specs.declared.WaitOp.TheVariants as wait_op
use Rattle.tasks.specs.declared.event.BlockedAt.TheVariants as blocked_at
use Rattle.tasks.specs.Tasks.{is_sync}
use Rattle.instances.specs.declared.entry.WorldEntry.TheVariants as entry
use Rattle.world_parts.specs.Views.{Views}
use Rattle.trace_labels.specs.declared.label.BlockReason.TheVariants as reason
use Rattle.trace_labels.specs.declared.trap.TrapName.TheVariants as trap
use Rattle.world_parts.specs.declared.parts.Receiver.TheVariants as receiver
use Rattle.world_parts.specs.declared.parts.Flow.{Flow}
use Rattle.world_parts.specs.Held.{Held, Done, Traps, after, given}
use Rattle.world_parts.specs.Feed.{got}
use Rattle.world_parts.specs.Entries.{set_found, waitable_found, entry_added, entry_removed, sets_made, set_made, set_joined, set_left, set_dropped, set_waited_on}
use Rattle.world_parts.specs.Slots.{word_in, kind_of, asked}
use Rattle.world_parts.specs.Places.{memory_of, bytes_at}
use Rattle.world_parts.specs.Calls.{blocked_in}
use Rattle.world_parts.specs.News.{ready}
use Rattle.world_parts.specs.Events.{received_none, received_cancel, delivered_among}
use Rattle.world_parts.specs.Waits.{blocked_at_set, by_ready, joined_to, none_ready, set_drop, set_new, set_wait, waitable_join, waited}
use Rattle.value_parts.proofs.fit.Keeps.{Keeps, KeepsBy, keeps_after, keeps_given, keeps_if, keeps_same, keeps_all, keeps_from, keeps_instance}
use Rattle.value_parts.proofs.fit.Calls.{blocked_in_keeps}
use Rattle.value_parts.proofs.fit.Entries.{entry_added_keeps, entry_removed_keeps, set_dropped_keeps, set_found_keeps, set_joined_keeps, set_left_keeps, set_made_keeps, set_waited_on_keeps, sets_made_keeps, waitable_found_keeps}
use Rattle.value_parts.proofs.fit.Events.{delivered_among_keeps, received_cancel_keeps, received_none_keeps}
use Rattle.value_parts.proofs.fit.Feed.{got_keeps}
use Rattle.value_parts.proofs.fit.Slots.{asked_keeps, kind_of_keeps}

pub set_new_keeps : (t : ℕ) (at : ℕ) (h : Held) → KeepsBy h (set_new t at h)
unfolding set_new
set_new_keeps t at h =
    keeps_after h (sets_made at h) (λ set k. after (entry_added at (entry.Set set) k) (λ index l. after (set_made at l) (λ number m. got t (index ∷ []) m))) (sets_made_keeps at h) (λ set k. keeps_after k (entry_added at (entry.Set set) k) (λ index l. after (set_made at l) (λ number m. got t (index ∷ []) m)) (entry_added_keeps at (entry.Set set) k refl) (λ index l. keeps_after l (set_made at l) (λ number m. got t (index ∷ []) m) (set_made_keeps at l) (λ number m. got_keeps t (index ∷ []) m)))

pub set_drop_keeps : (t : ℕ) (at : ℕ) (words : List ℕ) (h : Held) → KeepsBy h (set_drop t at words h)
unfolding set_drop
set_drop_keeps t at words h =
    keeps_given h (word_in words 0) (λ index. after (set_found at index h) (λ set k. after (set_dropped at set k) (λ done l. after (entry_removed at index l) (λ done m. got t [] m)))) (λ index is. keeps_after h (set_found at index h) (λ set k. after (set_dropped at set k) (λ done l. after (entry_removed at index l) (λ done m. got t [] m))) (set_found_keeps at index h) (λ set k. keeps_after k (set_dropped at set k) (λ done l. after (entry_removed at index l) (λ done m. got t [] m)) (set_dropped_keeps at set k) (λ done l. keeps_after l (entry_removed at index l) (λ done m. got t [] m) (entry_removed_keeps at index l) (λ done m. got_keeps t [] m))))

pub joined_to_keeps : (t : ℕ) (at : ℕ) (index : ℕ) (other : ℕ) (h : Held) → KeepsBy h (joined_to t at index other h)
unfolding joined_to
joined_to_keeps t at index other h =
    keeps_if h (nat_eq other 0) (after (set_left at index h) (λ done k. got t [] k)) (after (set_found at other h) (λ set k. after (set_joined at index set k) (λ done l. got t [] l))) (keeps_after h (set_left at index h) (λ done k. got t [] k) (set_left_keeps at index h) (λ done k. got_keeps t [] k)) (keeps_after h (set_found at other h) (λ set k. after (set_joined at index set k) (λ done l. got t [] l)) (set_found_keeps at other h) (λ set k. keeps_after k (set_joined at index set k) (λ done l. got t [] l) (set_joined_keeps at index set k) (λ done l. got_keeps t [] l)))

pub waitable_join_keeps : (t : ℕ) (at : ℕ) (words : List ℕ) (h : Held) → KeepsBy h (waitable_join t at words h)
unfolding waitable_join
waitable_join_keeps t at words h =
    keeps_given h (word_in words 0) (λ index. given (word_in words 1) (λ other. after (waitable_found at index h) (λ there k. joined_to t at index other k))) (λ index is. keeps_given h (word_in words 1) (λ other. after (waitable_found at index h) (λ there k. joined_to t at index other k)) (λ other is. keeps_after h (waitable_found at index h) (λ there k. joined_to t at index other k) (waitable_found_keeps at index h) (λ there k. joined_to_keeps t at index other k)))

pub blocked_at_set_keeps : (g : Views) (t : ℕ) (at : ℕ) (canon : ℕ) (index : ℕ) (set : ℕ) (h : Held) → KeepsBy h (blocked_at_set g t at canon index set h)
unfolding blocked_at_set
blocked_at_set_keeps g t at canon index set h =
    keeps_after h (set_waited_on at set h) (λ done k. blocked_in t canon (g.flag canon) (blocked_at.Set index) (reason.Wait index) k) (set_waited_on_keeps at set h) (λ done k. blocked_in_keeps t canon (g.flag canon) (blocked_at.Set index) (reason.Wait index) k)

pub none_ready_keeps : (g : Views) (t : ℕ) (at : ℕ) (canon : ℕ) (x : WaitOp) (index : ℕ) (place : ℕ) (set : ℕ) (h : Held) → KeepsBy h (none_ready g t at canon x index place set h)
none_ready_keeps g t at canon wait_op.Wait index place set h =
    blocked_at_set_keeps g t at canon index set h
none_ready_keeps g t at canon wait_op.Poll index place set h =
    received_none_keeps g t (receiver.InWait canon place) h

pub by_ready_keeps : (g : Views) (t : ℕ) (at : ℕ) (canon : ℕ) (op : WaitOp) (index : ℕ) (place : ℕ) (set : ℕ) (members : List ℕ) (h : Held) → KeepsBy h (by_ready g t at canon op index place set members h)
unfolding by_ready
by_ready_keeps g t at canon op index place set members h =
    keeps_if h (nat_eq (length members) 0) (none_ready g t at canon op index place set h) (delivered_among g t at (receiver.InWait canon place) members h) (none_ready_keeps g t at canon op index place set h) (delivered_among_keeps g t at (receiver.InWait canon place) members h)

pub waited_keeps : (g : Views) (t : ℕ) (at : ℕ) (canon : ℕ) (op : WaitOp) (index : ℕ) (place : ℕ) (set : ℕ) (h : Held) → KeepsBy h (waited g t at canon op index place set h)
unfolding waited
waited_keeps g t at canon op index place set h =
    keeps_after h (kind_of t h) (λ kind k. after (asked t k) (λ is_asked l. if g.flag canon && not (is_sync kind) && is_asked then received_cancel g t (receiver.InWait canon place) l else by_ready g t at canon op index place set (ready g at set l) l)) (kind_of_keeps t h) (λ kind k. keeps_after k (asked t k) (λ is_asked l. if g.flag canon && not (is_sync kind) && is_asked then received_cancel g t (receiver.InWait canon place) l else by_ready g t at canon op index place set (ready g at set l) l) (asked_keeps t k) (λ is_asked l. keeps_if l (g.flag canon && not (is_sync kind) && is_asked) (received_cancel g t (receiver.InWait canon place) l) (by_ready g t at canon op index place set (ready g at set l) l) (received_cancel_keeps g t (receiver.InWait canon place) l) (by_ready_keeps g t at canon op index place set (ready g at set l) l)))

pub set_wait_keeps : (g : Views) (t : ℕ) (at : ℕ) (canon : ℕ) (op : WaitOp) (words : List ℕ) (h : Held) → KeepsBy h (set_wait g t at canon op words h)
unfolding set_wait
set_wait_keeps g t at canon op words h =
    keeps_given h (word_in words 0) (λ index. given (word_in words 1) (λ place. after (set_found at index h) (λ set k. if not (nat_eq (place % 4) 0) then Traps trap.Misaligned k else if nat_lt (length (bytes_at (memory_of (g.options canon) k) k.store)) (place + 8) then Traps trap.Bounds k else waited g t at canon op index place set k))) (λ index is. keeps_given h (word_in words 1) (λ place. after (set_found at index h) (λ set k. if not (nat_eq (place % 4) 0) then Traps trap.Misaligned k else if nat_lt (length (bytes_at (memory_of (g.options canon) k) k.store)) (place + 8) then Traps trap.Bounds k else waited g t at canon op index place set k)) (λ place is. keeps_after h (set_found at index h) (λ set k. if not (nat_eq (place % 4) 0) then Traps trap.Misaligned k else if nat_lt (length (bytes_at (memory_of (g.options canon) k) k.store)) (place + 8) then Traps trap.Bounds k else waited g t at canon op index place set k) (set_found_keeps at index h) (λ set k. keeps_if k (not (nat_eq (place % 4) 0)) (Traps trap.Misaligned k) (if nat_lt (length (bytes_at (memory_of (g.options canon) k) k.store)) (place + 8) then Traps trap.Bounds k else waited g t at canon op index place set k) tt (keeps_if k (nat_lt (length (bytes_at (memory_of (g.options canon) k) k.store)) (place + 8)) (Traps trap.Bounds k) (waited g t at canon op index place set k) tt (waited_keeps g t at canon op index place set k)))))
