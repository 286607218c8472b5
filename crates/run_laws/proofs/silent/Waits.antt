-- Sets, and waits on them: no event is to come next.
use Rattle.std.specs.Prelude.{ℕ, ◌+◌, ◌%◌, nat_eq, nat_lt, not, ◌&&◌, if◌then◌else◌, List, [], ◌∷◌, length}
use Rattle.builtin_kinds.specs.declared.WaitOp.{WaitOp}
use Rattle.builtin_kinds.specs.declared.WaitOp.TheVariants as wait_op
use Rattle.tasks.specs.declared.event.BlockedAt.TheVariants as blocked_at
use Rattle.tasks.specs.Tasks.{is_sync}
use Rattle.instances.specs.declared.entry.WorldEntry.TheVariants as entry
use Rattle.world_parts.specs.Views.{Views}
use Rattle.trace_labels.specs.declared.label.BlockReason.TheVariants as reason
use Rattle.trace_labels.specs.declared.trap.TrapName.TheVariants as trap
use Rattle.world_parts.specs.declared.parts.Receiver.TheVariants as receiver
use Rattle.world_parts.specs.Held.{Held, Traps, after, given}
use Rattle.world_parts.specs.Feed.{got}
use Rattle.world_parts.specs.Entries.{set_found, waitable_found, entry_added, entry_removed, sets_made, set_made, set_joined, set_left, set_dropped, set_waited_on}
use Rattle.world_parts.specs.Slots.{word_in, kind_of, asked}
use Rattle.world_parts.specs.Places.{memory_of, bytes_at}
use Rattle.world_parts.specs.Calls.{blocked_in}
use Rattle.world_parts.specs.News.{ready}
use Rattle.world_parts.specs.Events.{received_cancel, delivered_among}
use Rattle.world_parts.specs.Waits.{blocked_at_set, by_ready, joined_to, none_ready, set_drop, set_new, set_wait, waitable_join, waited}
use Rattle.run_laws.proofs.silent.Calls.{blocked_in_silent}
use Rattle.run_laws.proofs.silent.Events.{delivered_among_silent, received_cancel_silent, received_none_silent}
use Rattle.run_laws.proofs.silent.Feed.{got_silent}
use Rattle.run_laws.proofs.silent.Silent.{SilentBy, silent_after, silent_given, silent_if}

pub set_new_silent : (t : ℕ) (at : ℕ) (h : Held) → SilentBy (set_new t at h)
unfolding set_new
set_new_silent t at h =
    silent_after (sets_made at h) (λ set k. after (entry_added at (entry.Set set) k) (λ index l. after (set_made at l) (λ number m. got t (index ∷ []) m))) (λ set k. silent_after (entry_added at (entry.Set set) k) (λ index l. after (set_made at l) (λ number m. got t (index ∷ []) m)) (λ index l. silent_after (set_made at l) (λ number m. got t (index ∷ []) m) (λ number m. got_silent t (index ∷ []) m)))

pub set_drop_silent : (t : ℕ) (at : ℕ) (words : List ℕ) (h : Held) → SilentBy (set_drop t at words h)
unfolding set_drop
set_drop_silent t at words h =
    silent_given (word_in words 0) (λ index. after (set_found at index h) (λ set k. after (set_dropped at set k) (λ done l. after (entry_removed at index l) (λ done m. got t [] m)))) (λ index is. silent_after (set_found at index h) (λ set k. after (set_dropped at set k) (λ done l. after (entry_removed at index l) (λ done m. got t [] m))) (λ set k. silent_after (set_dropped at set k) (λ done l. after (entry_removed at index l) (λ done m. got t [] m)) (λ done l. silent_after (entry_removed at index l) (λ done m. got t [] m) (λ done m. got_silent t [] m))))

pub joined_to_silent : (t : ℕ) (at : ℕ) (index : ℕ) (other : ℕ) (h : Held) → SilentBy (joined_to t at index other h)
unfolding joined_to
joined_to_silent t at index other h =
    silent_if (nat_eq other 0) (after (set_left at index h) (λ done k. got t [] k)) (after (set_found at other h) (λ set k. after (set_joined at index set k) (λ done l. got t [] l))) (silent_after (set_left at index h) (λ done k. got t [] k) (λ done k. got_silent t [] k)) (silent_after (set_found at other h) (λ set k. after (set_joined at index set k) (λ done l. got t [] l)) (λ set k. silent_after (set_joined at index set k) (λ done l. got t [] l) (λ done l. got_silent t [] l)))

pub waitable_join_silent : (t : ℕ) (at : ℕ) (words : List ℕ) (h : Held) → SilentBy (waitable_join t at words h)
unfolding waitable_join
waitable_join_silent t at words h =
    silent_given (word_in words 0) (λ index. given (word_in words 1) (λ other. after (waitable_found at index h) (λ there k. joined_to t at index other k))) (λ index is. silent_given (word_in words 1) (λ other. after (waitable_found at index h) (λ there k. joined_to t at index other k)) (λ other is. silent_after (waitable_found at index h) (λ there k. joined_to t at index other k) (λ there k. joined_to_silent t at index other k)))

pub blocked_at_set_silent : (g : Views) (t : ℕ) (at : ℕ) (canon : ℕ) (index : ℕ) (set : ℕ) (h : Held) → SilentBy (blocked_at_set g t at canon index set h)
unfolding blocked_at_set
blocked_at_set_silent g t at canon index set h =
    silent_after (set_waited_on at set h) (λ done k. blocked_in t canon (g.flag canon) (blocked_at.Set index) (reason.Wait index) k) (λ done k. blocked_in_silent t canon (g.flag canon) (blocked_at.Set index) (reason.Wait index) k)

pub none_ready_silent : (g : Views) (t : ℕ) (at : ℕ) (canon : ℕ) (x : WaitOp) (index : ℕ) (place : ℕ) (set : ℕ) (h : Held) → SilentBy (none_ready g t at canon x index place set h)
none_ready_silent g t at canon wait_op.Wait index place set h =
    blocked_at_set_silent g t at canon index set h
none_ready_silent g t at canon wait_op.Poll index place set h =
    received_none_silent g t (receiver.InWait canon place) h

pub by_ready_silent : (g : Views) (t : ℕ) (at : ℕ) (canon : ℕ) (op : WaitOp) (index : ℕ) (place : ℕ) (set : ℕ) (members : List ℕ) (h : Held) → SilentBy (by_ready g t at canon op index place set members h)
unfolding by_ready
by_ready_silent g t at canon op index place set members h =
    silent_if (nat_eq (length members) 0) (none_ready g t at canon op index place set h) (delivered_among g t at (receiver.InWait canon place) members h) (none_ready_silent g t at canon op index place set h) (delivered_among_silent g t at (receiver.InWait canon place) members h)

pub waited_silent : (g : Views) (t : ℕ) (at : ℕ) (canon : ℕ) (op : WaitOp) (index : ℕ) (place : ℕ) (set : ℕ) (h : Held) → SilentBy (waited g t at canon op index place set h)
unfolding waited
waited_silent g t at canon op index place set h =
    silent_after (kind_of t h) (λ kind k. after (asked t k) (λ is_asked l. if g.flag canon && not (is_sync kind) && is_asked then received_cancel g t (receiver.InWait canon place) l else by_ready g t at canon op index place set (ready g at set l) l)) (λ kind k. silent_after (asked t k) (λ is_asked l. if g.flag canon && not (is_sync kind) && is_asked then received_cancel g t (receiver.InWait canon place) l else by_ready g t at canon op index place set (ready g at set l) l) (λ is_asked l. silent_if (g.flag canon && not (is_sync kind) && is_asked) (received_cancel g t (receiver.InWait canon place) l) (by_ready g t at canon op index place set (ready g at set l) l) (received_cancel_silent g t (receiver.InWait canon place) l) (by_ready_silent g t at canon op index place set (ready g at set l) l)))

pub set_wait_silent : (g : Views) (t : ℕ) (at : ℕ) (canon : ℕ) (op : WaitOp) (words : List ℕ) (h : Held) → SilentBy (set_wait g t at canon op words h)
unfolding set_wait
set_wait_silent g t at canon op words h =
    silent_given (word_in words 0) (λ index. given (word_in words 1) (λ place. after (set_found at index h) (λ set k. if not (nat_eq (place % 4) 0) then Traps trap.Misaligned k else if nat_lt (length (bytes_at (memory_of (g.options canon) k) k.store)) (place + 8) then Traps trap.Bounds k else waited g t at canon op index place set k))) (λ index is. silent_given (word_in words 1) (λ place. after (set_found at index h) (λ set k. if not (nat_eq (place % 4) 0) then Traps trap.Misaligned k else if nat_lt (length (bytes_at (memory_of (g.options canon) k) k.store)) (place + 8) then Traps trap.Bounds k else waited g t at canon op index place set k)) (λ place is. silent_after (set_found at index h) (λ set k. if not (nat_eq (place % 4) 0) then Traps trap.Misaligned k else if nat_lt (length (bytes_at (memory_of (g.options canon) k) k.store)) (place + 8) then Traps trap.Bounds k else waited g t at canon op index place set k) (λ set k. silent_if (not (nat_eq (place % 4) 0)) (Traps trap.Misaligned k) (if nat_lt (length (bytes_at (memory_of (g.options canon) k) k.store)) (place + 8) then Traps trap.Bounds k else waited g t at canon op index place set k) tt (silent_if (nat_lt (length (bytes_at (memory_of (g.options canon) k) k.store)) (place + 8)) (Traps trap.Bounds k) (waited g t at canon op index place set k) tt (waited_silent g t at canon op index place set k)))))
