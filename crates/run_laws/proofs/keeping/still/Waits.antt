-- Sets, and waits on them, keep memories, core instances and ends as they are kept.
use Rattle.std.proofs.Common.{refl}
use Rattle.std.specs.Prelude.{ℕ, ◌+◌, ◌%◌, nat_eq, nat_lt, not, ◌&&◌, if◌then◌else◌, List, [], ◌∷◌, length}
use Rattle.builtin_kinds.specs.declared.WaitOp.{WaitOp}
use Rattle.builtin_kinds.specs.declared.WaitOp.TheVariants as wait_op
use Rattle.tasks.specs.declared.event.BlockedAt.TheVariants as blocked_at
use Rattle.tasks.specs.Tasks.{is_sync}
use Rattle.instances.specs.declared.entry.WorldEntry.TheVariants as entry
use Rattle.world_parts.specs.Views.{Views}
use Rattle.trace_labels.specs.declared.label.BlockReason.TheVariants as reason
use Rattle.trace_labels.specs.declared.trap.TrapName.TheVariants as trap
use Rattle.world_parts.specs.declared.parts.Receiver.TheVariants as receiver
use Rattle.world_parts.specs.Held.{Held, Traps, after, given}
use Rattle.world_parts.specs.Feed.{got}
use Rattle.world_parts.specs.Entries.{set_found, waitable_found, entry_added, entry_removed, sets_made, set_made, set_joined, set_left, set_dropped, set_waited_on}
use Rattle.world_parts.specs.Slots.{word_in, kind_of, asked}
use Rattle.world_parts.specs.Places.{memory_of, bytes_at}
use Rattle.world_parts.specs.Calls.{blocked_in}
use Rattle.world_parts.specs.News.{ready}
use Rattle.world_parts.specs.Events.{received_cancel, delivered_among}
use Rattle.world_parts.specs.Waits.{blocked_at_set, by_ready, joined_to, none_ready, set_drop, set_new, set_wait, waitable_join, waited}
use Rattle.run_laws.proofs.keeping.still.Still.{Kinds, StillBy, still_after, still_given, still_if}
use Rattle.run_laws.proofs.keeping.still.Calls.{blocked_in_still}
use Rattle.run_laws.proofs.keeping.still.Entries.{entry_added_still, entry_removed_still, set_dropped_still, set_found_still, set_joined_still, set_left_still, set_made_still, set_waited_on_still, sets_made_still, waitable_found_still}
use Rattle.run_laws.proofs.keeping.still.Events.{delivered_among_still, received_cancel_still, received_none_still}
use Rattle.run_laws.proofs.keeping.still.Feed.{got_still}
use Rattle.run_laws.proofs.keeping.still.Slots.{asked_still, kind_of_still}

pub set_new_still : (W : Kinds) → (t : ℕ) (at : ℕ) (h : Held) → StillBy W h (set_new t at h)
unfolding set_new
set_new_still W t at h =
    still_after W h (sets_made at h) (λ set k. after (entry_added at (entry.Set set) k) (λ index l. after (set_made at l) (λ number m. got t (index ∷ []) m))) (sets_made_still W at h) (λ set k. still_after W k (entry_added at (entry.Set set) k) (λ index l. after (set_made at l) (λ number m. got t (index ∷ []) m)) (entry_added_still W at (entry.Set set) k refl) (λ index l. still_after W l (set_made at l) (λ number m. got t (index ∷ []) m) (set_made_still W at l) (λ number m. got_still W t (index ∷ []) m)))

pub set_drop_still : (W : Kinds) → (t : ℕ) (at : ℕ) (words : List ℕ) (h : Held) → StillBy W h (set_drop t at words h)
unfolding set_drop
set_drop_still W t at words h =
    still_given W h (word_in words 0) (λ index. after (set_found at index h) (λ set k. after (set_dropped at set k) (λ done l. after (entry_removed at index l) (λ done m. got t [] m)))) (λ index is. still_after W h (set_found at index h) (λ set k. after (set_dropped at set k) (λ done l. after (entry_removed at index l) (λ done m. got t [] m))) (set_found_still W at index h) (λ set k. still_after W k (set_dropped at set k) (λ done l. after (entry_removed at index l) (λ done m. got t [] m)) (set_dropped_still W at set k) (λ done l. still_after W l (entry_removed at index l) (λ done m. got t [] m) (entry_removed_still W at index l) (λ done m. got_still W t [] m))))

pub joined_to_still : (W : Kinds) → (t : ℕ) (at : ℕ) (index : ℕ) (other : ℕ) (h : Held) → StillBy W h (joined_to t at index other h)
unfolding joined_to
joined_to_still W t at index other h =
    still_if W h (nat_eq other 0) (after (set_left at index h) (λ done k. got t [] k)) (after (set_found at other h) (λ set k. after (set_joined at index set k) (λ done l. got t [] l))) (still_after W h (set_left at index h) (λ done k. got t [] k) (set_left_still W at index h) (λ done k. got_still W t [] k)) (still_after W h (set_found at other h) (λ set k. after (set_joined at index set k) (λ done l. got t [] l)) (set_found_still W at other h) (λ set k. still_after W k (set_joined at index set k) (λ done l. got t [] l) (set_joined_still W at index set k) (λ done l. got_still W t [] l)))

pub waitable_join_still : (W : Kinds) → (t : ℕ) (at : ℕ) (words : List ℕ) (h : Held) → StillBy W h (waitable_join t at words h)
unfolding waitable_join
waitable_join_still W t at words h =
    still_given W h (word_in words 0) (λ index. given (word_in words 1) (λ other. after (waitable_found at index h) (λ there k. joined_to t at index other k))) (λ index is. still_given W h (word_in words 1) (λ other. after (waitable_found at index h) (λ there k. joined_to t at index other k)) (λ other is. still_after W h (waitable_found at index h) (λ there k. joined_to t at index other k) (waitable_found_still W at index h) (λ there k. joined_to_still W t at index other k)))

pub blocked_at_set_still : (W : Kinds) → (g : Views) (t : ℕ) (at : ℕ) (canon : ℕ) (index : ℕ) (set : ℕ) (h : Held) → StillBy W h (blocked_at_set g t at canon index set h)
unfolding blocked_at_set
blocked_at_set_still W g t at canon index set h =
    still_after W h (set_waited_on at set h) (λ done k. blocked_in t canon (g.flag canon) (blocked_at.Set index) (reason.Wait index) k) (set_waited_on_still W at set h) (λ done k. blocked_in_still W t canon (g.flag canon) (blocked_at.Set index) (reason.Wait index) k)

pub none_ready_still : (W : Kinds) → (g : Views) (t : ℕ) (at : ℕ) (canon : ℕ) (x : WaitOp) (index : ℕ) (place : ℕ) (set : ℕ) (h : Held) → StillBy W h (none_ready g t at canon x index place set h)
none_ready_still W g t at canon wait_op.Wait index place set h =
    blocked_at_set_still W g t at canon index set h
none_ready_still W g t at canon wait_op.Poll index place set h =
    received_none_still W g t (receiver.InWait canon place) h

pub by_ready_still : (W : Kinds) → (g : Views) (t : ℕ) (at : ℕ) (canon : ℕ) (op : WaitOp) (index : ℕ) (place : ℕ) (set : ℕ) (members : List ℕ) (h : Held) → StillBy W h (by_ready g t at canon op index place set members h)
unfolding by_ready
by_ready_still W g t at canon op index place set members h =
    still_if W h (nat_eq (length members) 0) (none_ready g t at canon op index place set h) (delivered_among g t at (receiver.InWait canon place) members h) (none_ready_still W g t at canon op index place set h) (delivered_among_still W g t at (receiver.InWait canon place) members h)

pub waited_still : (W : Kinds) → (g : Views) (t : ℕ) (at : ℕ) (canon : ℕ) (op : WaitOp) (index : ℕ) (place : ℕ) (set : ℕ) (h : Held) → StillBy W h (waited g t at canon op index place set h)
unfolding waited
waited_still W g t at canon op index place set h =
    still_after W h (kind_of t h) (λ kind k. after (asked t k) (λ is_asked l. if g.flag canon && not (is_sync kind) && is_asked then received_cancel g t (receiver.InWait canon place) l else by_ready g t at canon op index place set (ready g at set l) l)) (kind_of_still W t h) (λ kind k. still_after W k (asked t k) (λ is_asked l. if g.flag canon && not (is_sync kind) && is_asked then received_cancel g t (receiver.InWait canon place) l else by_ready g t at canon op index place set (ready g at set l) l) (asked_still W t k) (λ is_asked l. still_if W l (g.flag canon && not (is_sync kind) && is_asked) (received_cancel g t (receiver.InWait canon place) l) (by_ready g t at canon op index place set (ready g at set l) l) (received_cancel_still W g t (receiver.InWait canon place) l) (by_ready_still W g t at canon op index place set (ready g at set l) l)))

pub set_wait_still : (W : Kinds) → (g : Views) (t : ℕ) (at : ℕ) (canon : ℕ) (op : WaitOp) (words : List ℕ) (h : Held) → StillBy W h (set_wait g t at canon op words h)
unfolding set_wait
set_wait_still W g t at canon op words h =
    still_given W h (word_in words 0) (λ index. given (word_in words 1) (λ place. after (set_found at index h) (λ set k. if not (nat_eq (place % 4) 0) then Traps trap.Misaligned k else if nat_lt (length (bytes_at (memory_of (g.options canon) k) k.store)) (place + 8) then Traps trap.Bounds k else waited g t at canon op index place set k))) (λ index is. still_given W h (word_in words 1) (λ place. after (set_found at index h) (λ set k. if not (nat_eq (place % 4) 0) then Traps trap.Misaligned k else if nat_lt (length (bytes_at (memory_of (g.options canon) k) k.store)) (place + 8) then Traps trap.Bounds k else waited g t at canon op index place set k)) (λ place is. still_after W h (set_found at index h) (λ set k. if not (nat_eq (place % 4) 0) then Traps trap.Misaligned k else if nat_lt (length (bytes_at (memory_of (g.options canon) k) k.store)) (place + 8) then Traps trap.Bounds k else waited g t at canon op index place set k) (set_found_still W at index h) (λ set k. still_if W k (not (nat_eq (place % 4) 0)) (Traps trap.Misaligned k) (if nat_lt (length (bytes_at (memory_of (g.options canon) k) k.store)) (place + 8) then Traps trap.Bounds k else waited g t at canon op index place set k) (λ K asked kept. kept) (still_if W k (nat_lt (length (bytes_at (memory_of (g.options canon) k) k.store)) (place + 8)) (Traps trap.Bounds k) (waited g t at canon op index place set k) (λ K asked kept. kept) (waited_still W g t at canon op index place set k)))))
