-- Sets, and waits on them: what is given is words, a rest, or a core function that starts.
use Rattle.std.specs.Prelude.{ℕ, ◌+◌, ◌%◌, nat_eq, nat_lt, not, ◌&&◌, if◌then◌else◌, List, [], ◌∷◌, length}
use Rattle.builtin_kinds.specs.declared.WaitOp.{WaitOp}
use Rattle.builtin_kinds.specs.declared.WaitOp.TheVariants as wait_op
use Rattle.tasks.specs.declared.event.BlockedAt.TheVariants as blocked_at
use Rattle.tasks.specs.Tasks.{is_sync}
use Rattle.instances.specs.declared.entry.WorldEntry.TheVariants as entry
use Rattle.world_parts.specs.Views.{Views}
use Rattle.trace_labels.specs.declared.label.BlockReason.TheVariants as reason
use Rattle.trace_labels.specs.declared.trap.TrapName.TheVariants as trap
use Rattle.world_parts.specs.declared.parts.Receiver.TheVariants as receiver
use Rattle.world_parts.specs.Held.{Held, Traps, after, given}
use Rattle.world_parts.specs.Feed.{got}
use Rattle.world_parts.specs.Entries.{set_found, waitable_found, entry_added, entry_removed, sets_made, set_made, set_joined, set_left, set_dropped, set_waited_on}
use Rattle.world_parts.specs.Slots.{word_in, kind_of, asked}
use Rattle.world_parts.specs.Places.{memory_of, bytes_at}
use Rattle.world_parts.specs.Calls.{blocked_in}
use Rattle.world_parts.specs.News.{ready}
use Rattle.world_parts.specs.Events.{received_cancel, delivered_among}
use Rattle.world_parts.specs.Waits.{blocked_at_set, by_ready, joined_to, none_ready, set_drop, set_new, set_wait, waitable_join, waited}
use Rattle.run_laws.proofs.plain.Calls.{blocked_in_plain}
use Rattle.run_laws.proofs.plain.Events.{delivered_among_plain, received_cancel_plain, received_none_plain}
use Rattle.run_laws.proofs.plain.Feed.{got_plain}
use Rattle.run_laws.proofs.plain.Only.{PlainBy, plain_after, plain_given, plain_if}

pub set_new_plain : (t : ℕ) (at : ℕ) (h : Held) → PlainBy (set_new t at h)
unfolding set_new
set_new_plain t at h =
    plain_after (sets_made at h) (λ set k. after (entry_added at (entry.Set set) k) (λ index l. after (set_made at l) (λ number m. got t (index ∷ []) m))) (λ set k. plain_after (entry_added at (entry.Set set) k) (λ index l. after (set_made at l) (λ number m. got t (index ∷ []) m)) (λ index l. plain_after (set_made at l) (λ number m. got t (index ∷ []) m) (λ number m. got_plain t (index ∷ []) m)))

pub set_drop_plain : (t : ℕ) (at : ℕ) (words : List ℕ) (h : Held) → PlainBy (set_drop t at words h)
unfolding set_drop
set_drop_plain t at words h =
    plain_given (word_in words 0) (λ index. after (set_found at index h) (λ set k. after (set_dropped at set k) (λ done l. after (entry_removed at index l) (λ done m. got t [] m)))) (λ index is. plain_after (set_found at index h) (λ set k. after (set_dropped at set k) (λ done l. after (entry_removed at index l) (λ done m. got t [] m))) (λ set k. plain_after (set_dropped at set k) (λ done l. after (entry_removed at index l) (λ done m. got t [] m)) (λ done l. plain_after (entry_removed at index l) (λ done m. got t [] m) (λ done m. got_plain t [] m))))

pub joined_to_plain : (t : ℕ) (at : ℕ) (index : ℕ) (other : ℕ) (h : Held) → PlainBy (joined_to t at index other h)
unfolding joined_to
joined_to_plain t at index other h =
    plain_if (nat_eq other 0) (after (set_left at index h) (λ done k. got t [] k)) (after (set_found at other h) (λ set k. after (set_joined at index set k) (λ done l. got t [] l))) (plain_after (set_left at index h) (λ done k. got t [] k) (λ done k. got_plain t [] k)) (plain_after (set_found at other h) (λ set k. after (set_joined at index set k) (λ done l. got t [] l)) (λ set k. plain_after (set_joined at index set k) (λ done l. got t [] l) (λ done l. got_plain t [] l)))

pub waitable_join_plain : (t : ℕ) (at : ℕ) (words : List ℕ) (h : Held) → PlainBy (waitable_join t at words h)
unfolding waitable_join
waitable_join_plain t at words h =
    plain_given (word_in words 0) (λ index. given (word_in words 1) (λ other. after (waitable_found at index h) (λ there k. joined_to t at index other k))) (λ index is. plain_given (word_in words 1) (λ other. after (waitable_found at index h) (λ there k. joined_to t at index other k)) (λ other is. plain_after (waitable_found at index h) (λ there k. joined_to t at index other k) (λ there k. joined_to_plain t at index other k)))

pub blocked_at_set_plain : (g : Views) (t : ℕ) (at : ℕ) (canon : ℕ) (index : ℕ) (set : ℕ) (h : Held) → PlainBy (blocked_at_set g t at canon index set h)
unfolding blocked_at_set
blocked_at_set_plain g t at canon index set h =
    plain_after (set_waited_on at set h) (λ done k. blocked_in t canon (g.flag canon) (blocked_at.Set index) (reason.Wait index) k) (λ done k. blocked_in_plain t canon (g.flag canon) (blocked_at.Set index) (reason.Wait index) k)

pub none_ready_plain : (g : Views) (t : ℕ) (at : ℕ) (canon : ℕ) (x : WaitOp) (index : ℕ) (place : ℕ) (set : ℕ) (h : Held) → PlainBy (none_ready g t at canon x index place set h)
none_ready_plain g t at canon wait_op.Wait index place set h =
    blocked_at_set_plain g t at canon index set h
none_ready_plain g t at canon wait_op.Poll index place set h =
    received_none_plain g t (receiver.InWait canon place) h

pub by_ready_plain : (g : Views) (t : ℕ) (at : ℕ) (canon : ℕ) (op : WaitOp) (index : ℕ) (place : ℕ) (set : ℕ) (members : List ℕ) (h : Held) → PlainBy (by_ready g t at canon op index place set members h)
unfolding by_ready
by_ready_plain g t at canon op index place set members h =
    plain_if (nat_eq (length members) 0) (none_ready g t at canon op index place set h) (delivered_among g t at (receiver.InWait canon place) members h) (none_ready_plain g t at canon op index place set h) (delivered_among_plain g t at (receiver.InWait canon place) members h)

pub waited_plain : (g : Views) (t : ℕ) (at : ℕ) (canon : ℕ) (op : WaitOp) (index : ℕ) (place : ℕ) (set : ℕ) (h : Held) → PlainBy (waited g t at canon op index place set h)
unfolding waited
waited_plain g t at canon op index place set h =
    plain_after (kind_of t h) (λ kind k. after (asked t k) (λ is_asked l. if g.flag canon && not (is_sync kind) && is_asked then received_cancel g t (receiver.InWait canon place) l else by_ready g t at canon op index place set (ready g at set l) l)) (λ kind k. plain_after (asked t k) (λ is_asked l. if g.flag canon && not (is_sync kind) && is_asked then received_cancel g t (receiver.InWait canon place) l else by_ready g t at canon op index place set (ready g at set l) l) (λ is_asked l. plain_if (g.flag canon && not (is_sync kind) && is_asked) (received_cancel g t (receiver.InWait canon place) l) (by_ready g t at canon op index place set (ready g at set l) l) (received_cancel_plain g t (receiver.InWait canon place) l) (by_ready_plain g t at canon op index place set (ready g at set l) l)))

pub set_wait_plain : (g : Views) (t : ℕ) (at : ℕ) (canon : ℕ) (op : WaitOp) (words : List ℕ) (h : Held) → PlainBy (set_wait g t at canon op words h)
unfolding set_wait
set_wait_plain g t at canon op words h =
    plain_given (word_in words 0) (λ index. given (word_in words 1) (λ place. after (set_found at index h) (λ set k. if not (nat_eq (place % 4) 0) then Traps trap.Misaligned k else if nat_lt (length (bytes_at (memory_of (g.options canon) k) k.store)) (place + 8) then Traps trap.Bounds k else waited g t at canon op index place set k))) (λ index is. plain_given (word_in words 1) (λ place. after (set_found at index h) (λ set k. if not (nat_eq (place % 4) 0) then Traps trap.Misaligned k else if nat_lt (length (bytes_at (memory_of (g.options canon) k) k.store)) (place + 8) then Traps trap.Bounds k else waited g t at canon op index place set k)) (λ place is. plain_after (set_found at index h) (λ set k. if not (nat_eq (place % 4) 0) then Traps trap.Misaligned k else if nat_lt (length (bytes_at (memory_of (g.options canon) k) k.store)) (place + 8) then Traps trap.Bounds k else waited g t at canon op index place set k) (λ set k. plain_if (not (nat_eq (place % 4) 0)) (Traps trap.Misaligned k) (if nat_lt (length (bytes_at (memory_of (g.options canon) k) k.store)) (place + 8) then Traps trap.Bounds k else waited g t at canon op index place set k) tt (plain_if (nat_lt (length (bytes_at (memory_of (g.options canon) k) k.store)) (place + 8)) (Traps trap.Bounds k) (waited g t at canon op index place set k) tt (waited_plain g t at canon op index place set k)))))
