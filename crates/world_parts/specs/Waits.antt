-- Waitable sets (Component Model, CanonicalABI.md, `canon waitable-set.new`, `canon waitable-set.wait`, `canon waitable-set.poll`, `canon
-- waitable-set.drop` and `canon waitable.join`).
use Rattle.std.specs.Prelude.{ℕ, ◌+◌, ◌%◌, nat_eq, nat_lt, Bool, not, ◌&&◌, if◌then◌else◌, List, [], ◌∷◌, length}
use Rattle.builtin_kinds.specs.declared.WaitOp.{WaitOp}
use Rattle.builtin_kinds.specs.declared.WaitOp.TheVariants as wait_op
use Rattle.tasks.specs.declared.event.BlockedAt.TheVariants as blocked_at
use Rattle.tasks.specs.Tasks.{is_sync}
use Rattle.instances.specs.declared.entry.WorldEntry.TheVariants as entry
use Rattle.world_parts.specs.Views.{Views}
use Rattle.trace_labels.specs.declared.label.BlockReason.TheVariants as reason
use Rattle.trace_labels.specs.declared.trap.TrapName.TheVariants as trap
use Rattle.world_parts.specs.declared.parts.Receiver.TheVariants as receiver
use Rattle.world_parts.specs.declared.parts.Flow.{Flow}
use Rattle.world_parts.specs.Held.{Held, Done, Traps, after, given}
use Rattle.world_parts.specs.Feed.{got}
use Rattle.world_parts.specs.Entries.{set_found, waitable_found, entry_added, entry_removed, sets_made, set_made, set_joined, set_left, set_dropped, set_waited_on}
use Rattle.world_parts.specs.Slots.{word_in, kind_of, asked}
use Rattle.world_parts.specs.Places.{memory_of, bytes_at}
use Rattle.world_parts.specs.Calls.{blocked_in}
use Rattle.world_parts.specs.News.{ready}
use Rattle.world_parts.specs.Events.{received_none, received_cancel, delivered_among}

-- Sets are numbered from 0 as they are made.
unfoldable pub set_new : ℕ → ℕ → Held → Done Flow
set_new t at h =
    after (sets_made at h) (λ set k. after (entry_added at (entry.Set set) k) (λ index l.
    after (set_made at l) (λ number m. got t (index ∷ []) m)))

unfoldable pub set_drop : ℕ → ℕ → List ℕ → Held → Done Flow
set_drop t at words h =
    given (word_in words 0) (λ index. after (set_found at index h) (λ set k. after (set_dropped at set k) (λ done l.
    after (entry_removed at index l) (λ done m. got t [] m))))

-- The waitable at an index leaves its set, and joins the one at another index, where this is not 0.
unfoldable pub joined_to : ℕ → ℕ → ℕ → ℕ → Held → Done Flow
joined_to t at index other h =
    if nat_eq other 0 then after (set_left at index h) (λ done k. got t [] k)
    else after (set_found at other h) (λ set k. after (set_joined at index set k) (λ done l. got t [] l))

unfoldable pub waitable_join : ℕ → ℕ → List ℕ → Held → Done Flow
waitable_join t at words h =
    given (word_in words 0) (λ index. given (word_in words 1) (λ other.
    after (waitable_found at index h) (λ there k. joined_to t at index other k)))

-- Where no member is ready a wait blocks, and a poll gets no event.
unfoldable pub blocked_at_set : Views → ℕ → ℕ → ℕ → ℕ → ℕ → Held → Done Flow
blocked_at_set g t at canon index set h =
    after (set_waited_on at set h) (λ done k. blocked_in t canon (g.flag canon) (blocked_at.Set index) (reason.Wait index) k)

abbrev pub none_ready : Views → ℕ → ℕ → ℕ → WaitOp → ℕ → ℕ → ℕ → Held → Done Flow
none_ready g t at canon wait_op.Wait index place set h = blocked_at_set g t at canon index set h
none_ready g t at canon wait_op.Poll index place set h = received_none g t (receiver.InWait canon place) h

unfoldable pub by_ready : Views → ℕ → ℕ → ℕ → WaitOp → ℕ → ℕ → ℕ → List ℕ → Held → Done Flow
by_ready g t at canon op index place set members h =
    if nat_eq (length members) 0 then none_ready g t at canon op index place set h
    else delivered_among g t at (receiver.InWait canon place) members h

-- A cancellation ends a wait with the flag, where the task is not lifted without `async`.
unfoldable pub waited : Views → ℕ → ℕ → ℕ → WaitOp → ℕ → ℕ → ℕ → Held → Done Flow
waited g t at canon op index place set h =
    after (kind_of t h) (λ kind k. after (asked t k) (λ is_asked l.
    if g.flag canon && not (is_sync kind) && is_asked then received_cancel g t (receiver.InWait canon place) l
    else by_ready g t at canon op index place set (ready g at set l) l))

unfoldable pub set_wait : Views → ℕ → ℕ → ℕ → WaitOp → List ℕ → Held → Done Flow
set_wait g t at canon op words h =
    given (word_in words 0) (λ index. given (word_in words 1) (λ place. after (set_found at index h) (λ set k.
    if not (nat_eq (place % 4) 0) then Traps trap.Misaligned k else
    if nat_lt (length (bytes_at (memory_of (g.options canon) k) k.store)) (place + 8) then Traps trap.Bounds k else
    waited g t at canon op index place set k)))
