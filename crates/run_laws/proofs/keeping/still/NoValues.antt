-- Parts behind which no values are to be passed.
use Rattle.std.proofs.Common.{◌+◌, ◌*◌, ℕ, Bool, true, false, not, if◌then◌else◌, List, [], ◌∷◌, Option, Some, None, Result, Ok, Err}
use Rattle.builtin_kinds.specs.declared.EndKind.{EndKind}
use Rattle.stream_ends.specs.declared.side.Side.{Side}
use Rattle.stream_ends.specs.declared.side.Side.TheVariants.{Reader, Writer}
use Rattle.entry_gate.specs.declared.kind.Kind.{Kind}
use Rattle.stream_ends.specs.declared.stream_end.End.{End}
use Rattle.stream_ends.specs.Ends.{is_copying}
use Rattle.tasks.specs.declared.event.BlockedAt.TheVariants as blocked_at
use Rattle.tasks.specs.declared.event.TaskEvent.TheVariants as event
use Rattle.channels.specs.declared.channel.Channel.{Channel}
use Rattle.channels.specs.Channels.{end_in}
use Rattle.instances.specs.declared.entry.EndEntry.{EndEntry}
use Rattle.instances.specs.declared.entry.WorldEntry.TheVariants as entry
use Rattle.task_table.specs.declared.errand.Errand.{Errand}
use Rattle.task_table.specs.declared.errand.Errand.TheVariants as errand
use Rattle.trace_labels.specs.declared.label.BlockReason.TheVariants as reason
use Rattle.trace_labels.specs.declared.label.Label.TheVariants as line
use Rattle.trace_labels.specs.declared.trap.TrapName.TheVariants as trap
use Rattle.world_parts.specs.declared.parts.Flow.{Flow}
use Rattle.world_parts.specs.declared.parts.Flow.TheVariants as flow
use Rattle.world_parts.specs.Held.{Held, Done, Gives, Traps, after, given}
use Rattle.world_parts.specs.Views.{Views}
use Rattle.world_parts.specs.Calls as parts
use Rattle.world_parts.specs.Calls.{blocked, blocked_in, call_resolved, call_open, back_from_call, cancel_resolved, cancel_open, back_from_cancel, back_by, back, subtask_told}
use Rattle.world_parts.specs.Channels.{channel_made, end_dropped, channel_at, concluded, idle_seen}
use Rattle.world_parts.specs.Copies.{both_indices, new_end, channel_new, is_unwritten, dropped_end, drop_tested, end_drop, copy_given_up, copy_cancel}
use Rattle.world_parts.specs.Entries.{entry_added, entry_removed, end_found, end_idled, set_left, set_known, set_waited_off, entry_found, subtask_known}
use Rattle.world_parts.specs.Feed.{told, acting, left_chain, got}
use Rattle.world_parts.specs.Gates.{gate_waited, gate_given_up, gate_taken_back}
use Rattle.world_parts.specs.News.{copy_is_async}
use Rattle.world_parts.specs.Slots.{instance_of, errand_of, happens, resolved, result_found, state_told, awaited, errand_set, parked, closed, word_in, asked, to_be_told}
use Rattle.copy_replies.specs.declared.reading.CopyCall.{CopyCall}
use Rattle.copy_replies.specs.Reads.{idle_said, answered_at_once, left_standing, offer_stands}
use Rattle.run_laws.proofs.plain.Calls.{blocked_plain, blocked_in_plain}
use Rattle.run_laws.proofs.plain.Feed.{left_chain_plain, got_plain}
use Rattle.world_parts.specs.Going.{leaves, loop_flow, loop_resumed_at, loop_resumed_by, loop_resumed, yield_resumed, set_flow, set_resumed, call_resumed, cancel_resumed, copy_resumed_of, copy_resumed, wait_resumed, place_of, builtin_resumed, resumed_in, resumed_from}
use Rattle.entry_gate.specs.declared.callback.Next.{Next}
use Rattle.entry_gate.specs.declared.callback.Next.TheVariants as next
use Rattle.entry_gate.specs.declared.callback.BadCode.{BadCode}
use Rattle.entry_gate.specs.Callbacks.{callback_of}
use Rattle.tasks.specs.declared.event.BlockedAt.{BlockedAt}
use Rattle.instances.specs.declared.entry.WorldEntry.{WorldEntry}
use Rattle.world_parts.specs.Events.{end_told}
use Rattle.world_parts.specs.Plain.{yield_cancelled}
use Rattle.run_laws.proofs.plain.Plain.{yield_cancelled_plain}
use Rattle.run_laws.proofs.keeping.still.Lent.{IsPassed, NeverBy, never_after, never_given, never_if, by_plain}
use Rattle.world_parts.specs.declared.parts.Receiver.TheVariants as receiver

pub got_never : (t : ℕ) (words : List ℕ) (h : Held) → NeverBy (got t words h)
got_never t words h = by_plain (got t words h) (got_plain t words h)

-- A task that is new, one that exits, and one that goes on.
pub waits_to_never : (t at : ℕ) (kind : Kind) (h : Held) → NeverBy (after (gate_waited at h) (λ done o. after (parked t kind o) (λ done p. blocked t blocked_at.Entry false reason.Entry p)))
waits_to_never t at kind h =
    never_after (gate_waited at h) (λ done o. after (parked t kind o) (λ done p. blocked t blocked_at.Entry false reason.Entry p))
    (λ done o.
    never_after (parked t kind o) (λ done p. blocked t blocked_at.Entry false reason.Entry p)
    (λ done p. by_plain (blocked t blocked_at.Entry false reason.Entry p) (blocked_plain t blocked_at.Entry false reason.Entry p)))

pub leaves_never : (h : Held) → NeverBy (leaves h)
unfolding leaves
leaves_never h =
    let out : ℕ → Held → Done Flow = λ t n. after (closed t n) (λ done o. after (told (line.Exit t) o) (λ done p. left_chain p)) in
    never_after (acting h) (λ t k. after (instance_of t k) (λ at l. after (happens t event.Exit l) (λ done m. after (gate_given_up at t m) (λ done n. out t n))))
    (λ t k.
    never_after (instance_of t k) (λ at l. after (happens t event.Exit l) (λ done m. after (gate_given_up at t m) (λ done n. out t n)))
    (λ at l.
    never_after (happens t event.Exit l) (λ done m. after (gate_given_up at t m) (λ done n. out t n))
    (λ done m.
    never_after (gate_given_up at t m) (λ done n. out t n)
    (λ done n.
    never_after (closed t n) (λ done o. after (told (line.Exit t) o) (λ done p. left_chain p))
    (λ done o. never_after (told (line.Exit t) o) (λ done p. left_chain p) (λ done p. by_plain (left_chain p) (left_chain_plain p)))))))

-- Control that is back.
resolved_never : (g : Views) (t at callee canon : ℕ) (h : Held) → NeverBy (call_resolved g t at callee canon h)
unfolding call_resolved
resolved_never g t at callee canon h =
    never_after (result_found callee h) (λ words k. after (subtask_told at callee k) (λ payload l. if g.is_async canon then got t (2 ∷ []) l else got t words l))
    (λ words k.
    never_after (subtask_told at callee k) (λ payload l. if g.is_async canon then got t (2 ∷ []) l else got t words l)
    (λ payload l. never_if (g.is_async canon) (got t (2 ∷ []) l) (got t words l) (got_never t (2 ∷ []) l) (got_never t words l)))

open_never : (g : Views) (t at callee canon : ℕ) (h : Held) → NeverBy (call_open g t at callee canon h)
unfolding call_open
open_never g t at callee canon h =
    never_if (g.is_async canon) (after (entry_added at (entry.Subtask callee) h) (λ index k. after (state_told callee k) (λ state l. got t ((state + 16 * index) ∷ []) l)))
    (blocked_in t canon (g.flag canon) (blocked_at.Call callee) (reason.Call callee) h)
    (never_after (entry_added at (entry.Subtask callee) h) (λ index k. after (state_told callee k) (λ state l. got t ((state + 16 * index) ∷ []) l))
    (λ index k. never_after (state_told callee k) (λ state l. got t ((state + 16 * index) ∷ []) l) (λ state l. got_never t ((state + 16 * index) ∷ []) l)))
    (by_plain (blocked_in t canon (g.flag canon) (blocked_at.Call callee) (reason.Call callee) h) (blocked_in_plain t canon (g.flag canon) (blocked_at.Call callee) (reason.Call callee) h))

called_never : (g : Views) (t at callee canon : ℕ) (h : Held) → NeverBy (back_from_call g t at callee canon h)
unfolding back_from_call
called_never g t at callee canon h =
    never_after (errand_set t errand.None h) (λ done k. after (resolved callee k) (λ is_over l. if is_over then call_resolved g t at callee canon l else call_open g t at callee canon l))
    (λ done k.
    never_after (resolved callee k) (λ is_over l. if is_over then call_resolved g t at callee canon l else call_open g t at callee canon l)
    (λ is_over l.
    never_if is_over (call_resolved g t at callee canon l) (call_open g t at callee canon l) (resolved_never g t at callee canon l) (open_never g t at callee canon l)))

over_never : (t at callee : ℕ) (h : Held) → NeverBy (cancel_resolved t at callee h)
unfolding cancel_resolved
over_never t at callee h = never_after (subtask_told at callee h) (λ payload k. got t (payload ∷ []) k) (λ payload k. got_never t (payload ∷ []) k)

waits_never : (g : Views) (t callee canon index : ℕ) (h : Held) → NeverBy (cancel_open g t callee canon index h)
unfolding cancel_open
waits_never g t callee canon index h =
    never_if (g.flag canon) (got t (parts.blocked_word ∷ []) h) (after (awaited callee true h) (λ done k. blocked_in t canon (g.flag canon) (blocked_at.Cancel index) (reason.Cancel index) k))
    (got_never t (parts.blocked_word ∷ []) h)
    (never_after (awaited callee true h) (λ done k. blocked_in t canon (g.flag canon) (blocked_at.Cancel index) (reason.Cancel index) k)
    (λ done k. by_plain (blocked_in t canon (g.flag canon) (blocked_at.Cancel index) (reason.Cancel index) k) (blocked_in_plain t canon (g.flag canon) (blocked_at.Cancel index) (reason.Cancel index) k)))

cancelled_never : (g : Views) (t at callee canon index : ℕ) (h : Held) → NeverBy (back_from_cancel g t at callee canon index h)
unfolding back_from_cancel
cancelled_never g t at callee canon index h =
    never_after (errand_set t errand.None h) (λ done k. after (resolved callee k) (λ is_over l. if is_over then cancel_resolved t at callee l else cancel_open g t callee canon index l))
    (λ done k.
    never_after (resolved callee k) (λ is_over l. if is_over then cancel_resolved t at callee l else cancel_open g t callee canon index l)
    (λ is_over l. never_if is_over (cancel_resolved t at callee l) (cancel_open g t callee canon index l) (over_never t at callee l) (waits_never g t callee canon index l)))

by_never : (g : Views) (t at : ℕ) (e : Errand) (h : Held) → NeverBy (back_by g t at e h)
by_never g t at errand.None h = tt
by_never g t at (errand.AfterCall callee canon) h = called_never g t at callee canon h
by_never g t at (errand.AfterCancel callee canon index) h = cancelled_never g t at callee canon index h
by_never g t at (errand.Begins n) h = tt
by_never g t at (errand.InBuiltin canon) h = tt

pub back_never : (g : Views) (h : Held) → NeverBy (back g h)
unfolding back
back_never g h =
    never_after (acting h) (λ t k. after (instance_of t k) (λ at l. after (errand_of t l) (λ e m. back_by g t at e m)))
    (λ t k.
    never_after (instance_of t k) (λ at l. after (errand_of t l) (λ e m. back_by g t at e m))
    (λ at l. never_after (errand_of t l) (λ e m. back_by g t at e m) (λ e m. by_never g t at e m)))

-- Built-ins of ends.
pub new_never : (t at : ℕ) (of_what : EndKind) (type : ℕ) (h : Held) → NeverBy (channel_new t at of_what type h)
unfolding channel_new
new_never t at of_what type h =
    never_after (channel_made of_what type h) (λ number k. after (entry_added at (new_end Reader type number) k) (λ readable l. after (entry_added at (new_end Writer type number) l) (λ writable m. got t (both_indices readable writable ∷ []) m)))
    (λ number k.
    never_after (entry_added at (new_end Reader type number) k) (λ readable l. after (entry_added at (new_end Writer type number) l) (λ writable m. got t (both_indices readable writable ∷ []) m))
    (λ readable l.
    never_after (entry_added at (new_end Writer type number) l) (λ writable m. got t (both_indices readable writable ∷ []) m) (λ writable m. got_never t (both_indices readable writable ∷ []) m)))

dropped_never : (t at index : ℕ) (of_what : EndKind) (side : Side) (number : ℕ) (h : Held) → NeverBy (dropped_end t at index of_what side number h)
unfolding dropped_end
dropped_never t at index of_what side number h =
    never_after (set_left at index h) (λ done k. after (entry_removed at index k) (λ done l. after (end_dropped of_what side number l) (λ done m. got t [] m)))
    (λ done k.
    never_after (entry_removed at index k) (λ done l. after (end_dropped of_what side number l) (λ done m. got t [] m))
    (λ done l. never_after (end_dropped of_what side number l) (λ done m. got t [] m) (λ done m. got_never t [] m)))

tested_never : (t at index : ℕ) (of_what : EndKind) (side : Side) (number : ℕ) (e : End) (h : Held) → NeverBy (drop_tested t at index of_what side number e h)
tested_never t at index of_what side number e h =
    never_if (is_copying e) (Traps trap.Busy h) (if is_unwritten of_what side e.done then Traps trap.UnwrittenFuture h else dropped_end t at index of_what side number h) tt
    (never_if (is_unwritten of_what side e.done) (Traps trap.UnwrittenFuture h) (dropped_end t at index of_what side number h) tt (dropped_never t at index of_what side number h))

pub drop_never : (t at : ℕ) (of_what : EndKind) (side : Side) (type : ℕ) (words : List ℕ) (h : Held) → NeverBy (end_drop t at of_what side type words h)
unfolding end_drop
drop_never t at of_what side type words h =
    never_given (word_in words 0)
    (λ index. after (end_found at side type index h) (λ e k. given (channel_at of_what e.number k) (λ c. drop_tested t at index of_what side e.number (end_in side c.ends) k)))
    (λ index.
    never_after (end_found at side type index h) (λ e k. given (channel_at of_what e.number k) (λ c. drop_tested t at index of_what side e.number (end_in side c.ends) k))
    (λ e k.
    never_given (channel_at of_what e.number k) (λ c. drop_tested t at index of_what side e.number (end_in side c.ends) k)
    (λ c. tested_never t at index of_what side e.number (end_in side c.ends) k)))

given_up_never : (t at index : ℕ) (of_what : EndKind) (side : Side) (number : ℕ) (h : Held) → NeverBy (copy_given_up t at index of_what side number h)
unfolding copy_given_up
given_up_never t at index of_what side number h =
    never_after (concluded of_what side number h) (λ payload k. after (idle_seen of_what side number k) (λ is_idle l. after (end_idled at index is_idle l) (λ done m. got t (payload ∷ []) m)))
    (λ payload k.
    never_after (idle_seen of_what side number k) (λ is_idle l. after (end_idled at index is_idle l) (λ done m. got t (payload ∷ []) m))
    (λ is_idle l. never_after (end_idled at index is_idle l) (λ done m. got t (payload ∷ []) m) (λ done m. got_never t (payload ∷ []) m)))

pub cancel_never : (g : Views) (t at : ℕ) (of_what : EndKind) (side : Side) (type : ℕ) (words : List ℕ) (h : Held) → NeverBy (copy_cancel g t at of_what side type words h)
unfolding copy_cancel
cancel_never g t at of_what side type words h =
    let up : ℕ → EndEntry → Held → Channel → Done Flow = λ index e k c.
    if not (copy_is_async g (end_in side c.ends).copy) then Traps trap.NotCopying k else copy_given_up t at index of_what side e.number k in
    never_given (word_in words 0) (λ index. after (end_found at side type index h) (λ e k. given (channel_at of_what e.number k) (λ c. up index e k c)))
    (λ index.
    never_after (end_found at side type index h) (λ e k. given (channel_at of_what e.number k) (λ c. up index e k c))
    (λ e k.
    never_given (channel_at of_what e.number k) (λ c. up index e k c)
    (λ c.
    never_if (not (copy_is_async g (end_in side c.ends).copy)) (Traps trap.NotCopying k) (copy_given_up t at index of_what side e.number k) tt (given_up_never t at index of_what side e.number k))))

pub at_once_never : (c : CopyCall) (number payload : ℕ) (h : Held) → NeverBy (answered_at_once c number payload h)
unfolding answered_at_once
at_once_never c number payload h = never_after (idle_said c number h) (λ done k. got c.task (payload ∷ []) k) (λ done k. got_never c.task (payload ∷ []) k)

left_never : (g : Views) (c : CopyCall) (h : Held) → NeverBy (left_standing g c h)
left_never g c h =
    never_if (g.is_async c.canon) (got c.task (parts.blocked_word ∷ []) h) (blocked_in c.task c.canon (g.flag c.canon) (blocked_at.Copy c.index) (reason.Copy c.index) h) (got_never c.task (parts.blocked_word ∷ []) h)
    (by_plain (blocked_in c.task c.canon (g.flag c.canon) (blocked_at.Copy c.index) (reason.Copy c.index) h) (blocked_in_plain c.task c.canon (g.flag c.canon) (blocked_at.Copy c.index) (reason.Copy c.index) h))

pub stands_never : (g : Views) (c : CopyCall) (number : ℕ) (h : Held) → NeverBy (offer_stands g c number h)
unfolding offer_stands
stands_never g c number h = never_after (idle_said c number h) (λ done k. left_standing g c k) (λ done k. left_never g c k)

-- A task that goes on, but where it enters.
flow_if : (b : Bool) (x y : Flow) → (IsPassed x → ⊥) → (IsPassed y → ⊥) → IsPassed (if b then x else y) → ⊥
flow_if true x y p q = p
flow_if false x y p q = q

loop_at_never : (at : ℕ) (is_asked polls : Bool) (index : ℕ) (h : Held) → NeverBy (loop_resumed_at at is_asked polls index h)
unfolding loop_resumed_at
loop_at_never at is_asked polls index h =
    never_after (set_known at index h) (λ set k. after (set_waited_off at set k) (λ done l. Gives (loop_flow is_asked polls set) l))
    (λ set k.
    never_after (set_waited_off at set k) (λ done l. Gives (loop_flow is_asked polls set) l)
    (λ done l.
    flow_if is_asked (flow.HearsCancel receiver.InCallback) (if polls then flow.Polls receiver.InCallback set else flow.Delivers receiver.InCallback set) (λ p. p)
    (flow_if polls (flow.Polls receiver.InCallback set) (flow.Delivers receiver.InCallback set) (λ p. p) (λ p. p))))

loop_by_never : (at : ℕ) (is_asked : Bool) (r : Result Next BadCode) (h : Held) → NeverBy (loop_resumed_by at is_asked r h)
loop_by_never at is_asked (Err why) h = tt
loop_by_never at is_asked (Ok next.Exit) h = tt
loop_by_never at is_asked (Ok next.Yield) h = flow_if is_asked (flow.HearsCancel receiver.InCallback) (flow.HearsNone receiver.InCallback) (λ p. p) (λ p. p)
loop_by_never at is_asked (Ok (next.Wait index)) h = loop_at_never at is_asked false index h
loop_by_never at is_asked (Ok (next.Poll index)) h = loop_at_never at is_asked true index h

pub loop_never : (t at word : ℕ) (h : Held) → NeverBy (loop_resumed t at word h)
unfolding loop_resumed
loop_never t at word h =
    never_after (asked t h) (λ is_asked k. after (happens t event.Go k) (λ done l. after (gate_taken_back at t l) (λ done m. loop_resumed_by at is_asked (callback_of word) m)))
    (λ is_asked k.
    never_after (happens t event.Go k) (λ done l. after (gate_taken_back at t l) (λ done m. loop_resumed_by at is_asked (callback_of word) m))
    (λ done l. never_after (gate_taken_back at t l) (λ done m. loop_resumed_by at is_asked (callback_of word) m) (λ done m. loop_by_never at is_asked (callback_of word) m)))

yield_never : (t : ℕ) (told_so : Bool) (h : Held) → NeverBy (yield_resumed t told_so h)
unfolding yield_resumed
yield_never t told_so h = never_if told_so (yield_cancelled t h) (got t (0 ∷ []) h) (by_plain (yield_cancelled t h) (yield_cancelled_plain t h)) (got_never t (0 ∷ []) h)

set_never : (at canon : ℕ) (told_so : Bool) (index place : ℕ) (h : Held) → NeverBy (set_resumed at canon told_so index place h)
unfolding set_resumed
set_never at canon told_so index place h =
    never_after (set_known at index h) (λ set k. after (set_waited_off at set k) (λ done l. Gives (set_flow told_so canon place set) l))
    (λ set k.
    never_after (set_waited_off at set k) (λ done l. Gives (set_flow told_so canon place set) l)
    (λ done l. flow_if told_so (flow.HearsCancel (receiver.InWait canon place)) (flow.Delivers (receiver.InWait canon place) set) (λ p. p) (λ p. p)))

call_back_never : (t at callee : ℕ) (h : Held) → NeverBy (call_resumed t at callee h)
unfolding call_resumed
call_back_never t at callee h =
    never_after (result_found callee h) (λ words k. after (subtask_told at callee k) (λ payload l. got t words l))
    (λ words k. never_after (subtask_told at callee k) (λ payload l. got t words l) (λ payload l. got_never t words l))

cancel_back_never : (t at index : ℕ) (h : Held) → NeverBy (cancel_resumed t at index h)
unfolding cancel_resumed
cancel_back_never t at index h =
    never_after (subtask_known at index h) (λ callee k. after (awaited callee false k) (λ done l. after (subtask_told at callee l) (λ payload m. got t (payload ∷ []) m)))
    (λ callee k.
    never_after (awaited callee false k) (λ done l. after (subtask_told at callee l) (λ payload m. got t (payload ∷ []) m))
    (λ done l. never_after (subtask_told at callee l) (λ payload m. got t (payload ∷ []) m) (λ payload m. got_never t (payload ∷ []) m)))

copy_of_never : (t at index : ℕ) (o : Option WorldEntry) (h : Held) → NeverBy (copy_resumed_of t at index o h)
copy_of_never t at index None h = tt
copy_of_never t at index (Some (entry.Handle x)) h = tt
copy_of_never t at index (Some (entry.Subtask callee)) h = tt
copy_of_never t at index (Some (entry.Set set)) h = tt
copy_of_never t at index (Some (entry.End e)) h = never_after (end_told at index e h) (λ payload k. got t (payload ∷ []) k) (λ payload k. got_never t (payload ∷ []) k)

copy_back_never : (t at index : ℕ) (h : Held) → NeverBy (copy_resumed t at index h)
unfolding copy_resumed
copy_back_never t at index h = never_after (entry_found at index h) (λ found k. copy_resumed_of t at index found k) (λ found k. copy_of_never t at index found k)

wait_never : (t at canon : ℕ) (told_so : Bool) (place : ℕ) (why : BlockedAt) (h : Held) → NeverBy (wait_resumed t at canon told_so place why h)
wait_never t at canon told_so place blocked_at.Entry h = tt
wait_never t at canon told_so place (blocked_at.Loop word) h = tt
wait_never t at canon told_so place blocked_at.Yield h = yield_never t told_so h
wait_never t at canon told_so place (blocked_at.Set index) h = set_never at canon told_so index place h
wait_never t at canon told_so place (blocked_at.Call callee) h = call_back_never t at callee h
wait_never t at canon told_so place (blocked_at.Copy index) h = copy_back_never t at index h
wait_never t at canon told_so place (blocked_at.Cancel index) h = cancel_back_never t at index h

builtin_never : (t at canon : ℕ) (why : BlockedAt) (h : Held) → NeverBy (builtin_resumed t at canon why h)
unfolding builtin_resumed
builtin_never t at canon why h =
    let out : Bool → ℕ → Held → Done Flow = λ told_so place m. after (errand_set t errand.None m) (λ done n. wait_resumed t at canon told_so place why n) in
    never_after (to_be_told t h) (λ told_so k. after (place_of t why k) (λ place l. after (happens t event.Go l) (λ done m. out told_so place m)))
    (λ told_so k.
    never_after (place_of t why k) (λ place l. after (happens t event.Go l) (λ done m. out told_so place m))
    (λ place l.
    never_after (happens t event.Go l) (λ done m. out told_so place m)
    (λ done m. never_after (errand_set t errand.None m) (λ done n. wait_resumed t at canon told_so place why n) (λ done n. wait_never t at canon told_so place why n))))

in_never : (t at : ℕ) (why : BlockedAt) (e : Errand) (h : Held) → NeverBy (resumed_in t at why e h)
in_never t at why errand.None h = tt
in_never t at why (errand.AfterCall callee canon) h = tt
in_never t at why (errand.AfterCancel callee canon index) h = tt
in_never t at why (errand.Begins n) h = tt
in_never t at why (errand.InBuiltin canon) h = builtin_never t at canon why h

pub from_never : (t at : ℕ) (why : BlockedAt) (h : Held) → NeverBy (resumed_from t at why h)
unfolding resumed_from
from_never t at why h = never_after (errand_of t h) (λ e k. resumed_in t at why e k) (λ e k. in_never t at why e k)
