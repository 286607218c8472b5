-- No event is to come to the acting task behind a part: it goes on, rests, enters, returns, or elements go over.
use Rattle.std.proofs.Common.{◌+◌, ◌*◌, ℕ, Bool, true, false, not, nat_lt, if◌then◌else◌, List, [], ◌∷◌, Option, Some, None}
use Rattle.std.specs.List.{slice_get}
use Rattle.syntax_trees.specs.declared.types.ValType.{ValType}
use Rattle.builtin_kinds.specs.declared.EndKind.{EndKind}
use Rattle.stream_ends.specs.declared.side.Side.{Side}
use Rattle.stream_ends.specs.declared.side.Side.TheVariants.{Reader, Writer}
use Rattle.stream_ends.specs.declared.open_copy.By.TheVariants as by
use Rattle.stream_ends.specs.declared.meet.Meet.{Meet}
use Rattle.stream_ends.specs.declared.meet.Meet.TheVariants as meet
use Rattle.entry_gate.specs.declared.kind.Kind.{Kind}
use Rattle.stream_ends.specs.declared.stream_end.End.{End}
use Rattle.stream_ends.specs.Ends.{is_copying}
use Rattle.tasks.specs.declared.event.BlockedAt.TheVariants as blocked_at
use Rattle.tasks.specs.declared.event.TaskEvent.TheVariants as event
use Rattle.channels.specs.declared.channel.Channel.{Channel}
use Rattle.channels.specs.Channels.{end_in}
use Rattle.comp_graph.specs.declared.graph.BuiltinKind.{BuiltinKind}
use Rattle.comp_graph.specs.declared.graph.BuiltinKind.TheVariants as kind
use Rattle.comp_graph.specs.declared.graph.CanonFunc.{CanonFunc}
use Rattle.comp_graph.specs.declared.graph.CanonFunc.TheVariants as canon
use Rattle.comp_graph.specs.declared.graph.EndOp.{EndOp}
use Rattle.comp_graph.specs.declared.graph.EndOp.TheVariants as end_op
use Rattle.comp_graph.specs.Graph.{Graph}
use Rattle.instances.specs.declared.entry.EndEntry.{EndEntry}
use Rattle.instances.specs.declared.entry.WorldEntry.TheVariants as entry
use Rattle.task_table.specs.declared.errand.Errand.{Errand}
use Rattle.task_table.specs.declared.errand.Errand.TheVariants as errand
use Rattle.trace_labels.specs.declared.label.BlockReason.TheVariants as reason
use Rattle.trace_labels.specs.declared.label.Label.TheVariants as line
use Rattle.trace_labels.specs.declared.trap.TrapName.TheVariants as trap
use Rattle.graph_views.specs.Canons.{canon_at}
use Rattle.world_parts.specs.declared.parts.Flow.{Flow}
use Rattle.world_parts.specs.declared.parts.Flow.TheVariants as flow
use Rattle.world_parts.specs.Held.{Held, Done, Gives, Traps, Spent, Stuck, after, given}
use Rattle.world_parts.specs.Views.{Views}
use Rattle.world_parts.specs.Calls as parts
use Rattle.world_parts.specs.Calls.{blocked, blocked_in, call_resolved, call_open, back_from_call, cancel_resolved, cancel_open, back_from_cancel, back_by, back, subtask_told}
use Rattle.world_parts.specs.Channels.{channel_made, end_dropped, channel_at, concluded, idle_seen, offered}
use Rattle.world_parts.specs.Copies.{both_indices, new_end, channel_new, is_unwritten, dropped_end, drop_tested, end_drop, copy_given_up, copy_cancel}
use Rattle.world_parts.specs.Entries.{entry_added, entry_removed, end_found, end_idled, set_left}
use Rattle.world_parts.specs.Feed.{told, acting, left_chain, got}
use Rattle.world_parts.specs.Gates.{may_enter, gate_waited, gate_given_up}
use Rattle.world_parts.specs.Going.{arrives, leaves}
use Rattle.world_parts.specs.News.{copy_is_async}
use Rattle.world_parts.specs.Places.{memory_of}
use Rattle.world_parts.specs.Plain.{return_asked}
use Rattle.world_parts.specs.Slots.{instance_of, kind_of, errand_of, happens, resolved, result_found, state_told, awaited, errand_set, words_of, parked, closed, word_in}
use Rattle.world_parts.specs.Turning.{goes}
use Rattle.world_parts.specs.Waits.{set_wait}
use Rattle.copy_replies.specs.declared.reading.CopyCall.{CopyCall}
use Rattle.copy_replies.specs.Reads.{most_elements, placed_well, is_within, idle_said, answered_at_once, left_standing, offer_stands, met, meets, placed_and_met, copy_tested, read_or_write, length_in, call_of, copy_asked}
use Rattle.copy_replies.specs.Moves.{element_at}
use Rattle.copy_replies.specs.Replies.{side_of, op_reply, kind_reply, canon_reply}
use Rattle.copy_replies.specs.Seen as ends
use Rattle.replies.specs.Replies.{begun, lowered, resource_reply, context_reply, plain_reply, builtin_reply, answered, may_leave}
use Rattle.replies.specs.Seen.{seen}
use Rattle.world_stacks.specs.Exempt.{exempt_answer}
use Rattle.machine_runs.specs.Calling.{kind_answered, canon_answered, allowed_by, allowed, calls}
use Rattle.run_laws.proofs.plain.Calls.{blocked_plain, blocked_in_plain}
use Rattle.run_laws.proofs.plain.Feed.{left_chain_plain, got_plain}
use Rattle.run_laws.proofs.plain.Only.{IsPlain, PlainBy}
use Rattle.run_laws.proofs.plain.Replying.{lowered_plain, resource_reply_plain, context_reply_plain, plain_reply_plain}
use Rattle.run_laws.proofs.plain.Waits.{set_wait_plain}

abbrev pub IsQuiet : Flow → Type 0
IsQuiet (flow.Now words) = Unit {0}
IsQuiet flow.Rests = Unit {0}
IsQuiet (flow.Starts ref words) = Unit {0}
IsQuiet flow.Enters = Unit {0}
IsQuiet flow.Returns = Unit {0}
IsQuiet (flow.Copies copying) = Unit {0}
IsQuiet (flow.Delivers r set) = ⊥
IsQuiet (flow.Polls r set) = ⊥
IsQuiet (flow.HearsNone r) = ⊥
IsQuiet (flow.HearsCancel r) = ⊥

abbrev pub QuietBy : Done Flow → Type 0
QuietBy (Gives x k) = IsQuiet x
QuietBy (Traps why k) = Unit {0}
QuietBy (Spent k) = Unit {0}
QuietBy Stuck = Unit {0}

pub quiet_after : {A : Type 0} (d : Done A) (f : A → Held → Done Flow) → ((x : A) (k : Held) → QuietBy (f x k)) → QuietBy (after d f)
quiet_after (Gives x k) f p = p x k
quiet_after (Traps why k) f p = tt
quiet_after (Spent k) f p = tt
quiet_after Stuck f p = tt

pub quiet_given : {A : Type 0} (o : Option A) (f : A → Done Flow) → ((x : A) → QuietBy (f x)) → QuietBy (given o f)
quiet_given None f p = tt
quiet_given (Some x) f p = p x

pub quiet_if : (b : Bool) (d e : Done Flow) → QuietBy d → QuietBy e → QuietBy (if b then d else e)
quiet_if true d e p q = p
quiet_if false d e p q = q

plain_is_quiet : (x : Flow) → IsPlain x → IsQuiet x
plain_is_quiet (flow.Now words) p = tt
plain_is_quiet flow.Rests p = tt
plain_is_quiet (flow.Starts ref words) p = tt
plain_is_quiet flow.Enters p = absurd p
plain_is_quiet flow.Returns p = absurd p
plain_is_quiet (flow.Copies copying) p = absurd p
plain_is_quiet (flow.Delivers r set) p = absurd p
plain_is_quiet (flow.Polls r set) p = absurd p
plain_is_quiet (flow.HearsNone r) p = absurd p
plain_is_quiet (flow.HearsCancel r) p = absurd p

pub by_plain : (d : Done Flow) → PlainBy d → QuietBy d
by_plain (Gives x k) p = plain_is_quiet x p
by_plain (Traps why k) p = tt
by_plain (Spent k) p = tt
by_plain Stuck p = tt

got_quiet : (t : ℕ) (words : List ℕ) (h : Held) → QuietBy (got t words h)
got_quiet t words h = by_plain (got t words h) (got_plain t words h)

-- A task that is new, one that exits, and one that goes on.
waits_to : (t at : ℕ) (kind : Kind) (h : Held) → QuietBy (after (gate_waited at h) (λ done o. after (parked t kind o) (λ done p. blocked t blocked_at.Entry false reason.Entry p)))
waits_to t at kind h =
    quiet_after (gate_waited at h) (λ done o. after (parked t kind o) (λ done p. blocked t blocked_at.Entry false reason.Entry p))
    (λ done o.
    quiet_after (parked t kind o) (λ done p. blocked t blocked_at.Entry false reason.Entry p)
    (λ done p. by_plain (blocked t blocked_at.Entry false reason.Entry p) (blocked_plain t blocked_at.Entry false reason.Entry p)))

pub arrives_quiet : (h : Held) → QuietBy (arrives h)
unfolding arrives
arrives_quiet h =
    let rest : ℕ → ℕ → Kind → Bool → Held → Done Flow = λ t at kind may n.
    if may then Gives flow.Enters n else
    after (gate_waited at n) (λ done o. after (parked t kind o) (λ done p. blocked t blocked_at.Entry false reason.Entry p)) in
    quiet_after (acting h) (λ t k. after (instance_of t k) (λ at l. after (kind_of t l) (λ kind m. after (may_enter at kind true m) (λ may n. rest t at kind may n))))
    (λ t k.
    quiet_after (instance_of t k) (λ at l. after (kind_of t l) (λ kind m. after (may_enter at kind true m) (λ may n. rest t at kind may n)))
    (λ at l.
    quiet_after (kind_of t l) (λ kind m. after (may_enter at kind true m) (λ may n. rest t at kind may n))
    (λ kind m.
    quiet_after (may_enter at kind true m) (λ may n. rest t at kind may n)
    (λ may n.
    quiet_if may (Gives flow.Enters n) (after (gate_waited at n) (λ done o. after (parked t kind o) (λ done p. blocked t blocked_at.Entry false reason.Entry p))) tt (waits_to t at kind n)))))

pub leaves_quiet : (h : Held) → QuietBy (leaves h)
unfolding leaves
leaves_quiet h =
    let out : ℕ → Held → Done Flow = λ t n. after (closed t n) (λ done o. after (told (line.Exit t) o) (λ done p. left_chain p)) in
    quiet_after (acting h) (λ t k. after (instance_of t k) (λ at l. after (happens t event.Exit l) (λ done m. after (gate_given_up at t m) (λ done n. out t n))))
    (λ t k.
    quiet_after (instance_of t k) (λ at l. after (happens t event.Exit l) (λ done m. after (gate_given_up at t m) (λ done n. out t n)))
    (λ at l.
    quiet_after (happens t event.Exit l) (λ done m. after (gate_given_up at t m) (λ done n. out t n))
    (λ done m.
    quiet_after (gate_given_up at t m) (λ done n. out t n)
    (λ done n.
    quiet_after (closed t n) (λ done o. after (told (line.Exit t) o) (λ done p. left_chain p))
    (λ done o. quiet_after (told (line.Exit t) o) (λ done p. left_chain p) (λ done p. by_plain (left_chain p) (left_chain_plain p)))))))

pub goes_quiet : (h : Held) → QuietBy (after (goes h) (λ done k. Gives flow.Rests k))
goes_quiet h = quiet_after (goes h) (λ done k. Gives flow.Rests k) (λ done k. tt)

-- Control that is back.
resolved_quiet : (g : Views) (t at callee canon : ℕ) (h : Held) → QuietBy (call_resolved g t at callee canon h)
unfolding call_resolved
resolved_quiet g t at callee canon h =
    quiet_after (result_found callee h) (λ words k. after (subtask_told at callee k) (λ payload l. if g.is_async canon then got t (2 ∷ []) l else got t words l))
    (λ words k.
    quiet_after (subtask_told at callee k) (λ payload l. if g.is_async canon then got t (2 ∷ []) l else got t words l)
    (λ payload l. quiet_if (g.is_async canon) (got t (2 ∷ []) l) (got t words l) (got_quiet t (2 ∷ []) l) (got_quiet t words l)))

open_quiet : (g : Views) (t at callee canon : ℕ) (h : Held) → QuietBy (call_open g t at callee canon h)
unfolding call_open
open_quiet g t at callee canon h =
    quiet_if (g.is_async canon) (after (entry_added at (entry.Subtask callee) h) (λ index k. after (state_told callee k) (λ state l. got t ((state + 16 * index) ∷ []) l)))
    (blocked_in t canon (g.flag canon) (blocked_at.Call callee) (reason.Call callee) h)
    (quiet_after (entry_added at (entry.Subtask callee) h) (λ index k. after (state_told callee k) (λ state l. got t ((state + 16 * index) ∷ []) l))
    (λ index k. quiet_after (state_told callee k) (λ state l. got t ((state + 16 * index) ∷ []) l) (λ state l. got_quiet t ((state + 16 * index) ∷ []) l)))
    (by_plain (blocked_in t canon (g.flag canon) (blocked_at.Call callee) (reason.Call callee) h) (blocked_in_plain t canon (g.flag canon) (blocked_at.Call callee) (reason.Call callee) h))

called_quiet : (g : Views) (t at callee canon : ℕ) (h : Held) → QuietBy (back_from_call g t at callee canon h)
unfolding back_from_call
called_quiet g t at callee canon h =
    quiet_after (errand_set t errand.None h) (λ done k. after (resolved callee k) (λ is_over l. if is_over then call_resolved g t at callee canon l else call_open g t at callee canon l))
    (λ done k.
    quiet_after (resolved callee k) (λ is_over l. if is_over then call_resolved g t at callee canon l else call_open g t at callee canon l)
    (λ is_over l.
    quiet_if is_over (call_resolved g t at callee canon l) (call_open g t at callee canon l) (resolved_quiet g t at callee canon l) (open_quiet g t at callee canon l)))

over_quiet : (t at callee : ℕ) (h : Held) → QuietBy (cancel_resolved t at callee h)
unfolding cancel_resolved
over_quiet t at callee h = quiet_after (subtask_told at callee h) (λ payload k. got t (payload ∷ []) k) (λ payload k. got_quiet t (payload ∷ []) k)

waits_quiet : (g : Views) (t callee canon index : ℕ) (h : Held) → QuietBy (cancel_open g t callee canon index h)
unfolding cancel_open
waits_quiet g t callee canon index h =
    quiet_if (g.flag canon) (got t (parts.blocked_word ∷ []) h) (after (awaited callee true h) (λ done k. blocked_in t canon (g.flag canon) (blocked_at.Cancel index) (reason.Cancel index) k))
    (got_quiet t (parts.blocked_word ∷ []) h)
    (quiet_after (awaited callee true h) (λ done k. blocked_in t canon (g.flag canon) (blocked_at.Cancel index) (reason.Cancel index) k)
    (λ done k. by_plain (blocked_in t canon (g.flag canon) (blocked_at.Cancel index) (reason.Cancel index) k) (blocked_in_plain t canon (g.flag canon) (blocked_at.Cancel index) (reason.Cancel index) k)))

cancelled_quiet : (g : Views) (t at callee canon index : ℕ) (h : Held) → QuietBy (back_from_cancel g t at callee canon index h)
unfolding back_from_cancel
cancelled_quiet g t at callee canon index h =
    quiet_after (errand_set t errand.None h) (λ done k. after (resolved callee k) (λ is_over l. if is_over then cancel_resolved t at callee l else cancel_open g t callee canon index l))
    (λ done k.
    quiet_after (resolved callee k) (λ is_over l. if is_over then cancel_resolved t at callee l else cancel_open g t callee canon index l)
    (λ is_over l. quiet_if is_over (cancel_resolved t at callee l) (cancel_open g t callee canon index l) (over_quiet t at callee l) (waits_quiet g t callee canon index l)))

by_quiet : (g : Views) (t at : ℕ) (e : Errand) (h : Held) → QuietBy (back_by g t at e h)
by_quiet g t at errand.None h = tt
by_quiet g t at (errand.AfterCall callee canon) h = called_quiet g t at callee canon h
by_quiet g t at (errand.AfterCancel callee canon index) h = cancelled_quiet g t at callee canon index h
by_quiet g t at (errand.Begins n) h = tt
by_quiet g t at (errand.InBuiltin canon) h = tt

pub back_quiet : (g : Views) (h : Held) → QuietBy (back g h)
unfolding back
back_quiet g h =
    quiet_after (acting h) (λ t k. after (instance_of t k) (λ at l. after (errand_of t l) (λ e m. back_by g t at e m)))
    (λ t k.
    quiet_after (instance_of t k) (λ at l. after (errand_of t l) (λ e m. back_by g t at e m))
    (λ at l. quiet_after (errand_of t l) (λ e m. back_by g t at e m) (λ e m. by_quiet g t at e m)))

-- Built-ins of ends.
new_quiet : (t at : ℕ) (of_what : EndKind) (type : ℕ) (h : Held) → QuietBy (channel_new t at of_what type h)
unfolding channel_new
new_quiet t at of_what type h =
    quiet_after (channel_made of_what type h) (λ number k. after (entry_added at (new_end Reader type number) k) (λ readable l. after (entry_added at (new_end Writer type number) l) (λ writable m. got t (both_indices readable writable ∷ []) m)))
    (λ number k.
    quiet_after (entry_added at (new_end Reader type number) k) (λ readable l. after (entry_added at (new_end Writer type number) l) (λ writable m. got t (both_indices readable writable ∷ []) m))
    (λ readable l.
    quiet_after (entry_added at (new_end Writer type number) l) (λ writable m. got t (both_indices readable writable ∷ []) m) (λ writable m. got_quiet t (both_indices readable writable ∷ []) m)))

dropped_quiet : (t at index : ℕ) (of_what : EndKind) (side : Side) (number : ℕ) (h : Held) → QuietBy (dropped_end t at index of_what side number h)
unfolding dropped_end
dropped_quiet t at index of_what side number h =
    quiet_after (set_left at index h) (λ done k. after (entry_removed at index k) (λ done l. after (end_dropped of_what side number l) (λ done m. got t [] m)))
    (λ done k.
    quiet_after (entry_removed at index k) (λ done l. after (end_dropped of_what side number l) (λ done m. got t [] m))
    (λ done l. quiet_after (end_dropped of_what side number l) (λ done m. got t [] m) (λ done m. got_quiet t [] m)))

tested_quiet : (t at index : ℕ) (of_what : EndKind) (side : Side) (number : ℕ) (e : End) (h : Held) → QuietBy (drop_tested t at index of_what side number e h)
tested_quiet t at index of_what side number e h =
    quiet_if (is_copying e) (Traps trap.Busy h) (if is_unwritten of_what side e.done then Traps trap.UnwrittenFuture h else dropped_end t at index of_what side number h) tt
    (quiet_if (is_unwritten of_what side e.done) (Traps trap.UnwrittenFuture h) (dropped_end t at index of_what side number h) tt (dropped_quiet t at index of_what side number h))

drop_quiet : (t at : ℕ) (of_what : EndKind) (side : Side) (type : ℕ) (words : List ℕ) (h : Held) → QuietBy (end_drop t at of_what side type words h)
unfolding end_drop
drop_quiet t at of_what side type words h =
    quiet_given (word_in words 0)
    (λ index. after (end_found at side type index h) (λ e k. given (channel_at of_what e.number k) (λ c. drop_tested t at index of_what side e.number (end_in side c.ends) k)))
    (λ index.
    quiet_after (end_found at side type index h) (λ e k. given (channel_at of_what e.number k) (λ c. drop_tested t at index of_what side e.number (end_in side c.ends) k))
    (λ e k.
    quiet_given (channel_at of_what e.number k) (λ c. drop_tested t at index of_what side e.number (end_in side c.ends) k)
    (λ c. tested_quiet t at index of_what side e.number (end_in side c.ends) k)))

given_up_quiet : (t at index : ℕ) (of_what : EndKind) (side : Side) (number : ℕ) (h : Held) → QuietBy (copy_given_up t at index of_what side number h)
unfolding copy_given_up
given_up_quiet t at index of_what side number h =
    quiet_after (concluded of_what side number h) (λ payload k. after (idle_seen of_what side number k) (λ is_idle l. after (end_idled at index is_idle l) (λ done m. got t (payload ∷ []) m)))
    (λ payload k.
    quiet_after (idle_seen of_what side number k) (λ is_idle l. after (end_idled at index is_idle l) (λ done m. got t (payload ∷ []) m))
    (λ is_idle l. quiet_after (end_idled at index is_idle l) (λ done m. got t (payload ∷ []) m) (λ done m. got_quiet t (payload ∷ []) m)))

cancel_quiet : (g : Views) (t at : ℕ) (of_what : EndKind) (side : Side) (type : ℕ) (words : List ℕ) (h : Held) → QuietBy (copy_cancel g t at of_what side type words h)
unfolding copy_cancel
cancel_quiet g t at of_what side type words h =
    let up : ℕ → EndEntry → Held → Channel → Done Flow = λ index e k c.
    if not (copy_is_async g (end_in side c.ends).copy) then Traps trap.NotCopying k else copy_given_up t at index of_what side e.number k in
    quiet_given (word_in words 0) (λ index. after (end_found at side type index h) (λ e k. given (channel_at of_what e.number k) (λ c. up index e k c)))
    (λ index.
    quiet_after (end_found at side type index h) (λ e k. given (channel_at of_what e.number k) (λ c. up index e k c))
    (λ e k.
    quiet_given (channel_at of_what e.number k) (λ c. up index e k c)
    (λ c.
    quiet_if (not (copy_is_async g (end_in side c.ends).copy)) (Traps trap.NotCopying k) (copy_given_up t at index of_what side e.number k) tt (given_up_quiet t at index of_what side e.number k))))

at_once_quiet : (c : CopyCall) (number payload : ℕ) (h : Held) → QuietBy (answered_at_once c number payload h)
unfolding answered_at_once
at_once_quiet c number payload h = quiet_after (idle_said c number h) (λ done k. got c.task (payload ∷ []) k) (λ done k. got_quiet c.task (payload ∷ []) k)

left_quiet : (g : Views) (c : CopyCall) (h : Held) → QuietBy (left_standing g c h)
left_quiet g c h =
    quiet_if (g.is_async c.canon) (got c.task (parts.blocked_word ∷ []) h) (blocked_in c.task c.canon (g.flag c.canon) (blocked_at.Copy c.index) (reason.Copy c.index) h) (got_quiet c.task (parts.blocked_word ∷ []) h)
    (by_plain (blocked_in c.task c.canon (g.flag c.canon) (blocked_at.Copy c.index) (reason.Copy c.index) h) (blocked_in_plain c.task c.canon (g.flag c.canon) (blocked_at.Copy c.index) (reason.Copy c.index) h))

stands_quiet : (g : Views) (c : CopyCall) (number : ℕ) (h : Held) → QuietBy (offer_stands g c number h)
unfolding offer_stands
stands_quiet g c number h = quiet_after (idle_said c number h) (λ done k. left_standing g c k) (λ done k. left_quiet g c k)

met_quiet : (g : Views) (c : CopyCall) (number : ℕ) (m : Meet) (h : Held) → QuietBy (met g c number m h)
met_quiet g c number meet.Stands h = stands_quiet g c number h
met_quiet g c number (meet.Copies count) h = tt
met_quiet g c number meet.Dropped h = at_once_quiet c number 1 h
met_quiet g c number meet.Displaces h = stands_quiet g c number h
met_quiet g c number meet.ZeroDone h = at_once_quiet c number 0 h
met_quiet g c number meet.NothingNow h = at_once_quiet c number 0 h

meets_quiet : (g : Views) (c : CopyCall) (number : ℕ) (h : Held) → QuietBy (meets g c number h)
unfolding meets
meets_quiet g c number h =
    quiet_after (offered c.kind c.side number (by.Task c.task) c.canon c.place c.length h) (λ m k. met g c number m k) (λ m k. met_quiet g c number m k)

placed_quiet : (g : Views) (element : Option ValType) (c : CopyCall) (number : ℕ) (is_inside : Bool) (h : Held) → QuietBy (placed_and_met g element c number is_inside h)
unfolding placed_and_met
placed_quiet g element c number is_inside h =
    quiet_after (placed_well element (memory_of (g.options c.canon) h) c.place c.length h) (λ done k. if is_inside then Traps trap.SameInstance k else meets g c number k)
    (λ done k. quiet_if is_inside (Traps trap.SameInstance k) (meets g c number k) tt (meets_quiet g c number k))

copy_quiet : (g : Views) (element : Option ValType) (c : CopyCall) (number : ℕ) (channel : Channel) (h : Held) → QuietBy (copy_tested g element c number channel h)
copy_quiet g element c number channel h =
    let place : Done Flow = placed_and_met g element c number (is_within g c.at c.side element channel.ends) h in
    quiet_if (is_copying (end_in c.side channel.ends)) (Traps trap.Busy h)
    (if (end_in c.side channel.ends).done then Traps trap.DoneEnd h else if nat_lt most_elements c.length then Traps trap.TooLong h else place) tt
    (quiet_if (end_in c.side channel.ends).done (Traps trap.DoneEnd h) (if nat_lt most_elements c.length then Traps trap.TooLong h else place) tt
    (quiet_if (nat_lt most_elements c.length) (Traps trap.TooLong h) place tt (placed_quiet g element c number (is_within g c.at c.side element channel.ends) h)))

reads_quiet : (g : Views) (element : Option ValType) (c : CopyCall) (h : Held) → QuietBy (read_or_write g element c h)
unfolding read_or_write
reads_quiet g element c h =
    quiet_after (end_found c.at c.side c.end_type c.index h) (λ e k. given (channel_at c.kind e.number k) (λ channel. copy_tested g element c e.number channel k))
    (λ e k. quiet_given (channel_at c.kind e.number k) (λ channel. copy_tested g element c e.number channel k) (λ channel. copy_quiet g element c e.number channel k))

asked_quiet : (g : Views) (element : Option ValType) (t at canon : ℕ) (of_what : EndKind) (side : Side) (type : ℕ) (words : List ℕ) (h : Held)
    → QuietBy (copy_asked g element t at canon of_what side type words h)
unfolding copy_asked
asked_quiet g element t at canon of_what side type words h =
    quiet_given (word_in words 0)
    (λ index. given (word_in words 1) (λ place. given (length_in of_what words) (λ count. read_or_write g element (call_of t at canon of_what side type index place count) h)))
    (λ index.
    quiet_given (word_in words 1) (λ place. given (length_in of_what words) (λ count. read_or_write g element (call_of t at canon of_what side type index place count) h))
    (λ place.
    quiet_given (length_in of_what words) (λ count. read_or_write g element (call_of t at canon of_what side type index place count) h)
    (λ count. reads_quiet g element (call_of t at canon of_what side type index place count) h)))

op_quiet : (g : Graph) (element : Option ValType) (t at number : ℕ) (of_what : EndKind) (type : ℕ) (op : EndOp) (words : List ℕ) (h : Held)
    → QuietBy (op_reply g element t at number of_what type op words h)
op_quiet g element t at number of_what type end_op.New words h = new_quiet t at of_what type h
op_quiet g element t at number of_what type (end_op.Copy side options) words h = asked_quiet (ends.seen g) element t at number of_what (side_of side) type words h
op_quiet g element t at number of_what type (end_op.Cancel side is_async) words h = cancel_quiet (ends.seen g) t at of_what (side_of side) type words h
op_quiet g element t at number of_what type (end_op.Drop side) words h = drop_quiet t at of_what (side_of side) type words h

kind_quiet : (g : Graph) (types : List (Option ℕ)) (element : Option ValType) (t at number : ℕ) (k : BuiltinKind) (words : List ℕ) (h : Held)
    → QuietBy (kind_reply g types element t at number k words h)
kind_quiet g types element t at number (kind.Resource op resource) words h = tt
kind_quiet g types element t at number (kind.TaskReturn result options) words h = tt
kind_quiet g types element t at number (kind.Plain op) words h = tt
kind_quiet g types element t at number (kind.Context op slot) words h = tt
kind_quiet g types element t at number (kind.Wait op cancellable memory) words h = tt
kind_quiet g types element t at number (kind.End of_what value op) words h =
    quiet_given (slice_get types number) (λ known. given known (λ type. op_reply g element t at number of_what type op words h))
    (λ known. quiet_given known (λ type. op_reply g element t at number of_what type op words h) (λ type. op_quiet g element t at number of_what type op words h))

ends_quiet : (g : Graph) (types : List (Option ℕ)) (element : Option ValType) (t number : ℕ) (c : CanonFunc) (words : List ℕ) (h : Held) → QuietBy (canon_reply g types element t number c words h)
ends_quiet g types element t number (canon.Lower l) words h = tt
ends_quiet g types element t number (canon.Builtin b) words h = kind_quiet g types element t b.instance number b.kind words h

-- Calls of canonical functions.
returns_quiet : (t : ℕ) (h : Held) → QuietBy (return_asked t h)
unfolding return_asked
returns_quiet t h = quiet_after (happens t event.AskReturn h) (λ done k. Gives flow.Returns k) (λ done k. tt)

builtin_quiet : (g : Graph) (t at number : ℕ) (k : BuiltinKind) (words : List ℕ) (h : Held) → QuietBy (builtin_reply g t at number k words h)
builtin_quiet g t at number (kind.Resource op resource) words h = by_plain (resource_reply g t at number op resource words h) (resource_reply_plain g t at number op resource words h)
builtin_quiet g t at number (kind.TaskReturn result options) words h = returns_quiet t h
builtin_quiet g t at number (kind.Plain op) words h = by_plain (plain_reply g t at number op words h) (plain_reply_plain g t at number op words h)
builtin_quiet g t at number (kind.Context op slot) words h = by_plain (context_reply t op slot words h) (context_reply_plain t op slot words h)
builtin_quiet g t at number (kind.Wait op cancellable memory) words h = tt
builtin_quiet g t at number (kind.End of_what element op) words h = tt

reply_quiet : (g : Graph) (t number : ℕ) (c : CanonFunc) (words : List ℕ) (h : Held) → QuietBy (answered g t number c words h)
reply_quiet g t number (canon.Lower l) words h = by_plain (lowered t number l.lift words h) (lowered_plain t number l.lift words h)
reply_quiet g t number (canon.Builtin b) words h = builtin_quiet g t b.instance number b.kind words h

by_kind_quiet : (g : Graph) (types : List (Option ℕ)) (t number : ℕ) (c : CanonFunc) (at : ℕ) (k : BuiltinKind) (words : List ℕ) (h : Held) → QuietBy (kind_answered g types t number c at k words h)
by_kind_quiet g types t number c at (kind.Resource op resource) words h = reply_quiet g t number c words h
by_kind_quiet g types t number c at (kind.TaskReturn result options) words h = reply_quiet g t number c words h
by_kind_quiet g types t number c at (kind.Plain op) words h = reply_quiet g t number c words h
by_kind_quiet g types t number c at (kind.Context op slot) words h = reply_quiet g t number c words h
by_kind_quiet g types t number c at (kind.Wait op cancellable memory) words h = by_plain (set_wait (seen g) t at number op words h) (set_wait_plain (seen g) t at number op words h)
by_kind_quiet g types t number c at (kind.End of_what element op) words h = quiet_given (canon_at g number) (λ d. canon_reply g types (element_at g number) t number d words h) (λ d. ends_quiet g types (element_at g number) t number d words h)

answered_quiet : (g : Graph) (types : List (Option ℕ)) (t number : ℕ) (c : CanonFunc) (words : List ℕ) (h : Held) → QuietBy (canon_answered g types t number c words h)
answered_quiet g types t number (canon.Lower l) words h = reply_quiet g t number (canon.Lower l) words h
answered_quiet g types t number (canon.Builtin b) words h = by_kind_quiet g types t number (canon.Builtin b) b.instance b.kind words h

allowed_quiet : (g : Graph) (types : List (Option ℕ)) (t number : ℕ) (c : CanonFunc) (words : List ℕ) (answer : Option (List ℕ)) (h : Held) → QuietBy (allowed_by g types t number c words answer h)
allowed_quiet g types t number c words (Some answer) h = got_quiet t answer h
allowed_quiet g types t number c words None h =
    quiet_if (may_leave h) (canon_answered g types t number c words h) (Traps trap.CannotLeave h) (answered_quiet g types t number c words h) tt

all_quiet : (g : Graph) (types : List (Option ℕ)) (t number : ℕ) (c : CanonFunc) (words : List ℕ) (h : Held) → QuietBy (allowed g types t number c words h)
unfolding allowed
all_quiet g types t number c words h =
    quiet_after (exempt_answer t words c h) (λ answer k. allowed_by g types t number c words answer k) (λ answer k. allowed_quiet g types t number c words answer k)

pub calls_quiet : (g : Graph) (types : List (Option ℕ)) (number : ℕ) (h : Held) → QuietBy (calls g types number h)
unfolding calls
calls_quiet g types number h =
    quiet_after (acting h) (λ t k. given (canon_at g number) (λ c. after (words_of t k) (λ words l. after (begun t c words l) (λ done m. allowed g types t number c words m))))
    (λ t k.
    quiet_given (canon_at g number) (λ c. after (words_of t k) (λ words l. after (begun t c words l) (λ done m. allowed g types t number c words m)))
    (λ c.
    quiet_after (words_of t k) (λ words l. after (begun t c words l) (λ done m. allowed g types t number c words m))
    (λ words l. quiet_after (begun t c words l) (λ done m. allowed g types t number c words m) (λ done m. all_quiet g types t number c words m))))
