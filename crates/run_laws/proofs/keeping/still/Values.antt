-- Where values are to be passed next, parts left tables, and what is lent for calls, as they were.
use Rattle.std.proofs.Common.{◌+◌, ◌*◌, ℕ, Bool, true, false, not, nat_lt, if◌then◌else◌, List, [], ◌∷◌, Option, Some, None, ◌-◌, nat_eq, nat_le, ◌%◌, length, ◌++◌, refl, Result, Ok, Err}
use Rattle.std.specs.List.{slice_get}
use Rattle.laid_types.specs.Layout.{laid}
use Rattle.graph_views.specs.Names.{builtin_of}
use Rattle.syntax_trees.specs.declared.types.ValType.{ValType}
use Rattle.builtin_kinds.specs.declared.EndKind.{EndKind}
use Rattle.stream_ends.specs.declared.side.Side.{Side}
use Rattle.stream_ends.specs.declared.open_copy.By.TheVariants as by
use Rattle.stream_ends.specs.declared.meet.Meet.{Meet}
use Rattle.stream_ends.specs.declared.meet.Meet.TheVariants as meet
use Rattle.entry_gate.specs.declared.kind.Kind.{Kind}
use Rattle.stream_ends.specs.declared.stream_end.End.{End}
use Rattle.stream_ends.specs.Ends.{is_copying}
use Rattle.tasks.specs.declared.event.BlockedAt.TheVariants as blocked_at
use Rattle.tasks.specs.declared.event.TaskEvent.TheVariants as event
use Rattle.channels.specs.declared.channel.Channel.{Channel}
use Rattle.channels.specs.Channels.{end_in, may_offer, meet_in, with_ends}
use Rattle.comp_graph.specs.declared.graph.BuiltinKind.{BuiltinKind}
use Rattle.comp_graph.specs.declared.graph.BuiltinKind.TheVariants as kind
use Rattle.comp_graph.specs.declared.graph.CanonFunc.{CanonFunc}
use Rattle.comp_graph.specs.declared.graph.CanonFunc.TheVariants as canon
use Rattle.comp_graph.specs.declared.graph.EndOp.{EndOp}
use Rattle.comp_graph.specs.declared.graph.EndOp.TheVariants as end_op
use Rattle.comp_graph.specs.Graph.{Graph}
use Rattle.trace_labels.specs.declared.label.BlockReason.TheVariants as reason
use Rattle.trace_labels.specs.declared.label.Label.TheVariants as line
use Rattle.trace_labels.specs.declared.trap.TrapName.TheVariants as trap
use Rattle.graph_views.specs.Canons.{canon_at}
use Rattle.world_parts.specs.declared.parts.Flow.{Flow}
use Rattle.world_parts.specs.declared.parts.Flow.TheVariants as flow
use Rattle.world_parts.specs.Held.{Held, Done, Gives, Traps, after, given}
use Rattle.world_parts.specs.Views.{Views}
use Rattle.world_parts.specs.Calls.{blocked, back}
use Rattle.world_parts.specs.Channels.{channel_at, offered, channels, with_channel}
use Rattle.world_parts.specs.Copies.{channel_new, end_drop, copy_cancel}
use Rattle.world_parts.specs.Entries.{end_found, named, rep_found}
use Rattle.world_parts.specs.Feed.{told, acting, got}
use Rattle.world_parts.specs.Gates.{may_enter, gate_waited}
use Rattle.world_parts.specs.Going.{arrives, leaves, resumed_by, resumes, loop_resumed, resumed_from}
use Rattle.world_parts.specs.Places.{memory_of, bytes_at}
use Rattle.world_parts.specs.Plain.{return_asked}
use Rattle.world_parts.specs.Slots.{instance_of, kind_of, happens, words_of, parked, word_in, phase_of, context_of, context_set, with_task}
use Rattle.world_parts.specs.Turning.{goes}
use Rattle.world_parts.specs.Waits.{set_wait}
use Rattle.copy_replies.specs.declared.reading.CopyCall.{CopyCall}
use Rattle.copy_replies.specs.Reads.{most_elements, placed_well, is_within, answered_at_once, offer_stands, met, meets, placed_and_met, copy_tested, read_or_write, length_in, call_of, copy_asked}
use Rattle.copy_replies.specs.Moves.{element_at}
use Rattle.copy_replies.specs.Replies.{side_of, op_reply, kind_reply, canon_reply}
use Rattle.copy_replies.specs.Seen as ends
use Rattle.replies.specs.Replies.{begun, lowered, resource_reply, context_reply, plain_reply, builtin_reply, answered, may_leave}
use Rattle.replies.specs.Seen.{seen}
use Rattle.world_stacks.specs.Exempt.{exempt_answer, first_word, context_answer, resource_answer, builtin_answer}
use Rattle.machine_runs.specs.Calling.{kind_answered, canon_answered, allowed_by, allowed, calls}
use Rattle.run_laws.proofs.plain.Replying.{lowered_plain, resource_reply_plain, context_reply_plain, plain_reply_plain}
use Rattle.run_laws.proofs.plain.Waits.{set_wait_plain}
use Rattle.tasks.specs.declared.phase.Phase.{Phase}
use Rattle.tasks.specs.declared.phase.Phase.TheVariants as phase
use Rattle.builtin_kinds.specs.declared.EndKind.TheVariants.{Stream, Future}
use Rattle.builtin_kinds.specs.declared.ResourceOp.{ResourceOp}
use Rattle.builtin_kinds.specs.declared.ResourceOp.TheVariants as resource_op
use Rattle.builtin_kinds.specs.declared.ContextOp.{ContextOp}
use Rattle.builtin_kinds.specs.declared.ContextOp.TheVariants as context_op
use Rattle.stream_ends.specs.declared.open_copy.By.{By}
use Rattle.channels.specs.Channels as ends_of
use Rattle.entry_gate.specs.Gates as gate
use Rattle.res_handles.specs.declared.refusal.Refusal.{Refusal}
use Rattle.instances.specs.Entries as named_in
use Rattle.res_handles.specs.Refusals.{handle_in, rep_of}
use Rattle.instances.specs.Instances.{entry_of, view_of}
use Rattle.task_table.specs.Slots.{with_word, word_at}
use Rattle.trace_labels.specs.declared.label.Label.{Label}
use Rattle.world_parts.specs.Channels as channel
use Rattle.run_laws.proofs.keeping.Prior.{quiet_task}
use Rattle.run_laws.proofs.keeping.Quiet.{happens_quiet}
use Rattle.run_laws.proofs.keeping.still.Lent.{IsPassed, Lent, LentBy, NeverOf, PassBy, lent_same, lent_all, lent_quiet, lent_by_quiet, lent_after, lent_given, lent_if, no_after, pass_after, pass_given, pass_if, by_never, pass_plain}
use Rattle.run_laws.proofs.keeping.still.NoValues.{got_never, waits_to_never, leaves_never, back_never, new_never, drop_never, cancel_never, at_once_never, stands_never, loop_never, from_never}
use Rattle.world_parts.specs.declared.parts.Rest.{Rest}
use Rattle.world_parts.specs.declared.parts.Rest.TheVariants as rest
use Rattle.machine_runs.specs.Moving.{woken}

-- Looks, and what changes neither tables nor what is lent.
acting_lent : (h : Held) → LentBy h (acting h)
acting_lent h = lent_given h (slice_get h.chain (length h.chain - 1)) (λ t. Gives t h) (λ t is. lent_same h)

instance_lent : (t : ℕ) (h : Held) → LentBy h (instance_of t h)
instance_lent t h = lent_given h (slice_get h.tasks t) (λ slot. Gives slot.instance h) (λ slot is. lent_same h)

kind_lent : (t : ℕ) (h : Held) → LentBy h (kind_of t h)
kind_lent t h = lent_given h (slice_get h.tasks t) (λ slot. Gives slot.task.kind h) (λ slot is. lent_same h)

phase_lent : (t : ℕ) (h : Held) → LentBy h (phase_of t h)
phase_lent t h = lent_given h (slice_get h.tasks t) (λ slot. Gives slot.task.phase h) (λ slot is. lent_same h)

words_lent : (t : ℕ) (h : Held) → LentBy h (words_of t h)
words_lent t h = lent_given h (slice_get h.tasks t) (λ slot. Gives slot.at_words h) (λ slot is. lent_same h)

may_enter_lent : (at : ℕ) (kind : Kind) (newcomer : Bool) (h : Held) → LentBy h (may_enter at kind newcomer h)
may_enter_lent at kind newcomer h = lent_given h (slice_get h.instances at) (λ i. Gives (gate.may_enter kind newcomer i.gate) h) (λ i is. lent_same h)

named_lent : {A : Type 0} (r : Result A Refusal) (h : Held) → LentBy h (named r h)
named_lent (Ok x) h = lent_same h
named_lent (Err why) h = tt

end_lent : (at : ℕ) (side : Side) (wanted index : ℕ) (h : Held) → LentBy h (end_found at side wanted index h)
end_lent at side wanted index h =
    lent_given h (slice_get h.instances at) (λ i. named (named_in.end_in side wanted (entry_of i index)) h) (λ i is. named_lent (named_in.end_in side wanted (entry_of i index)) h)

rep_lent : (at index resource : ℕ) (h : Held) → LentBy h (rep_found at index resource h)
rep_lent at index resource h =
    lent_given h (slice_get h.instances at) (λ i. named (rep_of (handle_in (view_of i index) resource)) h) (λ i is. named_lent (rep_of (handle_in (view_of i index) resource)) h)

told_lent : (l : Label) (h : Held) → LentBy h (told l h)
told_lent l h = lent_all h (record h { labels = h.labels ++ l ∷ [] }) refl refl

context_lent : (t number : ℕ) (h : Held) → LentBy h (context_of t number h)
context_lent t number h = lent_given h (slice_get h.tasks t) (λ slot. Gives (word_at number slot.context) h) (λ slot is. lent_same h)

set_lent : (t number word : ℕ) (h : Held) → LentBy h (context_set t number word h)
set_lent t number word h =
    lent_given h (slice_get h.tasks t) (λ slot. Gives (tt {0}) (with_task t (with_word number word slot) h))
    (λ x is.
    lent_quiet h (with_task t (with_word number word x) h)
    (quiet_task h t x (with_word number word x) is (λ n. refl) (λ p index. refl) (record { instance = refl; callee = refl; calls = λ called e. (called, e, refl, refl, refl) })))

context_answered : (t : ℕ) (words : List ℕ) (x : ContextOp) (slot : ℕ) (h : Held) → LentBy h (context_answer t words x slot h)
context_answered t words context_op.Get slot h = lent_after h (context_of t slot h) (λ word k. Gives (Some (word ∷ [])) k) (context_lent t slot h) (λ word k. lent_same k)
context_answered t words context_op.Set slot h =
    lent_given h (first_word words) (λ word. after (context_set t slot word h) (λ done k. Gives (Some []) k))
    (λ word is. lent_after h (context_set t slot word h) (λ done k. Gives (Some []) k) (set_lent t slot word h) (λ done k. lent_same k))

resource_answered : (at : ℕ) (words : List ℕ) (x : ResourceOp) (resource : ℕ) (h : Held) → LentBy h (resource_answer at words x resource h)
resource_answered at words resource_op.New resource h = lent_same h
resource_answered at words resource_op.Drop resource h = lent_same h
resource_answered at words resource_op.Rep resource h =
    lent_given h (first_word words) (λ index. after (rep_found at index resource h) (λ rep k. Gives (Some (rep ∷ [])) k))
    (λ index is. lent_after h (rep_found at index resource h) (λ rep k. Gives (Some (rep ∷ [])) k) (rep_lent at index resource h) (λ rep k. lent_same k))

builtin_answered : (t : ℕ) (words : List ℕ) (at : ℕ) (x : BuiltinKind) (h : Held) → LentBy h (builtin_answer t words at x h)
builtin_answered t words at (kind.Resource op resource) h = resource_answered at words op resource h
builtin_answered t words at (kind.TaskReturn result options) h = lent_same h
builtin_answered t words at (kind.Plain op) h = lent_same h
builtin_answered t words at (kind.Context op slot) h = context_answered t words op slot h
builtin_answered t words at (kind.Wait op cancellable memory) h = lent_same h
builtin_answered t words at (kind.End of_what element op) h = lent_same h

exempt_lent : (t : ℕ) (words : List ℕ) (c : CanonFunc) (h : Held) → LentBy h (exempt_answer t words c h)
exempt_lent t words (canon.Lower l) h = lent_same h
exempt_lent t words (canon.Builtin b) h = builtin_answered t words b.instance b.kind h

placed_lent : (o : Option ValType) (memory : Option ℕ) (place count : ℕ) (h : Held) → LentBy h (placed_well o memory place count h)
unfolding placed_well
placed_lent None memory place count h = lent_same h
placed_lent (Some element) memory place count h =
    let last : Done (Unit {0}) = if not (nat_le (place + count * (laid element).size) (length (bytes_at memory h.store))) then Traps trap.Bounds h else Gives (tt {0}) h in
    lent_if h (nat_eq count 0) (Gives (tt {0}) h) (if not (nat_eq (place % (laid element).align) 0) then Traps trap.Misaligned h else last) (lent_same h)
    (lent_if h (not (nat_eq (place % (laid element).align) 0)) (Traps trap.Misaligned h) last tt
    (lent_if h (not (nat_le (place + count * (laid element).size) (length (bytes_at memory h.store)))) (Traps trap.Bounds h) (Gives (tt {0}) h) tt (lent_same h)))

-- Streams and futures alone change.
channel_lent : (of_what : EndKind) (place : ℕ) (c : Channel) (h : Held) → Lent h (with_channel of_what place c h)
channel_lent Stream place c h = lent_all h (with_channel Stream place c h) refl refl
channel_lent Future place c h = lent_all h (with_channel Future place c h) refl refl

said_lent : {A : Type 0} (o : Option A) (of_what : EndKind) (place : ℕ) (c : Channel) (h : Held) → LentBy h (channel.answered o of_what place c h)
said_lent None of_what place c h = tt
said_lent (Some x) of_what place c h = channel_lent of_what place c h

offered_lent : (of_what : EndKind) (side : Side) (number : ℕ) (who : By) (canon address size : ℕ) (h : Held) → LentBy h (offered of_what side number who canon address size h)
offered_lent of_what side number who canon address size h =
    lent_given h (channel.place_of number) (λ place. channel.offered_at of_what place side who canon address size h)
    (λ place is.
    lent_given h (slice_get (channels of_what h) place)
    (λ c. channel.answered (if may_offer side size c.ends then Some (meet_in side who canon address size c.ends) else None) of_what place
    (if may_offer side size c.ends then with_ends (ends_of.offered side who canon address size c.ends) c else c) h)
    (λ c there.
    said_lent (if may_offer side size c.ends then Some (meet_in side who canon address size c.ends) else None) of_what place
    (if may_offer side size c.ends then with_ends (ends_of.offered side who canon address size c.ends) c else c) h))

arrives_pass : (h : Held) → PassBy h (arrives h)
unfolding arrives
arrives_pass h =
    let rest : ℕ → ℕ → Kind → Bool → Held → Done Flow = λ t at kind may n.
    if may then Gives flow.Enters n else
    after (gate_waited at n) (λ done o. after (parked t kind o) (λ done p. blocked t blocked_at.Entry false reason.Entry p)) in
    pass_after h (acting h) (λ t k. after (instance_of t k) (λ at l. after (kind_of t l) (λ kind m. after (may_enter at kind true m) (λ may n. rest t at kind may n)))) (acting_lent h)
    (λ t k.
    pass_after k (instance_of t k) (λ at l. after (kind_of t l) (λ kind m. after (may_enter at kind true m) (λ may n. rest t at kind may n))) (instance_lent t k)
    (λ at l.
    pass_after l (kind_of t l) (λ kind m. after (may_enter at kind true m) (λ may n. rest t at kind may n)) (kind_lent t l)
    (λ kind m.
    pass_after m (may_enter at kind true m) (λ may n. rest t at kind may n) (may_enter_lent at kind true m)
    (λ may n.
    pass_if n may (Gives flow.Enters n) (after (gate_waited at n) (λ done o. after (parked t kind o) (λ done p. blocked t blocked_at.Entry false reason.Entry p))) (λ so. lent_same n)
    (by_never n (after (gate_waited at n) (λ done o. after (parked t kind o) (λ done p. blocked t blocked_at.Entry false reason.Entry p))) (waits_to_never t at kind n))))))

met_pass : (g : Views) (c : CopyCall) (number : ℕ) (m : Meet) (h : Held) → PassBy h (met g c number m h)
met_pass g c number meet.Stands h = by_never h (offer_stands g c number h) (stands_never g c number h)
met_pass g c number (meet.Copies count) h = λ so. lent_same h
met_pass g c number meet.Dropped h = by_never h (answered_at_once c number 1 h) (at_once_never c number 1 h)
met_pass g c number meet.Displaces h = by_never h (offer_stands g c number h) (stands_never g c number h)
met_pass g c number meet.ZeroDone h = by_never h (answered_at_once c number 0 h) (at_once_never c number 0 h)
met_pass g c number meet.NothingNow h = by_never h (answered_at_once c number 0 h) (at_once_never c number 0 h)

meets_pass : (g : Views) (c : CopyCall) (number : ℕ) (h : Held) → PassBy h (meets g c number h)
unfolding meets
meets_pass g c number h =
    pass_after h (offered c.kind c.side number (by.Task c.task) c.canon c.place c.length h) (λ m k. met g c number m k) (offered_lent c.kind c.side number (by.Task c.task) c.canon c.place c.length h) (λ m k. met_pass g c number m k)

placed_pass : (g : Views) (element : Option ValType) (c : CopyCall) (number : ℕ) (is_inside : Bool) (h : Held) → PassBy h (placed_and_met g element c number is_inside h)
unfolding placed_and_met
placed_pass g element c number is_inside h =
    pass_after h (placed_well element (memory_of (g.options c.canon) h) c.place c.length h) (λ done k. if is_inside then Traps trap.SameInstance k else meets g c number k) (placed_lent element (memory_of (g.options c.canon) h) c.place c.length h)
    (λ done k. pass_if k is_inside (Traps trap.SameInstance k) (meets g c number k) tt (meets_pass g c number k))

copy_pass : (g : Views) (element : Option ValType) (c : CopyCall) (number : ℕ) (channel : Channel) (h : Held) → PassBy h (copy_tested g element c number channel h)
copy_pass g element c number channel h =
    let place : Done Flow = placed_and_met g element c number (is_within g c.at c.side element channel.ends) h in
    pass_if h (is_copying (end_in c.side channel.ends)) (Traps trap.Busy h)
    (if (end_in c.side channel.ends).done then Traps trap.DoneEnd h else if nat_lt most_elements c.length then Traps trap.TooLong h else place) tt
    (pass_if h (end_in c.side channel.ends).done (Traps trap.DoneEnd h) (if nat_lt most_elements c.length then Traps trap.TooLong h else place) tt
    (pass_if h (nat_lt most_elements c.length) (Traps trap.TooLong h) place tt (placed_pass g element c number (is_within g c.at c.side element channel.ends) h)))

reads_pass : (g : Views) (element : Option ValType) (c : CopyCall) (h : Held) → PassBy h (read_or_write g element c h)
unfolding read_or_write
reads_pass g element c h =
    pass_after h (end_found c.at c.side c.end_type c.index h) (λ e k. given (channel_at c.kind e.number k) (λ channel. copy_tested g element c e.number channel k)) (end_lent c.at c.side c.end_type c.index h)
    (λ e k. pass_given k (channel_at c.kind e.number k) (λ channel. copy_tested g element c e.number channel k) (λ channel. copy_pass g element c e.number channel k))

asked_pass : (g : Views) (element : Option ValType) (t at canon : ℕ) (of_what : EndKind) (side : Side) (type : ℕ) (words : List ℕ) (h : Held)
    → PassBy h (copy_asked g element t at canon of_what side type words h)
unfolding copy_asked
asked_pass g element t at canon of_what side type words h =
    pass_given h (word_in words 0)
    (λ index. given (word_in words 1) (λ place. given (length_in of_what words) (λ count. read_or_write g element (call_of t at canon of_what side type index place count) h)))
    (λ index.
    pass_given h (word_in words 1) (λ place. given (length_in of_what words) (λ count. read_or_write g element (call_of t at canon of_what side type index place count) h))
    (λ place.
    pass_given h (length_in of_what words) (λ count. read_or_write g element (call_of t at canon of_what side type index place count) h)
    (λ count. reads_pass g element (call_of t at canon of_what side type index place count) h)))

op_pass : (g : Graph) (element : Option ValType) (t at number : ℕ) (of_what : EndKind) (type : ℕ) (op : EndOp) (words : List ℕ) (h : Held)
    → PassBy h (op_reply g element t at number of_what type op words h)
op_pass g element t at number of_what type end_op.New words h = by_never h (channel_new t at of_what type h) (new_never t at of_what type h)
op_pass g element t at number of_what type (end_op.Copy side options) words h = asked_pass (ends.seen g) element t at number of_what (side_of side) type words h
op_pass g element t at number of_what type (end_op.Cancel side is_async) words h = by_never h (copy_cancel (ends.seen g) t at of_what (side_of side) type words h) (cancel_never (ends.seen g) t at of_what (side_of side) type words h)
op_pass g element t at number of_what type (end_op.Drop side) words h = by_never h (end_drop t at of_what (side_of side) type words h) (drop_never t at of_what (side_of side) type words h)

kind_pass : (g : Graph) (types : List (Option ℕ)) (element : Option ValType) (t at number : ℕ) (k : BuiltinKind) (words : List ℕ) (h : Held)
    → PassBy h (kind_reply g types element t at number k words h)
kind_pass g types element t at number (kind.Resource op resource) words h = tt
kind_pass g types element t at number (kind.TaskReturn result options) words h = tt
kind_pass g types element t at number (kind.Plain op) words h = tt
kind_pass g types element t at number (kind.Context op slot) words h = tt
kind_pass g types element t at number (kind.Wait op cancellable memory) words h = tt
kind_pass g types element t at number (kind.End of_what value op) words h =
    pass_given h (slice_get types number) (λ known. given known (λ type. op_reply g element t at number of_what type op words h))
    (λ known. pass_given h known (λ type. op_reply g element t at number of_what type op words h) (λ type. op_pass g element t at number of_what type op words h))

ends_pass : (g : Graph) (types : List (Option ℕ)) (element : Option ValType) (t number : ℕ) (c : CanonFunc) (words : List ℕ) (h : Held) → PassBy h (canon_reply g types element t number c words h)
ends_pass g types element t number (canon.Lower l) words h = tt
ends_pass g types element t number (canon.Builtin b) words h = kind_pass g types element t b.instance number b.kind words h

-- Calls of canonical functions.
returns_pass : (t : ℕ) (h : Held) → PassBy h (return_asked t h)
unfolding return_asked
returns_pass t h = pass_after h (happens t event.AskReturn h) (λ done k. Gives flow.Returns k) (lent_by_quiet h (happens t event.AskReturn h) (happens_quiet t event.AskReturn h)) (λ done k so. lent_same k)

builtin_pass : (g : Graph) (t at number : ℕ) (k : BuiltinKind) (words : List ℕ) (h : Held) → PassBy h (builtin_reply g t at number k words h)
builtin_pass g t at number (kind.Resource op resource) words h = pass_plain h (resource_reply g t at number op resource words h) (resource_reply_plain g t at number op resource words h)
builtin_pass g t at number (kind.TaskReturn result options) words h = returns_pass t h
builtin_pass g t at number (kind.Plain op) words h = pass_plain h (plain_reply g t at number op words h) (plain_reply_plain g t at number op words h)
builtin_pass g t at number (kind.Context op slot) words h = pass_plain h (context_reply t op slot words h) (context_reply_plain t op slot words h)
builtin_pass g t at number (kind.Wait op cancellable memory) words h = tt
builtin_pass g t at number (kind.End of_what element op) words h = tt

reply_pass : (g : Graph) (t number : ℕ) (c : CanonFunc) (words : List ℕ) (h : Held) → PassBy h (answered g t number c words h)
reply_pass g t number (canon.Lower l) words h = pass_plain h (lowered t number l.lift words h) (lowered_plain t number l.lift words h)
reply_pass g t number (canon.Builtin b) words h = builtin_pass g t b.instance number b.kind words h

by_kind_pass : (g : Graph) (types : List (Option ℕ)) (t number : ℕ) (c : CanonFunc) (at : ℕ) (k : BuiltinKind) (words : List ℕ) (h : Held) → PassBy h (kind_answered g types t number c at k words h)
by_kind_pass g types t number c at (kind.Resource op resource) words h = reply_pass g t number c words h
by_kind_pass g types t number c at (kind.TaskReturn result options) words h = reply_pass g t number c words h
by_kind_pass g types t number c at (kind.Plain op) words h = reply_pass g t number c words h
by_kind_pass g types t number c at (kind.Context op slot) words h = reply_pass g t number c words h
by_kind_pass g types t number c at (kind.Wait op cancellable memory) words h = pass_plain h (set_wait (seen g) t at number op words h) (set_wait_plain (seen g) t at number op words h)
by_kind_pass g types t number c at (kind.End of_what element op) words h = pass_given h (canon_at g number) (λ d. canon_reply g types (element_at g number) t number d words h) (λ d. ends_pass g types (element_at g number) t number d words h)

answered_pass : (g : Graph) (types : List (Option ℕ)) (t number : ℕ) (c : CanonFunc) (words : List ℕ) (h : Held) → PassBy h (canon_answered g types t number c words h)
answered_pass g types t number (canon.Lower l) words h = reply_pass g t number (canon.Lower l) words h
answered_pass g types t number (canon.Builtin b) words h = by_kind_pass g types t number (canon.Builtin b) b.instance b.kind words h

allowed_pass : (g : Graph) (types : List (Option ℕ)) (t number : ℕ) (c : CanonFunc) (words : List ℕ) (answer : Option (List ℕ)) (h : Held) → PassBy h (allowed_by g types t number c words answer h)
allowed_pass g types t number c words (Some answer) h = by_never h (got t answer h) (got_never t answer h)
allowed_pass g types t number c words None h =
    pass_if h (may_leave h) (canon_answered g types t number c words h) (Traps trap.CannotLeave h) (answered_pass g types t number c words h) tt

all_pass : (g : Graph) (types : List (Option ℕ)) (t number : ℕ) (c : CanonFunc) (words : List ℕ) (h : Held) → PassBy h (allowed g types t number c words h)
unfolding allowed
all_pass g types t number c words h =
    pass_after h (exempt_answer t words c h) (λ answer k. allowed_by g types t number c words answer k) (exempt_lent t words c h) (λ answer k. allowed_pass g types t number c words answer k)

calls_pass : (g : Graph) (types : List (Option ℕ)) (number : ℕ) (h : Held) → PassBy h (calls g types number h)
unfolding calls
calls_pass g types number h =
    pass_after h (acting h) (λ t k. given (canon_at g number) (λ c. after (words_of t k) (λ words l. after (begun t c words l) (λ done m. allowed g types t number c words m)))) (acting_lent h)
    (λ t k.
    pass_given k (canon_at g number) (λ c. after (words_of t k) (λ words l. after (begun t c words l) (λ done m. allowed g types t number c words m)))
    (λ c.
    pass_after k (words_of t k) (λ words l. after (begun t c words l) (λ done m. allowed g types t number c words m)) (words_lent t k)
    (λ words l. pass_after l (begun t c words l) (λ done m. allowed g types t number c words m) (told_lent (line.Do t (builtin_of c) words) l) (λ done m. all_pass g types t number c words m))))

-- A task that goes on.
by_pass : (t at : ℕ) (p : Phase) (h : Held) → PassBy h (resumed_by t at p h)
by_pass t at phase.New h = tt
by_pass t at phase.Acting h = tt
by_pass t at (phase.Blocked blocked_at.Entry flag) h = λ so. lent_same h
by_pass t at (phase.Blocked (blocked_at.Loop word) flag) h = by_never h (loop_resumed t at word h) (loop_never t at word h)
by_pass t at (phase.Blocked blocked_at.Yield flag) h = by_never h (resumed_from t at blocked_at.Yield h) (from_never t at blocked_at.Yield h)
by_pass t at (phase.Blocked (blocked_at.Set index) flag) h = by_never h (resumed_from t at (blocked_at.Set index) h) (from_never t at (blocked_at.Set index) h)
by_pass t at (phase.Blocked (blocked_at.Call callee) flag) h = by_never h (resumed_from t at (blocked_at.Call callee) h) (from_never t at (blocked_at.Call callee) h)
by_pass t at (phase.Blocked (blocked_at.Copy index) flag) h = by_never h (resumed_from t at (blocked_at.Copy index) h) (from_never t at (blocked_at.Copy index) h)
by_pass t at (phase.Blocked (blocked_at.Cancel index) flag) h = by_never h (resumed_from t at (blocked_at.Cancel index) h) (from_never t at (blocked_at.Cancel index) h)
by_pass t at phase.Exited h = tt

resumes_pass : (h : Held) → PassBy h (resumes h)
unfolding resumes
resumes_pass h =
    pass_after h (acting h) (λ t k. after (instance_of t k) (λ at l. after (phase_of t l) (λ far m. resumed_by t at far m))) (acting_lent h)
    (λ t k.
    pass_after k (instance_of t k) (λ at l. after (phase_of t l) (λ far m. resumed_by t at far m)) (instance_lent t k)
    (λ at l. pass_after l (phase_of t l) (λ far m. resumed_by t at far m) (phase_lent t l) (λ far m. by_pass t at far m)))

rests_never : (h : Held) → NeverOf IsPassed (after (goes h) (λ done k. Gives flow.Rests k))
rests_never h = no_after IsPassed (goes h) (λ done k. Gives flow.Rests k) (λ done k so. so)

pub woken_pass : (g : Graph) (types : List (Option ℕ)) (r : Rest) (h : Held) → PassBy h (woken g types r h)
woken_pass g types (rest.Instantiates number) h = tt
woken_pass g types rest.Free h = tt
woken_pass g types rest.Arrives h = arrives_pass h
woken_pass g types rest.Goes h = by_never h (after (goes h) (λ done k. Gives flow.Rests k)) (rests_never h)
woken_pass g types rest.Resumes h = resumes_pass h
woken_pass g types rest.Back h = by_never h (back (seen g) h) (back_never (seen g) h)
woken_pass g types rest.Runs h = tt
woken_pass g types (rest.Calls number) h = calls_pass g types number h
woken_pass g types rest.Leaves h = by_never h (leaves h) (leaves_never h)
