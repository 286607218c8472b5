-- What may follow where values were passed: words, a rest, or a core function that starts; behind the end of a core function it is a rest.
use Rattle.std.proofs.Common.{◌≡◌, refl, sym, subst, ℕ, nat_lt, ◌-◌, Bool, true, false, if◌then◌else◌, is_none, List, [], ◌∷◌, length, take, Option, Some, None, Result, Ok, Err}
use Rattle.syntax_trees.specs.declared.value.Value.{Value}
use Rattle.laid_types.specs.Known.{Numbered, numbered_at}
use Rattle.entry_gate.specs.Callbacks.{callback_of}
use Rattle.entry_gate.specs.declared.callback.BadCode.{BadCode}
use Rattle.entry_gate.specs.declared.callback.Next.{Next}
use Rattle.entry_gate.specs.declared.callback.Next.TheVariants as next
use Rattle.entry_gate.specs.declared.kind.Kind.{Kind}
use Rattle.entry_gate.specs.declared.kind.Kind.TheVariants.{Sync, Callback, Stackful}
use Rattle.copy_replies.specs.declared.moving.Moving.{Moving}
use Rattle.copy_replies.specs.Moves.{channel_named, completed, completed_payload, moving}
use Rattle.graph_views.specs.Callees.{lift_of}
use Rattle.task_table.specs.declared.errand.Callee.{Callee}
use Rattle.tasks.specs.declared.event.BlockedAt.{BlockedAt}
use Rattle.tasks.specs.declared.event.BlockedAt.TheVariants as blocked_at
use Rattle.tasks.specs.declared.event.TaskEvent.TheVariants as event
use Rattle.trace_labels.specs.declared.label.BlockReason.{BlockReason}
use Rattle.trace_labels.specs.declared.label.BlockReason.TheVariants as reason
use Rattle.trace_labels.specs.declared.label.Copied.{Copied}
use Rattle.trace_labels.specs.declared.label.Copied.TheVariants.{Units}
use Rattle.trace_labels.specs.declared.label.Label.TheVariants as line
use Rattle.trace_labels.specs.declared.trap.TrapName.TheVariants as trap
use Rattle.programs.specs.declared.program.Program.{Program}
use Rattle.programs.specs.Program.{value_of}
use Rattle.world_parts.specs.declared.parts.Copying.{Copying}
use Rattle.world_parts.specs.declared.parts.Flow.{Flow}
use Rattle.world_parts.specs.declared.parts.Flow.TheVariants as flow
use Rattle.world_parts.specs.declared.parts.Rest.TheVariants as rest
use Rattle.world_parts.specs.Held.{Held, Done, Gives, Traps, Spent, Stuck, after, given}
use Rattle.world_parts.specs.Calls.{blocked}
use Rattle.world_parts.specs.Channels.{idle_seen, copied}
use Rattle.world_parts.specs.Entries.{end_idled, set_found, set_waited_on}
use Rattle.world_parts.specs.Feed.{told, at_rest, got, left_chain, rest_behind, unchained}
use Rattle.world_parts.specs.Gates.{gate_given_up}
use Rattle.world_parts.specs.Going.{ending, looped, looped_at_set, loops_by, loops}
use Rattle.world_parts.specs.Slots.{instance_of, kind_of, resolution_of, happens, word_in}
use Rattle.value_parts.specs.Coming.{Behind, Then}
use Rattle.value_parts.specs.Lifting.{elements_lifted}
use Rattle.value_moves.specs.Entering.{ArgumentsCome, entered, started_by, Enters}
use Rattle.value_moves.specs.Passing.{lift_at, async_ended, SyncEnds, KindEnds, FuncEnds, ReturnsBy}
use Rattle.value_moves.specs.Resolving.{Ends}
use Rattle.value_moves.specs.Transferring.{origin_of, copied_values, Reads, MovesElements, MovesOver, Transfers}
use Rattle.run_laws.proofs.plain.Only.{IsPlain}

-- By what a part gives. So it is of parts behind parts, and of what follows something that is looked up.
abbrev pub GivesBy : (Flow → Type 0) → Done Flow → Type 0
GivesBy P (Gives x k) = P x
GivesBy P (Traps why k) = Unit {0}
GivesBy P (Spent k) = Unit {0}
GivesBy P Stuck = Unit {0}

abbrev pub IsRest : Flow → Type 0
IsRest x = x ≡ flow.Rests

module _ (P : Flow → Type 0) where
  by_after : {A : Type 0} (d : Done A) (f : A → Held → Done Flow) → ((x : A) (k : Held) → GivesBy P (f x k)) → GivesBy P (after d f)
  by_after (Gives x k) f p = p x k
  by_after (Traps why k) f p = tt
  by_after (Spent k) f p = tt
  by_after Stuck f p = tt

  by_given : {A : Type 0} (o : Option A) (f : A → Done Flow) → ((x : A) → GivesBy P (f x)) → GivesBy P (given o f)
  by_given None f p = tt
  by_given (Some x) f p = p x

  by_if : (b : Bool) (d e : Done Flow) → GivesBy P d → GivesBy P e → GivesBy P (if b then d else e)
  by_if true d e p q = p
  by_if false d e p q = q

  by_same : (d e : Done Flow) → d ≡ e → GivesBy P e → GivesBy P d
  by_same d e is p = subst (λ (x : Done Flow). GivesBy P x) (sym is) p

  by_behind : {A : Type 0} (q : Done A) (F : A → Held → Done Flow → Type 0) (d : Done Flow) → ((x : A) (k : Held) → F x k d → GivesBy P d) → Behind q F d → GivesBy P d
  by_behind (Gives x k) F d p b = p x k b
  by_behind (Traps why k) F d p b = by_same d (Traps why k) b tt
  by_behind (Spent k) F d p b = by_same d (Spent k) b tt
  by_behind Stuck F d p b = by_same d Stuck b tt

-- The end of a core function or of a callback.
left_rests : (h : Held) → GivesBy IsRest (left_chain h)
left_rests h =
    by_if IsRest (nat_lt 0 (length h.chain)) (Gives flow.Rests (at_rest (rest_behind (take (length h.chain - 1) h.chain)) (unchained h))) Stuck refl tt

blocked_rests : (t : ℕ) (why : BlockedAt) (flag : Bool) (cause : BlockReason) (h : Held) → GivesBy IsRest (blocked t why flag cause h)
unfolding blocked
blocked_rests t why flag cause h =
    by_after IsRest (happens t (event.Block why flag) h) (λ done k. after (told (line.Block t cause) k) (λ done l. left_chain l))
    (λ done k. by_after IsRest (told (line.Block t cause) k) (λ done l. left_chain l) (λ done l. left_rests l))

ending_rests : (t : ℕ) (h : Held) → GivesBy IsRest (ending t h)
unfolding ending
ending_rests t h =
    by_after IsRest (resolution_of t h) (λ resolution k. if is_none resolution then Traps trap.Unresolved k else Gives flow.Rests (at_rest rest.Leaves k))
    (λ resolution k. by_if IsRest (is_none resolution) (Traps trap.Unresolved k) (Gives flow.Rests (at_rest rest.Leaves k)) tt refl)

looped_rests : (t at word : ℕ) (cause : BlockReason) (h : Held) → GivesBy IsRest (looped t at word cause h)
unfolding looped
looped_rests t at word cause h =
    by_after IsRest (gate_given_up at t h) (λ done k. blocked t (blocked_at.Loop word) false cause k) (λ done k. blocked_rests t (blocked_at.Loop word) false cause k)

set_rests : (t at word index : ℕ) (cause : BlockReason) (h : Held) → GivesBy IsRest (looped_at_set t at word index cause h)
unfolding looped_at_set
set_rests t at word index cause h =
    by_after IsRest (set_found at index h) (λ set k. after (set_waited_on at set k) (λ done l. looped t at word cause l))
    (λ set k. by_after IsRest (set_waited_on at set k) (λ done l. looped t at word cause l) (λ done l. looped_rests t at word cause l))

loop_rests : (t at word : ℕ) (r : Result Next BadCode) (h : Held) → GivesBy IsRest (loops_by t at word r h)
loop_rests t at word (Err why) h = tt
loop_rests t at word (Ok next.Exit) h = ending_rests t h
loop_rests t at word (Ok next.Yield) h = looped_rests t at word reason.Yield h
loop_rests t at word (Ok (next.Wait set)) h = set_rests t at word set (reason.Wait set) h
loop_rests t at word (Ok (next.Poll set)) h = set_rests t at word set (reason.Poll set) h

loops_rest : (t word : ℕ) (h : Held) → GivesBy IsRest (loops t word h)
unfolding loops
loops_rest t word h = by_after IsRest (instance_of t h) (λ at k. loops_by t at word (callback_of word) k) (λ at k. loop_rests t at word (callback_of word) k)

sync_ended : (p : Program) (t : ℕ) (words : List ℕ) (h : Held) (d : Done Flow) → SyncEnds p t words h d → GivesBy IsRest d
sync_ended p t words h d b =
    by_behind IsRest (lift_at p t h) (λ lift k e. Then (Ends p t lift.options.post_return words k) (λ done l f. f ≡ Gives flow.Rests l) e) d
    (λ lift k ends. by_behind IsRest ends.0 (λ (done : Unit {0}) l f. f ≡ Gives flow.Rests l) d (λ done l is. by_same IsRest d (Gives flow.Rests l) is refl) ends.2) b

kind_rests : (p : Program) (t : ℕ) (words : List ℕ) (kind : Kind) (h : Held) (d : Done Flow) → KindEnds p t words kind h d → GivesBy IsRest d
kind_rests p t words Sync h d b = sync_ended p t words h d b
kind_rests p t words Callback h d b =
    by_same IsRest d (async_ended t Callback words h) b (by_given IsRest (word_in words 0) (λ word. loops t word h) (λ word. loops_rest t word h))
kind_rests p t words Stackful h d b = by_same IsRest d (ending t h) b (ending_rests t h)

pub ended_rests : (p : Program) (t : ℕ) (words : List ℕ) (h : Held) (d : Done Flow) → FuncEnds p t words h d → GivesBy IsRest d
ended_rests p t words h d b = by_behind IsRest (kind_of t h) (λ kind k e. KindEnds p t words kind k e) d (λ kind k ends. kind_rests p t words kind k d ends) b

-- Arguments.
started_plain : (p : Program) (c : Callee) (words : List ℕ) (h : Held) → GivesBy IsPlain (started_by p c words h)
started_plain p c words h = by_given IsPlain (lift_of p.graph.now c) (λ lift. Gives (flow.Starts lift.core words) (at_rest rest.Runs h)) (λ lift. tt)

pub entered_plain : (p : Program) (t : ℕ) (h : Held) (d : Done Flow) → Enters p t h d → GivesBy IsPlain d
entered_plain p t h d b =
    by_behind IsPlain (entered t h) (λ callee k e. Then (ArgumentsCome p t callee k) (λ words l f. f ≡ started_by p callee words l) e) d
    (λ callee k comes.
    by_behind IsPlain comes.0 (λ words l f. f ≡ started_by p callee words l) d (λ words l is. by_same IsPlain d (started_by p callee words l) is (started_plain p callee words l)) comes.2) b

-- A result.
pub returned_plain : (p : Program) (t : ℕ) (o : Option ℕ) (h : Held) (d : Done Flow) → ReturnsBy p t o h d → GivesBy IsPlain d
returned_plain p t None h d b = by_same IsPlain d Stuck b tt
returned_plain p t (Some canon) h d b = by_behind IsPlain b.0 (λ (done : Unit {0}) k e. e ≡ got t [] k) d (λ done k is. by_same IsPlain d (got t [] k) is tt) b.2

-- Elements.
completed_plain : (m : Moving) (what : Copied) (h : Held) → GivesBy IsPlain (completed m what h)
unfolding completed
completed_plain m what h =
    by_after IsPlain (copied m.kind m.number m.count h)
    (λ done k. after (told (line.Copy (channel_named m.kind m.number) what) k) (λ done l.
    after (idle_seen m.kind m.side m.number l) (λ is_idle n. after (end_idled m.at m.index is_idle n) (λ done o. got m.task (completed_payload m.kind m.count ∷ []) o))))
    (λ done k.
    by_after IsPlain (told (line.Copy (channel_named m.kind m.number) what) k)
    (λ done l. after (idle_seen m.kind m.side m.number l) (λ is_idle n. after (end_idled m.at m.index is_idle n) (λ done o. got m.task (completed_payload m.kind m.count ∷ []) o)))
    (λ done l.
    by_after IsPlain (idle_seen m.kind m.side m.number l) (λ is_idle n. after (end_idled m.at m.index is_idle n) (λ done o. got m.task (completed_payload m.kind m.count ∷ []) o))
    (λ is_idle n. by_after IsPlain (end_idled m.at m.index is_idle n) (λ done o. got m.task (completed_payload m.kind m.count ∷ []) o) (λ done o. tt))))

reads_plain : (p : Program) (m : Moving) (t : Numbered) (values : List Value) (h : Held) (d : Done Flow) → Reads p m t values h d → GivesBy IsPlain d
reads_plain p m t values h d b =
    by_behind IsPlain b.0 (λ words k e. e ≡ completed m (copied_values t values) k) d
    (λ words k is. by_same IsPlain d (completed m (copied_values t values) k) is (completed_plain m (copied_values t values) k)) b.2

over_plain : (p : Program) (m : Moving) (o : Option ℕ) (h : Held) (d : Done Flow) → MovesOver p m o h d → GivesBy IsPlain d
over_plain p m None h d b = by_same IsPlain d (completed m (Units m.count) h) b (completed_plain m (Units m.count) h)
over_plain p m (Some number) h d b =
    by_behind IsPlain (given (numbered_at p.types.now number) (λ t. Gives t h)) (λ t k e. MovesElements p m t k e) d
    (λ t k moves.
    by_behind IsPlain (elements_lifted (origin_of m) t m.writer.place m.count k) (λ values l e. Reads p m t values l e) d (λ values l reads. reads_plain p m t values l d reads) moves) b

pub transferred_plain : (p : Program) (t : ℕ) (x : Copying) (h : Held) (d : Done Flow) → Transfers p t x h d → GivesBy IsPlain d
transferred_plain p t x h d b =
    by_behind IsPlain (moving p.graph.now t x h) (λ m k e. MovesOver p m (value_of p x.canon) k e) d (λ m k moves. over_plain p m (value_of p x.canon) k d moves) b
