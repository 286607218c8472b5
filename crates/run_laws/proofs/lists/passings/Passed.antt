-- Values that are passed: lists of tasks stay as they follow from the tasks.
use Rattle.std.proofs.Common.{◌≡◌, ℕ, List, [], Option, Some, None, sym, subst}
use Rattle.std.specs.List.{slice_get}
use Rattle.syntax_trees.specs.declared.value.Value.{Value}
use Rattle.laid_types.specs.Known.{Numbered, numbered_at}
use Rattle.entry_gate.specs.declared.kind.Kind.{Kind}
use Rattle.entry_gate.specs.declared.kind.Kind.TheVariants.{Sync, Callback, Stackful}
use Rattle.comp_graph.specs.declared.graph.FuncRef.{FuncRef}
use Rattle.copy_replies.specs.declared.moving.Moving.{Moving}
use Rattle.copy_replies.specs.Moves.{moving, completed}
use Rattle.task_table.specs.declared.caller.Caller.{Caller}
use Rattle.task_table.specs.declared.caller.Caller.TheVariants.{Nobody, Host, Guest}
use Rattle.task_table.specs.declared.errand.Callee.{Callee}
use Rattle.task_table.specs.declared.errand.Callee.TheVariants as callee
use Rattle.programs.specs.declared.program.Program.{Program}
use Rattle.programs.specs.Program.{value_of}
use Rattle.trace_labels.specs.declared.label.Copied.TheVariants.{Units}
use Rattle.trace_labels.specs.declared.typed.TypedValue.{TypedValue}
use Rattle.world_parts.specs.declared.parts.Copying.{Copying}
use Rattle.world_parts.specs.declared.parts.Flow.{Flow}
use Rattle.world_parts.specs.declared.parts.Flow.TheVariants as flow
use Rattle.world_parts.specs.Held.{Held, Done, Gives, Stuck, given}
use Rattle.world_parts.specs.Feed.{acting, got}
use Rattle.world_parts.specs.Plain.{returned}
use Rattle.world_parts.specs.Slots.{kind_of, result_kept}
use Rattle.value_parts.specs.declared.to_pass.Passing.{Passing}
use Rattle.value_parts.specs.declared.to_pass.Passing.TheVariants as passing
use Rattle.value_parts.specs.Coming.{Then}
use Rattle.value_parts.specs.Lifting.{elements_lifted}
use Rattle.value_parts.specs.Passing.{arguments_lifted, ended_lifted, returned_lifted}
use Rattle.run_laws.proofs.lists.Feed.{acting_lists, got_lists}
use Rattle.run_laws.proofs.lists.Plain.{returned_lists}
use Rattle.run_laws.proofs.lists.Slots.{kind_of_lists, result_kept_lists}
use Rattle.value_moves.specs.Lowering.{LowersInto, LowersAll}
use Rattle.value_moves.specs.Lowered.{arguments_way, LowersPassed, arguments_entered, LowersArguments, result_way, LowersBack, LowersKept, LowersFor, LowersResult}
use Rattle.value_moves.specs.Entering.{words_passed, ValuesCome, ArgumentsCome, entered, started_by, Enters}
use Rattle.value_moves.specs.Resolving.{PassesOn, Resolves, ResolvesEnded, PostReturnsTo, Ends, return_tested, ReturnResolves, TestedResolves, Returns}
use Rattle.value_moves.specs.Transferring.{origin_of, reader_of, copied_values, Reads, MovesElements, MovesOver, Transfers}
use Rattle.value_moves.specs.Passing.{lift_at, async_ended, SyncEnds, KindEnds, call_at, ReturnsBy, PassesFor, Passes}
use Rattle.run_laws.proofs.lists.passings.Lifted.{arguments_lifted_lists, ended_lifted_lists, returned_lifted_lists, elements_lifted_lists}
use Rattle.run_laws.proofs.lists.passings.Lowering.{lowers_into_lists, lowers_all_lists}
use Rattle.run_laws.proofs.lists.passings.PostReturning.{post_returns_lists}
use Rattle.run_laws.proofs.lists.passings.Ways.{arguments_way_lists, arguments_entered_lists, result_way_lists}
use Rattle.run_laws.proofs.lists.passings.Entering.{words_passed_lists, entered_lists, started_by_lists}
use Rattle.run_laws.proofs.lists.passings.ReturnTested.{return_tested_lists}
use Rattle.run_laws.proofs.lists.passings.Ending.{lift_at_lists, async_ended_lists}
use Rattle.run_laws.proofs.lists.passings.Copying.{moving_lists, completed_lists}
use Rattle.run_laws.proofs.lists.Same.{ListsBy, lists_given, lists_same}
use Rattle.run_laws.proofs.lists.passings.Coming.{comes_lists, then_lists}

same_lists : {A : Type 0} (h : Held) (d e : Done A) → ListsBy h e → d ≡ e → ListsBy h d
same_lists h d e p is = subst (ListsBy h) (sym is) p

-- Arguments.
passed_lists : (p : Program) (t : ℕ) (v : Value) (h : Held) (d : Done (List ℕ)) → LowersPassed p t v h d → ListsBy h d
passed_lists p t v h d b =
    comes_lists h (arguments_way p t h) (λ w k e. LowersInto p w.to w.type v w.target k e) d (arguments_way_lists p t h) (λ w k is. lowers_into_lists p w.to w.type v w.target k d is) b

arguments_lists : (p : Program) (t : ℕ) (v : Value) (h : Held) (d : Done (List ℕ)) → LowersArguments p t v h d → ListsBy h d
arguments_lists p t v h d b =
    then_lists h (λ e. LowersPassed p t v h e) (λ words k e. e ≡ arguments_entered p t v words k) d (λ e is. passed_lists p t v h e is)
    (λ words k is. same_lists k d (arguments_entered p t v words k) (arguments_entered_lists p t v words k) is) b

values_come : (p : Program) (t : ℕ) (h : Held) (d : Done (List ℕ)) → ValuesCome p t h d → ListsBy h d
values_come p t h d b = comes_lists h (arguments_lifted p t h) (λ v k e. LowersArguments p t v k e) d (arguments_lifted_lists p t h) (λ v k is. arguments_lists p t v k d is) b

arguments_come : (p : Program) (t : ℕ) (c : Callee) (h : Held) (d : Done (List ℕ)) → ArgumentsCome p t c h d → ListsBy h d
arguments_come p t callee.Init h d b = values_come p t h d b
arguments_come p t (callee.Export number) h d b = values_come p t h d b
arguments_come p t (callee.Lowered number) h d b = values_come p t h d b
arguments_come p t (callee.Destroys resource) h d b = same_lists h d (words_passed t h) (words_passed_lists t h) b

enters_lists : (p : Program) (t : ℕ) (h : Held) (d : Done Flow) → Enters p t h d → ListsBy h d
enters_lists p t h d b =
    comes_lists h (entered t h) (λ c k e. Then (ArgumentsCome p t c k) (λ words l f. f ≡ started_by p c words l) e) d (entered_lists t h)
    (λ c k is.
    then_lists k (ArgumentsCome p t c k) (λ words l f. f ≡ started_by p c words l) d (λ e come. arguments_come p t c k e come)
    (λ words l same. same_lists l d (started_by p c words l) (started_by_lists p c words l) same) is) b

-- Results.
back_lists : (p : Program) (v : Value) (c : Callee) (by number : ℕ) (words : List ℕ) (h : Held) (d : Done (List ℕ)) → LowersBack p v c by number words h d → ListsBy h d
back_lists p v c by number words h d b =
    comes_lists h (result_way p c by number words h) (λ w k e. LowersInto p w.to w.type v w.target k e) d (result_way_lists p c by number words h)
    (λ w k is. lowers_into_lists p w.to w.type v w.target k d is) b

kept_lists : (p : Program) (t : ℕ) (v : Value) (c : Callee) (by number : ℕ) (words : List ℕ) (h : Held) (d : Done (Unit {0})) → LowersKept p t v c by number words h d → ListsBy h d
kept_lists p t v c by number words h d b =
    then_lists h (λ e. LowersBack p v c by number words h e) (λ results k e. e ≡ result_kept t results k) d (λ e is. back_lists p v c by number words h e is)
    (λ results k is. same_lists k d (result_kept t results k) (result_kept_lists t results k) is) b

for_lists : (p : Program) (t : ℕ) (v : Value) (c : Callee) (by : Caller) (h : Held) (d : Done (Unit {0})) → LowersFor p t v c by h d → ListsBy h d
for_lists p t v c Nobody h d b = same_lists h d (Gives tt h) (lists_same h) b
for_lists p t v c (Host call) h d b = same_lists h d (Gives tt h) (lists_same h) b
for_lists p t v c (Guest called) h d b = kept_lists p t v c called.by called.canon called.words h d b

result_lists : (p : Program) (t : ℕ) (v : Value) (h : Held) (d : Done (Unit {0})) → LowersResult p t v h d → ListsBy h d
result_lists p t v h d b =
    comes_lists h (given (slice_get h.tasks t) (λ slot. Gives slot h)) (λ slot k e. LowersFor p t v slot.callee slot.caller k e) d
    (lists_given h (slice_get h.tasks t) (λ slot. Gives slot h) (λ slot is. lists_same h)) (λ slot k is. for_lists p t v slot.callee slot.caller k d is) b

on_lists : (p : Program) (t : ℕ) (o : Option TypedValue) (h : Held) (d : Done (Unit {0})) → PassesOn p t o h d → ListsBy h d
on_lists p t None h d b = same_lists h d (Gives tt h) (lists_same h) b
on_lists p t (Some v) h d b = result_lists p t v.value h d b

resolves_lists : (p : Program) (t : ℕ) (value : Option TypedValue) (h : Held) (d : Done (Unit {0})) → Resolves p t value h d → ListsBy h d
resolves_lists p t value h d b = comes_lists h (returned t value h) (λ done k e. PassesOn p t value k e) d (returned_lists t value h) (λ done k is. on_lists p t value k d is) b

ended_lists : (p : Program) (t : ℕ) (words : List ℕ) (h : Held) (d : Done (Unit {0})) → ResolvesEnded p t words h d → ListsBy h d
ended_lists p t words h d b = comes_lists h (ended_lifted p t words h) (λ value k e. Resolves p t value k e) d (ended_lifted_lists p t words h) (λ value k is. resolves_lists p t value k d is) b

ends_lists : (p : Program) (t : ℕ) (post : Option FuncRef) (words : List ℕ) (h : Held) (d : Done (Unit {0})) → Ends p t post words h d → ListsBy h d
ends_lists p t post words h d b =
    then_lists h (ResolvesEnded p t words h) (λ done k e. PostReturnsTo p t post words k e) d (λ e is. ended_lists p t words h e is) (λ done k is. post_returns_lists p t post words k d is) b

return_lists : (p : Program) (t canon : ℕ) (h : Held) (d : Done (Unit {0})) → ReturnResolves p t canon h d → ListsBy h d
return_lists p t canon h d b = comes_lists h (returned_lifted p t canon h) (λ value k e. Resolves p t value k e) d (returned_lifted_lists p t canon h) (λ value k is. resolves_lists p t value k d is) b

tested_lists : (p : Program) (t canon : ℕ) (h : Held) (d : Done (Unit {0})) → TestedResolves p t canon h d → ListsBy h d
tested_lists p t canon h d b = comes_lists h (return_tested p t canon h) (λ tested k e. ReturnResolves p t canon k e) d (return_tested_lists p t canon h) (λ tested k is. return_lists p t canon k d is) b

returns_lists : (p : Program) (t canon : ℕ) (h : Held) (d : Done Flow) → Returns p t canon h d → ListsBy h d
returns_lists p t canon h d b =
    then_lists h (TestedResolves p t canon h) (λ done k e. e ≡ got t [] k) d (λ e is. tested_lists p t canon h e is) (λ done k is. same_lists k d (got t [] k) (got_lists t [] k) is) b

-- Elements.
reads_lists : (p : Program) (m : Moving) (t : Numbered) (values : List Value) (h : Held) (d : Done Flow) → Reads p m t values h d → ListsBy h d
reads_lists p m t values h d b =
    then_lists h (λ e. LowersAll p (reader_of m h) t values m.reader.place h e) (λ words k e. e ≡ completed m (copied_values t values) k) d
    (λ e is. lowers_all_lists p (reader_of m h) t values m.reader.place h e is)
    (λ words k is. same_lists k d (completed m (copied_values t values) k) (completed_lists m (copied_values t values) k) is) b

elements_lists : (p : Program) (m : Moving) (t : Numbered) (h : Held) (d : Done Flow) → MovesElements p m t h d → ListsBy h d
elements_lists p m t h d b =
    comes_lists h (elements_lifted (origin_of m) t m.writer.place m.count h) (λ values k e. Reads p m t values k e) d (elements_lifted_lists (origin_of m) t m.writer.place m.count h)
    (λ values k is. reads_lists p m t values k d is) b

over_lists : (p : Program) (m : Moving) (o : Option ℕ) (h : Held) (d : Done Flow) → MovesOver p m o h d → ListsBy h d
over_lists p m None h d b = same_lists h d (completed m (Units m.count) h) (completed_lists m (Units m.count) h) b
over_lists p m (Some number) h d b =
    comes_lists h (given (numbered_at p.types.now number) (λ t. Gives t h)) (λ t k e. MovesElements p m t k e) d
    (lists_given h (numbered_at p.types.now number) (λ t. Gives t h) (λ t is. lists_same h)) (λ t k is. elements_lists p m t k d is) b

transfers_lists : (p : Program) (t : ℕ) (x : Copying) (h : Held) (d : Done Flow) → Transfers p t x h d → ListsBy h d
transfers_lists p t x h d b =
    comes_lists h (moving p.graph.now t x h) (λ m k e. MovesOver p m (value_of p x.canon) k e) d (moving_lists p.graph.now t x h) (λ m k is. over_lists p m (value_of p x.canon) k d is) b

-- Whatever is passed.
sync_lists : (p : Program) (t : ℕ) (words : List ℕ) (h : Held) (d : Done Flow) → SyncEnds p t words h d → ListsBy h d
sync_lists p t words h d b =
    comes_lists h (lift_at p t h) (λ lift k e. Then (Ends p t lift.options.post_return words k) (λ done l f. f ≡ Gives flow.Rests l) e) d (lift_at_lists p t h)
    (λ lift k is.
    then_lists k (Ends p t lift.options.post_return words k) (λ done l f. f ≡ Gives flow.Rests l) d (λ e ends. ends_lists p t lift.options.post_return words k e ends)
    (λ done l same. same_lists l d (Gives flow.Rests l) (lists_same l) same) is) b

kind_lists : (p : Program) (t : ℕ) (words : List ℕ) (kind : Kind) (h : Held) (d : Done Flow) → KindEnds p t words kind h d → ListsBy h d
kind_lists p t words Sync h d b = sync_lists p t words h d b
kind_lists p t words Callback h d b = same_lists h d (async_ended t Callback words h) (async_ended_lists t Callback words h) b
kind_lists p t words Stackful h d b = same_lists h d (async_ended t Stackful words h) (async_ended_lists t Stackful words h) b

by_lists : (p : Program) (t : ℕ) (o : Option ℕ) (h : Held) (d : Done Flow) → ReturnsBy p t o h d → ListsBy h d
by_lists p t None h d b = same_lists h d Stuck tt b
by_lists p t (Some canon) h d b = returns_lists p t canon h d b

passes_for : (p : Program) (t : ℕ) (x : Passing) (h : Held) (d : Done Flow) → PassesFor p t x h d → ListsBy h d
passes_for p t passing.Nothing h d b = same_lists h d (Gives flow.Rests h) (lists_same h) b
passes_for p t passing.Arguments h d b = enters_lists p t h d b
passes_for p t passing.Returned h d b = by_lists p t (call_at h.rest) h d b
passes_for p t (passing.Ended words) h d b = comes_lists h (kind_of t h) (λ kind k e. KindEnds p t words kind k e) d (kind_of_lists t h) (λ kind k is. kind_lists p t words kind k d is) b
passes_for p t (passing.Elements copying) h d b = transfers_lists p t copying h d b

pub passes_lists : (p : Program) (x : Passing) (h : Held) (d : Done Flow) → Passes p x h d → ListsBy h d
passes_lists p x h d b = comes_lists h (acting h) (λ t k e. PassesFor p t x k e) d (acting_lists h) (λ t k is. passes_for p t x k d is) b
