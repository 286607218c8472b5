-- Values that are passed: the store stays typed and grows, and a handle is lent at most as often more as lifting may count.
use Rattle.std.proofs.Common.{◌≡◌, ℕ, List, [], Option, Some, None, refl, sym, subst}
use Rattle.std.specs.List.{slice_get}
use Rattle.syntax_trees.specs.declared.value.Value.{Value}
use Rattle.laid_types.specs.Known.{Numbered, numbered_at}
use Rattle.entry_gate.specs.declared.kind.Kind.{Kind}
use Rattle.entry_gate.specs.declared.kind.Kind.TheVariants.{Sync, Callback, Stackful}
use Rattle.comp_graph.specs.declared.graph.FuncRef.{FuncRef}
use Rattle.copy_replies.specs.declared.moving.Moving.{Moving}
use Rattle.copy_replies.specs.Moves.{moving, completed}
use Rattle.task_table.specs.declared.caller.Caller.{Caller}
use Rattle.task_table.specs.declared.caller.Caller.TheVariants.{Nobody, Host, Guest}
use Rattle.task_table.specs.declared.errand.Callee.{Callee}
use Rattle.task_table.specs.declared.errand.Callee.TheVariants as callee
use Rattle.programs.specs.declared.program.Program.{Program}
use Rattle.programs.specs.Program.{value_of}
use Rattle.trace_labels.specs.declared.label.Copied.TheVariants.{Units}
use Rattle.trace_labels.specs.declared.typed.TypedValue.{TypedValue}
use Rattle.world_parts.specs.declared.parts.Copying.{Copying}
use Rattle.world_parts.specs.declared.parts.Flow.{Flow}
use Rattle.world_parts.specs.declared.parts.Flow.TheVariants as flow
use Rattle.world_parts.specs.Held.{Held, Done, Gives, Stuck, given}
use Rattle.world_parts.specs.Feed.{acting, got}
use Rattle.world_parts.specs.Plain.{returned}
use Rattle.world_parts.specs.Slots.{kind_of, result_kept}
use Rattle.value_parts.specs.declared.to_pass.Passing.{Passing}
use Rattle.value_parts.specs.declared.to_pass.Passing.TheVariants as passing
use Rattle.value_parts.specs.Coming.{Then}
use Rattle.value_parts.specs.Lifting.{elements_lifted}
use Rattle.value_parts.specs.Passing.{arguments_lifted, ended_lifted, returned_lifted}
use Rattle.value_parts.proofs.fit.Keeps.{KeepsBy, keeps_given, keeps_same}
use Rattle.value_parts.proofs.fit.Feed.{acting_keeps, got_keeps}
use Rattle.value_parts.proofs.fit.Plain.{returned_keeps}
use Rattle.value_parts.proofs.fit.Slots.{kind_of_keeps, result_kept_keeps}
use Rattle.value_moves.specs.Lowering.{LowersInto, LowersAll}
use Rattle.value_moves.specs.Lowered.{arguments_way, LowersPassed, arguments_entered, LowersArguments, result_way, LowersBack, LowersKept, LowersFor, LowersResult}
use Rattle.value_moves.specs.Entering.{words_passed, ValuesCome, ArgumentsCome, entered, started_by, Enters}
use Rattle.value_moves.specs.Resolving.{PassesOn, Resolves, ResolvesEnded, PostReturnsTo, Ends, return_tested, ReturnResolves, TestedResolves, Returns}
use Rattle.value_moves.specs.Transferring.{origin_of, reader_of, copied_values, Reads, MovesElements, MovesOver, Transfers}
use Rattle.value_moves.specs.Passing.{lift_at, async_ended, SyncEnds, KindEnds, FuncEnds, call_at, ReturnsBy, PassesFor, Passes}
use Rattle.value_moves.proofs.fit.Raising.{RaisesBy, keeps_raises, raises_behind, raises_then, behind_raises, keeps_behind, keeps_then}
use Rattle.value_moves.proofs.fit.Lifted.{arguments_lifted_raises, ended_lifted_raises, returned_lifted_raises, elements_lifted_raises}
use Rattle.value_moves.proofs.fit.Lowering.{lowers_into_keeps, lowers_all_keeps}
use Rattle.value_moves.proofs.fit.PostReturning.{post_returns_keep}
use Rattle.value_moves.proofs.fit.Ways.{arguments_way_keeps, arguments_entered_keeps, result_way_keeps}
use Rattle.value_moves.proofs.fit.Entering.{words_passed_keeps, entered_keeps, started_by_keeps}
use Rattle.value_moves.proofs.fit.ReturnTested.{return_tested_keeps}
use Rattle.value_moves.proofs.fit.Ending.{lift_at_keeps, async_ended_keeps}
use Rattle.value_moves.proofs.fit.Copying.{moving_keeps, completed_keeps}

same_keeps : {A : Type 0} (h : Held) (d e : Done A) → KeepsBy h e → d ≡ e → KeepsBy h d
same_keeps h d e p is = subst (KeepsBy h) (sym is) p

same_raises : {A : Type 0} (h : Held) (d e : Done A) → KeepsBy h e → d ≡ e → RaisesBy h d
same_raises h d e p is = keeps_raises h d (same_keeps h d e p is)

-- Arguments.
passed_keeps : (p : Program) (t : ℕ) (v : Value) (h : Held) (d : Done (List ℕ)) → LowersPassed p t v h d → KeepsBy h d
passed_keeps p t v h d b =
    keeps_behind h (arguments_way p t h) (λ w k e. LowersInto p w.to w.type v w.target k e) d (arguments_way_keeps p t h) (λ w k is. lowers_into_keeps p w.to w.type v w.target k d is) b

arguments_keep : (p : Program) (t : ℕ) (v : Value) (h : Held) (d : Done (List ℕ)) → LowersArguments p t v h d → KeepsBy h d
arguments_keep p t v h d b =
    keeps_then h (λ e. LowersPassed p t v h e) (λ words k e. e ≡ arguments_entered p t v words k) d (λ e is. passed_keeps p t v h e is)
    (λ words k is. same_keeps k d (arguments_entered p t v words k) (arguments_entered_keeps p t v words k) is) b

values_come : (p : Program) (t : ℕ) (h : Held) (d : Done (List ℕ)) → ValuesCome p t h d → RaisesBy h d
values_come p t h d b = raises_behind h (arguments_lifted p t h) (λ v k e. LowersArguments p t v k e) d (arguments_lifted_raises p t h) (λ v k is. arguments_keep p t v k d is) b

arguments_come : (p : Program) (t : ℕ) (c : Callee) (h : Held) (d : Done (List ℕ)) → ArgumentsCome p t c h d → RaisesBy h d
arguments_come p t callee.Init h d b = values_come p t h d b
arguments_come p t (callee.Export number) h d b = values_come p t h d b
arguments_come p t (callee.Lowered number) h d b = values_come p t h d b
arguments_come p t (callee.Destroys resource) h d b = same_raises h d (words_passed t h) (words_passed_keeps t h) b

enters_raise : (p : Program) (t : ℕ) (h : Held) (d : Done Flow) → Enters p t h d → RaisesBy h d
enters_raise p t h d b =
    behind_raises h (entered t h) (λ c k e. Then (ArgumentsCome p t c k) (λ words l f. f ≡ started_by p c words l) e) d (entered_keeps t h)
    (λ c k is.
    raises_then k (ArgumentsCome p t c k) (λ words l f. f ≡ started_by p c words l) d (λ e come. arguments_come p t c k e come)
    (λ words l same. same_keeps l d (started_by p c words l) (started_by_keeps p c words l) same) is) b

-- Results.
back_keeps : (p : Program) (v : Value) (c : Callee) (by number : ℕ) (words : List ℕ) (h : Held) (d : Done (List ℕ)) → LowersBack p v c by number words h d → KeepsBy h d
back_keeps p v c by number words h d b =
    keeps_behind h (result_way p c by number words h) (λ w k e. LowersInto p w.to w.type v w.target k e) d (result_way_keeps p c by number words h)
    (λ w k is. lowers_into_keeps p w.to w.type v w.target k d is) b

kept_keeps : (p : Program) (t : ℕ) (v : Value) (c : Callee) (by number : ℕ) (words : List ℕ) (h : Held) (d : Done (Unit {0})) → LowersKept p t v c by number words h d → KeepsBy h d
kept_keeps p t v c by number words h d b =
    keeps_then h (λ e. LowersBack p v c by number words h e) (λ results k e. e ≡ result_kept t results k) d (λ e is. back_keeps p v c by number words h e is)
    (λ results k is. same_keeps k d (result_kept t results k) (result_kept_keeps t results k) is) b

for_keeps : (p : Program) (t : ℕ) (v : Value) (c : Callee) (by : Caller) (h : Held) (d : Done (Unit {0})) → LowersFor p t v c by h d → KeepsBy h d
for_keeps p t v c Nobody h d b = same_keeps h d (Gives tt h) (keeps_same h) b
for_keeps p t v c (Host call) h d b = same_keeps h d (Gives tt h) (keeps_same h) b
for_keeps p t v c (Guest called) h d b = kept_keeps p t v c called.by called.canon called.words h d b

result_keeps : (p : Program) (t : ℕ) (v : Value) (h : Held) (d : Done (Unit {0})) → LowersResult p t v h d → KeepsBy h d
result_keeps p t v h d b =
    keeps_behind h (given (slice_get h.tasks t) (λ slot. Gives slot h)) (λ slot k e. LowersFor p t v slot.callee slot.caller k e) d
    (keeps_given h (slice_get h.tasks t) (λ slot. Gives slot h) (λ slot is. keeps_same h)) (λ slot k is. for_keeps p t v slot.callee slot.caller k d is) b

on_keeps : (p : Program) (t : ℕ) (o : Option TypedValue) (h : Held) (d : Done (Unit {0})) → PassesOn p t o h d → KeepsBy h d
on_keeps p t None h d b = same_keeps h d (Gives tt h) (keeps_same h) b
on_keeps p t (Some v) h d b = result_keeps p t v.value h d b

resolves_keep : (p : Program) (t : ℕ) (value : Option TypedValue) (h : Held) (d : Done (Unit {0})) → Resolves p t value h d → KeepsBy h d
resolves_keep p t value h d b = keeps_behind h (returned t value h) (λ done k e. PassesOn p t value k e) d (returned_keeps t value h) (λ done k is. on_keeps p t value k d is) b

ended_raises : (p : Program) (t : ℕ) (words : List ℕ) (h : Held) (d : Done (Unit {0})) → ResolvesEnded p t words h d → RaisesBy h d
ended_raises p t words h d b = raises_behind h (ended_lifted p t words h) (λ value k e. Resolves p t value k e) d (ended_lifted_raises p t words h) (λ value k is. resolves_keep p t value k d is) b

ends_raise : (p : Program) (t : ℕ) (post : Option FuncRef) (words : List ℕ) (h : Held) (d : Done (Unit {0})) → Ends p t post words h d → RaisesBy h d
ends_raise p t post words h d b =
    raises_then h (ResolvesEnded p t words h) (λ done k e. PostReturnsTo p t post words k e) d (λ e is. ended_raises p t words h e is) (λ done k is. post_returns_keep p t post words k d is) b

return_raises : (p : Program) (t canon : ℕ) (h : Held) (d : Done (Unit {0})) → ReturnResolves p t canon h d → RaisesBy h d
return_raises p t canon h d b = raises_behind h (returned_lifted p t canon h) (λ value k e. Resolves p t value k e) d (returned_lifted_raises p t canon h) (λ value k is. resolves_keep p t value k d is) b

tested_raises : (p : Program) (t canon : ℕ) (h : Held) (d : Done (Unit {0})) → TestedResolves p t canon h d → RaisesBy h d
tested_raises p t canon h d b = behind_raises h (return_tested p t canon h) (λ tested k e. ReturnResolves p t canon k e) d (return_tested_keeps p t canon h) (λ tested k is. return_raises p t canon k d is) b

returns_raise : (p : Program) (t canon : ℕ) (h : Held) (d : Done Flow) → Returns p t canon h d → RaisesBy h d
returns_raise p t canon h d b =
    raises_then h (TestedResolves p t canon h) (λ done k e. e ≡ got t [] k) d (λ e is. tested_raises p t canon h e is) (λ done k is. same_keeps k d (got t [] k) (got_keeps t [] k) is) b

-- Elements.
reads_keep : (p : Program) (m : Moving) (t : Numbered) (values : List Value) (h : Held) (d : Done Flow) → Reads p m t values h d → KeepsBy h d
reads_keep p m t values h d b =
    keeps_then h (λ e. LowersAll p (reader_of m h) t values m.reader.place h e) (λ words k e. e ≡ completed m (copied_values t values) k) d
    (λ e is. lowers_all_keeps p (reader_of m h) t values m.reader.place h e is)
    (λ words k is. same_keeps k d (completed m (copied_values t values) k) (completed_keeps m (copied_values t values) k) is) b

elements_raise : (p : Program) (m : Moving) (t : Numbered) (h : Held) (d : Done Flow) → MovesElements p m t h d → RaisesBy h d
elements_raise p m t h d b =
    raises_behind h (elements_lifted (origin_of m) t m.writer.place m.count h) (λ values k e. Reads p m t values k e) d (elements_lifted_raises (origin_of m) t m.writer.place m.count h)
    (λ values k is. reads_keep p m t values k d is) b

over_raises : (p : Program) (m : Moving) (o : Option ℕ) (h : Held) (d : Done Flow) → MovesOver p m o h d → RaisesBy h d
over_raises p m None h d b = same_raises h d (completed m (Units m.count) h) (completed_keeps m (Units m.count) h) b
over_raises p m (Some number) h d b =
    behind_raises h (given (numbered_at p.types.now number) (λ t. Gives t h)) (λ t k e. MovesElements p m t k e) d
    (keeps_given h (numbered_at p.types.now number) (λ t. Gives t h) (λ t is. keeps_same h)) (λ t k is. elements_raise p m t k d is) b

transfers_raise : (p : Program) (t : ℕ) (x : Copying) (h : Held) (d : Done Flow) → Transfers p t x h d → RaisesBy h d
transfers_raise p t x h d b =
    behind_raises h (moving p.graph.now t x h) (λ m k e. MovesOver p m (value_of p x.canon) k e) d (moving_keeps p.graph.now t x h) (λ m k is. over_raises p m (value_of p x.canon) k d is) b

-- Whatever is passed.
sync_raises : (p : Program) (t : ℕ) (words : List ℕ) (h : Held) (d : Done Flow) → SyncEnds p t words h d → RaisesBy h d
sync_raises p t words h d b =
    behind_raises h (lift_at p t h) (λ lift k e. Then (Ends p t lift.options.post_return words k) (λ done l f. f ≡ Gives flow.Rests l) e) d (lift_at_keeps p t h)
    (λ lift k is.
    raises_then k (Ends p t lift.options.post_return words k) (λ done l f. f ≡ Gives flow.Rests l) d (λ e ends. ends_raise p t lift.options.post_return words k e ends)
    (λ done l same. same_keeps l d (Gives flow.Rests l) (keeps_same l) same) is) b

kind_raises : (p : Program) (t : ℕ) (words : List ℕ) (kind : Kind) (h : Held) (d : Done Flow) → KindEnds p t words kind h d → RaisesBy h d
kind_raises p t words Sync h d b = sync_raises p t words h d b
kind_raises p t words Callback h d b = same_raises h d (async_ended t Callback words h) (async_ended_keeps t Callback words h) b
kind_raises p t words Stackful h d b = same_raises h d (async_ended t Stackful words h) (async_ended_keeps t Stackful words h) b

by_raises : (p : Program) (t : ℕ) (o : Option ℕ) (h : Held) (d : Done Flow) → ReturnsBy p t o h d → RaisesBy h d
by_raises p t None h d b = same_raises h d Stuck tt b
by_raises p t (Some canon) h d b = returns_raise p t canon h d b

passes_for : (p : Program) (t : ℕ) (x : Passing) (h : Held) (d : Done Flow) → PassesFor p t x h d → RaisesBy h d
passes_for p t passing.Nothing h d b = same_raises h d (Gives flow.Rests h) (keeps_same h) b
passes_for p t passing.Arguments h d b = enters_raise p t h d b
passes_for p t passing.Returned h d b = by_raises p t (call_at h.rest) h d b
passes_for p t (passing.Ended words) h d b = behind_raises h (kind_of t h) (λ kind k e. KindEnds p t words kind k e) d (kind_of_keeps t h) (λ kind k is. kind_raises p t words kind k d is) b
passes_for p t (passing.Elements copying) h d b = transfers_raise p t copying h d b

pub passes_raise : (p : Program) (x : Passing) (h : Held) (d : Done Flow) → Passes p x h d → RaisesBy h d
passes_raise p x h d b = behind_raises h (acting h) (λ t k e. PassesFor p t x k e) d (acting_keeps h) (λ t k is. passes_for p t x k d is) b
