-- Values are passed, but for ends of core functions: who runs, and how many tasks there are, stay.
use Rattle.std.proofs.Common.{◌≡◌, ℕ, List, [], Option, Some, None}
use Rattle.std.specs.List.{slice_get}
use Rattle.syntax_trees.specs.declared.value.Value.{Value}
use Rattle.laid_types.specs.Known.{Numbered, numbered_at}
use Rattle.copy_replies.specs.declared.moving.Moving.{Moving}
use Rattle.copy_replies.specs.Moves.{moving, completed}
use Rattle.task_table.specs.declared.caller.Caller.{Caller}
use Rattle.task_table.specs.declared.caller.Caller.TheVariants.{Nobody, Host, Guest}
use Rattle.task_table.specs.declared.errand.Callee.{Callee}
use Rattle.task_table.specs.declared.errand.Callee.TheVariants as callee
use Rattle.programs.specs.declared.program.Program.{Program}
use Rattle.programs.specs.Program.{value_of}
use Rattle.trace_labels.specs.declared.label.Copied.TheVariants.{Units}
use Rattle.trace_labels.specs.declared.typed.TypedValue.{TypedValue}
use Rattle.world_parts.specs.declared.parts.Copying.{Copying}
use Rattle.world_parts.specs.declared.parts.Flow.{Flow}
use Rattle.world_parts.specs.Held.{Held, Done, Gives, Stuck, given}
use Rattle.world_parts.specs.Feed.{got}
use Rattle.world_parts.specs.Plain.{returned}
use Rattle.world_parts.specs.Slots.{result_kept}
use Rattle.value_parts.specs.Coming.{Then}
use Rattle.value_parts.specs.Lifting.{elements_lifted}
use Rattle.value_parts.specs.Passing.{arguments_lifted, returned_lifted}
use Rattle.value_moves.specs.Lowering.{LowersInto, LowersAll}
use Rattle.value_moves.specs.Lowered.{arguments_way, LowersPassed, arguments_entered, LowersArguments, result_way, LowersBack, LowersKept, LowersFor, LowersResult}
use Rattle.value_moves.specs.Entering.{words_passed, ValuesCome, ArgumentsCome, entered, started_by, Enters}
use Rattle.value_moves.specs.Resolving.{PassesOn, Resolves, return_tested, ReturnResolves, TestedResolves, Returns}
use Rattle.value_moves.specs.Transferring.{origin_of, reader_of, copied_values, Reads, MovesElements, MovesOver, Transfers}
use Rattle.value_moves.specs.Passing.{ReturnsBy}
use Rattle.run_laws.proofs.chains.By.{ChainBy, chain_given, chain_same, chain_as, chain_behind, chain_then}
use Rattle.run_laws.proofs.chains.Copying.{moving_chain, completed_chain}
use Rattle.run_laws.proofs.chains.Entering.{words_passed_chain, entered_chain, started_by_chain}
use Rattle.run_laws.proofs.chains.Lifted.{arguments_lifted_chain, returned_lifted_chain, elements_lifted_chain}
use Rattle.run_laws.proofs.chains.Lowering.{lowers_into_chain, lowers_all_chain}
use Rattle.run_laws.proofs.chains.Parts.{got_chain, returned_chain, result_kept_chain}
use Rattle.run_laws.proofs.chains.ReturnTested.{return_tested_chain}
use Rattle.run_laws.proofs.chains.Ways.{arguments_way_chain, arguments_entered_chain, result_way_chain}

-- Arguments.
passed_chain : (p : Program) (t : ℕ) (v : Value) (h : Held) (d : Done (List ℕ)) → LowersPassed p t v h d → ChainBy h d
passed_chain p t v h d b =
    chain_behind h (arguments_way p t h) (λ w k e. LowersInto p w.to w.type v w.target k e) d (arguments_way_chain p t h) (λ w k is. lowers_into_chain p w.to w.type v w.target k d is) b

arguments_chain : (p : Program) (t : ℕ) (v : Value) (h : Held) (d : Done (List ℕ)) → LowersArguments p t v h d → ChainBy h d
arguments_chain p t v h d b =
    chain_then h (λ e. LowersPassed p t v h e) (λ words k e. e ≡ arguments_entered p t v words k) d (λ e is. passed_chain p t v h e is)
    (λ words k is. chain_as k d (arguments_entered p t v words k) (arguments_entered_chain p t v words k) is) b

values_come : (p : Program) (t : ℕ) (h : Held) (d : Done (List ℕ)) → ValuesCome p t h d → ChainBy h d
values_come p t h d b = chain_behind h (arguments_lifted p t h) (λ v k e. LowersArguments p t v k e) d (arguments_lifted_chain p t h) (λ v k is. arguments_chain p t v k d is) b

arguments_come : (p : Program) (t : ℕ) (c : Callee) (h : Held) (d : Done (List ℕ)) → ArgumentsCome p t c h d → ChainBy h d
arguments_come p t callee.Init h d b = values_come p t h d b
arguments_come p t (callee.Export number) h d b = values_come p t h d b
arguments_come p t (callee.Lowered number) h d b = values_come p t h d b
arguments_come p t (callee.Destroys resource) h d b = chain_as h d (words_passed t h) (words_passed_chain t h) b

pub enters_chain_for : (p : Program) (t : ℕ) (h : Held) (d : Done Flow) → Enters p t h d → ChainBy h d
enters_chain_for p t h d b =
    chain_behind h (entered t h) (λ c k e. Then (ArgumentsCome p t c k) (λ words l f. f ≡ started_by p c words l) e) d (entered_chain t h)
    (λ c k is.
    chain_then k (ArgumentsCome p t c k) (λ words l f. f ≡ started_by p c words l) d (λ e come. arguments_come p t c k e come)
    (λ words l same. chain_as l d (started_by p c words l) (started_by_chain p c words l) same) is) b

-- Results.
back_chain : (p : Program) (v : Value) (c : Callee) (by number : ℕ) (words : List ℕ) (h : Held) (d : Done (List ℕ)) → LowersBack p v c by number words h d → ChainBy h d
back_chain p v c by number words h d b =
    chain_behind h (result_way p c by number words h) (λ w k e. LowersInto p w.to w.type v w.target k e) d (result_way_chain p c by number words h)
    (λ w k is. lowers_into_chain p w.to w.type v w.target k d is) b

kept_chain : (p : Program) (t : ℕ) (v : Value) (c : Callee) (by number : ℕ) (words : List ℕ) (h : Held) (d : Done (Unit {0})) → LowersKept p t v c by number words h d → ChainBy h d
kept_chain p t v c by number words h d b =
    chain_then h (λ e. LowersBack p v c by number words h e) (λ results k e. e ≡ result_kept t results k) d (λ e is. back_chain p v c by number words h e is)
    (λ results k is. chain_as k d (result_kept t results k) (result_kept_chain t results k) is) b

for_chain : (p : Program) (t : ℕ) (v : Value) (c : Callee) (by : Caller) (h : Held) (d : Done (Unit {0})) → LowersFor p t v c by h d → ChainBy h d
for_chain p t v c Nobody h d b = chain_as h d (Gives tt h) (chain_same h) b
for_chain p t v c (Host call) h d b = chain_as h d (Gives tt h) (chain_same h) b
for_chain p t v c (Guest called) h d b = kept_chain p t v c called.by called.canon called.words h d b

result_chain : (p : Program) (t : ℕ) (v : Value) (h : Held) (d : Done (Unit {0})) → LowersResult p t v h d → ChainBy h d
result_chain p t v h d b =
    chain_behind h (given (slice_get h.tasks t) (λ slot. Gives slot h)) (λ slot k e. LowersFor p t v slot.callee slot.caller k e) d
    (chain_given h (slice_get h.tasks t) (λ slot. Gives slot h) (λ slot is. chain_same h)) (λ slot k is. for_chain p t v slot.callee slot.caller k d is) b

on_chain : (p : Program) (t : ℕ) (o : Option TypedValue) (h : Held) (d : Done (Unit {0})) → PassesOn p t o h d → ChainBy h d
on_chain p t None h d b = chain_as h d (Gives tt h) (chain_same h) b
on_chain p t (Some v) h d b = result_chain p t v.value h d b

resolves_chain : (p : Program) (t : ℕ) (value : Option TypedValue) (h : Held) (d : Done (Unit {0})) → Resolves p t value h d → ChainBy h d
resolves_chain p t value h d b = chain_behind h (returned t value h) (λ done k e. PassesOn p t value k e) d (returned_chain t value h) (λ done k is. on_chain p t value k d is) b

return_chain : (p : Program) (t canon : ℕ) (h : Held) (d : Done (Unit {0})) → ReturnResolves p t canon h d → ChainBy h d
return_chain p t canon h d b = chain_behind h (returned_lifted p t canon h) (λ value k e. Resolves p t value k e) d (returned_lifted_chain p t canon h) (λ value k is. resolves_chain p t value k d is) b

tested_chain : (p : Program) (t canon : ℕ) (h : Held) (d : Done (Unit {0})) → TestedResolves p t canon h d → ChainBy h d
tested_chain p t canon h d b = chain_behind h (return_tested p t canon h) (λ tested k e. ReturnResolves p t canon k e) d (return_tested_chain p t canon h) (λ tested k is. return_chain p t canon k d is) b

returns_chain : (p : Program) (t canon : ℕ) (h : Held) (d : Done Flow) → Returns p t canon h d → ChainBy h d
returns_chain p t canon h d b =
    chain_then h (TestedResolves p t canon h) (λ done k e. e ≡ got t [] k) d (λ e is. tested_chain p t canon h e is) (λ done k is. chain_as k d (got t [] k) (got_chain t [] k) is) b

-- Elements.
reads_chain : (p : Program) (m : Moving) (t : Numbered) (values : List Value) (h : Held) (d : Done Flow) → Reads p m t values h d → ChainBy h d
reads_chain p m t values h d b =
    chain_then h (λ e. LowersAll p (reader_of m h) t values m.reader.place h e) (λ words k e. e ≡ completed m (copied_values t values) k) d
    (λ e is. lowers_all_chain p (reader_of m h) t values m.reader.place h e is)
    (λ words k is. chain_as k d (completed m (copied_values t values) k) (completed_chain m (copied_values t values) k) is) b

elements_chain : (p : Program) (m : Moving) (t : Numbered) (h : Held) (d : Done Flow) → MovesElements p m t h d → ChainBy h d
elements_chain p m t h d b =
    chain_behind h (elements_lifted (origin_of m) t m.writer.place m.count h) (λ values k e. Reads p m t values k e) d (elements_lifted_chain (origin_of m) t m.writer.place m.count h)
    (λ values k is. reads_chain p m t values k d is) b

over_chain : (p : Program) (m : Moving) (o : Option ℕ) (h : Held) (d : Done Flow) → MovesOver p m o h d → ChainBy h d
over_chain p m None h d b = chain_as h d (completed m (Units m.count) h) (completed_chain m (Units m.count) h) b
over_chain p m (Some number) h d b =
    chain_behind h (given (numbered_at p.types.now number) (λ t. Gives t h)) (λ t k e. MovesElements p m t k e) d
    (chain_given h (numbered_at p.types.now number) (λ t. Gives t h) (λ t is. chain_same h)) (λ t k is. elements_chain p m t k d is) b

pub transfers_chain : (p : Program) (t : ℕ) (x : Copying) (h : Held) (d : Done Flow) → Transfers p t x h d → ChainBy h d
transfers_chain p t x h d b =
    chain_behind h (moving p.graph.now t x h) (λ m k e. MovesOver p m (value_of p x.canon) k e) d (moving_chain p.graph.now t x h) (λ m k is. over_chain p m (value_of p x.canon) k d is) b

-- So it is of `task.return`, where it was called.
pub returned_by_chain : (p : Program) (t : ℕ) (o : Option ℕ) (h : Held) (d : Done Flow) → ReturnsBy p t o h d → ChainBy h d
returned_by_chain p t None h d b = chain_as h d Stuck tt b
returned_by_chain p t (Some canon) h d b = returns_chain p t canon h d b
