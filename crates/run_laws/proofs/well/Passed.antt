-- Values are passed, but for ends of core functions: what is kept well stays so.
use Rattle.std.proofs.Common.{◌≡◌, ℕ, List, [], Option, Some, None}
use Rattle.std.specs.List.{slice_get}
use Rattle.syntax_trees.specs.declared.value.Value.{Value}
use Rattle.laid_types.specs.Known.{Numbered, numbered_at}
use Rattle.copy_replies.specs.declared.moving.Moving.{Moving}
use Rattle.copy_replies.specs.Moves.{moving, completed}
use Rattle.task_table.specs.declared.caller.Caller.{Caller}
use Rattle.task_table.specs.declared.caller.Caller.TheVariants.{Nobody, Host, Guest}
use Rattle.task_table.specs.declared.errand.Callee.{Callee}
use Rattle.task_table.specs.declared.errand.Callee.TheVariants as callee
use Rattle.programs.specs.declared.program.Program.{Program}
use Rattle.programs.specs.Program.{value_of}
use Rattle.trace_labels.specs.declared.label.Copied.TheVariants.{Units}
use Rattle.trace_labels.specs.declared.typed.TypedValue.{TypedValue}
use Rattle.world_parts.specs.declared.parts.Copying.{Copying}
use Rattle.world_parts.specs.declared.parts.Flow.{Flow}
use Rattle.world_parts.specs.Held.{Held, Done, Gives, Stuck, given}
use Rattle.world_parts.specs.Feed.{got}
use Rattle.world_parts.specs.Plain.{returned}
use Rattle.world_parts.specs.Slots.{result_kept}
use Rattle.value_parts.specs.Coming.{Then}
use Rattle.value_parts.specs.Lifting.{elements_lifted}
use Rattle.value_parts.specs.Passing.{arguments_lifted, returned_lifted}
use Rattle.value_moves.specs.Lowering.{LowersInto, LowersAll}
use Rattle.value_moves.specs.Lowered.{arguments_way, LowersPassed, arguments_entered, LowersArguments, result_way, LowersBack, LowersKept, LowersFor, LowersResult}
use Rattle.value_moves.specs.Entering.{words_passed, ValuesCome, ArgumentsCome, entered, started_by, Enters}
use Rattle.value_moves.specs.Resolving.{PassesOn, Resolves, return_tested, ReturnResolves, TestedResolves, Returns}
use Rattle.value_moves.specs.Transferring.{origin_of, reader_of, copied_values, Reads, MovesElements, MovesOver, Transfers}
use Rattle.value_moves.specs.Passing.{ReturnsBy}
use Rattle.run_laws.specs.keeping.Well.{KeepsWell}
use Rattle.run_laws.proofs.well.Behind.{well_given, well_same}
use Rattle.run_laws.proofs.well.Coming.{well_as, well_coming, well_then}
use Rattle.run_laws.proofs.well.Feed.{got_well}
use Rattle.run_laws.proofs.well.Plain.{returned_well}
use Rattle.run_laws.proofs.well.Slots.{result_kept_well}
use Rattle.run_laws.proofs.well.Copying.{moving_well, completed_well}
use Rattle.run_laws.proofs.well.Entering.{words_passed_well, entered_well, started_by_well}
use Rattle.run_laws.proofs.well.Lifted.{arguments_lifted_well, returned_lifted_well, elements_lifted_well}
use Rattle.run_laws.proofs.well.Lowering.{lowers_into_well, lowers_all_well}
use Rattle.run_laws.proofs.well.ReturnTested.{return_tested_well}
use Rattle.run_laws.proofs.well.Ways.{arguments_way_well, arguments_entered_well, result_way_well}

-- Arguments.
passed_well : (p : Program) (t : ℕ) (v : Value) (h : Held) (d : Done (List ℕ)) → LowersPassed p t v h d → KeepsWell h d
passed_well p t v h d b =
    well_coming h (arguments_way p t h) (λ w k e. LowersInto p w.to w.type v w.target k e) d (arguments_way_well p t h) (λ w k is. lowers_into_well p w.to w.type v w.target k d is) b

arguments_well : (p : Program) (t : ℕ) (v : Value) (h : Held) (d : Done (List ℕ)) → LowersArguments p t v h d → KeepsWell h d
arguments_well p t v h d b =
    well_then h (λ e. LowersPassed p t v h e) (λ words k e. e ≡ arguments_entered p t v words k) d (λ e is. passed_well p t v h e is)
    (λ words k is. well_as k d (arguments_entered p t v words k) (arguments_entered_well p t v words k) is) b

values_come : (p : Program) (t : ℕ) (h : Held) (d : Done (List ℕ)) → ValuesCome p t h d → KeepsWell h d
values_come p t h d b = well_coming h (arguments_lifted p t h) (λ v k e. LowersArguments p t v k e) d (arguments_lifted_well p t h) (λ v k is. arguments_well p t v k d is) b

arguments_come : (p : Program) (t : ℕ) (c : Callee) (h : Held) (d : Done (List ℕ)) → ArgumentsCome p t c h d → KeepsWell h d
arguments_come p t callee.Init h d b = values_come p t h d b
arguments_come p t (callee.Export number) h d b = values_come p t h d b
arguments_come p t (callee.Lowered number) h d b = values_come p t h d b
arguments_come p t (callee.Destroys resource) h d b = well_as h d (words_passed t h) (words_passed_well t h) b

pub enters_well_for : (p : Program) (t : ℕ) (h : Held) (d : Done Flow) → Enters p t h d → KeepsWell h d
enters_well_for p t h d b =
    well_coming h (entered t h) (λ c k e. Then (ArgumentsCome p t c k) (λ words l f. f ≡ started_by p c words l) e) d (entered_well t h)
    (λ c k is.
    well_then k (ArgumentsCome p t c k) (λ words l f. f ≡ started_by p c words l) d (λ e come. arguments_come p t c k e come)
    (λ words l same. well_as l d (started_by p c words l) (started_by_well p c words l) same) is) b

-- Results.
back_well : (p : Program) (v : Value) (c : Callee) (by number : ℕ) (words : List ℕ) (h : Held) (d : Done (List ℕ)) → LowersBack p v c by number words h d → KeepsWell h d
back_well p v c by number words h d b =
    well_coming h (result_way p c by number words h) (λ w k e. LowersInto p w.to w.type v w.target k e) d (result_way_well p c by number words h)
    (λ w k is. lowers_into_well p w.to w.type v w.target k d is) b

kept_well : (p : Program) (t : ℕ) (v : Value) (c : Callee) (by number : ℕ) (words : List ℕ) (h : Held) (d : Done (Unit {0})) → LowersKept p t v c by number words h d → KeepsWell h d
kept_well p t v c by number words h d b =
    well_then h (λ e. LowersBack p v c by number words h e) (λ results k e. e ≡ result_kept t results k) d (λ e is. back_well p v c by number words h e is)
    (λ results k is. well_as k d (result_kept t results k) (result_kept_well t results k) is) b

for_well : (p : Program) (t : ℕ) (v : Value) (c : Callee) (by : Caller) (h : Held) (d : Done (Unit {0})) → LowersFor p t v c by h d → KeepsWell h d
for_well p t v c Nobody h d b = well_as h d (Gives tt h) (well_same h) b
for_well p t v c (Host call) h d b = well_as h d (Gives tt h) (well_same h) b
for_well p t v c (Guest called) h d b = kept_well p t v c called.by called.canon called.words h d b

result_well : (p : Program) (t : ℕ) (v : Value) (h : Held) (d : Done (Unit {0})) → LowersResult p t v h d → KeepsWell h d
result_well p t v h d b =
    well_coming h (given (slice_get h.tasks t) (λ slot. Gives slot h)) (λ slot k e. LowersFor p t v slot.callee slot.caller k e) d
    (well_given h (slice_get h.tasks t) (λ slot. Gives slot h) (λ slot is. well_same h)) (λ slot k is. for_well p t v slot.callee slot.caller k d is) b

on_well : (p : Program) (t : ℕ) (o : Option TypedValue) (h : Held) (d : Done (Unit {0})) → PassesOn p t o h d → KeepsWell h d
on_well p t None h d b = well_as h d (Gives tt h) (well_same h) b
on_well p t (Some v) h d b = result_well p t v.value h d b

pub resolves_well : (p : Program) (t : ℕ) (value : Option TypedValue) (h : Held) (d : Done (Unit {0})) → Resolves p t value h d → KeepsWell h d
resolves_well p t value h d b = well_coming h (returned t value h) (λ done k e. PassesOn p t value k e) d (returned_well t value h) (λ done k is. on_well p t value k d is) b

return_well : (p : Program) (t canon : ℕ) (h : Held) (d : Done (Unit {0})) → ReturnResolves p t canon h d → KeepsWell h d
return_well p t canon h d b = well_coming h (returned_lifted p t canon h) (λ value k e. Resolves p t value k e) d (returned_lifted_well p t canon h) (λ value k is. resolves_well p t value k d is) b

tested_well : (p : Program) (t canon : ℕ) (h : Held) (d : Done (Unit {0})) → TestedResolves p t canon h d → KeepsWell h d
tested_well p t canon h d b = well_coming h (return_tested p t canon h) (λ tested k e. ReturnResolves p t canon k e) d (return_tested_well p t canon h) (λ tested k is. return_well p t canon k d is) b

returns_well : (p : Program) (t canon : ℕ) (h : Held) (d : Done Flow) → Returns p t canon h d → KeepsWell h d
returns_well p t canon h d b =
    well_then h (TestedResolves p t canon h) (λ done k e. e ≡ got t [] k) d (λ e is. tested_well p t canon h e is) (λ done k is. well_as k d (got t [] k) (got_well t [] k) is) b

-- Elements.
reads_well : (p : Program) (m : Moving) (t : Numbered) (values : List Value) (h : Held) (d : Done Flow) → Reads p m t values h d → KeepsWell h d
reads_well p m t values h d b =
    well_then h (λ e. LowersAll p (reader_of m h) t values m.reader.place h e) (λ words k e. e ≡ completed m (copied_values t values) k) d
    (λ e is. lowers_all_well p (reader_of m h) t values m.reader.place h e is)
    (λ words k is. well_as k d (completed m (copied_values t values) k) (completed_well m (copied_values t values) k) is) b

elements_well : (p : Program) (m : Moving) (t : Numbered) (h : Held) (d : Done Flow) → MovesElements p m t h d → KeepsWell h d
elements_well p m t h d b =
    well_coming h (elements_lifted (origin_of m) t m.writer.place m.count h) (λ values k e. Reads p m t values k e) d (elements_lifted_well (origin_of m) t m.writer.place m.count h)
    (λ values k is. reads_well p m t values k d is) b

over_well : (p : Program) (m : Moving) (o : Option ℕ) (h : Held) (d : Done Flow) → MovesOver p m o h d → KeepsWell h d
over_well p m None h d b = well_as h d (completed m (Units m.count) h) (completed_well m (Units m.count) h) b
over_well p m (Some number) h d b =
    well_coming h (given (numbered_at p.types.now number) (λ t. Gives t h)) (λ t k e. MovesElements p m t k e) d
    (well_given h (numbered_at p.types.now number) (λ t. Gives t h) (λ t is. well_same h)) (λ t k is. elements_well p m t k d is) b

pub transfers_well : (p : Program) (t : ℕ) (x : Copying) (h : Held) (d : Done Flow) → Transfers p t x h d → KeepsWell h d
transfers_well p t x h d b =
    well_coming h (moving p.graph.now t x h) (λ m k e. MovesOver p m (value_of p x.canon) k e) d (moving_well p.graph.now t x h) (λ m k is. over_well p m (value_of p x.canon) k d is) b

-- So it is of `task.return`, where it was called.
pub returned_by_well : (p : Program) (t : ℕ) (o : Option ℕ) (h : Held) (d : Done Flow) → ReturnsBy p t o h d → KeepsWell h d
returned_by_well p t None h d b = well_as h d Stuck tt b
returned_by_well p t (Some canon) h d b = returns_well p t canon h d b
