-- A write is told that the reader has dropped its end.
use Rattle.std.proofs.Common.{◌≡◌, ◌∙◌, Bool, true, false, List, [], ◌∷◌, ◌++◌, length, replicate, Some, None, refl, ap}
use Rattle.std.specs.Prelude.{nat_lt}
use Rattle.syntax_trees.specs.declared.instr.Instr.TheVariants.{Drop}
use Rattle.syntax_trees.specs.declared.instr.Instr.TheVariants as instr
use Rattle.syntax_trees.specs.Expr.{End, Plain}
use Rattle.wasm_store.specs.Stack.{Running}
use Rattle.builtin_kinds.specs.declared.EndKind.TheVariants.{Future}
use Rattle.syntax_trees.specs.declared.core_type.CoreType.{CoreType}
use Rattle.syntax_trees.specs.declared.types.ValType.TheOpen as F
use Rattle.syntax_trees.specs.declared.types.ValType.TheVariants as leaves
use Rattle.syntax_trees.specs.declared.types.ValType.TheViews as types
use Rattle.syntax_trees.specs.declared.value.Value.TheOpen as V
use Rattle.syntax_trees.specs.declared.value.Value.TheVariants as plain
use Rattle.handle_table.specs.History.{Add, Remove}
use Rattle.tasks.specs.declared.phase.Resolution.TheVariants.{Returned}
use Rattle.tasks.specs.declared.subtask_state.SubtaskState.TheVariants as told
use Rattle.stream_ends.specs.declared.side.Side.TheVariants.{Reader, Writer}
use Rattle.stream_ends.specs.declared.open_copy.By.TheVariants as by
use Rattle.stream_ends.specs.declared.open_copy.CopyEvent.TheVariants as copy_event
use Rattle.stream_ends.specs.declared.open_copy.CopyResult.TheVariants as copy_result
use Rattle.res_handles.specs.Ends.{end_of}
use Rattle.comp_graph.specs.Needs.{flat_param_limit}
use Rattle.comp_graph.specs.Graph.{Graph, no_options}
use Rattle.script_reader.specs.Script.{Script}
use Rattle.trace_labels.specs.declared.builtin.Builtin.TheVariants as builtin
use Rattle.trace_labels.specs.declared.label.Label.TheVariants as line
use Rattle.abi_machine.specs.declared.run_end.RunEnd.TheVariants.{Done}
use Rattle.abi_machine.specs.LiftingOver.{Part, part_step}
use Rattle.abi_machine.specs.LoweringOver.{Plan, Gives, lower_step, field_words}
use Rattle.abi_machine.specs.Control.{Free, Calls, Arrives, Lowers, Starts}
use Rattle.abi_machine.specs.World.{OfSet, OfEnd, Init, Func, Nobody, Host, Guest, New, Acting, AfterCall, Exited, World, new_inst, new_task}
use Rattle.abi_machine.specs.Edits.{with_control, in_state}
use Rattle.abi_machine.specs.Canons.{defines}
use Rattle.abi_machine.specs.Finding.{typed_end}
use Rattle.abi_machine.specs.Turn.{Steps, behind}
use Rattle.abi_machine.specs.Lifting.{Kept, Stopped, by_world}
use Rattle.abi_machine.specs.Pausing.{entries_by}
use Rattle.abi_machine.specs.replies.Streams.{end_ref}
use Rattle.abi_machine.specs.Next.{next}
use Rattle.abi_machine.specs.examples.Parts.{func_type, number, core_at, core_func, asynchronous, one_call, Shows}
use Rattle.abi_machine.specs.examples.Futures.{drops_readable, keeps, promising, promising_world, told_of_drop}
use Rattle.abi_machine.proofs.Rules.{the_rules}
use Rattle.abi_machine.proofs.Walks.{far, walked, stepped, goes_on, shows, planned}
use Rattle.abi_machine.proofs.Layers.{future_flat, u8_laid, u8_integer, u8_same, u8_part, future_part, future_lowered}
use Rattle.abi_machine.proofs.Passed.{one_passed, end_passed, one_planned}
use Rattle.abi_machine.proofs.Copies.{entering, the_channel, copies_as, drops_as}

abbrev g : Graph
g = promising

abbrev s : Script
s = one_call

abbrev w0 : World
w0 = promising_world keeps drops_readable

abbrev w1 : World
w1 = record w0 {
  insts = record { table = (Add 2 (OfEnd (end_ref Future 1 Writer)) ∷ Add 1 (OfEnd (end_ref Future 1 Reader)) ∷ []); sets = []; backpressure = 0 } ∷ new_inst ∷ [];
  tasks = new_task Init Nobody Exited ∷ record (new_task (Func (record { instance = 0; core = core_func 0 0; options = no_options; func_type = func_type [] None })) (Host 1 []) Acting) { stacks = (Running (record { instance = 0; results = 0; locals = []; values = []; rest = (Plain Drop (number 1 (Plain (instr.Call 3) (Plain (instr.Call 4) (Plain Drop (number 2 (number 1 (Plain (instr.Call 5) (number 1 (number 32 (Plain (instr.Call 6) (Plain Drop (number 2 (Plain (instr.Call 2) End)))))))))))))); labels = record { arity = 0; under = []; again = None; after = End } ∷ [] }) [] ∷ []) } ∷ [];
  futures = record { element = Some leaves.U8; written = []; read = []; ends = record { view = record { reader = record { dropped = false; done = false; copy = None }; writer = record { dropped = false; done = false; copy = None } }; reader_closed = []; writer_closed = [] } } ∷ [];
  control = Calls 1 (2 ∷ 16 ∷ []);
  units = 5;
}

piece1 : far 6 g s w0 ≡ ((line.Do 1 builtin.FutureNew [] ∷ line.Got 1 (8589934593 ∷ []) ∷ []), w1)
unfolding the_rules
piece1 = refl

abbrev w2 : World
w2 = record w0 {
  insts = record { table = (Add 2 (OfEnd (end_ref Future 1 Writer)) ∷ Add 1 (OfEnd (end_ref Future 1 Reader)) ∷ []); sets = []; backpressure = 0 } ∷ new_inst ∷ [];
  tasks = new_task Init Nobody Exited ∷ record (new_task (Func (record { instance = 0; core = core_func 0 0; options = no_options; func_type = func_type [] None })) (Host 1 []) Acting) { stacks = (Running (record { instance = 0; results = 0; locals = []; values = (4294967295 ∷ []); rest = (Plain Drop (number 1 (Plain (instr.Call 3) (Plain (instr.Call 4) (Plain Drop (number 2 (number 1 (Plain (instr.Call 5) (number 1 (number 32 (Plain (instr.Call 6) (Plain Drop (number 2 (Plain (instr.Call 2) End)))))))))))))); labels = record { arity = 0; under = []; again = None; after = End } ∷ [] }) [] ∷ []) } ∷ [];
  futures = record { element = Some leaves.U8; written = []; read = []; ends = record { view = record { reader = record { dropped = false; done = false; copy = None }; writer = record { dropped = false; done = false; copy = Some (record { by = by.Task 1; canon = 1; place = 16; length = 1; copied = 0; event = None; standing = true }) } }; reader_closed = []; writer_closed = [] } } ∷ [];
  units = 5;
}

piece2 : next g s w1 ≡ Steps (line.Do 1 builtin.FutureWrite (2 ∷ 16 ∷ []) ∷ line.Got 1 (4294967295 ∷ []) ∷ []) w2
unfolding the_rules
piece2 =
    ap (behind (line.Do 1 builtin.FutureWrite (2 ∷ 16 ∷ []) ∷ [])) (copies_as g 1 0 1 Future Writer leaves.U8 (record no_options { memory = Some (core_at 0 0); is_async = true }) (2 ∷ 16 ∷ []) 1 (with_control Free w1) (end_ref Future 1 Writer) (the_channel w1 (end_ref Future 1 Writer)) (record { size = 1; align = 1 }) true (ap (λ (b : Bool). typed_end b (end_ref Future 1 Writer)) u8_same) refl refl u8_laid u8_integer)

abbrev w3 : World
w3 = record w0 {
  insts = record { table = (Add 2 (OfEnd (end_ref Future 1 Writer)) ∷ Add 1 (OfEnd (end_ref Future 1 Reader)) ∷ []); sets = []; backpressure = 0 } ∷ new_inst ∷ [];
  tasks = new_task Init Nobody Exited ∷ record (new_task (Func (record { instance = 0; core = core_func 0 0; options = no_options; func_type = func_type [] None })) (Host 1 []) (AfterCall 2 3 (1 ∷ []))) { stacks = (Running (record { instance = 0; results = 0; locals = []; values = []; rest = (Plain (instr.Call 4) (Plain Drop (number 2 (number 1 (Plain (instr.Call 5) (number 1 (number 32 (Plain (instr.Call 6) (Plain Drop (number 2 (Plain (instr.Call 2) End))))))))))); labels = record { arity = 0; under = []; again = None; after = End } ∷ [] }) [] ∷ []) } ∷ new_task (Func (record { instance = 1; core = core_func 1 12; options = asynchronous; func_type = func_type ((types.Future (Some leaves.U8)) ∷ []) None })) (Guest (record { by = 1; canon = 3; words = (1 ∷ []); told = told.Starting; lends = []; result = [] })) New ∷ [];
  futures = record { element = Some leaves.U8; written = []; read = []; ends = record { view = record { reader = record { dropped = false; done = false; copy = None }; writer = record { dropped = false; done = false; copy = Some (record { by = by.Task 1; canon = 1; place = 16; length = 1; copied = 0; event = None; standing = true }) } }; reader_closed = []; writer_closed = [] } } ∷ [];
  chain = 2 ∷ 1 ∷ [];
  control = Arrives;
  units = 8;
}

piece3 : far 4 g s w2 ≡ ((line.Do 1 builtin.Lower (1 ∷ []) ∷ line.Call 1 2 2 ∷ []), w3)
unfolding the_rules
piece3 = refl

abbrev w4 : World
w4 = record w0 {
  insts = record { table = (Remove 1 ∷ Add 2 (OfEnd (end_ref Future 1 Writer)) ∷ Add 1 (OfEnd (end_ref Future 1 Reader)) ∷ []); sets = []; backpressure = 0 } ∷ new_inst ∷ [];
  tasks = new_task Init Nobody Exited ∷ record (new_task (Func (record { instance = 0; core = core_func 0 0; options = no_options; func_type = func_type [] None })) (Host 1 []) (AfterCall 2 3 (1 ∷ []))) { stacks = (Running (record { instance = 0; results = 0; locals = []; values = []; rest = (Plain (instr.Call 4) (Plain Drop (number 2 (number 1 (Plain (instr.Call 5) (number 1 (number 32 (Plain (instr.Call 6) (Plain Drop (number 2 (Plain (instr.Call 2) End))))))))))); labels = record { arity = 0; under = []; again = None; after = End } ∷ [] }) [] ∷ []) } ∷ new_task (Func (record { instance = 1; core = core_func 1 12; options = asynchronous; func_type = func_type ((types.Future (Some leaves.U8)) ∷ []) None })) (Guest (record { by = 1; canon = 3; words = (1 ∷ []); told = told.Starting; lends = []; result = [] })) Acting ∷ [];
  futures = record { element = Some leaves.U8; written = []; read = []; ends = record { view = record { reader = record { dropped = false; done = false; copy = None }; writer = record { dropped = false; done = false; copy = Some (record { by = by.Task 1; canon = 1; place = 16; length = 1; copied = 0; event = None; standing = true }) } }; reader_closed = []; writer_closed = [] } } ∷ [];
  chain = 2 ∷ 1 ∷ [];
  control = Lowers (record { inst = 1; memory = None; realloc = None; acts_for = 2; blame = 2; next = Starts }) (field_words (Some (types.Future (Some leaves.U8)) ∷ []) ((lower_step (entries_by (defines g 1)) (V.Future 1)) ∷ []) [] (λ words. Gives words));
  units = 8;
}

piece4 : next g s w3 ≡ Steps (line.Enter 2 ∷ []) w4
unfolding the_rules
piece4 =
    ap (entering g w3) (one_passed 0 2 false (types.Future (Some leaves.U8)) (F.Future (Some (part_step (by_world 0 2) F.U8))) None [] (1 ∷ []) (in_state 2 Acting (with_control Free w3)) refl (future_flat (Some leaves.U8)) (future_part (by_world 0 2) leaves.U8 ∙ ap (λ (p : Part Kept Stopped). part_step (by_world 0 2) (F.Future (Some p))) (u8_part (by_world 0 2))))
    ∙ ap (λ (b : Bool). entering g w3 (end_passed 0 plain.Future 1 (in_state 2 Acting (with_control Free w3)) (end_of b (record { number = 1; is_idle = true })))) u8_same
    ∙ ap (λ (p : Plan). Steps (line.Enter 2 ∷ []) (planned p w4)) (one_planned (entries_by (defines g 1)) (types.Future (Some leaves.U8)) None (plain.Future 1) (lower_step (entries_by (defines g 1)) (V.Future 1)) (ap (λ (c : List CoreType). nat_lt flat_param_limit (length (c ++ []))) (future_flat (Some leaves.U8))) (future_lowered (entries_by (defines g 1)) 1))

abbrev w5 : World
w5 = record w0 {
  insts = record { table = (Remove 1 ∷ Add 2 (OfEnd (end_ref Future 1 Writer)) ∷ Add 1 (OfEnd (end_ref Future 1 Reader)) ∷ []); sets = []; backpressure = 0 } ∷ record { table = (Add 1 (OfEnd (end_ref Future 1 Reader)) ∷ []); sets = []; backpressure = 0 } ∷ [];
  tasks = new_task Init Nobody Exited ∷ record (new_task (Func (record { instance = 0; core = core_func 0 0; options = no_options; func_type = func_type [] None })) (Host 1 []) (AfterCall 2 3 (1 ∷ []))) { stacks = (Running (record { instance = 0; results = 0; locals = []; values = []; rest = (Plain (instr.Call 4) (Plain Drop (number 2 (number 1 (Plain (instr.Call 5) (number 1 (number 32 (Plain (instr.Call 6) (Plain Drop (number 2 (Plain (instr.Call 2) End))))))))))); labels = record { arity = 0; under = []; again = None; after = End } ∷ [] }) [] ∷ []) } ∷ record (new_task (Func (record { instance = 1; core = core_func 1 12; options = asynchronous; func_type = func_type ((types.Future (Some leaves.U8)) ∷ []) None })) (Guest (record { by = 1; canon = 3; words = (1 ∷ []); told = told.Starting; lends = []; result = [] })) Acting) { stacks = (Running (record { instance = 1; results = 0; locals = (1 ∷ []); values = []; rest = (Plain (instr.Call 9) End); labels = record { arity = 0; under = []; again = None; after = End } ∷ [] }) [] ∷ []) } ∷ [];
  futures = record { element = Some leaves.U8; written = []; read = []; ends = record { view = record { reader = record { dropped = false; done = false; copy = None }; writer = record { dropped = false; done = false; copy = Some (record { by = by.Task 1; canon = 1; place = 16; length = 1; copied = 0; event = None; standing = true }) } }; reader_closed = []; writer_closed = [] } } ∷ [];
  chain = 2 ∷ 1 ∷ [];
  control = Calls 8 (1 ∷ []);
  units = 10;
}

piece5 : far 3 g s w4 ≡ ([], w5)
unfolding the_rules
piece5 = refl

abbrev w6 : World
w6 = record w0 {
  insts = record { table = (Remove 1 ∷ Add 2 (OfEnd (end_ref Future 1 Writer)) ∷ Add 1 (OfEnd (end_ref Future 1 Reader)) ∷ []); sets = []; backpressure = 0 } ∷ record { table = (Remove 1 ∷ Add 1 (OfEnd (end_ref Future 1 Reader)) ∷ []); sets = []; backpressure = 0 } ∷ [];
  tasks = new_task Init Nobody Exited ∷ record (new_task (Func (record { instance = 0; core = core_func 0 0; options = no_options; func_type = func_type [] None })) (Host 1 []) (AfterCall 2 3 (1 ∷ []))) { stacks = (Running (record { instance = 0; results = 0; locals = []; values = []; rest = (Plain (instr.Call 4) (Plain Drop (number 2 (number 1 (Plain (instr.Call 5) (number 1 (number 32 (Plain (instr.Call 6) (Plain Drop (number 2 (Plain (instr.Call 2) End))))))))))); labels = record { arity = 0; under = []; again = None; after = End } ∷ [] }) [] ∷ []) } ∷ record (new_task (Func (record { instance = 1; core = core_func 1 12; options = asynchronous; func_type = func_type ((types.Future (Some leaves.U8)) ∷ []) None })) (Guest (record { by = 1; canon = 3; words = (1 ∷ []); told = told.Starting; lends = []; result = [] })) Acting) { stacks = (Running (record { instance = 1; results = 0; locals = (1 ∷ []); values = []; rest = (Plain (instr.Call 9) End); labels = record { arity = 0; under = []; again = None; after = End } ∷ [] }) [] ∷ []) } ∷ [];
  futures = record { element = Some leaves.U8; written = []; read = []; ends = record { view = record { reader = record { dropped = true; done = false; copy = None }; writer = record { dropped = false; done = false; copy = Some (record { by = by.Task 1; canon = 1; place = 16; length = 1; copied = 0; event = Some copy_event.Dropped; standing = true }) } }; reader_closed = []; writer_closed = [] } } ∷ [];
  chain = 2 ∷ 1 ∷ [];
  units = 10;
}

piece6 : next g s w5 ≡ Steps (line.Do 2 builtin.FutureDropReadable (1 ∷ []) ∷ line.Got 2 [] ∷ []) w6
unfolding the_rules
piece6 =
    ap (behind (line.Do 2 builtin.FutureDropReadable (1 ∷ []) ∷ [])) (drops_as 2 1 Future Reader (Some leaves.U8) 1 (with_control Free w5) (end_ref Future 1 Reader) (ap (λ (b : Bool). typed_end b (end_ref Future 1 Reader)) u8_same))

abbrev w7 : World
w7 = record w0 {
  insts = record { table = (Add 1 (OfSet 0) ∷ Remove 1 ∷ Add 2 (OfEnd (end_ref Future 1 Writer)) ∷ Add 1 (OfEnd (end_ref Future 1 Reader)) ∷ []); sets = ((2 ∷ []) ∷ []); backpressure = 0 } ∷ record { table = (Remove 1 ∷ Add 1 (OfEnd (end_ref Future 1 Reader)) ∷ []); sets = []; backpressure = 0 } ∷ [];
  tasks = new_task Init Nobody Exited ∷ record (new_task (Func (record { instance = 0; core = core_func 0 0; options = no_options; func_type = func_type [] None })) (Host 1 []) Acting) { stacks = (Running (record { instance = 0; results = 0; locals = []; values = (1 ∷ []); rest = (number 32 (Plain (instr.Call 6) (Plain Drop (number 2 (Plain (instr.Call 2) End))))); labels = record { arity = 0; under = []; again = None; after = End } ∷ [] }) [] ∷ []) } ∷ record (new_task (Func (record { instance = 1; core = core_func 1 12; options = asynchronous; func_type = func_type ((types.Future (Some leaves.U8)) ∷ []) None })) (Guest (record { by = 1; canon = 3; words = (1 ∷ []); told = told.Returned; lends = []; result = [] })) Exited) { resolution = Some Returned } ∷ [];
  futures = record { element = Some leaves.U8; written = []; read = []; ends = record { view = record { reader = record { dropped = true; done = false; copy = None }; writer = record { dropped = false; done = false; copy = Some (record { by = by.Task 1; canon = 1; place = 16; length = 1; copied = 0; event = Some copy_event.Dropped; standing = true }) } }; reader_closed = []; writer_closed = [] } } ∷ [];
  units = 17;
}

piece7 : far 14 g s w6 ≡ ((line.Do 2 builtin.TaskReturn [] ∷ line.Return 2 None ∷ line.Got 2 [] ∷ line.Exit 2 ∷ line.Got 1 [] ∷ line.Do 1 builtin.WaitableSetNew [] ∷ line.Got 1 (1 ∷ []) ∷ line.Do 1 builtin.WaitableJoin (2 ∷ 1 ∷ []) ∷ line.Got 1 [] ∷ []), w7)
unfolding the_rules
piece7 = refl

abbrev w8 : World
w8 = record w0 {
  store = record w0.store { memories = record { bytes = (replicate 16 0 ++ (7 ∷ []) ++ replicate 15 0 ++ (2 ∷ 0 ∷ 0 ∷ 0 ∷ 1 ∷ 0 ∷ 0 ∷ 0 ∷ [])); maximum = None } ∷ record { bytes = (replicate 8 0); maximum = None } ∷ [] };
  insts = record { table = (Add 1 (OfSet 0) ∷ Remove 1 ∷ Add 2 (OfEnd (end_ref Future 1 Writer)) ∷ Add 1 (OfEnd (end_ref Future 1 Reader)) ∷ []); sets = ((2 ∷ []) ∷ []); backpressure = 0 } ∷ record { table = (Remove 1 ∷ Add 1 (OfEnd (end_ref Future 1 Reader)) ∷ []); sets = []; backpressure = 0 } ∷ [];
  tasks = new_task Init Nobody Exited ∷ record (new_task (Func (record { instance = 0; core = core_func 0 0; options = no_options; func_type = func_type [] None })) (Host 1 []) Acting) { stacks = (Running (record { instance = 0; results = 0; locals = []; values = []; rest = End; labels = record { arity = 0; under = []; again = None; after = End } ∷ [] }) [] ∷ []) } ∷ record (new_task (Func (record { instance = 1; core = core_func 1 12; options = asynchronous; func_type = func_type ((types.Future (Some leaves.U8)) ∷ []) None })) (Guest (record { by = 1; canon = 3; words = (1 ∷ []); told = told.Returned; lends = []; result = [] })) Exited) { resolution = Some Returned } ∷ [];
  futures = record { element = Some leaves.U8; written = []; read = []; ends = record { view = record { reader = record { dropped = true; done = false; copy = None }; writer = record { dropped = false; done = true; copy = None } }; reader_closed = []; writer_closed = (record { length = 1; result = copy_result.Dropped; count = 0 } ∷ []) } } ∷ [];
  control = Calls 2 (2 ∷ []);
  units = 22;
}

piece8 : far 7 g s w7 ≡ ((line.Do 1 builtin.WaitableSetWait (1 ∷ 32 ∷ []) ∷ line.Event 1 5 2 1 ∷ line.Got 1 (5 ∷ []) ∷ []), w8)
unfolding the_rules
piece8 = refl

abbrev w9 : World
w9 = record w0 {
  store = record w0.store { memories = record { bytes = (replicate 16 0 ++ (7 ∷ []) ++ replicate 15 0 ++ (2 ∷ 0 ∷ 0 ∷ 0 ∷ 1 ∷ 0 ∷ 0 ∷ 0 ∷ [])); maximum = None } ∷ record { bytes = (replicate 8 0); maximum = None } ∷ [] };
  insts = record { table = (Remove 2 ∷ Add 1 (OfSet 0) ∷ Remove 1 ∷ Add 2 (OfEnd (end_ref Future 1 Writer)) ∷ Add 1 (OfEnd (end_ref Future 1 Reader)) ∷ []); sets = ([] ∷ []); backpressure = 0 } ∷ record { table = (Remove 1 ∷ Add 1 (OfEnd (end_ref Future 1 Reader)) ∷ []); sets = []; backpressure = 0 } ∷ [];
  tasks = new_task Init Nobody Exited ∷ record (new_task (Func (record { instance = 0; core = core_func 0 0; options = no_options; func_type = func_type [] None })) (Host 1 []) Acting) { stacks = (Running (record { instance = 0; results = 0; locals = []; values = []; rest = End; labels = record { arity = 0; under = []; again = None; after = End } ∷ [] }) [] ∷ []) } ∷ record (new_task (Func (record { instance = 1; core = core_func 1 12; options = asynchronous; func_type = func_type ((types.Future (Some leaves.U8)) ∷ []) None })) (Guest (record { by = 1; canon = 3; words = (1 ∷ []); told = told.Returned; lends = []; result = [] })) Exited) { resolution = Some Returned } ∷ [];
  futures = record { element = Some leaves.U8; written = []; read = []; ends = record { view = record { reader = record { dropped = true; done = false; copy = None }; writer = record { dropped = true; done = true; copy = None } }; reader_closed = []; writer_closed = (record { length = 1; result = copy_result.Dropped; count = 0 } ∷ []) } } ∷ [];
  units = 22;
}

piece9 : next g s w8 ≡ Steps (line.Do 1 builtin.FutureDropWritable (2 ∷ []) ∷ line.Got 1 [] ∷ []) w9
unfolding the_rules
piece9 =
    ap (behind (line.Do 1 builtin.FutureDropWritable (2 ∷ []) ∷ [])) (drops_as 1 0 Future Writer (Some leaves.U8) 2 (with_control Free w8) (end_ref Future 1 Writer) (ap (λ (b : Bool). typed_end b (end_ref Future 1 Writer)) u8_same))

abbrev w10 : World
w10 = record w0 {
  store = record w0.store { memories = record { bytes = (replicate 16 0 ++ (7 ∷ []) ++ replicate 15 0 ++ (2 ∷ 0 ∷ 0 ∷ 0 ∷ 1 ∷ 0 ∷ 0 ∷ 0 ∷ [])); maximum = None } ∷ record { bytes = (replicate 8 0); maximum = None } ∷ [] };
  insts = record { table = (Remove 2 ∷ Add 1 (OfSet 0) ∷ Remove 1 ∷ Add 2 (OfEnd (end_ref Future 1 Writer)) ∷ Add 1 (OfEnd (end_ref Future 1 Reader)) ∷ []); sets = ([] ∷ []); backpressure = 0 } ∷ record { table = (Remove 1 ∷ Add 1 (OfEnd (end_ref Future 1 Reader)) ∷ []); sets = []; backpressure = 0 } ∷ [];
  tasks = new_task Init Nobody Exited ∷ record (new_task (Func (record { instance = 0; core = core_func 0 0; options = no_options; func_type = func_type [] None })) (Host 1 []) Exited) { resolution = Some Returned } ∷ record (new_task (Func (record { instance = 1; core = core_func 1 12; options = asynchronous; func_type = func_type ((types.Future (Some leaves.U8)) ∷ []) None })) (Guest (record { by = 1; canon = 3; words = (1 ∷ []); told = told.Returned; lends = []; result = [] })) Exited) { resolution = Some Returned } ∷ [];
  futures = record { element = Some leaves.U8; written = []; read = []; ends = record { view = record { reader = record { dropped = true; done = false; copy = None }; writer = record { dropped = true; done = true; copy = None } }; reader_closed = []; writer_closed = (record { length = 1; result = copy_result.Dropped; count = 0 } ∷ []) } } ∷ [];
  chain = [];
  control = Free;
  units = 22;
}

piece10 : far 3 g s w9 ≡ ((line.Return 1 None ∷ line.Exit 1 ∷ []), w10)
unfolding the_rules
piece10 = refl

pub told_of_drop_shown : Shows promising one_call (promising_world keeps drops_readable) told_of_drop Done 22
unfolding the_rules
told_of_drop_shown =
    shows g s w0 w10 _ Done 22
    (goes_on g s w0 w1 w10 _ _ (walked 6 g s w0 w1 _ piece1)
    (goes_on g s w1 w2 w10 _ _ (stepped g s w1 w2 _ piece2)
    (goes_on g s w2 w3 w10 _ _ (walked 4 g s w2 w3 _ piece3)
    (goes_on g s w3 w4 w10 _ _ (stepped g s w3 w4 _ piece4)
    (goes_on g s w4 w5 w10 _ _ (walked 3 g s w4 w5 _ piece5)
    (goes_on g s w5 w6 w10 _ _ (stepped g s w5 w6 _ piece6)
    (goes_on g s w6 w7 w10 _ _ (walked 14 g s w6 w7 _ piece7)
    (goes_on g s w7 w8 w10 _ _ (walked 7 g s w7 w8 _ piece8)
    (goes_on g s w8 w9 w10 _ _ (stepped g s w8 w9 _ piece9)
    (walked 3 g s w9 w10 _ piece10)))))))))) refl refl
