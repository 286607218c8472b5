-- A wait that a cancellation ends tells that it is asked before any event, in eight bytes as events are told; the next wait tells the event.
use Rattle.std.proofs.Common.{◌≡◌, true, false, [], ◌∷◌, Some, None, refl, ap}
use Rattle.syntax_trees.specs.declared.instr.Instr.TheVariants.{Drop}
use Rattle.syntax_trees.specs.declared.instr.Instr.TheVariants as instr
use Rattle.syntax_trees.specs.Expr.{End, Plain}
use Rattle.wasm_store.specs.Stack.{Running}
use Rattle.handle_table.specs.History.{Add, Remove}
use Rattle.tasks.specs.declared.phase.Resolution.TheVariants.{Cancelled}
use Rattle.tasks.specs.declared.phase.Cancellation.TheVariants as cancellation
use Rattle.builtin_kinds.specs.declared.EndKind.TheVariants.{Stream}
use Rattle.stream_ends.specs.declared.side.Side.TheVariants.{Reader, Writer}
use Rattle.stream_ends.specs.declared.open_copy.By.TheVariants as by
use Rattle.stream_ends.specs.declared.open_copy.CopyEvent.TheVariants as copy_event
use Rattle.stream_ends.specs.declared.open_copy.CopyResult.TheVariants as copy_result
use Rattle.comp_graph.specs.Graph.{Graph}
use Rattle.script_reader.specs.Script.{Script}
use Rattle.trace_labels.specs.declared.builtin.Builtin.TheVariants as builtin
use Rattle.trace_labels.specs.declared.label.BlockReason.TheVariants as reason
use Rattle.trace_labels.specs.declared.label.Label.TheVariants as line
use Rattle.abi_machine.specs.declared.run_end.RunEnd.TheVariants.{Done}
use Rattle.abi_machine.specs.LoweringOver.{Plan, Gives}
use Rattle.abi_machine.specs.Control.{Runs, Lowers, Starts}
use Rattle.abi_machine.specs.World.{OfSet, OfEnd, Init, Func, Nobody, Host, Acting, Exited, World, new_task}
use Rattle.abi_machine.specs.Canons.{defines}
use Rattle.abi_machine.specs.Pausing.{entries_by}
use Rattle.abi_machine.specs.replies.Streams.{end_ref}
use Rattle.abi_machine.specs.examples.Parts.{func_type, number, core_func, asynchronous, run_name, Leaves}
use Rattle.machine_examples.specs.Cancelling.{called_and_cancelled, waits_twice, waits_twice_world, told_first, both_events, told_of_drop}
use Rattle.abi_machine.proofs.Rules.{the_rules}
use Rattle.abi_machine.proofs.Walks.{far, walked, goes_on, leaves, planned}
use Rattle.abi_machine.proofs.Passed.{none_planned}

abbrev g : Graph
g = waits_twice

abbrev s : Script
s = called_and_cancelled

abbrev w0 : World
w0 = waits_twice_world

abbrev w1 : World
w1 = record w0 {
  tasks = new_task Init Nobody Exited ∷ new_task (Func (record { instance = 0; core = (core_func 0 8); options = asynchronous; func_type = func_type [] None })) (Host 1 []) Acting ∷ [];
  chain = 1 ∷ [];
  control = Lowers (record { inst = 0; memory = None; realloc = None; acts_for = 1; blame = 1; next = Starts }) (Gives []);
  units = 1;
  taken = 1;
}

piece1 : far 2 g s w0 ≡ ((line.Take 1 1 run_name [] ∷ line.Enter 1 ∷ []), w1)
unfolding the_rules
piece1 = ap (λ (p : Plan). ((line.Take 1 1 run_name [] ∷ line.Enter 1 ∷ []), planned p w1)) (none_planned (entries_by (defines g 0)) None)

abbrev w2 : World
w2 = record w0 {
  insts = record { table = (Add 2 (OfEnd (end_ref Stream 1 Writer)) ∷ Add 1 (OfEnd (end_ref Stream 1 Reader)) ∷ []); sets = []; backpressure = 0 } ∷ [];
  tasks = new_task Init Nobody Exited ∷ record (new_task (Func (record { instance = 0; core = (core_func 0 8); options = asynchronous; func_type = func_type [] None })) (Host 1 []) Acting) { stacks = ((Running (record { instance = 0; results = 0; locals = []; values = []; rest = (number 1 (number 0 (number 4 (Plain (instr.Call 2) (Plain Drop (number 2 (Plain (instr.Call 3) (Plain (instr.Call 4) (Plain Drop (number 1 (number 2 (Plain (instr.Call 5) (number 2 (number 0 (Plain (instr.Call 6) (Plain Drop (number 2 (number 8 (Plain (instr.Call 6) (Plain Drop (Plain (instr.Call 7) End))))))))))))))))))))); labels = record { arity = 0; under = []; again = None; after = End } ∷ [] }) []) ∷ []); cancellation = cancellation.Asked } ∷ [];
  streams = record { element = None; written = []; read = []; ends = record { view = record { reader = record { dropped = false; done = false; copy = None }; writer = record { dropped = false; done = false; copy = None } }; reader_closed = []; writer_closed = [] } } ∷ [];
  chain = 1 ∷ [];
  control = Runs;
  units = 7;
  taken = 2;
}

piece2 : far 11 g s w1 ≡ ((line.Do 1 builtin.Yield [] ∷ line.Block 1 reason.Yield ∷ line.Choose 2 0 ∷ line.Cancel 1 ∷ line.Go 1 ∷ line.Got 1 (0 ∷ []) ∷ line.Do 1 builtin.StreamNew [] ∷ line.Got 1 (8589934593 ∷ []) ∷ []), w2)
unfolding the_rules
piece2 = refl

abbrev w3 : World
w3 = record w0 {
  insts = record { table = (Add 2 (OfSet 0) ∷ Remove 2 ∷ Add 2 (OfEnd (end_ref Stream 1 Writer)) ∷ Add 1 (OfEnd (end_ref Stream 1 Reader)) ∷ []); sets = ([] ∷ []); backpressure = 0 } ∷ [];
  tasks = new_task Init Nobody Exited ∷ record (new_task (Func (record { instance = 0; core = (core_func 0 8); options = asynchronous; func_type = func_type [] None })) (Host 1 []) Acting) { stacks = ((Running (record { instance = 0; results = 0; locals = []; values = (2 ∷ []); rest = (Plain Drop (number 1 (number 2 (Plain (instr.Call 5) (number 2 (number 0 (Plain (instr.Call 6) (Plain Drop (number 2 (number 8 (Plain (instr.Call 6) (Plain Drop (Plain (instr.Call 7) End))))))))))))); labels = record { arity = 0; under = []; again = None; after = End } ∷ [] }) []) ∷ []); cancellation = cancellation.Asked } ∷ [];
  streams = record { element = None; written = []; read = []; ends = record { view = record { reader = record { dropped = false; done = false; copy = Some (record { by = by.Task 1; canon = 2; place = 0; length = 4; copied = 0; event = Some copy_event.Dropped; standing = true }) }; writer = record { dropped = true; done = false; copy = None } }; reader_closed = []; writer_closed = [] } } ∷ [];
  chain = 1 ∷ [];
  control = Runs;
  units = 15;
  taken = 2;
}

piece3 : far 11 g s w2 ≡ ((line.Do 1 builtin.StreamRead (1 ∷ 0 ∷ 4 ∷ []) ∷ line.Got 1 (4294967295 ∷ []) ∷ line.Do 1 builtin.StreamDropWritable (2 ∷ []) ∷ line.Got 1 [] ∷ line.Do 1 builtin.WaitableSetNew [] ∷ line.Got 1 (2 ∷ []) ∷ []), w3)
unfolding the_rules
piece3 = refl

abbrev w4 : World
w4 = record w0 {
  store = record w0.store { memories = record { bytes = (0 ∷ 0 ∷ 0 ∷ 0 ∷ 0 ∷ 0 ∷ 0 ∷ 0 ∷ 255 ∷ 255 ∷ 255 ∷ 255 ∷ 255 ∷ 255 ∷ 255 ∷ 255 ∷ []); maximum = None } ∷ [] };
  insts = record { table = (Add 2 (OfSet 0) ∷ Remove 2 ∷ Add 2 (OfEnd (end_ref Stream 1 Writer)) ∷ Add 1 (OfEnd (end_ref Stream 1 Reader)) ∷ []); sets = ((1 ∷ []) ∷ []); backpressure = 0 } ∷ [];
  tasks = new_task Init Nobody Exited ∷ record (new_task (Func (record { instance = 0; core = (core_func 0 8); options = asynchronous; func_type = func_type [] None })) (Host 1 []) Acting) { stacks = ((Running (record { instance = 0; results = 0; locals = []; values = (2 ∷ []); rest = (number 8 (Plain (instr.Call 6) (Plain Drop (Plain (instr.Call 7) End)))); labels = record { arity = 0; under = []; again = None; after = End } ∷ [] }) []) ∷ []); cancellation = cancellation.Delivered } ∷ [];
  streams = record { element = None; written = []; read = []; ends = record { view = record { reader = record { dropped = false; done = false; copy = Some (record { by = by.Task 1; canon = 2; place = 0; length = 4; copied = 0; event = Some copy_event.Dropped; standing = true }) }; writer = record { dropped = true; done = false; copy = None } }; reader_closed = []; writer_closed = [] } } ∷ [];
  chain = 1 ∷ [];
  control = Runs;
  units = 24;
  taken = 2;
}

piece4 : far 11 g s w3 ≡ ((line.Do 1 builtin.WaitableJoin (1 ∷ 2 ∷ []) ∷ line.Got 1 [] ∷ line.Do 1 builtin.WaitableSetWait (2 ∷ 0 ∷ []) ∷ line.Event 1 6 0 0 ∷ line.Got 1 (6 ∷ []) ∷ []), w4)
unfolding the_rules
piece4 = refl

abbrev w5 : World
w5 = record w0 {
  store = record w0.store { memories = record { bytes = (0 ∷ 0 ∷ 0 ∷ 0 ∷ 0 ∷ 0 ∷ 0 ∷ 0 ∷ 1 ∷ 0 ∷ 0 ∷ 0 ∷ 1 ∷ 0 ∷ 0 ∷ 0 ∷ []); maximum = None } ∷ [] };
  insts = record { table = (Add 2 (OfSet 0) ∷ Remove 2 ∷ Add 2 (OfEnd (end_ref Stream 1 Writer)) ∷ Add 1 (OfEnd (end_ref Stream 1 Reader)) ∷ []); sets = ((1 ∷ []) ∷ []); backpressure = 0 } ∷ [];
  tasks = new_task Init Nobody Exited ∷ record (new_task (Func (record { instance = 0; core = (core_func 0 8); options = asynchronous; func_type = func_type [] None })) (Host 1 []) Exited) { resolution = Some Cancelled; cancellation = cancellation.Delivered } ∷ [];
  streams = record { element = None; written = []; read = []; ends = record { view = record { reader = record { dropped = false; done = true; copy = None }; writer = record { dropped = true; done = false; copy = None } }; reader_closed = (record { length = 4; result = copy_result.Dropped; count = 0 } ∷ []); writer_closed = [] } } ∷ [];
  units = 28;
  taken = 2;
}

piece5 : far 10 g s w4 ≡ ((line.Do 1 builtin.WaitableSetWait (2 ∷ 8 ∷ []) ∷ line.Event 1 2 1 1 ∷ line.Got 1 (2 ∷ []) ∷ line.Do 1 builtin.TaskCancel [] ∷ line.Cancelled 1 ∷ line.Got 1 [] ∷ line.Exit 1 ∷ []), w5)
unfolding the_rules
piece5 = refl

pub told_first_shown : Leaves waits_twice called_and_cancelled waits_twice_world told_first Done 28 told_of_drop both_events
unfolding the_rules
told_first_shown =
    leaves g s w0 w5 _ Done 28 _ _
    (goes_on g s w0 w1 w5 _ _ (walked 2 g s w0 w1 _ piece1)
    (goes_on g s w1 w2 w5 _ _ (walked 11 g s w1 w2 _ piece2)
    (goes_on g s w2 w3 w5 _ _ (walked 11 g s w2 w3 _ piece3)
    (goes_on g s w3 w4 w5 _ _ (walked 11 g s w3 w4 _ piece4)
    (walked 10 g s w4 w5 _ piece5))))) refl refl refl refl
