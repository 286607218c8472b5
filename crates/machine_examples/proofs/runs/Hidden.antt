-- A copy for which a task waits is told to that task alone, also where its end is a member of a set.
use Rattle.std.proofs.Common.{◌≡◌, true, false, [], ◌∷◌, Some, None, refl, ap}
use Rattle.syntax_trees.specs.declared.instr.Instr.TheVariants.{Drop}
use Rattle.syntax_trees.specs.declared.instr.Instr.TheVariants as instr
use Rattle.syntax_trees.specs.Expr.{End, Plain}
use Rattle.wasm_store.specs.Stack.{Running}
use Rattle.handle_table.specs.History.{Add}
use Rattle.tasks.specs.declared.phase.Resolution.TheVariants.{Returned}
use Rattle.builtin_kinds.specs.declared.EndKind.TheVariants.{Stream}
use Rattle.stream_ends.specs.declared.side.Side.TheVariants.{Reader, Writer}
use Rattle.stream_ends.specs.declared.open_copy.By.TheVariants as by
use Rattle.stream_ends.specs.declared.open_copy.CopyEvent.TheVariants as copy_event
use Rattle.stream_ends.specs.declared.open_copy.CopyResult.TheVariants as copy_result
use Rattle.comp_graph.specs.Graph.{Graph}
use Rattle.script_reader.specs.Script.{Script}
use Rattle.trace_labels.specs.declared.builtin.Builtin.TheVariants as builtin
use Rattle.trace_labels.specs.declared.label.BlockReason.TheVariants as reason
use Rattle.trace_labels.specs.declared.label.Channel.TheVariants as channel
use Rattle.trace_labels.specs.declared.label.Copied.TheVariants.{Units}
use Rattle.trace_labels.specs.declared.label.Label.TheVariants as line
use Rattle.abi_machine.specs.declared.run_end.RunEnd.TheVariants.{Done}
use Rattle.abi_machine.specs.LoweringOver.{Plan, Gives}
use Rattle.abi_machine.specs.Control.{Runs, Calls, Lowers, Starts}
use Rattle.abi_machine.specs.World.{OfSet, OfEnd, Init, Func, Nobody, Host, ForCopy, Acting, InBuiltin, Exited, World, new_task}
use Rattle.abi_machine.specs.Canons.{defines}
use Rattle.abi_machine.specs.Pausing.{entries_by}
use Rattle.abi_machine.specs.replies.Streams.{end_ref}
use Rattle.abi_machine.specs.examples.Parts.{func_type, number, core_func, asynchronous, Leaves}
use Rattle.machine_examples.specs.Ends.{reads_name, other_name, sharing, sharing_world, read_and_other, writes, hidden, shared, no_event_bytes}
use Rattle.abi_machine.proofs.Rules.{the_rules}
use Rattle.abi_machine.proofs.Walks.{far, walked, goes_on, leaves, planned}
use Rattle.abi_machine.proofs.Passed.{none_planned}

abbrev g : Graph
g = sharing

abbrev s : Script
s = read_and_other

abbrev w0 : World
w0 = (sharing_world writes)

abbrev w1 : World
w1 = record w0 {
  tasks = new_task Init Nobody Exited ∷ new_task (Func (record { instance = 0; core = (core_func 0 8); options = asynchronous; func_type = func_type [] None })) (Host 1 []) Acting ∷ [];
  chain = 1 ∷ [];
  control = Lowers (record { inst = 0; memory = None; realloc = None; acts_for = 1; blame = 1; next = Starts }) (Gives []);
  units = 1;
  taken = 1;
}

piece1 : far 2 g s w0 ≡ ((line.Take 1 1 reads_name [] ∷ line.Enter 1 ∷ []), w1)
unfolding the_rules
piece1 = ap (λ (p : Plan). ((line.Take 1 1 reads_name [] ∷ line.Enter 1 ∷ []), planned p w1)) (none_planned (entries_by (defines g 0)) None)

abbrev w2 : World
w2 = record w0 {
  insts = record { table = (Add 3 (OfSet 0) ∷ Add 2 (OfEnd (end_ref Stream 1 Writer)) ∷ Add 1 (OfEnd (end_ref Stream 1 Reader)) ∷ []); sets = ((1 ∷ []) ∷ []); backpressure = 0 } ∷ [];
  tasks = new_task Init Nobody Exited ∷ record (new_task (Func (record { instance = 0; core = (core_func 0 8); options = asynchronous; func_type = func_type [] None })) (Host 1 []) Acting) { stacks = ((Running (record { instance = 0; results = 0; locals = []; values = []; rest = (number 1 (number 0 (number 1 (Plain (instr.Call 1) (Plain Drop (Plain (instr.Call 6) End)))))); labels = record { arity = 0; under = []; again = None; after = End } ∷ [] }) []) ∷ []) } ∷ [];
  streams = record { element = None; written = []; read = []; ends = record { view = record { reader = record { dropped = false; done = false; copy = None }; writer = record { dropped = false; done = false; copy = None } }; reader_closed = []; writer_closed = [] } } ∷ [];
  chain = 1 ∷ [];
  control = Runs;
  units = 8;
  taken = 1;
}

piece2 : far 11 g s w1 ≡ ((line.Do 1 builtin.StreamNew [] ∷ line.Got 1 (8589934593 ∷ []) ∷ line.Do 1 builtin.WaitableSetNew [] ∷ line.Got 1 (3 ∷ []) ∷ line.Do 1 builtin.WaitableJoin (1 ∷ 3 ∷ []) ∷ line.Got 1 [] ∷ []), w2)
unfolding the_rules
piece2 = refl

abbrev w3 : World
w3 = record w0 {
  insts = record { table = (Add 3 (OfSet 0) ∷ Add 2 (OfEnd (end_ref Stream 1 Writer)) ∷ Add 1 (OfEnd (end_ref Stream 1 Reader)) ∷ []); sets = ((1 ∷ []) ∷ []); backpressure = 0 } ∷ [];
  tasks = new_task Init Nobody Exited ∷ record (new_task (Func (record { instance = 0; core = (core_func 0 8); options = asynchronous; func_type = func_type [] None })) (Host 1 []) (InBuiltin 1 (1 ∷ 0 ∷ 1 ∷ []) (ForCopy 1))) { stacks = ((Running (record { instance = 0; results = 0; locals = []; values = []; rest = (Plain Drop (Plain (instr.Call 6) End)); labels = record { arity = 0; under = []; again = None; after = End } ∷ [] }) []) ∷ []) } ∷ new_task (Func (record { instance = 0; core = (core_func 0 9); options = asynchronous; func_type = func_type [] None })) (Host 2 []) Acting ∷ [];
  streams = record { element = None; written = []; read = []; ends = record { view = record { reader = record { dropped = false; done = false; copy = Some (record { by = by.Task 1; canon = 1; place = 0; length = 1; copied = 0; event = None; standing = true }) }; writer = record { dropped = false; done = false; copy = None } }; reader_closed = []; writer_closed = [] } } ∷ [];
  chain = 2 ∷ [];
  control = Lowers (record { inst = 0; memory = None; realloc = None; acts_for = 2; blame = 2; next = Starts }) (Gives []);
  units = 13;
  taken = 2;
}

piece3 : far 7 g s w2 ≡ ((line.Do 1 builtin.StreamRead (1 ∷ 0 ∷ 1 ∷ []) ∷ line.Block 1 (reason.Copy 1) ∷ line.Take 2 2 other_name [] ∷ line.Enter 2 ∷ []), w3)
unfolding the_rules
piece3 = ap (λ (p : Plan). ((line.Do 1 builtin.StreamRead (1 ∷ 0 ∷ 1 ∷ []) ∷ line.Block 1 (reason.Copy 1) ∷ line.Take 2 2 other_name [] ∷ line.Enter 2 ∷ []), planned p w3)) (none_planned (entries_by (defines g 0)) None)

abbrev w4 : World
w4 = record w0 {
  insts = record { table = (Add 3 (OfSet 0) ∷ Add 2 (OfEnd (end_ref Stream 1 Writer)) ∷ Add 1 (OfEnd (end_ref Stream 1 Reader)) ∷ []); sets = ((1 ∷ []) ∷ []); backpressure = 0 } ∷ [];
  tasks = new_task Init Nobody Exited ∷ record (new_task (Func (record { instance = 0; core = (core_func 0 8); options = asynchronous; func_type = func_type [] None })) (Host 1 []) (InBuiltin 1 (1 ∷ 0 ∷ 1 ∷ []) (ForCopy 1))) { stacks = ((Running (record { instance = 0; results = 0; locals = []; values = []; rest = (Plain Drop (Plain (instr.Call 6) End)); labels = record { arity = 0; under = []; again = None; after = End } ∷ [] }) []) ∷ []) } ∷ record (new_task (Func (record { instance = 0; core = (core_func 0 9); options = asynchronous; func_type = func_type [] None })) (Host 2 []) Acting) { stacks = ((Running (record { instance = 0; results = 0; locals = []; values = []; rest = (Plain Drop (Plain (instr.Call 6) End)); labels = record { arity = 0; under = []; again = None; after = End } ∷ [] }) []) ∷ []) } ∷ [];
  streams = record { element = None; written = (None ∷ []); read = (None ∷ []); ends = record { view = record { reader = record { dropped = false; done = false; copy = Some (record { by = by.Task 1; canon = 1; place = 0; length = 1; copied = 1; event = Some copy_event.Completed; standing = true }) }; writer = record { dropped = false; done = false; copy = None } }; reader_closed = []; writer_closed = (record { length = 1; result = copy_result.Completed; count = 1 } ∷ []) } } ∷ [];
  chain = 2 ∷ [];
  control = Calls 5 (3 ∷ 0 ∷ []);
  units = 21;
  taken = 2;
}

piece4 : far 11 g s w3 ≡ ((line.Do 2 builtin.StreamWrite (2 ∷ 0 ∷ 1 ∷ []) ∷ line.Copy (channel.Stream 1) (Units 1) ∷ line.Got 2 (16 ∷ []) ∷ []), w4)
unfolding the_rules
piece4 = refl

abbrev w5 : World
w5 = record w0 {
  store = record w0.store { memories = record { bytes = (0 ∷ 0 ∷ 0 ∷ 0 ∷ 0 ∷ 0 ∷ 0 ∷ 0 ∷ []); maximum = None } ∷ [] };
  insts = record { table = (Add 3 (OfSet 0) ∷ Add 2 (OfEnd (end_ref Stream 1 Writer)) ∷ Add 1 (OfEnd (end_ref Stream 1 Reader)) ∷ []); sets = ((1 ∷ []) ∷ []); backpressure = 0 } ∷ [];
  tasks = new_task Init Nobody Exited ∷ record (new_task (Func (record { instance = 0; core = (core_func 0 8); options = asynchronous; func_type = func_type [] None })) (Host 1 []) Acting) { stacks = ((Running (record { instance = 0; results = 0; locals = []; values = []; rest = End; labels = record { arity = 0; under = []; again = None; after = End } ∷ [] }) []) ∷ []) } ∷ record (new_task (Func (record { instance = 0; core = (core_func 0 9); options = asynchronous; func_type = func_type [] None })) (Host 2 []) Exited) { resolution = Some Returned } ∷ [];
  streams = record { element = None; written = (None ∷ []); read = (None ∷ []); ends = record { view = record { reader = record { dropped = false; done = false; copy = None }; writer = record { dropped = false; done = false; copy = None } }; reader_closed = (record { length = 1; result = copy_result.Completed; count = 1 } ∷ []); writer_closed = (record { length = 1; result = copy_result.Completed; count = 1 } ∷ []) } } ∷ [];
  chain = 1 ∷ [];
  control = Calls 6 [];
  units = 26;
  taken = 2;
}

piece5 : far 11 g s w4 ≡ ((line.Do 2 builtin.WaitableSetPoll (3 ∷ 0 ∷ []) ∷ line.Event 2 0 0 0 ∷ line.Got 2 (0 ∷ []) ∷ line.Do 2 builtin.TaskReturn [] ∷ line.Return 2 None ∷ line.Got 2 [] ∷ line.Exit 2 ∷ line.Go 1 ∷ line.Got 1 (16 ∷ []) ∷ []), w5)
unfolding the_rules
piece5 = refl

abbrev w6 : World
w6 = record w0 {
  store = record w0.store { memories = record { bytes = (0 ∷ 0 ∷ 0 ∷ 0 ∷ 0 ∷ 0 ∷ 0 ∷ 0 ∷ []); maximum = None } ∷ [] };
  insts = record { table = (Add 3 (OfSet 0) ∷ Add 2 (OfEnd (end_ref Stream 1 Writer)) ∷ Add 1 (OfEnd (end_ref Stream 1 Reader)) ∷ []); sets = ((1 ∷ []) ∷ []); backpressure = 0 } ∷ [];
  tasks = new_task Init Nobody Exited ∷ record (new_task (Func (record { instance = 0; core = (core_func 0 8); options = asynchronous; func_type = func_type [] None })) (Host 1 []) Exited) { resolution = Some Returned } ∷ record (new_task (Func (record { instance = 0; core = (core_func 0 9); options = asynchronous; func_type = func_type [] None })) (Host 2 []) Exited) { resolution = Some Returned } ∷ [];
  streams = record { element = None; written = (None ∷ []); read = (None ∷ []); ends = record { view = record { reader = record { dropped = false; done = false; copy = None }; writer = record { dropped = false; done = false; copy = None } }; reader_closed = (record { length = 1; result = copy_result.Completed; count = 1 } ∷ []); writer_closed = (record { length = 1; result = copy_result.Completed; count = 1 } ∷ []) } } ∷ [];
  units = 26;
  taken = 2;
}

piece6 : far 4 g s w5 ≡ ((line.Do 1 builtin.TaskReturn [] ∷ line.Return 1 None ∷ line.Got 1 [] ∷ line.Exit 1 ∷ []), w6)
unfolding the_rules
piece6 = refl

pub hidden_shown : Leaves sharing read_and_other (sharing_world writes) hidden Done 26 shared no_event_bytes
unfolding the_rules
hidden_shown =
    leaves g s w0 w6 _ Done 26 _ _
    (goes_on g s w0 w1 w6 _ _ (walked 2 g s w0 w1 _ piece1)
    (goes_on g s w1 w2 w6 _ _ (walked 11 g s w1 w2 _ piece2)
    (goes_on g s w2 w3 w6 _ _ (walked 7 g s w2 w3 _ piece3)
    (goes_on g s w3 w4 w6 _ _ (walked 11 g s w3 w4 _ piece4)
    (goes_on g s w4 w5 w6 _ _ (walked 11 g s w4 w5 _ piece5)
    (walked 4 g s w5 w6 _ piece6)))))) refl refl refl refl
