-- The reader drops its end in the midst of a write.
use Rattle.std.proofs.Common.{◌≡◌, ◌∙◌, ◌+◌, ◌*◌, Bool, true, false, [], ◌∷◌, ◌++◌, replicate, Some, None, refl, ap}
use Rattle.syntax_trees.specs.declared.instr.Instr.TheVariants.{Drop}
use Rattle.syntax_trees.specs.declared.instr.Instr.TheVariants as instr
use Rattle.syntax_trees.specs.Expr.{End, Plain}
use Rattle.wasm_store.specs.Stack.{Running}
use Rattle.builtin_kinds.specs.declared.EndKind.TheVariants.{Stream}
use Rattle.syntax_trees.specs.declared.types.ValType.TheOpen as F
use Rattle.syntax_trees.specs.declared.types.ValType.TheVariants as leaves
use Rattle.syntax_trees.specs.declared.value.Value.TheOpen as V
use Rattle.syntax_trees.specs.declared.value.Value.TheVariants as plain
use Rattle.laid_types.specs.Layout.{Laid}
use Rattle.handle_table.specs.History.{Add, Remove}
use Rattle.stream_ends.specs.declared.side.Side.TheVariants.{Reader, Writer}
use Rattle.stream_ends.specs.declared.open_copy.By.TheVariants as by
use Rattle.stream_ends.specs.declared.open_copy.CopyEvent.TheVariants as copy_event
use Rattle.stream_ends.specs.declared.open_copy.CopyResult.TheVariants as copy_result
use Rattle.comp_graph.specs.Graph.{Graph, no_options}
use Rattle.script_reader.specs.Script.{Script}
use Rattle.trace_labels.specs.declared.builtin.Builtin.TheVariants as builtin
use Rattle.trace_labels.specs.declared.label.Channel.TheVariants as channel
use Rattle.trace_labels.specs.declared.label.Copied.TheVariants.{Values}
use Rattle.trace_labels.specs.declared.label.Label.TheVariants as line
use Rattle.trace_labels.specs.declared.trap.TrapName.TheVariants as trap
use Rattle.abi_machine.specs.declared.run_end.RunEnd.TheVariants.{Trapped}
use Rattle.abi_machine.specs.LiftingOver.{part_step}
use Rattle.abi_machine.specs.LoweringOver.{Plan, Gives, Lowered, lowered, lower_step}
use Rattle.abi_machine.specs.Control.{Free, Calls, Lowers, Doomed, Transfers}
use Rattle.abi_machine.specs.World.{OfSet, OfEnd, Init, Func, Nobody, Host, Acting, Exited, World, new_task}
use Rattle.abi_machine.specs.Edits.{with_control}
use Rattle.abi_machine.specs.Canons.{bytes_of, defines}
use Rattle.abi_machine.specs.Finding.{typed_end}
use Rattle.abi_machine.specs.Turn.{Steps, behind}
use Rattle.abi_machine.specs.Lifting.{by_world}
use Rattle.abi_machine.specs.Passing.{elements_lifted, elements_plan}
use Rattle.abi_machine.specs.Pausing.{entries_by}
use Rattle.abi_machine.specs.replies.Streams.{end_ref}
use Rattle.abi_machine.specs.Next.{next}
use Rattle.abi_machine.specs.examples.Parts.{func_type, number, core_at, core_func, one_call, Shows}
use Rattle.abi_machine.specs.examples.Streams.{dropped_behind, drops_behind, streaming, streaming_world}
use Rattle.abi_machine.proofs.Rules.{the_rules}
use Rattle.abi_machine.proofs.Walks.{far, walked, stepped, goes_on, shows, planned}
use Rattle.abi_machine.proofs.Layers.{u8_laid, u8_integer, u8_same, u8_part, u8_lowered}
use Rattle.abi_machine.proofs.Passed.{elements_by, elements_planned, sized_from}
use Rattle.abi_machine.proofs.Copies.{the_channel, the_canon, copies_as, moving, drops_as}

abbrev g : Graph
g = streaming

abbrev s : Script
s = one_call

abbrev w0 : World
w0 = streaming_world drops_behind

abbrev w1 : World
w1 = record w0 {
  insts = record { table = (Add 2 (OfEnd (end_ref Stream 1 Writer)) ∷ Add 1 (OfEnd (end_ref Stream 1 Reader)) ∷ []); sets = []; backpressure = 0 } ∷ [];
  tasks = new_task Init Nobody Exited ∷ record (new_task (Func (record { instance = 0; core = core_func 0 0; options = no_options; func_type = func_type [] None })) (Host 1 []) Acting) { stacks = (Running (record { instance = 0; results = 0; locals = []; values = []; rest = (Plain Drop (number 1 (number 0 (number 2 (Plain (instr.Call 1) (Plain Drop (number 1 (Plain (instr.Call 3) (Plain (instr.Call 7) (Plain Drop (number 2 (number 1 (Plain (instr.Call 8) (number 1 (number 32 (Plain (instr.Call 9) (Plain Drop (number 2 (number 16 (number 1 (Plain (instr.Call 2) (Plain Drop End)))))))))))))))))))))); labels = record { arity = 0; under = []; again = None; after = End } ∷ [] }) [] ∷ []) } ∷ [];
  streams = record { element = Some leaves.U8; written = []; read = []; ends = record { view = record { reader = record { dropped = false; done = false; copy = None }; writer = record { dropped = false; done = false; copy = None } }; reader_closed = []; writer_closed = [] } } ∷ [];
  control = Calls 2 (2 ∷ 16 ∷ 5 ∷ []);
  units = 6;
}

piece1 : far 7 g s w0 ≡ ((line.Do 1 builtin.StreamNew [] ∷ line.Got 1 (8589934593 ∷ []) ∷ []), w1)
unfolding the_rules
piece1 = refl

abbrev w2 : World
w2 = record w0 {
  insts = record { table = (Add 2 (OfEnd (end_ref Stream 1 Writer)) ∷ Add 1 (OfEnd (end_ref Stream 1 Reader)) ∷ []); sets = []; backpressure = 0 } ∷ [];
  tasks = new_task Init Nobody Exited ∷ record (new_task (Func (record { instance = 0; core = core_func 0 0; options = no_options; func_type = func_type [] None })) (Host 1 []) Acting) { stacks = (Running (record { instance = 0; results = 0; locals = []; values = (4294967295 ∷ []); rest = (Plain Drop (number 1 (number 0 (number 2 (Plain (instr.Call 1) (Plain Drop (number 1 (Plain (instr.Call 3) (Plain (instr.Call 7) (Plain Drop (number 2 (number 1 (Plain (instr.Call 8) (number 1 (number 32 (Plain (instr.Call 9) (Plain Drop (number 2 (number 16 (number 1 (Plain (instr.Call 2) (Plain Drop End)))))))))))))))))))))); labels = record { arity = 0; under = []; again = None; after = End } ∷ [] }) [] ∷ []) } ∷ [];
  streams = record { element = Some leaves.U8; written = []; read = []; ends = record { view = record { reader = record { dropped = false; done = false; copy = None }; writer = record { dropped = false; done = false; copy = Some (record { by = by.Task 1; canon = 2; place = 16; length = 5; copied = 0; event = None; standing = true }) } }; reader_closed = []; writer_closed = [] } } ∷ [];
  units = 6;
}

piece2 : next g s w1 ≡ Steps (line.Do 1 builtin.StreamWrite (2 ∷ 16 ∷ 5 ∷ []) ∷ line.Got 1 (4294967295 ∷ []) ∷ []) w2
unfolding the_rules
piece2 =
    ap (behind (line.Do 1 builtin.StreamWrite (2 ∷ 16 ∷ 5 ∷ []) ∷ [])) (copies_as g 1 0 2 Stream Writer leaves.U8 (record no_options { memory = Some (core_at 0 0); is_async = true }) (2 ∷ 16 ∷ 5 ∷ []) 5 (with_control Free w1) (end_ref Stream 1 Writer) (the_channel w1 (end_ref Stream 1 Writer)) (record { size = 1; align = 1 }) true (ap (λ (b : Bool). typed_end b (end_ref Stream 1 Writer)) u8_same) refl refl u8_laid u8_integer)

abbrev w3 : World
w3 = record w0 {
  insts = record { table = (Add 2 (OfEnd (end_ref Stream 1 Writer)) ∷ Add 1 (OfEnd (end_ref Stream 1 Reader)) ∷ []); sets = []; backpressure = 0 } ∷ [];
  tasks = new_task Init Nobody Exited ∷ record (new_task (Func (record { instance = 0; core = core_func 0 0; options = no_options; func_type = func_type [] None })) (Host 1 []) Acting) { stacks = (Running (record { instance = 0; results = 0; locals = []; values = []; rest = (Plain Drop (number 1 (Plain (instr.Call 3) (Plain (instr.Call 7) (Plain Drop (number 2 (number 1 (Plain (instr.Call 8) (number 1 (number 32 (Plain (instr.Call 9) (Plain Drop (number 2 (number 16 (number 1 (Plain (instr.Call 2) (Plain Drop End))))))))))))))))); labels = record { arity = 0; under = []; again = None; after = End } ∷ [] }) [] ∷ []) } ∷ [];
  streams = record { element = Some leaves.U8; written = []; read = []; ends = record { view = record { reader = record { dropped = false; done = false; copy = None }; writer = record { dropped = false; done = false; copy = Some (record { by = by.Task 1; canon = 2; place = 16; length = 5; copied = 0; event = None; standing = true }) } }; reader_closed = []; writer_closed = [] } } ∷ [];
  control = Calls 1 (1 ∷ 0 ∷ 2 ∷ []);
  units = 11;
}

piece3 : far 5 g s w2 ≡ ([], w3)
unfolding the_rules
piece3 = refl

abbrev w4 : World
w4 = record w0 {
  insts = record { table = (Add 2 (OfEnd (end_ref Stream 1 Writer)) ∷ Add 1 (OfEnd (end_ref Stream 1 Reader)) ∷ []); sets = []; backpressure = 0 } ∷ [];
  tasks = new_task Init Nobody Exited ∷ record (new_task (Func (record { instance = 0; core = core_func 0 0; options = no_options; func_type = func_type [] None })) (Host 1 []) Acting) { stacks = (Running (record { instance = 0; results = 0; locals = []; values = []; rest = (Plain Drop (number 1 (Plain (instr.Call 3) (Plain (instr.Call 7) (Plain Drop (number 2 (number 1 (Plain (instr.Call 8) (number 1 (number 32 (Plain (instr.Call 9) (Plain Drop (number 2 (number 16 (number 1 (Plain (instr.Call 2) (Plain Drop End))))))))))))))))); labels = record { arity = 0; under = []; again = None; after = End } ∷ [] }) [] ∷ []) } ∷ [];
  streams = record { element = Some leaves.U8; written = []; read = []; ends = record { view = record { reader = record { dropped = false; done = false; copy = None }; writer = record { dropped = false; done = false; copy = Some (record { by = by.Task 1; canon = 2; place = 16; length = 5; copied = 0; event = None; standing = true }) } }; reader_closed = []; writer_closed = [] } } ∷ [];
  control = Lowers (record { inst = 0; memory = Some 0; realloc = None; acts_for = 1; blame = 1; next = Transfers (record { end = end_ref Stream 1 Reader; length = 2; values = ((Some (plain.U8 1)) ∷ (Some (plain.U8 2)) ∷ []) }) }) (sized_from 1 leaves.U8 0 ((lower_step (entries_by (defines g 0)) (V.U8 1)) ∷ (lower_step (entries_by (defines g 0)) (V.U8 2)) ∷ []) (Gives []));
  units = 11;
}

piece4 : next g s w3 ≡ Steps (line.Do 1 builtin.StreamRead (1 ∷ 0 ∷ 2 ∷ []) ∷ []) w4
unfolding the_rules
piece4 =
    ap (behind (line.Do 1 builtin.StreamRead (1 ∷ 0 ∷ 2 ∷ []) ∷ [])) (copies_as g 1 0 1 Stream Reader leaves.U8 (record no_options { memory = Some (core_at 0 0); is_async = true }) (1 ∷ 0 ∷ 2 ∷ []) 2 (with_control Free w3) (end_ref Stream 1 Reader) (the_channel w3 (end_ref Stream 1 Reader)) (record { size = 1; align = 1 }) true (ap (λ (b : Bool). typed_end b (end_ref Stream 1 Reader)) u8_same) refl refl u8_laid u8_integer)
    ∙ ap (λ (l : Laid). moving g 1 (line.Do 1 builtin.StreamRead (1 ∷ 0 ∷ 2 ∷ []) ∷ []) (end_ref Stream 1 Reader) 2 (record { by = by.Task 1; canon = 1; place = 0; length = 2; copied = 0; event = None; standing = true }) (the_canon g 1) leaves.U8 (elements_lifted 0 1 leaves.U8 (bytes_of w3.store (Some 0)) (16 + 0 * l.size) 2 (with_control Free w3))) u8_laid
    ∙ ap (moving g 1 (line.Do 1 builtin.StreamRead (1 ∷ 0 ∷ 2 ∷ []) ∷ []) (end_ref Stream 1 Reader) 2 (record { by = by.Task 1; canon = 1; place = 0; length = 2; copied = 0; event = None; standing = true }) (the_canon g 1) leaves.U8) (elements_by 0 1 leaves.U8 (bytes_of w3.store (Some 0)) 16 2 (with_control Free w3) (part_step (by_world 0 1) F.U8) (u8_part (by_world 0 1)))
    ∙ ap (λ (l : Laid). Steps (line.Do 1 builtin.StreamRead (1 ∷ 0 ∷ 2 ∷ []) ∷ []) (planned (elements_plan (entries_by (defines g 0)) leaves.U8 ((plain.U8 1) ∷ (plain.U8 2) ∷ []) (0 + 0 * l.size)) w4)) u8_laid
    ∙ ap (λ (p : Plan). Steps (line.Do 1 builtin.StreamRead (1 ∷ 0 ∷ 2 ∷ []) ∷ []) (planned p w4)) (elements_planned (entries_by (defines g 0)) leaves.U8 ((plain.U8 1) ∷ (plain.U8 2) ∷ []) 0 ((lower_step (entries_by (defines g 0)) (V.U8 1)) ∷ (lower_step (entries_by (defines g 0)) (V.U8 2)) ∷ []) (record { size = 1; align = 1 }) u8_laid (ap (λ (x : Lowered). x ∷ lowered (entries_by (defines g 0)) (plain.U8 2) ∷ []) (u8_lowered (entries_by (defines g 0)) 1) ∙ ap (λ (x : Lowered). (lower_step (entries_by (defines g 0)) (V.U8 1)) ∷ x ∷ []) (u8_lowered (entries_by (defines g 0)) 2)))

abbrev w5 : World
w5 = record w0 {
  store = record w0.store { memories = record { bytes = ((1 ∷ 2 ∷ []) ++ replicate 14 0 ++ (1 ∷ 2 ∷ 3 ∷ 4 ∷ 5 ∷ []) ++ replicate 19 0); maximum = None } ∷ [] };
  insts = record { table = (Add 2 (OfEnd (end_ref Stream 1 Writer)) ∷ Add 1 (OfEnd (end_ref Stream 1 Reader)) ∷ []); sets = []; backpressure = 0 } ∷ [];
  tasks = new_task Init Nobody Exited ∷ record (new_task (Func (record { instance = 0; core = core_func 0 0; options = no_options; func_type = func_type [] None })) (Host 1 []) Acting) { stacks = (Running (record { instance = 0; results = 0; locals = []; values = []; rest = (Plain (instr.Call 7) (Plain Drop (number 2 (number 1 (Plain (instr.Call 8) (number 1 (number 32 (Plain (instr.Call 9) (Plain Drop (number 2 (number 16 (number 1 (Plain (instr.Call 2) (Plain Drop End)))))))))))))); labels = record { arity = 0; under = []; again = None; after = End } ∷ [] }) [] ∷ []) } ∷ [];
  streams = record { element = Some leaves.U8; written = ((Some (plain.U8 1)) ∷ (Some (plain.U8 2)) ∷ []); read = ((Some (plain.U8 1)) ∷ (Some (plain.U8 2)) ∷ []); ends = record { view = record { reader = record { dropped = false; done = false; copy = None }; writer = record { dropped = false; done = false; copy = Some (record { by = by.Task 1; canon = 2; place = 16; length = 5; copied = 2; event = Some copy_event.Completed; standing = true }) } }; reader_closed = (record { length = 2; result = copy_result.Completed; count = 2 } ∷ []); writer_closed = [] } } ∷ [];
  control = Calls 3 (1 ∷ []);
  units = 14;
}

piece5 : far 4 g s w4 ≡ ((line.Copy (channel.Stream 1) (Values (record { values = ((plain.U8 1) ∷ (plain.U8 2) ∷ []); val_type = leaves.U8 })) ∷ line.Got 1 (32 ∷ []) ∷ []), w5)
unfolding the_rules
piece5 = refl

abbrev w6 : World
w6 = record w0 {
  store = record w0.store { memories = record { bytes = ((1 ∷ 2 ∷ []) ++ replicate 14 0 ++ (1 ∷ 2 ∷ 3 ∷ 4 ∷ 5 ∷ []) ++ replicate 19 0); maximum = None } ∷ [] };
  insts = record { table = (Remove 1 ∷ Add 2 (OfEnd (end_ref Stream 1 Writer)) ∷ Add 1 (OfEnd (end_ref Stream 1 Reader)) ∷ []); sets = []; backpressure = 0 } ∷ [];
  tasks = new_task Init Nobody Exited ∷ record (new_task (Func (record { instance = 0; core = core_func 0 0; options = no_options; func_type = func_type [] None })) (Host 1 []) Acting) { stacks = (Running (record { instance = 0; results = 0; locals = []; values = []; rest = (Plain (instr.Call 7) (Plain Drop (number 2 (number 1 (Plain (instr.Call 8) (number 1 (number 32 (Plain (instr.Call 9) (Plain Drop (number 2 (number 16 (number 1 (Plain (instr.Call 2) (Plain Drop End)))))))))))))); labels = record { arity = 0; under = []; again = None; after = End } ∷ [] }) [] ∷ []) } ∷ [];
  streams = record { element = Some leaves.U8; written = ((Some (plain.U8 1)) ∷ (Some (plain.U8 2)) ∷ []); read = ((Some (plain.U8 1)) ∷ (Some (plain.U8 2)) ∷ []); ends = record { view = record { reader = record { dropped = true; done = false; copy = None }; writer = record { dropped = false; done = false; copy = Some (record { by = by.Task 1; canon = 2; place = 16; length = 5; copied = 2; event = Some copy_event.Dropped; standing = true }) } }; reader_closed = (record { length = 2; result = copy_result.Completed; count = 2 } ∷ []); writer_closed = [] } } ∷ [];
  units = 14;
}

piece6 : next g s w5 ≡ Steps (line.Do 1 builtin.StreamDropReadable (1 ∷ []) ∷ line.Got 1 [] ∷ []) w6
unfolding the_rules
piece6 =
    ap (behind (line.Do 1 builtin.StreamDropReadable (1 ∷ []) ∷ [])) (drops_as 1 0 Stream Reader (Some leaves.U8) 1 (with_control Free w5) (end_ref Stream 1 Reader) (ap (λ (b : Bool). typed_end b (end_ref Stream 1 Reader)) u8_same))

abbrev w7 : World
w7 = record w0 {
  store = record w0.store { memories = record { bytes = ((1 ∷ 2 ∷ []) ++ replicate 14 0 ++ (1 ∷ 2 ∷ 3 ∷ 4 ∷ 5 ∷ []) ++ replicate 11 0 ++ (2 ∷ 0 ∷ 0 ∷ 0 ∷ 33 ∷ 0 ∷ 0 ∷ 0 ∷ [])); maximum = None } ∷ [] };
  insts = record { table = (Add 1 (OfSet 0) ∷ Remove 1 ∷ Add 2 (OfEnd (end_ref Stream 1 Writer)) ∷ Add 1 (OfEnd (end_ref Stream 1 Reader)) ∷ []); sets = ((2 ∷ []) ∷ []); backpressure = 0 } ∷ [];
  tasks = new_task Init Nobody Exited ∷ record (new_task (Func (record { instance = 0; core = core_func 0 0; options = no_options; func_type = func_type [] None })) (Host 1 []) Acting) { stacks = (Running (record { instance = 0; results = 0; locals = []; values = (2 ∷ []); rest = (number 16 (number 1 (Plain (instr.Call 2) (Plain Drop End)))); labels = record { arity = 0; under = []; again = None; after = End } ∷ [] }) [] ∷ []) } ∷ [];
  streams = record { element = Some leaves.U8; written = ((Some (plain.U8 1)) ∷ (Some (plain.U8 2)) ∷ []); read = ((Some (plain.U8 1)) ∷ (Some (plain.U8 2)) ∷ []); ends = record { view = record { reader = record { dropped = true; done = false; copy = None }; writer = record { dropped = false; done = true; copy = None } }; reader_closed = (record { length = 2; result = copy_result.Completed; count = 2 } ∷ []); writer_closed = (record { length = 5; result = copy_result.Dropped; count = 2 } ∷ []) } } ∷ [];
  units = 24;
}

piece7 : far 14 g s w6 ≡ ((line.Do 1 builtin.WaitableSetNew [] ∷ line.Got 1 (1 ∷ []) ∷ line.Do 1 builtin.WaitableJoin (2 ∷ 1 ∷ []) ∷ line.Got 1 [] ∷ line.Do 1 builtin.WaitableSetWait (1 ∷ 32 ∷ []) ∷ line.Event 1 3 2 33 ∷ line.Got 1 (3 ∷ []) ∷ []), w7)
unfolding the_rules
piece7 = refl

abbrev w8 : World
w8 = record w0 {
  store = record w0.store { memories = record { bytes = ((1 ∷ 2 ∷ []) ++ replicate 14 0 ++ (1 ∷ 2 ∷ 3 ∷ 4 ∷ 5 ∷ []) ++ replicate 11 0 ++ (2 ∷ 0 ∷ 0 ∷ 0 ∷ 33 ∷ 0 ∷ 0 ∷ 0 ∷ [])); maximum = None } ∷ [] };
  insts = record { table = (Add 1 (OfSet 0) ∷ Remove 1 ∷ Add 2 (OfEnd (end_ref Stream 1 Writer)) ∷ Add 1 (OfEnd (end_ref Stream 1 Reader)) ∷ []); sets = ((2 ∷ []) ∷ []); backpressure = 0 } ∷ [];
  tasks = new_task Init Nobody Exited ∷ record (new_task (Func (record { instance = 0; core = core_func 0 0; options = no_options; func_type = func_type [] None })) (Host 1 []) Acting) { stacks = (Running (record { instance = 0; results = 0; locals = []; values = []; rest = (Plain Drop End); labels = record { arity = 0; under = []; again = None; after = End } ∷ [] }) [] ∷ []) } ∷ [];
  streams = record { element = Some leaves.U8; written = ((Some (plain.U8 1)) ∷ (Some (plain.U8 2)) ∷ []); read = ((Some (plain.U8 1)) ∷ (Some (plain.U8 2)) ∷ []); ends = record { view = record { reader = record { dropped = true; done = false; copy = None }; writer = record { dropped = false; done = true; copy = None } }; reader_closed = (record { length = 2; result = copy_result.Completed; count = 2 } ∷ []); writer_closed = (record { length = 5; result = copy_result.Dropped; count = 2 } ∷ []) } } ∷ [];
  control = Calls 2 (2 ∷ 16 ∷ 1 ∷ []);
  units = 27;
}

piece8 : far 3 g s w7 ≡ ([], w8)
unfolding the_rules
piece8 = refl

abbrev w9 : World
w9 = record w0 {
  store = record w0.store { memories = record { bytes = ((1 ∷ 2 ∷ []) ++ replicate 14 0 ++ (1 ∷ 2 ∷ 3 ∷ 4 ∷ 5 ∷ []) ++ replicate 11 0 ++ (2 ∷ 0 ∷ 0 ∷ 0 ∷ 33 ∷ 0 ∷ 0 ∷ 0 ∷ [])); maximum = None } ∷ [] };
  insts = record { table = (Add 1 (OfSet 0) ∷ Remove 1 ∷ Add 2 (OfEnd (end_ref Stream 1 Writer)) ∷ Add 1 (OfEnd (end_ref Stream 1 Reader)) ∷ []); sets = ((2 ∷ []) ∷ []); backpressure = 0 } ∷ [];
  tasks = new_task Init Nobody Exited ∷ record (new_task (Func (record { instance = 0; core = core_func 0 0; options = no_options; func_type = func_type [] None })) (Host 1 []) Acting) { stacks = (Running (record { instance = 0; results = 0; locals = []; values = []; rest = (Plain Drop End); labels = record { arity = 0; under = []; again = None; after = End } ∷ [] }) [] ∷ []) } ∷ [];
  streams = record { element = Some leaves.U8; written = ((Some (plain.U8 1)) ∷ (Some (plain.U8 2)) ∷ []); read = ((Some (plain.U8 1)) ∷ (Some (plain.U8 2)) ∷ []); ends = record { view = record { reader = record { dropped = true; done = false; copy = None }; writer = record { dropped = false; done = true; copy = None } }; reader_closed = (record { length = 2; result = copy_result.Completed; count = 2 } ∷ []); writer_closed = (record { length = 5; result = copy_result.Dropped; count = 2 } ∷ []) } } ∷ [];
  control = Doomed 1 trap.DoneEnd;
  units = 27;
}

piece9 : next g s w8 ≡ Steps (line.Do 1 builtin.StreamWrite (2 ∷ 16 ∷ 1 ∷ []) ∷ []) w9
unfolding the_rules
piece9 =
    ap (behind (line.Do 1 builtin.StreamWrite (2 ∷ 16 ∷ 1 ∷ []) ∷ [])) (copies_as g 1 0 2 Stream Writer leaves.U8 (record no_options { memory = Some (core_at 0 0); is_async = true }) (2 ∷ 16 ∷ 1 ∷ []) 1 (with_control Free w8) (end_ref Stream 1 Writer) (the_channel w8 (end_ref Stream 1 Writer)) (record { size = 1; align = 1 }) true (ap (λ (b : Bool). typed_end b (end_ref Stream 1 Writer)) u8_same) refl refl u8_laid u8_integer)

pub dropped_behind_shown : Shows streaming one_call (streaming_world drops_behind) dropped_behind (Trapped 1 trap.DoneEnd) 27
unfolding the_rules
dropped_behind_shown =
    shows g s w0 w9 _ (Trapped 1 trap.DoneEnd) 27
    (goes_on g s w0 w1 w9 _ _ (walked 7 g s w0 w1 _ piece1)
    (goes_on g s w1 w2 w9 _ _ (stepped g s w1 w2 _ piece2)
    (goes_on g s w2 w3 w9 _ _ (walked 5 g s w2 w3 _ piece3)
    (goes_on g s w3 w4 w9 _ _ (stepped g s w3 w4 _ piece4)
    (goes_on g s w4 w5 w9 _ _ (walked 4 g s w4 w5 _ piece5)
    (goes_on g s w5 w6 w9 _ _ (stepped g s w5 w6 _ piece6)
    (goes_on g s w6 w7 w9 _ _ (walked 14 g s w6 w7 _ piece7)
    (goes_on g s w7 w8 w9 _ _ (walked 3 g s w7 w8 _ piece8)
    (stepped g s w8 w9 _ piece9))))))))) refl refl
