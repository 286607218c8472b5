-- Two tasks wait for each other.
use Rattle.std.proofs.Common.{◌≡◌, Bool, true, false, [], ◌∷◌, Some, None, refl, ap}
use Rattle.syntax_trees.specs.declared.instr.Instr.TheVariants.{Drop}
use Rattle.syntax_trees.specs.declared.instr.Instr.TheVariants as instr
use Rattle.syntax_trees.specs.Expr.{End, Plain}
use Rattle.wasm_store.specs.Stack.{Running}
use Rattle.builtin_kinds.specs.declared.EndKind.TheVariants.{Stream}
use Rattle.syntax_trees.specs.declared.types.ValType.TheVariants as leaves
use Rattle.handle_table.specs.History.{Add}
use Rattle.stream_ends.specs.declared.side.Side.TheVariants.{Reader, Writer}
use Rattle.stream_ends.specs.declared.open_copy.By.TheVariants as by
use Rattle.comp_graph.specs.Graph.{Graph, no_options}
use Rattle.script_reader.specs.Script.{Script}
use Rattle.trace_labels.specs.declared.builtin.Builtin.TheVariants as builtin
use Rattle.trace_labels.specs.declared.label.BlockReason.TheVariants as reason
use Rattle.trace_labels.specs.declared.label.Label.TheVariants as line
use Rattle.abi_machine.specs.declared.run_end.RunEnd.TheVariants.{Deadlock}
use Rattle.abi_machine.specs.LoweringOver.{Plan, Gives}
use Rattle.abi_machine.specs.Control.{Free, Calls, Lowers, Starts}
use Rattle.abi_machine.specs.World.{OfEnd, Init, Func, Nobody, Host, ForCopy, Acting, InBuiltin, Exited, World, new_task}
use Rattle.abi_machine.specs.Edits.{with_control}
use Rattle.abi_machine.specs.Canons.{defines}
use Rattle.abi_machine.specs.Finding.{typed_end}
use Rattle.abi_machine.specs.Turn.{Steps, behind}
use Rattle.abi_machine.specs.Pausing.{entries_by}
use Rattle.abi_machine.specs.replies.Streams.{end_ref}
use Rattle.abi_machine.specs.Next.{next}
use Rattle.abi_machine.specs.examples.Parts.{func_type, number, core_at, core_func, asynchronous, Shows}
use Rattle.abi_machine.specs.examples.Transfers.{crossed, crossing, crossing_world, first_name, first_then_second, second_name}
use Rattle.abi_machine.proofs.Rules.{the_rules}
use Rattle.abi_machine.proofs.Walks.{far, walked, stepped, goes_on, shows, planned}
use Rattle.abi_machine.proofs.Layers.{u8_laid, u8_integer, u8_same}
use Rattle.abi_machine.proofs.Passed.{none_planned}
use Rattle.abi_machine.proofs.Copies.{the_channel, copies_as}

abbrev g : Graph
g = crossing

abbrev s : Script
s = first_then_second

abbrev w0 : World
w0 = crossing_world

abbrev w1 : World
w1 = record w0 {
  tasks = new_task Init Nobody Exited ∷ new_task (Func (record { instance = 0; core = core_func 0 3; options = asynchronous; func_type = func_type [] None })) (Host 1 []) Acting ∷ [];
  chain = 1 ∷ [];
  control = Lowers (record { inst = 0; memory = None; realloc = None; acts_for = 1; blame = 1; next = Starts }) (Gives []);
  units = 1;
  taken = 1;
}

piece1 : far 2 g s w0 ≡ ((line.Take 1 1 first_name [] ∷ line.Enter 1 ∷ []), w1)
unfolding the_rules
piece1 = ap (λ (p : Plan). ((line.Take 1 1 first_name [] ∷ line.Enter 1 ∷ []), planned p w1)) (none_planned (entries_by (defines g 0)) None)

abbrev w2 : World
w2 = record w0 {
  insts = record { table = (Add 4 (OfEnd (end_ref Stream 2 Writer)) ∷ Add 3 (OfEnd (end_ref Stream 2 Reader)) ∷ Add 2 (OfEnd (end_ref Stream 1 Writer)) ∷ Add 1 (OfEnd (end_ref Stream 1 Reader)) ∷ []); sets = []; backpressure = 0 } ∷ [];
  tasks = new_task Init Nobody Exited ∷ record (new_task (Func (record { instance = 0; core = core_func 0 3; options = asynchronous; func_type = func_type [] None })) (Host 1 []) Acting) { stacks = (Running (record { instance = 0; results = 0; locals = []; values = []; rest = (Plain Drop (number 4 (number 0 (number 1 (Plain (instr.Call 2) (Plain Drop End)))))); labels = record { arity = 0; under = []; again = None; after = End } ∷ [] }) [] ∷ []) } ∷ [];
  streams = record { element = Some leaves.U8; written = []; read = []; ends = record { view = record { reader = record { dropped = false; done = false; copy = None }; writer = record { dropped = false; done = false; copy = None } }; reader_closed = []; writer_closed = [] } } ∷ record { element = Some leaves.U8; written = []; read = []; ends = record { view = record { reader = record { dropped = false; done = false; copy = None }; writer = record { dropped = false; done = false; copy = None } }; reader_closed = []; writer_closed = [] } } ∷ [];
  chain = 1 ∷ [];
  control = Calls 1 (1 ∷ 0 ∷ 1 ∷ []);
  units = 9;
  taken = 1;
}

piece2 : far 11 g s w1 ≡ ((line.Do 1 builtin.StreamNew [] ∷ line.Got 1 (8589934593 ∷ []) ∷ line.Do 1 builtin.StreamNew [] ∷ line.Got 1 (17179869187 ∷ []) ∷ []), w2)
unfolding the_rules
piece2 = refl

abbrev w3 : World
w3 = record w0 {
  insts = record { table = (Add 4 (OfEnd (end_ref Stream 2 Writer)) ∷ Add 3 (OfEnd (end_ref Stream 2 Reader)) ∷ Add 2 (OfEnd (end_ref Stream 1 Writer)) ∷ Add 1 (OfEnd (end_ref Stream 1 Reader)) ∷ []); sets = []; backpressure = 0 } ∷ [];
  tasks = new_task Init Nobody Exited ∷ record (new_task (Func (record { instance = 0; core = core_func 0 3; options = asynchronous; func_type = func_type [] None })) (Host 1 []) (InBuiltin 1 (1 ∷ 0 ∷ 1 ∷ []) (ForCopy 1))) { stacks = (Running (record { instance = 0; results = 0; locals = []; values = []; rest = (Plain Drop (number 4 (number 0 (number 1 (Plain (instr.Call 2) (Plain Drop End)))))); labels = record { arity = 0; under = []; again = None; after = End } ∷ [] }) [] ∷ []) } ∷ [];
  streams = record { element = Some leaves.U8; written = []; read = []; ends = record { view = record { reader = record { dropped = false; done = false; copy = Some (record { by = by.Task 1; canon = 1; place = 0; length = 1; copied = 0; event = None; standing = true }) }; writer = record { dropped = false; done = false; copy = None } }; reader_closed = []; writer_closed = [] } } ∷ record { element = Some leaves.U8; written = []; read = []; ends = record { view = record { reader = record { dropped = false; done = false; copy = None }; writer = record { dropped = false; done = false; copy = None } }; reader_closed = []; writer_closed = [] } } ∷ [];
  units = 9;
  taken = 1;
}

piece3 : next g s w2 ≡ Steps (line.Do 1 builtin.StreamRead (1 ∷ 0 ∷ 1 ∷ []) ∷ line.Block 1 (reason.Copy 1) ∷ []) w3
unfolding the_rules
piece3 =
    ap (behind (line.Do 1 builtin.StreamRead (1 ∷ 0 ∷ 1 ∷ []) ∷ [])) (copies_as g 1 0 1 Stream Reader leaves.U8 (record no_options { memory = Some (core_at 0 0) }) (1 ∷ 0 ∷ 1 ∷ []) 1 (with_control Free w2) (end_ref Stream 1 Reader) (the_channel w2 (end_ref Stream 1 Reader)) (record { size = 1; align = 1 }) true (ap (λ (b : Bool). typed_end b (end_ref Stream 1 Reader)) u8_same) refl refl u8_laid u8_integer)

abbrev w4 : World
w4 = record w0 {
  insts = record { table = (Add 4 (OfEnd (end_ref Stream 2 Writer)) ∷ Add 3 (OfEnd (end_ref Stream 2 Reader)) ∷ Add 2 (OfEnd (end_ref Stream 1 Writer)) ∷ Add 1 (OfEnd (end_ref Stream 1 Reader)) ∷ []); sets = []; backpressure = 0 } ∷ [];
  tasks = new_task Init Nobody Exited ∷ record (new_task (Func (record { instance = 0; core = core_func 0 3; options = asynchronous; func_type = func_type [] None })) (Host 1 []) (InBuiltin 1 (1 ∷ 0 ∷ 1 ∷ []) (ForCopy 1))) { stacks = (Running (record { instance = 0; results = 0; locals = []; values = []; rest = (Plain Drop (number 4 (number 0 (number 1 (Plain (instr.Call 2) (Plain Drop End)))))); labels = record { arity = 0; under = []; again = None; after = End } ∷ [] }) [] ∷ []) } ∷ new_task (Func (record { instance = 0; core = core_func 0 4; options = asynchronous; func_type = func_type [] None })) (Host 2 []) Acting ∷ [];
  streams = record { element = Some leaves.U8; written = []; read = []; ends = record { view = record { reader = record { dropped = false; done = false; copy = Some (record { by = by.Task 1; canon = 1; place = 0; length = 1; copied = 0; event = None; standing = true }) }; writer = record { dropped = false; done = false; copy = None } }; reader_closed = []; writer_closed = [] } } ∷ record { element = Some leaves.U8; written = []; read = []; ends = record { view = record { reader = record { dropped = false; done = false; copy = None }; writer = record { dropped = false; done = false; copy = None } }; reader_closed = []; writer_closed = [] } } ∷ [];
  chain = 2 ∷ [];
  control = Lowers (record { inst = 0; memory = None; realloc = None; acts_for = 2; blame = 2; next = Starts }) (Gives []);
  units = 10;
  taken = 2;
}

piece4 : far 2 g s w3 ≡ ((line.Take 2 2 second_name [] ∷ line.Enter 2 ∷ []), w4)
unfolding the_rules
piece4 = ap (λ (p : Plan). ((line.Take 2 2 second_name [] ∷ line.Enter 2 ∷ []), planned p w4)) (none_planned (entries_by (defines g 0)) None)

abbrev w5 : World
w5 = record w0 {
  insts = record { table = (Add 4 (OfEnd (end_ref Stream 2 Writer)) ∷ Add 3 (OfEnd (end_ref Stream 2 Reader)) ∷ Add 2 (OfEnd (end_ref Stream 1 Writer)) ∷ Add 1 (OfEnd (end_ref Stream 1 Reader)) ∷ []); sets = []; backpressure = 0 } ∷ [];
  tasks = new_task Init Nobody Exited ∷ record (new_task (Func (record { instance = 0; core = core_func 0 3; options = asynchronous; func_type = func_type [] None })) (Host 1 []) (InBuiltin 1 (1 ∷ 0 ∷ 1 ∷ []) (ForCopy 1))) { stacks = (Running (record { instance = 0; results = 0; locals = []; values = []; rest = (Plain Drop (number 4 (number 0 (number 1 (Plain (instr.Call 2) (Plain Drop End)))))); labels = record { arity = 0; under = []; again = None; after = End } ∷ [] }) [] ∷ []) } ∷ record (new_task (Func (record { instance = 0; core = core_func 0 4; options = asynchronous; func_type = func_type [] None })) (Host 2 []) Acting) { stacks = (Running (record { instance = 0; results = 0; locals = []; values = []; rest = (Plain Drop (number 2 (number 0 (number 1 (Plain (instr.Call 2) (Plain Drop End)))))); labels = record { arity = 0; under = []; again = None; after = End } ∷ [] }) [] ∷ []) } ∷ [];
  streams = record { element = Some leaves.U8; written = []; read = []; ends = record { view = record { reader = record { dropped = false; done = false; copy = Some (record { by = by.Task 1; canon = 1; place = 0; length = 1; copied = 0; event = None; standing = true }) }; writer = record { dropped = false; done = false; copy = None } }; reader_closed = []; writer_closed = [] } } ∷ record { element = Some leaves.U8; written = []; read = []; ends = record { view = record { reader = record { dropped = false; done = false; copy = None }; writer = record { dropped = false; done = false; copy = None } }; reader_closed = []; writer_closed = [] } } ∷ [];
  chain = 2 ∷ [];
  control = Calls 1 (3 ∷ 0 ∷ 1 ∷ []);
  units = 14;
  taken = 2;
}

piece5 : far 5 g s w4 ≡ ([], w5)
unfolding the_rules
piece5 = refl

abbrev w6 : World
w6 = record w0 {
  insts = record { table = (Add 4 (OfEnd (end_ref Stream 2 Writer)) ∷ Add 3 (OfEnd (end_ref Stream 2 Reader)) ∷ Add 2 (OfEnd (end_ref Stream 1 Writer)) ∷ Add 1 (OfEnd (end_ref Stream 1 Reader)) ∷ []); sets = []; backpressure = 0 } ∷ [];
  tasks = new_task Init Nobody Exited ∷ record (new_task (Func (record { instance = 0; core = core_func 0 3; options = asynchronous; func_type = func_type [] None })) (Host 1 []) (InBuiltin 1 (1 ∷ 0 ∷ 1 ∷ []) (ForCopy 1))) { stacks = (Running (record { instance = 0; results = 0; locals = []; values = []; rest = (Plain Drop (number 4 (number 0 (number 1 (Plain (instr.Call 2) (Plain Drop End)))))); labels = record { arity = 0; under = []; again = None; after = End } ∷ [] }) [] ∷ []) } ∷ record (new_task (Func (record { instance = 0; core = core_func 0 4; options = asynchronous; func_type = func_type [] None })) (Host 2 []) (InBuiltin 1 (3 ∷ 0 ∷ 1 ∷ []) (ForCopy 3))) { stacks = (Running (record { instance = 0; results = 0; locals = []; values = []; rest = (Plain Drop (number 2 (number 0 (number 1 (Plain (instr.Call 2) (Plain Drop End)))))); labels = record { arity = 0; under = []; again = None; after = End } ∷ [] }) [] ∷ []) } ∷ [];
  streams = record { element = Some leaves.U8; written = []; read = []; ends = record { view = record { reader = record { dropped = false; done = false; copy = Some (record { by = by.Task 1; canon = 1; place = 0; length = 1; copied = 0; event = None; standing = true }) }; writer = record { dropped = false; done = false; copy = None } }; reader_closed = []; writer_closed = [] } } ∷ record { element = Some leaves.U8; written = []; read = []; ends = record { view = record { reader = record { dropped = false; done = false; copy = Some (record { by = by.Task 2; canon = 1; place = 0; length = 1; copied = 0; event = None; standing = true }) }; writer = record { dropped = false; done = false; copy = None } }; reader_closed = []; writer_closed = [] } } ∷ [];
  units = 14;
  taken = 2;
}

piece6 : next g s w5 ≡ Steps (line.Do 2 builtin.StreamRead (3 ∷ 0 ∷ 1 ∷ []) ∷ line.Block 2 (reason.Copy 3) ∷ []) w6
unfolding the_rules
piece6 =
    ap (behind (line.Do 2 builtin.StreamRead (3 ∷ 0 ∷ 1 ∷ []) ∷ [])) (copies_as g 2 0 1 Stream Reader leaves.U8 (record no_options { memory = Some (core_at 0 0) }) (3 ∷ 0 ∷ 1 ∷ []) 1 (with_control Free w5) (end_ref Stream 2 Reader) (the_channel w5 (end_ref Stream 2 Reader)) (record { size = 1; align = 1 }) true (ap (λ (b : Bool). typed_end b (end_ref Stream 2 Reader)) u8_same) refl refl u8_laid u8_integer)

pub crossed_shown : Shows crossing first_then_second crossing_world crossed (Deadlock (1 ∷ 2 ∷ [])) 14
unfolding the_rules
crossed_shown =
    shows g s w0 w6 _ (Deadlock (1 ∷ 2 ∷ [])) 14
    (goes_on g s w0 w1 w6 _ _ (walked 2 g s w0 w1 _ piece1)
    (goes_on g s w1 w2 w6 _ _ (walked 11 g s w1 w2 _ piece2)
    (goes_on g s w2 w3 w6 _ _ (stepped g s w2 w3 _ piece3)
    (goes_on g s w3 w4 w6 _ _ (walked 2 g s w3 w4 _ piece4)
    (goes_on g s w4 w5 w6 _ _ (walked 5 g s w4 w5 _ piece5)
    (stepped g s w5 w6 _ piece6)))))) refl refl
