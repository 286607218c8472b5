-- A read is cancelled before anything is copied.
use Rattle.std.proofs.Common.{◌≡◌, Bool, true, false, [], ◌∷◌, Some, None, refl, ap}
use Rattle.syntax_trees.specs.declared.instr.Instr.TheVariants.{Drop}
use Rattle.syntax_trees.specs.declared.instr.Instr.TheVariants as instr
use Rattle.syntax_trees.specs.Expr.{End, Plain}
use Rattle.wasm_store.specs.Stack.{Running}
use Rattle.builtin_kinds.specs.declared.EndKind.TheVariants.{Stream}
use Rattle.syntax_trees.specs.declared.types.ValType.TheVariants as leaves
use Rattle.handle_table.specs.History.{Add}
use Rattle.tasks.specs.declared.phase.Resolution.TheVariants.{Returned}
use Rattle.stream_ends.specs.declared.side.Side.TheVariants.{Reader, Writer}
use Rattle.stream_ends.specs.declared.open_copy.By.TheVariants as by
use Rattle.stream_ends.specs.declared.open_copy.CopyResult.TheVariants as copy_result
use Rattle.comp_graph.specs.Graph.{Graph, no_options}
use Rattle.script_reader.specs.Script.{Script}
use Rattle.trace_labels.specs.declared.builtin.Builtin.TheVariants as builtin
use Rattle.trace_labels.specs.declared.label.Label.TheVariants as line
use Rattle.abi_machine.specs.declared.run_end.RunEnd.TheVariants.{Done}
use Rattle.abi_machine.specs.Control.{Free, Calls}
use Rattle.abi_machine.specs.World.{OfEnd, Init, Func, Nobody, Host, Acting, Exited, World, new_task}
use Rattle.abi_machine.specs.Edits.{with_control}
use Rattle.abi_machine.specs.Finding.{typed_end}
use Rattle.abi_machine.specs.Turn.{Steps, behind}
use Rattle.abi_machine.specs.replies.Streams.{end_ref}
use Rattle.abi_machine.specs.Next.{next}
use Rattle.abi_machine.specs.examples.Parts.{func_type, number, core_at, core_func, one_call, Shows}
use Rattle.abi_machine.specs.examples.Streams.{cancelled_empty, cancels, streaming, streaming_world}
use Rattle.abi_machine.proofs.Rules.{the_rules}
use Rattle.abi_machine.proofs.Walks.{far, walked, stepped, goes_on, shows}
use Rattle.abi_machine.proofs.Layers.{u8_laid, u8_integer, u8_same}
use Rattle.abi_machine.proofs.Copies.{the_channel, copies_as, cancels_as}

abbrev g : Graph
g = streaming

abbrev s : Script
s = one_call

abbrev w0 : World
w0 = streaming_world cancels

abbrev w1 : World
w1 = record w0 {
  insts = record { table = (Add 2 (OfEnd (end_ref Stream 1 Writer)) ∷ Add 1 (OfEnd (end_ref Stream 1 Reader)) ∷ []); sets = []; backpressure = 0 } ∷ [];
  tasks = new_task Init Nobody Exited ∷ record (new_task (Func (record { instance = 0; core = core_func 0 0; options = no_options; func_type = func_type [] None })) (Host 1 []) Acting) { stacks = (Running (record { instance = 0; results = 0; locals = []; values = []; rest = (Plain Drop (number 1 (Plain (instr.Call 5) (Plain Drop End)))); labels = record { arity = 0; under = []; again = None; after = End } ∷ [] }) [] ∷ []) } ∷ [];
  streams = record { element = Some leaves.U8; written = []; read = []; ends = record { view = record { reader = record { dropped = false; done = false; copy = None }; writer = record { dropped = false; done = false; copy = None } }; reader_closed = []; writer_closed = [] } } ∷ [];
  control = Calls 1 (1 ∷ 0 ∷ 4 ∷ []);
  units = 6;
}

piece1 : far 7 g s w0 ≡ ((line.Do 1 builtin.StreamNew [] ∷ line.Got 1 (8589934593 ∷ []) ∷ []), w1)
unfolding the_rules
piece1 = refl

abbrev w2 : World
w2 = record w0 {
  insts = record { table = (Add 2 (OfEnd (end_ref Stream 1 Writer)) ∷ Add 1 (OfEnd (end_ref Stream 1 Reader)) ∷ []); sets = []; backpressure = 0 } ∷ [];
  tasks = new_task Init Nobody Exited ∷ record (new_task (Func (record { instance = 0; core = core_func 0 0; options = no_options; func_type = func_type [] None })) (Host 1 []) Acting) { stacks = (Running (record { instance = 0; results = 0; locals = []; values = (4294967295 ∷ []); rest = (Plain Drop (number 1 (Plain (instr.Call 5) (Plain Drop End)))); labels = record { arity = 0; under = []; again = None; after = End } ∷ [] }) [] ∷ []) } ∷ [];
  streams = record { element = Some leaves.U8; written = []; read = []; ends = record { view = record { reader = record { dropped = false; done = false; copy = Some (record { by = by.Task 1; canon = 1; place = 0; length = 4; copied = 0; event = None; standing = true }) }; writer = record { dropped = false; done = false; copy = None } }; reader_closed = []; writer_closed = [] } } ∷ [];
  units = 6;
}

piece2 : next g s w1 ≡ Steps (line.Do 1 builtin.StreamRead (1 ∷ 0 ∷ 4 ∷ []) ∷ line.Got 1 (4294967295 ∷ []) ∷ []) w2
unfolding the_rules
piece2 =
    ap (behind (line.Do 1 builtin.StreamRead (1 ∷ 0 ∷ 4 ∷ []) ∷ [])) (copies_as g 1 0 1 Stream Reader leaves.U8 (record no_options { memory = Some (core_at 0 0); is_async = true }) (1 ∷ 0 ∷ 4 ∷ []) 4 (with_control Free w1) (end_ref Stream 1 Reader) (the_channel w1 (end_ref Stream 1 Reader)) (record { size = 1; align = 1 }) true (ap (λ (b : Bool). typed_end b (end_ref Stream 1 Reader)) u8_same) refl refl u8_laid u8_integer)

abbrev w3 : World
w3 = record w0 {
  insts = record { table = (Add 2 (OfEnd (end_ref Stream 1 Writer)) ∷ Add 1 (OfEnd (end_ref Stream 1 Reader)) ∷ []); sets = []; backpressure = 0 } ∷ [];
  tasks = new_task Init Nobody Exited ∷ record (new_task (Func (record { instance = 0; core = core_func 0 0; options = no_options; func_type = func_type [] None })) (Host 1 []) Acting) { stacks = (Running (record { instance = 0; results = 0; locals = []; values = []; rest = (Plain Drop End); labels = record { arity = 0; under = []; again = None; after = End } ∷ [] }) [] ∷ []) } ∷ [];
  streams = record { element = Some leaves.U8; written = []; read = []; ends = record { view = record { reader = record { dropped = false; done = false; copy = Some (record { by = by.Task 1; canon = 1; place = 0; length = 4; copied = 0; event = None; standing = true }) }; writer = record { dropped = false; done = false; copy = None } }; reader_closed = []; writer_closed = [] } } ∷ [];
  control = Calls 5 (1 ∷ []);
  units = 9;
}

piece3 : far 3 g s w2 ≡ ([], w3)
unfolding the_rules
piece3 = refl

abbrev w4 : World
w4 = record w0 {
  insts = record { table = (Add 2 (OfEnd (end_ref Stream 1 Writer)) ∷ Add 1 (OfEnd (end_ref Stream 1 Reader)) ∷ []); sets = []; backpressure = 0 } ∷ [];
  tasks = new_task Init Nobody Exited ∷ record (new_task (Func (record { instance = 0; core = core_func 0 0; options = no_options; func_type = func_type [] None })) (Host 1 []) Acting) { stacks = (Running (record { instance = 0; results = 0; locals = []; values = (2 ∷ []); rest = (Plain Drop End); labels = record { arity = 0; under = []; again = None; after = End } ∷ [] }) [] ∷ []) } ∷ [];
  streams = record { element = Some leaves.U8; written = []; read = []; ends = record { view = record { reader = record { dropped = false; done = false; copy = None }; writer = record { dropped = false; done = false; copy = None } }; reader_closed = (record { length = 4; result = copy_result.Cancelled; count = 0 } ∷ []); writer_closed = [] } } ∷ [];
  units = 9;
}

piece4 : next g s w3 ≡ Steps (line.Do 1 builtin.StreamCancelRead (1 ∷ []) ∷ line.Got 1 (2 ∷ []) ∷ []) w4
unfolding the_rules
piece4 =
    ap (behind (line.Do 1 builtin.StreamCancelRead (1 ∷ []) ∷ [])) (cancels_as g 1 0 Stream Reader (Some leaves.U8) 1 (with_control Free w3) (end_ref Stream 1 Reader) (ap (λ (b : Bool). typed_end b (end_ref Stream 1 Reader)) u8_same))

abbrev w5 : World
w5 = record w0 {
  insts = record { table = (Add 2 (OfEnd (end_ref Stream 1 Writer)) ∷ Add 1 (OfEnd (end_ref Stream 1 Reader)) ∷ []); sets = []; backpressure = 0 } ∷ [];
  tasks = new_task Init Nobody Exited ∷ record (new_task (Func (record { instance = 0; core = core_func 0 0; options = no_options; func_type = func_type [] None })) (Host 1 []) Exited) { resolution = Some Returned } ∷ [];
  streams = record { element = Some leaves.U8; written = []; read = []; ends = record { view = record { reader = record { dropped = false; done = false; copy = None }; writer = record { dropped = false; done = false; copy = None } }; reader_closed = (record { length = 4; result = copy_result.Cancelled; count = 0 } ∷ []); writer_closed = [] } } ∷ [];
  chain = [];
  control = Free;
  units = 10;
}

piece5 : far 4 g s w4 ≡ ((line.Return 1 None ∷ line.Exit 1 ∷ []), w5)
unfolding the_rules
piece5 = refl

pub cancelled_empty_shown : Shows streaming one_call (streaming_world cancels) cancelled_empty Done 10
unfolding the_rules
cancelled_empty_shown =
    shows g s w0 w5 _ Done 10
    (goes_on g s w0 w1 w5 _ _ (walked 7 g s w0 w1 _ piece1)
    (goes_on g s w1 w2 w5 _ _ (stepped g s w1 w2 _ piece2)
    (goes_on g s w2 w3 w5 _ _ (walked 3 g s w2 w3 _ piece3)
    (goes_on g s w3 w4 w5 _ _ (stepped g s w3 w4 _ piece4)
    (walked 4 g s w4 w5 _ piece5))))) refl refl
