-- A read of no text meets no write of its own instance either.
use Rattle.std.proofs.Common.{◌≡◌, true, false, [], ◌∷◌, Bool, Some, None, refl, ap}
use Rattle.syntax_trees.specs.declared.instr.Instr.TheVariants.{Drop}
use Rattle.syntax_trees.specs.declared.instr.Instr.TheVariants as instr
use Rattle.syntax_trees.specs.Expr.{End, Plain}
use Rattle.wasm_store.specs.Stack.{Running}
use Rattle.syntax_trees.specs.declared.types.ValType.TheVariants as leaves
use Rattle.handle_table.specs.History.{Add}
use Rattle.builtin_kinds.specs.declared.EndKind.TheVariants.{Stream}
use Rattle.stream_ends.specs.declared.side.Side.TheVariants.{Reader, Writer}
use Rattle.stream_ends.specs.declared.open_copy.By.TheVariants as by
use Rattle.comp_graph.specs.Graph.{Graph, no_options}
use Rattle.script_reader.specs.Script.{Script}
use Rattle.trace_labels.specs.declared.builtin.Builtin.TheVariants as builtin
use Rattle.trace_labels.specs.declared.label.Label.TheVariants as line
use Rattle.trace_labels.specs.declared.trap.TrapName.TheVariants as trap
use Rattle.abi_machine.specs.declared.run_end.RunEnd.TheVariants.{Trapped}
use Rattle.abi_machine.specs.Control.{Free, Calls, Doomed}
use Rattle.abi_machine.specs.World.{OfEnd, Init, Func, Nobody, Host, Acting, Exited, World, new_task}
use Rattle.abi_machine.specs.Edits.{with_control}
use Rattle.abi_machine.specs.Finding.{typed_end}
use Rattle.abi_machine.specs.Turn.{Steps, behind}
use Rattle.abi_machine.specs.replies.Streams.{end_ref}
use Rattle.abi_machine.specs.Next.{next}
use Rattle.abi_machine.specs.examples.Parts.{func_type, number, core_at, core_func, one_call, Shows}
use Rattle.abi_machine.specs.examples.Streams.{texting}
use Rattle.machine_examples.specs.Passing.{texting_world, met_inside}
use Rattle.abi_machine.proofs.Rules.{the_rules}
use Rattle.abi_machine.proofs.Walks.{far, walked, stepped, goes_on, shows}
use Rattle.abi_machine.proofs.Layers.{string_laid, string_integer, string_same}
use Rattle.abi_machine.proofs.Copies.{the_channel, copies_as}

abbrev g : Graph
g = texting

abbrev s : Script
s = one_call

abbrev w0 : World
w0 = texting_world

abbrev w1 : World
w1 = record w0 {
  insts = record { table = (Add 2 (OfEnd (end_ref Stream 1 Writer)) ∷ Add 1 (OfEnd (end_ref Stream 1 Reader)) ∷ []); sets = []; backpressure = 0 } ∷ [];
  tasks = new_task Init Nobody Exited ∷ record (new_task (Func (record { instance = 0; core = (core_func 0 0); options = no_options; func_type = func_type [] None })) (Host 1 []) Acting) { stacks = ((Running (record { instance = 0; results = 0; locals = []; values = []; rest = (Plain Drop (number 1 (number 64 (number 0 (Plain (instr.Call 1) (Plain Drop End)))))); labels = record { arity = 0; under = []; again = None; after = End } ∷ [] }) []) ∷ []) } ∷ [];
  streams = record { element = Some leaves.String; written = []; read = []; ends = record { view = record { reader = record { dropped = false; done = false; copy = None }; writer = record { dropped = false; done = false; copy = None } }; reader_closed = []; writer_closed = [] } } ∷ [];
  control = Calls 2 (2 ∷ 16 ∷ 1 ∷ []);
  units = 6;
}

piece1 : far 7 g s w0 ≡ ((line.Do 1 builtin.StreamNew [] ∷ line.Got 1 (8589934593 ∷ []) ∷ []), w1)
unfolding the_rules
piece1 = refl

abbrev w2 : World
w2 = record w0 {
  insts = record { table = (Add 2 (OfEnd (end_ref Stream 1 Writer)) ∷ Add 1 (OfEnd (end_ref Stream 1 Reader)) ∷ []); sets = []; backpressure = 0 } ∷ [];
  tasks = new_task Init Nobody Exited ∷ record (new_task (Func (record { instance = 0; core = (core_func 0 0); options = no_options; func_type = func_type [] None })) (Host 1 []) Acting) { stacks = ((Running (record { instance = 0; results = 0; locals = []; values = (4294967295 ∷ []); rest = (Plain Drop (number 1 (number 64 (number 0 (Plain (instr.Call 1) (Plain Drop End)))))); labels = record { arity = 0; under = []; again = None; after = End } ∷ [] }) []) ∷ []) } ∷ [];
  streams = record { element = Some leaves.String; written = []; read = []; ends = record { view = record { reader = record { dropped = false; done = false; copy = None }; writer = record { dropped = false; done = false; copy = Some (record { by = by.Task 1; canon = 2; place = 16; length = 1; copied = 0; event = None; standing = true }) } }; reader_closed = []; writer_closed = [] } } ∷ [];
  units = 6;
}

piece2 : next g s w1 ≡ Steps (line.Do 1 builtin.StreamWrite (2 ∷ 16 ∷ 1 ∷ []) ∷ line.Got 1 (4294967295 ∷ []) ∷ []) w2
unfolding the_rules
piece2 =
    ap (behind (line.Do 1 builtin.StreamWrite (2 ∷ 16 ∷ 1 ∷ []) ∷ [])) (copies_as g 1 0 2 Stream Writer leaves.String (record no_options { memory = Some (core_at 0 0); is_async = true }) (2 ∷ 16 ∷ 1 ∷ []) 1 (with_control Free w1) (end_ref Stream 1 Writer) (the_channel w1 (end_ref Stream 1 Writer)) (record { size = 8; align = 4 }) false (ap (λ (b : Bool). typed_end b (end_ref Stream 1 Writer)) string_same) refl refl string_laid string_integer)

abbrev w3 : World
w3 = record w0 {
  insts = record { table = (Add 2 (OfEnd (end_ref Stream 1 Writer)) ∷ Add 1 (OfEnd (end_ref Stream 1 Reader)) ∷ []); sets = []; backpressure = 0 } ∷ [];
  tasks = new_task Init Nobody Exited ∷ record (new_task (Func (record { instance = 0; core = (core_func 0 0); options = no_options; func_type = func_type [] None })) (Host 1 []) Acting) { stacks = ((Running (record { instance = 0; results = 0; locals = []; values = []; rest = (Plain Drop End); labels = record { arity = 0; under = []; again = None; after = End } ∷ [] }) []) ∷ []) } ∷ [];
  streams = record { element = Some leaves.String; written = []; read = []; ends = record { view = record { reader = record { dropped = false; done = false; copy = None }; writer = record { dropped = false; done = false; copy = Some (record { by = by.Task 1; canon = 2; place = 16; length = 1; copied = 0; event = None; standing = true }) } }; reader_closed = []; writer_closed = [] } } ∷ [];
  control = Calls 1 (1 ∷ 64 ∷ 0 ∷ []);
  units = 11;
}

piece3 : far 5 g s w2 ≡ ([], w3)
unfolding the_rules
piece3 = refl

abbrev w4 : World
w4 = record w0 {
  insts = record { table = (Add 2 (OfEnd (end_ref Stream 1 Writer)) ∷ Add 1 (OfEnd (end_ref Stream 1 Reader)) ∷ []); sets = []; backpressure = 0 } ∷ [];
  tasks = new_task Init Nobody Exited ∷ record (new_task (Func (record { instance = 0; core = (core_func 0 0); options = no_options; func_type = func_type [] None })) (Host 1 []) Acting) { stacks = ((Running (record { instance = 0; results = 0; locals = []; values = []; rest = (Plain Drop End); labels = record { arity = 0; under = []; again = None; after = End } ∷ [] }) []) ∷ []) } ∷ [];
  streams = record { element = Some leaves.String; written = []; read = []; ends = record { view = record { reader = record { dropped = false; done = false; copy = None }; writer = record { dropped = false; done = false; copy = Some (record { by = by.Task 1; canon = 2; place = 16; length = 1; copied = 0; event = None; standing = true }) } }; reader_closed = []; writer_closed = [] } } ∷ [];
  control = Doomed 1 trap.SameInstance;
  units = 11;
}

piece4 : next g s w3 ≡ Steps (line.Do 1 builtin.StreamRead (1 ∷ 64 ∷ 0 ∷ []) ∷ []) w4
unfolding the_rules
piece4 =
    ap (behind (line.Do 1 builtin.StreamRead (1 ∷ 64 ∷ 0 ∷ []) ∷ [])) (copies_as g 1 0 1 Stream Reader leaves.String (record no_options { memory = Some (core_at 0 0); realloc = Some (core_func 0 3); is_async = true }) (1 ∷ 64 ∷ 0 ∷ []) 0 (with_control Free w3) (end_ref Stream 1 Reader) (the_channel w3 (end_ref Stream 1 Reader)) (record { size = 8; align = 4 }) false (ap (λ (b : Bool). typed_end b (end_ref Stream 1 Reader)) string_same) refl refl string_laid string_integer)

pub met_inside_shown : Shows texting one_call texting_world met_inside (Trapped 1 trap.SameInstance) 11
unfolding the_rules
met_inside_shown =
    shows g s w0 w4 _ (Trapped 1 trap.SameInstance) 11
    (goes_on g s w0 w1 w4 _ _ (walked 7 g s w0 w1 _ piece1)
    (goes_on g s w1 w2 w4 _ _ (stepped g s w1 w2 _ piece2)
    (goes_on g s w2 w3 w4 _ _ (walked 5 g s w2 w3 _ piece3)
    (stepped g s w3 w4 _ piece4)))) refl refl
