-- A future that is not written is dropped.
use Rattle.std.proofs.Common.{◌≡◌, Bool, false, [], ◌∷◌, Some, None, refl, ap}
use Rattle.syntax_trees.specs.Expr.{End}
use Rattle.wasm_store.specs.Stack.{Running}
use Rattle.builtin_kinds.specs.declared.EndKind.TheVariants.{Future}
use Rattle.syntax_trees.specs.declared.types.ValType.TheVariants as leaves
use Rattle.handle_table.specs.History.{Add}
use Rattle.stream_ends.specs.declared.side.Side.TheVariants.{Reader, Writer}
use Rattle.comp_graph.specs.Graph.{Graph, no_options}
use Rattle.script_reader.specs.Script.{Script}
use Rattle.trace_labels.specs.declared.builtin.Builtin.TheVariants as builtin
use Rattle.trace_labels.specs.declared.label.Label.TheVariants as line
use Rattle.trace_labels.specs.declared.trap.TrapName.TheVariants as trap
use Rattle.abi_machine.specs.declared.run_end.RunEnd.TheVariants.{Trapped}
use Rattle.abi_machine.specs.Control.{Free, Calls, Doomed}
use Rattle.abi_machine.specs.World.{OfEnd, Init, Func, Nobody, Host, Acting, Exited, World, new_inst, new_task}
use Rattle.abi_machine.specs.Edits.{with_control}
use Rattle.abi_machine.specs.Finding.{typed_end}
use Rattle.abi_machine.specs.Turn.{Steps, behind}
use Rattle.abi_machine.specs.replies.Streams.{end_ref}
use Rattle.abi_machine.specs.Next.{next}
use Rattle.abi_machine.specs.examples.Parts.{func_type, core_func, one_call, Shows}
use Rattle.abi_machine.specs.examples.Futures.{breaks, broken, idle, promising, promising_world}
use Rattle.abi_machine.proofs.Rules.{the_rules}
use Rattle.abi_machine.proofs.Walks.{far, walked, stepped, goes_on, shows}
use Rattle.abi_machine.proofs.Layers.{u8_same}
use Rattle.abi_machine.proofs.Copies.{drops_as}

abbrev g : Graph
g = promising

abbrev s : Script
s = one_call

abbrev w0 : World
w0 = promising_world breaks idle

abbrev w1 : World
w1 = record w0 {
  insts = record { table = (Add 2 (OfEnd (end_ref Future 1 Writer)) ∷ Add 1 (OfEnd (end_ref Future 1 Reader)) ∷ []); sets = []; backpressure = 0 } ∷ new_inst ∷ [];
  tasks = new_task Init Nobody Exited ∷ record (new_task (Func (record { instance = 0; core = core_func 0 0; options = no_options; func_type = func_type [] None })) (Host 1 []) Acting) { stacks = (Running (record { instance = 0; results = 0; locals = []; values = []; rest = End; labels = record { arity = 0; under = []; again = None; after = End } ∷ [] }) [] ∷ []) } ∷ [];
  futures = record { element = Some leaves.U8; written = []; read = []; ends = record { view = record { reader = record { dropped = false; done = false; copy = None }; writer = record { dropped = false; done = false; copy = None } }; reader_closed = []; writer_closed = [] } } ∷ [];
  control = Calls 2 (2 ∷ []);
  units = 4;
}

piece1 : far 5 g s w0 ≡ ((line.Do 1 builtin.FutureNew [] ∷ line.Got 1 (8589934593 ∷ []) ∷ []), w1)
unfolding the_rules
piece1 = refl

abbrev w2 : World
w2 = record w0 {
  insts = record { table = (Add 2 (OfEnd (end_ref Future 1 Writer)) ∷ Add 1 (OfEnd (end_ref Future 1 Reader)) ∷ []); sets = []; backpressure = 0 } ∷ new_inst ∷ [];
  tasks = new_task Init Nobody Exited ∷ record (new_task (Func (record { instance = 0; core = core_func 0 0; options = no_options; func_type = func_type [] None })) (Host 1 []) Acting) { stacks = (Running (record { instance = 0; results = 0; locals = []; values = []; rest = End; labels = record { arity = 0; under = []; again = None; after = End } ∷ [] }) [] ∷ []) } ∷ [];
  futures = record { element = Some leaves.U8; written = []; read = []; ends = record { view = record { reader = record { dropped = false; done = false; copy = None }; writer = record { dropped = false; done = false; copy = None } }; reader_closed = []; writer_closed = [] } } ∷ [];
  control = Doomed 1 trap.UnwrittenFuture;
  units = 4;
}

piece2 : next g s w1 ≡ Steps (line.Do 1 builtin.FutureDropWritable (2 ∷ []) ∷ []) w2
unfolding the_rules
piece2 =
    ap (behind (line.Do 1 builtin.FutureDropWritable (2 ∷ []) ∷ [])) (drops_as 1 0 Future Writer (Some leaves.U8) 2 (with_control Free w1) (end_ref Future 1 Writer) (ap (λ (b : Bool). typed_end b (end_ref Future 1 Writer)) u8_same))

pub broken_shown : Shows promising one_call (promising_world breaks idle) broken (Trapped 1 trap.UnwrittenFuture) 4
unfolding the_rules
broken_shown =
    shows g s w0 w2 _ (Trapped 1 trap.UnwrittenFuture) 4
    (goes_on g s w0 w1 w2 _ _ (walked 5 g s w0 w1 _ piece1)
    (stepped g s w1 w2 _ piece2)) refl refl
