-- An end that is dropped leaves its set, which may be dropped then.
use Rattle.std.proofs.Common.{◌≡◌, true, false, [], ◌∷◌, Some, None, refl}
use Rattle.syntax_trees.specs.declared.instr.Instr.TheVariants as instr
use Rattle.syntax_trees.specs.Expr.{End, Plain}
use Rattle.wasm_store.specs.Stack.{Running}
use Rattle.handle_table.specs.History.{Add, Remove}
use Rattle.tasks.specs.declared.phase.Resolution.TheVariants.{Returned}
use Rattle.builtin_kinds.specs.declared.EndKind.TheVariants.{Stream}
use Rattle.stream_ends.specs.declared.side.Side.TheVariants.{Reader, Writer}
use Rattle.comp_graph.specs.Graph.{Graph, no_options}
use Rattle.script_reader.specs.Script.{Script}
use Rattle.trace_labels.specs.declared.builtin.Builtin.TheVariants as builtin
use Rattle.trace_labels.specs.declared.label.Label.TheVariants as line
use Rattle.abi_machine.specs.declared.run_end.RunEnd.TheVariants.{Done}
use Rattle.abi_machine.specs.Control.{Free}
use Rattle.abi_machine.specs.World.{OfSet, OfEnd, Init, Func, Nobody, Host, Acting, Exited, World, new_task}
use Rattle.abi_machine.specs.replies.Streams.{end_ref}
use Rattle.abi_machine.specs.examples.Parts.{func_type, number, core_func, one_call, Shows}
use Rattle.machine_examples.specs.Ends.{leaving, leaving_world, left_set}
use Rattle.abi_machine.proofs.Rules.{the_rules}
use Rattle.abi_machine.proofs.Walks.{far, walked, goes_on, shows}

abbrev g : Graph
g = leaving

abbrev s : Script
s = one_call

abbrev w0 : World
w0 = leaving_world

abbrev w1 : World
w1 = record w0 {
  insts = record { table = (Add 3 (OfSet 0) ∷ Add 2 (OfEnd (end_ref Stream 1 Writer)) ∷ Add 1 (OfEnd (end_ref Stream 1 Reader)) ∷ []); sets = ((1 ∷ []) ∷ []); backpressure = 0 } ∷ [];
  tasks = new_task Init Nobody Exited ∷ record (new_task (Func (record { instance = 0; core = (core_func 0 0); options = no_options; func_type = func_type [] None })) (Host 1 []) Acting) { stacks = ((Running (record { instance = 0; results = 0; locals = []; values = (1 ∷ []); rest = (Plain (instr.Call 1) (number 3 (Plain (instr.Call 4) End))); labels = record { arity = 0; under = []; again = None; after = End } ∷ [] }) []) ∷ []) } ∷ [];
  streams = record { element = None; written = []; read = []; ends = record { view = record { reader = record { dropped = false; done = false; copy = None }; writer = record { dropped = false; done = false; copy = None } }; reader_closed = []; writer_closed = [] } } ∷ [];
  units = 8;
}

piece1 : far 11 g s w0 ≡ ((line.Do 1 builtin.StreamNew [] ∷ line.Got 1 (8589934593 ∷ []) ∷ line.Do 1 builtin.WaitableSetNew [] ∷ line.Got 1 (3 ∷ []) ∷ line.Do 1 builtin.WaitableJoin (1 ∷ 3 ∷ []) ∷ line.Got 1 [] ∷ []), w1)
unfolding the_rules
piece1 = refl

abbrev w2 : World
w2 = record w0 {
  insts = record { table = (Remove 3 ∷ Remove 1 ∷ Add 3 (OfSet 0) ∷ Add 2 (OfEnd (end_ref Stream 1 Writer)) ∷ Add 1 (OfEnd (end_ref Stream 1 Reader)) ∷ []); sets = ([] ∷ []); backpressure = 0 } ∷ [];
  tasks = new_task Init Nobody Exited ∷ record (new_task (Func (record { instance = 0; core = (core_func 0 0); options = no_options; func_type = func_type [] None })) (Host 1 []) Exited) { resolution = Some Returned } ∷ [];
  streams = record { element = None; written = []; read = []; ends = record { view = record { reader = record { dropped = true; done = false; copy = None }; writer = record { dropped = false; done = false; copy = None } }; reader_closed = []; writer_closed = [] } } ∷ [];
  chain = [];
  control = Free;
  units = 11;
}

piece2 : far 8 g s w1 ≡ ((line.Do 1 builtin.StreamDropReadable (1 ∷ []) ∷ line.Got 1 [] ∷ line.Do 1 builtin.WaitableSetDrop (3 ∷ []) ∷ line.Got 1 [] ∷ line.Return 1 None ∷ line.Exit 1 ∷ []), w2)
unfolding the_rules
piece2 = refl

pub left_set_shown : Shows leaving one_call leaving_world left_set Done 11
unfolding the_rules
left_set_shown =
    shows g s w0 w2 _ Done 11
    (goes_on g s w0 w1 w2 _ _ (walked 11 g s w0 w1 _ piece1)
    (walked 8 g s w1 w2 _ piece2)) refl refl
