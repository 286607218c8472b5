-- Handles are made, read and dropped.
use Rattle.std.proofs.Common.{◌≡◌, [], ◌∷◌, Some, None, refl}
use Rattle.syntax_trees.specs.declared.instr.Instr.TheVariants.{Drop}
use Rattle.syntax_trees.specs.declared.instr.Instr.TheVariants as instr
use Rattle.syntax_trees.specs.Expr.{End, Plain}
use Rattle.wasm_store.specs.Stack.{Running}
use Rattle.handle_table.specs.History.{Add, Remove}
use Rattle.tasks.specs.declared.phase.Resolution.TheVariants.{Returned}
use Rattle.comp_graph.specs.Graph.{Graph, no_options}
use Rattle.script_reader.specs.Script.{Script}
use Rattle.trace_labels.specs.declared.builtin.Builtin.TheVariants as builtin
use Rattle.trace_labels.specs.declared.label.Label.TheVariants as line
use Rattle.abi_machine.specs.declared.run_end.RunEnd.TheVariants.{Done}
use Rattle.abi_machine.specs.Control.{Free, Calls}
use Rattle.abi_machine.specs.World.{OwnHandle, Init, Func, Nobody, Host, Acting, Exited, World, new_task}
use Rattle.abi_machine.specs.examples.Parts.{func_type, number, core_func, one_call, Leaves}
use Rattle.abi_machine.specs.examples.Handles.{handle_left, handles_made, making, making_world}
use Rattle.abi_machine.proofs.Rules.{the_rules}
use Rattle.abi_machine.proofs.Walks.{far, walked, goes_on, leaves}

abbrev g : Graph
g = making

abbrev s : Script
s = one_call

abbrev w0 : World
w0 = making_world

abbrev w1 : World
w1 = record w0 {
  insts = record { table = (Add 2 (OwnHandle 1 8) ∷ Add 1 (OwnHandle 1 7) ∷ []); sets = []; backpressure = 0 } ∷ [];
  tasks = new_task Init Nobody Exited ∷ record (new_task (Func (record { instance = 0; core = core_func 0 0; options = no_options; func_type = func_type [] None })) (Host 1 []) Acting) { stacks = (Running (record { instance = 0; results = 0; locals = []; values = []; rest = (number 2 (Plain (instr.Call 2) (number 9 (Plain (instr.Call 0) (Plain Drop (Plain (instr.Call 4) (Plain Drop End))))))); labels = record { arity = 0; under = []; again = None; after = End } ∷ [] }) [] ∷ []) } ∷ [];
  control = Calls 2 (1 ∷ []);
  units = 11;
}

piece1 : far 14 g s w0 ≡ ((line.Do 1 builtin.ResourceNew (7 ∷ []) ∷ line.Got 1 (1 ∷ []) ∷ line.Do 1 builtin.ResourceRep (1 ∷ []) ∷ line.Got 1 (7 ∷ []) ∷ line.Do 1 builtin.ResourceNew (8 ∷ []) ∷ line.Got 1 (2 ∷ []) ∷ []), w1)
unfolding the_rules
piece1 = refl

abbrev w2 : World
w2 = record w0 {
  insts = record { table = (Remove 2 ∷ Remove 1 ∷ Add 2 (OwnHandle 1 8) ∷ Add 1 (OwnHandle 1 7) ∷ []); sets = []; backpressure = 0 } ∷ [];
  tasks = new_task Init Nobody Exited ∷ record (new_task (Func (record { instance = 0; core = core_func 0 0; options = no_options; func_type = func_type [] None })) (Host 1 []) Acting) { stacks = (Running (record { instance = 0; results = 0; locals = []; values = []; rest = (number 9 (Plain (instr.Call 0) (Plain Drop (Plain (instr.Call 4) (Plain Drop End))))); labels = record { arity = 0; under = []; again = None; after = End } ∷ [] }) [] ∷ []); context = (8, 0) } ∷ [];
  units = 17;
}

piece2 : far 14 g s w1 ≡ ((line.Do 1 builtin.ResourceDrop (1 ∷ []) ∷ line.Do 1 builtin.ContextSet (7 ∷ []) ∷ line.Got 1 [] ∷ line.Got 1 [] ∷ line.Do 1 builtin.ResourceDrop (2 ∷ []) ∷ line.Do 1 builtin.ContextSet (8 ∷ []) ∷ line.Got 1 [] ∷ line.Got 1 [] ∷ []), w2)
unfolding the_rules
piece2 = refl

abbrev w3 : World
w3 = record w0 {
  insts = record { table = (Add 2 (OwnHandle 1 9) ∷ Remove 2 ∷ Remove 1 ∷ Add 2 (OwnHandle 1 8) ∷ Add 1 (OwnHandle 1 7) ∷ []); sets = []; backpressure = 0 } ∷ [];
  tasks = new_task Init Nobody Exited ∷ record (new_task (Func (record { instance = 0; core = core_func 0 0; options = no_options; func_type = func_type [] None })) (Host 1 []) Exited) { context = (8, 0); resolution = Some Returned } ∷ [];
  chain = [];
  control = Free;
  units = 22;
}

piece3 : far 10 g s w2 ≡ ((line.Do 1 builtin.ResourceNew (9 ∷ []) ∷ line.Got 1 (2 ∷ []) ∷ line.Do 1 builtin.ContextGet [] ∷ line.Got 1 (8 ∷ []) ∷ line.Return 1 None ∷ line.Exit 1 ∷ []), w3)
unfolding the_rules
piece3 = refl

pub made_shown : Leaves making one_call making_world handles_made Done 22 handle_left ([] ∷ [])
unfolding the_rules
made_shown =
    leaves g s w0 w3 _ Done 22 _ _
    (goes_on g s w0 w1 w3 _ _ (walked 14 g s w0 w1 _ piece1)
    (goes_on g s w1 w2 w3 _ _ (walked 14 g s w1 w2 _ piece2)
    (walked 10 g s w2 w3 _ piece3))) refl refl refl refl
