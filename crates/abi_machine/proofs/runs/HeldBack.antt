-- A task waits to enter while another one holds others back.
use Rattle.std.proofs.Common.{◌≡◌, [], ◌∷◌, Some, None, refl, ap}
use Rattle.syntax_trees.specs.Expr.{End}
use Rattle.wasm_store.specs.Stack.{Running}
use Rattle.tasks.specs.declared.phase.Resolution.TheVariants.{Returned}
use Rattle.comp_graph.specs.Graph.{Graph, no_options}
use Rattle.script_reader.specs.Script.{Script}
use Rattle.trace_labels.specs.declared.builtin.Builtin.TheVariants as builtin
use Rattle.trace_labels.specs.declared.label.BlockReason.TheVariants as reason
use Rattle.trace_labels.specs.declared.label.Label.TheVariants as line
use Rattle.abi_machine.specs.declared.run_end.RunEnd.TheVariants.{Done}
use Rattle.abi_machine.specs.LoweringOver.{Plan, Gives}
use Rattle.abi_machine.specs.Control.{Calls, Lowers, Starts}
use Rattle.abi_machine.specs.World.{Init, Func, Nobody, Host, Acting, WaitsToEnter, Exited, World, new_task}
use Rattle.abi_machine.specs.Canons.{defines}
use Rattle.abi_machine.specs.Pausing.{entries_by}
use Rattle.abi_machine.specs.examples.Parts.{func_type, core_func, asynchronous, Shows}
use Rattle.abi_machine.specs.examples.Backpressure.{both_calls, f_name, held_back, hold_name, holding, holding_world}
use Rattle.abi_machine.proofs.Rules.{the_rules}
use Rattle.abi_machine.proofs.Walks.{far, walked, goes_on, shows, planned}
use Rattle.abi_machine.proofs.Passed.{none_planned}

abbrev g : Graph
g = holding

abbrev s : Script
s = both_calls []

abbrev w0 : World
w0 = holding_world

abbrev w1 : World
w1 = record w0 {
  tasks = new_task Init Nobody Exited ∷ new_task (Func (record { instance = 0; core = core_func 0 4; options = asynchronous; func_type = func_type [] None })) (Host 1 []) Acting ∷ [];
  chain = 1 ∷ [];
  control = Lowers (record { inst = 0; memory = None; realloc = None; acts_for = 1; blame = 1; next = Starts }) (Gives []);
  units = 1;
  taken = 1;
}

piece1 : far 2 g s w0 ≡ ((line.Take 1 1 hold_name [] ∷ line.Enter 1 ∷ []), w1)
unfolding the_rules
piece1 = ap (λ (p : Plan). ((line.Take 1 1 hold_name [] ∷ line.Enter 1 ∷ []), planned p w1)) (none_planned (entries_by (defines g 0)) None)

abbrev w2 : World
w2 = record w0 {
  tasks = new_task Init Nobody Exited ∷ record (new_task (Func (record { instance = 0; core = core_func 0 4; options = asynchronous; func_type = func_type [] None })) (Host 1 []) Acting) { stacks = (Running (record { instance = 0; results = 0; locals = []; values = []; rest = End; labels = record { arity = 0; under = []; again = None; after = End } ∷ [] }) [] ∷ []) } ∷ new_task (Func (record { instance = 0; core = core_func 0 5; options = no_options; func_type = func_type [] None })) (Host 2 []) WaitsToEnter ∷ [];
  chain = 1 ∷ [];
  control = Calls 3 [];
  units = 8;
  taken = 2;
}

piece2 : far 14 g s w1 ≡ ((line.Do 1 builtin.BackpressureInc [] ∷ line.Got 1 [] ∷ line.Do 1 builtin.Yield [] ∷ line.Block 1 reason.Yield ∷ line.Choose 2 0 ∷ line.Take 2 2 f_name [] ∷ line.Block 2 reason.Entry ∷ line.Go 1 ∷ line.Got 1 (0 ∷ []) ∷ line.Do 1 builtin.BackpressureDec [] ∷ line.Got 1 [] ∷ []), w2)
unfolding the_rules
piece2 = refl

abbrev w3 : World
w3 = record w0 {
  tasks = new_task Init Nobody Exited ∷ record (new_task (Func (record { instance = 0; core = core_func 0 4; options = asynchronous; func_type = func_type [] None })) (Host 1 []) Exited) { resolution = Some Returned } ∷ new_task (Func (record { instance = 0; core = core_func 0 5; options = no_options; func_type = func_type [] None })) (Host 2 []) Acting ∷ [];
  chain = 2 ∷ [];
  control = Lowers (record { inst = 0; memory = None; realloc = None; acts_for = 2; blame = 2; next = Starts }) (Gives []);
  units = 9;
  taken = 2;
}

piece3 : far 6 g s w2 ≡ ((line.Do 1 builtin.TaskReturn [] ∷ line.Return 1 None ∷ line.Got 1 [] ∷ line.Exit 1 ∷ line.Go 2 ∷ line.Enter 2 ∷ []), w3)
unfolding the_rules
piece3 = ap (λ (p : Plan). ((line.Do 1 builtin.TaskReturn [] ∷ line.Return 1 None ∷ line.Got 1 [] ∷ line.Exit 1 ∷ line.Go 2 ∷ line.Enter 2 ∷ []), planned p w3)) (none_planned (entries_by (defines g 0)) None)

abbrev w4 : World
w4 = record w0 {
  tasks = new_task Init Nobody Exited ∷ record (new_task (Func (record { instance = 0; core = core_func 0 4; options = asynchronous; func_type = func_type [] None })) (Host 1 []) Exited) { resolution = Some Returned } ∷ record (new_task (Func (record { instance = 0; core = core_func 0 5; options = no_options; func_type = func_type [] None })) (Host 2 []) Exited) { resolution = Some Returned } ∷ [];
  units = 9;
  taken = 2;
}

piece4 : far 4 g s w3 ≡ ((line.Return 2 None ∷ line.Exit 2 ∷ []), w4)
unfolding the_rules
piece4 = refl

pub held_back_shown : Shows holding (both_calls []) holding_world held_back Done 9
unfolding the_rules
held_back_shown =
    shows g s w0 w4 _ Done 9
    (goes_on g s w0 w1 w4 _ _ (walked 2 g s w0 w1 _ piece1)
    (goes_on g s w1 w2 w4 _ _ (walked 14 g s w1 w2 _ piece2)
    (goes_on g s w2 w3 w4 _ _ (walked 6 g s w2 w3 _ piece3)
    (walked 4 g s w3 w4 _ piece4)))) refl refl
