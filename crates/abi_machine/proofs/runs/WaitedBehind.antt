-- A newcomer waits behind a task that waits to enter.
use Rattle.std.proofs.Common.{◌≡◌, [], ◌∷◌, Some, None, refl, ap}
use Rattle.syntax_trees.specs.declared.instr.Instr.TheVariants as instr
use Rattle.syntax_trees.specs.Expr.{End, Plain}
use Rattle.wasm_store.specs.Stack.{Running}
use Rattle.tasks.specs.declared.phase.Resolution.TheVariants.{Returned}
use Rattle.comp_graph.specs.Graph.{Graph, no_options}
use Rattle.script_reader.specs.Script.{Script}
use Rattle.trace_labels.specs.declared.builtin.Builtin.TheVariants as builtin
use Rattle.trace_labels.specs.declared.label.BlockReason.TheVariants as reason
use Rattle.trace_labels.specs.declared.label.Label.TheVariants as line
use Rattle.abi_machine.specs.declared.run_end.RunEnd.TheVariants.{Done}
use Rattle.abi_machine.specs.LoweringOver.{Plan, Gives}
use Rattle.abi_machine.specs.Control.{Runs, Lowers, Starts}
use Rattle.abi_machine.specs.World.{Init, Func, Nobody, Host, Acting, WaitsToEnter, Exited, World, new_task}
use Rattle.abi_machine.specs.Canons.{defines}
use Rattle.abi_machine.specs.Pausing.{entries_by}
use Rattle.abi_machine.specs.examples.Parts.{func_type, core_func, asynchronous, Shows}
use Rattle.abi_machine.specs.examples.Backpressure.{f_name, hold_name, holding, holding_world, three_calls, waited_behind}
use Rattle.abi_machine.proofs.Rules.{the_rules}
use Rattle.abi_machine.proofs.Walks.{far, walked, goes_on, shows, planned}
use Rattle.abi_machine.proofs.Passed.{none_planned}

abbrev g : Graph
g = holding

abbrev s : Script
s = three_calls

abbrev w0 : World
w0 = holding_world

abbrev w1 : World
w1 = record w0 {
  tasks = new_task Init Nobody Exited ∷ new_task (Func (record { instance = 0; core = core_func 0 4; options = asynchronous; func_type = func_type [] None })) (Host 1 []) Acting ∷ [];
  chain = 1 ∷ [];
  control = Lowers (record { inst = 0; memory = None; realloc = None; acts_for = 1; blame = 1; next = Starts }) (Gives []);
  units = 1;
  taken = 1;
}

piece1 : far 2 g s w0 ≡ ((line.Take 1 1 hold_name [] ∷ line.Enter 1 ∷ []), w1)
unfolding the_rules
piece1 = ap (λ (p : Plan). ((line.Take 1 1 hold_name [] ∷ line.Enter 1 ∷ []), planned p w1)) (none_planned (entries_by (defines g 0)) None)

abbrev w2 : World
w2 = record w0 {
  tasks = new_task Init Nobody Exited ∷ record (new_task (Func (record { instance = 0; core = core_func 0 4; options = asynchronous; func_type = func_type [] None })) (Host 1 []) Acting) { stacks = (Running (record { instance = 0; results = 0; locals = []; values = []; rest = (Plain (instr.Call 3) End); labels = record { arity = 0; under = []; again = None; after = End } ∷ [] }) [] ∷ []) } ∷ new_task (Func (record { instance = 0; core = core_func 0 5; options = no_options; func_type = func_type [] None })) (Host 2 []) WaitsToEnter ∷ [];
  chain = 1 ∷ [];
  control = Runs;
  units = 7;
  picks = 2;
  taken = 2;
}

piece2 : far 14 g s w1 ≡ ((line.Do 1 builtin.BackpressureInc [] ∷ line.Got 1 [] ∷ line.Do 1 builtin.Yield [] ∷ line.Block 1 reason.Yield ∷ line.Choose 2 0 ∷ line.Take 2 2 f_name [] ∷ line.Block 2 reason.Entry ∷ line.Choose 2 1 ∷ line.Go 1 ∷ line.Got 1 (0 ∷ []) ∷ line.Do 1 builtin.BackpressureDec [] ∷ line.Got 1 [] ∷ []), w2)
unfolding the_rules
piece2 = refl

abbrev w3 : World
w3 = record w0 {
  tasks = new_task Init Nobody Exited ∷ record (new_task (Func (record { instance = 0; core = core_func 0 4; options = asynchronous; func_type = func_type [] None })) (Host 1 []) Exited) { resolution = Some Returned } ∷ new_task (Func (record { instance = 0; core = core_func 0 5; options = no_options; func_type = func_type [] None })) (Host 2 []) Acting ∷ new_task (Func (record { instance = 0; core = core_func 0 5; options = no_options; func_type = func_type [] None })) (Host 3 []) WaitsToEnter ∷ [];
  chain = 2 ∷ [];
  control = Lowers (record { inst = 0; memory = None; realloc = None; acts_for = 2; blame = 2; next = Starts }) (Gives []);
  units = 10;
  picks = 3;
  taken = 3;
}

piece3 : far 11 g s w2 ≡ ((line.Do 1 builtin.TaskReturn [] ∷ line.Return 1 None ∷ line.Got 1 [] ∷ line.Exit 1 ∷ line.Choose 2 0 ∷ line.Take 3 3 f_name [] ∷ line.Block 3 reason.Entry ∷ line.Choose 2 0 ∷ line.Go 2 ∷ line.Enter 2 ∷ []), w3)
unfolding the_rules
piece3 = ap (λ (p : Plan). ((line.Do 1 builtin.TaskReturn [] ∷ line.Return 1 None ∷ line.Got 1 [] ∷ line.Exit 1 ∷ line.Choose 2 0 ∷ line.Take 3 3 f_name [] ∷ line.Block 3 reason.Entry ∷ line.Choose 2 0 ∷ line.Go 2 ∷ line.Enter 2 ∷ []), planned p w3)) (none_planned (entries_by (defines g 0)) None)

abbrev w4 : World
w4 = record w0 {
  tasks = new_task Init Nobody Exited ∷ record (new_task (Func (record { instance = 0; core = core_func 0 4; options = asynchronous; func_type = func_type [] None })) (Host 1 []) Exited) { resolution = Some Returned } ∷ record (new_task (Func (record { instance = 0; core = core_func 0 5; options = no_options; func_type = func_type [] None })) (Host 2 []) Exited) { resolution = Some Returned } ∷ new_task (Func (record { instance = 0; core = core_func 0 5; options = no_options; func_type = func_type [] None })) (Host 3 []) Acting ∷ [];
  chain = 3 ∷ [];
  control = Lowers (record { inst = 0; memory = None; realloc = None; acts_for = 3; blame = 3; next = Starts }) (Gives []);
  units = 11;
  picks = 3;
  taken = 3;
}

piece4 : far 6 g s w3 ≡ ((line.Return 2 None ∷ line.Exit 2 ∷ line.Go 3 ∷ line.Enter 3 ∷ []), w4)
unfolding the_rules
piece4 = ap (λ (p : Plan). ((line.Return 2 None ∷ line.Exit 2 ∷ line.Go 3 ∷ line.Enter 3 ∷ []), planned p w4)) (none_planned (entries_by (defines g 0)) None)

abbrev w5 : World
w5 = record w0 {
  tasks = new_task Init Nobody Exited ∷ record (new_task (Func (record { instance = 0; core = core_func 0 4; options = asynchronous; func_type = func_type [] None })) (Host 1 []) Exited) { resolution = Some Returned } ∷ record (new_task (Func (record { instance = 0; core = core_func 0 5; options = no_options; func_type = func_type [] None })) (Host 2 []) Exited) { resolution = Some Returned } ∷ record (new_task (Func (record { instance = 0; core = core_func 0 5; options = no_options; func_type = func_type [] None })) (Host 3 []) Exited) { resolution = Some Returned } ∷ [];
  units = 11;
  picks = 3;
  taken = 3;
}

piece5 : far 4 g s w4 ≡ ((line.Return 3 None ∷ line.Exit 3 ∷ []), w5)
unfolding the_rules
piece5 = refl

pub waited_behind_shown : Shows holding three_calls holding_world waited_behind Done 11
unfolding the_rules
waited_behind_shown =
    shows g s w0 w5 _ Done 11
    (goes_on g s w0 w1 w5 _ _ (walked 2 g s w0 w1 _ piece1)
    (goes_on g s w1 w2 w5 _ _ (walked 14 g s w1 w2 _ piece2)
    (goes_on g s w2 w3 w5 _ _ (walked 11 g s w2 w3 _ piece3)
    (goes_on g s w3 w4 w5 _ _ (walked 6 g s w3 w4 _ piece4)
    (walked 4 g s w4 w5 _ piece5))))) refl refl
