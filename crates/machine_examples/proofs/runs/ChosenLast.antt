-- Where all units are used an alternative is still chosen, and a cancellation still asked for; what comes behind them ends the run.
use Rattle.std.proofs.Common.{◌≡◌, [], ◌∷◌, None, refl, ap}
use Rattle.syntax_trees.specs.declared.instr.Instr.TheVariants.{Drop}
use Rattle.syntax_trees.specs.declared.instr.Instr.TheVariants as instr
use Rattle.syntax_trees.specs.Expr.{End, Plain}
use Rattle.wasm_store.specs.Stack.{Running}
use Rattle.comp_graph.specs.Graph.{Graph}
use Rattle.script_reader.specs.Script.{Script}
use Rattle.trace_labels.specs.declared.builtin.Builtin.TheVariants as builtin
use Rattle.trace_labels.specs.declared.label.BlockReason.TheVariants as reason
use Rattle.trace_labels.specs.declared.label.Label.TheVariants as line
use Rattle.abi_machine.specs.declared.run_end.RunEnd.TheVariants.{Fuel}
use Rattle.abi_machine.specs.LoweringOver.{Plan, Gives}
use Rattle.abi_machine.specs.Control.{Chosen, Lowers, Starts}
use Rattle.abi_machine.specs.World.{Init, Func, Nobody, Host, ForYield, Acting, InBuiltin, Exited, World, new_task}
use Rattle.abi_machine.specs.Canons.{defines}
use Rattle.abi_machine.specs.Pausing.{entries_by}
use Rattle.abi_machine.specs.examples.Parts.{func_type, core_func, asynchronous, Shows}
use Rattle.abi_machine.specs.examples.Backpressure.{holding, holding_world, hold_name}
use Rattle.machine_examples.specs.Limits.{three_units, chosen_last}
use Rattle.abi_machine.proofs.Rules.{the_rules}
use Rattle.abi_machine.proofs.Walks.{far, walked, goes_on, shows, planned}
use Rattle.abi_machine.proofs.Passed.{none_planned}

abbrev g : Graph
g = holding

abbrev s : Script
s = three_units

abbrev w0 : World
w0 = holding_world

abbrev w1 : World
w1 = record w0 {
  tasks = new_task Init Nobody Exited ∷ new_task (Func (record { instance = 0; core = (core_func 0 4); options = asynchronous; func_type = func_type [] None })) (Host 1 []) Acting ∷ [];
  chain = 1 ∷ [];
  control = Lowers (record { inst = 0; memory = None; realloc = None; acts_for = 1; blame = 1; next = Starts }) (Gives []);
  units = 1;
  taken = 1;
}

piece1 : far 2 g s w0 ≡ ((line.Take 1 1 hold_name [] ∷ line.Enter 1 ∷ []), w1)
unfolding the_rules
piece1 = ap (λ (p : Plan). ((line.Take 1 1 hold_name [] ∷ line.Enter 1 ∷ []), planned p w1)) (none_planned (entries_by (defines g 0)) None)

abbrev w2 : World
w2 = record w0 {
  insts = record { table = []; sets = []; backpressure = 1 } ∷ [];
  tasks = new_task Init Nobody Exited ∷ record (new_task (Func (record { instance = 0; core = (core_func 0 4); options = asynchronous; func_type = func_type [] None })) (Host 1 []) (InBuiltin 1 [] ForYield)) { stacks = ((Running (record { instance = 0; results = 0; locals = []; values = []; rest = (Plain Drop (Plain (instr.Call 2) (Plain (instr.Call 3) End))); labels = record { arity = 0; under = []; again = None; after = End } ∷ [] }) []) ∷ []) } ∷ [];
  control = Chosen 0;
  units = 3;
  taken = 1;
}

piece2 : far 6 g s w1 ≡ ((line.Do 1 builtin.BackpressureInc [] ∷ line.Got 1 [] ∷ line.Do 1 builtin.Yield [] ∷ line.Block 1 reason.Yield ∷ line.Choose 2 0 ∷ []), w2)
unfolding the_rules
piece2 = refl

pub chosen_last_shown : Shows holding three_units holding_world chosen_last Fuel 3
unfolding the_rules
chosen_last_shown =
    shows g s w0 w2 _ Fuel 3
    (goes_on g s w0 w1 w2 _ _ (walked 2 g s w0 w1 _ piece1)
    (walked 6 g s w1 w2 _ piece2)) refl refl
