-- A task whose function is lifted without `async` does not go on where its cancellation is asked; the next `yield` that a cancellation ends tells it.
use Rattle.std.proofs.Common.{◌≡◌, [], ◌∷◌, Some, None, refl, ap}
use Rattle.syntax_trees.specs.Expr.{End}
use Rattle.wasm_store.specs.Stack.{Running}
use Rattle.tasks.specs.declared.phase.Resolution.TheVariants.{Returned}
use Rattle.tasks.specs.declared.phase.Cancellation.TheVariants as cancellation
use Rattle.comp_graph.specs.Graph.{Graph, no_options}
use Rattle.script_reader.specs.Script.{Script}
use Rattle.trace_labels.specs.declared.builtin.Builtin.TheVariants as builtin
use Rattle.trace_labels.specs.declared.label.BlockReason.TheVariants as reason
use Rattle.trace_labels.specs.declared.label.Label.TheVariants as line
use Rattle.abi_machine.specs.declared.run_end.RunEnd.TheVariants.{Done}
use Rattle.abi_machine.specs.LoweringOver.{Plan, Gives}
use Rattle.abi_machine.specs.Control.{Runs, Lowers, Starts}
use Rattle.abi_machine.specs.World.{Init, Func, Nobody, Host, Acting, Exited, World, new_task}
use Rattle.abi_machine.specs.Canons.{defines}
use Rattle.abi_machine.specs.Pausing.{entries_by}
use Rattle.abi_machine.specs.examples.Parts.{func_type, core_func, run_name, Shows}
use Rattle.machine_examples.specs.Cancelling.{called_and_cancelled, yields_twice, yields_twice_world, told_next}
use Rattle.abi_machine.proofs.Rules.{the_rules}
use Rattle.abi_machine.proofs.Walks.{far, walked, goes_on, shows, planned}
use Rattle.abi_machine.proofs.Passed.{none_planned}

abbrev g : Graph
g = yields_twice

abbrev s : Script
s = called_and_cancelled

abbrev w0 : World
w0 = yields_twice_world

abbrev w1 : World
w1 = record w0 {
  tasks = new_task Init Nobody Exited ∷ new_task (Func (record { instance = 0; core = (core_func 0 1); options = no_options; func_type = func_type [] None })) (Host 1 []) Acting ∷ [];
  chain = 1 ∷ [];
  control = Lowers (record { inst = 0; memory = None; realloc = None; acts_for = 1; blame = 1; next = Starts }) (Gives []);
  units = 1;
  taken = 1;
}

piece1 : far 2 g s w0 ≡ ((line.Take 1 1 run_name [] ∷ line.Enter 1 ∷ []), w1)
unfolding the_rules
piece1 = ap (λ (p : Plan). ((line.Take 1 1 run_name [] ∷ line.Enter 1 ∷ []), planned p w1)) (none_planned (entries_by (defines g 0)) None)

abbrev w2 : World
w2 = record w0 {
  tasks = new_task Init Nobody Exited ∷ record (new_task (Func (record { instance = 0; core = (core_func 0 1); options = no_options; func_type = func_type [] None })) (Host 1 []) Acting) { stacks = ((Running (record { instance = 0; results = 0; locals = []; values = []; rest = End; labels = record { arity = 0; under = []; again = None; after = End } ∷ [] }) []) ∷ []); cancellation = cancellation.Delivered } ∷ [];
  chain = 1 ∷ [];
  control = Runs;
  units = 7;
  taken = 2;
}

piece2 : far 11 g s w1 ≡ ((line.Do 1 builtin.Yield [] ∷ line.Block 1 reason.Yield ∷ line.Choose 2 0 ∷ line.Cancel 1 ∷ line.Go 1 ∷ line.Got 1 (0 ∷ []) ∷ line.Do 1 builtin.Yield [] ∷ line.Event 1 6 0 0 ∷ line.Got 1 (1 ∷ []) ∷ []), w2)
unfolding the_rules
piece2 = refl

abbrev w3 : World
w3 = record w0 {
  tasks = new_task Init Nobody Exited ∷ record (new_task (Func (record { instance = 0; core = (core_func 0 1); options = no_options; func_type = func_type [] None })) (Host 1 []) Exited) { resolution = Some Returned; cancellation = cancellation.Delivered } ∷ [];
  units = 7;
  taken = 2;
}

piece3 : far 3 g s w2 ≡ ((line.Return 1 None ∷ line.Exit 1 ∷ []), w3)
unfolding the_rules
piece3 = refl

pub told_next_shown : Shows yields_twice called_and_cancelled yields_twice_world told_next Done 7
unfolding the_rules
told_next_shown =
    shows g s w0 w3 _ Done 7
    (goes_on g s w0 w1 w3 _ _ (walked 2 g s w0 w1 _ piece1)
    (goes_on g s w1 w2 w3 _ _ (walked 11 g s w1 w2 _ piece2)
    (walked 3 g s w2 w3 _ piece3))) refl refl
