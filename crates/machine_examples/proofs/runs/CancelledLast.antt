-- Where all units are used an alternative is still chosen, and a cancellation still asked for; what comes behind them ends the run.
use Rattle.std.proofs.Common.{◌≡◌, true, [], ◌∷◌, Some, None, refl, ap}
use Rattle.handle_table.specs.History.{Add}
use Rattle.tasks.specs.declared.phase.Cancellation.TheVariants as cancellation
use Rattle.comp_graph.specs.Graph.{Graph, no_options}
use Rattle.script_reader.specs.Script.{Script}
use Rattle.trace_labels.specs.declared.builtin.Builtin.TheVariants as builtin
use Rattle.trace_labels.specs.declared.label.BlockReason.TheVariants as reason
use Rattle.trace_labels.specs.declared.label.Label.TheVariants as line
use Rattle.abi_machine.specs.declared.run_end.RunEnd.TheVariants.{Fuel}
use Rattle.abi_machine.specs.LoweringOver.{Plan, Gives}
use Rattle.abi_machine.specs.Control.{Lowers, Goes, Starts}
use Rattle.abi_machine.specs.World.{OfSet, Init, Func, Nobody, Host, Acting, InLoop, Exited, World, new_task}
use Rattle.abi_machine.specs.Canons.{defines}
use Rattle.abi_machine.specs.Pausing.{entries_by}
use Rattle.abi_machine.specs.examples.Parts.{func_type, core_func, Shows}
use Rattle.abi_machine.specs.examples.Cancelling.{waiting, waiting_world, w_name}
use Rattle.machine_examples.specs.Limits.{five_units, cancelled_last}
use Rattle.abi_machine.proofs.Rules.{the_rules}
use Rattle.abi_machine.proofs.Walks.{far, walked, goes_on, shows, planned}
use Rattle.abi_machine.proofs.Passed.{none_planned}

abbrev g : Graph
g = waiting

abbrev s : Script
s = five_units

abbrev w0 : World
w0 = waiting_world

abbrev w1 : World
w1 = record w0 {
  tasks = new_task Init Nobody Exited ∷ new_task (Func (record { instance = 0; core = (core_func 0 2); options = (record no_options { callback = Some (core_func 0 3); is_async = true }); func_type = func_type [] None })) (Host 1 []) Acting ∷ [];
  chain = 1 ∷ [];
  control = Lowers (record { inst = 0; memory = None; realloc = None; acts_for = 1; blame = 1; next = Starts }) (Gives []);
  units = 1;
  taken = 1;
}

piece1 : far 2 g s w0 ≡ ((line.Take 1 1 w_name [] ∷ line.Enter 1 ∷ []), w1)
unfolding the_rules
piece1 = ap (λ (p : Plan). ((line.Take 1 1 w_name [] ∷ line.Enter 1 ∷ []), planned p w1)) (none_planned (entries_by (defines g 0)) None)

abbrev w2 : World
w2 = record w0 {
  insts = record { table = (Add 1 (OfSet 0) ∷ []); sets = ([] ∷ []); backpressure = 0 } ∷ [];
  tasks = new_task Init Nobody Exited ∷ record (new_task (Func (record { instance = 0; core = (core_func 0 2); options = (record no_options { callback = Some (core_func 0 3); is_async = true }); func_type = func_type [] None })) (Host 1 []) (InLoop 18)) { cancellation = cancellation.Asked } ∷ [];
  chain = 1 ∷ [];
  control = Goes;
  units = 5;
  taken = 2;
}

piece2 : far 8 g s w1 ≡ ((line.Do 1 builtin.WaitableSetNew [] ∷ line.Got 1 (1 ∷ []) ∷ line.Block 1 (reason.Wait 1) ∷ line.Cancel 1 ∷ []), w2)
unfolding the_rules
piece2 = refl

pub cancelled_last_shown : Shows waiting five_units waiting_world cancelled_last Fuel 5
unfolding the_rules
cancelled_last_shown =
    shows g s w0 w2 _ Fuel 5
    (goes_on g s w0 w1 w2 _ _ (walked 2 g s w0 w1 _ piece1)
    (walked 8 g s w1 w2 _ piece2)) refl refl
