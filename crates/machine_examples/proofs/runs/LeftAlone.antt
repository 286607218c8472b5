-- A task that has returned is not asked to come to an end.
use Rattle.std.proofs.Common.{◌≡◌, [], ◌∷◌, Some, None, refl, ap}
use Rattle.tasks.specs.declared.phase.Resolution.TheVariants.{Returned}
use Rattle.comp_graph.specs.Graph.{Graph}
use Rattle.script_reader.specs.Script.{Script}
use Rattle.trace_labels.specs.declared.builtin.Builtin.TheVariants as builtin
use Rattle.trace_labels.specs.declared.label.BlockReason.TheVariants as reason
use Rattle.trace_labels.specs.declared.label.Label.TheVariants as line
use Rattle.abi_machine.specs.declared.run_end.RunEnd.TheVariants.{Done}
use Rattle.abi_machine.specs.LoweringOver.{Plan, Gives}
use Rattle.abi_machine.specs.Control.{Lowers, Starts}
use Rattle.abi_machine.specs.World.{Init, Func, Nobody, Host, Acting, Exited, World, new_task}
use Rattle.abi_machine.specs.Canons.{defines}
use Rattle.abi_machine.specs.Pausing.{entries_by}
use Rattle.abi_machine.specs.examples.Parts.{func_type, core_func, asynchronous, run_name, Shows}
use Rattle.machine_examples.specs.Cancelling.{called_and_cancelled, lingers, lingers_world, left_alone}
use Rattle.abi_machine.proofs.Rules.{the_rules}
use Rattle.abi_machine.proofs.Walks.{far, walked, goes_on, shows, planned}
use Rattle.abi_machine.proofs.Passed.{none_planned}

abbrev g : Graph
g = lingers

abbrev s : Script
s = called_and_cancelled

abbrev w0 : World
w0 = lingers_world

abbrev w1 : World
w1 = record w0 {
  tasks = new_task Init Nobody Exited ∷ new_task (Func (record { instance = 0; core = (core_func 0 2); options = asynchronous; func_type = func_type [] None })) (Host 1 []) Acting ∷ [];
  chain = 1 ∷ [];
  control = Lowers (record { inst = 0; memory = None; realloc = None; acts_for = 1; blame = 1; next = Starts }) (Gives []);
  units = 1;
  taken = 1;
}

piece1 : far 2 g s w0 ≡ ((line.Take 1 1 run_name [] ∷ line.Enter 1 ∷ []), w1)
unfolding the_rules
piece1 = ap (λ (p : Plan). ((line.Take 1 1 run_name [] ∷ line.Enter 1 ∷ []), planned p w1)) (none_planned (entries_by (defines g 0)) None)

abbrev w2 : World
w2 = record w0 {
  tasks = new_task Init Nobody Exited ∷ record (new_task (Func (record { instance = 0; core = (core_func 0 2); options = asynchronous; func_type = func_type [] None })) (Host 1 []) Exited) { resolution = Some Returned } ∷ [];
  units = 6;
  taken = 2;
}

piece2 : far 13 g s w1 ≡ ((line.Do 1 builtin.TaskReturn [] ∷ line.Return 1 None ∷ line.Got 1 [] ∷ line.Do 1 builtin.Yield [] ∷ line.Block 1 reason.Yield ∷ line.Choose 2 0 ∷ line.Cancel 1 ∷ line.Go 1 ∷ line.Got 1 (0 ∷ []) ∷ line.Exit 1 ∷ []), w2)
unfolding the_rules
piece2 = refl

pub left_alone_shown : Shows lingers called_and_cancelled lingers_world left_alone Done 6
unfolding the_rules
left_alone_shown =
    shows g s w0 w2 _ Done 6
    (goes_on g s w0 w1 w2 _ _ (walked 2 g s w0 w1 _ piece1)
    (walked 13 g s w1 w2 _ piece2)) refl refl
