-- A task in its loop is told that its cancellation is asked once no other one holds exclusive entry.
use Rattle.std.proofs.Common.{◌≡◌, true, [], ◌∷◌, Some, None, refl, ap}
use Rattle.tasks.specs.declared.phase.Resolution.TheVariants.{Returned, Cancelled}
use Rattle.tasks.specs.declared.phase.Cancellation.TheVariants as cancellation
use Rattle.comp_graph.specs.Graph.{Graph, no_options}
use Rattle.script_reader.specs.Script.{Script}
use Rattle.trace_labels.specs.declared.builtin.Builtin.TheVariants as builtin
use Rattle.trace_labels.specs.declared.label.BlockReason.TheVariants as reason
use Rattle.trace_labels.specs.declared.label.Label.TheVariants as line
use Rattle.abi_machine.specs.declared.run_end.RunEnd.TheVariants.{Done}
use Rattle.abi_machine.specs.LoweringOver.{Plan, Gives}
use Rattle.abi_machine.specs.Control.{Lowers, Starts}
use Rattle.abi_machine.specs.World.{Init, Func, Nobody, Host, Acting, InLoop, Exited, World, new_task}
use Rattle.abi_machine.specs.Canons.{defines}
use Rattle.abi_machine.specs.Pausing.{entries_by}
use Rattle.abi_machine.specs.examples.Parts.{func_type, core_func, Shows}
use Rattle.machine_examples.specs.Cancelling.{turns_name, holds_name, held_loop, held_loop_world, held_and_cancelled, told_when_free}
use Rattle.abi_machine.proofs.Rules.{the_rules}
use Rattle.abi_machine.proofs.Walks.{far, walked, goes_on, shows, planned}
use Rattle.abi_machine.proofs.Passed.{none_planned}

abbrev g : Graph
g = held_loop

abbrev s : Script
s = held_and_cancelled

abbrev w0 : World
w0 = held_loop_world

abbrev w1 : World
w1 = record w0 {
  tasks = new_task Init Nobody Exited ∷ new_task (Func (record { instance = 0; core = (core_func 0 2); options = (record no_options { callback = Some (core_func 0 3); is_async = true }); func_type = func_type [] None })) (Host 1 []) Acting ∷ [];
  chain = 1 ∷ [];
  control = Lowers (record { inst = 0; memory = None; realloc = None; acts_for = 1; blame = 1; next = Starts }) (Gives []);
  units = 1;
  taken = 1;
}

piece1 : far 2 g s w0 ≡ ((line.Take 1 1 turns_name [] ∷ line.Enter 1 ∷ []), w1)
unfolding the_rules
piece1 = ap (λ (p : Plan). ((line.Take 1 1 turns_name [] ∷ line.Enter 1 ∷ []), planned p w1)) (none_planned (entries_by (defines g 0)) None)

abbrev w2 : World
w2 = record w0 {
  tasks = new_task Init Nobody Exited ∷ new_task (Func (record { instance = 0; core = (core_func 0 2); options = (record no_options { callback = Some (core_func 0 3); is_async = true }); func_type = func_type [] None })) (Host 1 []) (InLoop 1) ∷ new_task (Func (record { instance = 0; core = (core_func 0 4); options = no_options; func_type = func_type [] None })) (Host 2 []) Acting ∷ [];
  chain = 2 ∷ [];
  control = Lowers (record { inst = 0; memory = None; realloc = None; acts_for = 2; blame = 2; next = Starts }) (Gives []);
  units = 3;
  taken = 2;
}

piece2 : far 7 g s w1 ≡ ((line.Block 1 reason.Yield ∷ line.Choose 2 0 ∷ line.Take 2 2 holds_name [] ∷ line.Enter 2 ∷ []), w2)
unfolding the_rules
piece2 = ap (λ (p : Plan). ((line.Block 1 reason.Yield ∷ line.Choose 2 0 ∷ line.Take 2 2 holds_name [] ∷ line.Enter 2 ∷ []), planned p w2)) (none_planned (entries_by (defines g 0)) None)

abbrev w3 : World
w3 = record w0 {
  tasks = new_task Init Nobody Exited ∷ record (new_task (Func (record { instance = 0; core = (core_func 0 2); options = (record no_options { callback = Some (core_func 0 3); is_async = true }); func_type = func_type [] None })) (Host 1 []) (InLoop 1)) { cancellation = cancellation.Asked } ∷ record (new_task (Func (record { instance = 0; core = (core_func 0 4); options = no_options; func_type = func_type [] None })) (Host 2 []) Exited) { resolution = Some Returned } ∷ [];
  units = 7;
  taken = 3;
}

piece3 : far 11 g s w2 ≡ ((line.Do 2 builtin.Yield [] ∷ line.Block 2 reason.Yield ∷ line.Choose 2 0 ∷ line.Cancel 1 ∷ line.Go 2 ∷ line.Got 2 (0 ∷ []) ∷ line.Return 2 None ∷ line.Exit 2 ∷ []), w3)
unfolding the_rules
piece3 = refl

abbrev w4 : World
w4 = record w0 {
  tasks = new_task Init Nobody Exited ∷ record (new_task (Func (record { instance = 0; core = (core_func 0 2); options = (record no_options { callback = Some (core_func 0 3); is_async = true }); func_type = func_type [] None })) (Host 1 []) Exited) { resolution = Some Cancelled; cancellation = cancellation.Delivered } ∷ record (new_task (Func (record { instance = 0; core = (core_func 0 4); options = no_options; func_type = func_type [] None })) (Host 2 []) Exited) { resolution = Some Returned } ∷ [];
  units = 10;
  taken = 3;
}

piece4 : far 8 g s w3 ≡ ((line.Go 1 ∷ line.Event 1 6 0 0 ∷ line.Do 1 builtin.TaskCancel [] ∷ line.Cancelled 1 ∷ line.Got 1 [] ∷ line.Exit 1 ∷ []), w4)
unfolding the_rules
piece4 = refl

pub told_when_free_shown : Shows held_loop held_and_cancelled held_loop_world told_when_free Done 10
unfolding the_rules
told_when_free_shown =
    shows g s w0 w4 _ Done 10
    (goes_on g s w0 w1 w4 _ _ (walked 2 g s w0 w1 _ piece1)
    (goes_on g s w1 w2 w4 _ _ (walked 7 g s w1 w2 _ piece2)
    (goes_on g s w2 w3 w4 _ _ (walked 11 g s w2 w3 _ piece3)
    (walked 8 g s w3 w4 _ piece4)))) refl refl
