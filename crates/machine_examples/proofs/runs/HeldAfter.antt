-- A post-return may set words of its task, and call nothing else.
use Rattle.std.proofs.Common.{◌≡◌, [], ◌∷◌, Some, None, refl, ap}
use Rattle.tasks.specs.declared.phase.Resolution.TheVariants.{Returned}
use Rattle.comp_graph.specs.Graph.{Graph, no_options}
use Rattle.script_reader.specs.Script.{Script}
use Rattle.trace_labels.specs.declared.builtin.Builtin.TheVariants as builtin
use Rattle.trace_labels.specs.declared.label.Label.TheVariants as line
use Rattle.trace_labels.specs.declared.trap.TrapName.TheVariants as trap
use Rattle.abi_machine.specs.declared.run_end.RunEnd.TheVariants.{Trapped}
use Rattle.abi_machine.specs.LoweringOver.{Plan, Gives}
use Rattle.abi_machine.specs.Control.{Lowers, Doomed, Starts}
use Rattle.abi_machine.specs.World.{Init, Func, Nobody, Host, Acting, Exited, World, new_task}
use Rattle.abi_machine.specs.Canons.{defines}
use Rattle.abi_machine.specs.Pausing.{entries_by}
use Rattle.abi_machine.specs.examples.Parts.{func_type, core_func, run_name, one_call, Shows}
use Rattle.machine_examples.specs.Calling.{after, after_world, held_after}
use Rattle.abi_machine.proofs.Rules.{the_rules}
use Rattle.abi_machine.proofs.Walks.{far, walked, goes_on, shows, planned}
use Rattle.abi_machine.proofs.Passed.{none_planned}

abbrev g : Graph
g = after

abbrev s : Script
s = one_call

abbrev w0 : World
w0 = after_world

abbrev w1 : World
w1 = record w0 {
  tasks = new_task Init Nobody Exited ∷ new_task (Func (record { instance = 0; core = (core_func 0 2); options = (record no_options { post_return = Some (core_func 0 3) }); func_type = func_type [] None })) (Host 1 []) Acting ∷ [];
  chain = 1 ∷ [];
  control = Lowers (record { inst = 0; memory = None; realloc = None; acts_for = 1; blame = 1; next = Starts }) (Gives []);
  units = 1;
  taken = 1;
}

piece1 : far 2 g s w0 ≡ ((line.Take 1 1 run_name [] ∷ line.Enter 1 ∷ []), w1)
unfolding the_rules
piece1 = ap (λ (p : Plan). ((line.Take 1 1 run_name [] ∷ line.Enter 1 ∷ []), planned p w1)) (none_planned (entries_by (defines g 0)) None)

abbrev w2 : World
w2 = record w0 {
  tasks = new_task Init Nobody Exited ∷ record (new_task (Func (record { instance = 0; core = (core_func 0 2); options = (record no_options { post_return = Some (core_func 0 3) }); func_type = func_type [] None })) (Host 1 []) Acting) { context = (5, 0); resolution = Some Returned } ∷ [];
  chain = 1 ∷ [];
  control = Doomed 1 trap.CannotLeave;
  units = 4;
  taken = 1;
}

piece2 : far 8 g s w1 ≡ ((line.Return 1 None ∷ line.Do 1 builtin.ContextSet (5 ∷ []) ∷ line.Got 1 [] ∷ line.Do 1 builtin.Yield [] ∷ []), w2)
unfolding the_rules
piece2 = refl

pub held_after_shown : Shows after one_call after_world held_after (Trapped 1 trap.CannotLeave) 4
unfolding the_rules
held_after_shown =
    shows g s w0 w2 _ (Trapped 1 trap.CannotLeave) 4
    (goes_on g s w0 w1 w2 _ _ (walked 2 g s w0 w1 _ piece1)
    (walked 8 g s w1 w2 _ piece2)) refl refl
