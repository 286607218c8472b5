-- Backpressure rises to 65,535.
use Rattle.std.proofs.Common.{◌≡◌, [], ◌∷◌, None, refl}
use Rattle.syntax_trees.specs.Expr.{End}
use Rattle.wasm_store.specs.Stack.{Running}
use Rattle.comp_graph.specs.Graph.{Graph, no_options}
use Rattle.script_reader.specs.Script.{Script}
use Rattle.trace_labels.specs.declared.builtin.Builtin.TheVariants as builtin
use Rattle.trace_labels.specs.declared.label.Label.TheVariants as line
use Rattle.trace_labels.specs.declared.trap.TrapName.TheVariants as trap
use Rattle.abi_machine.specs.declared.run_end.RunEnd.TheVariants.{Trapped}
use Rattle.abi_machine.specs.Control.{Doomed}
use Rattle.abi_machine.specs.World.{Init, Func, Nobody, Host, Acting, Exited, World, new_task}
use Rattle.abi_machine.specs.examples.Parts.{func_type, core_func, one_call, Shows}
use Rattle.machine_examples.specs.Limits.{pressing, pressing_world, pressed}
use Rattle.abi_machine.proofs.Rules.{the_rules}
use Rattle.abi_machine.proofs.Walks.{far, walked, shows}

abbrev g : Graph
g = pressing

abbrev s : Script
s = one_call

abbrev w0 : World
w0 = pressing_world

abbrev w1 : World
w1 = record w0 {
  insts = record { table = []; sets = []; backpressure = 65535 } ∷ [];
  tasks = new_task Init Nobody Exited ∷ record (new_task (Func (record { instance = 0; core = (core_func 0 0); options = no_options; func_type = func_type [] None })) (Host 1 []) Acting) { stacks = ((Running (record { instance = 0; results = 0; locals = []; values = []; rest = End; labels = record { arity = 0; under = []; again = None; after = End } ∷ [] }) []) ∷ []) } ∷ [];
  control = Doomed 1 trap.PressureLimit;
  units = 2;
}

piece1 : far 4 g s w0 ≡ ((line.Do 1 builtin.BackpressureInc [] ∷ line.Got 1 [] ∷ line.Do 1 builtin.BackpressureInc [] ∷ []), w1)
unfolding the_rules
piece1 = refl

pub pressed_shown : Shows pressing one_call pressing_world pressed (Trapped 1 trap.PressureLimit) 2
unfolding the_rules
pressed_shown =
    shows g s w0 w1 _ (Trapped 1 trap.PressureLimit) 2
    (walked 4 g s w0 w1 _ piece1) refl refl
