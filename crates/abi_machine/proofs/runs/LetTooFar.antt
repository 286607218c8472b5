-- Backpressure is not lowered below 0.
use Rattle.std.proofs.Common.{◌≡◌, ◌∙◌, false, [], ◌∷◌, None, refl, ap}
use Rattle.syntax_trees.specs.Expr.{End}
use Rattle.wasm_store.specs.Stack.{Running}
use Rattle.tasks.specs.declared.subtask_state.SubtaskState.TheVariants as told
use Rattle.comp_graph.specs.Graph.{Graph, no_options}
use Rattle.script_reader.specs.Script.{Script}
use Rattle.trace_labels.specs.declared.builtin.Builtin.TheVariants as builtin
use Rattle.trace_labels.specs.declared.label.Label.TheVariants as line
use Rattle.trace_labels.specs.declared.trap.TrapName.TheVariants as trap
use Rattle.abi_machine.specs.declared.run_end.RunEnd.TheVariants.{Trapped}
use Rattle.abi_machine.specs.LoweringOver.{Plan, Gives}
use Rattle.abi_machine.specs.Control.{Free, Arrives, Lowers, Doomed, Starts}
use Rattle.abi_machine.specs.World.{Init, Func, Nobody, Host, Guest, New, Acting, AfterCall, Exited, World, new_task}
use Rattle.abi_machine.specs.Edits.{with_control, in_state}
use Rattle.abi_machine.specs.Canons.{defines}
use Rattle.abi_machine.specs.Turn.{Steps}
use Rattle.abi_machine.specs.Pausing.{entries_by}
use Rattle.abi_machine.specs.Next.{next}
use Rattle.abi_machine.specs.examples.Parts.{func_type, core_func, one_call, Shows}
use Rattle.abi_machine.specs.examples.Backpressure.{let_too_far, letting, letting_world}
use Rattle.abi_machine.proofs.Rules.{the_rules}
use Rattle.abi_machine.proofs.Walks.{far, walked, stepped, goes_on, shows, planned}
use Rattle.abi_machine.proofs.Passed.{none_passed, none_planned}
use Rattle.abi_machine.proofs.Copies.{entering}

abbrev g : Graph
g = letting

abbrev s : Script
s = one_call

abbrev w0 : World
w0 = letting_world

abbrev w1 : World
w1 = record w0 {
  tasks = new_task Init Nobody Exited ∷ record (new_task (Func (record { instance = 0; core = core_func 0 0; options = no_options; func_type = func_type [] None })) (Host 1 []) (AfterCall 2 0 [])) { stacks = (Running (record { instance = 0; results = 0; locals = []; values = []; rest = End; labels = record { arity = 0; under = []; again = None; after = End } ∷ [] }) [] ∷ []) } ∷ new_task (Func (record { instance = 1; core = core_func 1 2; options = no_options; func_type = func_type [] None })) (Guest (record { by = 1; canon = 0; words = []; told = told.Starting; lends = []; result = [] })) New ∷ [];
  chain = 2 ∷ 1 ∷ [];
  control = Arrives;
  units = 1;
}

piece1 : far 2 g s w0 ≡ ((line.Do 1 builtin.Lower [] ∷ line.Call 1 2 2 ∷ []), w1)
unfolding the_rules
piece1 = refl

abbrev w2 : World
w2 = record w0 {
  tasks = new_task Init Nobody Exited ∷ record (new_task (Func (record { instance = 0; core = core_func 0 0; options = no_options; func_type = func_type [] None })) (Host 1 []) (AfterCall 2 0 [])) { stacks = (Running (record { instance = 0; results = 0; locals = []; values = []; rest = End; labels = record { arity = 0; under = []; again = None; after = End } ∷ [] }) [] ∷ []) } ∷ new_task (Func (record { instance = 1; core = core_func 1 2; options = no_options; func_type = func_type [] None })) (Guest (record { by = 1; canon = 0; words = []; told = told.Starting; lends = []; result = [] })) Acting ∷ [];
  chain = 2 ∷ 1 ∷ [];
  control = Lowers (record { inst = 1; memory = None; realloc = None; acts_for = 2; blame = 2; next = Starts }) (Gives []);
  units = 1;
}

piece2 : next g s w1 ≡ Steps (line.Enter 2 ∷ []) w2
unfolding the_rules
piece2 =
    ap (entering g w1) (none_passed 0 2 false None [] [] (in_state 2 Acting (with_control Free w1)) refl)
    ∙ ap (λ (p : Plan). Steps (line.Enter 2 ∷ []) (planned p w2)) (none_planned (entries_by (defines g 1)) None)

abbrev w3 : World
w3 = record w0 {
  tasks = new_task Init Nobody Exited ∷ record (new_task (Func (record { instance = 0; core = core_func 0 0; options = no_options; func_type = func_type [] None })) (Host 1 []) (AfterCall 2 0 [])) { stacks = (Running (record { instance = 0; results = 0; locals = []; values = []; rest = End; labels = record { arity = 0; under = []; again = None; after = End } ∷ [] }) [] ∷ []) } ∷ record (new_task (Func (record { instance = 1; core = core_func 1 2; options = no_options; func_type = func_type [] None })) (Guest (record { by = 1; canon = 0; words = []; told = told.Starting; lends = []; result = [] })) Acting) { stacks = (Running (record { instance = 1; results = 0; locals = []; values = []; rest = End; labels = record { arity = 0; under = []; again = None; after = End } ∷ [] }) [] ∷ []) } ∷ [];
  chain = 2 ∷ 1 ∷ [];
  control = Doomed 2 trap.PressureZero;
  units = 2;
}

piece3 : far 3 g s w2 ≡ ((line.Do 2 builtin.BackpressureDec [] ∷ []), w3)
unfolding the_rules
piece3 = refl

pub let_too_far_shown : Shows letting one_call letting_world let_too_far (Trapped 2 trap.PressureZero) 2
unfolding the_rules
let_too_far_shown =
    shows g s w0 w3 _ (Trapped 2 trap.PressureZero) 2
    (goes_on g s w0 w1 w3 _ _ (walked 2 g s w0 w1 _ piece1)
    (goes_on g s w1 w2 w3 _ _ (stepped g s w1 w2 _ piece2)
    (walked 3 g s w2 w3 _ piece3))) refl refl
