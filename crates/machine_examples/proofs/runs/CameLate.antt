-- A call does not come back to the instance of a caller that has exited.
use Rattle.std.proofs.Common.{◌≡◌, ◌∙◌, true, [], ◌∷◌, Some, None, refl, ap}
use Rattle.syntax_trees.specs.declared.instr.Instr.TheVariants.{Drop}
use Rattle.syntax_trees.specs.Expr.{End, Plain}
use Rattle.wasm_store.specs.Stack.{Running}
use Rattle.handle_table.specs.History.{Add}
use Rattle.tasks.specs.declared.phase.Resolution.TheVariants.{Returned}
use Rattle.tasks.specs.declared.subtask_state.SubtaskState.TheVariants as told
use Rattle.comp_graph.specs.Graph.{Graph, no_options}
use Rattle.script_reader.specs.Script.{Script}
use Rattle.trace_labels.specs.declared.builtin.Builtin.TheVariants as builtin
use Rattle.trace_labels.specs.declared.label.BlockReason.TheVariants as reason
use Rattle.trace_labels.specs.declared.label.Label.TheVariants as line
use Rattle.trace_labels.specs.declared.trap.TrapName.TheVariants as trap
use Rattle.abi_machine.specs.declared.run_end.RunEnd.TheVariants.{Trapped}
use Rattle.abi_machine.specs.LoweringOver.{Plan, Gives}
use Rattle.abi_machine.specs.Control.{Free, Arrives, Lowers, Doomed, Starts}
use Rattle.abi_machine.specs.World.{OfSubtask, Init, Func, Nobody, Host, Guest, New, Acting, AfterCall, Exited, World, new_inst, new_task}
use Rattle.abi_machine.specs.Edits.{with_control, in_state}
use Rattle.abi_machine.specs.Canons.{defines}
use Rattle.abi_machine.specs.Turn.{Steps}
use Rattle.abi_machine.specs.Pausing.{entries_by}
use Rattle.abi_machine.specs.Next.{next}
use Rattle.abi_machine.specs.examples.Parts.{func_type, core_func, one_call, Shows}
use Rattle.machine_examples.specs.Calling.{late, late_world, came_late}
use Rattle.abi_machine.proofs.Rules.{the_rules}
use Rattle.abi_machine.proofs.Walks.{far, walked, stepped, goes_on, shows, planned}
use Rattle.abi_machine.proofs.Passed.{none_passed, none_planned}
use Rattle.abi_machine.proofs.Copies.{entering}

abbrev g : Graph
g = late

abbrev s : Script
s = one_call

abbrev w0 : World
w0 = late_world

abbrev w1 : World
w1 = record w0 {
  tasks = new_task Init Nobody Exited ∷ record (new_task (Func (record { instance = 0; core = (core_func 0 0); options = no_options; func_type = func_type [] None })) (Host 1 []) (AfterCall 2 0 [])) { stacks = ((Running (record { instance = 0; results = 0; locals = []; values = []; rest = (Plain Drop End); labels = record { arity = 0; under = []; again = None; after = End } ∷ [] }) []) ∷ []) } ∷ new_task (Func (record { instance = 1; core = (core_func 1 3); options = no_options; func_type = func_type [] None })) (Guest (record { by = 1; canon = 0; words = []; told = told.Starting; lends = []; result = [] })) New ∷ [];
  chain = 2 ∷ 1 ∷ [];
  control = Arrives;
  units = 1;
}

piece1 : far 2 g s w0 ≡ ((line.Do 1 builtin.Lower [] ∷ line.Call 1 2 2 ∷ []), w1)
unfolding the_rules
piece1 = refl

abbrev w2 : World
w2 = record w0 {
  tasks = new_task Init Nobody Exited ∷ record (new_task (Func (record { instance = 0; core = (core_func 0 0); options = no_options; func_type = func_type [] None })) (Host 1 []) (AfterCall 2 0 [])) { stacks = ((Running (record { instance = 0; results = 0; locals = []; values = []; rest = (Plain Drop End); labels = record { arity = 0; under = []; again = None; after = End } ∷ [] }) []) ∷ []) } ∷ new_task (Func (record { instance = 1; core = (core_func 1 3); options = no_options; func_type = func_type [] None })) (Guest (record { by = 1; canon = 0; words = []; told = told.Starting; lends = []; result = [] })) Acting ∷ [];
  chain = 2 ∷ 1 ∷ [];
  control = Lowers (record { inst = 1; memory = None; realloc = None; acts_for = 2; blame = 2; next = Starts }) (Gives []);
  units = 1;
}

piece2 : next g s w1 ≡ Steps (line.Enter 2 ∷ []) w2
unfolding the_rules
piece2 =
    ap (entering g w1) (none_passed 0 2 true None [] [] (in_state 2 Acting (with_control Free w1)) refl)
    ∙ ap (λ (p : Plan). Steps (line.Enter 2 ∷ []) (planned p w2)) (none_planned (entries_by (defines g 1)) None)

abbrev w3 : World
w3 = record w0 {
  insts = record { table = (Add 1 (OfSubtask 2) ∷ []); sets = []; backpressure = 0 } ∷ new_inst ∷ [];
  tasks = new_task Init Nobody Exited ∷ record (new_task (Func (record { instance = 0; core = (core_func 0 0); options = no_options; func_type = func_type [] None })) (Host 1 []) Exited) { resolution = Some Returned } ∷ record (new_task (Func (record { instance = 1; core = (core_func 1 3); options = no_options; func_type = func_type [] None })) (Guest (record { by = 1; canon = 0; words = []; told = told.Started; lends = []; result = [] })) Acting) { stacks = ((Running (record { instance = 1; results = 0; locals = []; values = []; rest = (Plain Drop End); labels = record { arity = 0; under = []; again = None; after = End } ∷ [] }) []) ∷ []) } ∷ [];
  chain = 2 ∷ [];
  control = Doomed 2 trap.Reentrant;
  units = 6;
}

piece3 : far 13 g s w2 ≡ ((line.Do 2 builtin.Yield [] ∷ line.Block 2 reason.Yield ∷ line.Got 1 (17 ∷ []) ∷ line.Return 1 None ∷ line.Exit 1 ∷ line.Go 2 ∷ line.Got 2 (0 ∷ []) ∷ line.Do 2 builtin.Lower [] ∷ []), w3)
unfolding the_rules
piece3 = refl

pub came_late_shown : Shows late one_call late_world came_late (Trapped 2 trap.Reentrant) 6
unfolding the_rules
came_late_shown =
    shows g s w0 w3 _ (Trapped 2 trap.Reentrant) 6
    (goes_on g s w0 w1 w3 _ _ (walked 2 g s w0 w1 _ piece1)
    (goes_on g s w1 w2 w3 _ _ (stepped g s w1 w2 _ piece2)
    (walked 13 g s w2 w3 _ piece3))) refl refl
