-- A call that waits to enter is removed.
use Rattle.std.proofs.Common.{◌≡◌, [], ◌∷◌, Some, None, refl}
use Rattle.syntax_trees.specs.Expr.{End}
use Rattle.wasm_store.specs.Stack.{Running}
use Rattle.handle_table.specs.History.{Add, Remove}
use Rattle.tasks.specs.declared.phase.Resolution.TheVariants.{Returned, Cancelled}
use Rattle.tasks.specs.declared.subtask_state.SubtaskState.TheVariants as told
use Rattle.comp_graph.specs.Graph.{Graph, no_options}
use Rattle.script_reader.specs.Script.{Script}
use Rattle.trace_labels.specs.declared.builtin.Builtin.TheVariants as builtin
use Rattle.trace_labels.specs.declared.label.BlockReason.TheVariants as reason
use Rattle.trace_labels.specs.declared.label.Label.TheVariants as line
use Rattle.abi_machine.specs.declared.run_end.RunEnd.TheVariants.{Done}
use Rattle.abi_machine.specs.Control.{Free}
use Rattle.abi_machine.specs.World.{OfSubtask, Init, Func, Nobody, Host, Guest, Acting, Exited, World, new_task}
use Rattle.abi_machine.specs.examples.Parts.{func_type, core_func, asynchronous, one_call, Shows}
use Rattle.abi_machine.specs.examples.Cancelling.{call_removed, removing, removing_world}
use Rattle.abi_machine.proofs.Rules.{the_rules}
use Rattle.abi_machine.proofs.Walks.{far, walked, goes_on, shows}

abbrev g : Graph
g = removing

abbrev s : Script
s = one_call

abbrev w0 : World
w0 = removing_world

abbrev w1 : World
w1 = record w0 {
  insts = record { table = (Remove 1 ∷ Add 1 (OfSubtask 2) ∷ []); sets = []; backpressure = 0 } ∷ record { table = []; sets = []; backpressure = 1 } ∷ [];
  tasks = new_task Init Nobody Exited ∷ record (new_task (Func (record { instance = 0; core = core_func 0 0; options = no_options; func_type = func_type [] None })) (Host 1 []) Acting) { stacks = (Running (record { instance = 0; results = 0; locals = []; values = []; rest = End; labels = [] }) [] ∷ []) } ∷ record (new_task (Func (record { instance = 1; core = core_func 1 3; options = asynchronous; func_type = func_type [] None })) (Guest (record { by = 1; canon = 0; words = []; told = told.CancelledBeforeStarted; lends = []; result = [] })) Exited) { resolution = Some Cancelled } ∷ [];
  units = 7;
}

piece1 : far 14 g s w0 ≡ ((line.Do 1 builtin.Lower [] ∷ line.Call 1 2 2 ∷ line.Block 2 reason.Entry ∷ line.Got 1 (16 ∷ []) ∷ line.Do 1 builtin.SubtaskCancel (1 ∷ []) ∷ line.Cancelled 2 ∷ line.Exit 2 ∷ line.Got 1 (3 ∷ []) ∷ line.Do 1 builtin.SubtaskDrop (1 ∷ []) ∷ line.Got 1 [] ∷ []), w1)
unfolding the_rules
piece1 = refl

abbrev w2 : World
w2 = record w0 {
  insts = record { table = (Remove 1 ∷ Add 1 (OfSubtask 2) ∷ []); sets = []; backpressure = 0 } ∷ record { table = []; sets = []; backpressure = 1 } ∷ [];
  tasks = new_task Init Nobody Exited ∷ record (new_task (Func (record { instance = 0; core = core_func 0 0; options = no_options; func_type = func_type [] None })) (Host 1 []) Exited) { resolution = Some Returned } ∷ record (new_task (Func (record { instance = 1; core = core_func 1 3; options = asynchronous; func_type = func_type [] None })) (Guest (record { by = 1; canon = 0; words = []; told = told.CancelledBeforeStarted; lends = []; result = [] })) Exited) { resolution = Some Cancelled } ∷ [];
  chain = [];
  control = Free;
  units = 7;
}

piece2 : far 2 g s w1 ≡ ((line.Return 1 None ∷ line.Exit 1 ∷ []), w2)
unfolding the_rules
piece2 = refl

pub removed_shown : Shows removing one_call removing_world call_removed Done 7
unfolding the_rules
removed_shown =
    shows g s w0 w2 _ Done 7
    (goes_on g s w0 w1 w2 _ _ (walked 14 g s w0 w1 _ piece1)
    (walked 2 g s w1 w2 _ piece2)) refl refl
