-- A task that cancels a call waits until the call has resolved, or goes on at once, and does not ask twice.
use Rattle.std.proofs.Common.{◌≡◌, ◌∙◌, true, [], ◌∷◌, Some, None, refl, ap}
use Rattle.syntax_trees.specs.declared.instr.Instr.TheVariants.{Drop}
use Rattle.syntax_trees.specs.declared.instr.Instr.TheVariants as instr
use Rattle.syntax_trees.specs.Expr.{End, Plain}
use Rattle.wasm_store.specs.Stack.{Running}
use Rattle.handle_table.specs.History.{Add, Remove}
use Rattle.tasks.specs.declared.phase.Resolution.TheVariants.{Returned}
use Rattle.tasks.specs.declared.phase.Cancellation.TheVariants as cancellation
use Rattle.tasks.specs.declared.subtask_state.SubtaskState.TheVariants as told
use Rattle.comp_graph.specs.Graph.{Graph, no_options}
use Rattle.script_reader.specs.Script.{Script}
use Rattle.trace_labels.specs.declared.builtin.Builtin.TheVariants as builtin
use Rattle.trace_labels.specs.declared.label.BlockReason.TheVariants as reason
use Rattle.trace_labels.specs.declared.label.Label.TheVariants as line
use Rattle.abi_machine.specs.declared.run_end.RunEnd.TheVariants.{Done}
use Rattle.abi_machine.specs.LoweringOver.{Plan, Gives}
use Rattle.abi_machine.specs.Control.{Free, Calls, Arrives, Lowers, Starts}
use Rattle.abi_machine.specs.World.{OfSubtask, Init, Func, Nobody, Host, Guest, ForCancel, New, Acting, AfterCall, InBuiltin, Exited, World, new_inst, new_task}
use Rattle.abi_machine.specs.Edits.{with_control, in_state}
use Rattle.abi_machine.specs.Canons.{defines}
use Rattle.abi_machine.specs.Turn.{Steps}
use Rattle.abi_machine.specs.Pausing.{entries_by}
use Rattle.abi_machine.specs.Next.{next}
use Rattle.abi_machine.specs.examples.Parts.{func_type, number, core_func, asynchronous, one_call, Shows}
use Rattle.machine_examples.specs.Calling.{calling, calling_world, cancels, cancel_awaited}
use Rattle.abi_machine.proofs.Rules.{the_rules}
use Rattle.abi_machine.proofs.Walks.{far, walked, stepped, goes_on, shows, planned}
use Rattle.abi_machine.proofs.Passed.{none_passed, none_planned}
use Rattle.abi_machine.proofs.Copies.{entering}

abbrev g : Graph
g = calling

abbrev s : Script
s = one_call

abbrev w0 : World
w0 = (calling_world cancels)

abbrev w1 : World
w1 = record w0 {
  tasks = new_task Init Nobody Exited ∷ record (new_task (Func (record { instance = 0; core = (core_func 0 0); options = no_options; func_type = func_type [] None })) (Host 1 []) (AfterCall 2 0 [])) { stacks = ((Running (record { instance = 0; results = 0; locals = []; values = []; rest = (Plain Drop (number 1 (Plain (instr.Call 1) (Plain Drop (number 1 (Plain (instr.Call 3) End)))))); labels = record { arity = 0; under = []; again = None; after = End } ∷ [] }) []) ∷ []) } ∷ new_task (Func (record { instance = 1; core = (core_func 1 9); options = asynchronous; func_type = func_type [] None })) (Guest (record { by = 1; canon = 0; words = []; told = told.Starting; lends = []; result = [] })) New ∷ [];
  chain = 2 ∷ 1 ∷ [];
  control = Arrives;
  units = 1;
}

piece1 : far 2 g s w0 ≡ ((line.Do 1 builtin.Lower [] ∷ line.Call 1 2 2 ∷ []), w1)
unfolding the_rules
piece1 = refl

abbrev w2 : World
w2 = record w0 {
  tasks = new_task Init Nobody Exited ∷ record (new_task (Func (record { instance = 0; core = (core_func 0 0); options = no_options; func_type = func_type [] None })) (Host 1 []) (AfterCall 2 0 [])) { stacks = ((Running (record { instance = 0; results = 0; locals = []; values = []; rest = (Plain Drop (number 1 (Plain (instr.Call 1) (Plain Drop (number 1 (Plain (instr.Call 3) End)))))); labels = record { arity = 0; under = []; again = None; after = End } ∷ [] }) []) ∷ []) } ∷ new_task (Func (record { instance = 1; core = (core_func 1 9); options = asynchronous; func_type = func_type [] None })) (Guest (record { by = 1; canon = 0; words = []; told = told.Starting; lends = []; result = [] })) Acting ∷ [];
  chain = 2 ∷ 1 ∷ [];
  control = Lowers (record { inst = 1; memory = None; realloc = None; acts_for = 2; blame = 2; next = Starts }) (Gives []);
  units = 1;
}

piece2 : next g s w1 ≡ Steps (line.Enter 2 ∷ []) w2
unfolding the_rules
piece2 =
    ap (entering g w1) (none_passed 0 2 true None [] [] (in_state 2 Acting (with_control Free w1)) refl)
    ∙ ap (λ (p : Plan). Steps (line.Enter 2 ∷ []) (planned p w2)) (none_planned (entries_by (defines g 1)) None)

abbrev w3 : World
w3 = record w0 {
  insts = record { table = (Add 1 (OfSubtask 2) ∷ []); sets = []; backpressure = 0 } ∷ new_inst ∷ [];
  tasks = new_task Init Nobody Exited ∷ record (new_task (Func (record { instance = 0; core = (core_func 0 0); options = no_options; func_type = func_type [] None })) (Host 1 []) (InBuiltin 1 (1 ∷ []) (ForCancel 1))) { stacks = ((Running (record { instance = 0; results = 0; locals = []; values = []; rest = (Plain Drop (number 1 (Plain (instr.Call 3) End))); labels = record { arity = 0; under = []; again = None; after = End } ∷ [] }) []) ∷ []) } ∷ record (new_task (Func (record { instance = 1; core = (core_func 1 9); options = asynchronous; func_type = func_type [] None })) (Guest (record { by = 1; canon = 0; words = []; told = told.Started; lends = []; result = [] })) Acting) { stacks = ((Running (record { instance = 1; results = 0; locals = []; values = (0 ∷ []); rest = (Plain Drop (Plain (instr.Call 8) End)); labels = record { arity = 0; under = []; again = None; after = End } ∷ [] }) []) ∷ []); cancellation = cancellation.Asked } ∷ [];
  chain = 2 ∷ [];
  units = 6;
}

piece3 : far 11 g s w2 ≡ ((line.Do 2 builtin.Yield [] ∷ line.Block 2 reason.Yield ∷ line.Got 1 (17 ∷ []) ∷ line.Do 1 builtin.SubtaskCancel (1 ∷ []) ∷ line.Block 1 (reason.Cancel 1) ∷ line.Go 2 ∷ line.Got 2 (0 ∷ []) ∷ []), w3)
unfolding the_rules
piece3 = refl

abbrev w4 : World
w4 = record w0 {
  insts = record { table = (Add 1 (OfSubtask 2) ∷ []); sets = []; backpressure = 0 } ∷ new_inst ∷ [];
  tasks = new_task Init Nobody Exited ∷ record (new_task (Func (record { instance = 0; core = (core_func 0 0); options = no_options; func_type = func_type [] None })) (Host 1 []) Acting) { stacks = ((Running (record { instance = 0; results = 0; locals = []; values = []; rest = End; labels = record { arity = 0; under = []; again = None; after = End } ∷ [] }) []) ∷ []) } ∷ record (new_task (Func (record { instance = 1; core = (core_func 1 9); options = asynchronous; func_type = func_type [] None })) (Guest (record { by = 1; canon = 0; words = []; told = told.Returned; lends = []; result = [] })) Exited) { resolution = Some Returned; cancellation = cancellation.Asked } ∷ [];
  control = Calls 3 (1 ∷ []);
  units = 12;
}

piece4 : far 11 g s w3 ≡ ((line.Do 2 builtin.TaskReturn [] ∷ line.Return 2 None ∷ line.Got 2 [] ∷ line.Exit 2 ∷ line.Go 1 ∷ line.Got 1 (2 ∷ []) ∷ []), w4)
unfolding the_rules
piece4 = refl

abbrev w5 : World
w5 = record w0 {
  insts = record { table = (Remove 1 ∷ Add 1 (OfSubtask 2) ∷ []); sets = []; backpressure = 0 } ∷ new_inst ∷ [];
  tasks = new_task Init Nobody Exited ∷ record (new_task (Func (record { instance = 0; core = (core_func 0 0); options = no_options; func_type = func_type [] None })) (Host 1 []) Exited) { resolution = Some Returned } ∷ record (new_task (Func (record { instance = 1; core = (core_func 1 9); options = asynchronous; func_type = func_type [] None })) (Guest (record { by = 1; canon = 0; words = []; told = told.Returned; lends = []; result = [] })) Exited) { resolution = Some Returned; cancellation = cancellation.Asked } ∷ [];
  chain = [];
  control = Free;
  units = 12;
}

piece5 : far 4 g s w4 ≡ ((line.Do 1 builtin.SubtaskDrop (1 ∷ []) ∷ line.Got 1 [] ∷ line.Return 1 None ∷ line.Exit 1 ∷ []), w5)
unfolding the_rules
piece5 = refl

pub cancel_awaited_shown : Shows calling one_call (calling_world cancels) cancel_awaited Done 12
unfolding the_rules
cancel_awaited_shown =
    shows g s w0 w5 _ Done 12
    (goes_on g s w0 w1 w5 _ _ (walked 2 g s w0 w1 _ piece1)
    (goes_on g s w1 w2 w5 _ _ (stepped g s w1 w2 _ piece2)
    (goes_on g s w2 w3 w5 _ _ (walked 11 g s w2 w3 _ piece3)
    (goes_on g s w3 w4 w5 _ _ (walked 11 g s w3 w4 _ piece4)
    (walked 4 g s w4 w5 _ piece5))))) refl refl
