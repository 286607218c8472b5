-- A call stays in its loop.
use Rattle.std.proofs.Common.{◌≡◌, ◌∙◌, true, [], ◌∷◌, Some, None, refl, ap}
use Rattle.syntax_trees.specs.declared.instr.Instr.TheVariants.{Drop}
use Rattle.syntax_trees.specs.Expr.{End, Plain}
use Rattle.wasm_store.specs.Stack.{Running}
use Rattle.syntax_trees.specs.declared.types.ValType.TheVariants as leaves
use Rattle.handle_table.specs.History.{Add}
use Rattle.tasks.specs.declared.phase.Resolution.TheVariants.{Returned}
use Rattle.tasks.specs.declared.subtask_state.SubtaskState.TheVariants as told
use Rattle.comp_graph.specs.Graph.{Graph, no_options}
use Rattle.script_reader.specs.Script.{Script}
use Rattle.trace_labels.specs.declared.builtin.Builtin.TheVariants as builtin
use Rattle.trace_labels.specs.declared.label.BlockReason.TheVariants as reason
use Rattle.trace_labels.specs.declared.label.Label.TheVariants as line
use Rattle.abi_machine.specs.declared.run_end.RunEnd.TheVariants.{Deadlock}
use Rattle.abi_machine.specs.LoweringOver.{Plan, Gives}
use Rattle.abi_machine.specs.Control.{Free, Arrives, Lowers, Starts}
use Rattle.abi_machine.specs.World.{OfSubtask, OfSet, Init, Func, Nobody, Host, Guest, New, Acting, AfterCall, InLoop, Exited, World, new_inst, new_task}
use Rattle.abi_machine.specs.Edits.{with_control, in_state}
use Rattle.abi_machine.specs.Canons.{bytes_of, defines}
use Rattle.abi_machine.specs.Turn.{Steps}
use Rattle.abi_machine.specs.Pausing.{entries_by}
use Rattle.abi_machine.specs.Next.{next}
use Rattle.abi_machine.specs.examples.Parts.{func_type, core_func, one_call, Shows}
use Rattle.abi_machine.specs.examples.Subtasks.{stayed, stays, stays_world}
use Rattle.abi_machine.proofs.Rules.{the_rules}
use Rattle.abi_machine.proofs.Walks.{far, walked, stepped, goes_on, shows, planned}
use Rattle.abi_machine.proofs.Passed.{none_passed, none_planned}
use Rattle.abi_machine.proofs.Copies.{entering}

abbrev g : Graph
g = stays

abbrev s : Script
s = one_call

abbrev w0 : World
w0 = stays_world

abbrev w1 : World
w1 = record w0 {
  insts = record { table = (Add 1 (OfSet 0) ∷ []); sets = ([] ∷ []); backpressure = 0 } ∷ new_inst ∷ [];
  tasks = new_task Init Nobody Exited ∷ record (new_task (Func (record { instance = 0; core = core_func 0 0; options = no_options; func_type = func_type [] None })) (Host 1 []) (AfterCall 2 1 (64 ∷ []))) { stacks = (Running (record { instance = 0; results = 0; locals = []; values = []; rest = (Plain Drop End); labels = record { arity = 0; under = []; again = None; after = End } ∷ [] }) [] ∷ []) } ∷ new_task (Func (record { instance = 1; core = core_func 1 3; options = (record no_options { callback = Some (core_func 1 4); is_async = true }); func_type = func_type [] (Some leaves.U32) })) (Guest (record { by = 1; canon = 1; words = (64 ∷ []); told = told.Starting; lends = []; result = [] })) New ∷ [];
  chain = 2 ∷ 1 ∷ [];
  control = Arrives;
  units = 4;
}

piece1 : far 6 g s w0 ≡ ((line.Do 1 builtin.WaitableSetNew [] ∷ line.Got 1 (1 ∷ []) ∷ line.Do 1 builtin.Lower (64 ∷ []) ∷ line.Call 1 2 2 ∷ []), w1)
unfolding the_rules
piece1 = refl

abbrev w2 : World
w2 = record w0 {
  insts = record { table = (Add 1 (OfSet 0) ∷ []); sets = ([] ∷ []); backpressure = 0 } ∷ new_inst ∷ [];
  tasks = new_task Init Nobody Exited ∷ record (new_task (Func (record { instance = 0; core = core_func 0 0; options = no_options; func_type = func_type [] None })) (Host 1 []) (AfterCall 2 1 (64 ∷ []))) { stacks = (Running (record { instance = 0; results = 0; locals = []; values = []; rest = (Plain Drop End); labels = record { arity = 0; under = []; again = None; after = End } ∷ [] }) [] ∷ []) } ∷ new_task (Func (record { instance = 1; core = core_func 1 3; options = (record no_options { callback = Some (core_func 1 4); is_async = true }); func_type = func_type [] (Some leaves.U32) })) (Guest (record { by = 1; canon = 1; words = (64 ∷ []); told = told.Starting; lends = []; result = [] })) Acting ∷ [];
  chain = 2 ∷ 1 ∷ [];
  control = Lowers (record { inst = 1; memory = None; realloc = None; acts_for = 2; blame = 2; next = Starts }) (Gives []);
  units = 4;
}

piece2 : next g s w1 ≡ Steps (line.Enter 2 ∷ []) w2
unfolding the_rules
piece2 =
    ap (entering g w1) (none_passed 0 2 true (Some leaves.U32) (bytes_of w1.store (Some 0)) (64 ∷ []) (in_state 2 Acting (with_control Free w1)) refl)
    ∙ ap (λ (p : Plan). Steps (line.Enter 2 ∷ []) (planned p w2)) (none_planned (entries_by (defines g 1)) (Some leaves.U32))

abbrev w3 : World
w3 = record w0 {
  insts = record { table = (Add 2 (OfSubtask 2) ∷ Add 1 (OfSet 0) ∷ []); sets = ([] ∷ []); backpressure = 0 } ∷ record { table = (Add 1 (OfSet 0) ∷ []); sets = ([] ∷ []); backpressure = 0 } ∷ [];
  tasks = new_task Init Nobody Exited ∷ record (new_task (Func (record { instance = 0; core = core_func 0 0; options = no_options; func_type = func_type [] None })) (Host 1 []) Exited) { resolution = Some Returned } ∷ new_task (Func (record { instance = 1; core = core_func 1 3; options = (record no_options { callback = Some (core_func 1 4); is_async = true }); func_type = func_type [] (Some leaves.U32) })) (Guest (record { by = 1; canon = 1; words = (64 ∷ []); told = told.Started; lends = []; result = [] })) (InLoop 18) ∷ [];
  chain = [];
  control = Free;
  units = 8;
}

piece3 : far 12 g s w2 ≡ ((line.Do 2 builtin.WaitableSetNew [] ∷ line.Got 2 (1 ∷ []) ∷ line.Block 2 (reason.Wait 1) ∷ line.Got 1 (33 ∷ []) ∷ line.Return 1 None ∷ line.Exit 1 ∷ []), w3)
unfolding the_rules
piece3 = refl

pub stayed_shown : Shows stays one_call stays_world stayed (Deadlock (2 ∷ [])) 8
unfolding the_rules
stayed_shown =
    shows g s w0 w3 _ (Deadlock (2 ∷ [])) 8
    (goes_on g s w0 w1 w3 _ _ (walked 6 g s w0 w1 _ piece1)
    (goes_on g s w1 w2 w3 _ _ (stepped g s w1 w2 _ piece2)
    (walked 12 g s w2 w3 _ piece3))) refl refl
