-- A call that is waited for gives back what was lent for it.
use Rattle.std.proofs.Common.{◌≡◌, ◌∙◌, false, [], ◌∷◌, ◌++◌, List, length, Some, None, refl, ap}
use Rattle.std.specs.Prelude.{nat_lt}
use Rattle.syntax_trees.specs.declared.instr.Instr.TheVariants as instr
use Rattle.syntax_trees.specs.Expr.{End, Plain}
use Rattle.wasm_store.specs.Stack.{Running}
use Rattle.syntax_trees.specs.declared.core_type.CoreType.{CoreType}
use Rattle.syntax_trees.specs.declared.types.ValType.TheOpen as F
use Rattle.syntax_trees.specs.declared.types.ValType.TheVariants as leaves
use Rattle.syntax_trees.specs.declared.value.Value.TheOpen as V
use Rattle.syntax_trees.specs.declared.value.Value.TheVariants as plain
use Rattle.handle_table.specs.History.{Add, Remove}
use Rattle.tasks.specs.declared.phase.Resolution.TheVariants.{Returned}
use Rattle.tasks.specs.declared.subtask_state.SubtaskState.TheVariants as told
use Rattle.comp_graph.specs.Needs.{flat_param_limit}
use Rattle.comp_graph.specs.Graph.{Graph, no_options}
use Rattle.script_reader.specs.Script.{Script}
use Rattle.trace_labels.specs.declared.builtin.Builtin.TheVariants as builtin
use Rattle.trace_labels.specs.declared.label.BlockReason.TheVariants as reason
use Rattle.trace_labels.specs.declared.label.Label.TheVariants as line
use Rattle.abi_machine.specs.declared.run_end.RunEnd.TheVariants.{Done}
use Rattle.abi_machine.specs.LoweringOver.{Plan, Gives, lower_step, field_words}
use Rattle.abi_machine.specs.Control.{Free, Calls, Arrives, Lowers, Starts}
use Rattle.abi_machine.specs.World.{OwnHandle, BorrowHandle, Init, Func, Nobody, Host, Guest, ForCall, New, Acting, AfterCall, InBuiltin, Exited, World, new_inst, new_task}
use Rattle.abi_machine.specs.Edits.{with_control, in_state}
use Rattle.abi_machine.specs.Canons.{defines}
use Rattle.abi_machine.specs.Turn.{Steps}
use Rattle.abi_machine.specs.Lifting.{by_world}
use Rattle.abi_machine.specs.Pausing.{entries_by}
use Rattle.abi_machine.specs.Next.{next}
use Rattle.abi_machine.specs.examples.Parts.{func_type, number, core_func, asynchronous, one_call, Shows}
use Rattle.machine_examples.specs.Passing.{lends, lends_world, lent}
use Rattle.abi_machine.proofs.Rules.{the_rules}
use Rattle.abi_machine.proofs.Walks.{far, walked, stepped, goes_on, shows, planned}
use Rattle.abi_machine.proofs.Layers.{borrow_flat, borrow_part, borrow_lowered}
use Rattle.abi_machine.proofs.Passed.{one_passed, one_planned}
use Rattle.abi_machine.proofs.Copies.{entering}

abbrev g : Graph
g = lends

abbrev s : Script
s = one_call

abbrev w0 : World
w0 = lends_world

abbrev w1 : World
w1 = record w0 {
  insts = record { table = (Add 1 (OwnHandle 1 7) ∷ []); sets = []; backpressure = 0 } ∷ new_inst ∷ [];
  tasks = new_task Init Nobody Exited ∷ record (new_task (Func (record { instance = 0; core = (core_func 0 0); options = no_options; func_type = func_type [] None })) (Host 1 []) (AfterCall 2 1 (1 ∷ []))) { stacks = ((Running (record { instance = 0; results = 0; locals = []; values = []; rest = (number 1 (Plain (instr.Call 2) End)); labels = record { arity = 0; under = []; again = None; after = End } ∷ [] }) []) ∷ []) } ∷ new_task (Func (record { instance = 1; core = (core_func 1 6); options = asynchronous; func_type = func_type ((leaves.Borrow 1) ∷ []) None })) (Guest (record { by = 1; canon = 1; words = (1 ∷ []); told = told.Starting; lends = []; result = [] })) New ∷ [];
  chain = 2 ∷ 1 ∷ [];
  control = Arrives;
  units = 5;
}

piece1 : far 7 g s w0 ≡ ((line.Do 1 builtin.ResourceNew (7 ∷ []) ∷ line.Got 1 (1 ∷ []) ∷ line.Do 1 builtin.Lower (1 ∷ []) ∷ line.Call 1 2 2 ∷ []), w1)
unfolding the_rules
piece1 = refl

abbrev w2 : World
w2 = record w0 {
  insts = record { table = (Add 1 (OwnHandle 1 7) ∷ []); sets = []; backpressure = 0 } ∷ new_inst ∷ [];
  tasks = new_task Init Nobody Exited ∷ record (new_task (Func (record { instance = 0; core = (core_func 0 0); options = no_options; func_type = func_type [] None })) (Host 1 []) (AfterCall 2 1 (1 ∷ []))) { stacks = ((Running (record { instance = 0; results = 0; locals = []; values = []; rest = (number 1 (Plain (instr.Call 2) End)); labels = record { arity = 0; under = []; again = None; after = End } ∷ [] }) []) ∷ []) } ∷ new_task (Func (record { instance = 1; core = (core_func 1 6); options = asynchronous; func_type = func_type ((leaves.Borrow 1) ∷ []) None })) (Guest (record { by = 1; canon = 1; words = (1 ∷ []); told = told.Starting; lends = (1 ∷ []); result = [] })) Acting ∷ [];
  chain = 2 ∷ 1 ∷ [];
  control = Lowers (record { inst = 1; memory = None; realloc = None; acts_for = 2; blame = 2; next = Starts }) (field_words (Some (leaves.Borrow 1) ∷ []) ((lower_step (entries_by (defines g 1)) (V.Borrow (record { resource = 1; rep = 7 }))) ∷ []) [] (λ words. Gives words));
  units = 5;
}

piece2 : next g s w1 ≡ Steps (line.Enter 2 ∷ line.Lend 1 1 2 ∷ []) w2
unfolding the_rules
piece2 =
    ap (entering g w1) (one_passed 0 2 false (leaves.Borrow 1) (F.Borrow 1) None [] (1 ∷ []) (in_state 2 Acting (with_control Free w1)) refl (borrow_flat 1) (borrow_part (by_world 0 2) 1))
    ∙ ap (λ (p : Plan). Steps (line.Enter 2 ∷ line.Lend 1 1 2 ∷ []) (planned p w2)) (one_planned (entries_by (defines g 1)) (leaves.Borrow 1) None (plain.Borrow (record { resource = 1; rep = 7 })) (lower_step (entries_by (defines g 1)) (V.Borrow (record { resource = 1; rep = 7 }))) (ap (λ (c : List CoreType). nat_lt flat_param_limit (length (c ++ []))) (borrow_flat 1)) (borrow_lowered (entries_by (defines g 1)) (record { resource = 1; rep = 7 })))

abbrev w3 : World
w3 = record w0 {
  insts = record { table = (Add 1 (OwnHandle 1 7) ∷ []); sets = []; backpressure = 0 } ∷ record { table = (Remove 1 ∷ Add 1 (BorrowHandle 1 7 2) ∷ []); sets = []; backpressure = 0 } ∷ [];
  tasks = new_task Init Nobody Exited ∷ record (new_task (Func (record { instance = 0; core = (core_func 0 0); options = no_options; func_type = func_type [] None })) (Host 1 []) (InBuiltin 1 (1 ∷ []) (ForCall 2))) { stacks = ((Running (record { instance = 0; results = 0; locals = []; values = []; rest = (number 1 (Plain (instr.Call 2) End)); labels = record { arity = 0; under = []; again = None; after = End } ∷ [] }) []) ∷ []) } ∷ record (new_task (Func (record { instance = 1; core = (core_func 1 6); options = asynchronous; func_type = func_type ((leaves.Borrow 1) ∷ []) None })) (Guest (record { by = 1; canon = 1; words = (1 ∷ []); told = told.Starting; lends = (1 ∷ []); result = [] })) Acting) { stacks = ((Running (record { instance = 1; results = 0; locals = (1 ∷ []); values = []; rest = End; labels = record { arity = 0; under = []; again = None; after = End } ∷ [] }) []) ∷ []) } ∷ [];
  chain = 2 ∷ [];
  control = Calls 5 [];
  units = 11;
}

piece3 : far 11 g s w2 ≡ ((line.Do 2 builtin.Yield [] ∷ line.Block 2 reason.Yield ∷ line.Block 1 (reason.Call 2) ∷ line.Go 2 ∷ line.Got 2 (0 ∷ []) ∷ line.Do 2 builtin.ResourceDrop (1 ∷ []) ∷ line.Got 2 [] ∷ []), w3)
unfolding the_rules
piece3 = refl

abbrev w4 : World
w4 = record w0 {
  insts = record { table = (Remove 1 ∷ Add 1 (OwnHandle 1 7) ∷ []); sets = []; backpressure = 0 } ∷ record { table = (Remove 1 ∷ Add 1 (BorrowHandle 1 7 2) ∷ []); sets = []; backpressure = 0 } ∷ [];
  tasks = new_task Init Nobody Exited ∷ record (new_task (Func (record { instance = 0; core = (core_func 0 0); options = no_options; func_type = func_type [] None })) (Host 1 []) Exited) { resolution = Some Returned } ∷ record (new_task (Func (record { instance = 1; core = (core_func 1 6); options = asynchronous; func_type = func_type ((leaves.Borrow 1) ∷ []) None })) (Guest (record { by = 1; canon = 1; words = (1 ∷ []); told = told.Returned; lends = []; result = [] })) Exited) { resolution = Some Returned } ∷ [];
  chain = [];
  control = Free;
  units = 14;
}

piece4 : far 12 g s w3 ≡ ((line.Do 2 builtin.TaskReturn [] ∷ line.Return 2 None ∷ line.Got 2 [] ∷ line.Exit 2 ∷ line.Go 1 ∷ line.Unlend 1 1 2 ∷ line.Got 1 [] ∷ line.Do 1 builtin.ResourceDrop (1 ∷ []) ∷ line.Got 1 [] ∷ line.Return 1 None ∷ line.Exit 1 ∷ []), w4)
unfolding the_rules
piece4 = refl

pub lent_shown : Shows lends one_call lends_world lent Done 14
unfolding the_rules
lent_shown =
    shows g s w0 w4 _ Done 14
    (goes_on g s w0 w1 w4 _ _ (walked 7 g s w0 w1 _ piece1)
    (goes_on g s w1 w2 w4 _ _ (stepped g s w1 w2 _ piece2)
    (goes_on g s w2 w3 w4 _ _ (walked 11 g s w2 w3 _ piece3)
    (walked 12 g s w3 w4 _ piece4)))) refl refl
