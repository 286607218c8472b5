-- What was lent before a refusal stays lent.
use Rattle.std.proofs.Common.{◌≡◌, false, [], ◌∷◌, None, refl, ap}
use Rattle.syntax_trees.specs.Expr.{End}
use Rattle.wasm_store.specs.Stack.{Running}
use Rattle.syntax_trees.specs.declared.types.ValType.TheOpen as F
use Rattle.syntax_trees.specs.declared.types.ValType.TheVariants as leaves
use Rattle.handle_table.specs.History.{Add}
use Rattle.tasks.specs.declared.subtask_state.SubtaskState.TheVariants as told
use Rattle.comp_graph.specs.Graph.{Graph, no_options}
use Rattle.script_reader.specs.Script.{Script}
use Rattle.trace_labels.specs.declared.builtin.Builtin.TheVariants as builtin
use Rattle.trace_labels.specs.declared.label.Label.TheVariants as line
use Rattle.trace_labels.specs.declared.trap.TrapName.TheVariants as trap
use Rattle.abi_machine.specs.declared.run_end.RunEnd.TheVariants.{Trapped}
use Rattle.abi_machine.specs.Control.{Free, Arrives, Doomed}
use Rattle.abi_machine.specs.World.{OwnHandle, Init, Func, Nobody, Host, Guest, New, Acting, AfterCall, Exited, World, new_inst, new_task}
use Rattle.abi_machine.specs.Edits.{with_control, in_state}
use Rattle.abi_machine.specs.Turn.{Steps}
use Rattle.abi_machine.specs.Lifting.{by_world}
use Rattle.abi_machine.specs.Next.{next}
use Rattle.abi_machine.specs.examples.Parts.{func_type, core_func, one_call, Leaves}
use Rattle.abi_machine.specs.examples.Handles.{borrowed, both_world, lent_then_given, owned, passing}
use Rattle.machine_examples.specs.Lifting.{still_lent, no_bytes}
use Rattle.abi_machine.proofs.Rules.{the_rules}
use Rattle.abi_machine.proofs.Walks.{far, walked, stepped, goes_on, leaves}
use Rattle.abi_machine.proofs.Layers.{own_flat, borrow_flat, own_part, borrow_part}
use Rattle.abi_machine.proofs.Passed.{two_passed}
use Rattle.abi_machine.proofs.Copies.{entering}

abbrev g : Graph
g = passing (borrowed ∷ owned ∷ [])

abbrev s : Script
s = one_call

abbrev w0 : World
w0 = both_world

abbrev w1 : World
w1 = record w0 {
  insts = record { table = (Add 1 (OwnHandle 1 7) ∷ []); sets = []; backpressure = 0 } ∷ new_inst ∷ [];
  tasks = new_task Init Nobody Exited ∷ record (new_task (Func (record { instance = 0; core = core_func 0 0; options = no_options; func_type = func_type [] None })) (Host 1 []) (AfterCall 2 1 (1 ∷ 1 ∷ []))) { stacks = (Running (record { instance = 0; results = 0; locals = []; values = []; rest = End; labels = record { arity = 0; under = []; again = None; after = End } ∷ [] }) [] ∷ []) } ∷ new_task (Func (record { instance = 1; core = core_func 1 3; options = no_options; func_type = func_type ((leaves.Borrow 1) ∷ (leaves.Own 1) ∷ []) None })) (Guest (record { by = 1; canon = 1; words = (1 ∷ 1 ∷ []); told = told.Starting; lends = []; result = [] })) New ∷ [];
  chain = 2 ∷ 1 ∷ [];
  control = Arrives;
  units = 6;
}

piece1 : far 8 g s w0 ≡ ((line.Do 1 builtin.ResourceNew (7 ∷ []) ∷ line.Got 1 (1 ∷ []) ∷ line.Do 1 builtin.Lower (1 ∷ 1 ∷ []) ∷ line.Call 1 2 2 ∷ []), w1)
unfolding the_rules
piece1 = refl

abbrev w2 : World
w2 = record w0 {
  insts = record { table = (Add 1 (OwnHandle 1 7) ∷ []); sets = []; backpressure = 0 } ∷ new_inst ∷ [];
  tasks = new_task Init Nobody Exited ∷ record (new_task (Func (record { instance = 0; core = core_func 0 0; options = no_options; func_type = func_type [] None })) (Host 1 []) (AfterCall 2 1 (1 ∷ 1 ∷ []))) { stacks = (Running (record { instance = 0; results = 0; locals = []; values = []; rest = End; labels = record { arity = 0; under = []; again = None; after = End } ∷ [] }) [] ∷ []) } ∷ new_task (Func (record { instance = 1; core = core_func 1 3; options = no_options; func_type = func_type ((leaves.Borrow 1) ∷ (leaves.Own 1) ∷ []) None })) (Guest (record { by = 1; canon = 1; words = (1 ∷ 1 ∷ []); told = told.Starting; lends = (1 ∷ []); result = [] })) Acting ∷ [];
  chain = 2 ∷ 1 ∷ [];
  control = Doomed 2 trap.Lent;
  units = 6;
}

piece2 : next g s w1 ≡ Steps (line.Enter 2 ∷ line.Lend 1 1 2 ∷ []) w2
unfolding the_rules
piece2 =
    ap (entering g w1) (two_passed 0 2 false (leaves.Borrow 1) (leaves.Own 1) (F.Borrow 1) (F.Own 1) None [] (1 ∷ 1 ∷ []) (in_state 2 Acting (with_control Free w1)) refl (borrow_flat 1) (own_flat 1) (borrow_part (by_world 0 2) 1) (own_part (by_world 0 2) 1))

pub still_lent_shown : Leaves (passing (borrowed ∷ owned ∷ [])) one_call both_world lent_then_given (Trapped 2 trap.Lent) 6 still_lent no_bytes
unfolding the_rules
still_lent_shown =
    leaves g s w0 w2 _ (Trapped 2 trap.Lent) 6 _ _
    (goes_on g s w0 w1 w2 _ _ (walked 8 g s w0 w1 _ piece1)
    (stepped g s w1 w2 _ piece2)) refl refl refl refl
