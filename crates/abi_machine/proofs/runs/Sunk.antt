-- A child drops a handle of a resource of its caller.
use Rattle.std.proofs.Common.{◌≡◌, ◌∙◌, false, List, [], ◌∷◌, ◌++◌, length, Some, None, refl, ap}
use Rattle.std.specs.Prelude.{nat_lt}
use Rattle.syntax_trees.specs.Expr.{End}
use Rattle.wasm_store.specs.Stack.{Running}
use Rattle.syntax_trees.specs.declared.core_type.CoreType.{CoreType}
use Rattle.syntax_trees.specs.declared.types.ValType.TheOpen as F
use Rattle.syntax_trees.specs.declared.types.ValType.TheVariants as leaves
use Rattle.syntax_trees.specs.declared.value.Value.TheOpen as V
use Rattle.syntax_trees.specs.declared.value.Value.TheVariants as plain
use Rattle.handle_table.specs.History.{Add, Remove}
use Rattle.tasks.specs.declared.subtask_state.SubtaskState.TheVariants as told
use Rattle.comp_graph.specs.Needs.{flat_param_limit}
use Rattle.comp_graph.specs.Graph.{Graph, no_options}
use Rattle.script_reader.specs.Script.{Script}
use Rattle.trace_labels.specs.declared.builtin.Builtin.TheVariants as builtin
use Rattle.trace_labels.specs.declared.label.Label.TheVariants as line
use Rattle.trace_labels.specs.declared.trap.TrapName.TheVariants as trap
use Rattle.abi_machine.specs.declared.run_end.RunEnd.TheVariants.{Trapped}
use Rattle.abi_machine.specs.LoweringOver.{Plan, Gives, lower_step, field_words}
use Rattle.abi_machine.specs.Control.{Free, Arrives, Lowers, Doomed, Starts}
use Rattle.abi_machine.specs.World.{OwnHandle, Init, Func, Nobody, Host, Guest, New, Acting, AfterCall, Exited, World, new_inst, new_task}
use Rattle.abi_machine.specs.Edits.{with_control, in_state}
use Rattle.abi_machine.specs.Canons.{defines}
use Rattle.abi_machine.specs.Turn.{Steps}
use Rattle.abi_machine.specs.Lifting.{by_world}
use Rattle.abi_machine.specs.Pausing.{entries_by}
use Rattle.abi_machine.specs.Next.{next}
use Rattle.abi_machine.specs.examples.Parts.{func_type, core_func, one_call, Shows}
use Rattle.abi_machine.specs.examples.Handles.{owned, passing, sink_world, sunk}
use Rattle.abi_machine.proofs.Rules.{the_rules}
use Rattle.abi_machine.proofs.Walks.{far, walked, stepped, goes_on, shows, planned}
use Rattle.abi_machine.proofs.Layers.{own_flat, own_part, own_lowered}
use Rattle.abi_machine.proofs.Passed.{one_passed, one_planned}
use Rattle.abi_machine.proofs.Copies.{entering}

abbrev g : Graph
g = passing (owned ∷ [])

abbrev s : Script
s = one_call

abbrev w0 : World
w0 = sink_world

abbrev w1 : World
w1 = record w0 {
  insts = record { table = (Add 1 (OwnHandle 1 7) ∷ []); sets = []; backpressure = 0 } ∷ new_inst ∷ [];
  tasks = new_task Init Nobody Exited ∷ record (new_task (Func (record { instance = 0; core = core_func 0 0; options = no_options; func_type = func_type [] None })) (Host 1 []) (AfterCall 2 1 (1 ∷ []))) { stacks = (Running (record { instance = 0; results = 0; locals = []; values = []; rest = End; labels = record { arity = 0; under = []; again = None; after = End } ∷ [] }) [] ∷ []) } ∷ new_task (Func (record { instance = 1; core = core_func 1 3; options = no_options; func_type = func_type ((leaves.Own 1) ∷ []) None })) (Guest (record { by = 1; canon = 1; words = (1 ∷ []); told = told.Starting; lends = []; result = [] })) New ∷ [];
  chain = 2 ∷ 1 ∷ [];
  control = Arrives;
  units = 5;
}

piece1 : far 7 g s w0 ≡ ((line.Do 1 builtin.ResourceNew (7 ∷ []) ∷ line.Got 1 (1 ∷ []) ∷ line.Do 1 builtin.Lower (1 ∷ []) ∷ line.Call 1 2 2 ∷ []), w1)
unfolding the_rules
piece1 = refl

abbrev w2 : World
w2 = record w0 {
  insts = record { table = (Remove 1 ∷ Add 1 (OwnHandle 1 7) ∷ []); sets = []; backpressure = 0 } ∷ new_inst ∷ [];
  tasks = new_task Init Nobody Exited ∷ record (new_task (Func (record { instance = 0; core = core_func 0 0; options = no_options; func_type = func_type [] None })) (Host 1 []) (AfterCall 2 1 (1 ∷ []))) { stacks = (Running (record { instance = 0; results = 0; locals = []; values = []; rest = End; labels = record { arity = 0; under = []; again = None; after = End } ∷ [] }) [] ∷ []) } ∷ new_task (Func (record { instance = 1; core = core_func 1 3; options = no_options; func_type = func_type ((leaves.Own 1) ∷ []) None })) (Guest (record { by = 1; canon = 1; words = (1 ∷ []); told = told.Starting; lends = []; result = [] })) Acting ∷ [];
  chain = 2 ∷ 1 ∷ [];
  control = Lowers (record { inst = 1; memory = None; realloc = None; acts_for = 2; blame = 2; next = Starts }) (field_words (Some (leaves.Own 1) ∷ []) ((lower_step (entries_by (defines g 1)) (V.Own (record { resource = 1; rep = 7 }))) ∷ []) [] (λ words. Gives words));
  units = 5;
}

piece2 : next g s w1 ≡ Steps (line.Enter 2 ∷ []) w2
unfolding the_rules
piece2 =
    ap (entering g w1) (one_passed 0 2 false (leaves.Own 1) (F.Own 1) None [] (1 ∷ []) (in_state 2 Acting (with_control Free w1)) refl (own_flat 1) (own_part (by_world 0 2) 1))
    ∙ ap (λ (p : Plan). Steps (line.Enter 2 ∷ []) (planned p w2)) (one_planned (entries_by (defines g 1)) (leaves.Own 1) None (plain.Own (record { resource = 1; rep = 7 })) (lower_step (entries_by (defines g 1)) (V.Own (record { resource = 1; rep = 7 }))) (ap (λ (c : List CoreType). nat_lt flat_param_limit (length (c ++ []))) (own_flat 1)) (own_lowered (entries_by (defines g 1)) (record { resource = 1; rep = 7 })))

abbrev w3 : World
w3 = record w0 {
  insts = record { table = (Remove 1 ∷ Add 1 (OwnHandle 1 7) ∷ []); sets = []; backpressure = 0 } ∷ record { table = (Remove 1 ∷ Add 1 (OwnHandle 1 7) ∷ []); sets = []; backpressure = 0 } ∷ [];
  tasks = new_task Init Nobody Exited ∷ record (new_task (Func (record { instance = 0; core = core_func 0 0; options = no_options; func_type = func_type [] None })) (Host 1 []) (AfterCall 2 1 (1 ∷ []))) { stacks = (Running (record { instance = 0; results = 0; locals = []; values = []; rest = End; labels = record { arity = 0; under = []; again = None; after = End } ∷ [] }) [] ∷ []) } ∷ record (new_task (Func (record { instance = 1; core = core_func 1 3; options = no_options; func_type = func_type ((leaves.Own 1) ∷ []) None })) (Guest (record { by = 1; canon = 1; words = (1 ∷ []); told = told.Starting; lends = []; result = [] })) Acting) { stacks = (Running (record { instance = 1; results = 0; locals = (1 ∷ []); values = []; rest = End; labels = record { arity = 0; under = []; again = None; after = End } ∷ [] }) [] ∷ []) } ∷ [];
  chain = 2 ∷ 1 ∷ [];
  control = Doomed 2 trap.Reentrant;
  units = 7;
}

piece3 : far 4 g s w2 ≡ ((line.Do 2 builtin.ResourceDrop (1 ∷ []) ∷ []), w3)
unfolding the_rules
piece3 = refl

pub sunk_shown : Shows (passing (owned ∷ [])) one_call sink_world sunk (Trapped 2 trap.Reentrant) 7
unfolding the_rules
sunk_shown =
    shows g s w0 w3 _ (Trapped 2 trap.Reentrant) 7
    (goes_on g s w0 w1 w3 _ _ (walked 7 g s w0 w1 _ piece1)
    (goes_on g s w1 w2 w3 _ _ (stepped g s w1 w2 _ piece2)
    (walked 4 g s w2 w3 _ piece3))) refl refl
