-- A call returns at once.
use Rattle.std.proofs.Common.{◌≡◌, ◌∙◌, true, [], ◌∷◌, ◌++◌, replicate, Some, None, refl, ap}
use Rattle.syntax_trees.specs.declared.instr.Instr.TheVariants.{Drop}
use Rattle.syntax_trees.specs.Expr.{End, Plain}
use Rattle.wasm_store.specs.Stack.{Running}
use Rattle.syntax_trees.specs.declared.types.ValType.TheOpen as F
use Rattle.syntax_trees.specs.declared.types.ValType.TheVariants as leaves
use Rattle.syntax_trees.specs.declared.value.Value.TheOpen as V
use Rattle.syntax_trees.specs.declared.value.Value.TheVariants as plain
use Rattle.tasks.specs.declared.phase.Resolution.TheVariants.{Returned}
use Rattle.tasks.specs.declared.subtask_state.SubtaskState.TheVariants as told
use Rattle.comp_graph.specs.Graph.{Graph, no_options}
use Rattle.script_reader.specs.Script.{Script}
use Rattle.trace_labels.specs.declared.builtin.Builtin.TheVariants as builtin
use Rattle.trace_labels.specs.declared.label.Label.TheVariants as line
use Rattle.abi_machine.specs.declared.run_end.RunEnd.TheVariants.{Done}
use Rattle.abi_machine.specs.LoweringOver.{Plan, Gives, lower_step, tested}
use Rattle.abi_machine.specs.Control.{Free, Calls, Arrives, Lowers, Starts, Resolves, Replies}
use Rattle.abi_machine.specs.World.{Init, Func, Nobody, Host, Guest, New, Acting, AfterCall, Exited, World, new_task}
use Rattle.abi_machine.specs.Edits.{with_control, in_state}
use Rattle.abi_machine.specs.Canons.{bytes_of, defines}
use Rattle.abi_machine.specs.Turn.{Steps, behind}
use Rattle.abi_machine.specs.Lifting.{by_world}
use Rattle.abi_machine.specs.Passing.{last_of}
use Rattle.abi_machine.specs.Pausing.{entries_by}
use Rattle.abi_machine.specs.Next.{next}
use Rattle.abi_machine.specs.examples.Parts.{func_type, number, core_func, one_call, Leaves}
use Rattle.abi_machine.specs.examples.Subtasks.{at_once, at_once_bytes, at_once_world, returned_at_once}
use Rattle.abi_machine.proofs.Rules.{the_rules}
use Rattle.abi_machine.proofs.Walks.{far, walked, stepped, goes_on, leaves, planned, the_task, the_func}
use Rattle.abi_machine.proofs.Layers.{u32_flat, u32_laid, u32_same, u32_part, u32_lowered}
use Rattle.abi_machine.proofs.Passed.{none_passed, result_passed_as, none_planned, result_placed}
use Rattle.abi_machine.proofs.Copies.{entering, returning, returns_as}

abbrev g : Graph
g = at_once

abbrev s : Script
s = one_call

abbrev w0 : World
w0 = at_once_world

abbrev w1 : World
w1 = record w0 {
  tasks = new_task Init Nobody Exited ∷ record (new_task (Func (record { instance = 0; core = core_func 0 0; options = no_options; func_type = func_type [] None })) (Host 1 []) (AfterCall 2 0 (64 ∷ []))) { stacks = (Running (record { instance = 0; results = 0; locals = []; values = []; rest = (Plain Drop End); labels = record { arity = 0; under = []; again = None; after = End } ∷ [] }) [] ∷ []) } ∷ new_task (Func (record { instance = 1; core = core_func 1 2; options = (record no_options { callback = Some (core_func 1 3); is_async = true }); func_type = func_type [] (Some leaves.U32) })) (Guest (record { by = 1; canon = 0; words = (64 ∷ []); told = told.Starting; lends = []; result = [] })) New ∷ [];
  chain = 2 ∷ 1 ∷ [];
  control = Arrives;
  units = 2;
}

piece1 : far 3 g s w0 ≡ ((line.Do 1 builtin.Lower (64 ∷ []) ∷ line.Call 1 2 2 ∷ []), w1)
unfolding the_rules
piece1 = refl

abbrev w2 : World
w2 = record w0 {
  tasks = new_task Init Nobody Exited ∷ record (new_task (Func (record { instance = 0; core = core_func 0 0; options = no_options; func_type = func_type [] None })) (Host 1 []) (AfterCall 2 0 (64 ∷ []))) { stacks = (Running (record { instance = 0; results = 0; locals = []; values = []; rest = (Plain Drop End); labels = record { arity = 0; under = []; again = None; after = End } ∷ [] }) [] ∷ []) } ∷ new_task (Func (record { instance = 1; core = core_func 1 2; options = (record no_options { callback = Some (core_func 1 3); is_async = true }); func_type = func_type [] (Some leaves.U32) })) (Guest (record { by = 1; canon = 0; words = (64 ∷ []); told = told.Starting; lends = []; result = [] })) Acting ∷ [];
  chain = 2 ∷ 1 ∷ [];
  control = Lowers (record { inst = 1; memory = None; realloc = None; acts_for = 2; blame = 2; next = Starts }) (Gives []);
  units = 2;
}

piece2 : next g s w1 ≡ Steps (line.Enter 2 ∷ []) w2
unfolding the_rules
piece2 =
    ap (entering g w1) (none_passed 0 2 true (Some leaves.U32) (bytes_of w1.store (Some 0)) (64 ∷ []) (in_state 2 Acting (with_control Free w1)) refl)
    ∙ ap (λ (p : Plan). Steps (line.Enter 2 ∷ []) (planned p w2)) (none_planned (entries_by (defines g 1)) (Some leaves.U32))

abbrev w3 : World
w3 = record w0 {
  tasks = new_task Init Nobody Exited ∷ record (new_task (Func (record { instance = 0; core = core_func 0 0; options = no_options; func_type = func_type [] None })) (Host 1 []) (AfterCall 2 0 (64 ∷ []))) { stacks = (Running (record { instance = 0; results = 0; locals = []; values = []; rest = (Plain Drop End); labels = record { arity = 0; under = []; again = None; after = End } ∷ [] }) [] ∷ []) } ∷ record (new_task (Func (record { instance = 1; core = core_func 1 2; options = (record no_options { callback = Some (core_func 1 3); is_async = true }); func_type = func_type [] (Some leaves.U32) })) (Guest (record { by = 1; canon = 0; words = (64 ∷ []); told = told.Starting; lends = []; result = [] })) Acting) { stacks = (Running (record { instance = 1; results = 1; locals = []; values = []; rest = (number 0 End); labels = record { arity = 1; under = []; again = None; after = End } ∷ [] }) [] ∷ []) } ∷ [];
  chain = 2 ∷ 1 ∷ [];
  control = Calls 1 (7 ∷ []);
  units = 4;
}

piece3 : far 3 g s w2 ≡ ([], w3)
unfolding the_rules
piece3 = refl

abbrev w4 : World
w4 = record w0 {
  tasks = new_task Init Nobody Exited ∷ record (new_task (Func (record { instance = 0; core = core_func 0 0; options = no_options; func_type = func_type [] None })) (Host 1 []) (AfterCall 2 0 (64 ∷ []))) { stacks = (Running (record { instance = 0; results = 0; locals = []; values = []; rest = (Plain Drop End); labels = record { arity = 0; under = []; again = None; after = End } ∷ [] }) [] ∷ []) } ∷ record (new_task (Func (record { instance = 1; core = core_func 1 2; options = (record no_options { callback = Some (core_func 1 3); is_async = true }); func_type = func_type [] (Some leaves.U32) })) (Guest (record { by = 1; canon = 0; words = (64 ∷ []); told = told.Starting; lends = []; result = [] })) Acting) { stacks = (Running (record { instance = 1; results = 1; locals = []; values = []; rest = (number 0 End); labels = record { arity = 1; under = []; again = None; after = End } ∷ [] }) [] ∷ []); resolution = Some Returned } ∷ [];
  chain = 2 ∷ 1 ∷ [];
  control = Lowers (record { inst = 0; memory = Some 0; realloc = None; acts_for = 1; blame = 2; next = Resolves 2 Replies }) (tested (last_of (64 ∷ [])) 4 4 ((lower_step (entries_by (defines g 0)) (V.U32 7)).store leaves.U32 (last_of (64 ∷ [])) (Gives [])));
  units = 4;
}

piece4 : next g s w3 ≡ Steps (line.Do 2 builtin.TaskReturn (7 ∷ []) ∷ line.Return 2 (Some (record { value = (plain.U32 7); val_type = leaves.U32 })) ∷ []) w4
unfolding the_rules
piece4 =
    ap (behind (line.Do 2 builtin.TaskReturn (7 ∷ []) ∷ [])) (returns_as g 2 (the_task w3) 1 leaves.U32 no_options (7 ∷ []) (with_control Free w3) (the_func w3) refl refl u32_same refl)
    ∙ ap (returning g w3 (line.Do 2 builtin.TaskReturn (7 ∷ []) ∷ []) leaves.U32) (result_passed_as 1 2 16 leaves.U32 F.U32 [] (7 ∷ []) (with_control Free w3) refl u32_flat (u32_part (by_world 1 2)))
    ∙ ap (λ (p : Plan). Steps (line.Do 2 builtin.TaskReturn (7 ∷ []) ∷ line.Return 2 (Some (record { value = (plain.U32 7); val_type = leaves.U32 })) ∷ []) (planned p w4)) (result_placed (entries_by (defines g 0)) leaves.U32 (plain.U32 7) (64 ∷ []) (record { size = 4; align = 4 }) (lower_step (entries_by (defines g 0)) (V.U32 7)) u32_laid (u32_lowered (entries_by (defines g 0)) 7))

abbrev w5 : World
w5 = record w0 {
  store = record w0.store { memories = record { bytes = (replicate 64 0 ++ (7 ∷ 0 ∷ 0 ∷ 0 ∷ [])); maximum = None } ∷ record { bytes = []; maximum = None } ∷ [] };
  tasks = new_task Init Nobody Exited ∷ record (new_task (Func (record { instance = 0; core = core_func 0 0; options = no_options; func_type = func_type [] None })) (Host 1 []) Exited) { resolution = Some Returned } ∷ record (new_task (Func (record { instance = 1; core = core_func 1 2; options = (record no_options { callback = Some (core_func 1 3); is_async = true }); func_type = func_type [] (Some leaves.U32) })) (Guest (record { by = 1; canon = 0; words = (64 ∷ []); told = told.Returned; lends = []; result = [] })) Exited) { resolution = Some Returned } ∷ [];
  chain = [];
  control = Free;
  units = 6;
}

piece5 : far 10 g s w4 ≡ ((line.Got 2 [] ∷ line.Exit 2 ∷ line.Got 1 (2 ∷ []) ∷ line.Return 1 None ∷ line.Exit 1 ∷ []), w5)
unfolding the_rules
piece5 = refl

pub at_once_shown : Leaves at_once one_call at_once_world returned_at_once Done 6 ([] ∷ [] ∷ []) at_once_bytes
unfolding the_rules
at_once_shown =
    leaves g s w0 w5 _ Done 6 _ _
    (goes_on g s w0 w1 w5 _ _ (walked 3 g s w0 w1 _ piece1)
    (goes_on g s w1 w2 w5 _ _ (stepped g s w1 w2 _ piece2)
    (goes_on g s w2 w3 w5 _ _ (walked 3 g s w2 w3 _ piece3)
    (goes_on g s w3 w4 w5 _ _ (stepped g s w3 w4 _ piece4)
    (walked 10 g s w4 w5 _ piece5))))) refl refl refl refl
