-- A call is awaited in a set.
use Rattle.std.proofs.Common.{◌≡◌, ◌∙◌, true, [], ◌∷◌, ◌++◌, replicate, Some, None, refl, ap}
use Rattle.syntax_trees.specs.declared.instr.Instr.TheVariants.{Drop}
use Rattle.syntax_trees.specs.declared.instr.Instr.TheVariants as instr
use Rattle.syntax_trees.specs.Expr.{End, Plain}
use Rattle.wasm_store.specs.Stack.{Running}
use Rattle.syntax_trees.specs.declared.types.ValType.TheOpen as F
use Rattle.syntax_trees.specs.declared.types.ValType.TheVariants as leaves
use Rattle.syntax_trees.specs.declared.value.Value.TheOpen as V
use Rattle.syntax_trees.specs.declared.value.Value.TheVariants as plain
use Rattle.handle_table.specs.History.{Add}
use Rattle.tasks.specs.declared.phase.Resolution.TheVariants.{Returned}
use Rattle.tasks.specs.declared.subtask_state.SubtaskState.TheVariants as told
use Rattle.comp_graph.specs.Graph.{Graph, no_options}
use Rattle.script_reader.specs.Script.{Script}
use Rattle.trace_labels.specs.declared.builtin.Builtin.TheVariants as builtin
use Rattle.trace_labels.specs.declared.label.BlockReason.TheVariants as reason
use Rattle.trace_labels.specs.declared.label.Label.TheVariants as line
use Rattle.abi_machine.specs.declared.run_end.RunEnd.TheVariants.{Done}
use Rattle.abi_machine.specs.LoweringOver.{Plan, Gives, lower_step, tested}
use Rattle.abi_machine.specs.Control.{Free, Calls, Arrives, Lowers, Resumes, Starts, Resolves, Replies}
use Rattle.abi_machine.specs.World.{OfSubtask, OfSet, Init, Func, Nobody, Host, Guest, ForYield, ForSet, New, Acting, AfterCall, InBuiltin, Exited, World, new_inst, new_task}
use Rattle.abi_machine.specs.Edits.{with_control, in_state}
use Rattle.abi_machine.specs.Canons.{bytes_of, defines}
use Rattle.abi_machine.specs.Turn.{Steps, behind}
use Rattle.abi_machine.specs.Lifting.{by_world}
use Rattle.abi_machine.specs.Passing.{last_of}
use Rattle.abi_machine.specs.Pausing.{entries_by}
use Rattle.abi_machine.specs.Next.{next}
use Rattle.abi_machine.specs.examples.Parts.{func_type, number, core_func, asynchronous, run_name, one_call, Leaves}
use Rattle.abi_machine.specs.examples.Subtasks.{awaited, awaited_bytes, awaited_tables, working, working_world}
use Rattle.abi_machine.proofs.Rules.{the_rules}
use Rattle.abi_machine.proofs.Walks.{far, walked, stepped, goes_on, leaves, planned, the_task, the_func}
use Rattle.abi_machine.proofs.Layers.{u32_flat, u32_laid, u32_same, u32_part, u32_lowered}
use Rattle.abi_machine.proofs.Passed.{none_passed, result_passed_as, none_planned, result_placed}
use Rattle.abi_machine.proofs.Copies.{entering, returning, returns_as}

abbrev g : Graph
g = working

abbrev s : Script
s = one_call

abbrev w0 : World
w0 = working_world

abbrev w1 : World
w1 = record w0 {
  tasks = new_task Init Nobody Exited ∷ new_task (Func (record { instance = 0; core = core_func 0 8; options = asynchronous; func_type = func_type [] None })) (Host 1 []) Acting ∷ [];
  chain = 1 ∷ [];
  control = Lowers (record { inst = 0; memory = None; realloc = None; acts_for = 1; blame = 1; next = Starts }) (Gives []);
  units = 1;
  taken = 1;
}

piece1 : far 2 g s w0 ≡ ((line.Take 1 1 run_name [] ∷ line.Enter 1 ∷ []), w1)
unfolding the_rules
piece1 = ap (λ (p : Plan). ((line.Take 1 1 run_name [] ∷ line.Enter 1 ∷ []), planned p w1)) (none_planned (entries_by (defines g 0)) None)

abbrev w2 : World
w2 = record w0 {
  insts = record { table = (Add 1 (OfSet 0) ∷ []); sets = ([] ∷ []); backpressure = 0 } ∷ new_inst ∷ [];
  tasks = new_task Init Nobody Exited ∷ record (new_task (Func (record { instance = 0; core = core_func 0 8; options = asynchronous; func_type = func_type [] None })) (Host 1 []) (AfterCall 2 1 (64 ∷ []))) { stacks = (Running (record { instance = 0; results = 0; locals = []; values = []; rest = (Plain Drop (number 2 (number 1 (Plain (instr.Call 2) (number 1 (number 0 (Plain (instr.Call 3) (Plain Drop (Plain (instr.Call 4) End))))))))); labels = record { arity = 0; under = []; again = None; after = End } ∷ [] }) [] ∷ []) } ∷ new_task (Func (record { instance = 1; core = core_func 1 7; options = asynchronous; func_type = func_type [] (Some leaves.U32) })) (Guest (record { by = 1; canon = 1; words = (64 ∷ []); told = told.Starting; lends = []; result = [] })) New ∷ [];
  chain = 2 ∷ 1 ∷ [];
  control = Arrives;
  units = 5;
  taken = 1;
}

piece2 : far 7 g s w1 ≡ ((line.Do 1 builtin.WaitableSetNew [] ∷ line.Got 1 (1 ∷ []) ∷ line.Do 1 builtin.Lower (64 ∷ []) ∷ line.Call 1 2 2 ∷ []), w2)
unfolding the_rules
piece2 = refl

abbrev w3 : World
w3 = record w0 {
  insts = record { table = (Add 1 (OfSet 0) ∷ []); sets = ([] ∷ []); backpressure = 0 } ∷ new_inst ∷ [];
  tasks = new_task Init Nobody Exited ∷ record (new_task (Func (record { instance = 0; core = core_func 0 8; options = asynchronous; func_type = func_type [] None })) (Host 1 []) (AfterCall 2 1 (64 ∷ []))) { stacks = (Running (record { instance = 0; results = 0; locals = []; values = []; rest = (Plain Drop (number 2 (number 1 (Plain (instr.Call 2) (number 1 (number 0 (Plain (instr.Call 3) (Plain Drop (Plain (instr.Call 4) End))))))))); labels = record { arity = 0; under = []; again = None; after = End } ∷ [] }) [] ∷ []) } ∷ new_task (Func (record { instance = 1; core = core_func 1 7; options = asynchronous; func_type = func_type [] (Some leaves.U32) })) (Guest (record { by = 1; canon = 1; words = (64 ∷ []); told = told.Starting; lends = []; result = [] })) Acting ∷ [];
  chain = 2 ∷ 1 ∷ [];
  control = Lowers (record { inst = 1; memory = None; realloc = None; acts_for = 2; blame = 2; next = Starts }) (Gives []);
  units = 5;
  taken = 1;
}

piece3 : next g s w2 ≡ Steps (line.Enter 2 ∷ []) w3
unfolding the_rules
piece3 =
    ap (entering g w2) (none_passed 0 2 true (Some leaves.U32) (bytes_of w2.store (Some 0)) (64 ∷ []) (in_state 2 Acting (with_control Free w2)) refl)
    ∙ ap (λ (p : Plan). Steps (line.Enter 2 ∷ []) (planned p w3)) (none_planned (entries_by (defines g 1)) (Some leaves.U32))

abbrev w4 : World
w4 = record w0 {
  insts = record { table = (Add 2 (OfSubtask 2) ∷ Add 1 (OfSet 0) ∷ []); sets = ((2 ∷ []) ∷ []); backpressure = 0 } ∷ new_inst ∷ [];
  tasks = new_task Init Nobody Exited ∷ record (new_task (Func (record { instance = 0; core = core_func 0 8; options = asynchronous; func_type = func_type [] None })) (Host 1 []) (InBuiltin 3 (1 ∷ 0 ∷ []) (ForSet 1))) { stacks = (Running (record { instance = 0; results = 0; locals = []; values = []; rest = (Plain Drop (Plain (instr.Call 4) End)); labels = record { arity = 0; under = []; again = None; after = End } ∷ [] }) [] ∷ []) } ∷ record (new_task (Func (record { instance = 1; core = core_func 1 7; options = asynchronous; func_type = func_type [] (Some leaves.U32) })) (Guest (record { by = 1; canon = 1; words = (64 ∷ []); told = told.Started; lends = []; result = [] })) (InBuiltin 5 [] ForYield)) { stacks = (Running (record { instance = 1; results = 0; locals = []; values = []; rest = (Plain Drop (number 7 (Plain (instr.Call 6) End))); labels = record { arity = 0; under = []; again = None; after = End } ∷ [] }) [] ∷ []) } ∷ [];
  chain = 2 ∷ [];
  control = Resumes;
  units = 14;
  taken = 1;
}

piece4 : far 14 g s w3 ≡ ((line.Do 2 builtin.Yield [] ∷ line.Block 2 reason.Yield ∷ line.Got 1 (33 ∷ []) ∷ line.Do 1 builtin.WaitableJoin (2 ∷ 1 ∷ []) ∷ line.Got 1 [] ∷ line.Do 1 builtin.WaitableSetWait (1 ∷ 0 ∷ []) ∷ line.Block 1 (reason.Wait 1) ∷ line.Go 2 ∷ []), w4)
unfolding the_rules
piece4 = refl

abbrev w5 : World
w5 = record w0 {
  insts = record { table = (Add 2 (OfSubtask 2) ∷ Add 1 (OfSet 0) ∷ []); sets = ((2 ∷ []) ∷ []); backpressure = 0 } ∷ new_inst ∷ [];
  tasks = new_task Init Nobody Exited ∷ record (new_task (Func (record { instance = 0; core = core_func 0 8; options = asynchronous; func_type = func_type [] None })) (Host 1 []) (InBuiltin 3 (1 ∷ 0 ∷ []) (ForSet 1))) { stacks = (Running (record { instance = 0; results = 0; locals = []; values = []; rest = (Plain Drop (Plain (instr.Call 4) End)); labels = record { arity = 0; under = []; again = None; after = End } ∷ [] }) [] ∷ []) } ∷ record (new_task (Func (record { instance = 1; core = core_func 1 7; options = asynchronous; func_type = func_type [] (Some leaves.U32) })) (Guest (record { by = 1; canon = 1; words = (64 ∷ []); told = told.Started; lends = []; result = [] })) Acting) { stacks = (Running (record { instance = 1; results = 0; locals = []; values = []; rest = End; labels = record { arity = 0; under = []; again = None; after = End } ∷ [] }) [] ∷ []) } ∷ [];
  chain = 2 ∷ [];
  control = Calls 6 (7 ∷ []);
  units = 17;
  taken = 1;
}

piece5 : far 4 g s w4 ≡ ((line.Got 2 (0 ∷ []) ∷ []), w5)
unfolding the_rules
piece5 = refl

abbrev w6 : World
w6 = record w0 {
  insts = record { table = (Add 2 (OfSubtask 2) ∷ Add 1 (OfSet 0) ∷ []); sets = ((2 ∷ []) ∷ []); backpressure = 0 } ∷ new_inst ∷ [];
  tasks = new_task Init Nobody Exited ∷ record (new_task (Func (record { instance = 0; core = core_func 0 8; options = asynchronous; func_type = func_type [] None })) (Host 1 []) (InBuiltin 3 (1 ∷ 0 ∷ []) (ForSet 1))) { stacks = (Running (record { instance = 0; results = 0; locals = []; values = []; rest = (Plain Drop (Plain (instr.Call 4) End)); labels = record { arity = 0; under = []; again = None; after = End } ∷ [] }) [] ∷ []) } ∷ record (new_task (Func (record { instance = 1; core = core_func 1 7; options = asynchronous; func_type = func_type [] (Some leaves.U32) })) (Guest (record { by = 1; canon = 1; words = (64 ∷ []); told = told.Started; lends = []; result = [] })) Acting) { stacks = (Running (record { instance = 1; results = 0; locals = []; values = []; rest = End; labels = record { arity = 0; under = []; again = None; after = End } ∷ [] }) [] ∷ []); resolution = Some Returned } ∷ [];
  chain = 2 ∷ [];
  control = Lowers (record { inst = 0; memory = Some 0; realloc = None; acts_for = 1; blame = 2; next = Resolves 2 Replies }) (tested (last_of (64 ∷ [])) 4 4 ((lower_step (entries_by (defines g 0)) (V.U32 7)).store leaves.U32 (last_of (64 ∷ [])) (Gives [])));
  units = 17;
  taken = 1;
}

piece6 : next g s w5 ≡ Steps (line.Do 2 builtin.TaskReturn (7 ∷ []) ∷ line.Return 2 (Some (record { value = (plain.U32 7); val_type = leaves.U32 })) ∷ []) w6
unfolding the_rules
piece6 =
    ap (behind (line.Do 2 builtin.TaskReturn (7 ∷ []) ∷ [])) (returns_as g 2 (the_task w5) 1 leaves.U32 no_options (7 ∷ []) (with_control Free w5) (the_func w5) refl refl u32_same refl)
    ∙ ap (returning g w5 (line.Do 2 builtin.TaskReturn (7 ∷ []) ∷ []) leaves.U32) (result_passed_as 1 2 16 leaves.U32 F.U32 [] (7 ∷ []) (with_control Free w5) refl u32_flat (u32_part (by_world 1 2)))
    ∙ ap (λ (p : Plan). Steps (line.Do 2 builtin.TaskReturn (7 ∷ []) ∷ line.Return 2 (Some (record { value = (plain.U32 7); val_type = leaves.U32 })) ∷ []) (planned p w6)) (result_placed (entries_by (defines g 0)) leaves.U32 (plain.U32 7) (64 ∷ []) (record { size = 4; align = 4 }) (lower_step (entries_by (defines g 0)) (V.U32 7)) u32_laid (u32_lowered (entries_by (defines g 0)) 7))

abbrev w7 : World
w7 = record w0 {
  store = record w0.store { memories = record { bytes = ((2 ∷ 0 ∷ 0 ∷ 0 ∷ 2 ∷ []) ++ replicate 59 0 ++ (7 ∷ 0 ∷ 0 ∷ 0 ∷ [])); maximum = None } ∷ record { bytes = []; maximum = None } ∷ [] };
  insts = record { table = (Add 2 (OfSubtask 2) ∷ Add 1 (OfSet 0) ∷ []); sets = ((2 ∷ []) ∷ []); backpressure = 0 } ∷ new_inst ∷ [];
  tasks = new_task Init Nobody Exited ∷ record (new_task (Func (record { instance = 0; core = core_func 0 8; options = asynchronous; func_type = func_type [] None })) (Host 1 []) Exited) { resolution = Some Returned } ∷ record (new_task (Func (record { instance = 1; core = core_func 1 7; options = asynchronous; func_type = func_type [] (Some leaves.U32) })) (Guest (record { by = 1; canon = 1; words = (64 ∷ []); told = told.Returned; lends = []; result = [] })) Exited) { resolution = Some Returned } ∷ [];
  units = 20;
  taken = 1;
}

piece7 : far 13 g s w6 ≡ ((line.Got 2 [] ∷ line.Exit 2 ∷ line.Go 1 ∷ line.Event 1 1 2 2 ∷ line.Got 1 (1 ∷ []) ∷ line.Do 1 builtin.TaskReturn [] ∷ line.Return 1 None ∷ line.Got 1 [] ∷ line.Exit 1 ∷ []), w7)
unfolding the_rules
piece7 = refl

pub awaited_shown : Leaves working one_call working_world awaited Done 20 awaited_tables awaited_bytes
unfolding the_rules
awaited_shown =
    leaves g s w0 w7 _ Done 20 _ _
    (goes_on g s w0 w1 w7 _ _ (walked 2 g s w0 w1 _ piece1)
    (goes_on g s w1 w2 w7 _ _ (walked 7 g s w1 w2 _ piece2)
    (goes_on g s w2 w3 w7 _ _ (stepped g s w2 w3 _ piece3)
    (goes_on g s w3 w4 w7 _ _ (walked 14 g s w3 w4 _ piece4)
    (goes_on g s w4 w5 w7 _ _ (walked 4 g s w4 w5 _ piece5)
    (goes_on g s w5 w6 w7 _ _ (stepped g s w5 w6 _ piece6)
    (walked 13 g s w6 w7 _ piece7))))))) refl refl refl refl
