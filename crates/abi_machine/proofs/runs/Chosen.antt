-- A pick among three, and none among two.
use Rattle.std.proofs.Common.{◌≡◌, ◌∙◌, true, [], ◌∷◌, ◌++◌, replicate, Some, None, refl, ap}
use Rattle.syntax_trees.specs.declared.instr.Instr.TheVariants.{Drop}
use Rattle.syntax_trees.specs.declared.instr.Instr.TheVariants as instr
use Rattle.syntax_trees.specs.Expr.{End, Plain}
use Rattle.wasm_store.specs.Stack.{Running}
use Rattle.syntax_trees.specs.declared.types.ValType.TheOpen as F
use Rattle.syntax_trees.specs.declared.types.ValType.TheVariants as leaves
use Rattle.syntax_trees.specs.declared.value.Value.TheOpen as V
use Rattle.syntax_trees.specs.declared.value.Value.TheVariants as plain
use Rattle.handle_table.specs.History.{Add}
use Rattle.tasks.specs.declared.phase.Resolution.TheVariants.{Returned}
use Rattle.tasks.specs.declared.subtask_state.SubtaskState.TheVariants as told
use Rattle.comp_graph.specs.Graph.{Graph, no_options}
use Rattle.script_reader.specs.Script.{Script}
use Rattle.trace_labels.specs.declared.builtin.Builtin.TheVariants as builtin
use Rattle.trace_labels.specs.declared.label.BlockReason.TheVariants as reason
use Rattle.trace_labels.specs.declared.label.Label.TheVariants as line
use Rattle.abi_machine.specs.declared.run_end.RunEnd.TheVariants.{Done}
use Rattle.abi_machine.specs.LoweringOver.{Plan, Gives, lower_step, tested}
use Rattle.abi_machine.specs.Control.{Free, Calls, Arrives, Lowers, Starts, Resolves, Replies}
use Rattle.abi_machine.specs.World.{OfSubtask, Init, Func, Nobody, Host, Guest, ForYield, New, Acting, AfterCall, InBuiltin, Exited, World, new_inst, new_task}
use Rattle.abi_machine.specs.Edits.{with_control, in_state}
use Rattle.abi_machine.specs.Canons.{bytes_of, defines}
use Rattle.abi_machine.specs.Turn.{Steps, behind}
use Rattle.abi_machine.specs.Lifting.{by_world}
use Rattle.abi_machine.specs.Passing.{last_of}
use Rattle.abi_machine.specs.Pausing.{entries_by}
use Rattle.abi_machine.specs.Next.{next}
use Rattle.abi_machine.specs.examples.Parts.{func_type, number, core_func, asynchronous, Shows}
use Rattle.abi_machine.specs.examples.Subtasks.{choosing, choosing_world, chosen, nop_name, picking}
use Rattle.abi_machine.proofs.Rules.{the_rules}
use Rattle.abi_machine.proofs.Walks.{far, walked, stepped, goes_on, shows, planned, the_task, the_func}
use Rattle.abi_machine.proofs.Layers.{u32_flat, u32_laid, u32_same, u32_part, u32_lowered}
use Rattle.abi_machine.proofs.Passed.{none_passed, result_passed_as, none_planned, result_placed}
use Rattle.abi_machine.proofs.Copies.{entering, returning, returns_as}

abbrev g : Graph
g = choosing

abbrev s : Script
s = picking

abbrev w0 : World
w0 = choosing_world

abbrev w1 : World
w1 = record w0 {
  tasks = new_task Init Nobody Exited ∷ record (new_task (Func (record { instance = 0; core = core_func 0 0; options = no_options; func_type = func_type [] None })) (Host 1 []) (AfterCall 2 0 (64 ∷ []))) { stacks = (Running (record { instance = 0; results = 0; locals = []; values = []; rest = (Plain Drop (number 68 (Plain (instr.Call 0) (Plain Drop End)))); labels = record { arity = 0; under = []; again = None; after = End } ∷ [] }) [] ∷ []) } ∷ new_task (Func (record { instance = 1; core = core_func 1 3; options = asynchronous; func_type = func_type [] (Some leaves.U32) })) (Guest (record { by = 1; canon = 0; words = (64 ∷ []); told = told.Starting; lends = []; result = [] })) New ∷ [];
  chain = 2 ∷ 1 ∷ [];
  control = Arrives;
  units = 2;
}

piece1 : far 3 g s w0 ≡ ((line.Do 1 builtin.Lower (64 ∷ []) ∷ line.Call 1 2 2 ∷ []), w1)
unfolding the_rules
piece1 = refl

abbrev w2 : World
w2 = record w0 {
  tasks = new_task Init Nobody Exited ∷ record (new_task (Func (record { instance = 0; core = core_func 0 0; options = no_options; func_type = func_type [] None })) (Host 1 []) (AfterCall 2 0 (64 ∷ []))) { stacks = (Running (record { instance = 0; results = 0; locals = []; values = []; rest = (Plain Drop (number 68 (Plain (instr.Call 0) (Plain Drop End)))); labels = record { arity = 0; under = []; again = None; after = End } ∷ [] }) [] ∷ []) } ∷ new_task (Func (record { instance = 1; core = core_func 1 3; options = asynchronous; func_type = func_type [] (Some leaves.U32) })) (Guest (record { by = 1; canon = 0; words = (64 ∷ []); told = told.Starting; lends = []; result = [] })) Acting ∷ [];
  chain = 2 ∷ 1 ∷ [];
  control = Lowers (record { inst = 1; memory = None; realloc = None; acts_for = 2; blame = 2; next = Starts }) (Gives []);
  units = 2;
}

piece2 : next g s w1 ≡ Steps (line.Enter 2 ∷ []) w2
unfolding the_rules
piece2 =
    ap (entering g w1) (none_passed 0 2 true (Some leaves.U32) (bytes_of w1.store (Some 0)) (64 ∷ []) (in_state 2 Acting (with_control Free w1)) refl)
    ∙ ap (λ (p : Plan). Steps (line.Enter 2 ∷ []) (planned p w2)) (none_planned (entries_by (defines g 1)) (Some leaves.U32))

abbrev w3 : World
w3 = record w0 {
  insts = record { table = (Add 1 (OfSubtask 2) ∷ []); sets = []; backpressure = 0 } ∷ new_inst ∷ [];
  tasks = new_task Init Nobody Exited ∷ record (new_task (Func (record { instance = 0; core = core_func 0 0; options = no_options; func_type = func_type [] None })) (Host 1 []) (AfterCall 3 0 (68 ∷ []))) { stacks = (Running (record { instance = 0; results = 0; locals = []; values = []; rest = (Plain Drop End); labels = record { arity = 0; under = []; again = None; after = End } ∷ [] }) [] ∷ []) } ∷ record (new_task (Func (record { instance = 1; core = core_func 1 3; options = asynchronous; func_type = func_type [] (Some leaves.U32) })) (Guest (record { by = 1; canon = 0; words = (64 ∷ []); told = told.Started; lends = []; result = [] })) (InBuiltin 1 [] ForYield)) { stacks = (Running (record { instance = 1; results = 0; locals = []; values = []; rest = (Plain Drop (number 7 (Plain (instr.Call 2) End))); labels = record { arity = 0; under = []; again = None; after = End } ∷ [] }) [] ∷ []) } ∷ new_task (Func (record { instance = 1; core = core_func 1 3; options = asynchronous; func_type = func_type [] (Some leaves.U32) })) (Guest (record { by = 1; canon = 0; words = (68 ∷ []); told = told.Starting; lends = []; result = [] })) New ∷ [];
  chain = 3 ∷ 1 ∷ [];
  control = Arrives;
  units = 6;
}

piece3 : far 8 g s w2 ≡ ((line.Do 2 builtin.Yield [] ∷ line.Block 2 reason.Yield ∷ line.Got 1 (17 ∷ []) ∷ line.Do 1 builtin.Lower (68 ∷ []) ∷ line.Call 1 3 2 ∷ []), w3)
unfolding the_rules
piece3 = refl

abbrev w4 : World
w4 = record w0 {
  insts = record { table = (Add 1 (OfSubtask 2) ∷ []); sets = []; backpressure = 0 } ∷ new_inst ∷ [];
  tasks = new_task Init Nobody Exited ∷ record (new_task (Func (record { instance = 0; core = core_func 0 0; options = no_options; func_type = func_type [] None })) (Host 1 []) (AfterCall 3 0 (68 ∷ []))) { stacks = (Running (record { instance = 0; results = 0; locals = []; values = []; rest = (Plain Drop End); labels = record { arity = 0; under = []; again = None; after = End } ∷ [] }) [] ∷ []) } ∷ record (new_task (Func (record { instance = 1; core = core_func 1 3; options = asynchronous; func_type = func_type [] (Some leaves.U32) })) (Guest (record { by = 1; canon = 0; words = (64 ∷ []); told = told.Started; lends = []; result = [] })) (InBuiltin 1 [] ForYield)) { stacks = (Running (record { instance = 1; results = 0; locals = []; values = []; rest = (Plain Drop (number 7 (Plain (instr.Call 2) End))); labels = record { arity = 0; under = []; again = None; after = End } ∷ [] }) [] ∷ []) } ∷ new_task (Func (record { instance = 1; core = core_func 1 3; options = asynchronous; func_type = func_type [] (Some leaves.U32) })) (Guest (record { by = 1; canon = 0; words = (68 ∷ []); told = told.Starting; lends = []; result = [] })) Acting ∷ [];
  chain = 3 ∷ 1 ∷ [];
  control = Lowers (record { inst = 1; memory = None; realloc = None; acts_for = 3; blame = 3; next = Starts }) (Gives []);
  units = 6;
}

piece4 : next g s w3 ≡ Steps (line.Enter 3 ∷ []) w4
unfolding the_rules
piece4 =
    ap (entering g w3) (none_passed 0 3 true (Some leaves.U32) (bytes_of w3.store (Some 0)) (68 ∷ []) (in_state 3 Acting (with_control Free w3)) refl)
    ∙ ap (λ (p : Plan). Steps (line.Enter 3 ∷ []) (planned p w4)) (none_planned (entries_by (defines g 1)) (Some leaves.U32))

abbrev w5 : World
w5 = record w0 {
  insts = record { table = (Add 2 (OfSubtask 3) ∷ Add 1 (OfSubtask 2) ∷ []); sets = []; backpressure = 0 } ∷ new_inst ∷ [];
  tasks = new_task Init Nobody Exited ∷ record (new_task (Func (record { instance = 0; core = core_func 0 0; options = no_options; func_type = func_type [] None })) (Host 1 []) Exited) { resolution = Some Returned } ∷ record (new_task (Func (record { instance = 1; core = core_func 1 3; options = asynchronous; func_type = func_type [] (Some leaves.U32) })) (Guest (record { by = 1; canon = 0; words = (64 ∷ []); told = told.Started; lends = []; result = [] })) Acting) { stacks = (Running (record { instance = 1; results = 0; locals = []; values = []; rest = End; labels = record { arity = 0; under = []; again = None; after = End } ∷ [] }) [] ∷ []) } ∷ record (new_task (Func (record { instance = 1; core = core_func 1 3; options = asynchronous; func_type = func_type [] (Some leaves.U32) })) (Guest (record { by = 1; canon = 0; words = (68 ∷ []); told = told.Started; lends = []; result = [] })) (InBuiltin 1 [] ForYield)) { stacks = (Running (record { instance = 1; results = 0; locals = []; values = []; rest = (Plain Drop (number 7 (Plain (instr.Call 2) End))); labels = record { arity = 0; under = []; again = None; after = End } ∷ [] }) [] ∷ []) } ∷ [];
  chain = 2 ∷ [];
  control = Calls 2 (7 ∷ []);
  units = 12;
  picks = 1;
}

piece5 : far 14 g s w4 ≡ ((line.Do 3 builtin.Yield [] ∷ line.Block 3 reason.Yield ∷ line.Got 1 (33 ∷ []) ∷ line.Return 1 None ∷ line.Exit 1 ∷ line.Choose 3 1 ∷ line.Go 2 ∷ line.Got 2 (0 ∷ []) ∷ []), w5)
unfolding the_rules
piece5 = refl

abbrev w6 : World
w6 = record w0 {
  insts = record { table = (Add 2 (OfSubtask 3) ∷ Add 1 (OfSubtask 2) ∷ []); sets = []; backpressure = 0 } ∷ new_inst ∷ [];
  tasks = new_task Init Nobody Exited ∷ record (new_task (Func (record { instance = 0; core = core_func 0 0; options = no_options; func_type = func_type [] None })) (Host 1 []) Exited) { resolution = Some Returned } ∷ record (new_task (Func (record { instance = 1; core = core_func 1 3; options = asynchronous; func_type = func_type [] (Some leaves.U32) })) (Guest (record { by = 1; canon = 0; words = (64 ∷ []); told = told.Started; lends = []; result = [] })) Acting) { stacks = (Running (record { instance = 1; results = 0; locals = []; values = []; rest = End; labels = record { arity = 0; under = []; again = None; after = End } ∷ [] }) [] ∷ []); resolution = Some Returned } ∷ record (new_task (Func (record { instance = 1; core = core_func 1 3; options = asynchronous; func_type = func_type [] (Some leaves.U32) })) (Guest (record { by = 1; canon = 0; words = (68 ∷ []); told = told.Started; lends = []; result = [] })) (InBuiltin 1 [] ForYield)) { stacks = (Running (record { instance = 1; results = 0; locals = []; values = []; rest = (Plain Drop (number 7 (Plain (instr.Call 2) End))); labels = record { arity = 0; under = []; again = None; after = End } ∷ [] }) [] ∷ []) } ∷ [];
  chain = 2 ∷ [];
  control = Lowers (record { inst = 0; memory = Some 0; realloc = None; acts_for = 1; blame = 2; next = Resolves 2 Replies }) (tested (last_of (64 ∷ [])) 4 4 ((lower_step (entries_by (defines g 0)) (V.U32 7)).store leaves.U32 (last_of (64 ∷ [])) (Gives [])));
  units = 12;
  picks = 1;
}

piece6 : next g s w5 ≡ Steps (line.Do 2 builtin.TaskReturn (7 ∷ []) ∷ line.Return 2 (Some (record { value = (plain.U32 7); val_type = leaves.U32 })) ∷ []) w6
unfolding the_rules
piece6 =
    ap (behind (line.Do 2 builtin.TaskReturn (7 ∷ []) ∷ [])) (returns_as g 2 (the_task w5) 1 leaves.U32 no_options (7 ∷ []) (with_control Free w5) (the_func w5) refl refl u32_same refl)
    ∙ ap (returning g w5 (line.Do 2 builtin.TaskReturn (7 ∷ []) ∷ []) leaves.U32) (result_passed_as 1 2 16 leaves.U32 F.U32 [] (7 ∷ []) (with_control Free w5) refl u32_flat (u32_part (by_world 1 2)))
    ∙ ap (λ (p : Plan). Steps (line.Do 2 builtin.TaskReturn (7 ∷ []) ∷ line.Return 2 (Some (record { value = (plain.U32 7); val_type = leaves.U32 })) ∷ []) (planned p w6)) (result_placed (entries_by (defines g 0)) leaves.U32 (plain.U32 7) (64 ∷ []) (record { size = 4; align = 4 }) (lower_step (entries_by (defines g 0)) (V.U32 7)) u32_laid (u32_lowered (entries_by (defines g 0)) 7))

abbrev w7 : World
w7 = record w0 {
  store = record w0.store { memories = record { bytes = (replicate 64 0 ++ (7 ∷ []) ++ replicate 7 0); maximum = None } ∷ record { bytes = []; maximum = None } ∷ [] };
  insts = record { table = (Add 2 (OfSubtask 3) ∷ Add 1 (OfSubtask 2) ∷ []); sets = []; backpressure = 0 } ∷ new_inst ∷ [];
  tasks = new_task Init Nobody Exited ∷ record (new_task (Func (record { instance = 0; core = core_func 0 0; options = no_options; func_type = func_type [] None })) (Host 1 []) Exited) { resolution = Some Returned } ∷ record (new_task (Func (record { instance = 1; core = core_func 1 3; options = asynchronous; func_type = func_type [] (Some leaves.U32) })) (Guest (record { by = 1; canon = 0; words = (64 ∷ []); told = told.Started; lends = []; result = [] })) Exited) { resolution = Some Returned } ∷ record (new_task (Func (record { instance = 1; core = core_func 1 3; options = asynchronous; func_type = func_type [] (Some leaves.U32) })) (Guest (record { by = 1; canon = 0; words = (68 ∷ []); told = told.Started; lends = []; result = [] })) (InBuiltin 1 [] ForYield)) { stacks = (Running (record { instance = 1; results = 0; locals = []; values = []; rest = (Plain Drop (number 7 (Plain (instr.Call 2) End))); labels = record { arity = 0; under = []; again = None; after = End } ∷ [] }) [] ∷ []) } ∷ new_task (Func (record { instance = 0; core = core_func 0 5; options = no_options; func_type = func_type [] None })) (Host 2 []) Acting ∷ [];
  chain = 4 ∷ [];
  control = Lowers (record { inst = 0; memory = None; realloc = None; acts_for = 4; blame = 4; next = Starts }) (Gives []);
  units = 13;
  picks = 1;
  taken = 2;
}

piece7 : far 7 g s w6 ≡ ((line.Got 2 [] ∷ line.Exit 2 ∷ line.Choose 2 0 ∷ line.Take 2 4 nop_name [] ∷ line.Enter 4 ∷ []), w7)
unfolding the_rules
piece7 = ap (λ (p : Plan). ((line.Got 2 [] ∷ line.Exit 2 ∷ line.Choose 2 0 ∷ line.Take 2 4 nop_name [] ∷ line.Enter 4 ∷ []), planned p w7)) (none_planned (entries_by (defines g 0)) None)

abbrev w8 : World
w8 = record w0 {
  store = record w0.store { memories = record { bytes = (replicate 64 0 ++ (7 ∷ []) ++ replicate 7 0); maximum = None } ∷ record { bytes = []; maximum = None } ∷ [] };
  insts = record { table = (Add 2 (OfSubtask 3) ∷ Add 1 (OfSubtask 2) ∷ []); sets = []; backpressure = 0 } ∷ new_inst ∷ [];
  tasks = new_task Init Nobody Exited ∷ record (new_task (Func (record { instance = 0; core = core_func 0 0; options = no_options; func_type = func_type [] None })) (Host 1 []) Exited) { resolution = Some Returned } ∷ record (new_task (Func (record { instance = 1; core = core_func 1 3; options = asynchronous; func_type = func_type [] (Some leaves.U32) })) (Guest (record { by = 1; canon = 0; words = (64 ∷ []); told = told.Started; lends = []; result = [] })) Exited) { resolution = Some Returned } ∷ record (new_task (Func (record { instance = 1; core = core_func 1 3; options = asynchronous; func_type = func_type [] (Some leaves.U32) })) (Guest (record { by = 1; canon = 0; words = (68 ∷ []); told = told.Started; lends = []; result = [] })) Acting) { stacks = (Running (record { instance = 1; results = 0; locals = []; values = []; rest = End; labels = record { arity = 0; under = []; again = None; after = End } ∷ [] }) [] ∷ []) } ∷ record (new_task (Func (record { instance = 0; core = core_func 0 5; options = no_options; func_type = func_type [] None })) (Host 2 []) Exited) { resolution = Some Returned } ∷ [];
  chain = 3 ∷ [];
  control = Calls 2 (7 ∷ []);
  units = 17;
  picks = 1;
  taken = 2;
}

piece8 : far 9 g s w7 ≡ ((line.Return 4 None ∷ line.Exit 4 ∷ line.Go 3 ∷ line.Got 3 (0 ∷ []) ∷ []), w8)
unfolding the_rules
piece8 = refl

abbrev w9 : World
w9 = record w0 {
  store = record w0.store { memories = record { bytes = (replicate 64 0 ++ (7 ∷ []) ++ replicate 7 0); maximum = None } ∷ record { bytes = []; maximum = None } ∷ [] };
  insts = record { table = (Add 2 (OfSubtask 3) ∷ Add 1 (OfSubtask 2) ∷ []); sets = []; backpressure = 0 } ∷ new_inst ∷ [];
  tasks = new_task Init Nobody Exited ∷ record (new_task (Func (record { instance = 0; core = core_func 0 0; options = no_options; func_type = func_type [] None })) (Host 1 []) Exited) { resolution = Some Returned } ∷ record (new_task (Func (record { instance = 1; core = core_func 1 3; options = asynchronous; func_type = func_type [] (Some leaves.U32) })) (Guest (record { by = 1; canon = 0; words = (64 ∷ []); told = told.Started; lends = []; result = [] })) Exited) { resolution = Some Returned } ∷ record (new_task (Func (record { instance = 1; core = core_func 1 3; options = asynchronous; func_type = func_type [] (Some leaves.U32) })) (Guest (record { by = 1; canon = 0; words = (68 ∷ []); told = told.Started; lends = []; result = [] })) Acting) { stacks = (Running (record { instance = 1; results = 0; locals = []; values = []; rest = End; labels = record { arity = 0; under = []; again = None; after = End } ∷ [] }) [] ∷ []); resolution = Some Returned } ∷ record (new_task (Func (record { instance = 0; core = core_func 0 5; options = no_options; func_type = func_type [] None })) (Host 2 []) Exited) { resolution = Some Returned } ∷ [];
  chain = 3 ∷ [];
  control = Lowers (record { inst = 0; memory = Some 0; realloc = None; acts_for = 1; blame = 3; next = Resolves 3 Replies }) (tested (last_of (68 ∷ [])) 4 4 ((lower_step (entries_by (defines g 0)) (V.U32 7)).store leaves.U32 (last_of (68 ∷ [])) (Gives [])));
  units = 17;
  picks = 1;
  taken = 2;
}

piece9 : next g s w8 ≡ Steps (line.Do 3 builtin.TaskReturn (7 ∷ []) ∷ line.Return 3 (Some (record { value = (plain.U32 7); val_type = leaves.U32 })) ∷ []) w9
unfolding the_rules
piece9 =
    ap (behind (line.Do 3 builtin.TaskReturn (7 ∷ []) ∷ [])) (returns_as g 3 (the_task w8) 1 leaves.U32 no_options (7 ∷ []) (with_control Free w8) (the_func w8) refl refl u32_same refl)
    ∙ ap (returning g w8 (line.Do 3 builtin.TaskReturn (7 ∷ []) ∷ []) leaves.U32) (result_passed_as 1 3 16 leaves.U32 F.U32 [] (7 ∷ []) (with_control Free w8) refl u32_flat (u32_part (by_world 1 3)))
    ∙ ap (λ (p : Plan). Steps (line.Do 3 builtin.TaskReturn (7 ∷ []) ∷ line.Return 3 (Some (record { value = (plain.U32 7); val_type = leaves.U32 })) ∷ []) (planned p w9)) (result_placed (entries_by (defines g 0)) leaves.U32 (plain.U32 7) (68 ∷ []) (record { size = 4; align = 4 }) (lower_step (entries_by (defines g 0)) (V.U32 7)) u32_laid (u32_lowered (entries_by (defines g 0)) 7))

abbrev w10 : World
w10 = record w0 {
  store = record w0.store { memories = record { bytes = (replicate 64 0 ++ (7 ∷ 0 ∷ 0 ∷ 0 ∷ 7 ∷ 0 ∷ 0 ∷ 0 ∷ [])); maximum = None } ∷ record { bytes = []; maximum = None } ∷ [] };
  insts = record { table = (Add 2 (OfSubtask 3) ∷ Add 1 (OfSubtask 2) ∷ []); sets = []; backpressure = 0 } ∷ new_inst ∷ [];
  tasks = new_task Init Nobody Exited ∷ record (new_task (Func (record { instance = 0; core = core_func 0 0; options = no_options; func_type = func_type [] None })) (Host 1 []) Exited) { resolution = Some Returned } ∷ record (new_task (Func (record { instance = 1; core = core_func 1 3; options = asynchronous; func_type = func_type [] (Some leaves.U32) })) (Guest (record { by = 1; canon = 0; words = (64 ∷ []); told = told.Started; lends = []; result = [] })) Exited) { resolution = Some Returned } ∷ record (new_task (Func (record { instance = 1; core = core_func 1 3; options = asynchronous; func_type = func_type [] (Some leaves.U32) })) (Guest (record { by = 1; canon = 0; words = (68 ∷ []); told = told.Started; lends = []; result = [] })) Exited) { resolution = Some Returned } ∷ record (new_task (Func (record { instance = 0; core = core_func 0 5; options = no_options; func_type = func_type [] None })) (Host 2 []) Exited) { resolution = Some Returned } ∷ [];
  chain = [];
  control = Free;
  units = 17;
  picks = 1;
  taken = 2;
}

piece10 : far 4 g s w9 ≡ ((line.Got 3 [] ∷ line.Exit 3 ∷ []), w10)
unfolding the_rules
piece10 = refl

pub chosen_shown : Shows choosing picking choosing_world chosen Done 17
unfolding the_rules
chosen_shown =
    shows g s w0 w10 _ Done 17
    (goes_on g s w0 w1 w10 _ _ (walked 3 g s w0 w1 _ piece1)
    (goes_on g s w1 w2 w10 _ _ (stepped g s w1 w2 _ piece2)
    (goes_on g s w2 w3 w10 _ _ (walked 8 g s w2 w3 _ piece3)
    (goes_on g s w3 w4 w10 _ _ (stepped g s w3 w4 _ piece4)
    (goes_on g s w4 w5 w10 _ _ (walked 14 g s w4 w5 _ piece5)
    (goes_on g s w5 w6 w10 _ _ (stepped g s w5 w6 _ piece6)
    (goes_on g s w6 w7 w10 _ _ (walked 7 g s w6 w7 _ piece7)
    (goes_on g s w7 w8 w10 _ _ (walked 9 g s w7 w8 _ piece8)
    (goes_on g s w8 w9 w10 _ _ (stepped g s w8 w9 _ piece9)
    (walked 4 g s w9 w10 _ piece10)))))))))) refl refl
