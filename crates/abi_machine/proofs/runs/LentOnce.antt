-- A handle comes from a child, and is lent to it.
use Rattle.std.proofs.Common.{◌≡◌, ◌∙◌, false, List, [], ◌∷◌, ◌++◌, length, Some, None, refl, ap}
use Rattle.std.specs.Prelude.{nat_lt}
use Rattle.syntax_trees.specs.declared.instr.Instr.TheVariants.{Drop}
use Rattle.syntax_trees.specs.declared.instr.Instr.TheVariants as instr
use Rattle.syntax_trees.specs.Expr.{End, Plain}
use Rattle.wasm_store.specs.Stack.{Running}
use Rattle.syntax_trees.specs.declared.core_type.CoreType.{CoreType}
use Rattle.syntax_trees.specs.declared.types.ValType.TheOpen as F
use Rattle.syntax_trees.specs.declared.types.ValType.TheVariants as leaves
use Rattle.syntax_trees.specs.declared.value.Value.TheOpen as V
use Rattle.syntax_trees.specs.declared.value.Value.TheVariants as plain
use Rattle.handle_table.specs.History.{Add, Remove}
use Rattle.tasks.specs.declared.phase.Resolution.TheVariants.{Returned}
use Rattle.tasks.specs.declared.subtask_state.SubtaskState.TheVariants as told
use Rattle.comp_graph.specs.Needs.{flat_param_limit}
use Rattle.comp_graph.specs.Graph.{Graph, no_options}
use Rattle.script_reader.specs.Script.{Script}
use Rattle.trace_labels.specs.declared.builtin.Builtin.TheVariants as builtin
use Rattle.trace_labels.specs.declared.label.Label.TheVariants as line
use Rattle.abi_machine.specs.declared.run_end.RunEnd.TheVariants.{Done}
use Rattle.abi_machine.specs.LoweringOver.{Plan, Gives, lower_step, field_words}
use Rattle.abi_machine.specs.Control.{Free, Arrives, Lowers, Starts, Resolves, Finishes}
use Rattle.abi_machine.specs.World.{OwnHandle, Init, Func, Nobody, Host, Guest, New, Acting, AfterCall, Exited, World, new_inst, new_task}
use Rattle.abi_machine.specs.Edits.{with_control, in_state, unstacked}
use Rattle.abi_machine.specs.Canons.{defines}
use Rattle.abi_machine.specs.Turn.{Steps}
use Rattle.abi_machine.specs.Lifting.{by_world}
use Rattle.abi_machine.specs.Pausing.{entries_by}
use Rattle.abi_machine.specs.Next.{next}
use Rattle.abi_machine.specs.examples.Parts.{func_type, number, core_func, one_call, Leaves}
use Rattle.abi_machine.specs.examples.Handles.{handle_kept, lending, lending_world, lent_once}
use Rattle.abi_machine.proofs.Rules.{the_rules}
use Rattle.abi_machine.proofs.Walks.{far, walked, stepped, goes_on, leaves, planned}
use Rattle.abi_machine.proofs.Layers.{u32_flat, own_flat, borrow_flat, u32_part, own_part, borrow_part, u32_lowered, own_lowered, borrow_lowered}
use Rattle.abi_machine.proofs.Passed.{one_passed, result_passed_as, one_planned, result_planned}
use Rattle.abi_machine.proofs.Copies.{entering, has_ended}

abbrev g : Graph
g = lending

abbrev s : Script
s = one_call

abbrev w0 : World
w0 = lending_world

abbrev w1 : World
w1 = record w0 {
  tasks = new_task Init Nobody Exited ∷ record (new_task (Func (record { instance = 0; core = core_func 0 0; options = no_options; func_type = func_type [] None })) (Host 1 []) (AfterCall 2 0 (7 ∷ []))) { stacks = (Running (record { instance = 0; results = 0; locals = []; values = []; rest = (Plain Drop (number 1 (Plain (instr.Call 1) (Plain Drop End)))); labels = record { arity = 0; under = []; again = None; after = End } ∷ [] }) [] ∷ []) } ∷ new_task (Func (record { instance = 1; core = core_func 1 3; options = no_options; func_type = func_type (leaves.U32 ∷ []) (Some (leaves.Own 1)) })) (Guest (record { by = 1; canon = 0; words = (7 ∷ []); told = told.Starting; lends = []; result = [] })) New ∷ [];
  chain = 2 ∷ 1 ∷ [];
  control = Arrives;
  units = 2;
}

piece1 : far 3 g s w0 ≡ ((line.Do 1 builtin.Lower (7 ∷ []) ∷ line.Call 1 2 2 ∷ []), w1)
unfolding the_rules
piece1 = refl

abbrev w2 : World
w2 = record w0 {
  tasks = new_task Init Nobody Exited ∷ record (new_task (Func (record { instance = 0; core = core_func 0 0; options = no_options; func_type = func_type [] None })) (Host 1 []) (AfterCall 2 0 (7 ∷ []))) { stacks = (Running (record { instance = 0; results = 0; locals = []; values = []; rest = (Plain Drop (number 1 (Plain (instr.Call 1) (Plain Drop End)))); labels = record { arity = 0; under = []; again = None; after = End } ∷ [] }) [] ∷ []) } ∷ new_task (Func (record { instance = 1; core = core_func 1 3; options = no_options; func_type = func_type (leaves.U32 ∷ []) (Some (leaves.Own 1)) })) (Guest (record { by = 1; canon = 0; words = (7 ∷ []); told = told.Starting; lends = []; result = [] })) Acting ∷ [];
  chain = 2 ∷ 1 ∷ [];
  control = Lowers (record { inst = 1; memory = None; realloc = None; acts_for = 2; blame = 2; next = Starts }) (field_words (Some leaves.U32 ∷ []) ((lower_step (entries_by (defines g 1)) (V.U32 7)) ∷ []) [] (λ words. Gives words));
  units = 2;
}

piece2 : next g s w1 ≡ Steps (line.Enter 2 ∷ []) w2
unfolding the_rules
piece2 =
    ap (entering g w1) (one_passed 0 2 false leaves.U32 F.U32 (Some (leaves.Own 1)) [] (7 ∷ []) (in_state 2 Acting (with_control Free w1)) refl u32_flat (u32_part (by_world 0 2)))
    ∙ ap (λ (p : Plan). Steps (line.Enter 2 ∷ []) (planned p w2)) (one_planned (entries_by (defines g 1)) leaves.U32 (Some (leaves.Own 1)) (plain.U32 7) (lower_step (entries_by (defines g 1)) (V.U32 7)) (ap (λ (c : List CoreType). nat_lt flat_param_limit (length (c ++ []))) u32_flat) (u32_lowered (entries_by (defines g 1)) 7))

abbrev w3 : World
w3 = record w0 {
  insts = new_inst ∷ record { table = (Add 1 (OwnHandle 1 7) ∷ []); sets = []; backpressure = 0 } ∷ [];
  tasks = new_task Init Nobody Exited ∷ record (new_task (Func (record { instance = 0; core = core_func 0 0; options = no_options; func_type = func_type [] None })) (Host 1 []) (AfterCall 2 0 (7 ∷ []))) { stacks = (Running (record { instance = 0; results = 0; locals = []; values = []; rest = (Plain Drop (number 1 (Plain (instr.Call 1) (Plain Drop End)))); labels = record { arity = 0; under = []; again = None; after = End } ∷ [] }) [] ∷ []) } ∷ record (new_task (Func (record { instance = 1; core = core_func 1 3; options = no_options; func_type = func_type (leaves.U32 ∷ []) (Some (leaves.Own 1)) })) (Guest (record { by = 1; canon = 0; words = (7 ∷ []); told = told.Starting; lends = []; result = [] })) Acting) { stacks = (Running (record { instance = 1; results = 1; locals = (7 ∷ []); values = (1 ∷ []); rest = End; labels = [] }) [] ∷ []) } ∷ [];
  chain = 2 ∷ 1 ∷ [];
  units = 4;
}

piece3 : far 5 g s w2 ≡ ((line.Do 2 builtin.ResourceNew (7 ∷ []) ∷ line.Got 2 (1 ∷ []) ∷ []), w3)
unfolding the_rules
piece3 = refl

abbrev w4 : World
w4 = record w0 {
  insts = new_inst ∷ record { table = (Remove 1 ∷ Add 1 (OwnHandle 1 7) ∷ []); sets = []; backpressure = 0 } ∷ [];
  tasks = new_task Init Nobody Exited ∷ record (new_task (Func (record { instance = 0; core = core_func 0 0; options = no_options; func_type = func_type [] None })) (Host 1 []) (AfterCall 2 0 (7 ∷ []))) { stacks = (Running (record { instance = 0; results = 0; locals = []; values = []; rest = (Plain Drop (number 1 (Plain (instr.Call 1) (Plain Drop End)))); labels = record { arity = 0; under = []; again = None; after = End } ∷ [] }) [] ∷ []) } ∷ record (new_task (Func (record { instance = 1; core = core_func 1 3; options = no_options; func_type = func_type (leaves.U32 ∷ []) (Some (leaves.Own 1)) })) (Guest (record { by = 1; canon = 0; words = (7 ∷ []); told = told.Starting; lends = []; result = [] })) Acting) { resolution = Some Returned } ∷ [];
  chain = 2 ∷ 1 ∷ [];
  control = Lowers (record { inst = 0; memory = None; realloc = None; acts_for = 1; blame = 2; next = Resolves 2 (Finishes (1 ∷ [])) }) ((lower_step (entries_by (defines g 0)) (V.Own (record { resource = 1; rep = 7 }))).words (leaves.Own 1) [] (λ words. Gives words));
  units = 4;
}

piece4 : next g s w3 ≡ Steps (line.Return 2 (Some (record { value = (plain.Own (record { resource = 1; rep = 7 })); val_type = (leaves.Own 1) })) ∷ []) w4
unfolding the_rules
piece4 =
    ap (has_ended g w3 (1 ∷ []) (leaves.Own 1)) (result_passed_as 1 2 1 (leaves.Own 1) (F.Own 1) [] (1 ∷ []) (unstacked 2 (with_control Free w3)) refl (own_flat 1) (own_part (by_world 1 2) 1))
    ∙ ap (λ (p : Plan). Steps (line.Return 2 (Some (record { value = (plain.Own (record { resource = 1; rep = 7 })); val_type = (leaves.Own 1) })) ∷ []) (planned p w4)) (result_planned (entries_by (defines g 0)) (leaves.Own 1) (plain.Own (record { resource = 1; rep = 7 })) (7 ∷ []) (lower_step (entries_by (defines g 0)) (V.Own (record { resource = 1; rep = 7 }))) (own_flat 1) (own_lowered (entries_by (defines g 0)) (record { resource = 1; rep = 7 })))

abbrev w5 : World
w5 = record w0 {
  insts = record { table = (Add 1 (OwnHandle 1 7) ∷ []); sets = []; backpressure = 0 } ∷ record { table = (Remove 1 ∷ Add 1 (OwnHandle 1 7) ∷ []); sets = []; backpressure = 0 } ∷ [];
  tasks = new_task Init Nobody Exited ∷ record (new_task (Func (record { instance = 0; core = core_func 0 0; options = no_options; func_type = func_type [] None })) (Host 1 []) (AfterCall 3 1 (1 ∷ []))) { stacks = (Running (record { instance = 0; results = 0; locals = []; values = []; rest = (Plain Drop End); labels = record { arity = 0; under = []; again = None; after = End } ∷ [] }) [] ∷ []) } ∷ record (new_task (Func (record { instance = 1; core = core_func 1 3; options = no_options; func_type = func_type (leaves.U32 ∷ []) (Some (leaves.Own 1)) })) (Guest (record { by = 1; canon = 0; words = (7 ∷ []); told = told.Returned; lends = []; result = (1 ∷ []) })) Exited) { resolution = Some Returned } ∷ new_task (Func (record { instance = 1; core = core_func 1 4; options = no_options; func_type = func_type ((leaves.Borrow 1) ∷ []) (Some leaves.U32) })) (Guest (record { by = 1; canon = 1; words = (1 ∷ []); told = told.Starting; lends = []; result = [] })) New ∷ [];
  chain = 3 ∷ 1 ∷ [];
  control = Arrives;
  units = 7;
}

piece5 : far 7 g s w4 ≡ ((line.Exit 2 ∷ line.Got 1 (1 ∷ []) ∷ line.Do 1 builtin.Lower (1 ∷ []) ∷ line.Call 1 3 2 ∷ []), w5)
unfolding the_rules
piece5 = refl

abbrev w6 : World
w6 = record w0 {
  insts = record { table = (Add 1 (OwnHandle 1 7) ∷ []); sets = []; backpressure = 0 } ∷ record { table = (Remove 1 ∷ Add 1 (OwnHandle 1 7) ∷ []); sets = []; backpressure = 0 } ∷ [];
  tasks = new_task Init Nobody Exited ∷ record (new_task (Func (record { instance = 0; core = core_func 0 0; options = no_options; func_type = func_type [] None })) (Host 1 []) (AfterCall 3 1 (1 ∷ []))) { stacks = (Running (record { instance = 0; results = 0; locals = []; values = []; rest = (Plain Drop End); labels = record { arity = 0; under = []; again = None; after = End } ∷ [] }) [] ∷ []) } ∷ record (new_task (Func (record { instance = 1; core = core_func 1 3; options = no_options; func_type = func_type (leaves.U32 ∷ []) (Some (leaves.Own 1)) })) (Guest (record { by = 1; canon = 0; words = (7 ∷ []); told = told.Returned; lends = []; result = (1 ∷ []) })) Exited) { resolution = Some Returned } ∷ new_task (Func (record { instance = 1; core = core_func 1 4; options = no_options; func_type = func_type ((leaves.Borrow 1) ∷ []) (Some leaves.U32) })) (Guest (record { by = 1; canon = 1; words = (1 ∷ []); told = told.Starting; lends = (1 ∷ []); result = [] })) Acting ∷ [];
  chain = 3 ∷ 1 ∷ [];
  control = Lowers (record { inst = 1; memory = None; realloc = None; acts_for = 3; blame = 3; next = Starts }) (field_words (Some (leaves.Borrow 1) ∷ []) ((lower_step (entries_by (defines g 1)) (V.Borrow (record { resource = 1; rep = 7 }))) ∷ []) [] (λ words. Gives words));
  units = 7;
}

piece6 : next g s w5 ≡ Steps (line.Enter 3 ∷ line.Lend 1 1 3 ∷ []) w6
unfolding the_rules
piece6 =
    ap (entering g w5) (one_passed 0 3 false (leaves.Borrow 1) (F.Borrow 1) (Some leaves.U32) [] (1 ∷ []) (in_state 3 Acting (with_control Free w5)) refl (borrow_flat 1) (borrow_part (by_world 0 3) 1))
    ∙ ap (λ (p : Plan). Steps (line.Enter 3 ∷ line.Lend 1 1 3 ∷ []) (planned p w6)) (one_planned (entries_by (defines g 1)) (leaves.Borrow 1) (Some leaves.U32) (plain.Borrow (record { resource = 1; rep = 7 })) (lower_step (entries_by (defines g 1)) (V.Borrow (record { resource = 1; rep = 7 }))) (ap (λ (c : List CoreType). nat_lt flat_param_limit (length (c ++ []))) (borrow_flat 1)) (borrow_lowered (entries_by (defines g 1)) (record { resource = 1; rep = 7 })))

abbrev w7 : World
w7 = record w0 {
  insts = record { table = (Add 1 (OwnHandle 1 7) ∷ []); sets = []; backpressure = 0 } ∷ record { table = (Remove 1 ∷ Add 1 (OwnHandle 1 7) ∷ []); sets = []; backpressure = 0 } ∷ [];
  tasks = new_task Init Nobody Exited ∷ record (new_task (Func (record { instance = 0; core = core_func 0 0; options = no_options; func_type = func_type [] None })) (Host 1 []) (AfterCall 3 1 (1 ∷ []))) { stacks = (Running (record { instance = 0; results = 0; locals = []; values = []; rest = (Plain Drop End); labels = record { arity = 0; under = []; again = None; after = End } ∷ [] }) [] ∷ []) } ∷ record (new_task (Func (record { instance = 1; core = core_func 1 3; options = no_options; func_type = func_type (leaves.U32 ∷ []) (Some (leaves.Own 1)) })) (Guest (record { by = 1; canon = 0; words = (7 ∷ []); told = told.Returned; lends = []; result = (1 ∷ []) })) Exited) { resolution = Some Returned } ∷ record (new_task (Func (record { instance = 1; core = core_func 1 4; options = no_options; func_type = func_type ((leaves.Borrow 1) ∷ []) (Some leaves.U32) })) (Guest (record { by = 1; canon = 1; words = (1 ∷ []); told = told.Starting; lends = (1 ∷ []); result = [] })) Acting) { stacks = (Running (record { instance = 1; results = 1; locals = (7 ∷ []); values = (7 ∷ []); rest = End; labels = [] }) [] ∷ []) } ∷ [];
  chain = 3 ∷ 1 ∷ [];
  units = 8;
}

piece7 : far 3 g s w6 ≡ ([], w7)
unfolding the_rules
piece7 = refl

abbrev w8 : World
w8 = record w0 {
  insts = record { table = (Add 1 (OwnHandle 1 7) ∷ []); sets = []; backpressure = 0 } ∷ record { table = (Remove 1 ∷ Add 1 (OwnHandle 1 7) ∷ []); sets = []; backpressure = 0 } ∷ [];
  tasks = new_task Init Nobody Exited ∷ record (new_task (Func (record { instance = 0; core = core_func 0 0; options = no_options; func_type = func_type [] None })) (Host 1 []) (AfterCall 3 1 (1 ∷ []))) { stacks = (Running (record { instance = 0; results = 0; locals = []; values = []; rest = (Plain Drop End); labels = record { arity = 0; under = []; again = None; after = End } ∷ [] }) [] ∷ []) } ∷ record (new_task (Func (record { instance = 1; core = core_func 1 3; options = no_options; func_type = func_type (leaves.U32 ∷ []) (Some (leaves.Own 1)) })) (Guest (record { by = 1; canon = 0; words = (7 ∷ []); told = told.Returned; lends = []; result = (1 ∷ []) })) Exited) { resolution = Some Returned } ∷ record (new_task (Func (record { instance = 1; core = core_func 1 4; options = no_options; func_type = func_type ((leaves.Borrow 1) ∷ []) (Some leaves.U32) })) (Guest (record { by = 1; canon = 1; words = (1 ∷ []); told = told.Starting; lends = (1 ∷ []); result = [] })) Acting) { resolution = Some Returned } ∷ [];
  chain = 3 ∷ 1 ∷ [];
  control = Lowers (record { inst = 0; memory = None; realloc = None; acts_for = 1; blame = 3; next = Resolves 3 (Finishes (7 ∷ [])) }) ((lower_step (entries_by (defines g 0)) (V.U32 7)).words leaves.U32 [] (λ words. Gives words));
  units = 8;
}

piece8 : next g s w7 ≡ Steps (line.Return 3 (Some (record { value = (plain.U32 7); val_type = leaves.U32 })) ∷ []) w8
unfolding the_rules
piece8 =
    ap (has_ended g w7 (7 ∷ []) leaves.U32) (result_passed_as 1 3 1 leaves.U32 F.U32 [] (7 ∷ []) (unstacked 3 (with_control Free w7)) refl u32_flat (u32_part (by_world 1 3)))
    ∙ ap (λ (p : Plan). Steps (line.Return 3 (Some (record { value = (plain.U32 7); val_type = leaves.U32 })) ∷ []) (planned p w8)) (result_planned (entries_by (defines g 0)) leaves.U32 (plain.U32 7) (1 ∷ []) (lower_step (entries_by (defines g 0)) (V.U32 7)) u32_flat (u32_lowered (entries_by (defines g 0)) 7))

abbrev w9 : World
w9 = record w0 {
  insts = record { table = (Add 1 (OwnHandle 1 7) ∷ []); sets = []; backpressure = 0 } ∷ record { table = (Remove 1 ∷ Add 1 (OwnHandle 1 7) ∷ []); sets = []; backpressure = 0 } ∷ [];
  tasks = new_task Init Nobody Exited ∷ record (new_task (Func (record { instance = 0; core = core_func 0 0; options = no_options; func_type = func_type [] None })) (Host 1 []) Exited) { resolution = Some Returned } ∷ record (new_task (Func (record { instance = 1; core = core_func 1 3; options = no_options; func_type = func_type (leaves.U32 ∷ []) (Some (leaves.Own 1)) })) (Guest (record { by = 1; canon = 0; words = (7 ∷ []); told = told.Returned; lends = []; result = (1 ∷ []) })) Exited) { resolution = Some Returned } ∷ record (new_task (Func (record { instance = 1; core = core_func 1 4; options = no_options; func_type = func_type ((leaves.Borrow 1) ∷ []) (Some leaves.U32) })) (Guest (record { by = 1; canon = 1; words = (1 ∷ []); told = told.Returned; lends = []; result = (7 ∷ []) })) Exited) { resolution = Some Returned } ∷ [];
  chain = [];
  control = Free;
  units = 9;
}

piece9 : far 7 g s w8 ≡ ((line.Exit 3 ∷ line.Unlend 1 1 3 ∷ line.Got 1 (7 ∷ []) ∷ line.Return 1 None ∷ line.Exit 1 ∷ []), w9)
unfolding the_rules
piece9 = refl

pub lent_once_shown : Leaves lending one_call lending_world lent_once Done 9 handle_kept ([] ∷ [] ∷ [])
unfolding the_rules
lent_once_shown =
    leaves g s w0 w9 _ Done 9 _ _
    (goes_on g s w0 w1 w9 _ _ (walked 3 g s w0 w1 _ piece1)
    (goes_on g s w1 w2 w9 _ _ (stepped g s w1 w2 _ piece2)
    (goes_on g s w2 w3 w9 _ _ (walked 5 g s w2 w3 _ piece3)
    (goes_on g s w3 w4 w9 _ _ (stepped g s w3 w4 _ piece4)
    (goes_on g s w4 w5 w9 _ _ (walked 7 g s w4 w5 _ piece5)
    (goes_on g s w5 w6 w9 _ _ (stepped g s w5 w6 _ piece6)
    (goes_on g s w6 w7 w9 _ _ (walked 3 g s w6 w7 _ piece7)
    (goes_on g s w7 w8 w9 _ _ (stepped g s w7 w8 _ piece8)
    (walked 7 g s w8 w9 _ piece9))))))))) refl refl refl refl
