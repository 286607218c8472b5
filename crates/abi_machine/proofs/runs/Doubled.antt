-- A call is waited for.
use Rattle.std.proofs.Common.{◌≡◌, ◌∙◌, false, List, [], ◌∷◌, ◌++◌, length, Some, None, refl, ap}
use Rattle.std.specs.Prelude.{nat_lt}
use Rattle.syntax_trees.specs.Expr.{End}
use Rattle.wasm_store.specs.Stack.{Running}
use Rattle.syntax_trees.specs.declared.core_type.CoreType.{CoreType}
use Rattle.syntax_trees.specs.declared.types.ValType.TheOpen as F
use Rattle.syntax_trees.specs.declared.types.ValType.TheVariants as leaves
use Rattle.syntax_trees.specs.declared.value.Value.TheOpen as V
use Rattle.syntax_trees.specs.declared.value.Value.TheVariants as plain
use Rattle.tasks.specs.declared.phase.Resolution.TheVariants.{Returned}
use Rattle.tasks.specs.declared.subtask_state.SubtaskState.TheVariants as told
use Rattle.comp_graph.specs.Needs.{flat_param_limit}
use Rattle.comp_graph.specs.Graph.{Graph, no_options}
use Rattle.script_reader.specs.Script.{Script}
use Rattle.trace_labels.specs.declared.builtin.Builtin.TheVariants as builtin
use Rattle.trace_labels.specs.declared.label.Label.TheVariants as line
use Rattle.abi_machine.specs.declared.run_end.RunEnd.TheVariants.{Done}
use Rattle.abi_machine.specs.LoweringOver.{Plan, Gives, lower_step, field_words}
use Rattle.abi_machine.specs.Control.{Free, Runs, Arrives, Lowers, Leaves as Exits, Starts, Resolves, Finishes}
use Rattle.abi_machine.specs.World.{Init, Func, Nobody, Host, Guest, New, Acting, AfterCall, Exited, World, new_task}
use Rattle.abi_machine.specs.Edits.{with_control, in_state, unstacked}
use Rattle.abi_machine.specs.Canons.{defines}
use Rattle.abi_machine.specs.Turn.{Steps}
use Rattle.abi_machine.specs.Lifting.{by_world}
use Rattle.abi_machine.specs.Pausing.{entries_by}
use Rattle.abi_machine.specs.Next.{next}
use Rattle.abi_machine.specs.examples.Parts.{func_type, core_func, run_name, Shows}
use Rattle.abi_machine.specs.examples.Lowering.{doubled, doubling, doubling_script, doubling_world}
use Rattle.abi_machine.proofs.Rules.{the_rules}
use Rattle.abi_machine.proofs.Walks.{far, walked, stepped, goes_on, shows, planned}
use Rattle.abi_machine.proofs.Layers.{u32_flat, u32_part, u32_lowered}
use Rattle.abi_machine.proofs.Passed.{two_passed, result_passed_as, one_planned, two_planned, result_planned}
use Rattle.abi_machine.proofs.Copies.{entering, has_ended}

abbrev g : Graph
g = doubling

abbrev s : Script
s = doubling_script

abbrev w0 : World
w0 = doubling_world

abbrev w1 : World
w1 = record w0 {
  tasks = new_task Init Nobody Exited ∷ new_task (Func (record { instance = 0; core = core_func 0 2; options = no_options; func_type = func_type (leaves.U32 ∷ []) (Some leaves.U32) })) (Host 1 ((plain.U32 4) ∷ [])) Acting ∷ [];
  chain = 1 ∷ [];
  control = Lowers (record { inst = 0; memory = None; realloc = None; acts_for = 1; blame = 1; next = Starts }) (field_words (Some leaves.U32 ∷ []) ((lower_step (entries_by (defines g 0)) (V.U32 4)) ∷ []) [] (λ words. Gives words));
  units = 1;
  taken = 1;
}

piece1 : far 2 g s w0 ≡ ((line.Take 1 1 run_name (record { value = (plain.U32 4); val_type = leaves.U32 } ∷ []) ∷ line.Enter 1 ∷ []), w1)
unfolding the_rules
piece1 = ap (λ (p : Plan). ((line.Take 1 1 run_name (record { value = (plain.U32 4); val_type = leaves.U32 } ∷ []) ∷ line.Enter 1 ∷ []), planned p w1)) (one_planned (entries_by (defines g 0)) leaves.U32 (Some leaves.U32) (plain.U32 4) (lower_step (entries_by (defines g 0)) (V.U32 4)) (ap (λ (c : List CoreType). nat_lt flat_param_limit (length (c ++ []))) u32_flat) (u32_lowered (entries_by (defines g 0)) 4))

abbrev w2 : World
w2 = record w0 {
  tasks = new_task Init Nobody Exited ∷ record (new_task (Func (record { instance = 0; core = core_func 0 2; options = no_options; func_type = func_type (leaves.U32 ∷ []) (Some leaves.U32) })) (Host 1 ((plain.U32 4) ∷ [])) (AfterCall 2 0 (4 ∷ 4 ∷ []))) { stacks = (Running (record { instance = 0; results = 1; locals = (4 ∷ []); values = []; rest = End; labels = record { arity = 1; under = []; again = None; after = End } ∷ [] }) [] ∷ []) } ∷ new_task (Func (record { instance = 1; core = core_func 1 1; options = no_options; func_type = func_type (leaves.U32 ∷ leaves.U32 ∷ []) (Some leaves.U32) })) (Guest (record { by = 1; canon = 0; words = (4 ∷ 4 ∷ []); told = told.Starting; lends = []; result = [] })) New ∷ [];
  chain = 2 ∷ 1 ∷ [];
  control = Arrives;
  units = 4;
  taken = 1;
}

piece2 : far 5 g s w1 ≡ ((line.Do 1 builtin.Lower (4 ∷ 4 ∷ []) ∷ line.Call 1 2 2 ∷ []), w2)
unfolding the_rules
piece2 = refl

abbrev w3 : World
w3 = record w0 {
  tasks = new_task Init Nobody Exited ∷ record (new_task (Func (record { instance = 0; core = core_func 0 2; options = no_options; func_type = func_type (leaves.U32 ∷ []) (Some leaves.U32) })) (Host 1 ((plain.U32 4) ∷ [])) (AfterCall 2 0 (4 ∷ 4 ∷ []))) { stacks = (Running (record { instance = 0; results = 1; locals = (4 ∷ []); values = []; rest = End; labels = record { arity = 1; under = []; again = None; after = End } ∷ [] }) [] ∷ []) } ∷ new_task (Func (record { instance = 1; core = core_func 1 1; options = no_options; func_type = func_type (leaves.U32 ∷ leaves.U32 ∷ []) (Some leaves.U32) })) (Guest (record { by = 1; canon = 0; words = (4 ∷ 4 ∷ []); told = told.Starting; lends = []; result = [] })) Acting ∷ [];
  chain = 2 ∷ 1 ∷ [];
  control = Lowers (record { inst = 1; memory = None; realloc = None; acts_for = 2; blame = 2; next = Starts }) (field_words (Some leaves.U32 ∷ Some leaves.U32 ∷ []) ((lower_step (entries_by (defines g 1)) (V.U32 4)) ∷ (lower_step (entries_by (defines g 1)) (V.U32 4)) ∷ []) [] (λ words. Gives words));
  units = 4;
  taken = 1;
}

piece3 : next g s w2 ≡ Steps (line.Enter 2 ∷ []) w3
unfolding the_rules
piece3 =
    ap (entering g w2) (two_passed 0 2 false leaves.U32 leaves.U32 F.U32 F.U32 (Some leaves.U32) [] (4 ∷ 4 ∷ []) (in_state 2 Acting (with_control Free w2)) refl u32_flat u32_flat (u32_part (by_world 0 2)) (u32_part (by_world 0 2)))
    ∙ ap (λ (p : Plan). Steps (line.Enter 2 ∷ []) (planned p w3)) (two_planned (entries_by (defines g 1)) leaves.U32 leaves.U32 (Some leaves.U32) (plain.U32 4) (plain.U32 4) (lower_step (entries_by (defines g 1)) (V.U32 4)) (lower_step (entries_by (defines g 1)) (V.U32 4)) u32_flat u32_flat (u32_lowered (entries_by (defines g 1)) 4) (u32_lowered (entries_by (defines g 1)) 4))

abbrev w4 : World
w4 = record w0 {
  tasks = new_task Init Nobody Exited ∷ record (new_task (Func (record { instance = 0; core = core_func 0 2; options = no_options; func_type = func_type (leaves.U32 ∷ []) (Some leaves.U32) })) (Host 1 ((plain.U32 4) ∷ [])) (AfterCall 2 0 (4 ∷ 4 ∷ []))) { stacks = (Running (record { instance = 0; results = 1; locals = (4 ∷ []); values = []; rest = End; labels = record { arity = 1; under = []; again = None; after = End } ∷ [] }) [] ∷ []) } ∷ record (new_task (Func (record { instance = 1; core = core_func 1 1; options = no_options; func_type = func_type (leaves.U32 ∷ leaves.U32 ∷ []) (Some leaves.U32) })) (Guest (record { by = 1; canon = 0; words = (4 ∷ 4 ∷ []); told = told.Starting; lends = []; result = [] })) Acting) { stacks = (Running (record { instance = 1; results = 1; locals = (4 ∷ 4 ∷ []); values = (8 ∷ []); rest = End; labels = [] }) [] ∷ []) } ∷ [];
  chain = 2 ∷ 1 ∷ [];
  control = Runs;
  units = 7;
  taken = 1;
}

piece4 : far 5 g s w3 ≡ ([], w4)
unfolding the_rules
piece4 = refl

abbrev w5 : World
w5 = record w0 {
  tasks = new_task Init Nobody Exited ∷ record (new_task (Func (record { instance = 0; core = core_func 0 2; options = no_options; func_type = func_type (leaves.U32 ∷ []) (Some leaves.U32) })) (Host 1 ((plain.U32 4) ∷ [])) (AfterCall 2 0 (4 ∷ 4 ∷ []))) { stacks = (Running (record { instance = 0; results = 1; locals = (4 ∷ []); values = []; rest = End; labels = record { arity = 1; under = []; again = None; after = End } ∷ [] }) [] ∷ []) } ∷ record (new_task (Func (record { instance = 1; core = core_func 1 1; options = no_options; func_type = func_type (leaves.U32 ∷ leaves.U32 ∷ []) (Some leaves.U32) })) (Guest (record { by = 1; canon = 0; words = (4 ∷ 4 ∷ []); told = told.Starting; lends = []; result = [] })) Acting) { resolution = Some Returned } ∷ [];
  chain = 2 ∷ 1 ∷ [];
  control = Lowers (record { inst = 0; memory = None; realloc = None; acts_for = 1; blame = 2; next = Resolves 2 (Finishes (8 ∷ [])) }) ((lower_step (entries_by (defines g 0)) (V.U32 8)).words leaves.U32 [] (λ words. Gives words));
  units = 7;
  taken = 1;
}

piece5 : next g s w4 ≡ Steps (line.Return 2 (Some (record { value = (plain.U32 8); val_type = leaves.U32 })) ∷ []) w5
unfolding the_rules
piece5 =
    ap (has_ended g w4 (8 ∷ []) leaves.U32) (result_passed_as 1 2 1 leaves.U32 F.U32 [] (8 ∷ []) (unstacked 2 (with_control Free w4)) refl u32_flat (u32_part (by_world 1 2)))
    ∙ ap (λ (p : Plan). Steps (line.Return 2 (Some (record { value = (plain.U32 8); val_type = leaves.U32 })) ∷ []) (planned p w5)) (result_planned (entries_by (defines g 0)) leaves.U32 (plain.U32 8) (4 ∷ 4 ∷ []) (lower_step (entries_by (defines g 0)) (V.U32 8)) u32_flat (u32_lowered (entries_by (defines g 0)) 8))

abbrev w6 : World
w6 = record w0 {
  tasks = new_task Init Nobody Exited ∷ record (new_task (Func (record { instance = 0; core = core_func 0 2; options = no_options; func_type = func_type (leaves.U32 ∷ []) (Some leaves.U32) })) (Host 1 ((plain.U32 4) ∷ [])) Acting) { stacks = (Running (record { instance = 0; results = 1; locals = (4 ∷ []); values = (8 ∷ []); rest = End; labels = [] }) [] ∷ []) } ∷ record (new_task (Func (record { instance = 1; core = core_func 1 1; options = no_options; func_type = func_type (leaves.U32 ∷ leaves.U32 ∷ []) (Some leaves.U32) })) (Guest (record { by = 1; canon = 0; words = (4 ∷ 4 ∷ []); told = told.Returned; lends = []; result = (8 ∷ []) })) Exited) { resolution = Some Returned } ∷ [];
  chain = 1 ∷ [];
  control = Runs;
  units = 7;
  taken = 1;
}

piece6 : far 4 g s w5 ≡ ((line.Exit 2 ∷ line.Got 1 (8 ∷ []) ∷ []), w6)
unfolding the_rules
piece6 = refl

abbrev w7 : World
w7 = record w0 {
  tasks = new_task Init Nobody Exited ∷ record (new_task (Func (record { instance = 0; core = core_func 0 2; options = no_options; func_type = func_type (leaves.U32 ∷ []) (Some leaves.U32) })) (Host 1 ((plain.U32 4) ∷ [])) Acting) { resolution = Some Returned } ∷ record (new_task (Func (record { instance = 1; core = core_func 1 1; options = no_options; func_type = func_type (leaves.U32 ∷ leaves.U32 ∷ []) (Some leaves.U32) })) (Guest (record { by = 1; canon = 0; words = (4 ∷ 4 ∷ []); told = told.Returned; lends = []; result = (8 ∷ []) })) Exited) { resolution = Some Returned } ∷ [];
  chain = 1 ∷ [];
  control = Exits;
  units = 7;
  taken = 1;
}

piece7 : next g s w6 ≡ Steps (line.Return 1 (Some (record { value = (plain.U32 8); val_type = leaves.U32 })) ∷ []) w7
unfolding the_rules
piece7 =
    ap (has_ended g w6 (8 ∷ []) leaves.U32) (result_passed_as 0 1 1 leaves.U32 F.U32 [] (8 ∷ []) (unstacked 1 (with_control Free w6)) refl u32_flat (u32_part (by_world 0 1)))

abbrev w8 : World
w8 = record w0 {
  tasks = new_task Init Nobody Exited ∷ record (new_task (Func (record { instance = 0; core = core_func 0 2; options = no_options; func_type = func_type (leaves.U32 ∷ []) (Some leaves.U32) })) (Host 1 ((plain.U32 4) ∷ [])) Exited) { resolution = Some Returned } ∷ record (new_task (Func (record { instance = 1; core = core_func 1 1; options = no_options; func_type = func_type (leaves.U32 ∷ leaves.U32 ∷ []) (Some leaves.U32) })) (Guest (record { by = 1; canon = 0; words = (4 ∷ 4 ∷ []); told = told.Returned; lends = []; result = (8 ∷ []) })) Exited) { resolution = Some Returned } ∷ [];
  units = 7;
  taken = 1;
}

piece8 : far 1 g s w7 ≡ ((line.Exit 1 ∷ []), w8)
unfolding the_rules
piece8 = refl

pub doubled_shown : Shows doubling doubling_script doubling_world doubled Done 7
unfolding the_rules
doubled_shown =
    shows g s w0 w8 _ Done 7
    (goes_on g s w0 w1 w8 _ _ (walked 2 g s w0 w1 _ piece1)
    (goes_on g s w1 w2 w8 _ _ (walked 5 g s w1 w2 _ piece2)
    (goes_on g s w2 w3 w8 _ _ (stepped g s w2 w3 _ piece3)
    (goes_on g s w3 w4 w8 _ _ (walked 5 g s w3 w4 _ piece4)
    (goes_on g s w4 w5 w8 _ _ (stepped g s w4 w5 _ piece5)
    (goes_on g s w5 w6 w8 _ _ (walked 4 g s w5 w6 _ piece6)
    (goes_on g s w6 w7 w8 _ _ (stepped g s w6 w7 _ piece7)
    (walked 1 g s w7 w8 _ piece8)))))))) refl refl
