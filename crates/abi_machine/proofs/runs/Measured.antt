-- A text is passed.
use Rattle.std.proofs.Common.{◌≡◌, List, [], ◌∷◌, ◌++◌, length, replicate, codes, Some, None, refl, ap}
use Rattle.std.specs.Prelude.{nat_lt}
use Rattle.syntax_trees.specs.Expr.{End}
use Rattle.wasm_store.specs.Stack.{Running}
use Rattle.syntax_trees.specs.declared.core_type.CoreType.{CoreType}
use Rattle.syntax_trees.specs.declared.types.ValType.TheOpen as F
use Rattle.syntax_trees.specs.declared.types.ValType.TheVariants as leaves
use Rattle.syntax_trees.specs.declared.value.Value.TheOpen as V
use Rattle.syntax_trees.specs.declared.value.Value.TheVariants as plain
use Rattle.tasks.specs.declared.phase.Resolution.TheVariants.{Returned}
use Rattle.comp_graph.specs.Needs.{flat_param_limit}
use Rattle.comp_graph.specs.Graph.{Graph, no_options}
use Rattle.script_reader.specs.Script.{Script}
use Rattle.trace_labels.specs.declared.label.Label.TheVariants as line
use Rattle.abi_machine.specs.declared.run_end.RunEnd.TheVariants.{Done}
use Rattle.abi_machine.specs.LoweringOver.{Plan, Gives, lower_step, field_words}
use Rattle.abi_machine.specs.Control.{Free, Runs, Lowers, Leaves as Exits, Starts}
use Rattle.abi_machine.specs.World.{Init, Func, Nobody, Host, Acting, Exited, World, new_task}
use Rattle.abi_machine.specs.Edits.{with_control, unstacked}
use Rattle.abi_machine.specs.Canons.{bytes_of, defines}
use Rattle.abi_machine.specs.Turn.{Steps}
use Rattle.abi_machine.specs.Lifting.{by_world}
use Rattle.abi_machine.specs.Pausing.{entries_by}
use Rattle.abi_machine.specs.Next.{next}
use Rattle.abi_machine.specs.examples.Parts.{func_type, core_at, core_func, Leaves}
use Rattle.abi_machine.specs.examples.Lowering.{measured, measured_bytes, measuring, measuring_script, measuring_world}
use Rattle.abi_machine.proofs.Rules.{the_rules}
use Rattle.abi_machine.proofs.Walks.{far, walked, stepped, goes_on, leaves, planned}
use Rattle.abi_machine.proofs.Layers.{u32_flat, string_flat, u32_part, string_lowered}
use Rattle.abi_machine.proofs.Passed.{result_passed_as, one_planned}
use Rattle.abi_machine.proofs.Copies.{has_ended}

abbrev g : Graph
g = measuring

abbrev s : Script
s = measuring_script

abbrev w0 : World
w0 = measuring_world

abbrev w1 : World
w1 = record w0 {
  tasks = new_task Init Nobody Exited ∷ new_task (Func (record { instance = 0; core = core_func 0 0; options = (record no_options { memory = Some (core_at 0 0); realloc = Some (core_func 0 1) }); func_type = func_type (leaves.String ∷ []) (Some leaves.U32) })) (Host 1 ((plain.String (104 ∷ 195 ∷ 169 ∷ 108 ∷ 108 ∷ 111 ∷ [])) ∷ [])) Acting ∷ [];
  chain = 1 ∷ [];
  control = Lowers (record { inst = 0; memory = Some 0; realloc = Some 1; acts_for = 1; blame = 1; next = Starts }) (field_words (Some leaves.String ∷ []) ((lower_step (entries_by (defines g 0)) (V.String (104 ∷ 195 ∷ 169 ∷ 108 ∷ 108 ∷ 111 ∷ []))) ∷ []) [] (λ words. Gives words));
  units = 1;
  taken = 1;
}

piece1 : far 2 g s w0 ≡ ((line.Take 1 1 (codes "len") (record { value = (plain.String (104 ∷ 195 ∷ 169 ∷ 108 ∷ 108 ∷ 111 ∷ [])); val_type = leaves.String } ∷ []) ∷ line.Enter 1 ∷ []), w1)
unfolding the_rules
piece1 = ap (λ (p : Plan). ((line.Take 1 1 (codes "len") (record { value = (plain.String (104 ∷ 195 ∷ 169 ∷ 108 ∷ 108 ∷ 111 ∷ [])); val_type = leaves.String } ∷ []) ∷ line.Enter 1 ∷ []), planned p w1)) (one_planned (entries_by (defines g 0)) leaves.String (Some leaves.U32) (plain.String (104 ∷ 195 ∷ 169 ∷ 108 ∷ 108 ∷ 111 ∷ [])) (lower_step (entries_by (defines g 0)) (V.String (104 ∷ 195 ∷ 169 ∷ 108 ∷ 108 ∷ 111 ∷ []))) (ap (λ (c : List CoreType). nat_lt flat_param_limit (length (c ++ []))) string_flat) (string_lowered (entries_by (defines g 0)) (104 ∷ 195 ∷ 169 ∷ 108 ∷ 108 ∷ 111 ∷ [])))

abbrev w2 : World
w2 = record w0 {
  store = record w0.store { memories = record { bytes = (replicate 32 0 ++ (104 ∷ 195 ∷ 169 ∷ 108 ∷ 108 ∷ 111 ∷ 0 ∷ 0 ∷ [])); maximum = None } ∷ [] };
  tasks = new_task Init Nobody Exited ∷ record (new_task (Func (record { instance = 0; core = core_func 0 0; options = (record no_options { memory = Some (core_at 0 0); realloc = Some (core_func 0 1) }); func_type = func_type (leaves.String ∷ []) (Some leaves.U32) })) (Host 1 ((plain.String (104 ∷ 195 ∷ 169 ∷ 108 ∷ 108 ∷ 111 ∷ [])) ∷ [])) Acting) { stacks = (Running (record { instance = 0; results = 1; locals = (32 ∷ 6 ∷ []); values = (6 ∷ []); rest = End; labels = [] }) [] ∷ []) } ∷ [];
  chain = 1 ∷ [];
  control = Runs;
  units = 3;
  taken = 1;
}

piece2 : far 7 g s w1 ≡ ([], w2)
unfolding the_rules
piece2 = refl

abbrev w3 : World
w3 = record w0 {
  store = record w0.store { memories = record { bytes = (replicate 32 0 ++ (104 ∷ 195 ∷ 169 ∷ 108 ∷ 108 ∷ 111 ∷ 0 ∷ 0 ∷ [])); maximum = None } ∷ [] };
  tasks = new_task Init Nobody Exited ∷ record (new_task (Func (record { instance = 0; core = core_func 0 0; options = (record no_options { memory = Some (core_at 0 0); realloc = Some (core_func 0 1) }); func_type = func_type (leaves.String ∷ []) (Some leaves.U32) })) (Host 1 ((plain.String (104 ∷ 195 ∷ 169 ∷ 108 ∷ 108 ∷ 111 ∷ [])) ∷ [])) Acting) { resolution = Some Returned } ∷ [];
  chain = 1 ∷ [];
  control = Exits;
  units = 3;
  taken = 1;
}

piece3 : next g s w2 ≡ Steps (line.Return 1 (Some (record { value = (plain.U32 6); val_type = leaves.U32 })) ∷ []) w3
unfolding the_rules
piece3 =
    ap (has_ended g w2 (6 ∷ []) leaves.U32) (result_passed_as 0 1 1 leaves.U32 F.U32 (bytes_of w2.store (Some 0)) (6 ∷ []) (unstacked 1 (with_control Free w2)) refl u32_flat (u32_part (by_world 0 1)))

abbrev w4 : World
w4 = record w0 {
  store = record w0.store { memories = record { bytes = (replicate 32 0 ++ (104 ∷ 195 ∷ 169 ∷ 108 ∷ 108 ∷ 111 ∷ 0 ∷ 0 ∷ [])); maximum = None } ∷ [] };
  tasks = new_task Init Nobody Exited ∷ record (new_task (Func (record { instance = 0; core = core_func 0 0; options = (record no_options { memory = Some (core_at 0 0); realloc = Some (core_func 0 1) }); func_type = func_type (leaves.String ∷ []) (Some leaves.U32) })) (Host 1 ((plain.String (104 ∷ 195 ∷ 169 ∷ 108 ∷ 108 ∷ 111 ∷ [])) ∷ [])) Exited) { resolution = Some Returned } ∷ [];
  units = 3;
  taken = 1;
}

piece4 : far 1 g s w3 ≡ ((line.Exit 1 ∷ []), w4)
unfolding the_rules
piece4 = refl

pub measured_shown : Leaves measuring measuring_script measuring_world measured Done 3 ([] ∷ []) measured_bytes
unfolding the_rules
measured_shown =
    leaves g s w0 w4 _ Done 3 _ _
    (goes_on g s w0 w1 w4 _ _ (walked 2 g s w0 w1 _ piece1)
    (goes_on g s w1 w2 w4 _ _ (walked 7 g s w1 w2 _ piece2)
    (goes_on g s w2 w3 w4 _ _ (stepped g s w2 w3 _ piece3)
    (walked 1 g s w3 w4 _ piece4)))) refl refl refl refl
