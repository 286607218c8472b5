-- What is computed of a component with one inside, and its modules.
use Rattle.std.proofs.Common.{◌≡◌, ℕ, true, false, List, [], ◌∷◌, ◌++◌, refl, sym, ap, ◌∙◌, arith, Some, None, Result, Ok, Err}
use Rattle.std.specs.Prelude.{codes}
use Rattle.std.specs.List.{slice_get}
use Rattle.ca_base.specs.declared.placed.Placed.{Placed}
use Rattle.syntax_trees.specs.declared.module_types.ValType.TheVariants.{I32}
use Rattle.syntax_trees.specs.declared.module_types.FuncType as core
use Rattle.comp_tree.specs.declared.items.Item.{Item}
use Rattle.comp_graph.specs.declared.graph.FuncRef.TheVariants as func_ref
use Rattle.comp_graph.specs.declared.graph.Action.TheVariants.{Begin, Make}
use Rattle.comp_graph.specs.Graph.{CoreMake, no_options}
use Rattle.comp_graph.specs.Closed as closed
use Rattle.link_spec.specs.declared.fault.LinkFault.{LinkFault}
use Rattle.link_spec.specs.Definitions.{Func, Memory, Lifted, Closure, AFunc, Exports, EmptyInstance, WithExport}
use Rattle.syntax_trees.specs.declared.types.ValType.TheViews.{outs-U32}
use Rattle.syntax_trees.specs.declared.module.ModuleTree.{ModuleTree}
use Rattle.wasm_typing.specs.Modules.{Typed}
use Rattle.wasm_typing.specs.Finding.{first_fault}
use Rattle.wasm_typing.proofs.Deciding.{fault_free}
use Rattle.comp_tree.specs.declared.types.FuncType.{FuncType}
use Rattle.comp_tree.specs.declared.types.DefType.TheOpen.{DefType-F}
use Rattle.comp_tree.specs.declared.types.DefType.TheViews.{outs-Func, rolls-Func}
use Rattle.comp_tree.specs.declared.types.DefType.TheFolds.{fold-roll-DefType}
use Rattle.comp_tree.specs.declared.types.DefType.TheVariants as plain_type
use Rattle.comp_tree.specs.declared.items.Item.TheViews.{outs-CoreModule, outs-CoreInstance, outs-Canon, outs-Alias, outs-Export, outs-Type, outs-Instance, outs-Component}
use Rattle.link_spec.specs.Spaces.{Spaces, new_spaces, Linking, Level}
use Rattle.link_spec.specs.Types.{InLevels, Declared, func_meaning, types_around, type_step, decl_step, meaning_of}
use Rattle.link_spec.specs.Linked.{root_begun}
use Rattle.link_spec.specs.Computed.{after, Run, step, run, run_within, answer_of, linked}
use Rattle.link_spec.specs.Examples.{placed_from, root, of_one}
use Rattle.link_spec.proofs.Holding.{all_both}
use Rattle.link_spec.proofs.Samples.{u32_flat, u32_holds_no_list, u32_holds_no_borrow}
use Rattle.graph_laws.specs.Laws.{IsSoundModule}
use Rattle.graph_laws.specs.Examples.{of_caller, making, exporting, child, begins, lowering, calling, lifting, parent, gives_u32, func_at, both, ModulesAreSound}
use Rattle.graph_laws.proofs.ModulesRead.{ItemHas, PlacedHave, module_has, nested_has, core_instance_has, instance_has, alias_has, type_has, canon_has, export_has, placed_have}

func_rolled : (type : FuncType) (levels : List Level) → meaning_of (plain_type.Func type) levels ≡ func_meaning (types_around levels) type
func_rolled type levels =
    ap (λ t. meaning_of t levels) (sym (rolls-Func type)) ∙ ap (λ (f : InLevels). f levels) (fold-roll-DefType InLevels (List Level → Declared → Declared) type_step decl_step (DefType-F.Func type))

ruleset layers = (outs-CoreModule, outs-CoreInstance, outs-Canon, outs-U32, outs-Alias, outs-Export, outs-Type, outs-Instance, outs-Component, outs-Func, func_rolled, u32_flat, u32_holds_no_list, u32_holds_no_borrow)

ok_same : {A E : Type 0} (x y : A) → ◌≡◌ {A = Result A E} (Ok x) (Ok y) → x ≡ y
ok_same x y h = cc

-- Items in pieces, each behind those before it.
run_after : (inside : Run) (n : ℕ) (items more : List (Placed Item)) (next : Linking) (r : Result Linking LinkFault) → ((l : Linking) → run inside l n items ≡ Ok next → run inside l n (items ++ more) ≡ run inside next n more)
    → after r (λ l. run inside l n items) ≡ Ok next → after r (λ l. run inside l n (items ++ more)) ≡ run inside next n more
run_after inside n items more next (Ok l) h e = h l e
run_after inside n items more next (Err fault) h e = cc

run_more : (inside : Run) (n : ℕ) (items more : List (Placed Item)) (l next : Linking) → run inside l n items ≡ Ok next → run inside l n (items ++ more) ≡ run inside next n more
run_more inside n [] more l next e = ap (λ l. run inside l n more) (ok_same l next e)
run_more inside n (placed ∷ items) more l next e =
    run_after inside n items more next (step inside l n placed (slice_get l.scopes n)) (λ m k. run_more inside n items more m next k) e

-- The component inside.
abbrev lifted : Lifted
lifted = record { instance = 1; core = func_at 0 0; options = no_options; func_type = gives_u32 }

abbrev gives_i32 : core.FuncType
gives_i32 = record { params = []; results = I32 ∷ [] }

abbrev takes_i32 : core.FuncType
takes_i32 = record { params = I32 ∷ []; results = [] }

abbrev closure : Closure
closure = record { items = placed_from 10 child; around = 0 ∷ [] }

abbrev child_exports : Exports
child_exports = WithExport EmptyInstance (codes "one") (AFunc lifted)

abbrev child_spaces : Spaces
child_spaces = record (new_spaces (Some EmptyInstance) (0 ∷ [])) {
  core_modules = of_one ∷ [];
  core_instances =
      (record { name = codes "one"; item = Func (func_at 0 0) gives_i32 } ∷ record { name = codes "memory"; item = Memory (record { instance = 0; index = 0 }) (record { min = 1; max = None }) } ∷ []) ∷ [];
  core_funcs = Func (func_at 0 0) gives_i32 ∷ [];
  funcs = lifted ∷ lifted ∷ [];
  types = closed.Func gives_u32 ∷ [];
  exports = child_exports;
}

abbrev root_spaces : Spaces
root_spaces = record (new_spaces None []) { components = closure ∷ [] }

abbrev one_core : CoreMake
one_core = record { of_module = of_one; imports = []; owner = 1 }

abbrev child_begun : Linking
child_begun = record { scopes = root_spaces ∷ new_spaces (Some EmptyInstance) (0 ∷ []) ∷ []; cores = []; canons = []; resources = []; plan = Begin 0 ∷ Begin 1 ∷ []; end_types = []; has_room = true }

abbrev child_linked : Spaces → Linking
child_linked s = record { scopes = s ∷ child_spaces ∷ []; cores = one_core ∷ []; canons = []; resources = []; plan = Begin 0 ∷ Begin 1 ∷ Make 0 ∷ []; end_types = []; has_room = true }

child_runs : (inside : Run) → run inside child_begun 1 (placed_from 10 child) ≡ Ok (child_linked root_spaces)
child_runs inside = simp layers refl

-- The component around it.
abbrev with_child : Spaces
with_child = record root_spaces { instances = child_exports ∷ [] }

begins_child : (inside : Run) → inside child_begun 1 (placed_from 10 child) ≡ Ok (child_linked root_spaces) → run inside root_begun 0 (placed_from 0 begins) ≡ Ok (child_linked with_child)
begins_child inside h = simp (outs-Component, outs-Instance, h) refl

abbrev with_lowered : Spaces
with_lowered = record with_child {
  funcs = lifted ∷ [];
  core_funcs = Func (func_ref.Canon 0) gives_i32 ∷ [];
  core_instances = (record { name = codes "one"; item = Func (func_ref.Canon 0) gives_i32 } ∷ []) ∷ [];
}

abbrev lowered_linked : Linking
lowered_linked = record (child_linked with_lowered) { canons = both.canons }

lowers_one : (inside : Run) → run inside (child_linked with_child) 0 (placed_from 2 lowering) ≡ Ok lowered_linked
lowers_one inside = simp layers refl

abbrev with_caller : Spaces
with_caller = record with_lowered {
  core_modules = of_caller ∷ [];
  core_instances =
      (record { name = codes "one"; item = Func (func_ref.Canon 0) gives_i32 } ∷ [])
      ∷ (record { name = codes "run"; item = Func (func_at 1 1) gives_i32 } ∷ record { name = codes "end"; item = Func (func_at 1 2) takes_i32 } ∷ [])
      ∷ [];
  core_funcs = Func (func_ref.Canon 0) gives_i32 ∷ Func (func_at 1 1) gives_i32 ∷ Func (func_at 1 2) takes_i32 ∷ [];
}

abbrev all_made : Spaces → Linking
all_made s = record { scopes = s ∷ child_spaces ∷ []; cores = both.cores; canons = both.canons; resources = []; plan = both.plan; end_types = []; has_room = true }

calls_one : (inside : Run) → run inside lowered_linked 0 (placed_from 5 calling) ≡ Ok (all_made with_caller)
calls_one inside = simp layers refl

abbrev run_lifted : Lifted
run_lifted = record { instance = 0; core = func_at 1 1; options = record { memory = None; realloc = None; post_return = Some (func_at 1 2); callback = None; is_async = false }; func_type = gives_u32 }

abbrev with_export : Spaces
with_export = record with_caller {
  funcs = lifted ∷ run_lifted ∷ run_lifted ∷ [];
  types = closed.Func gives_u32 ∷ [];
  exports = WithExport EmptyInstance (codes "run") (AFunc run_lifted);
}

lifts_run : (inside : Run) → run inside (all_made with_caller) 0 (placed_from 9 lifting) ≡ Ok (all_made with_export)
lifts_run inside = simp layers refl

both_computed : (inside : Run) → inside child_begun 1 (placed_from 10 child) ≡ Ok (child_linked root_spaces) → run inside root_begun 0 (root parent).items ≡ Ok (all_made with_export)
both_computed inside h =
    run_more inside 0 (placed_from 0 begins) (placed_from 2 (lowering ++ calling ++ lifting)) root_begun (child_linked with_child) (begins_child inside h)
    ∙ run_more inside 0 (placed_from 2 lowering) (placed_from 5 (calling ++ lifting)) (child_linked with_child) lowered_linked (lowers_one inside)
    ∙ run_more inside 0 (placed_from 5 calling) (placed_from 9 lifting) lowered_linked (all_made with_caller) (calls_one inside)
    ∙ lifts_run inside

pub both_linked : linked (root parent) ≡ Ok both
both_linked = ap answer_of (both_computed (run_within 255) (child_runs (run_within 254)))

-- The modules.
typed : (m : ModuleTree) → first_fault m ≡ None → Typed m
typed m e = (fault_free m).0 e

one_sound : IsSoundModule of_one
one_sound = record { typed = typed of_one refl; in_range = (omega arith, tt); bytes = tt }

caller_sound : IsSoundModule of_caller
caller_sound = record { typed = typed of_caller refl; in_range = (omega arith, tt); bytes = ((omega arith, tt), tt) }

child_have : PlacedHave IsSoundModule (placed_from 10 child)
child_have =
    all_both (λ (p : Placed Item). ItemHas IsSoundModule p.item) (placed_from 10 making) (placed_from 13 exporting)
    (module_has IsSoundModule of_one one_sound, (core_instance_has IsSoundModule _, (alias_has IsSoundModule _, tt)))
    (type_has IsSoundModule _, (canon_has IsSoundModule _, (export_has IsSoundModule _, tt)))

begins_have : PlacedHave IsSoundModule (placed_from 0 begins)
begins_have = (nested_has IsSoundModule _ (placed_have IsSoundModule (placed_from 10 child) child_have), (instance_has IsSoundModule _, tt))

lowering_have : PlacedHave IsSoundModule (placed_from 2 lowering)
lowering_have = (alias_has IsSoundModule _, (canon_has IsSoundModule _, (core_instance_has IsSoundModule _, tt)))

calling_have : PlacedHave IsSoundModule (placed_from 5 calling)
calling_have = (module_has IsSoundModule of_caller caller_sound, (core_instance_has IsSoundModule _, (alias_has IsSoundModule _, (alias_has IsSoundModule _, tt))))

lifting_have : PlacedHave IsSoundModule (placed_from 9 lifting)
lifting_have = (type_has IsSoundModule _, (canon_has IsSoundModule _, (export_has IsSoundModule _, tt)))

parent_have : PlacedHave IsSoundModule (root parent).items
parent_have =
    all_both (λ (p : Placed Item). ItemHas IsSoundModule p.item) (placed_from 0 begins) (placed_from 2 (lowering ++ calling ++ lifting)) begins_have
    (all_both (λ (p : Placed Item). ItemHas IsSoundModule p.item) (placed_from 2 lowering) (placed_from 5 (calling ++ lifting)) lowering_have
    (all_both (λ (p : Placed Item). ItemHas IsSoundModule p.item) (placed_from 5 calling) (placed_from 9 lifting) calling_have lifting_have))

pub modules_are_sound : ModulesAreSound
modules_are_sound = placed_have IsSoundModule (root parent).items parent_have
