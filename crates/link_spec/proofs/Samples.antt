-- Small components, item by item: items are taken by their outer layers, and types by their folds.
use Rattle.std.proofs.Common.{◌≡◌, ◌∙◌, sym, ap, refl, ℕ, Bool, true, false, map, List, [], ◌∷◌, None, Some}
use Rattle.std.specs.Prelude.{Ok, Result, codes}
use Rattle.syntax_trees.specs.declared.core_type.CoreType.{CoreType}
use Rattle.syntax_trees.specs.declared.core_type.CoreType.TheVariants.{I32}
use Rattle.syntax_trees.specs.declared.types.ValType.TheOpen as F
use Rattle.syntax_trees.specs.declared.types.ValType.TheVariants as val_type
use Rattle.syntax_trees.specs.declared.types.ValType.TheViews.{outs-U32, rolls-U32, rolls-String}
use Rattle.syntax_trees.specs.declared.types.ValType.TheFolds.{fold-roll-ValType}
use Rattle.syntax_trees.specs.Ends.{end_case, end_field}
use Rattle.syntax_trees.specs.Flat.{flat, flat_step, flat_case, flat_field}
use Rattle.laid_types.specs.Lists.{has_list, list_step}
use Rattle.laid_types.specs.Handles.{has_borrow, borrow_step}
use Rattle.syntax_trees.specs.declared.module_types.ValType.TheVariants as core
use Rattle.comp_graph.specs.Graph.{Graph, no_options}
use Rattle.comp_graph.specs.Needs.{lifted_type, lowered_type, lift_type, lower_type, needs_memory, lift_needs_memory, lift_needs_realloc, lower_needs_memory, lower_needs_realloc}
use Rattle.comp_graph.specs.declared.graph.BuiltinKind.TheVariants as builtin
use Rattle.comp_tree.specs.declared.builtins.CanonBuiltin.TheVariants as read_builtin
use Rattle.builtin_kinds.specs.declared.PlainBuiltin.TheVariants as plain_builtin
use Rattle.builtin_kinds.specs.declared.ResourceOp.TheVariants as resource_op
use Rattle.builtin_kinds.specs.declared.ContextOp.TheVariants as context_op
use Rattle.builtin_kinds.specs.declared.WaitOp.TheVariants as wait_op
use Rattle.comp_tree.specs.declared.instances.Sort.TheVariants as sorts
use Rattle.comp_tree.specs.declared.externs.ExternDesc.{ExternDesc}
use Rattle.comp_tree.specs.declared.externs.ExternDesc.TheVariants as desc
use Rattle.comp_tree.specs.declared.types.FuncType.{FuncType}
use Rattle.comp_tree.specs.declared.types.ValTypeRef.TheVariants as type_ref
use Rattle.comp_tree.specs.declared.types.PrimValType.TheVariants.{U32, String}
use Rattle.comp_tree.specs.declared.types.DefValType.{DefValType}
use Rattle.comp_tree.specs.declared.types.DefValType.TheVariants as value
use Rattle.comp_tree.specs.declared.types.DefType.TheOpen.{DefType-F, InstanceDecl-F}
use Rattle.comp_tree.specs.declared.types.DefType.TheViews.{outs-Value, outs-Func, outs-Instance as outs-InstanceType, outs-Resource, rolls-Func, rolls-Export, rolls-Instance, rolls-Type, rolls-Value}
use Rattle.comp_tree.specs.declared.types.DefType.TheFolds.{fold-InstanceDecl, fold-roll-DefType, fold-roll-InstanceDecl}
use Rattle.comp_tree.specs.declared.types.DefType.{DefType}
use Rattle.comp_tree.specs.declared.types.DefType.TheViews as def_type
use Rattle.comp_tree.specs.declared.types.DefType.TheVariants as plain_type
use Rattle.comp_tree.specs.declared.types.InstanceDecl.{InstanceDecl}
use Rattle.comp_tree.specs.declared.items.CanonOption.TheVariants as option
use Rattle.comp_tree.specs.declared.items.Item.TheVariants as plain
use Rattle.comp_tree.specs.declared.items.Item.TheViews.{outs-CoreModule, outs-CoreInstance, outs-Canon, outs-Import, outs-Alias, outs-Export, outs-Type, outs-Instance, outs-Component}
use Rattle.comp_tree.specs.declared.items.Component.{Component}
use Rattle.link_spec.specs.declared.fault.LinkFault.{LinkFault}
use Rattle.link_spec.specs.declared.fault.LinkWhy.TheVariants as why
use Rattle.comp_graph.specs.Closed.{Value, Instance, OfType, EmptyType, WithExtern}
use Rattle.link_spec.specs.Spaces.{Level}
use Rattle.link_spec.specs.Types.{meant, InLevels, Declared, nothing_declared, declared_by, instance_meaning, own_level, with_type, with_export, func_meaning, types_around, type_step, decl_step, meaning_of}
use Rattle.link_spec.specs.ValueTypes.{value_meaning}
use Rattle.link_spec.specs.Linked.{root_begun}
use Rattle.link_spec.specs.Computed.{Run, run, run_within, answer_of, linked}
use Rattle.link_spec.specs.Same.{same_val}
use Rattle.link_spec.proofs.Depths.{leaf_depth}
use Rattle.link_spec.proofs.SameValues.{val_told}
use Rattle.link_spec.specs.Examples.{root, fault, u32, of_types, import, outer, export_type, wanting, instantiate, giving_both, begins, of_one, make_with_absent, lifting, lifting_twice, with_memory, callable_as, lowering, lowering_string, taking_string, giving_string, passing, passed, returning, built, making, resource, of_resource, using, used, defining_twice, defined_twice, taking_outer, taken_outer, with_async, with_callback}

pub value_rolled : (type : DefValType) (levels : List Level) → meaning_of (plain_type.Value type) levels ≡ value_meaning (types_around levels) type
value_rolled type levels =
    ap (λ t. meaning_of t levels) (sym (rolls-Value type)) ∙ ap (λ (f : InLevels). f levels) (fold-roll-DefType InLevels (List Level → Declared → Declared) type_step decl_step (DefType-F.Value type))

u32_rolled : (levels : List Level) → meaning_of u32 levels ≡ meant (Some (Value val_type.U32))
u32_rolled levels = value_rolled (value.Primitive U32) levels ∙ rw (leaf_depth U32) refl

abbrev pub folded_decl : InstanceDecl → List Level → Declared → Declared
folded_decl = fold-InstanceDecl InLevels (List Level → Declared → Declared) type_step decl_step

pub instance_rolled : (decls : List InstanceDecl) (levels : List Level) → meaning_of (def_type.Instance decls) levels ≡ instance_meaning (declared_by levels nothing_declared (map folded_decl decls))
instance_rolled decls levels =
    ap (λ t. meaning_of t levels) (sym (rolls-Instance decls))
    ∙ ap (λ (f : InLevels). f levels) (fold-roll-DefType InLevels (List Level → Declared → Declared) type_step decl_step (DefType-F.Instance decls))

pub type_rolled : (type : DefType) (around : List Level) (d : Declared) → folded_decl (plain_type.Type type) around d ≡ with_type d (meaning_of type (own_level d ∷ around))
type_rolled type around d =
    ap (λ (f : List Level → Declared → Declared). f around d)
    (ap folded_decl (sym (rolls-Type type)) ∙ fold-roll-InstanceDecl InLevels (List Level → Declared → Declared) type_step decl_step (InstanceDecl-F.Type type))

pub export_rolled : (name : List ℕ) (asked : ExternDesc) (around : List Level) (d : Declared) → folded_decl (plain_type.Export name asked) around d ≡ with_export d name asked
export_rolled name asked around d =
    ap (λ (f : List Level → Declared → Declared). f around d)
    (ap folded_decl (sym (rolls-Export name asked)) ∙ fold-roll-InstanceDecl InLevels (List Level → Declared → Declared) type_step decl_step (InstanceDecl-F.Export name asked))

-- an instance type without exports, and one with one export
no_exports : (levels : List Level) → meaning_of (of_types []) levels ≡ meant (Some (Instance EmptyType))
no_exports levels = instance_rolled (plain_type.Type u32 ∷ []) levels ∙ simp (type_rolled, u32_rolled) refl

one_export : (levels : List Level) → meaning_of (of_types (codes "a" ∷ [])) levels ≡ meant (Some (Instance (WithExtern EmptyType (codes "a") (OfType (Value val_type.U32)))))
one_export levels = instance_rolled (plain_type.Type u32 ∷ plain_type.Export (codes "a") (desc.TypeEq 0) ∷ []) levels ∙ simp (type_rolled, export_rolled, u32_rolled) refl

u32_same : same_val val_type.U32 val_type.U32 ≡ true
u32_same = (val_told val_type.U32 val_type.U32).1 refl

func_rolled : (type : FuncType) (levels : List Level) → meaning_of (plain_type.Func type) levels ≡ func_meaning (types_around levels) type
func_rolled type levels =
    ap (λ t. meaning_of t levels) (sym (rolls-Func type)) ∙ ap (λ (f : InLevels). f levels) (fold-roll-DefType InLevels (List Level → Declared → Declared) type_step decl_step (DefType-F.Func type))

pub u32_flat : flat val_type.U32 ≡ I32 ∷ []
u32_flat = ap flat (sym rolls-U32) ∙ fold-roll-ValType (List CoreType) (List CoreType) (List CoreType) flat_step flat_case flat_field F.U32

pub u32_holds_no_list : has_list val_type.U32 ≡ false
u32_holds_no_list = ap has_list (sym rolls-U32) ∙ fold-roll-ValType Bool Bool Bool list_step end_case end_field F.U32

pub u32_holds_no_borrow : has_borrow val_type.U32 ≡ false
u32_holds_no_borrow = ap has_borrow (sym rolls-U32) ∙ fold-roll-ValType Bool Bool Bool borrow_step end_case end_field F.U32

string_holds_no_borrow : has_borrow val_type.String ≡ false
string_holds_no_borrow = ap has_borrow (sym rolls-String) ∙ fold-roll-ValType Bool Bool Bool borrow_step end_case end_field F.String

ruleset layers = (outs-CoreModule, outs-CoreInstance, outs-Canon, outs-U32, func_rolled, outs-Import, outs-Alias, outs-Export, outs-Type, outs-Instance, outs-Component, outs-Value, outs-Func, outs-InstanceType, outs-Resource, u32_rolled, no_exports, one_export, u32_same, u32_flat, u32_holds_no_list, u32_holds_no_borrow, string_holds_no_borrow)

-- what is computed, whatever is computed of the components that begin, or of those that begin inside these
pub linked_by : (c : Component) (r : Result Graph LinkFault) → ((inside : Run) → answer_of (run inside root_begun 0 c.items) ≡ r) → linked c ≡ r
linked_by c r h = h (run_within 255)

pub linked_inside : (c : Component) (r : Result Graph LinkFault) → ((inside : Run) → answer_of (run (run inside) root_begun 0 c.items) ≡ r) → linked c ≡ r
linked_inside c r h = h (run_within 254)

-- faults of one item
pub function_imported : (inside : Run) → answer_of (run inside root_begun 0 (root (import (desc.Func 0) ∷ [])).items) ≡ fault 0 why.RootImport
function_imported inside = simp layers refl

pub too_far : (inside : Run) → answer_of (run inside root_begun 0 (root (outer sorts.Type 1 0 ∷ [])).items) ≡ fault 0 why.Index
too_far inside = simp layers refl

pub twice : (inside : Run) → answer_of (run inside root_begun 0 (root (plain.Type u32 ∷ export_type (codes "a") ∷ export_type (codes "a") ∷ [])).items) ≡ fault 2 why.Typing
twice inside = simp layers refl

-- instances of components
pub wanting_missing : (inside : Run) → answer_of (run (run inside) root_begun 0 (root (wanting ∷ instantiate ∷ [])).items) ≡ fault 11 (why.Missing (codes "in"))
wanting_missing inside = simp layers refl

pub not_asked : (inside : Run) → answer_of (run (run inside) root_begun 0 (giving_both (codes "b")).items) ≡ fault 12 (why.Missing (codes "b"))
not_asked inside = simp layers refl

-- what is linked
pub never_begun : (inside : Run) → answer_of (run inside root_begun 0 (root (wanting ∷ [])).items) ≡ begins (0 ∷ [])
never_begun inside = simp layers refl

pub asked : (inside : Run) → answer_of (run (run inside) root_begun 0 (giving_both (codes "a")).items) ≡ begins (0 ∷ 1 ∷ [])
asked inside = simp layers refl

-- core instances
pub lifts_one : (inside : Run) → answer_of (run inside root_begun 0 (root (lifting [])).items) ≡ Ok (callable_as no_options (codes "run" ∷ []))
lifts_one inside = simp layers refl

pub lifts_twice : (inside : Run) → answer_of (run inside root_begun 0 (root lifting_twice).items) ≡ Ok (callable_as no_options (codes "a#run" ∷ codes "a#run" ∷ []))
lifts_twice inside = simp layers refl

pub lifts_with_memory : (inside : Run) → answer_of (run inside root_begun 0 (root (lifting (option.Memory 0 ∷ []))).items) ≡ Ok (callable_as with_memory (codes "run" ∷ []))
lifts_with_memory inside = simp layers refl

pub memory_twice : (inside : Run) → answer_of (run inside root_begun 0 (root (lifting (option.Memory 0 ∷ option.Memory 0 ∷ []))).items) ≡ fault 5 why.Canon
memory_twice inside = simp layers refl

pub callback_alone : (inside : Run) → answer_of (run inside root_begun 0 (root (lifting (option.Callback 0 ∷ []))).items) ≡ fault 5 why.Canon
callback_alone inside = simp layers refl

pub result_given : (inside : Run) → answer_of (run inside root_begun 0 (root (lifting (option.Async ∷ []))).items) ≡ fault 5 why.Canon
result_given inside = simp layers refl

pub absent_argument : (inside : Run) → answer_of (run inside root_begun 0 (root (plain.CoreModule of_one ∷ make_with_absent ∷ [])).items) ≡ fault 1 why.Index
absent_argument inside = simp layers refl

-- functions that are lowered
string_flat : flat val_type.String ≡ I32 ∷ I32 ∷ []
string_flat = ap flat (sym rolls-String) ∙ fold-roll-ValType (List CoreType) (List CoreType) (List CoreType) flat_step flat_case flat_field F.String

string_holds_list : has_list val_type.String ≡ true
string_holds_list = ap has_list (sym rolls-String) ∙ fold-roll-ValType Bool Bool Bool list_step end_case end_field F.String

pub passes_one : (inside : Run) → answer_of (run inside root_begun 0 (root passing).items) ≡ Ok passed
passes_one inside = simp layers refl

pub no_function : (inside : Run) → answer_of (run inside root_begun 0 (root (lowering 1 [])).items) ≡ fault 6 why.Index
no_function inside = simp layers refl

pub no_memory : (inside : Run) → answer_of (run inside root_begun 0 (root (lowering_string [])).items) ≡ fault 6 why.Canon
no_memory inside = simp (layers, string_flat, string_holds_list) refl

pub no_realloc : (inside : Run) → answer_of (run inside root_begun 0 (root (lowering_string (option.Memory 0 ∷ []))).items) ≡ fault 6 why.Canon
no_realloc inside = simp (layers, string_flat, string_holds_list) refl

pub post_return : (inside : Run) → answer_of (run inside root_begun 0 (root (lowering 0 (option.PostReturn 0 ∷ []))).items) ≡ fault 6 why.Canon
post_return inside = simp layers refl

-- what lifts and lowers of functions of strings need
pub string_needs_memory : needs_memory taking_string ≡ true
string_needs_memory = simp (string_flat, string_holds_list) refl

pub string_needs_no_place : lower_needs_realloc taking_string ≡ false
string_needs_no_place = refl

pub string_needs_place : lift_needs_realloc taking_string ≡ true
string_needs_place = simp (string_flat, string_holds_list) refl

pub string_lowered : lowered_type giving_string ≡ record { params = core.I32 ∷ []; results = [] }
string_lowered = rw string_flat refl

pub string_lifted : lifted_type giving_string ≡ record { params = []; results = core.I32 ∷ [] }
string_lifted = rw string_flat refl

-- what the kinds of lifts and lowers of a function that gives a string need
pub async_lifted : lift_type with_async giving_string ≡ record { params = []; results = [] }
async_lifted = refl

pub called_back : lift_type with_callback giving_string ≡ record { params = []; results = core.I32 ∷ [] }
called_back = refl

pub async_needs_no_memory : lift_needs_memory true giving_string ≡ false
async_needs_no_memory = refl

pub async_lowered : lower_type true giving_string ≡ record { params = core.I32 ∷ []; results = core.I32 ∷ [] }
async_lowered = rw string_flat refl

pub async_needs_memory : lower_needs_memory true giving_string ≡ true
async_needs_memory = simp (string_flat, string_holds_list) refl

-- built-ins
pub set_made : (inside : Run) → answer_of (run inside root_begun 0 (built (read_builtin.Plain plain_builtin.WaitableSetNew)).items) ≡ making (builtin.Plain plain_builtin.WaitableSetNew)
set_made inside = simp layers refl

pub word_set : (inside : Run) → answer_of (run inside root_begun 0 (built (read_builtin.Context context_op.Set 1)).items) ≡ making (builtin.Context context_op.Set 1)
word_set inside = simp layers refl

pub no_word : (inside : Run) → answer_of (run inside root_begun 0 (built (read_builtin.Context context_op.Set 2)).items) ≡ fault 0 why.Canon
no_word inside = simp layers refl

pub no_event_memory : (inside : Run) → answer_of (run inside root_begun 0 (built (read_builtin.Wait wait_op.Poll false 0)).items) ≡ fault 0 why.Index
no_event_memory inside = simp layers refl

pub nothing_returned : (inside : Run) → answer_of (run inside root_begun 0 (built (returning None)).items) ≡ making (builtin.TaskReturn None no_options)
nothing_returned inside = simp layers refl

pub no_result_type : (inside : Run) → answer_of (run inside root_begun 0 (built (returning (Some (type_ref.Index 0)))).items) ≡ fault 0 why.Index
no_result_type inside = simp layers refl

pub no_result_memory : (inside : Run) → answer_of (run inside root_begun 0 (built (returning (Some (type_ref.Primitive String)))).items) ≡ fault 0 why.Canon
no_result_memory inside = simp (layers, string_flat, string_holds_list) refl

-- resources
pub resource_used : (inside : Run) → answer_of (run inside root_begun 0 (using resource_op.New).items) ≡ used resource_op.New
resource_used inside = simp layers refl

pub two_defined : (inside : Run) → answer_of (run (run inside) root_begun 0 defining_twice.items) ≡ defined_twice
two_defined inside = simp layers refl

pub outer_dropped : (inside : Run) → answer_of (run (run inside) root_begun 0 (taking_outer resource_op.Drop).items) ≡ taken_outer
outer_dropped inside = simp layers refl

pub outer_not_made : (inside : Run) → answer_of (run (run inside) root_begun 0 (taking_outer resource_op.New).items) ≡ fault 11 why.Canon
outer_not_made inside = simp layers refl

pub no_destructor : (inside : Run) → answer_of (run inside root_begun 0 (root (resource (Some 0) ∷ [])).items) ≡ fault 0 why.Index
no_destructor inside = simp layers refl

pub no_resource : (inside : Run) → answer_of (run inside root_begun 0 (root (plain.Type u32 ∷ of_resource resource_op.Rep ∷ [])).items) ≡ fault 1 why.Typing
no_resource inside = simp layers refl
