-- A component with a component inside (Component Model, Explainer.md, "Instance Definitions" and "Canonical Definitions"), and the graph
-- to which it is linked.
use Rattle.std.specs.Prelude.{pos, codes, ℕ, false, List, [], ◌∷◌, ◌++◌, Some, None}
use Rattle.syntax_trees.specs.declared.types.ValType.TheVariants as val_type
use Rattle.syntax_trees.specs.declared.types.FuncType as of_graph
use Rattle.syntax_trees.specs.declared.module_types.ValType.TheVariants.{I32}
use Rattle.syntax_trees.specs.declared.instr.Instr.TheVariants.{Call}
use Rattle.syntax_trees.specs.declared.instr.ConstInstr.TheVariants.{I32Const}
use Rattle.syntax_trees.specs.declared.module.ExportDesc.TheVariants as offered
use Rattle.syntax_trees.specs.declared.module.ImportDesc.TheVariants as wanted
use Rattle.syntax_trees.specs.declared.module.ModuleTree.{ModuleTree}
use Rattle.syntax_trees.specs.Expr.{Plain, End}
use Rattle.comp_tree.specs.declared.core_instances.CoreSort.TheVariants as core_sort
use Rattle.comp_tree.specs.declared.core_instances.CoreInstance.TheVariants as made_core
use Rattle.comp_tree.specs.declared.instances.Sort.TheVariants as sorts
use Rattle.comp_tree.specs.declared.instances.AliasTarget.TheVariants as target
use Rattle.comp_tree.specs.declared.types.ValTypeRef.TheVariants as type_ref
use Rattle.comp_tree.specs.declared.types.PrimValType.TheVariants.{U32}
use Rattle.comp_tree.specs.declared.types.FuncType as written
use Rattle.comp_tree.specs.declared.types.DefType.TheVariants as plain_type
use Rattle.comp_tree.specs.declared.items.CanonOption.TheVariants.{PostReturn}
use Rattle.comp_tree.specs.declared.items.Canon.TheVariants.{Lift, Lower}
use Rattle.comp_tree.specs.declared.items.Item.{Item}
use Rattle.comp_tree.specs.declared.items.Item.TheVariants as plain
use Rattle.comp_graph.specs.declared.graph.FuncRef.{FuncRef}
use Rattle.comp_graph.specs.declared.graph.FuncRef.TheVariants as func_ref
use Rattle.comp_graph.specs.declared.graph.CoreExtern.TheVariants as extern
use Rattle.comp_graph.specs.declared.graph.Action.TheVariants.{Begin, Make}
use Rattle.comp_graph.specs.declared.graph.CanonFunc.TheVariants as canon_func
use Rattle.comp_graph.specs.Graph.{Graph, no_options}
use Rattle.link_spec.specs.Linked.{IsLinked}
use Rattle.link_spec.specs.Examples.{root, inside, of_one, instantiate}
use Rattle.graph_laws.specs.Laws.{HasSoundModules}

-- A core module that imports a function, which gives an i32, and exports one that calls it, and one that takes what it gives. Its
-- memory begins with a byte of data.
abbrev pub of_caller : ModuleTree
of_caller = record {
  types = record { params = []; results = I32 ∷ [] } ∷ record { params = I32 ∷ []; results = [] } ∷ [];
  imports = record { «module» = codes "in"; name = codes "one"; desc = wanted.Func 0 } ∷ [];
  funcs = record { type_index = 0; locals = []; body = Plain (Call 0) End } ∷ record { type_index = 1; locals = []; body = End } ∷ [];
  tables = [];
  memories = record { min = 1; max = None } ∷ [];
  globals = [];
  exports = record { name = codes "run"; desc = offered.Func 1 } ∷ record { name = codes "end"; desc = offered.Func 2 } ∷ [];
  start = None;
  element_segments = [];
  data_segments = record { memory = 0; offset = I32Const (pos 0) ∷ []; bytes = 255 ∷ [] } ∷ [];
}

-- Items: a core instance of the first core module; the core function that a core instance exports; the type of functions that give a
-- u32; an export of the function of an index.
abbrev pub make : Item
make = plain.CoreInstance (made_core.Instantiate 0 [])

abbrev pub core_func : ℕ → List ℕ → Item
core_func instance name = plain.Alias (record { sort = sorts.Core core_sort.Func; target = target.CoreInstanceExport instance name })

abbrev pub giving : written.FuncType
giving = record { params = []; result = Some (type_ref.Primitive U32) }

abbrev pub export_func : List ℕ → ℕ → Item
export_func name index = plain.Export (record { name = name; sort = sorts.Func; index = index; desc = None })

-- The component inside lifts and exports a function of its core instance.
abbrev pub making : List Item
making = plain.CoreModule of_one ∷ make ∷ core_func 0 (codes "one") ∷ []

abbrev pub exporting : List Item
exporting = plain.Type (plain_type.Func giving) ∷ plain.Canon (Lift 0 [] 0) ∷ export_func (codes "one") 0 ∷ []

abbrev pub child : List Item
child = making ++ exporting

-- The component around it lowers this function, passes it to its own core instance, and lifts a function of that one, with the other
-- one as its post-return.
abbrev pub begins : List Item
begins = inside child ∷ instantiate ∷ []

abbrev pub lowering : List Item
lowering =
    plain.Alias (record { sort = sorts.Func; target = target.InstanceExport 0 (codes "one") })
    ∷ plain.Canon (Lower 0 [])
    ∷ plain.CoreInstance (made_core.Inline (record { name = codes "one"; sort = core_sort.Func; index = 0 } ∷ []))
    ∷ []

abbrev pub calling : List Item
calling =
    plain.CoreModule of_caller
    ∷ plain.CoreInstance (made_core.Instantiate 0 (record { name = codes "in"; instance = 0 } ∷ []))
    ∷ core_func 1 (codes "run")
    ∷ core_func 1 (codes "end")
    ∷ []

abbrev pub lifting : List Item
lifting = plain.Type (plain_type.Func giving) ∷ plain.Canon (Lift 1 (PostReturn 2 ∷ []) 0) ∷ export_func (codes "run") 1 ∷ []

abbrev pub parent : List Item
parent = begins ++ lowering ++ calling ++ lifting

-- The graph: the core instance of the component inside comes first, and component instance 1 is its owner.
abbrev pub gives_u32 : of_graph.FuncType
gives_u32 = record { params = []; result = Some val_type.U32 }

abbrev pub func_at : ℕ → ℕ → FuncRef
func_at instance index = func_ref.Instance (record { instance = instance; index = index })

abbrev pub both : Graph
both = record {
  plan = Begin 0 ∷ Begin 1 ∷ Make 0 ∷ Make 1 ∷ [];
  instance_count = 2;
  cores =
      record { of_module = of_one; imports = []; owner = 1 }
      ∷ record { of_module = of_caller; imports = extern.Func (func_ref.Canon 0) ∷ []; owner = 0 }
      ∷ [];
  canons =
      canon_func.Lower (record {
        instance = 0;
        lift = record { instance = 1; core = func_at 0 0; options = no_options };
        func_type = gives_u32;
        options = no_options;
      })
      ∷ [];
  resources = [];
  exports = record { name = codes "run"; func_type = gives_u32 } ∷ [];
  lifts = record { instance = 0; core = func_at 1 1; options = record { memory = None; realloc = None; post_return = Some (func_at 1 2); callback = None; is_async = false } } ∷ [];
  end_types = [];
}

-- The component is linked to it, and has what the laws ask of it; so the graph is sound and apart.
abbrev pub IsLinkedToBoth : Type 0
IsLinkedToBoth = IsLinked (root parent) both

abbrev pub ModulesAreSound : Type 0
ModulesAreSound = HasSoundModules (root parent)
