-- Small components, whose graphs and faults the laws `examples` have. Items stand at the places 0, 1 and so on, and those of a
-- component inside at 10, 11 and so on.
use Rattle.std.specs.Prelude.{ℕ, zero, suc, ◌+◌, true, List, [], ◌∷◌, length, map, Option, None, Some, Result, Ok, Err, pos, codes}
use Rattle.ca_base.specs.declared.placed.Placed.{Placed}
use Rattle.syntax_trees.specs.declared.types.ValType.TheVariants as val_type
use Rattle.syntax_trees.specs.declared.types.FuncType.{FuncType}
use Rattle.syntax_trees.specs.declared.module_types.ValType.TheVariants.{I32}
use Rattle.syntax_trees.specs.declared.instr.Instr.TheVariants.{I32Const}
use Rattle.syntax_trees.specs.declared.module.ExportDesc.TheVariants as offered
use Rattle.syntax_trees.specs.declared.module.ImportDesc.TheVariants as wanted
use Rattle.syntax_trees.specs.declared.module.ModuleTree.{ModuleTree}
use Rattle.syntax_trees.specs.Expr.{Plain, End}
use Rattle.comp_graph.specs.declared.graph.Options.{Options}
use Rattle.comp_graph.specs.declared.graph.Lift as graph
use Rattle.comp_graph.specs.declared.graph.FuncRef.TheVariants as func_ref
use Rattle.builtin_kinds.specs.declared.ResourceOp.{ResourceOp}
use Rattle.builtin_kinds.specs.declared.ResourceOp.TheVariants as resource_op
use Rattle.comp_graph.specs.declared.graph.Resource.{Resource}
use Rattle.comp_graph.specs.declared.graph.BuiltinKind.{BuiltinKind}
use Rattle.comp_graph.specs.declared.graph.BuiltinKind.TheVariants as builtin
use Rattle.comp_graph.specs.declared.graph.CanonFunc.TheVariants as canon_func
use Rattle.comp_graph.specs.declared.graph.CoreExtern.TheVariants as extern
use Rattle.comp_graph.specs.Graph.{Graph, no_options}
use Rattle.comp_tree.specs.declared.core_instances.CoreSort.{CoreSort}
use Rattle.comp_tree.specs.declared.core_instances.CoreSort.TheVariants as core_sort
use Rattle.comp_tree.specs.declared.core_instances.CoreInstance.TheVariants as made_core
use Rattle.comp_tree.specs.declared.instances.Sort.{Sort}
use Rattle.comp_tree.specs.declared.instances.Sort.TheVariants as sorts
use Rattle.comp_tree.specs.declared.instances.AliasTarget.TheVariants as target
use Rattle.comp_tree.specs.declared.instances.NamedDefinition.{NamedDefinition}
use Rattle.comp_tree.specs.declared.instances.Instance.TheVariants as made
use Rattle.comp_tree.specs.declared.externs.ExternDesc.{ExternDesc}
use Rattle.comp_tree.specs.declared.externs.ExternDesc.TheVariants as desc
use Rattle.comp_tree.specs.declared.types.ValTypeRef.{ValTypeRef}
use Rattle.comp_tree.specs.declared.types.ValTypeRef.TheVariants as type_ref
use Rattle.comp_tree.specs.declared.types.PrimValType.{PrimValType}
use Rattle.comp_tree.specs.declared.types.PrimValType.TheVariants.{U32, String}
use Rattle.comp_tree.specs.declared.types.DefValType.TheVariants as value
use Rattle.comp_tree.specs.declared.types.Field.{Field}
use Rattle.comp_tree.specs.declared.types.DefType.TheViews as def_type
use Rattle.comp_tree.specs.declared.types.DefType.TheVariants as plain_type
use Rattle.comp_tree.specs.declared.types.DefType.{DefType}
use Rattle.comp_tree.specs.declared.types.InstanceDecl.{InstanceDecl}
use Rattle.comp_tree.specs.declared.items.CanonOption.{CanonOption}
use Rattle.comp_tree.specs.declared.items.CanonOption.TheVariants as option
use Rattle.comp_tree.specs.declared.builtins.CanonBuiltin.{CanonBuiltin}
use Rattle.comp_tree.specs.declared.builtins.CanonBuiltin.TheVariants.{TaskReturn}
use Rattle.comp_tree.specs.declared.builtins.CanonBuiltin.TheVariants as read_builtin
use Rattle.comp_tree.specs.declared.items.Canon.TheVariants.{Lift, Lower, Builtin}
use Rattle.comp_tree.specs.declared.items.Item.{Item}
use Rattle.comp_tree.specs.declared.items.Item.TheVariants as plain
use Rattle.comp_tree.specs.declared.items.Item.TheViews as item
use Rattle.comp_tree.specs.declared.items.Component.{Component}
use Rattle.link_spec.specs.declared.fault.LinkWhy.{LinkWhy}
use Rattle.link_spec.specs.declared.fault.LinkFault.{LinkFault}
use Rattle.link_spec.specs.Spaces.{Begin, Make}

abbrev pub placed_from : ℕ → List Item → List (Placed Item)
placed_from at [] = []
placed_from at (item ∷ items) = record { place = at; item = item } ∷ placed_from (at + 1) items

abbrev pub root : List Item → Component
root items = record { items = placed_from 0 items }

-- a component that stands in another one
abbrev pub inside : List Item → Item
inside items = item.Component (record { items = placed_from 10 items })

abbrev pub fault : ℕ → LinkWhy → Result Graph LinkFault
fault place w = Err (record { place = place; why = w })

-- Types: of u32, and of instances whose exports of these names are the type u32.
abbrev pub u32 : DefType
u32 = plain_type.Value (value.Primitive U32)

abbrev pub exports_u32 : List (List ℕ) → List InstanceDecl
exports_u32 [] = []
exports_u32 (name ∷ names) = plain_type.Export name (desc.TypeEq 0) ∷ exports_u32 names

abbrev pub of_types : List (List ℕ) → DefType
of_types names = def_type.Instance (plain_type.Type u32 ∷ exports_u32 names)

-- Value types: a list of the type of an index, and a record whose fields have these labels and are of the type of an index.
abbrev pub list_of : ℕ → Item
list_of index = plain.Type (plain_type.Value (value.List (type_ref.Index index)))

abbrev field_of : ℕ → List ℕ → Field
field_of index label = record { label = label; val_type = type_ref.Index index }

abbrev pub record_of : List (List ℕ) → ℕ → Item
record_of labels index = plain.Type (plain_type.Value (value.Record (map (field_of index) labels)))

-- so many lists, the first of the type of an index, each further one of the list before
abbrev pub lists_of : ℕ → ℕ → List Item
lists_of index zero = []
lists_of index (suc more) = list_of index ∷ lists_of (suc index) more

abbrev pub lists : ℕ → Component
lists count = root (plain.Type u32 ∷ lists_of 0 count)

-- the same types in an instance type, and behind them these declarations
abbrev pub lists_declared : ℕ → ℕ → List InstanceDecl → List InstanceDecl
lists_declared index zero others = others
lists_declared index (suc more) others =
    plain_type.Type (plain_type.Value (value.List (type_ref.Index index))) ∷ lists_declared (suc index) more others

abbrev pub of_lists : ℕ → List InstanceDecl → Component
of_lists count others = root (plain.Type (def_type.Instance (plain_type.Type u32 ∷ lists_declared 0 count others)) ∷ [])

-- Items.

abbrev pub import : ExternDesc → Item
import asked = plain.Import (record { name = codes "in"; desc = asked })

abbrev pub outer : Sort → ℕ → ℕ → Item
outer sort up index = plain.Alias (record { sort = sort; target = target.Outer up index })

-- the type of a name that an instance exports
abbrev pub type_named : ℕ → List ℕ → Item
type_named instance name = plain.Alias (record { sort = sorts.Type; target = target.InstanceExport instance name })

-- the first type, exported
abbrev pub export_type : List ℕ → Item
export_type name = plain.Export (record { name = name; sort = sorts.Type; index = 0; desc = None })

-- the first type, under these names, as an instance
abbrev named : List (List ℕ) → List NamedDefinition
named [] = []
named (name ∷ names) = record { name = name; sort = sorts.Type; index = 0 } ∷ named names

abbrev pub types_named : List (List ℕ) → Item
types_named names = plain.Instance (made.Inline (named names))

-- an instance of the first component, without arguments, and with the first instance as its argument
abbrev pub instantiate : Item
instantiate = plain.Instance (made.Instantiate 0 [])

abbrev pub instantiate_with : Item
instantiate_with = plain.Instance (made.Instantiate 0 (record { name = codes "in"; sort = sorts.Instance; index = 0 } ∷ []))

-- a component that imports what nothing gives, and one that takes a type of what it imports
abbrev pub wanting : Item
wanting = inside (plain.Type (of_types []) ∷ import (desc.Instance 0) ∷ [])

abbrev pub taking : List ℕ → Item
taking name = inside (plain.Type (of_types (codes "a" ∷ [])) ∷ import (desc.Instance 0) ∷ type_named 0 name ∷ [])

-- the instantiation of such a component with an instance that exports a and b
abbrev pub giving_both : List ℕ → Component
giving_both name = root (plain.Type u32 ∷ types_named (codes "a" ∷ codes "b" ∷ []) ∷ taking name ∷ instantiate_with ∷ [])

-- a graph without core instances and exports, of so many component instances
abbrev pub begins : List ℕ → Result Graph LinkFault
begins numbers = Ok (record { plan = map (λ n. Begin n) numbers; instance_count = length numbers; cores = []; canons = []; resources = []; exports = []; lifts = []; end_types = [] })

-- A component that instantiates itself: it takes itself from the root, and the root instantiates it.
abbrev pub nesting : Item
nesting = inside (outer sorts.Component 1 0 ∷ instantiate ∷ [])

-- Core modules: one of nothing, and one that exports its function, which gives an i32, and its memory.
abbrev of_nothing : ModuleTree
of_nothing = record { types = []; imports = []; funcs = []; tables = []; memories = []; globals = []; exports = []; start = None; element_segments = []; data_segments = [] }

abbrev pub of_one : ModuleTree
of_one = record of_nothing {
  types = record { params = []; results = I32 ∷ [] } ∷ [];
  funcs = record { type_index = 0; locals = []; body = Plain (I32Const (pos 1)) End } ∷ [];
  memories = record { min = 1; max = None } ∷ [];
  exports = record { name = codes "one"; desc = offered.Func 0 } ∷ record { name = codes "memory"; desc = offered.Memory 0 } ∷ [];
}

-- the instantiation of the first module, without arguments, and with an argument that is not there, of which no import is
abbrev pub make : Item
make = plain.CoreInstance (made_core.Instantiate 0 [])

abbrev pub make_with_absent : Item
make_with_absent = plain.CoreInstance (made_core.Instantiate 0 (record { name = codes "in"; instance = 0 } ∷ []))

-- what that core instance exports
abbrev core_export : CoreSort → List ℕ → Item
core_export sort name = plain.Alias (record { sort = sorts.Core sort; target = target.CoreInstanceExport 0 name })

-- the function of that module, lifted with options to a function that gives a value of a type
abbrev lifting_to : PrimValType → List CanonOption → List Item → List Item
lifting_to given options items =
    plain.CoreModule of_one
    ∷ make
    ∷ core_export core_sort.Func (codes "one")
    ∷ core_export core_sort.Memory (codes "memory")
    ∷ plain.Type (plain_type.Func (record { params = []; result = Some (type_ref.Primitive given) }))
    ∷ plain.Canon (Lift 0 options 0)
    ∷ items

-- to one that gives a u32
abbrev lifting_before : List CanonOption → List Item → List Item
lifting_before options items = lifting_to U32 options items

-- and exported; or exported as `a#run`, and as `run` of an instance that is exported as `a`
abbrev pub lifting : List CanonOption → List Item
lifting options = lifting_before options (plain.Export (record { name = codes "run"; sort = sorts.Func; index = 0; desc = None }) ∷ [])

abbrev pub lifting_twice : List Item
lifting_twice =
    lifting_before []
    (plain.Instance (made.Inline (record { name = codes "run"; sort = sorts.Func; index = 0 } ∷ []))
    ∷ plain.Export (record { name = codes "a#run"; sort = sorts.Func; index = 0; desc = None })
    ∷ plain.Export (record { name = codes "a"; sort = sorts.Instance; index = 0; desc = None })
    ∷ [])

-- the graph of that core instance, whose function can be called under these names, and is lifted with its memory or with nothing
abbrev pub with_memory : Options
with_memory = record no_options { memory = Some (record { instance = 0; index = 0 }) }

abbrev lifts_for : Options → List (List ℕ) → List graph.Lift
lifts_for options names = map (λ (name : List ℕ). record { instance = 0; core = func_ref.Instance (record { instance = 0; index = 0 }); options = options }) names

abbrev pub callable_as : Options → List (List ℕ) → Graph
callable_as options names = record {
  plan = Begin 0 ∷ Make 0 ∷ [];
  instance_count = 1;
  cores = record { of_module = of_one; imports = []; owner = 0 } ∷ [];
  canons = [];
  resources = [];
  exports = map (λ name. record { name = name; func_type = record { params = []; result = Some val_type.U32 } }) names;
  lifts = lifts_for options names;
  end_types = [];
}

-- The same function, lifted, and a function of an index lowered with options; and so where the function gives a string, which is
-- lifted with the memory.
abbrev pub lowering : ℕ → List CanonOption → List Item
lowering index options = lifting_before [] (plain.Canon (Lower index options) ∷ [])

abbrev pub lowering_string : List CanonOption → List Item
lowering_string options = lifting_to String (option.Memory 0 ∷ []) (plain.Canon (Lower 0 options) ∷ [])

-- a core module that imports a function, which gives an i32
abbrev of_caller : ModuleTree
of_caller = record of_nothing {
  types = record { params = []; results = I32 ∷ [] } ∷ [];
  imports = record { «module» = codes "in"; name = codes "one"; desc = wanted.Func 0 } ∷ [];
}

-- the function, lifted and lowered, passed to that module; and the graph of both core instances
abbrev pub passing : List Item
passing =
    lifting_before []
    (plain.Canon (Lower 0 [])
    ∷ plain.CoreInstance (made_core.Inline (record { name = codes "one"; sort = core_sort.Func; index = 1 } ∷ []))
    ∷ plain.CoreModule of_caller
    ∷ plain.CoreInstance (made_core.Instantiate 1 (record { name = codes "in"; instance = 1 } ∷ []))
    ∷ [])

abbrev pub passed : Graph
passed = record {
  plan = Begin 0 ∷ Make 0 ∷ Make 1 ∷ [];
  instance_count = 1;
  cores = record { of_module = of_one; imports = []; owner = 0 } ∷ record { of_module = of_caller; imports = extern.Func (func_ref.Canon 0) ∷ []; owner = 0 } ∷ [];
  canons =
      canon_func.Lower (record {
        instance = 0;
        lift = record { instance = 0; core = func_ref.Instance (record { instance = 0; index = 0 }); options = no_options };
        func_type = record { params = []; result = Some val_type.U32 };
        options = no_options;
      })
      ∷ [];
  resources = [];
  exports = [];
  lifts = [];
  end_types = [];
}

-- a function of a string, and one that gives a string, which is two core values
abbrev pub taking_string : FuncType
taking_string = record { params = record { label = codes "a"; val_type = val_type.String } ∷ []; result = None }

abbrev pub giving_string : FuncType
giving_string = record { params = []; result = Some val_type.String }

-- `task.return` without options, of a result of a type
abbrev pub returning : Option ValTypeRef → CanonBuiltin
returning result = TaskReturn result []

-- A built-in alone, and the graph of one that is made.
abbrev pub built : CanonBuiltin → Component
built b = root (plain.Canon (Builtin b) ∷ [])

abbrev pub making : BuiltinKind → Result Graph LinkFault
making kind = Ok (record {
  plan = Begin 0 ∷ [];
  instance_count = 1;
  cores = [];
  canons = canon_func.Builtin (record { instance = 0; kind = kind }) ∷ [];
  resources = [];
  exports = [];
  lifts = [];
  end_types = [];
})

-- A type of resources, with or without the index of a destructor, and built-ins of the first type.
abbrev pub resource : Option ℕ → Item
resource destructor = plain.Type (plain_type.Resource destructor)

abbrev pub of_resource : ResourceOp → Item
of_resource op = plain.Canon (Builtin (read_builtin.Resource op 0))

-- A resource and a built-in of it, and the graph.
abbrev pub using : ResourceOp → Component
using op = root (resource None ∷ of_resource op ∷ [])

abbrev pub resource_of : ℕ → Resource
resource_of instance = record { instance = instance; destructor = None }

abbrev pub used : ResourceOp → Result Graph LinkFault
used op = Ok (record {
  plan = Begin 0 ∷ [];
  instance_count = 1;
  cores = [];
  canons = canon_func.Builtin (record { instance = 0; kind = builtin.Resource op 1 }) ∷ [];
  resources = resource_of 0 ∷ [];
  exports = [];
  lifts = [];
  end_types = [];
})

-- A component that defines a resource, instantiated twice, and the graph.
abbrev pub defining_twice : Component
defining_twice = root (inside (resource None ∷ []) ∷ instantiate ∷ instantiate ∷ [])

abbrev pub defined_twice : Result Graph LinkFault
defined_twice = Ok (record {
  plan = Begin 0 ∷ Begin 1 ∷ Begin 2 ∷ [];
  instance_count = 3;
  cores = [];
  canons = [];
  resources = resource_of 1 ∷ resource_of 2 ∷ [];
  exports = [];
  lifts = [];
  end_types = [];
})

-- a component that takes the resource of the one around it, with a built-in of it
abbrev pub taking_outer : ResourceOp → Component
taking_outer op = root (resource None ∷ inside (outer sorts.Type 1 0 ∷ of_resource op ∷ []) ∷ instantiate ∷ [])

-- what is linked where it drops handles
abbrev pub taken_outer : Result Graph LinkFault
taken_outer = Ok (record {
  plan = Begin 0 ∷ Begin 1 ∷ [];
  instance_count = 2;
  cores = [];
  canons = canon_func.Builtin (record { instance = 1; kind = builtin.Resource resource_op.Drop 1 }) ∷ [];
  resources = resource_of 0 ∷ [];
  exports = [];
  lifts = [];
  end_types = [];
})

-- a lift and a lower with `async`, and a lift with a callback too
abbrev pub with_async : Options
with_async = record no_options { is_async = true }

abbrev pub with_callback : Options
with_callback = record with_async { callback = Some (func_ref.Canon 0) }
