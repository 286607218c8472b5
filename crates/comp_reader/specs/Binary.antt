-- The binary format of components (Component Model, Binary.md), as far as it is read: sections of core modules, core
-- instances, components, instances, aliases, types of values, functions, resources and instances, canonical functions, imports
-- and exports of functions, types and instances, and custom sections; any number of them, in any order. Components may hold
-- others, and instance types too; at most 16 of either are open at a place.
use Rattle.std.specs.Prelude.{ℕ, zero, suc, ◌&&◌, Bool, true, false, List, [], ◌∷◌, length, ◌==◌, ◌||◌, Option, Some, None}
use Rattle.ca_base.specs.Span.{Span}
use Rattle.ca_base.specs.Grammar.{Grammar, Give, Refuse, Here, Left, Byte, Sized, Choose, ◌>>=◌, Matches, Refuses}
use Rattle.ca_base.specs.Items.{fixed, marker, u32, name, custom, sized, vec, placed, placed_vec, to_the_end, joined, at_end}
use Rattle.ca_base.specs.Tables.{by_byte, in_rows, giving}
use Rattle.ca_base.specs.declared.refusal.Refusal.{Refusal}
use Rattle.ca_base.specs.declared.placed.Placed.{Placed}
use Rattle.wasm_code_reader.specs.declared.fault.ModuleWhy.TheVariants as module_why
use Rattle.wasm_typing.specs.declared.module_places.ModuleParts.{ModuleParts}
use Rattle.syntax_trees.specs.declared.module.ModuleTree.{ModuleTree}
use Rattle.wasm_reader.specs.Binary.{the_module}
use Rattle.wasm_typing.specs.declared.fault.ValidFault.{ValidFault}
use Rattle.wasm_typing.specs.Finding.{untyped}
use Rattle.comp_tree.specs.declared.core_instances.CoreSort.{CoreSort}
use Rattle.comp_tree.specs.declared.core_instances.CoreSort.TheVariants as core
use Rattle.comp_tree.specs.declared.core_instances.CoreArgument.{CoreArgument}
use Rattle.comp_tree.specs.declared.core_instances.CoreInlineExport.{CoreInlineExport}
use Rattle.comp_tree.specs.declared.core_instances.CoreInstance.TheVariants as made_core
use Rattle.comp_tree.specs.declared.instances.Sort.{Sort}
use Rattle.comp_tree.specs.declared.instances.Sort.TheVariants as sorts
use Rattle.comp_tree.specs.declared.instances.NamedDefinition.{NamedDefinition}
use Rattle.comp_tree.specs.declared.instances.Instance.TheVariants as made
use Rattle.comp_tree.specs.declared.instances.AliasTarget.{AliasTarget}
use Rattle.comp_tree.specs.declared.instances.AliasTarget.TheVariants.{InstanceExport, CoreInstanceExport, Outer}
use Rattle.comp_tree.specs.declared.instances.Alias.{Alias}
use Rattle.comp_tree.specs.declared.externs.ExternDesc.{ExternDesc}
use Rattle.comp_tree.specs.declared.externs.ExternDesc.TheVariants as descs
use Rattle.comp_tree.specs.declared.types.DefType.{DefType}
use Rattle.comp_tree.specs.declared.types.DefType.TheVariants.{Value, Func, Instance, Resource}
use Rattle.comp_tree.specs.declared.types.InstanceDecl.{InstanceDecl}
use Rattle.comp_tree.specs.declared.types.InstanceDecl.TheVariants as decl
use Rattle.comp_tree.specs.declared.items.Item.{Item}
use Rattle.comp_tree.specs.declared.items.Item.TheVariants as item
use Rattle.comp_tree.specs.declared.items.Component.{Component}
use Rattle.part_reader.specs.declared.fault.ComponentWhy.{ComponentWhy}
use Rattle.part_reader.specs.declared.fault.ComponentWhy.TheVariants.{Truncated, Magic, Unsupported, Limit, Module, Invalid}
use Rattle.part_reader.specs.Reasons.{numbers, reasons, unsupported}
use Rattle.part_reader.specs.Names.{extern_name}
use Rattle.part_reader.specs.Types.{def_val_type, func_type, resource_type}
use Rattle.part_reader.specs.Canons.{canon}

-- a module that has this first fault, or none
abbrev pub validated : ModuleTree → Option ValidFault → Grammar ComponentWhy ModuleTree
validated tree None = Give tree
validated tree (Some fault) = Refuse fault.place (Invalid fault.why)

-- a core module that fills its section, as a file of its own
unfoldable pub module_file : Grammar ComponentWhy ModuleParts
module_file = do
  count ← Left
  Sized count module_why.Truncated Module the_module

-- A core module fills its section, and is valid.
unfoldable pub core_module : Grammar ComponentWhy Item
core_module = do
  read ← module_file
  tree ← validated read.tree (untyped read.tree read.places)
  Give (item.CoreModule tree)

-- Sorts: 00 to 03, 11 and 12 for what stands in core modules and what they and their instances are; behind 00 a core sort,
-- 01, 03, 04 and 05 for functions, types, components and instances.
unfoldable pub core_sort : Grammar ComponentWhy CoreSort
core_sort =
    by_byte Unsupported (
    (0x00, Give core.Func)
    ∷ (0x01, Give core.Table)
    ∷ (0x02, Give core.Memory)
    ∷ (0x03, Give core.Global)
    ∷ (0x11, Give core.Module)
    ∷ (0x12, Give core.Instance)
    ∷ [])

unfoldable pub any_sort : Grammar ComponentWhy Sort
any_sort =
    by_byte Unsupported (
    (0x00, giving sorts.Core core_sort)
    ∷ (0x01, Give sorts.Func)
    ∷ (0x03, Give sorts.Type)
    ∷ (0x04, Give sorts.Component)
    ∷ (0x05, Give sorts.Instance)
    ∷ [])

-- an argument of a core module: its name, the sort 12 of instances, and the index
unfoldable pub core_argument : Grammar ComponentWhy CoreArgument
core_argument = do
  from ← name numbers
  _ ← marker reasons 0x12
  index ← u32 numbers
  Give (record { name = from; instance = index })

-- an inline export of a core instance: its name, a core sort and an index
unfoldable pub core_inline_export : Grammar ComponentWhy CoreInlineExport
core_inline_export = do
  export ← name numbers
  sort ← core_sort
  index ← u32 numbers
  Give (record { name = export; sort = sort; index = index })

-- a core instance of a core module: its index, and its arguments
abbrev pub core_instantiation : Grammar ComponentWhy Item
core_instantiation = do
  index ← u32 numbers
  arguments ← vec numbers core_argument
  Give (item.CoreInstance (made_core.Instantiate index arguments))

-- a core instance: 00 of a core module, 01 of inline exports
unfoldable pub core_instance : Grammar ComponentWhy Item
core_instance =
    by_byte Unsupported (
    (0x00, core_instantiation)
    ∷ (0x01, giving (λ exports. item.CoreInstance (made_core.Inline exports)) (vec numbers core_inline_export))
    ∷ [])

-- an argument of a component: its name, a sort and an index
unfoldable pub argument : Grammar ComponentWhy NamedDefinition
argument = do
  import ← name numbers
  sort ← any_sort
  index ← u32 numbers
  Give (record { name = import; sort = sort; index = index })

-- an inline export of an instance, likewise under the name of an export
unfoldable pub inline_export : Grammar ComponentWhy NamedDefinition
inline_export = do
  export ← extern_name
  sort ← any_sort
  index ← u32 numbers
  Give (record { name = export; sort = sort; index = index })

-- an instance of a component: its index, and its arguments
abbrev pub instantiation : Grammar ComponentWhy Item
instantiation = do
  index ← u32 numbers
  arguments ← vec numbers argument
  Give (item.Instance (made.Instantiate index arguments))

-- an instance: 00 of a component, 01 of inline exports
unfoldable pub instance : Grammar ComponentWhy Item
instance =
    by_byte Unsupported (
    (0x00, instantiation)
    ∷ (0x01, giving (λ exports. item.Instance (made.Inline exports)) (vec numbers inline_export))
    ∷ [])

-- whether a definition of this sort may be an outer one: it is a type or a component
abbrev pub may_be_outer : Sort → Bool
may_be_outer (sorts.Core inner) = false
may_be_outer sorts.Func = false
may_be_outer sorts.Type = true
may_be_outer sorts.Component = true
may_be_outer sorts.Instance = false

-- an export of an instance or of a core instance: its index, and the export's name
abbrev pub export_of : (ℕ → List ℕ → AliasTarget) → Grammar ComponentWhy AliasTarget
export_of target = do
  index ← u32 numbers
  export ← name numbers
  Give (target index export)

-- an outer definition: how many levels further out, and its index
abbrev pub outer : Grammar ComponentWhy AliasTarget
outer = do
  up ← u32 numbers
  index ← u32 numbers
  Give (Outer up index)

-- the target of an alias of this sort: 00 an export of an instance, 01 one of a core instance, 02 an outer definition
unfoldable pub alias_target : Sort → Grammar ComponentWhy AliasTarget
alias_target sort = do
  place ← Here
  b ← Byte
  in_rows ((0x00, export_of InstanceExport) ∷ (0x01, export_of CoreInstanceExport) ∷ []) b
      (Choose (b == 0x02 && may_be_outer sort) outer (unsupported place b))

-- an alias: its sort, and its target
unfoldable pub alias : Grammar ComponentWhy Alias
alias = do
  sort ← any_sort
  target ← alias_target sort
  Give (record { sort = sort; target = target })

unfoldable pub alias_item : Grammar ComponentWhy Item
alias_item = giving item.Alias alias

-- what a type is to be, behind its 03: 00 a type that it equals, 01 a type of resources
unfoldable pub type_bound : Grammar ComponentWhy ExternDesc
type_bound = by_byte Unsupported ((0x00, giving descs.TypeEq (u32 numbers)) ∷ (0x01, Give descs.Resource) ∷ [])

-- what an import or an export is to be: 01 a function of a type, 03 a type, 05 an instance of a type
unfoldable pub extern_desc : Grammar ComponentWhy ExternDesc
extern_desc =
    by_byte Unsupported (
    (0x01, giving descs.Func (u32 numbers))
    ∷ (0x03, type_bound)
    ∷ (0x05, giving descs.Instance (u32 numbers))
    ∷ [])

-- an export that an instance type declares: its name, and what it is to be
abbrev pub declared_export : Grammar ComponentWhy InstanceDecl
declared_export = do
  export ← extern_name
  wanted ← extern_desc
  Give (decl.Export export wanted)

-- a declaration of an instance type, in which types are of this grammar: 01 a type, 02 an alias, 04 an export
unfoldable pub instance_decl : Grammar ComponentWhy DefType → Grammar ComponentWhy InstanceDecl
instance_decl inner =
    by_byte Unsupported (
    (0x01, giving decl.Type inner)
    ∷ (0x02, giving decl.Alias alias)
    ∷ (0x04, declared_export)
    ∷ [])

-- A type, where instance types are of this grammar at the place of their 42: 40 a function, 42 an instance, 3F resources, and else
-- a type of values.
unfoldable pub type_of : (ℕ → Grammar ComponentWhy DefType) → Grammar ComponentWhy DefType
type_of inner = do
  place ← Here
  b ← Byte
  in_rows ((0x40, giving Func func_type) ∷ (0x42, inner place) ∷ (0x3F, giving Resource resource_type) ∷ []) b (giving Value (def_val_type place b))

-- the declarations of an instance type, in which types are of this grammar
unfoldable pub declarations : Grammar ComponentWhy DefType → Grammar ComponentWhy DefType
declarations inner = giving Instance (vec numbers (instance_decl inner))

-- how many components may be open at a place, and how many instance types
abbrev pub depth_limit : ℕ
depth_limit = 16

-- What stands behind the 42 of an instance type at this place, where so many may be opened, itself one of them.
unfoldable pub instance_type : ℕ → ℕ → Grammar ComponentWhy DefType
instance_type zero place = Refuse place Limit
instance_type (suc more) place = declarations (type_of (instance_type more))

-- a type, inside which so many instance types may be opened
abbrev pub def_type : ℕ → Grammar ComponentWhy DefType
def_type more = type_of (instance_type more)

unfoldable pub type_item : Grammar ComponentWhy Item
type_item = giving item.Type (def_type depth_limit)

unfoldable pub canon_item : Grammar ComponentWhy Item
canon_item = giving item.Canon canon

-- an import: its name, and what it is to be
unfoldable pub import : Grammar ComponentWhy Item
import = do
  named ← extern_name
  wanted ← extern_desc
  Give (item.Import (record { name = named; desc = wanted }))

-- what an export is said to be: 00 nothing, 01 and what it is to be
unfoldable pub export_desc : Grammar ComponentWhy (Option ExternDesc)
export_desc = by_byte Unsupported ((0x00, Give None) ∷ (0x01, giving Some extern_desc) ∷ [])

-- an export: its name, a sort, an index, and what it is to be, where it says so
unfoldable pub export : Grammar ComponentWhy Item
export = do
  named ← extern_name
  sort ← any_sort
  index ← u32 numbers
  wanted ← export_desc
  Give (item.Export (record { name = named; sort = sort; index = index; desc = wanted }))

-- a custom section has no item, and the section of a core module has one
unfoldable pub custom_items : Grammar ComponentWhy (List (Placed Item))
custom_items = do
  _ ← custom numbers
  Give []

unfoldable pub module_items : Grammar ComponentWhy (List (Placed Item))
module_items = do
  read ← placed core_module
  Give (read ∷ [])

-- the section of a component that stands in this one, of this grammar, has one
unfoldable pub component_items : Grammar ComponentWhy Component → Grammar ComponentWhy (List (Placed Item))
component_items inner = do
  place ← Here
  read ← inner
  Give (record { item = item.Component read; place = place } ∷ [])

-- The payload of a section that is not one of a component, by its id.
unfoldable pub plain_payload : ℕ → Grammar ComponentWhy (List (Placed Item))
plain_payload id =
    in_rows (
    (0, custom_items)
    ∷ (1, module_items)
    ∷ (2, placed_vec numbers core_instance)
    ∷ (5, placed_vec numbers instance)
    ∷ (6, placed_vec numbers alias_item)
    ∷ (7, placed_vec numbers type_item)
    ∷ (8, placed_vec numbers canon_item)
    ∷ (10, placed_vec numbers import)
    ∷ []) id (placed_vec numbers export)

-- the payload of a section, where components are of this grammar
unfoldable pub payload : Grammar ComponentWhy Component → ℕ → Grammar ComponentWhy (List (Placed Item))
payload inner id = Choose (id == 4) (component_items inner) (plain_payload id)

-- the ids of the sections that are read
abbrev pub is_section : ℕ → Bool
is_section id = id == 0 || id == 1 || id == 2 || id == 4 || id == 5 || id == 6 || id == 7 || id == 8 || id == 10 || id == 11

-- a section: its id, its size, and its payload, which fills it
unfoldable pub section : Grammar ComponentWhy Component → Grammar ComponentWhy (List (Placed Item))
section inner = do
  place ← Here
  id ← Byte
  Choose (is_section id) (sized numbers reasons (payload inner id)) (unsupported place id)

-- the preamble of a component
abbrev pub preamble : List ℕ
preamble = 0x00 ∷ 0x61 ∷ 0x73 ∷ 0x6D ∷ 0x0D ∷ 0x00 ∷ 0x01 ∷ 0x00 ∷ []

-- A component inside which components are of this grammar: its preamble, its sections up to the end of its bytes, and nothing
-- else.
unfoldable pub component_of : Grammar ComponentWhy Component → Grammar ComponentWhy Component
component_of inner = do
  _ ← fixed Magic preamble
  sections ← to_the_end (section inner)
  _ ← at_end reasons
  Give (record { items = joined sections })

-- A component where so many components may be opened, itself one of them.
unfoldable pub component_within : ℕ → Grammar ComponentWhy Component
component_within zero = do
  place ← Here
  Refuse place Limit
component_within (suc more) = component_of (component_within more)

-- a component
abbrev pub component : Grammar ComponentWhy Component
component = component_within depth_limit

-- a whole file
abbrev pub file : List ℕ → Span ComponentWhy
file bytes = record { bytes = bytes; at = 0; past = Truncated }

-- what is left of it when it is read
abbrev pub file_end : List ℕ → Span ComponentWhy
file_end bytes = record { bytes = []; at = length bytes; past = Truncated }

-- the bytes are those of the component
abbrev pub IsComponent : List ℕ → Component → Type 0
IsComponent bytes c = Matches component (file bytes) c (file_end bytes)

-- the bytes are no component: they are refused at this place, for this reason
abbrev pub IsRefused : List ℕ → Refusal ComponentWhy → Type 0
IsRefused bytes refusal = Refuses component (file bytes) refusal
