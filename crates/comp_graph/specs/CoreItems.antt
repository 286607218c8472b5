-- Core items: the definitions of core instances, by the sorts that core modules import, with their types, and core functions that
-- the Canonical ABI makes (Core 2.0, sections 3.2.8 and 4.5.4; Component Model, Explainer.md, "Instance Definitions" and "Canonical
-- Definitions").
use Rattle.std.specs.Prelude.{◌≡◌, ◌≤◌, ℕ, List, ◌++◌, Option, Some, None}
use Rattle.std.specs.Option.{option_map}
use Rattle.std.specs.List.{slice_get}
use Rattle.syntax_trees.specs.declared.module_types.FuncType as core
use Rattle.syntax_trees.specs.declared.module_types.Limits.{Limits}
use Rattle.syntax_trees.specs.declared.module_types.GlobalType.{GlobalType}
use Rattle.syntax_trees.specs.declared.module.ExportDesc.{ExportDesc}
use Rattle.syntax_trees.specs.declared.module.ExportDesc.TheVariants as offered
use Rattle.syntax_trees.specs.declared.module.ImportDesc.{ImportDesc}
use Rattle.syntax_trees.specs.declared.module.ImportDesc.TheVariants as wanted
use Rattle.syntax_trees.specs.declared.module.ModuleTree.{ModuleTree}
use Rattle.wasm_typing.specs.Spaces.{imported_tables, imported_memories, global_space, type_of_func}
use Rattle.comp_graph.specs.declared.graph.CoreRef.{CoreRef}
use Rattle.comp_graph.specs.declared.graph.FuncRef.{FuncRef}
use Rattle.comp_graph.specs.declared.graph.FuncRef.TheVariants as func_ref
use Rattle.comp_graph.specs.declared.graph.CoreExtern.{CoreExtern}
use Rattle.comp_graph.specs.declared.graph.CoreExtern.TheVariants as extern

-- a core definition with its type
pub data CoreItem : Type 0 where
  Func : FuncRef → core.FuncType → CoreItem
  Table : CoreRef → Limits → CoreItem
  Memory : CoreRef → Limits → CoreItem
  Global : CoreRef → GlobalType → CoreItem

-- without its type
abbrev pub extern_of : CoreItem → CoreExtern
extern_of (Func f type) = extern.Func f
extern_of (Table t limits) = extern.Table t
extern_of (Memory m limits) = extern.Memory m
extern_of (Global g type) = extern.Global g

-- which core function an item is, where it is one, and which memory
abbrev pub core_func_of : CoreItem → Option FuncRef
core_func_of (Func f type) = Some f
core_func_of (Table t limits) = None
core_func_of (Memory m limits) = None
core_func_of (Global g type) = None

abbrev pub core_memory_of : CoreItem → Option CoreRef
core_memory_of (Func f type) = None
core_memory_of (Table t limits) = None
core_memory_of (Memory m limits) = Some m
core_memory_of (Global g type) = None

-- its type, where it is a function
abbrev pub func_part : CoreItem → Option core.FuncType
func_part (Func core type) = Some type
func_part (Table core limits) = None
func_part (Memory core limits) = None
func_part (Global core type) = None

-- The index spaces of tables and memories of a module: their limits.
abbrev pub table_space : ModuleTree → List Limits
table_space m = imported_tables m.imports ++ m.tables

abbrev pub memory_space : ModuleTree → List Limits
memory_space m = imported_memories m.imports ++ m.memories

-- What a module's export is in the core instance of this number. Its type is that which the module gives it.
abbrev pub item_of : ModuleTree → ℕ → ExportDesc → Option CoreItem
item_of m number (offered.Func index) = option_map (λ type. Func (func_ref.Instance (record { instance = number; index = index })) type) (type_of_func m index)
item_of m number (offered.Table index) = option_map (λ limits. Table (record { instance = number; index = index }) limits) (slice_get (table_space m) index)
item_of m number (offered.Memory index) = option_map (λ limits. Memory (record { instance = number; index = index }) limits) (slice_get (memory_space m) index)
item_of m number (offered.Global index) = option_map (λ type. Global (record { instance = number; index = index }) type) (slice_get (global_space m) index)

-- Limits that are within others (Core 2.0, section 3.2.8.1): at least as much from the start, and no greater a maximum.
abbrev pub MaxIsWithin : Option ℕ → Option ℕ → Type 0
MaxIsWithin max None = Unit {0}
MaxIsWithin None (Some most) = ⊥
MaxIsWithin (Some max) (Some most) = max ≤ most

abbrev pub IsWithin : Limits → Limits → Type 0
IsWithin limits asked = (asked.min ≤ limits.min) × MaxIsWithin limits.max asked.max

-- A core item is what an import of a module asks for (Core 2.0, section 3.2.8).
abbrev pub CoreFits : ModuleTree → CoreItem → ImportDesc → Type 0
CoreFits m (Func f type) (wanted.Func index) = slice_get m.types index ≡ Some type
CoreFits m (Table t limits) (wanted.Table asked) = IsWithin limits asked
CoreFits m (Memory memory limits) (wanted.Memory asked) = IsWithin limits asked
CoreFits m (Global g type) (wanted.Global asked) = type ≡ asked
CoreFits m item other = ⊥
