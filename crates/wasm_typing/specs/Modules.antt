-- Which modules are typed (Core 2.0, section 3.4).
use Rattle.std.specs.Prelude.{◌≡◌, ◌<◌, ◌≤◌, ℕ, List, [], ◌∷◌, length, map, Option, Some, None}
use Rattle.std.specs.List.{slice_get, AllByRecursion}
use Rattle.std.specs.Option.{IfSome, IsSome, option_and_then}
use Rattle.syntax_trees.specs.Names.{AreDistinct}
use Rattle.syntax_trees.specs.declared.module_types.ValType.{ValType}
use Rattle.syntax_trees.specs.declared.module_types.ValType.TheVariants.{I32, I64}
use Rattle.syntax_trees.specs.declared.module_types.FuncType.{FuncType}
use Rattle.syntax_trees.specs.declared.module_types.Limits.{Limits}
use Rattle.syntax_trees.specs.declared.module_types.GlobalType.{GlobalType}
use Rattle.syntax_trees.specs.declared.module_types.Mutability.{Mutability}
use Rattle.syntax_trees.specs.declared.module_types.Mutability.TheVariants.{Constant, Variable}
use Rattle.syntax_trees.specs.declared.instr.ConstInstr.{ConstInstr}
use Rattle.syntax_trees.specs.declared.instr.ConstInstr.TheVariants as const
use Rattle.syntax_trees.specs.declared.module.ImportDesc.{ImportDesc}
use Rattle.syntax_trees.specs.declared.module.ImportDesc.TheVariants as import
use Rattle.syntax_trees.specs.declared.module.ExportDesc.{ExportDesc}
use Rattle.syntax_trees.specs.declared.module.ExportDesc.TheVariants as export
use Rattle.syntax_trees.specs.declared.module.Func.{Func}
use Rattle.syntax_trees.specs.declared.module.Global.{Global}
use Rattle.syntax_trees.specs.declared.module.ElementSegment.{ElementSegment}
use Rattle.syntax_trees.specs.declared.module.DataSegment.{DataSegment}
use Rattle.syntax_trees.specs.declared.module.ModuleTree.{ModuleTree}
use Rattle.syntax_trees.specs.Locals.{local_types}
pub use Rattle.wasm_typing.specs.Spaces.{funcs_of, tables_of, memories_of, globals_of, imported_funcs, imported_tables, imported_memories, imported_globals, func_space, table_count, memory_count, global_space, type_of_func}
use Rattle.wasm_typing.specs.Context.{Context}
use Rattle.wasm_typing.specs.Typing.{BodyTyped}

-- the context of a function of this type
abbrev pub func_context : ModuleTree → Func → FuncType → Context
func_context m func type = record {
  types = m.types;
  funcs = func_space m;
  tables = table_count m;
  memories = memory_count m;
  globals = global_space m;
  locals = local_types type func.locals;
  results = type.results;
}

-- the largest numbers of entries that a table may have, and of pages that a memory may have
abbrev pub entry_limit : ℕ
entry_limit = 4294967295

abbrev pub page_limit : ℕ
page_limit = 65536

-- limits within a range (section 3.2.1)
abbrev pub LimitsTyped : ℕ → Limits → Type 0
LimitsTyped range limits = (limits.min ≤ range) × IfSome limits.max (λ max. (max ≤ range) × (limits.min ≤ max))

-- the limits of a table (section 3.2.4), and of a memory (section 3.2.5)
abbrev pub TableTyped : Limits → Type 0
TableTyped limits = LimitsTyped entry_limit limits

abbrev pub MemoryTyped : Limits → Type 0
MemoryTyped limits = LimitsTyped page_limit limits

-- an import (section 3.4.9)
abbrev pub ImportTyped : ModuleTree → ImportDesc → Type 0
ImportTyped m (import.Func index) = IsSome (slice_get m.types index)
ImportTyped m (import.Table limits) = TableTyped limits
ImportTyped m (import.Memory limits) = MemoryTyped limits
ImportTyped m (import.Global type) = Unit {0}

-- a function, whose body has its type (section 3.4.1)
abbrev pub FuncTyped : ModuleTree → Func → Type 0
FuncTyped m func = (type : FuncType) × (slice_get m.types func.type_index ≡ Some type) × BodyTyped (func_context m func type) func.body

-- the type of a constant, where it is there
abbrev pub constant_of : GlobalType → Mutability → Option ValType
constant_of type Constant = Some type.val_type
constant_of type Variable = None

-- the type of an instruction of a constant expression, over these imported globals (section 3.3.10)
abbrev pub const_type : List GlobalType → ConstInstr → Option ValType
const_type globals (const.I32Const value) = Some I32
const_type globals (const.I64Const value) = Some I64
const_type globals (const.GlobalGet index) = option_and_then (λ type. constant_of type type.mutability) (slice_get globals index)

-- A constant expression has one instruction, of this type.
abbrev pub ConstTyped : List GlobalType → ValType → List ConstInstr → Type 0
ConstTyped globals type instrs = (i : ConstInstr) × (instrs ≡ i ∷ []) × (const_type globals i ≡ Some type)

-- a global (section 3.4.4)
abbrev pub GlobalTyped : ModuleTree → Global → Type 0
GlobalTyped m global = ConstTyped (imported_globals m.imports) global.global_type.val_type global.init

-- an export (section 3.4.8)
abbrev pub ExportTyped : ModuleTree → ExportDesc → Type 0
ExportTyped m (export.Func index) = index < length (func_space m)
ExportTyped m (export.Table index) = index < table_count m
ExportTyped m (export.Memory index) = index < memory_count m
ExportTyped m (export.Global index) = index < length (global_space m)

-- the function that runs first takes and gives nothing (section 3.4.7)
abbrev pub StartTyped : ModuleTree → ℕ → Type 0
StartTyped m index = (type : FuncType) × (type_of_func m index ≡ Some type) × (type.params ≡ []) × (type.results ≡ [])

-- a segment of functions (section 3.4.5)
abbrev pub ElementTyped : ModuleTree → ElementSegment → Type 0
ElementTyped m segment =
    (segment.table < table_count m) × ConstTyped (imported_globals m.imports) I32 segment.offset
    × AllByRecursion (λ index. index < length (func_space m)) segment.funcs

-- a segment of bytes (section 3.4.6)
abbrev pub DataTyped : ModuleTree → DataSegment → Type 0
DataTyped m segment = (segment.memory < memory_count m) × ConstTyped (imported_globals m.imports) I32 segment.offset

-- A module (section 3.4.10). There is at most one memory, and here at most one table.
pub record Typed (m : ModuleTree) : Type 0 where
  pub imports : AllByRecursion (λ i. ImportTyped m i.desc) m.imports
  pub funcs : AllByRecursion (FuncTyped m) m.funcs
  pub tables : AllByRecursion TableTyped m.tables
  pub memories : AllByRecursion MemoryTyped m.memories
  pub globals : AllByRecursion (GlobalTyped m) m.globals
  pub exports : AllByRecursion (λ e. ExportTyped m e.desc) m.exports
  -- no two exports have one name
  pub names : AreDistinct (map (λ e. e.name) m.exports)
  pub start : IfSome m.start (StartTyped m)
  pub element_segments : AllByRecursion (ElementTyped m) m.element_segments
  pub data_segments : AllByRecursion (DataTyped m) m.data_segments
  pub one_table : table_count m ≤ 1
  pub one_memory : memory_count m ≤ 1
