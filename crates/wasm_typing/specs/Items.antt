-- What is wrong with an item of a module, outside bodies: the first of the facts that break its rules, in their order
-- (Core 2.0, section 3.4). Each item stands behind others of its section.
use Rattle.std.specs.Prelude.{◌+◌, ℕ, Bool, true, false, not, ◌&&◌, nat_lt, nat_le, is_none, List, [], ◌∷◌, length, map, Option, Some, None}
use Rattle.std.specs.List.{slice_get}
use Rattle.std.specs.Option.{option_or, option_map}
use Rattle.syntax_trees.specs.Names.{is_among}
use Rattle.syntax_trees.specs.declared.module_types.ValType.{ValType}
use Rattle.syntax_trees.specs.declared.module_types.ValType.TheVariants.{I32}
use Rattle.syntax_trees.specs.declared.module_types.FuncType.{FuncType}
use Rattle.syntax_trees.specs.declared.module_types.Limits.{Limits}
use Rattle.syntax_trees.specs.declared.module_types.GlobalType.{GlobalType}
use Rattle.syntax_trees.specs.declared.instr.ConstInstr.{ConstInstr}
use Rattle.syntax_trees.specs.declared.instr.ConstInstr.TheVariants as const
use Rattle.syntax_trees.specs.declared.module.ImportDesc.{ImportDesc}
use Rattle.syntax_trees.specs.declared.module.ImportDesc.TheVariants as import
use Rattle.syntax_trees.specs.declared.module.Import.{Import}
use Rattle.syntax_trees.specs.declared.module.ExportDesc.{ExportDesc}
use Rattle.syntax_trees.specs.declared.module.Export.{Export}
use Rattle.syntax_trees.specs.declared.module.Func.{Func}
use Rattle.syntax_trees.specs.declared.module.Global.{Global}
use Rattle.syntax_trees.specs.declared.module.ElementSegment.{ElementSegment}
use Rattle.syntax_trees.specs.declared.module.DataSegment.{DataSegment}
use Rattle.syntax_trees.specs.declared.module.ModuleTree.{ModuleTree}
use Rattle.wasm_typing.specs.declared.why.ValidWhy.{ValidWhy}
use Rattle.wasm_typing.specs.declared.why.ValidWhy.TheVariants as why
use Rattle.wasm_typing.specs.declared.spot.Spot.{Spot}
use Rattle.wasm_typing.specs.declared.spot.Spot.TheVariants as spot
use Rattle.wasm_typing.specs.declared.fault.Fault.{Fault}
use Rattle.wasm_typing.specs.declared.fault.PartFault.{PartFault}
use Rattle.wasm_typing.specs.Checking.{same_type, part_fault}
use Rattle.wasm_typing.specs.Instrs.{is_constant}
pub use Rattle.wasm_typing.specs.Spaces.{is_there}
use Rattle.wasm_typing.specs.Modules.{imported_tables, imported_memories, imported_globals, func_space, table_count, memory_count, type_of_func, entry_limit, page_limit, const_type}

abbrev pub fault : Spot → ValidWhy → Fault
fault at w = record { spot = at; why = w }

-- a reason, where a fact breaks a rule
abbrev pub where_so : Bool → ValidWhy → Option ValidWhy
where_so true w = Some w
where_so false w = None

-- reasons at one place
abbrev pub at_spot : Spot → Option ValidWhy → Option Fault
at_spot at w = option_map (fault at) w

-- whether limits have no maximum, or a fitting one
abbrev pub max_fits : (ℕ → Bool) → Option ℕ → Bool
max_fits fits None = true
max_fits fits (Some max) = fits max

-- whether limits are within a range, and fit one another
abbrev pub limits_fit : ℕ → Limits → Bool
limits_fit range limits = nat_le limits.min range && max_fits (λ max. nat_le max range && nat_le limits.min max) limits.max

abbrev pub table_fits : Limits → Bool
table_fits limits = limits_fit entry_limit limits

abbrev pub memory_fits : Limits → Bool
memory_fits limits = limits_fit page_limit limits

-- a table or a memory behind so many
abbrev pub limits_why : Bool → ℕ → Option ValidWhy
limits_why fits count = option_or (where_so (not fits) why.Typing) (where_so (nat_lt 0 count) why.Limit)

abbrev pub import_why : ModuleTree → List Import → ImportDesc → Option ValidWhy
import_why m before (import.Func index) = where_so (is_none (slice_get m.types index)) why.Index
import_why m before (import.Table limits) = limits_why (table_fits limits) (length (imported_tables before))
import_why m before (import.Memory limits) = limits_why (memory_fits limits) (length (imported_memories before))
import_why m before (import.Global type) = None

abbrev pub import_fault : ModuleTree → List Import → Import → Option Fault
import_fault m before i = at_spot (spot.Import (length before)) (import_why m before i.desc)

-- the index of a function's type
abbrev pub type_fault : ModuleTree → List Func → Func → Option Fault
type_fault m before func = at_spot (spot.Func (length before)) (where_so (is_none (slice_get m.types func.type_index)) why.Index)

abbrev pub table_fault : ModuleTree → List Limits → Limits → Option Fault
table_fault m before limits = at_spot (spot.Table (length before)) (limits_why (table_fits limits) (length (imported_tables m.imports) + length before))

abbrev pub memory_fault : ModuleTree → List Limits → Limits → Option Fault
memory_fault m before limits = at_spot (spot.Memory (length before)) (limits_why (memory_fits limits) (length (imported_memories m.imports) + length before))

-- an instruction of a constant expression: it names an imported global that is there, and that is constant
abbrev pub global_why : Option GlobalType → Option ValidWhy
global_why None = Some why.Index
global_why (Some type) = where_so (not (is_constant type.mutability)) why.Typing

abbrev pub const_why : List GlobalType → ConstInstr → Option ValidWhy
const_why globals (const.I32Const value) = None
const_why globals (const.I64Const value) = None
const_why globals (const.GlobalGet index) = global_why (slice_get globals index)

abbrev pub has_type : ValType → Option ValType → Bool
has_type type None = false
has_type type (Some found) = same_type found type

-- The end of a constant expression: there is one value, of this type.
abbrev pub end_why : List GlobalType → ValType → List ConstInstr → Option ValidWhy
end_why globals type [] = Some why.Stack
end_why globals type (i ∷ []) = where_so (not (has_type type (const_type globals i))) why.Typing
end_why globals type (i ∷ j ∷ instrs) = Some why.Typing

-- the first instruction of a constant expression that is wrong, behind so many
abbrev pub instrs_fault : List GlobalType → ℕ → List ConstInstr → Option PartFault
instrs_fault globals at [] = None
instrs_fault globals at (i ∷ instrs) = option_or (option_map (part_fault at) (const_why globals i)) (instrs_fault globals (at + 1) instrs)

-- the first instruction that is wrong, or else the end
abbrev pub const_fault : List GlobalType → ValType → List ConstInstr → Option PartFault
const_fault globals type instrs = option_or (instrs_fault globals 0 instrs) (option_map (part_fault (length instrs)) (end_why globals type instrs))

-- the fault of a part of an item
abbrev pub at_part : (ℕ → Spot) → Option PartFault → Option Fault
at_part place found = option_map (λ found. fault (place found.at) found.why) found

abbrev pub global_fault : ModuleTree → List Global → Global → Option Fault
global_fault m before global = at_part (spot.Global (length before)) (const_fault (imported_globals m.imports) global.global_type.val_type global.init)

-- an export, by whether its name stands before
abbrev pub export_why : ModuleTree → Bool → ExportDesc → Option ValidWhy
export_why m named desc = option_or (where_so (not (is_there m desc)) why.Index) (where_so named why.Name)

abbrev pub export_fault : ModuleTree → List Export → Export → Option Fault
export_fault m before export = at_spot (spot.Export (length before)) (export_why m (is_among export.name (map (λ e. e.name) before)) export.desc)

abbrev pub is_empty : List ValType → Bool
is_empty [] = true
is_empty (type ∷ types) = false

abbrev pub is_start : Option FuncType → Bool
is_start None = false
is_start (Some type) = is_empty type.params && is_empty type.results

-- the function that runs first
abbrev pub start_why : ModuleTree → ℕ → Option ValidWhy
start_why m index = option_or (where_so (not (nat_lt index (length (func_space m)))) why.Index) (where_so (not (is_start (type_of_func m index))) why.Typing)

abbrev pub start_fault : ModuleTree → Option ℕ → Option Fault
start_fault m None = None
start_fault m (Some index) = at_spot spot.Start (start_why m index)

-- the first index of no function, behind so many
abbrev pub funcs_fault : ℕ → ℕ → List ℕ → Option PartFault
funcs_fault count at [] = None
funcs_fault count at (index ∷ indices) = option_or (option_map (part_fault at) (where_so (not (nat_lt index count)) why.Index)) (funcs_fault count (at + 1) indices)

abbrev pub element_fault : ModuleTree → List ElementSegment → ElementSegment → Option Fault
element_fault m before segment =
    option_or (at_spot (spot.Element (length before)) (where_so (not (nat_lt segment.table (table_count m))) why.Index))
    (option_or (at_part (spot.ElementOffset (length before)) (const_fault (imported_globals m.imports) I32 segment.offset))
    (at_part (spot.ElementFunc (length before)) (funcs_fault (length (func_space m)) 0 segment.funcs)))

abbrev pub data_fault : ModuleTree → List DataSegment → DataSegment → Option Fault
data_fault m before segment =
    option_or (at_spot (spot.Data (length before)) (where_so (not (nat_lt segment.memory (memory_count m))) why.Index))
    (at_part (spot.DataOffset (length before)) (const_fault (imported_globals m.imports) I32 segment.offset))
