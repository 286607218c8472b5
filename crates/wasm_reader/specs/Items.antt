-- The items of sections in bytes (Core 2.0, section 5.5), but for types and the code of functions.
use Rattle.std.specs.Prelude.{ℕ, ◌==◌, not, Bool, false, Option, Some, None, List, [], ◌∷◌, map, unwrap_or}
use Rattle.ca_base.specs.Grammar.{Grammar, Give, Refuse, Here, Next, Take, Choose, ◌>>=◌, times}
use Rattle.ca_base.specs.Items.{marker, u32, name, vec, placed, byte_of}
use Rattle.ca_base.specs.Tables.{by_byte, in_rows, giving}
use Rattle.syntax_trees.specs.declared.module.Import.{Import}
use Rattle.syntax_trees.specs.declared.module.ImportDesc.{ImportDesc}
use Rattle.syntax_trees.specs.declared.module.ImportDesc.TheVariants as import_desc
use Rattle.syntax_trees.specs.declared.module.Export.{Export}
use Rattle.syntax_trees.specs.declared.module.ExportDesc.{ExportDesc}
use Rattle.syntax_trees.specs.declared.module.ExportDesc.TheVariants as export_desc
use Rattle.syntax_trees.specs.declared.module.Global.{Global}
use Rattle.wasm_typing.specs.declared.module_places.GlobalPlaces.{GlobalPlaces}
use Rattle.syntax_trees.specs.declared.module.ElementSegment.{ElementSegment}
use Rattle.wasm_typing.specs.declared.module_places.ElementPlaces.{ElementPlaces}
use Rattle.syntax_trees.specs.declared.module.DataSegment.{DataSegment}
use Rattle.wasm_typing.specs.declared.module_places.DataPlaces.{DataPlaces}
use Rattle.wasm_code_reader.specs.declared.fault.ModuleWhy.{ModuleWhy}
use Rattle.wasm_code_reader.specs.declared.fault.ModuleWhy.TheVariants.{Unsupported, Count}
use Rattle.wasm_reader.specs.declared.declared.DeclaredFunc.{DeclaredFunc}
use Rattle.wasm_reader.specs.declared.parted.Parted.{Parted}
use Rattle.wasm_code_reader.specs.Reasons.{numbers, reasons}
use Rattle.wasm_code_reader.specs.Types.{table_type, memory_type, global_type}
use Rattle.wasm_code_reader.specs.Consts.{const_expr}

-- what an import asks for: 00 and the index of a function type, 01, 02 or 03 and the type of a table, a memory or a global
unfoldable pub import_of : Grammar ModuleWhy ImportDesc
import_of =
    by_byte Unsupported (
    (0x00, giving import_desc.Func (u32 numbers))
    ∷ (0x01, giving import_desc.Table table_type)
    ∷ (0x02, giving import_desc.Memory memory_type)
    ∷ (0x03, giving import_desc.Global global_type)
    ∷ [])

-- an import (section 5.5.5): the name of a module, a name, and what is asked for
unfoldable pub import : Grammar ModuleWhy Import
import = do
  from ← name numbers
  name ← name numbers
  desc ← import_of
  Give (record { «module» = from; name = name; desc = desc })

-- a function as the function section declares it (section 5.5.6): the index of its type
unfoldable pub declared_func : Grammar ModuleWhy DeclaredFunc
declared_func = do
  place ← Here
  index ← u32 numbers
  Give (record { type_index = index; place = place })

-- what an export offers: 00, 01, 02 or 03 for a function, a table, a memory or a global, and its index
unfoldable pub export_of : Grammar ModuleWhy ExportDesc
export_of =
    by_byte Unsupported (
    (0x00, giving export_desc.Func (u32 numbers))
    ∷ (0x01, giving export_desc.Table (u32 numbers))
    ∷ (0x02, giving export_desc.Memory (u32 numbers))
    ∷ (0x03, giving export_desc.Global (u32 numbers))
    ∷ [])

-- an export (section 5.5.10): a name, and what is offered
unfoldable pub export : Grammar ModuleWhy Export
export = do
  name ← name numbers
  desc ← export_of
  Give (record { name = name; desc = desc })

-- a global (section 5.5.9): its type, and the expression of its first value
unfoldable pub global : Grammar ModuleWhy (Parted Global GlobalPlaces)
global = do
  place ← Here
  type ← global_type
  init ← const_expr
  Give (record {
    part = record { global_type = type; init = init.instrs };
    places = record { place = place; init = init.places };
  })

-- The kind of an active segment: 0, or 2 and the index of its table or memory. With the kind 0 that index is 0.
unfoldable pub target : Grammar ModuleWhy (Option ℕ)
target = do
  place ← Here
  first ← Next
  kind ← u32 numbers
  in_rows ((0, Give None) ∷ (2, giving Some (u32 numbers)) ∷ []) kind (Refuse place (Unsupported (byte_of first)))

-- with the kind 2 a byte tells that the elements are functions
abbrev pub element_kind : Option ℕ → Grammar ModuleWhy (Unit {0})
element_kind None = Give tt
element_kind (Some index) = do
  _ ← marker reasons 0
  Give tt

-- a segment of functions (section 5.5.12): its kind, the expression of its offset, and the indices of functions
unfoldable pub element_segment : Grammar ModuleWhy (Parted ElementSegment ElementPlaces)
element_segment = do
  place ← Here
  table ← target
  offset ← const_expr
  _ ← element_kind table
  funcs ← vec numbers (placed (u32 numbers))
  Give (record {
    part = record { table = unwrap_or table 0; offset = offset.instrs; funcs = map (λ f. f.item) funcs };
    places = record { place = place; offset = offset.places; funcs = map (λ f. f.place) funcs };
  })

-- a vector of bytes
unfoldable pub byte_vec : Grammar ModuleWhy (List ℕ)
byte_vec = do
  count ← u32 numbers
  Take count

-- a segment of bytes (section 5.5.14): its kind, the expression of its offset, and the bytes
unfoldable pub data_segment : Grammar ModuleWhy (Parted DataSegment DataPlaces)
data_segment = do
  place ← Here
  memory ← target
  offset ← const_expr
  bytes ← byte_vec
  Give (record {
    part = record { memory = unwrap_or memory 0; offset = offset.instrs; bytes = bytes };
    places = record { place = place; offset = offset.places };
  })

-- whether a count that was told differs from a number
abbrev pub differs_from : Option ℕ → ℕ → Bool
differs_from None n = false
differs_from (Some count) n = not (count == n)

-- the payload of the data section: as many segments as the data count tells, where there is one
unfoldable pub data_payload : Option ℕ → Grammar ModuleWhy (List (Parted DataSegment DataPlaces))
data_payload counted = do
  place ← Here
  count ← u32 numbers
  Choose (differs_from counted count) (Refuse place Count) (times count data_segment)
