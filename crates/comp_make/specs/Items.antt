-- The items of sections in bytes (Core 2.0, section 5.5), but for types and code.
use Rattle.std.specs.Prelude.{ℕ, zero, suc, List, [], ◌∷◌, ◌++◌}
use Rattle.syntax_trees.specs.declared.module.Import.{Import}
use Rattle.syntax_trees.specs.declared.module.ImportDesc.{ImportDesc}
use Rattle.syntax_trees.specs.declared.module.ImportDesc.TheVariants as import_desc
use Rattle.syntax_trees.specs.declared.module.Export.{Export}
use Rattle.syntax_trees.specs.declared.module.ExportDesc.{ExportDesc}
use Rattle.syntax_trees.specs.declared.module.ExportDesc.TheVariants as export_desc
use Rattle.syntax_trees.specs.declared.module.Func.{Func}
use Rattle.syntax_trees.specs.declared.module.Global.{Global}
use Rattle.syntax_trees.specs.declared.module.ElementSegment.{ElementSegment}
use Rattle.syntax_trees.specs.declared.module.DataSegment.{DataSegment}
use Rattle.comp_make.specs.Numbers.{unsigned_bytes}
use Rattle.comp_make.specs.Lists.{sized, vec_bytes}
use Rattle.comp_make.specs.Types.{limits_bytes, table_bytes, global_type_bytes}
use Rattle.comp_make.specs.Instrs.{const_expr_bytes}

-- what an import asks for
abbrev pub import_desc_bytes : ImportDesc → List ℕ
import_desc_bytes (import_desc.Func index) = 0x00 ∷ unsigned_bytes index
import_desc_bytes (import_desc.Table limits) = 0x01 ∷ table_bytes limits
import_desc_bytes (import_desc.Memory limits) = 0x02 ∷ limits_bytes limits
import_desc_bytes (import_desc.Global type) = 0x03 ∷ global_type_bytes type

-- an import (section 5.5.5): a name stands behind the number of its bytes
abbrev pub import_bytes : Import → List ℕ
import_bytes import = sized import.«module» ++ sized import.name ++ import_desc_bytes import.desc

-- a function in the function section (section 5.5.6): the index of its type
abbrev pub declared_bytes : Func → List ℕ
declared_bytes func = unsigned_bytes func.type_index

-- a global (section 5.5.9)
abbrev pub global_bytes : Global → List ℕ
global_bytes global = global_type_bytes global.global_type ++ const_expr_bytes global.init

-- what an export offers
abbrev pub export_desc_bytes : ExportDesc → List ℕ
export_desc_bytes (export_desc.Func index) = 0x00 ∷ unsigned_bytes index
export_desc_bytes (export_desc.Table index) = 0x01 ∷ unsigned_bytes index
export_desc_bytes (export_desc.Memory index) = 0x02 ∷ unsigned_bytes index
export_desc_bytes (export_desc.Global index) = 0x03 ∷ unsigned_bytes index

-- an export (section 5.5.10)
abbrev pub export_bytes : Export → List ℕ
export_bytes export = sized export.name ++ export_desc_bytes export.desc

-- The beginning of an active segment: the kind 0 where its table or memory is the first one, else the kind 2 and the
-- index.
abbrev pub target_bytes : ℕ → List ℕ
target_bytes zero = 0x00 ∷ []
target_bytes (suc index) = 0x02 ∷ unsigned_bytes (suc index)

-- with the kind 2 a byte tells that elements are functions
abbrev pub element_kind_bytes : ℕ → List ℕ
element_kind_bytes zero = []
element_kind_bytes (suc index) = 0x00 ∷ []

-- a segment of functions (section 5.5.12)
abbrev pub element_segment_bytes : ElementSegment → List ℕ
element_segment_bytes segment =
    target_bytes segment.table ++ const_expr_bytes segment.offset ++ element_kind_bytes segment.table ++ vec_bytes unsigned_bytes segment.funcs

-- a segment of bytes (section 5.5.14)
abbrev pub data_segment_bytes : DataSegment → List ℕ
data_segment_bytes segment = target_bytes segment.memory ++ const_expr_bytes segment.offset ++ sized segment.bytes
