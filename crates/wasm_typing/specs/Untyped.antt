-- The first fault of a module: the first of its items, in the order of the file, that the rules don't get past (Core 2.0,
-- sections 3.4 and 5.5), where it stands, and why.
use Rattle.std.specs.Prelude.{◌≡◌, ℕ, List, [], ◌∷◌, ◌++◌, length, Option, Some, None}
use Rattle.std.specs.List.{slice_get, AllByRecursion}
use Rattle.syntax_trees.specs.declared.module_types.FuncType.{FuncType}
use Rattle.syntax_trees.specs.declared.module_types.Limits.{Limits}
use Rattle.syntax_trees.specs.declared.instr.BlockType.TheVariants.{TypeIndex}
use Rattle.syntax_trees.specs.declared.module.Import.{Import}
use Rattle.syntax_trees.specs.declared.module.Export.{Export}
use Rattle.syntax_trees.specs.declared.module.Func.{Func}
use Rattle.syntax_trees.specs.declared.module.Global.{Global}
use Rattle.syntax_trees.specs.declared.module.ElementSegment.{ElementSegment}
use Rattle.syntax_trees.specs.declared.module.DataSegment.{DataSegment}
use Rattle.syntax_trees.specs.declared.module.ModuleTree.{ModuleTree}
use Rattle.wasm_typing.specs.declared.module_places.ModulePlaces.{ModulePlaces}
pub use Rattle.wasm_typing.specs.Spots.{place_of}
use Rattle.wasm_typing.specs.declared.why.ValidWhy.{ValidWhy}
use Rattle.wasm_typing.specs.declared.spot.Spot.{Spot}
use Rattle.wasm_typing.specs.declared.spot.Spot.TheVariants as spot
use Rattle.wasm_typing.specs.declared.fault.Fault.{Fault}
use Rattle.wasm_typing.specs.Typing.{BodyTyped}
use Rattle.wasm_typing.specs.Faults.{BodyStops}
use Rattle.wasm_typing.specs.Modules.{func_context}
use Rattle.wasm_typing.specs.Items.{fault, import_fault, type_fault, table_fault, memory_fault, global_fault, export_fault, start_fault, element_fault, data_fault}

-- an item, and those before it in its section
pub data Item : Type 0 where
  ImportItem : List Import → Import → Item
  -- a function in the section of functions: its type's index
  FuncItem : List Func → Func → Item
  TableItem : List Limits → Limits → Item
  MemoryItem : List Limits → Limits → Item
  GlobalItem : List Global → Global → Item
  ExportItem : List Export → Export → Item
  StartItem : Option ℕ → Item
  ElementItem : List ElementSegment → ElementSegment → Item
  -- a function in the section of code: its body
  CodeItem : List Func → Func → Item
  DataItem : List DataSegment → DataSegment → Item

-- the items of a section, each behind those before it
abbrev pub behind : {A : Type 0} → (List A → A → Item) → List A → List A → List Item
behind item before [] = []
behind item before (x ∷ xs) = item before x ∷ behind item (before ++ x ∷ []) xs

-- the items of a module, in the order of its sections in the file
abbrev pub items : ModuleTree → List Item
items m =
    behind ImportItem [] m.imports ++ (behind FuncItem [] m.funcs ++ (behind TableItem [] m.tables ++ (behind MemoryItem [] m.memories
    ++ (behind GlobalItem [] m.globals ++ (behind ExportItem [] m.exports ++ (StartItem m.start ∷ (behind ElementItem [] m.element_segments
    ++ (behind CodeItem [] m.funcs ++ behind DataItem [] m.data_segments))))))))

-- what is wrong with an item that has no body
abbrev pub item_fault : ModuleTree → Item → Option Fault
item_fault m (ImportItem before i) = import_fault m before i
item_fault m (FuncItem before func) = type_fault m before func
item_fault m (TableItem before limits) = table_fault m before limits
item_fault m (MemoryItem before limits) = memory_fault m before limits
item_fault m (GlobalItem before global) = global_fault m before global
item_fault m (ExportItem before export) = export_fault m before export
item_fault m (StartItem index) = start_fault m index
item_fault m (ElementItem before segment) = element_fault m before segment
item_fault m (CodeItem before func) = None
item_fault m (DataItem before segment) = data_fault m before segment

-- A body has the type of its function, where that is there.
abbrev pub BodyPasses : ModuleTree → Func → Type 0
BodyPasses m func = (type : FuncType) → slice_get m.types func.type_index ≡ Some type → BodyTyped (func_context m func type) func.body

-- The rules get past an item.
abbrev pub ItemPasses : ModuleTree → Item → Type 0
ItemPasses m (CodeItem before func) = BodyPasses m func
ItemPasses m item = item_fault m item ≡ None

-- They don't get past a body, and stop at the operation behind so many.
abbrev pub CodeStops : ModuleTree → List Func → Func → Fault → Type 0
CodeStops m before func found =
    (type : FuncType) × (slice_get m.types func.type_index ≡ Some type)
    × ((at : ℕ) × BodyStops (func_context m func type) (TypeIndex func.type_index) func.body at found.why × (found.spot ≡ spot.Op (length before) at))

-- They don't get past an item, and this is its fault.
abbrev pub ItemStops : ModuleTree → Item → Fault → Type 0
ItemStops m (CodeItem before func) found = CodeStops m before func found
ItemStops m item found = item_fault m item ≡ Some found

-- the first item that they don't get past has this fault
abbrev pub StopsAt : ModuleTree → Fault → Type 0
StopsAt m found =
    (before : List Item) × (item : Item) × (after : List Item) × (items m ≡ before ++ item ∷ after) × AllByRecursion (ItemPasses m) before
    × ItemStops m item found

-- the function in whose body a part stands
abbrev pub func_of : Spot → Option ℕ
func_of (spot.Op number at) = Some number
func_of _ = None

-- The first item or instruction of a module that the rules don't get past stands in the body of this function, if it stands
-- in one, and at this place, and this is why.
abbrev pub Untyped : ModuleTree → ModulePlaces → Option ℕ → ℕ → ValidWhy → Type 0
Untyped m places func place w =
    (at : Spot) × StopsAt m (fault at w) × (func_of at ≡ func) × (place_of places at ≡ Some place)
