-- Types in bytes (Core 2.0, section 5.3).
use Rattle.std.specs.Prelude.{ℕ, Bool, true, false, ◌==◌, ◌||◌, nat_lt, [], ◌∷◌, Some, None}
use Rattle.ca_base.specs.Grammar.{Grammar, Give, Refuse, Here, Choose, ◌>>=◌}
use Rattle.ca_base.specs.Items.{marker, u32, vec}
use Rattle.ca_base.specs.Tables.{by_byte}
use Rattle.syntax_trees.specs.declared.module_types.ValType.{ValType}
use Rattle.syntax_trees.specs.declared.module_types.ValType.TheVariants.{I32, I64}
use Rattle.syntax_trees.specs.declared.module_types.FuncType.{FuncType}
use Rattle.syntax_trees.specs.declared.module_types.Limits.{Limits}
use Rattle.syntax_trees.specs.declared.module_types.Mutability.{Mutability}
use Rattle.syntax_trees.specs.declared.module_types.Mutability.TheVariants.{Constant, Variable}
use Rattle.syntax_trees.specs.declared.module_types.GlobalType.{GlobalType}
use Rattle.wasm_code_reader.specs.declared.fault.ModuleWhy.{ModuleWhy}
use Rattle.wasm_code_reader.specs.declared.fault.ModuleWhy.TheVariants.{Unsupported, Limit}
use Rattle.wasm_code_reader.specs.Reasons.{numbers, reasons, byte_why}
use Rattle.syntax_trees.specs.Limited.{starting_pages, starting_entries}

-- why a byte that no value type has is refused: 7D and 7C are those of floats
abbrev pub type_why : ℕ → ModuleWhy
type_why b = byte_why (b == 0x7D || b == 0x7C) b

-- a value type (section 5.3.4)
unfoldable pub val_type : Grammar ModuleWhy ValType
val_type = by_byte type_why ((0x7F, Give I32) ∷ (0x7E, Give I64) ∷ [])

-- a function type (section 5.3.6): 60, its parameters, its results
unfoldable pub func_type : Grammar ModuleWhy FuncType
func_type = do
  _ ← marker reasons 0x60
  params ← vec numbers val_type
  results ← vec numbers val_type
  Give (record { params = params; results = results })

-- a number that is at most this limit
unfoldable pub limited : ℕ → Grammar ModuleWhy ℕ
limited most = do
  place ← Here
  n ← u32 numbers
  Choose (nat_lt most n) (Refuse place Limit) (Give n)

-- a minimum that is at most this limit, and a maximum where one is told
unfoldable pub bounds : ℕ → Bool → Grammar ModuleWhy Limits
bounds most has_max = do
  min ← limited most
  Choose has_max (do
    max ← u32 numbers
    Give (record { min = min; max = Some max })) (Give (record { min = min; max = None }))

-- limits (section 5.3.7): 00 and a minimum, or 01, a minimum and a maximum
unfoldable pub limits : ℕ → Grammar ModuleWhy Limits
limits most = by_byte Unsupported ((0x00, bounds most false) ∷ (0x01, bounds most true) ∷ [])

-- The type of a memory (section 5.3.8), which has at most 1,024 pages from the start, and that of a table (section 5.3.9):
-- 70, the type of references to functions, and at most 65,536 entries from the start.
unfoldable pub memory_type : Grammar ModuleWhy Limits
memory_type = limits starting_pages

unfoldable pub table_type : Grammar ModuleWhy Limits
table_type = do
  _ ← marker reasons 0x70
  limits starting_entries

-- the mutability of a global: 00 for a constant, 01 for a variable
unfoldable pub mutability : Grammar ModuleWhy Mutability
mutability = by_byte Unsupported ((0x00, Give Constant) ∷ (0x01, Give Variable) ∷ [])

-- the type of a global (section 5.3.10)
unfoldable pub global_type : Grammar ModuleWhy GlobalType
global_type = do
  type ← val_type
  mutable ← mutability
  Give (record { val_type = type; mutability = mutable })
