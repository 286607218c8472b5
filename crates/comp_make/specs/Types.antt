-- Types in bytes (Core 2.0, section 5.3).
use Rattle.std.specs.Prelude.{ℕ, List, [], ◌∷◌, ◌++◌, Option, Some, None}
use Rattle.syntax_trees.specs.declared.module_types.ValType.{ValType}
use Rattle.syntax_trees.specs.declared.module_types.ValType.TheVariants.{I32, I64}
use Rattle.syntax_trees.specs.declared.module_types.FuncType.{FuncType}
use Rattle.syntax_trees.specs.declared.module_types.Limits.{Limits}
use Rattle.syntax_trees.specs.declared.module_types.Mutability.{Mutability}
use Rattle.syntax_trees.specs.declared.module_types.Mutability.TheVariants.{Constant, Variable}
use Rattle.syntax_trees.specs.declared.module_types.GlobalType.{GlobalType}
use Rattle.comp_make.specs.Numbers.{unsigned_bytes}
use Rattle.comp_make.specs.Lists.{vec_bytes}

-- a value type (section 5.3.4)
abbrev pub val_type_byte : ValType → ℕ
val_type_byte I32 = 0x7F
val_type_byte I64 = 0x7E

abbrev pub val_type_bytes : ValType → List ℕ
val_type_bytes type = val_type_byte type ∷ []

-- a function type (section 5.3.6)
abbrev pub func_type_bytes : FuncType → List ℕ
func_type_bytes type = 0x60 ∷ vec_bytes val_type_bytes type.params ++ vec_bytes val_type_bytes type.results

-- limits (section 5.3.7)
abbrev pub bounds_bytes : ℕ → Option ℕ → List ℕ
bounds_bytes min None = 0x00 ∷ unsigned_bytes min
bounds_bytes min (Some max) = 0x01 ∷ unsigned_bytes min ++ unsigned_bytes max

abbrev pub limits_bytes : Limits → List ℕ
limits_bytes limits = bounds_bytes limits.min limits.max

-- the type of a table (section 5.3.9): 70, the type of references to functions, and its limits
abbrev pub table_bytes : Limits → List ℕ
table_bytes limits = 0x70 ∷ limits_bytes limits

-- the type of a global (section 5.3.10)
abbrev pub mutability_byte : Mutability → ℕ
mutability_byte Constant = 0x00
mutability_byte Variable = 0x01

abbrev pub global_type_bytes : GlobalType → List ℕ
global_type_bytes type = val_type_byte type.val_type ∷ mutability_byte type.mutability ∷ []
