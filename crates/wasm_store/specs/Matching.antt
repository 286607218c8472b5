-- Whether what imports bring is of the types that a module asks for (Core 2.0, section 3.2.8), as tests.
use Rattle.std.specs.Prelude.{ℕ, nat_le, Bool, true, false, cond, List, [], ◌∷◌, length, Option, Some, None}
use Rattle.std.specs.List.{slice_get}
use Rattle.syntax_trees.specs.declared.module_types.FuncType.{FuncType}
use Rattle.syntax_trees.specs.declared.module_types.Limits.{Limits}
use Rattle.syntax_trees.specs.declared.module_types.GlobalType.{GlobalType}
use Rattle.syntax_trees.specs.declared.module_types.Mutability.{Mutability}
use Rattle.syntax_trees.specs.declared.module_types.Mutability.TheVariants.{Constant, Variable}
use Rattle.syntax_trees.specs.declared.module.Import.{Import}
use Rattle.syntax_trees.specs.declared.module.ImportDesc.{ImportDesc}
use Rattle.syntax_trees.specs.declared.module.ImportDesc.TheVariants as import
use Rattle.syntax_trees.specs.SameTypes as module_types
use Rattle.wasm_memory.specs.Memories.{MemoryState, page_count}
use Rattle.wasm_store.specs.Store.{Function, type_of, Table, Global, Store}
use Rattle.wasm_store.specs.Step.{same_signature}
use Rattle.wasm_store.specs.Instantiation.{External, FuncAddress, TableAddress, MemoryAddress, GlobalAddress}

abbrev pub func_fits : Option FuncType → Option Function → Bool
func_fits (Some type) (Some f) = same_signature type (type_of f)
func_fits (Some type) None = false
func_fits None f = false

-- a maximum that is no greater than one that is asked for
abbrev pub max_fits : Option ℕ → Option ℕ → Bool
max_fits None max = true
max_fits (Some wanted) None = false
max_fits (Some wanted) (Some most) = nat_le most wanted

abbrev pub limits_fit : Limits → ℕ → Option ℕ → Bool
limits_fit limits size max = cond (nat_le limits.min size) (max_fits limits.max max) false

abbrev pub table_fits : Limits → Option Table → Bool
table_fits limits None = false
table_fits limits (Some t) = limits_fit limits (length t.entries) t.max

abbrev pub memory_fits : Limits → Option MemoryState → Bool
memory_fits limits None = false
memory_fits limits (Some m) = limits_fit limits (page_count m) m.maximum

abbrev pub same_mutability : Mutability → Mutability → Bool
same_mutability Constant Constant = true
same_mutability Constant Variable = false
same_mutability Variable Constant = false
same_mutability Variable Variable = true

abbrev pub global_fits : GlobalType → Option Global → Bool
global_fits type None = false
global_fits type (Some g) = cond (module_types.same_type type.val_type g.type.val_type) (same_mutability type.mutability g.type.mutability) false

abbrev pub import_fits : Store → List FuncType → ImportDesc → External → Bool
import_fits s types (import.Func index) (FuncAddress a) = func_fits (slice_get types index) (slice_get s.funcs a)
import_fits s types (import.Table limits) (TableAddress a) = table_fits limits (slice_get s.tables a)
import_fits s types (import.Memory limits) (MemoryAddress a) = memory_fits limits (slice_get s.memories a)
import_fits s types (import.Global type) (GlobalAddress a) = global_fits type (slice_get s.globals a)
import_fits s types desc other = false

-- as many as are asked for, each of its type
abbrev pub imports_fit : Store → List FuncType → List Import → List External → Bool
imports_fit s types [] [] = true
imports_fit s types [] (e ∷ es) = false
imports_fit s types (i ∷ is) [] = false
imports_fit s types (i ∷ is) (e ∷ es) = cond (import_fits s types i.desc e) (imports_fit s types is es) false
