-- The index spaces of a module (Core 2.0, section 2.5.1): what its imports bring comes first, then its own.
use Rattle.std.specs.Prelude.{◌≡◌, ◌+◌, ℕ, Bool, nat_lt, List, [], ◌∷◌, ◌++◌, length, map, Option}
use Rattle.std.specs.List.{slice_get, flat_map}
use Rattle.std.specs.Option.{option_and_then}
use Rattle.syntax_trees.specs.declared.module_types.FuncType.{FuncType}
use Rattle.syntax_trees.specs.declared.module_types.Limits.{Limits}
use Rattle.syntax_trees.specs.declared.module_types.GlobalType.{GlobalType}
use Rattle.syntax_trees.specs.declared.module.ImportDesc.{ImportDesc}
use Rattle.syntax_trees.specs.declared.module.ImportDesc.TheVariants as import
use Rattle.syntax_trees.specs.declared.module.Import.{Import}
use Rattle.syntax_trees.specs.declared.module.ExportDesc.{ExportDesc}
use Rattle.syntax_trees.specs.declared.module.ExportDesc.TheVariants as export
use Rattle.syntax_trees.specs.declared.module.ModuleTree.{ModuleTree}

-- What imports bring of each kind: the type indices of functions, tables, memories, types of globals.
abbrev pub funcs_of : ImportDesc → List ℕ
funcs_of (import.Func index) = index ∷ []
funcs_of (import.Table limits) = []
funcs_of (import.Memory limits) = []
funcs_of (import.Global type) = []

abbrev pub tables_of : ImportDesc → List Limits
tables_of (import.Func index) = []
tables_of (import.Table limits) = limits ∷ []
tables_of (import.Memory limits) = []
tables_of (import.Global type) = []

abbrev pub memories_of : ImportDesc → List Limits
memories_of (import.Func index) = []
memories_of (import.Table limits) = []
memories_of (import.Memory limits) = limits ∷ []
memories_of (import.Global type) = []

abbrev pub globals_of : ImportDesc → List GlobalType
globals_of (import.Func index) = []
globals_of (import.Table limits) = []
globals_of (import.Memory limits) = []
globals_of (import.Global type) = type ∷ []

abbrev pub imported_funcs : List Import → List ℕ
imported_funcs imports = flat_map (λ i. funcs_of i.desc) imports

abbrev pub imported_tables : List Import → List Limits
imported_tables imports = flat_map (λ i. tables_of i.desc) imports

abbrev pub imported_memories : List Import → List Limits
imported_memories imports = flat_map (λ i. memories_of i.desc) imports

abbrev pub imported_globals : List Import → List GlobalType
imported_globals imports = flat_map (λ i. globals_of i.desc) imports

-- the index spaces
abbrev pub func_space : ModuleTree → List ℕ
func_space m = imported_funcs m.imports ++ map (λ f. f.type_index) m.funcs

abbrev pub table_count : ModuleTree → ℕ
table_count m = length (imported_tables m.imports) + length m.tables

abbrev pub memory_count : ModuleTree → ℕ
memory_count m = length (imported_memories m.imports) + length m.memories

abbrev pub global_space : ModuleTree → List GlobalType
global_space m = imported_globals m.imports ++ map (λ g. g.global_type) m.globals

-- the type of the function of an index
abbrev pub type_of_func : ModuleTree → ℕ → Option FuncType
type_of_func m index = option_and_then (λ type. slice_get m.types type) (slice_get (func_space m) index)

-- whether what an export offers is there
abbrev pub is_there : ModuleTree → ExportDesc → Bool
is_there m (export.Func index) = nat_lt index (length (func_space m))
is_there m (export.Table index) = nat_lt index (table_count m)
is_there m (export.Memory index) = nat_lt index (memory_count m)
is_there m (export.Global index) = nat_lt index (length (global_space m))

-- the index spaces as they are kept
pub record AreSpaces (m : ModuleTree) (funcs : List ℕ) (globals imported : List GlobalType) (tables memories : ℕ) : Type 0 where
  pub funcs_are : funcs ≡ func_space m
  pub globals_are : globals ≡ global_space m
  pub imported_are : imported ≡ imported_globals m.imports
  pub tables_are : tables ≡ table_count m
  pub memories_are : memories ≡ memory_count m
