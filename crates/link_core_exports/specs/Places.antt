-- Where the types of functions stand (Core 2.0, section 2.5.2): that of an import's function, and that of a function of a core instance,
-- in the module that it is made of.
use Rattle.std.specs.Prelude.{ℕ, List, Option, Some, None}
use Rattle.std.specs.List.{slice_get}
use Rattle.std.specs.Option.{option_map, option_and_then}
use Rattle.syntax_trees.specs.declared.module.ImportDesc.{ImportDesc}
use Rattle.syntax_trees.specs.declared.module.ImportDesc.TheVariants as wanted
use Rattle.syntax_trees.specs.declared.module.ModuleTree.{ModuleTree}
use Rattle.wasm_typing.specs.Spaces.{func_space}
use Rattle.comp_graph.specs.declared.graph.FuncRef.TheVariants as func_ref
use Rattle.comp_graph.specs.CoreItems.{CoreItem, Func, Table, Memory, Global}
use Rattle.link_core_types.specs.declared.module_type.ModuleType.{ModuleType}

-- where the type stands that an import of the module of a number asks for, where it asks for a function
abbrev pub place_asked : ℕ → ImportDesc → Option ModuleType
place_asked number (wanted.Func index) = Some (record { «module» = number; index = index })
place_asked number (wanted.Table limits) = None
place_asked number (wanted.Memory limits) = None
place_asked number (wanted.Global type) = None

-- where the type of a function of the module of a number stands
abbrev pub place_in : ℕ → ℕ → ModuleTree → Option ModuleType
place_in number func m = option_map (λ index. record { «module» = number; index = index }) (slice_get (func_space m) func)

-- where the type of an item stands, where it is a function of a core instance
abbrev pub place_of_type : List ModuleTree → List ℕ → CoreItem → Option ModuleType
place_of_type modules made_of (Func (func_ref.Instance f) type) = option_and_then (λ number. option_and_then (place_in number f.index) (slice_get modules number)) (slice_get made_of f.instance)
place_of_type modules made_of (Func (func_ref.Canon number) type) = None
place_of_type modules made_of (Table t limits) = None
place_of_type modules made_of (Memory m limits) = None
place_of_type modules made_of (Global g type) = None
