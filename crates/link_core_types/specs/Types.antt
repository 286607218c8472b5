-- Types of functions in core modules (Core 2.0, section 2.5.2), by their modules and their indices, and when two are the same.
use Rattle.std.specs.Prelude.{◌≡◌, List, Option, Some, None}
use Rattle.std.specs.List.{slice_get}
use Rattle.std.specs.Option.{option_and_then}
use Rattle.syntax_trees.specs.declared.module_types.FuncType.{FuncType}
use Rattle.link_core_types.specs.declared.module_type.ModuleType.{ModuleType}

-- the type at an index of a module, where both are there
abbrev pub type_at : List (List FuncType) → ModuleType → Option FuncType
type_at modules t = option_and_then (λ types. slice_get types t.index) (slice_get modules t.«module»)

-- Both types are there, and they are the same.
abbrev pub AreSame : Option FuncType → Option FuncType → Type 0
AreSame (Some t) (Some u) = t ≡ u
AreSame (Some t) None = ⊥
AreSame None u = ⊥
