-- How deep types may be (Component Model, Explainer.md, "Type Definitions"): a value type nests at most 32 types in one another,
-- itself counted, and so does each type of a parameter or a result. The limit is one of this repository.
use Rattle.std.specs.Prelude.{◌≤◌, ℕ, IfSome}
use Rattle.std.specs.List.{AllByRecursion}
use Rattle.syntax_trees.specs.declared.types.ValType.{ValType}
use Rattle.syntax_trees.specs.declared.types.Param.{Param}
use Rattle.syntax_trees.specs.declared.types.FuncType.{FuncType}
use Rattle.laid_types.specs.Depth.{depth}

-- how deep a value type may be
abbrev pub depth_limit : ℕ
depth_limit = 32

abbrev pub IsShallow : ValType → Type 0
IsShallow type = depth type ≤ depth_limit

-- All types of a function's values are shallow.
abbrev pub HasShallowTypes : FuncType → Type 0
HasShallowTypes type = AllByRecursion (λ (p : Param). IsShallow p.val_type) type.params × IfSome type.result IsShallow
