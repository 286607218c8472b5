-- The types of blocks (Core 2.0, section 3.2.2): what a block takes and gives.
use Rattle.std.specs.Prelude.{Bool, List, [], ◌∷◌, Option, Some, None, is_none}
use Rattle.std.specs.List.{slice_get}
use Rattle.syntax_trees.specs.declared.module_types.ValType.{ValType}
use Rattle.syntax_trees.specs.declared.module_types.FuncType.{FuncType}
use Rattle.syntax_trees.specs.declared.instr.BlockType.{BlockType}
use Rattle.syntax_trees.specs.declared.instr.BlockType.TheVariants.{Empty, Value, TypeIndex}

-- from operands of these types to results of those
abbrev pub arrow : List ValType → List ValType → FuncType
arrow params results = record { params = params; results = results }

-- the type that a block's type stands for
abbrev pub block_type : List FuncType → BlockType → Option FuncType
block_type types Empty = Some (arrow [] [])
block_type types (Value type) = Some (arrow [] (type ∷ []))
block_type types (TypeIndex index) = slice_get types index

-- it is not there
abbrev pub no_block_type : List FuncType → BlockType → Bool
no_block_type types type = is_none (block_type types type)

abbrev pub found_type : Option FuncType → FuncType
found_type None = arrow [] []
found_type (Some type) = type

-- its parameters and its results
abbrev pub params : List FuncType → BlockType → List ValType
params types type = (found_type (block_type types type)).params

abbrev pub results : List FuncType → BlockType → List ValType
results types type = (found_type (block_type types type)).results
