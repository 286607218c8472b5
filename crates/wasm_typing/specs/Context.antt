-- What the rules know of a module and of one of its functions (Core 2.0, section 3.1.1).
use Rattle.std.specs.Prelude.{ℕ, List}
use Rattle.syntax_trees.specs.declared.module_types.ValType.{ValType}
use Rattle.syntax_trees.specs.declared.module_types.FuncType.{FuncType}
use Rattle.syntax_trees.specs.declared.module_types.GlobalType.{GlobalType}
pub use Rattle.syntax_trees.specs.BlockTypes.{arrow, block_type, no_block_type, found_type, params, results}

pub record Context : Type 0 where
  -- the module's types
  pub types : List FuncType
  -- of each function, imported ones first, the index of its type
  pub funcs : List ℕ
  -- how many tables and memories there are, imported ones among them
  pub tables : ℕ
  pub memories : ℕ
  -- the types of the globals, imported ones first
  pub globals : List GlobalType
  -- the types of the function's parameters and locals
  pub locals : List ValType
  -- the types of its results
  pub results : List ValType
