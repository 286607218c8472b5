-- The code of functions in bytes (Core 2.0, section 5.5.13).
use Rattle.std.specs.Prelude.{ℕ, List, [], ◌∷◌, ◌++◌}
use Rattle.std.specs.List.{flat_map}
use Rattle.syntax_trees.specs.declared.module_types.Locals.{Locals}
use Rattle.syntax_trees.specs.declared.module.Func.{Func}
use Rattle.syntax_trees.specs.Expr.{Expr, flat}
use Rattle.comp_make.specs.Numbers.{unsigned_bytes}
use Rattle.comp_make.specs.Lists.{sized, vec_bytes}
use Rattle.comp_make.specs.Types.{val_type_byte}
use Rattle.comp_make.specs.Instrs.{op_bytes}

-- locals of one type: how many, and the type
abbrev pub locals_bytes : Locals → List ℕ
locals_bytes group = unsigned_bytes group.count ++ val_type_byte group.val_type ∷ []

-- an expression: the bytes of each instruction in file order, `else` and `end` in their places
abbrev pub expr_bytes : Expr → List ℕ
expr_bytes e = flat_map op_bytes (flat e)

-- the locals and the body of a function
abbrev pub code_bytes : Func → List ℕ
code_bytes func = vec_bytes locals_bytes func.locals ++ expr_bytes func.body

-- the same behind its size
abbrev pub sized_code : Func → List ℕ
sized_code func = sized (code_bytes func)
