-- The locals of a function (Core 2.0, sections 2.5.3 and 5.5.13): its parameters, and behind them the declared ones,
-- which stand in groups of one type.
use Rattle.std.specs.Prelude.{ℕ, List, ◌++◌, sum_by, replicate}
use Rattle.std.specs.List.{flat_map}
use Rattle.syntax_trees.specs.declared.module_types.ValType.{ValType}
use Rattle.syntax_trees.specs.declared.module_types.FuncType.{FuncType}
use Rattle.syntax_trees.specs.declared.module_types.Locals.{Locals}

-- how many locals a function may declare
abbrev pub locals_limit : ℕ
locals_limit = 50000

-- how many locals are declared
abbrev pub local_count : List Locals → ℕ
local_count groups = sum_by (λ group. group.count) groups

-- the types of declared locals, one by one
abbrev pub declared_locals : List Locals → List ValType
declared_locals groups = flat_map (λ group. replicate group.count group.val_type) groups

-- the types of all locals of a function of this type
abbrev pub local_types : FuncType → List Locals → List ValType
local_types type groups = type.params ++ declared_locals groups
