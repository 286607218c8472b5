-- Numbers of resources in types of values and of functions (Component Model, Explainer.md, "Type Definitions"), and types in which they
-- are changed. A resource that a component defines has its number, from 1 on. One that a type of instances brings has a number behind
-- all these: by how many types of instances stand between where it is named and the one that brings it, and by its place among those
-- that this one brings. So types are equal exactly where they are the same, whatever stands around them.
use Rattle.std.specs.Prelude.{ℕ, ◌+◌, ◌-◌, ◌*◌, suc, nat_lt, if◌then◌else◌, List, map, unwrap_or}
use Rattle.std.specs.Option.{option_map}
use Rattle.std.specs.List.{slice_get}
use Rattle.syntax_trees.specs.declared.types.ValType.{ValType, roll-ValType, fold-ValType}
use Rattle.syntax_trees.specs.declared.types.ValType.TheOpen.{ValType-F, Case-F, Field-F}
use Rattle.syntax_trees.specs.declared.types.Case.{Case}
use Rattle.syntax_trees.specs.declared.types.Field.{Field}
use Rattle.syntax_trees.specs.declared.types.Param.{Param}
use Rattle.syntax_trees.specs.declared.types.FuncType.{FuncType}

-- how many resources a type of instances may bring
abbrev pub resource_room : ℕ
resource_room = 1048576

-- the first number of those that the type of instances brings that stands so many types of instances further out
abbrev pub first_brought : ℕ → ℕ
first_brought up = 2147483648 + up * resource_room

-- A change of numbers is told by how many types of instances stand between where a number stands and where the change is made. What
-- these bring it leaves alone.
abbrev pub Change : Type 0
Change = ℕ → ℕ → ℕ

-- seen from so many types of instances further in
abbrev pub further_in : ℕ → Change
further_in by depth number = if nat_lt number (first_brought depth) then number else number + by * resource_room

-- What a type brings stands behind so many that the type around it brings, to which it belongs from now on.
abbrev pub brought_behind : ℕ → Change
brought_behind count depth number =
    if nat_lt number (first_brought depth) then number else (if nat_lt number (first_brought (suc depth)) then number + count else number - resource_room)

-- these in the place of what a type brings
abbrev pub filled_in : List ℕ → Change
filled_in given depth number = if nat_lt number (first_brought depth) then number else unwrap_or (slice_get given (number - first_brought depth)) 0

-- Types of values in which each number of a resource is another one.
abbrev pub renumbered_step : (ℕ → ℕ) → ValType-F ValType Case Field → ValType
renumbered_step f (ValType-F.Own resource) = roll-ValType (ValType-F.Own (f resource))
renumbered_step f (ValType-F.Borrow resource) = roll-ValType (ValType-F.Borrow (f resource))
renumbered_step f layer = roll-ValType layer

abbrev pub same_case : Case-F ValType Case Field → Case
same_case c = record { label = c.label; payload = c.payload }

abbrev pub same_field : Field-F ValType Case Field → Field
same_field f = record { label = f.label; val_type = f.val_type }

abbrev pub renumbered : (ℕ → ℕ) → ValType → ValType
renumbered f = fold-ValType ValType Case Field (renumbered_step f) same_case same_field

-- the same of a type of functions
abbrev pub renumbered_param : (ℕ → ℕ) → Param → Param
renumbered_param f p = record { label = p.label; val_type = renumbered f p.val_type }

abbrev pub renumbered_func : (ℕ → ℕ) → FuncType → FuncType
renumbered_func f type = record { params = map (renumbered_param f) type.params; result = option_map (renumbered f) type.result }
