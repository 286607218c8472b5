-- Closed types (Component Model, Explainer.md, "Type Definitions"): no index is left in them. A type of resources is told by its
-- number, in order of making, counted from 1. A type of instances has its exports in order, each with its name and what it is. Types
-- are equal only where they are the same: functions with the same labels, instances with the same exports in the same order.
use Rattle.std.specs.Prelude.{◌≡◌, ℕ, Bool, true, false, ◌||◌, nat_lt, List, [], ◌∷◌, ◌++◌, map, cond, Option, Some, None}
use Rattle.std.specs.Str.{bytes_eq}
use Rattle.syntax_trees.specs.Ends.{some_true}
use Rattle.syntax_trees.specs.declared.types.ValType.{ValType}
use Rattle.syntax_trees.specs.declared.types.Param.{Param}
use Rattle.syntax_trees.specs.declared.types.FuncType.{FuncType}
use Rattle.laid_types.specs.Handles.{top_resource, held_top}

mutual
  pub data Closed : Type 0 where
    Value : ValType → Closed
    Func : FuncType → Closed
    Resource : ℕ → Closed
    Instance : Externs → Closed

  -- what an import or an export is: a function of a type, a type, or an instance of a type
  pub data Extern : Type 0 where
    OfFunc : FuncType → Extern
    OfType : Closed → Extern
    OfInstance : Externs → Extern

  -- the exports of a type of instances: none, or one behind others
  pub data Externs : Type 0 where
    EmptyType : Externs
    WithExtern : Externs → List ℕ → Extern → Externs

-- the names, in order
abbrev pub extern_names : Externs → List (List ℕ)
extern_names EmptyType = []
extern_names (WithExtern others name extern) = extern_names others ++ name ∷ []

-- the first of some options
abbrev pub first_of : {A : Type 0} → Option A → Option A → Option A
first_of None b = b
first_of (Some a) b = Some a

-- the export of a name: of equal names the first
abbrev pub extern_named : List ℕ → Externs → Option Extern
extern_named q EmptyType = None
extern_named q (WithExtern others name extern) = first_of (extern_named q others) (cond (bytes_eq name q) (Some extern) None)

-- the exports of a type of instances
abbrev pub externs_of : Closed → Option Externs
externs_of (Value type) = None
externs_of (Func type) = None
externs_of (Resource number) = None
externs_of (Instance others) = Some others

abbrev pub func_of : Closed → Option FuncType
func_of (Value type) = None
func_of (Func type) = Some type
func_of (Resource number) = None
func_of (Instance others) = None

abbrev pub value_of : Closed → Option ValType
value_of (Value type) = Some type
value_of (Func type) = None
value_of (Resource number) = None
value_of (Instance others) = None

abbrev pub resource_of : Closed → Option ℕ
resource_of (Value type) = None
resource_of (Func type) = None
resource_of (Resource number) = Some number
resource_of (Instance others) = None

-- whether a function passes handles of a resource, or ends in which they pass
abbrev pub names_in_param : Param → Bool
names_in_param p = nat_lt 0 (top_resource p.val_type)

abbrev pub names_in_func : FuncType → Bool
names_in_func type = some_true (map names_in_param type.params) || nat_lt 0 (held_top type.result)

-- whether a type names a resource: itself, or in what it stands on
abbrev mutual
  pub names_resource : Closed → Bool
  names_resource (Value type) = nat_lt 0 (top_resource type)
  names_resource (Func type) = names_in_func type
  names_resource (Resource number) = true
  names_resource (Instance externs) = names_in_externs externs

  pub names_in_extern : Extern → Bool
  names_in_extern (OfFunc type) = names_in_func type
  names_in_extern (OfType type) = names_resource type
  names_in_extern (OfInstance externs) = names_in_externs externs

  pub names_in_externs : Externs → Bool
  names_in_externs EmptyType = false
  names_in_externs (WithExtern others name extern) = names_in_externs others || names_in_extern extern

-- Every export is a type, and names no resource.
abbrev pub AreTypes : Externs → Type 0
AreTypes EmptyType = Unit {0}
AreTypes (WithExtern others name (OfFunc type)) = ⊥
AreTypes (WithExtern others name (OfType type)) = AreTypes others × (names_resource type ≡ false)
AreTypes (WithExtern others name (OfInstance inner)) = ⊥
