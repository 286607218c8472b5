-- The store (Core 2.0, section 4.2): functions, tables, memories, globals and instances. Each has a number, its address:
-- its place in the store's list, counted from 0. A memory is a `MemoryState` of wasm_memory. Words are values as numbers: an
-- i32 is below 2^32, an i64 below 2^64.
use Rattle.std.specs.Prelude.{ℕ, List, Option, Some, None}
use Rattle.std.specs.List.{slice_get}
use Rattle.std.specs.Option.{option_map}
use Rattle.syntax_trees.specs.declared.module_types.FuncType.{FuncType}
use Rattle.syntax_trees.specs.declared.module_types.GlobalType.{GlobalType}
use Rattle.syntax_trees.specs.declared.module_types.Locals.{Locals}
use Rattle.syntax_trees.specs.Expr.{Expr}
use Rattle.wasm_memory.specs.Memories.{MemoryState}

-- a function (section 4.2.6)
pub data Function : Type 0 where
  -- one of an instance: its type, the instance's address, the locals that it declares and its body
  Own : FuncType → ℕ → List Locals → Expr → Function
  -- one of the host, with its type
  Host : FuncType → Function

abbrev pub type_of : Function → FuncType
type_of (Own type instance locals body) = type
type_of (Host type) = type

-- a table (section 4.2.7)
pub record Table : Type 0 where
  -- in each place nothing, or a function's address
  pub entries : List (Option ℕ)
  -- how many entries it may have at most
  pub max : Option ℕ

-- a global (section 4.2.9)
pub record Global : Type 0 where
  pub type : GlobalType
  pub value : ℕ

-- an instance of a module (section 4.2.5): the module's types, and the addresses of what is in its index spaces
pub record Instance : Type 0 where
  pub types : List FuncType
  pub funcs : List ℕ
  pub tables : List ℕ
  pub memories : List ℕ
  pub globals : List ℕ

pub record Store : Type 0 where
  pub funcs : List Function
  pub tables : List Table
  pub memories : List MemoryState
  pub globals : List Global
  pub instances : List Instance

-- an address, with what stands there
abbrev pub found_at : {X : Type 0} → List X → Option ℕ → Option (ℕ × X)
found_at xs None = None
found_at xs (Some address) = option_map (λ x. (address, x)) (slice_get xs address)

-- what an instance has at an index
abbrev pub func_at : ℕ → Instance → Store → Option (ℕ × Function)
func_at index i s = found_at s.funcs (slice_get i.funcs index)

abbrev pub table_at : ℕ → Instance → Store → Option (ℕ × Table)
table_at index i s = found_at s.tables (slice_get i.tables index)

abbrev pub memory_at : ℕ → Instance → Store → Option (ℕ × MemoryState)
memory_at index i s = found_at s.memories (slice_get i.memories index)

abbrev pub global_at : ℕ → Instance → Store → Option (ℕ × Global)
global_at index i s = found_at s.globals (slice_get i.globals index)
