-- Typed stores and stacks and stores that extend others (Core 2.0, the appendix on soundness).
use Rattle.std.specs.Prelude.{◌≡◌, ◌<◌, ◌≤◌, ℕ, List, [], ◌∷◌, ◌++◌, map, length, Option, Some, None}
use Rattle.std.specs.List.{slice_get, AllByRecursion}
use Rattle.syntax_trees.specs.declared.module_types.ValType.{ValType}
use Rattle.syntax_trees.specs.declared.module_types.FuncType.{FuncType}
use Rattle.syntax_trees.specs.declared.module_types.GlobalType.{GlobalType}
use Rattle.syntax_trees.specs.declared.module_types.Mutability.{Mutability}
use Rattle.syntax_trees.specs.declared.module_types.Mutability.TheVariants.{Constant, Variable}
use Rattle.syntax_trees.specs.Expr.{Expr}
use Rattle.syntax_trees.specs.Locals.{local_types}
use Rattle.syntax_trees.specs.declared.module.ModuleTree.{ModuleTree}
use Rattle.wasm_typing.specs.Context.{Context}
use Rattle.wasm_typing.specs.Instrs.{func_type}
use Rattle.wasm_typing.specs.Modules.{func_space, table_count, memory_count, global_space}
use Rattle.wasm_typing.specs.Typing.{Operands, operands_of, TypedFrom, BodyTyped}
use Rattle.wasm_numbers.specs.Types.{IsWord, AreWords}
use Rattle.wasm_memory.specs.Memories.{MemoryState, IsMemory}
use Rattle.wasm_store.specs.Store.{Function, Own, Host, type_of, Table, Global, Instance, Store, func_at, table_at, memory_at, global_at}
use Rattle.wasm_store.specs.Stack.{Label, Frame, Stack, Running, AtHost, Given}

-- An instance of the store has what a context says: the types, and of each index a function of its type, a table, a memory
-- or a global of its type.
pub record HasContext (s : Store) (i : Instance) (c : Context) : Type 0 where
  pub types : i.types ≡ c.types
  pub funcs : (index : ℕ) (type : FuncType) → func_type c index ≡ Some type → (p : ℕ × Function) × (func_at index i s ≡ Some p) × (type_of p.1 ≡ type)
  pub tables : (index : ℕ) → index < c.tables → (p : ℕ × Table) × (table_at index i s ≡ Some p)
  pub memories : (index : ℕ) → index < c.memories → (p : ℕ × MemoryState) × (memory_at index i s ≡ Some p)
  pub globals : (index : ℕ) (type : GlobalType) → slice_get c.globals index ≡ Some type → (p : ℕ × Global) × (global_at index i s ≡ Some p) × (p.1.type ≡ type)

-- the context of a module, of none of its functions
abbrev pub module_context : ModuleTree → Context
module_context m = record {
  types = m.types;
  funcs = func_space m;
  tables = table_count m;
  memories = memory_count m;
  globals = global_space m;
  locals = [];
  results = [];
}

-- a function whose body is typed in a context that its instance has
pub record OwnTyped (s : Store) (type : FuncType) (locals : List ValType) (instance : ℕ) (body : Expr) : Type 0 where
  pub context : Context
  pub owner : Instance
  pub there : slice_get s.instances instance ≡ Some owner
  pub has : HasContext s owner context
  pub locals_are : context.locals ≡ locals
  pub results_are : context.results ≡ type.results
  pub typed : BodyTyped context body

abbrev pub FunctionTyped : Store → Function → Type 0
FunctionTyped s (Own type instance locals body) = OwnTyped s type (local_types type locals) instance body
FunctionTyped s (Host type) = Unit {0}

-- an entry of a table is nothing or a function of the store
abbrev pub EntryTyped : Store → Option ℕ → Type 0
EntryTyped s None = Unit {0}
EntryTyped s (Some address) = (f : Function) × (slice_get s.funcs address ≡ Some f)

abbrev pub TableTyped : Store → Table → Type 0
TableTyped s t = AllByRecursion (EntryTyped s) t.entries

-- A memory has whole pages, and no more than it may have.
abbrev pub MemoryTyped : MemoryState → Type 0
MemoryTyped m = IsMemory m

abbrev pub GlobalTyped : Global → Type 0
GlobalTyped g = IsWord g.type.val_type g.value

pub record StoreTyped (s : Store) : Type 0 where
  pub funcs : AllByRecursion (FunctionTyped s) s.funcs
  pub tables : AllByRecursion (TableTyped s) s.tables
  pub memories : AllByRecursion MemoryTyped s.memories
  pub globals : AllByRecursion GlobalTyped s.globals

-- What stands at an address in the one list is followed by what stands there in the other one.
abbrev pub Keeps : {X : Type 0} → (X → X → Type 0) → List X → List X → Type 0
Keeps {X} R xs ys = (address : ℕ) (x : X) → slice_get xs address ≡ Some x → (y : X) × (slice_get ys address ≡ Some y) × R x y

abbrev pub IsSame : {X : Type 0} → X → X → Type 0
IsSame x y = y ≡ x

abbrev pub IsLaterTable : Table → Table → Type 0
IsLaterTable t u = (u.max ≡ t.max) × (length u.entries ≡ length t.entries)

abbrev pub IsLaterMemory : MemoryState → MemoryState → Type 0
IsLaterMemory m n = (n.maximum ≡ m.maximum) × (length m.bytes ≤ length n.bytes)

-- A constant keeps its value.
abbrev pub IsKept : Mutability → ℕ → ℕ → Type 0
IsKept Constant old new = new ≡ old
IsKept Variable old new = Unit {0}

abbrev pub IsLaterGlobal : Global → Global → Type 0
IsLaterGlobal g h = (h.type ≡ g.type) × IsKept g.type.mutability g.value h.value

-- The later store has all that the earlier one has: functions and instances as they were, tables of the same size, memories
-- that have not shrunk, and globals of the same types, constants with their values.
pub record Extends (s t : Store) : Type 0 where
  pub funcs : Keeps IsSame s.funcs t.funcs
  pub tables : Keeps IsLaterTable s.tables t.tables
  pub memories : Keeps IsLaterMemory s.memories t.memories
  pub globals : Keeps IsLaterGlobal s.globals t.globals
  pub instances : Keeps IsSame s.instances t.instances

-- operands of known types, the last one first
abbrev pub known : List ValType → Operands
known types = map (λ t. Some t) types

-- what a branch to a label goes on with, over operands of the label's types
abbrev pub AgainTyped : Context → List (List ValType) → List ValType → List ValType → Option Expr → Type 0
AgainTyped c labels type ends None = type ≡ ends
AgainTyped c labels type ends (Some body) = TypedFrom c (type ∷ labels) ends body (operands_of type)

-- The labels have these types. The innermost block ends with values of these types, over these ones.
abbrev pub LabelsTyped : Context → List Label → List (List ValType) → List ValType → List ℕ → Type 0
LabelsTyped c [] [] ends under = (ends ≡ c.results) × (under ≡ [])
LabelsTyped c [] (type ∷ types) ends under = ⊥
LabelsTyped c (l ∷ labels) [] ends under = ⊥
LabelsTyped c (l ∷ labels) (type ∷ types) ends under =
    (l.arity ≡ length type) × (under ≡ l.under) × AgainTyped c types type ends l.again
    × ((own : List ValType) × (words : List ℕ) × (below : List ℕ) × (outer : List ValType) × (l.under ≡ words ++ below) × AreWords own words
    × TypedFrom c types outer l.after (operands_of ends ++ known own) × LabelsTyped c labels types outer below)

-- A frame that waits for values of the first types gives values of the second: what is left of it is typed in a context
-- that its instance has, over the values of the innermost block.
pub record FrameTyped (s : Store) (waits gives : List ValType) (f : Frame) : Type 0 where
  pub context : Context
  pub owner : Instance
  pub there : slice_get s.instances f.instance ≡ Some owner
  pub has : HasContext s owner context
  pub locals_are : AreWords context.locals f.locals
  pub results_are : context.results ≡ gives
  pub count : f.results ≡ length gives
  pub types : List (List ValType)
  pub ends : List ValType
  pub own : List ValType
  pub words : List ℕ
  pub under : List ℕ
  pub values_are : f.values ≡ words ++ under
  pub typed : AreWords own words
  pub left : TypedFrom context types ends f.rest (operands_of waits ++ known own)
  pub around : LabelsTyped context f.labels types ends under

-- frames, each of which waits for what the one before it gives. The last one gives the results
abbrev pub FramesTyped : Store → List ValType → List ValType → List Frame → Type 0
FramesTyped s results waits [] = waits ≡ results
FramesTyped s results waits (f ∷ fs) = (gives : List ValType) × FrameTyped s waits gives f × FramesTyped s results gives fs

-- a stack that ends with words of these types
abbrev pub StackTyped : Store → List ValType → Stack → Type 0
StackTyped s results (Running f fs) = FramesTyped s results [] (f ∷ fs)
StackTyped s results (AtHost address words) = (type : FuncType) × (slice_get s.funcs address ≡ Some (Host type)) × AreWords type.params words × (type.results ≡ results)
StackTyped s results (Given words) = AreWords results words
