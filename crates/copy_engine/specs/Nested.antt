-- Lowering into a memory of a store (Component Model, CanonicalABI.md, "Lifting and Lowering Context", "Storing"; Core 2.0, sections
-- 4.2.8 and 4.4): what a realloc comes to by the moves of its own stack, and what a store of bytes leaves.
use Rattle.std.specs.Prelude.{◌≡◌, ℕ, Bool, ◌&&◌, if◌then◌else◌, List, [], ◌∷◌, Option, Some, None, Result, Ok, Err}
use Rattle.std.specs.List.{slice_get}
use Rattle.syntax_trees.specs.declared.module_types.ValType.TheVariants.{I32}
use Rattle.syntax_trees.specs.SameTypes.{same_types}
use Rattle.wasm_memory.specs.Memories.{MemoryState, with_bytes}
use Rattle.wasm_store.specs.Store.{Function, type_of, Store, found_at}
use Rattle.wasm_store.specs.Stack.{Stack}
use Rattle.wasm_store.specs.Effects.{with_memory}
use Rattle.wasm_store.specs.Step.{Calls, Ends, Traps, start}
use Rattle.wasm_execution.specs.Run.{Comes, Waits, GivesUp}
use Rattle.value_lower.specs.declared.ends.RoomEnd.{RoomEnd}
use Rattle.value_lower.specs.declared.ends.RoomEnd.TheVariants.{Trapped, NoFuel, Memory}
use Rattle.value_lower.specs.Plan.{Ask}
use Rattle.value_lower.specs.Following.{Rooms, untabled, written}
use Rattle.copy_engine.specs.declared.nested.HostCall.{HostCall}
use Rattle.copy_engine.specs.declared.store_room.LowerOptions.{LowerOptions}
use Rattle.copy_engine.specs.declared.nested.NestedTrap.{NestedTrap}
use Rattle.copy_engine.specs.declared.nested.NestedTrap.TheVariants.{Core, CannotLeave, NoRealloc}

-- what a lowering works on: a store, the units of fuel that are left, and the call of the host at which nested code ended
pub record RoomState : Type 0 where
  pub store : Store
  pub units : ℕ
  pub call : Option HostCall

-- the bytes of the memory at an address: none where no memory is there
abbrev pub bytes_of : Option MemoryState → List ℕ
bytes_of None = []
bytes_of (Some m) = m.bytes

abbrev pub bytes_in : ℕ → Store → List ℕ
bytes_in address s = bytes_of (slice_get s.memories address)

-- the store with other bytes in that memory
abbrev pub rewritten_at : ℕ → List ℕ → Option MemoryState → Store → Store
rewritten_at address bytes None s = s
rewritten_at address bytes (Some m) s = with_memory address (with_bytes m bytes) s

abbrev pub with_bytes_in : ℕ → List ℕ → Store → Store
with_bytes_in address bytes s = rewritten_at address bytes (slice_get s.memories address) s

-- the memory of the options
abbrev pub memory_with : LowerOptions → RoomState → List ℕ
memory_with options r = bytes_in options.memory r.store

-- A store of bytes at a place changes that memory and nothing else.
abbrev pub Stores : LowerOptions → RoomState → ℕ → List ℕ → RoomState → Type 0
Stores options r place bytes s = s ≡ record r { store = with_bytes_in options.memory (written place bytes (memory_with options r)) r.store }

-- whether a function takes four i32 and gives one
abbrev pub is_realloc : Function → Bool
is_realloc f = same_types (type_of f).params (I32 ∷ I32 ∷ I32 ∷ I32 ∷ []) && same_types (type_of f).results (I32 ∷ [])

-- the function that a realloc calls, with its address: the one that the options name, where it is such a function
abbrev pub if_realloc : Option (ℕ × Function) → Option (ℕ × Function)
if_realloc None = None
if_realloc (Some f) = if is_realloc f.1 then Some f else None

abbrev pub realloc_in : Option ℕ → Store → Option (ℕ × Function)
realloc_in address s = if_realloc (found_at s.funcs address)

-- the stack of a realloc: a call of that function with what is asked
abbrev pub begun : ℕ × Function → Ask → Stack
begun f ask = start f.1 f.0 (ask.old ∷ ask.old_size ∷ ask.align ∷ ask.size ∷ [])

-- What a stack that gives a place comes to by its moves, each for what it costs: it ends with the place, traps, or calls a function of
-- the host, which is kept; or its next move costs a unit while none is left. Where the program is short of memory, the stack is given up
-- behind moves that lead to the store that is left, and the call is as it was.
abbrev pub NestedGives : RoomState → Stack → Result ℕ (RoomEnd NestedTrap) → RoomState → Type 0
NestedGives r k (Ok place) s = Comes r.store k r.units s.store s.units (Ends (place ∷ [])) × (s.call ≡ r.call)
NestedGives r k (Err (Trapped (Core why))) s = Comes r.store k r.units s.store s.units (Traps why) × (s.call ≡ r.call)
NestedGives r k (Err (Trapped CannotLeave)) s =
    (call : HostCall) × (waits : Stack) × Comes r.store k r.units s.store s.units (Calls call.address call.words waits) × (s.call ≡ Some call)
NestedGives r k (Err (Trapped NoRealloc)) s = ⊥
NestedGives r k (Err NoFuel) s = (later : Stack) × Waits r.store k r.units s.store s.units later × (s.call ≡ r.call)
NestedGives r k (Err Memory) s = GivesUp r.store k r.units s.store s.units × (s.call ≡ r.call)

-- What a realloc comes to: without a function nothing runs.
abbrev pub ReallocGives : Option (ℕ × Function) → RoomState → Ask → Result ℕ (RoomEnd NestedTrap) → RoomState → Type 0
ReallocGives None r ask result s = (result ≡ Err (Trapped NoRealloc)) × (s ≡ r)
ReallocGives (Some f) r ask result s = NestedGives r (begun f ask) result s

abbrev pub Reallocs : LowerOptions → RoomState → Ask → Result ℕ (RoomEnd NestedTrap) → RoomState → Type 0
Reallocs options r ask result s = ReallocGives (realloc_in options.realloc r.store) r ask result s

-- A memory of a store with its realloc, as what is said of rooms. It has no table.
abbrev pub rooms_with : LowerOptions → Rooms RoomState NestedTrap
rooms_with options = untabled (memory_with options) (Reallocs options) (Stores options)
