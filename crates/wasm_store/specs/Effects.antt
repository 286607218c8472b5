-- Instructions that leave the blocks and calls around them as they are (Core 2.0, sections 4.4.1, 4.4.4, 4.4.5 and 4.4.7): what
-- they make of a store, of locals and of values. A list of values has the last one first. Numbers are those of
-- wasm_numbers, and memories those of wasm_memory.
use Rattle.std.specs.Prelude.{ℕ, zero, suc, ◌+◌, ◌-◌, ◌%◌, ◌^◌, Bool, ◌&&◌, if◌then◌else◌, List, [], ◌∷◌, length, Option, Some, None, Result, Ok, Err, ℤ, set}
use Rattle.std.specs.List.{slice_get}
use Rattle.std.specs.Option.{option_map}
use Rattle.std.specs.Int.{Width as Bits, w32, w64, cast_unsigned}
use mir.Val.{bits}
use Rattle.syntax_trees.specs.declared.instr.Instr.{Instr}
use Rattle.syntax_trees.specs.declared.instr.Instr.TheVariants as instr
use Rattle.syntax_trees.specs.declared.instr.LoadOp.{LoadOp}
use Rattle.syntax_trees.specs.declared.instr.StoreOp.{StoreOp}
use Rattle.wasm_numbers.specs.declared.trap.NumberTrap.{NumberTrap}
use Rattle.wasm_numbers.specs.declared.trap.NumberTrap.TheVariants as number_trap
use Rattle.wasm_numbers.specs.Stack.{applied}
use Rattle.wasm_memory.specs.Bytes.{is_inside, put, copied, filled}
use Rattle.wasm_memory.specs.Loads.{loaded, result_width}
use Rattle.wasm_memory.specs.Stores.{stored_bytes}
use Rattle.wasm_memory.specs.Memories.{MemoryState, page_count, growth, grown, with_bytes}
use Rattle.wasm_store.specs.declared.trap.Trap.{Trap}
use Rattle.wasm_store.specs.declared.trap.Trap.TheVariants.{DivideByZero, DivideOverflow, MemoryBounds}
use Rattle.wasm_store.specs.Store.{Global, Instance, Store, global_at, memory_at}

pub data Effect : Type 0 where
  -- the store, the locals and the values that are left
  Leaves : Store → List ℕ → List ℕ → Effect
  Fails : Trap → Effect
  -- No rule applies.
  NoRule : Effect

-- the word of a constant
abbrev pub word_of : Bits → ℤ → ℕ
word_of w z = cast_unsigned w z % 2 ^ bits w

-- the trap of a numeric instruction
abbrev pub trap_of : NumberTrap → Trap
trap_of number_trap.DivideByZero = DivideByZero
trap_of number_trap.DivideOverflow = DivideOverflow

-- by what a numeric instruction makes of values
abbrev pub by_number : Option (Result (List ℕ) NumberTrap) → Store → List ℕ → Effect
by_number None s ls = NoRule
by_number (Some (Ok vs)) s ls = Leaves s ls vs
by_number (Some (Err why)) s ls = Fails (trap_of why)

abbrev pub dropped : Store → List ℕ → List ℕ → Effect
dropped s ls (a ∷ vs) = Leaves s ls vs
dropped s ls [] = NoRule

-- the first of two values where the last value is not 0, and else the second
abbrev pub selected : Store → List ℕ → List ℕ → Effect
selected s ls (zero ∷ b ∷ a ∷ vs) = Leaves s ls (b ∷ vs)
selected s ls (suc n ∷ b ∷ a ∷ vs) = Leaves s ls (a ∷ vs)
selected s ls vs = NoRule

abbrev pub local_get : Option ℕ → Store → List ℕ → List ℕ → Effect
local_get (Some value) s ls vs = Leaves s ls (value ∷ vs)
local_get None s ls vs = NoRule

abbrev pub local_set : ℕ → Store → List ℕ → List ℕ → Effect
local_set index s ls (a ∷ vs) = Leaves s (set ls index a) vs
local_set index s ls [] = NoRule

abbrev pub local_tee : ℕ → Store → List ℕ → List ℕ → Effect
local_tee index s ls (a ∷ vs) = Leaves s (set ls index a) (a ∷ vs)
local_tee index s ls [] = NoRule

-- the store with another value of a global, and with another memory
abbrev pub with_global : ℕ → Global → ℕ → Store → Store
with_global address g value s = record s { globals = set s.globals address (record { type = g.type; value = value }) }

abbrev pub with_memory : ℕ → MemoryState → Store → Store
with_memory address m s = record s { memories = set s.memories address m }

abbrev pub global_get : Option (ℕ × Global) → Store → List ℕ → List ℕ → Effect
global_get (Some g) s ls vs = Leaves s ls (g.1.value ∷ vs)
global_get None s ls vs = NoRule

abbrev pub global_set : Option (ℕ × Global) → Store → List ℕ → List ℕ → Effect
global_set (Some g) s ls (a ∷ vs) = Leaves (with_global g.0 g.1 a s) ls vs
global_set g s ls vs = NoRule

-- by what a load gives
abbrev pub by_load : Option ℕ → Store → List ℕ → List ℕ → Effect
by_load (Some value) s ls vs = Leaves s ls (value ∷ vs)
by_load None s ls vs = Fails MemoryBounds

-- by whether all is inside: a memory with other bytes, or a trap
abbrev pub by_bounds : Bool → ℕ × MemoryState → List ℕ → Store → List ℕ → List ℕ → Effect
by_bounds inside m bytes s ls vs = if inside then Leaves (with_memory m.0 (with_bytes m.1 bytes) s) ls vs else Fails MemoryBounds

-- by what growing answers: the memory that it leaves, or -1 and the memory as it was
abbrev pub by_growth : Option ℕ → ℕ → MemoryState → Store → List ℕ → List ℕ → Effect
by_growth (Some pages) address m s ls vs = Leaves (with_memory address m s) ls (pages ∷ vs)
by_growth None address m s ls vs = Leaves s ls ((2 ^ 32 - 1) ∷ vs)

-- a load's number as a word of its type; of bytes, which are below 256, it is one already
abbrev pub as_word : LoadOp → ℕ → ℕ
as_word op n = n % 2 ^ bits (result_width op)

-- The place is the operand and the offset together, and may pass 2 ^ 32.
abbrev pub load : LoadOp → ℕ → Option (ℕ × MemoryState) → Store → List ℕ → List ℕ → Effect
load op offset (Some m) s ls (a ∷ vs) = by_load (option_map (as_word op) (loaded op (a + offset) m.1.bytes)) s ls vs
load op offset m s ls vs = NoRule

abbrev pub store : StoreOp → ℕ → Option (ℕ × MemoryState) → Store → List ℕ → List ℕ → Effect
store op offset (Some m) s ls (b ∷ a ∷ vs) =
    by_bounds (is_inside (a + offset) (length (stored_bytes op b)) m.1.bytes) m (put (a + offset) (stored_bytes op b) m.1.bytes) s ls vs
store op offset m s ls vs = NoRule

abbrev pub memory_size : Option (ℕ × MemoryState) → Store → List ℕ → List ℕ → Effect
memory_size (Some m) s ls vs = Leaves s ls (page_count m.1 ∷ vs)
memory_size None s ls vs = NoRule

abbrev pub memory_grow : Option (ℕ × MemoryState) → Store → List ℕ → List ℕ → Effect
memory_grow (Some m) s ls (more ∷ vs) = by_growth (growth m.1 more) m.0 (grown m.1 more) s ls vs
memory_grow m s ls vs = NoRule

-- a byte, so many times
abbrev pub memory_fill : Option (ℕ × MemoryState) → Store → List ℕ → List ℕ → Effect
memory_fill (Some m) s ls (count ∷ value ∷ at ∷ vs) = by_bounds (is_inside at count m.1.bytes) m (filled at (value % 256) count m.1.bytes) s ls vs
memory_fill m s ls vs = NoRule

-- so many bytes, as they were before
abbrev pub memory_copy : Option (ℕ × MemoryState) → Store → List ℕ → List ℕ → Effect
memory_copy (Some m) s ls (count ∷ from ∷ to ∷ vs) =
    by_bounds (is_inside to count m.1.bytes && is_inside from count m.1.bytes) m (copied to from count m.1.bytes) s ls vs
memory_copy m s ls vs = NoRule

-- an instruction of an instance. Those that are not here are those of blocks and calls
abbrev pub effect : Instr → Instance → Store → List ℕ → List ℕ → Effect
effect instr.Nop i s ls vs = Leaves s ls vs
effect instr.Drop i s ls vs = dropped s ls vs
effect instr.Select i s ls vs = selected s ls vs
effect (instr.SelectTyped types) i s ls vs = selected s ls vs
effect (instr.LocalGet index) i s ls vs = local_get (slice_get ls index) s ls vs
effect (instr.LocalSet index) i s ls vs = local_set index s ls vs
effect (instr.LocalTee index) i s ls vs = local_tee index s ls vs
effect (instr.GlobalGet index) i s ls vs = global_get (global_at index i s) s ls vs
effect (instr.GlobalSet index) i s ls vs = global_set (global_at index i s) s ls vs
effect (instr.Load op arg) i s ls vs = load op arg.offset (memory_at 0 i s) s ls vs
effect (instr.Store op arg) i s ls vs = store op arg.offset (memory_at 0 i s) s ls vs
effect instr.MemorySize i s ls vs = memory_size (memory_at 0 i s) s ls vs
effect instr.MemoryGrow i s ls vs = memory_grow (memory_at 0 i s) s ls vs
effect instr.MemoryCopy i s ls vs = memory_copy (memory_at 0 i s) s ls vs
effect instr.MemoryFill i s ls vs = memory_fill (memory_at 0 i s) s ls vs
effect (instr.I32Const value) i s ls vs = Leaves s ls (word_of w32 value ∷ vs)
effect (instr.I64Const value) i s ls vs = Leaves s ls (word_of w64 value ∷ vs)
effect (instr.Numeric op) i s ls vs = by_number (applied op vs) s ls
effect control i s ls vs = NoRule
