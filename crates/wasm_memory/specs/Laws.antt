-- What loads find of what was stored.
use Rattle.std.specs.Prelude.{◌≡◌, ℕ, ◌+◌, ◌%◌, ◌^◌, ◌<◌, ◌≤◌, ◌⊎◌, List, length, Some, slice_index}
use Rattle.std.specs.Int.{byte_len}
use mir.Val.{bits}
use Rattle.syntax_trees.specs.declared.instr.LoadOp.{LoadOp}
use Rattle.syntax_trees.specs.declared.instr.LoadOp.TheVariants.{I32Load, I64Load, I32Load8U, I32Load16U, I64Load8U, I64Load16U, I64Load32U}
use Rattle.syntax_trees.specs.declared.instr.StoreOp.{StoreOp}
use Rattle.syntax_trees.specs.declared.instr.StoreOp.TheVariants.{I32Store, I64Store, I32Store8, I32Store16, I64Store8, I64Store16, I64Store32}
use Rattle.wasm_memory.specs.Bytes.{put}
use Rattle.wasm_memory.specs.Loads.{loaded, read_width, result_width}
use Rattle.wasm_memory.specs.Stores.{stored_bytes}

-- the load without a sign that reads as many bits as a store writes
abbrev pub read_back : StoreOp → LoadOp
read_back I32Store = I32Load
read_back I64Store = I64Load
read_back I32Store8 = I32Load8U
read_back I32Store16 = I32Load16U
read_back I64Store8 = I64Load8U
read_back I64Store16 = I64Load16U
read_back I64Store32 = I64Load32U

-- what was stored inside is loaded again, but for the bits that are not stored
abbrev pub StoredIsLoaded : Type 0
StoredIsLoaded =
    (op : StoreOp) (at value : ℕ) (memory : List ℕ) → value < 2 ^ 64 → at + length (stored_bytes op value) ≤ length memory
    → loaded (read_back op) at (put at (stored_bytes op value) memory) ≡ Some (value % 2 ^ bits (read_width (read_back op)))

-- what ends before the bytes that are put, or begins behind them, is loaded as it was
abbrev pub OthersAreLoaded : Type 0
OthersAreLoaded =
    (op : LoadOp) (from at : ℕ) (bytes memory : List ℕ) → (from + byte_len (read_width op) ≤ at) ⊎ (at + length bytes ≤ from)
    → loaded op from (put at bytes memory) ≡ loaded op from memory

-- of bytes a load gives a value of its type
abbrev pub LoadsHaveTheirType : Type 0
LoadsHaveTheirType =
    (op : LoadOp) (at value : ℕ) (memory : List ℕ) → ((i : ℕ) → slice_index memory i < 256) → loaded op at memory ≡ Some value
    → value < 2 ^ bits (result_width op)
