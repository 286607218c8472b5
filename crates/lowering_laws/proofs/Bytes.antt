-- Bytes stay bytes where some are put in the place of others.
use Rattle.std.proofs.Common.{◌<◌, ◌+◌, ◌*◌, ◌%◌, ◌^◌, ℕ, zero, suc, ◌&&◌, nat_le, List, [], ◌∷◌, ◌++◌, length, take, drop, replicate, arith}
use Rattle.std.specs.Prelude.{slice_index}
use Rattle.std.specs.Int.{Width, w8, w16, w32, w64, byte_len, byte_at, bytes_low_first, to_le_bytes}
use Rattle.syntax_trees.specs.declared.instr.StoreOp.{StoreOp}
use Rattle.syntax_trees.specs.declared.instr.StoreOp.TheVariants.{I32Store, I64Store, I32Store8, I32Store16, I64Store8, I64Store16, I64Store32}
use Rattle.wasm_memory.specs.Bytes.{is_inside, put, copied, filled}
use Rattle.wasm_memory.specs.Stores.{stored_bytes}
use Rattle.wasm_memory.specs.Memories.{MemoryState, page_count, most_pages, grown}
use Rattle.wasm_store.proofs.Lists.{if_both, all_append, all_take, all_drop, all_replicate}
use Rattle.lowering_laws.specs.Values.{AreBytes}

abbrev IsByte : ℕ → Type 0
IsByte byte = byte < 256

low_bytes : (i count n : ℕ) → AreBytes (bytes_low_first i count n)
low_bytes i zero n = tt
low_bytes i (suc count) n = (below i n, low_bytes (suc i) count n)
  where
    below : (i n : ℕ) → byte_at i n < 256
    below zero n = omega arith
    below (suc i) n = omega arith

pub le_bytes : (w : Width) (n : ℕ) → AreBytes (to_le_bytes w n)
le_bytes w n = low_bytes 0 (byte_len w) n

pub stored_are_bytes : (op : StoreOp) (n : ℕ) → AreBytes (stored_bytes op n)
stored_are_bytes I32Store n = le_bytes w32 (n % 2 ^ 32)
stored_are_bytes I64Store n = le_bytes w64 n
stored_are_bytes I32Store8 n = le_bytes w8 (n % 2 ^ 8)
stored_are_bytes I32Store16 n = le_bytes w16 (n % 2 ^ 16)
stored_are_bytes I64Store8 n = le_bytes w8 (n % 2 ^ 8)
stored_are_bytes I64Store16 n = le_bytes w16 (n % 2 ^ 16)
stored_are_bytes I64Store32 n = le_bytes w32 (n % 2 ^ 32)

-- bytes in the place of as many others
pub between : (front behind : ℕ) (bytes memory : List ℕ) → AreBytes bytes → AreBytes memory → AreBytes (take front memory ++ bytes ++ drop behind memory)
between front behind bytes memory h k =
    all_append IsByte (take front memory ++ bytes) (drop behind memory) (all_append IsByte (take front memory) bytes (all_take IsByte front memory k) h) (all_drop IsByte behind memory k)

pub put_bytes : (at : ℕ) (bytes memory : List ℕ) → AreBytes bytes → AreBytes memory → AreBytes (put at bytes memory)
put_bytes at bytes memory h k = if_both AreBytes (is_inside at (length bytes) memory) _ _ (λ t. between at (at + length bytes) bytes memory h k) (λ t. k)

pub copied_bytes : (to from count : ℕ) (memory : List ℕ) → AreBytes memory → AreBytes (copied to from count memory)
copied_bytes to from count memory h =
    if_both AreBytes (is_inside to count memory && is_inside from count memory) _ _
    (λ t. between to (to + count) (take count (drop from memory)) memory (all_take IsByte count (drop from memory) (all_drop IsByte from memory h)) h) (λ t. h)

pub filled_bytes : (at byte count : ℕ) (memory : List ℕ) → byte < 256 → AreBytes memory → AreBytes (filled at byte count memory)
filled_bytes at byte count memory h k =
    if_both AreBytes (is_inside at count memory) _ _ (λ t. between at (at + count) (replicate count byte) memory (all_replicate IsByte count byte h) k) (λ t. k)

pub zeros_are_bytes : (count : ℕ) → AreBytes (replicate count 0)
zeros_are_bytes count = all_replicate IsByte count 0 (omega arith)

pub grown_bytes : (more : ℕ) (m : MemoryState) → AreBytes m.bytes → AreBytes (grown m more).bytes
grown_bytes more m h =
    if_both (λ (n : MemoryState). AreBytes n.bytes) (nat_le (page_count m + more) (most_pages m.maximum)) _ _
    (λ t. all_append IsByte m.bytes (replicate (more * 65536) 0) h (zeros_are_bytes (more * 65536))) (λ t. h)

-- Bytes are bytes by their places, with 0 where there is none.
pub are_bytes : (bytes : List ℕ) → ((i : ℕ) → slice_index bytes i < 256) → AreBytes bytes
are_bytes [] h = tt
are_bytes (b ∷ bytes) h = (h zero, are_bytes bytes (λ i. h (suc i)))

pub each_byte : (memory : List ℕ) → AreBytes memory → (i : ℕ) → slice_index memory i < 256
each_byte [] h i = omega arith
each_byte (byte ∷ memory) h zero = h.0
each_byte (byte ∷ memory) h (suc i) = each_byte memory h.1 i
