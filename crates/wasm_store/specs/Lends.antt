-- What a store ends as, where the bytes of a memory are lent for writing (Core 2.0, section 4.2.8).
use Rattle.std.specs.Prelude.{ℕ, List, None, slice_index_or}
use Rattle.std.specs.Borrow.{Lends, Fml, MutBor, Array, u8}
use Rattle.wasm_memory.specs.Memories.{MemoryState, made, rewritten}
use Rattle.wasm_store.specs.Store.{Store}
use Rattle.wasm_store.specs.Effects.{with_memory}
use Rattle.wasm_store.specs.contracts.store.Store.{the_row}

-- the memory at an address that is there
abbrev pub memory_in : Store → ℕ → MemoryState
memory_in s address = slice_index_or s.memories address (made 0 None)

-- the store with what was written over the bytes of the memory at an address
abbrev pub memory_rewritten : ℕ → Store → List ℕ → Store
memory_rewritten address s bytes = with_memory address (rewritten (memory_in s address) bytes) s

-- once the loan ends, the memory has what was last written through it
abbrev pub lends_memory : MutBor Store → ℕ → MutBor (List ℕ) → Fml
lends_memory store address r = Lends the_row (Array u8 0) store r (memory_rewritten address store.now)
