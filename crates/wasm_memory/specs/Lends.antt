-- What a memory ends as, where its bytes are lent for writing.
use Rattle.std.specs.Prelude.{ℕ, List}
use Rattle.std.specs.Borrow.{Lends, Fml, MutBor, Array, u8}
use Rattle.wasm_memory.specs.Memories.{MemoryState, rewritten}
use Rattle.wasm_memory.specs.contracts.memory.LinearMemory.{the_row}

-- once the loan ends, it has what was last written through it
abbrev pub lends_bytes : MutBor MemoryState → MutBor (List ℕ) → Fml
lends_bytes memory r = Lends the_row (Array u8 0) memory r (rewritten memory.now)
