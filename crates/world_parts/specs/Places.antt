-- Memories of core instances (Component Model, CanonicalABI.md, "Canonical ABI Options"; Core 2.0, section 4.2.8): which one options name, its
-- bytes, and what is put into it.
use Rattle.std.specs.Prelude.{ℕ, ◌+◌, nat_le, if◌then◌else◌, List, [], ◌++◌, length, take, drop, Option, Some, None}
use Rattle.std.specs.List.{slice_get}
use Rattle.wasm_memory.specs.Memories.{MemoryState, with_bytes}
use Rattle.wasm_store.specs.Store.{Store}
use Rattle.wasm_store.specs.Effects.{with_memory}
use Rattle.comp_graph.specs.declared.graph.CoreRef.{CoreRef}
use Rattle.comp_graph.specs.declared.graph.Options.{Options}
use Rattle.world_parts.specs.Held.{Held, Done, Gives, Stuck}

-- A core instance has one memory at most. The address of the memory that options name, where they name one.
abbrev pub memory_in : Option (Option ℕ) → Option ℕ
memory_in None = None
memory_in (Some memory) = memory

abbrev pub memory_by : Option CoreRef → Held → Option ℕ
memory_by None h = None
memory_by (Some m) h = memory_in (slice_get h.memories m.instance)

abbrev pub memory_of : Options → Held → Option ℕ
memory_of options h = memory_by options.memory h

-- the bytes of the memory at an address: none where no memory is there
abbrev pub bytes_of : Option MemoryState → List ℕ
bytes_of None = []
bytes_of (Some m) = m.bytes

abbrev pub bytes_in : ℕ → Store → List ℕ
bytes_in address s = bytes_of (slice_get s.memories address)

abbrev pub bytes_at : Option ℕ → Store → List ℕ
bytes_at None s = []
bytes_at (Some address) s = bytes_in address s

-- the store with other bytes in that memory
abbrev pub rewritten_at : ℕ → List ℕ → Option MemoryState → Store → Store
rewritten_at address bytes None s = s
rewritten_at address bytes (Some m) s = with_memory address (with_bytes m bytes) s

abbrev pub with_bytes_in : ℕ → List ℕ → Store → Store
with_bytes_in address bytes s = rewritten_at address bytes (slice_get s.memories address) s

-- bytes with others that are put at a place
abbrev pub written : ℕ → List ℕ → List ℕ → List ℕ
written place bytes memory = take place memory ++ bytes ++ drop (place + length bytes) memory

-- Bytes are put into a memory where they are inside.
abbrev pub bytes_put : Option ℕ → ℕ → List ℕ → Held → Done (Unit {0})
bytes_put None place bytes h = Stuck
bytes_put (Some address) place bytes h =
    if nat_le (place + length bytes) (length (bytes_in address h.store))
    then Gives tt (record h { store = with_bytes_in address (written place bytes (bytes_in address h.store)) h.store })
    else Stuck
