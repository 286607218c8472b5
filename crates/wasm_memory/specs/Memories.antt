-- A memory as contracts see it, and how it grows (Core 2.0, sections 4.2.8 and 4.4.7).
use Rattle.std.specs.Prelude.{◌≡◌, ℕ, ◌+◌, ◌*◌, ◌/◌, ◌%◌, ◌≤◌, nat_le, min, if◌then◌else◌, List, ◌++◌, length, take, drop, replicate, Option, Some, None, unwrap_or}

-- its bytes, and the pages that it may have at most, where that is said
pub record MemoryState : Type 0 where
  pub bytes : List ℕ
  pub maximum : Option ℕ

-- the most pages that it may have: 1,024, or its maximum where that is less
abbrev pub most_pages : Option ℕ → ℕ
most_pages maximum = min 1024 (unwrap_or maximum 1024)

-- a page has 65,536 bytes
abbrev pub page_count : MemoryState → ℕ
page_count memory = length memory.bytes / 65536

-- whole pages, and no more than it may have
pub record IsMemory (memory : MemoryState) : Type 0 where
  pub whole : length memory.bytes % 65536 ≡ 0
  pub few : page_count memory ≤ most_pages memory.maximum

-- a new memory
abbrev pub made : ℕ → Option ℕ → MemoryState
made pages maximum = record { bytes = replicate (pages * 65536) 0; maximum = maximum }

-- what growing by so many pages answers: the pages before, or None where there would be too many
abbrev pub growth : MemoryState → ℕ → Option ℕ
growth memory delta = if nat_le (page_count memory + delta) (most_pages memory.maximum) then Some (page_count memory) else None

-- and what it leaves
abbrev pub grown : MemoryState → ℕ → MemoryState
grown memory delta =
    if nat_le (page_count memory + delta) (most_pages memory.maximum) then record memory { bytes = memory.bytes ++ replicate (delta * 65536) 0 }
    else memory

abbrev pub with_bytes : MemoryState → List ℕ → MemoryState
with_bytes memory bytes = record memory { bytes = bytes }

-- the memory with what was written over its bytes, which stay as many
abbrev pub rewritten : MemoryState → List ℕ → MemoryState
rewritten memory bytes = record memory { bytes = take (length memory.bytes) (bytes ++ drop (length bytes) memory.bytes) }
