-- Bytes of a memory: numbers in them, the lowest byte first (Core 2.0, section 4.3.1), and bytes that are put, copied and
-- filled (section 4.4.7). What is not all inside changes nothing.
use Rattle.std.specs.Prelude.{ℕ, ◌+◌, Bool, ◌&&◌, nat_le, if◌then◌else◌, List, ◌++◌, length, take, drop, replicate, Option, Some, None}
use Rattle.std.specs.Int.{Width, byte_len, from_le_bytes}

-- so many bytes from a place on are all inside; none are up to the end
abbrev pub is_inside : ℕ → ℕ → List ℕ → Bool
is_inside at count memory = nat_le (at + count) (length memory)

-- the number of as many bytes as the width has, from a place on
abbrev pub number_at : Width → ℕ → List ℕ → Option ℕ
number_at w at memory = if is_inside at (byte_len w) memory then Some (from_le_bytes w (take (byte_len w) (drop at memory))) else None

-- the memory with these bytes from a place on in place of those that were there
abbrev pub with_at : ℕ → List ℕ → List ℕ → List ℕ
with_at at bytes memory = take at memory ++ bytes ++ drop (at + length bytes) memory

abbrev pub put : ℕ → List ℕ → List ℕ → List ℕ
put at bytes memory = if is_inside at (length bytes) memory then with_at at bytes memory else memory

-- with a copy, to the first place, of so many bytes from the second one on
abbrev pub copied : ℕ → ℕ → ℕ → List ℕ → List ℕ
copied to from count memory =
    if is_inside to count memory && is_inside from count memory then take to memory ++ take count (drop from memory) ++ drop (to + count) memory
    else memory

-- with so many copies of a byte from a place on
abbrev pub filled : ℕ → ℕ → ℕ → List ℕ → List ℕ
filled at byte count memory =
    if is_inside at count memory then take at memory ++ replicate count byte ++ drop (at + count) memory
    else memory
