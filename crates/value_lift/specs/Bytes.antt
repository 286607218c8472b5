-- What stands in the bytes of a memory (Component Model, CanonicalABI.md, "Loading"): numbers, the lowest byte first; whether
-- bytes are all inside, and places multiples of an alignment; which numbers are characters; and flags, which are bits.
use Rattle.std.specs.Prelude.{ℕ, ◌+◌, ◌/◌, ◌%◌, ◌==◌, nat_lt, nat_le, Bool, ◌&&◌, ◌||◌, List, [], ◌∷◌, ◌++◌, length, take, drop}
use Rattle.std.specs.Int.{Width, byte_len, from_le_bytes}
pub use Rattle.laid_types.specs.Placing.{width_of}

-- so many bytes from a place on
abbrev pub bytes_at : ℕ → ℕ → List ℕ → List ℕ
bytes_at place count memory = take count (drop place memory)

-- so many bytes from a place on are all inside; none are up to the end
abbrev pub is_inside : ℕ → ℕ → List ℕ → Bool
is_inside place count memory = nat_le (place + count) (length memory)

-- the number of as many bytes as the width has, from a place on
abbrev pub number : Width → ℕ → List ℕ → ℕ
number w place memory = from_le_bytes w (bytes_at place (byte_len w) memory)

abbrev pub is_aligned : ℕ → ℕ → Bool
is_aligned place align = place % align == 0

-- a number that is a Unicode scalar value
abbrev pub is_scalar : ℕ → Bool
is_scalar c = nat_lt c 0xD800 || (nat_le 0xE000 c && nat_le c 0x10FFFF)

-- Flags behind others: for each label the lowest bit that is left. Bits above are ignored.
abbrev pub flags_from : List Bool → List (List ℕ) → ℕ → List Bool
flags_from before [] bits = before
flags_from before (l ∷ labels) bits = flags_from (before ++ (bits % 2 == 1) ∷ []) labels (bits / 2)
