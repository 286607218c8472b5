-- Numbers in LEB128 (Core 2.0, section 5.2.2), in as few bytes as they need: each byte holds seven bits, the lowest
-- first, and is 128 more where others follow.
use Rattle.std.specs.Prelude.{◌+◌, ◌-◌, ◌/◌, ◌%◌, ℕ, zero, suc, ℤ, pos, negsuc, Bool, true, false, List, [], ◌∷◌, nat_lt, if◌then◌else◌}

-- the bytes of a number that is not signed, of which there are at most so many
unfoldable pub unsigned_in : ℕ → ℕ → List ℕ
unsigned_in zero n = []
unsigned_in (suc more) n = if nat_lt n 128 then n ∷ [] else (128 + n % 128) ∷ unsigned_in more (n / 128)

-- Numbers of at most 64 bits have at most ten bytes.
abbrev pub unsigned_bytes : ℕ → List ℕ
unsigned_bytes n = unsigned_in 10 n

-- The lowest seven bits of a number n, or of its complement, which is the negative number -1 - n.
abbrev pub low_bits : Bool → ℕ → ℕ
low_bits false n = n % 128
low_bits true n = 127 - n % 128

-- The bytes of n or of its complement, of which there are at most so many. The last one tells the sign: it is below 64
-- where the number is not negative.
unfoldable pub signed_in : Bool → ℕ → ℕ → List ℕ
signed_in negative zero n = []
signed_in negative (suc more) n = if nat_lt n 64 then low_bits negative n ∷ [] else (128 + low_bits negative n) ∷ signed_in negative more (n / 128)

-- the bytes of a signed number
abbrev pub signed_bytes : ℤ → List ℕ
signed_bytes (pos n) = signed_in false 10 n
signed_bytes (negsuc n) = signed_in true 10 n
