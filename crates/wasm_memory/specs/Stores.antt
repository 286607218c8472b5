-- What a store writes (Core 2.0, section 4.4.7).
use Rattle.std.specs.Prelude.{ℕ, ◌%◌, ◌^◌, List}
use Rattle.std.specs.Int.{w8, w16, w32, w64, to_le_bytes}
use Rattle.syntax_trees.specs.declared.instr.StoreOp.{StoreOp}
use Rattle.syntax_trees.specs.declared.instr.StoreOp.TheVariants.{I32Store, I64Store, I32Store8, I32Store16, I64Store8, I64Store16, I64Store32}

-- the bytes of a value, of which as many bits are stored as the instruction says
abbrev pub stored_bytes : StoreOp → ℕ → List ℕ
stored_bytes I32Store n = to_le_bytes w32 (n % 2 ^ 32)
stored_bytes I64Store n = to_le_bytes w64 n
stored_bytes I32Store8 n = to_le_bytes w8 (n % 2 ^ 8)
stored_bytes I32Store16 n = to_le_bytes w16 (n % 2 ^ 16)
stored_bytes I64Store8 n = to_le_bytes w8 (n % 2 ^ 8)
stored_bytes I64Store16 n = to_le_bytes w16 (n % 2 ^ 16)
stored_bytes I64Store32 n = to_le_bytes w32 (n % 2 ^ 32)
