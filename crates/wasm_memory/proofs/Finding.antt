-- Numbers in a memory into which bytes were put.
use Rattle.std.proofs.Common.{◌≡◌, ℕ, ◌+◌, ◌%◌, ◌^◌, ◌<◌, ◌≤◌, cond, leb, List, length, take, drop, Option, Some, None, refl, sym, ◌∙◌, ap, arith, ◌⊎◌, mod-eq_of_lt}
use Rattle.std.proofs.lemmas.Bool.{cond_both, cond-true, leb-true, le-leb}
use Rattle.std.proofs.lemmas.Nat.{pow_pos, mod_below, from_le_bytes-to_le_bytes_2, from_le_bytes-to_le_bytes_4, from_le_bytes-to_le_bytes_8}
use Rattle.std.specs.Option.{option_map}
use Rattle.std.specs.Int.{Width, w8, w16, w32, w64, byte_len, from_le_bytes, to_le_bytes}
use Rattle.syntax_trees.specs.declared.instr.LoadOp.TheVariants.{I32Load, I64Load, I32Load8U, I32Load16U, I64Load8U, I64Load16U, I64Load32U}
use Rattle.syntax_trees.specs.declared.instr.StoreOp.TheVariants.{I32Store, I64Store, I32Store8, I32Store16, I64Store8, I64Store16, I64Store32}
use Rattle.wasm_memory.specs.Bytes.{is_inside, number_at, with_at, put}
use Rattle.wasm_memory.specs.Loads.{value_of, read_width}
use Rattle.wasm_memory.specs.Laws.{StoredIsLoaded, OthersAreLoaded}
use Rattle.wasm_memory.proofs.Putting.{length_with, put_inside, there, beside}

-- what is found in so many bytes, of which these stand there
abbrev found : Width → ℕ → ℕ → List ℕ → Option ℕ
found w at size bytes = cond (leb (at + byte_len w) size) (Some (from_le_bytes w bytes)) None

found_put : (w : Width) (at : ℕ) (bytes memory : List ℕ) → length bytes ≡ byte_len w → at + length bytes ≤ length memory → number_at w at (put at bytes memory) ≡ Some (from_le_bytes w bytes)
found_put w at bytes memory size inside =
    let whole : List ℕ = with_at at bytes memory in
    let long : length whole ≡ length memory = length_with at bytes memory inside in
    ap (number_at w at) (put_inside at bytes memory inside)
    ∙ ap (found w at (length whole)) (there at (byte_len w) bytes memory size inside)
    ∙ cond-true (leb (at + byte_len w) (length whole)) (Some (from_le_bytes w bytes)) None (le-leb (at + byte_len w) (length whole) (omega arith))

-- a number whose bytes are read back
number_put : (w : Width) (at n : ℕ) (memory : List ℕ) → from_le_bytes w (to_le_bytes w n) ≡ n → length (to_le_bytes w n) ≡ byte_len w → at + length (to_le_bytes w n) ≤ length memory → number_at w at (put at (to_le_bytes w n) memory) ≡ Some n
number_put w at n memory back size inside = found_put w at (to_le_bytes w n) memory size inside ∙ ap (λ m. Some m) back

put_8 : (at n : ℕ) (memory : List ℕ) → at + 1 ≤ length memory → number_at w8 at (put at (to_le_bytes w8 (n % 2 ^ 8)) memory) ≡ Some (n % 2 ^ 8)
put_8 at n memory inside = number_put w8 at (n % 2 ^ 8) memory (mod-eq_of_lt (mod_below n (2 ^ 8) (pow_pos 8))) refl inside

put_16 : (at n : ℕ) (memory : List ℕ) → at + 2 ≤ length memory → number_at w16 at (put at (to_le_bytes w16 (n % 2 ^ 16)) memory) ≡ Some (n % 2 ^ 16)
put_16 at n memory inside = number_put w16 at (n % 2 ^ 16) memory (from_le_bytes-to_le_bytes_2 (n % 2 ^ 16) (mod_below n (2 ^ 16) (pow_pos 16))) refl inside

put_32 : (at n : ℕ) (memory : List ℕ) → at + 4 ≤ length memory → number_at w32 at (put at (to_le_bytes w32 (n % 2 ^ 32)) memory) ≡ Some (n % 2 ^ 32)
put_32 at n memory inside = number_put w32 at (n % 2 ^ 32) memory (from_le_bytes-to_le_bytes_4 (n % 2 ^ 32) (mod_below n (2 ^ 32) (pow_pos 32))) refl inside

put_64 : (at n : ℕ) (memory : List ℕ) → n < 2 ^ 64 → at + 8 ≤ length memory → number_at w64 at (put at (to_le_bytes w64 n) memory) ≡ Some (n % 2 ^ 64)
put_64 at n memory word inside = number_put w64 at n memory (from_le_bytes-to_le_bytes_8 n word) refl inside ∙ ap (λ m. Some m) (sym (mod-eq_of_lt word))

pub stored_loaded : StoredIsLoaded
stored_loaded I32Store at value memory word inside = ap (option_map (value_of I32Load)) (put_32 at value memory inside)
stored_loaded I64Store at value memory word inside = ap (option_map (value_of I64Load)) (put_64 at value memory word inside)
stored_loaded I32Store8 at value memory word inside = ap (option_map (value_of I32Load8U)) (put_8 at value memory inside)
stored_loaded I32Store16 at value memory word inside = ap (option_map (value_of I32Load16U)) (put_16 at value memory inside)
stored_loaded I64Store8 at value memory word inside = ap (option_map (value_of I64Load8U)) (put_8 at value memory inside)
stored_loaded I64Store16 at value memory word inside = ap (option_map (value_of I64Load16U)) (put_16 at value memory inside)
stored_loaded I64Store32 at value memory word inside = ap (option_map (value_of I64Load32U)) (put_32 at value memory inside)

-- a number beside what was put
number_with : (w : Width) (from at : ℕ) (bytes memory : List ℕ) → at + length bytes ≤ length memory → (from + byte_len w ≤ at) ⊎ (at + length bytes ≤ from) → number_at w from (with_at at bytes memory) ≡ number_at w from memory
number_with w from at bytes memory inside apart =
    ap (λ n. found w from n (take (byte_len w) (drop from (with_at at bytes memory)))) (length_with at bytes memory inside)
    ∙ ap (found w from (length memory)) (beside from (byte_len w) at bytes memory inside apart)

number_beside : (w : Width) (from at : ℕ) (bytes memory : List ℕ) → (from + byte_len w ≤ at) ⊎ (at + length bytes ≤ from) → number_at w from (put at bytes memory) ≡ number_at w from memory
number_beside w from at bytes memory apart =
    cond_both (is_inside at (length bytes) memory) (with_at at bytes memory) memory (λ xs. number_at w from xs ≡ number_at w from memory)
    (λ e. number_with w from at bytes memory (leb-true (at + length bytes) (length memory) e) apart)
    (λ e. refl)

pub others_loaded : OthersAreLoaded
others_loaded op from at bytes memory apart = ap (option_map (value_of op)) (number_beside (read_width op) from at bytes memory apart)
