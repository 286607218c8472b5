-- Loads of bytes give values of their type.
use Rattle.std.proofs.Common.{◌≡◌, ℕ, suc, ◌+◌, ◌-◌, ◌^◌, ◌<◌, ◌≤◌, Bool, true, false, ltb, List, take, drop, get_or, Option, Some, None, refl, subst, arith, inl, inr}
use Rattle.std.proofs.lemmas.Bool.{cond_both, cases_lt, ltb-false}
use Rattle.std.proofs.lemmas.List.{length-take, get_or-take, get_or-drop, get_or_past}
use Rattle.std.proofs.lemmas.Nat.{pow_pos}
use Rattle.std.specs.Prelude.{ℤ, pos, negsuc, unsigned_abs}
use Rattle.std.specs.Option.{option_map}
use Rattle.std.specs.Int.{Width, w8, w16, w32, w64, byte_len, from_le_bytes, cast_signed, cast_unsigned}
use mir.Val.{bits, hbits, sel}
use Rattle.syntax_trees.specs.declared.instr.LoadOp.{LoadOp}
use Rattle.syntax_trees.specs.declared.instr.LoadOp.TheVariants.{I32Load, I64Load, I32Load8S, I32Load8U, I32Load16S, I32Load16U, I64Load8S, I64Load8U, I64Load16S, I64Load16U, I64Load32S, I64Load32U}
use Rattle.wasm_memory.specs.Bytes.{is_inside, number_at}
use Rattle.wasm_memory.specs.Loads.{result_width, extended, value_of, loaded}
use Rattle.wasm_memory.specs.Laws.{LoadsHaveTheirType}

-- the absolute value of the signed view of n, and the bits of a signed number
view_below : (b : Bool) (n p : ℕ) → (b ≡ false → 0 < n) → n < p → unsigned_abs (sel b (pos n) (negsuc (p - suc n))) < p
view_below true n p above h = h
view_below false n p above h = let q : 0 < n = above refl in omega arith

signed_below : (w : Width) (n : ℕ) → n < 2 ^ bits w → unsigned_abs (cast_signed w n) < 2 ^ bits w
signed_below w n h =
    view_below (ltb n (2 ^ hbits w)) n (2 ^ bits w)
    (λ (e : ltb n (2 ^ hbits w) ≡ false). let k : 2 ^ hbits w ≤ n = ltb-false n (2 ^ hbits w) e in omega (arith, pow_pos (hbits w)))
    h

bits_below : (w : Width) (z : ℤ) → unsigned_abs z < 2 ^ bits w → cast_unsigned w z < 2 ^ bits w
bits_below w (pos n) h = h
bits_below w (negsuc n) h = omega (arith, pow_pos (bits w))

extended_below : (v w : Width) (n : ℕ) → 2 ^ bits v ≤ 2 ^ bits w → n < 2 ^ bits v → extended v w n < 2 ^ bits w
extended_below v w n wider h = let k : unsigned_abs (cast_signed v n) < 2 ^ bits v = signed_below v n h in bits_below w (cast_signed v n) (omega arith)

-- so many bytes of a memory from a place on are bytes
bytes_of : (k at : ℕ) (memory : List ℕ) → ((i : ℕ) → get_or memory i 0 < 256) → (i : ℕ) → get_or (take k (drop at memory)) i 0 < 256
bytes_of k at memory each i =
    elim (cases_lt i k) [
      | inl inside ↦ rw (get_or-take k (drop at memory) i 0 inside, get_or-drop at memory i 0) (each (at + i))
      | inr past ↦ rw (get_or_past (take k (drop at memory)) i 0 (omega (arith, length-take k (drop at memory)))) (omega arith)
    ]

-- a number of bytes
number_8 : (bytes : List ℕ) → ((i : ℕ) → get_or bytes i 0 < 256) → from_le_bytes w8 bytes < 2 ^ 8
number_8 bytes each = each 0

number_16 : (bytes : List ℕ) → ((i : ℕ) → get_or bytes i 0 < 256) → from_le_bytes w16 bytes < 2 ^ 16
number_16 bytes each = omega (arith, each 0, each 1)

number_32 : (bytes : List ℕ) → ((i : ℕ) → get_or bytes i 0 < 256) → from_le_bytes w32 bytes < 2 ^ 32
number_32 bytes each = omega (arith, each 0, each 1, each 2, each 3)

number_64 : (bytes : List ℕ) → ((i : ℕ) → get_or bytes i 0 < 256) → from_le_bytes w64 bytes < 2 ^ 64
number_64 bytes each = omega (arith, each 0, each 1, each 2, each 3, each 4, each 5, each 6, each 7)

-- a number below this one, or none
abbrev Small : ℕ → Option ℕ → Type 0
Small most None = Unit {0}
Small most (Some n) = n < most

number_small : (w : Width) (at : ℕ) (memory : List ℕ) → (from_le_bytes w (take (byte_len w) (drop at memory)) < 2 ^ bits w) → Small (2 ^ bits w) (number_at w at memory)
number_small w at memory h =
    cond_both (is_inside at (byte_len w) memory) (Some (from_le_bytes w (take (byte_len w) (drop at memory)))) None (Small (2 ^ bits w)) (λ e. h) (λ e. tt)

small_8 : (at : ℕ) (memory : List ℕ) → ((i : ℕ) → get_or memory i 0 < 256) → Small (2 ^ 8) (number_at w8 at memory)
small_8 at memory each = number_small w8 at memory (number_8 (take 1 (drop at memory)) (bytes_of 1 at memory each))

small_16 : (at : ℕ) (memory : List ℕ) → ((i : ℕ) → get_or memory i 0 < 256) → Small (2 ^ 16) (number_at w16 at memory)
small_16 at memory each = number_small w16 at memory (number_16 (take 2 (drop at memory)) (bytes_of 2 at memory each))

small_32 : (at : ℕ) (memory : List ℕ) → ((i : ℕ) → get_or memory i 0 < 256) → Small (2 ^ 32) (number_at w32 at memory)
small_32 at memory each = number_small w32 at memory (number_32 (take 4 (drop at memory)) (bytes_of 4 at memory each))

small_64 : (at : ℕ) (memory : List ℕ) → ((i : ℕ) → get_or memory i 0 < 256) → Small (2 ^ 64) (number_at w64 at memory)
small_64 at memory each = number_small w64 at memory (number_64 (take 8 (drop at memory)) (bytes_of 8 at memory each))

-- what is made of a small number is small
mapped : (f : ℕ → ℕ) (p q : ℕ) (o : Option ℕ) → ((n : ℕ) → n < p → f n < q) → Small p o → Small q (option_map f o)
mapped f p q None each h = tt
mapped f p q (Some n) each h = each n h

load_small : (op : LoadOp) (at : ℕ) (memory : List ℕ) → ((i : ℕ) → get_or memory i 0 < 256) → Small (2 ^ bits (result_width op)) (loaded op at memory)
load_small I32Load at memory each = mapped (value_of I32Load) (2 ^ 32) (2 ^ 32) (number_at w32 at memory) (λ n h. h) (small_32 at memory each)
load_small I64Load at memory each = mapped (value_of I64Load) (2 ^ 64) (2 ^ 64) (number_at w64 at memory) (λ n h. h) (small_64 at memory each)
load_small I32Load8S at memory each = mapped (value_of I32Load8S) (2 ^ 8) (2 ^ 32) (number_at w8 at memory) (λ n h. extended_below w8 w32 n (omega arith) h) (small_8 at memory each)
load_small I32Load8U at memory each = mapped (value_of I32Load8U) (2 ^ 8) (2 ^ 32) (number_at w8 at memory) (λ n h. omega arith) (small_8 at memory each)
load_small I32Load16S at memory each = mapped (value_of I32Load16S) (2 ^ 16) (2 ^ 32) (number_at w16 at memory) (λ n h. extended_below w16 w32 n (omega arith) h) (small_16 at memory each)
load_small I32Load16U at memory each = mapped (value_of I32Load16U) (2 ^ 16) (2 ^ 32) (number_at w16 at memory) (λ n h. omega arith) (small_16 at memory each)
load_small I64Load8S at memory each = mapped (value_of I64Load8S) (2 ^ 8) (2 ^ 64) (number_at w8 at memory) (λ n h. extended_below w8 w64 n (omega arith) h) (small_8 at memory each)
load_small I64Load8U at memory each = mapped (value_of I64Load8U) (2 ^ 8) (2 ^ 64) (number_at w8 at memory) (λ n h. omega arith) (small_8 at memory each)
load_small I64Load16S at memory each = mapped (value_of I64Load16S) (2 ^ 16) (2 ^ 64) (number_at w16 at memory) (λ n h. extended_below w16 w64 n (omega arith) h) (small_16 at memory each)
load_small I64Load16U at memory each = mapped (value_of I64Load16U) (2 ^ 16) (2 ^ 64) (number_at w16 at memory) (λ n h. omega arith) (small_16 at memory each)
load_small I64Load32S at memory each = mapped (value_of I64Load32S) (2 ^ 32) (2 ^ 64) (number_at w32 at memory) (λ n h. extended_below w32 w64 n (omega arith) h) (small_32 at memory each)
load_small I64Load32U at memory each = mapped (value_of I64Load32U) (2 ^ 32) (2 ^ 64) (number_at w32 at memory) (λ n h. omega arith) (small_32 at memory each)

pub loads_typed : LoadsHaveTheirType
loads_typed op at value memory each e = subst (Small (2 ^ bits (result_width op))) e (load_small op at memory each)
