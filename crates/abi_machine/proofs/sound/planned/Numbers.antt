-- Numbers of bytes, low bits of words, and flags.
use Rattle.std.proofs.Common.{◌≡◌, ◌∙◌, ◌≤◌, ◌<◌, ◌+◌, ◌/◌, ◌%◌, ◌^◌, ◌*◌, ◌==◌, ℕ, zero, suc, Bool, true, false, cond, List, [], ◌∷◌, ◌++◌, length, get_or, refl, ap, sym, subst, arith, append-nil, append_assoc}
use Rattle.std.proofs.lemmas.Bool.{cond_both}
use Rattle.std.proofs.Math.Facts.{sfits_to_z}
use Rattle.std.specs.Prelude.{nat_le, FitsSigned, slice_index}
use Rattle.std.specs.Int.{Width, w8, w16, w32, w64, cast_signed, from_bool}
use mir.Val.{bits}
use Rattle.syntax_trees.specs.declared.types.ValType.TheVariants as leaves
use Rattle.syntax_trees.specs.declared.value.Value.TheVariants as plain
use Rattle.value_lower.specs.Lowering.{bits_of}
use Rattle.value_lift.specs.Bytes.{number, bytes_at, width_of, flags_from}
use Rattle.value_lift.specs.Pieces.{flags_of}
use Rattle.value_lift.specs.Lifting.{low}
use Rattle.lowering_laws.proofs.Memories.{byte_of}
use Rattle.abi_machine.specs.sound.Values.{IsOf, flags_are}

-- a memory of bytes, by their places
abbrev pub EachByte : List ℕ → Type 0
EachByte memory = (i : ℕ) → slice_index memory i < 256

-- a number for each width, below what it holds
pub record AreLow (n : Width → ℕ) : Type 0 where
  pub of_8 : n w8 < 2 ^ 8
  pub of_16 : n w16 < 2 ^ 16
  pub of_32 : n w32 < 2 ^ 32
  pub of_64 : n w64 < 2 ^ 64

module _ (memory : List ℕ) (bytes : EachByte memory) (place : ℕ) where
  byte : (count i : ℕ) → i < count → get_or (bytes_at place count memory) i 0 < 256
  byte count i low = subst (λ (n : ℕ). n < 256) (sym (byte_of place count memory i low)) (bytes (place + i))

  number_8 : number w8 place memory < 2 ^ 8
  number_8 = byte 1 0 (omega arith)

  number_16 : number w16 place memory < 2 ^ 16
  number_16 =
      let a : get_or (bytes_at place 2 memory) 0 0 < 256 = byte 2 0 (omega arith) in
      let b : get_or (bytes_at place 2 memory) 1 0 < 256 = byte 2 1 (omega arith) in
      omega (arith, a, b)

  pub number_32 : number w32 place memory < 2 ^ 32
  number_32 =
      let a : get_or (bytes_at place 4 memory) 0 0 < 256 = byte 4 0 (omega arith) in
      let b : get_or (bytes_at place 4 memory) 1 0 < 256 = byte 4 1 (omega arith) in
      let c : get_or (bytes_at place 4 memory) 2 0 < 256 = byte 4 2 (omega arith) in
      let d : get_or (bytes_at place 4 memory) 3 0 < 256 = byte 4 3 (omega arith) in
      omega (arith, a, b, c, d)

  number_64 : number w64 place memory < 2 ^ 64
  number_64 =
      let a : get_or (bytes_at place 8 memory) 0 0 < 256 = byte 8 0 (omega arith) in
      let b : get_or (bytes_at place 8 memory) 1 0 < 256 = byte 8 1 (omega arith) in
      let c : get_or (bytes_at place 8 memory) 2 0 < 256 = byte 8 2 (omega arith) in
      let d : get_or (bytes_at place 8 memory) 3 0 < 256 = byte 8 3 (omega arith) in
      let e : get_or (bytes_at place 8 memory) 4 0 < 256 = byte 8 4 (omega arith) in
      let f : get_or (bytes_at place 8 memory) 5 0 < 256 = byte 8 5 (omega arith) in
      let g : get_or (bytes_at place 8 memory) 6 0 < 256 = byte 8 6 (omega arith) in
      let h : get_or (bytes_at place 8 memory) 7 0 < 256 = byte 8 7 (omega arith) in
      omega (arith, a, b, c, d, e, f, g, h)

  -- one of 1, 2 or 4 bytes
  pub number_any : (size : ℕ) → number (width_of size) place memory < 2 ^ 32
  number_any size =
      cond_both (nat_le size 1) w8 (cond (nat_le size 2) w16 w32) (λ (w : Width). number w place memory < 2 ^ 32) (λ e. omega (arith, number_8))
      (λ e. cond_both (nat_le size 2) w16 w32 (λ (w : Width). number w place memory < 2 ^ 32) (λ f. omega (arith, number_16)) (λ f. number_32))

  pub numbers_low : AreLow (λ (w : Width). number w place memory)
  numbers_low = record { of_8 = number_8; of_16 = number_16; of_32 = number_32; of_64 = number_64 }

low_32 : (w : ℕ) → w % 2 ^ 32 < 2 ^ 32
low_32 w = omega arith

low_64 : (w : ℕ) → w % 2 ^ 64 < 2 ^ 64
low_64 w = omega arith

low_8 : (w : ℕ) → w % 2 ^ 8 < 2 ^ 8
low_8 w = omega arith

low_16 : (w : ℕ) → w % 2 ^ 16 < 2 ^ 16
low_16 w = omega arith

pub words_low : (at : ℕ) (words : List ℕ) → AreLow (λ (w : Width). low w at words)
words_low at words = record { of_8 = low_8 (slice_index words at); of_16 = low_16 (slice_index words at); of_32 = low_32 (slice_index words at); of_64 = low_64 (slice_index words at) }

pub signed : (w : Width) (n : ℕ) → n < 2 ^ bits w → FitsSigned w (cast_signed w n)
signed w n h = sfits_to_z {w = w} {n = n} (record { fits = h })

-- Flags.
one_bit : (b : Bool) → from_bool b ≤ 1
one_bit true = omega arith
one_bit false = omega arith

bit_below : (n : ℕ) → from_bool (n == 1) ≤ n
bit_below zero = omega arith
bit_below (suc n) = omega (arith, one_bit (suc n == 1))

bits_from : (labels : List (List ℕ)) (n : ℕ) (before : List Bool) → (flags : List Bool) × (flags_from before labels n ≡ before ++ flags) × (length flags ≡ length labels) × (bits_of flags ≤ n)
bits_from [] n before = ([], sym (append-nil before), refl, omega arith)
bits_from (l ∷ labels) n before =
    let b : Bool = n % 2 == 1 in
    let r = bits_from labels (n / 2) (before ++ b ∷ []) in
    let bit : from_bool b ≤ n % 2 = bit_below (n % 2) in
    let rest : bits_of r.0 ≤ n / 2 = r.3 in
    let all : from_bool b + 2 * bits_of r.0 ≤ n = omega (arith, bit, rest) in
    (b ∷ r.0, r.1 ∙ append_assoc before (b ∷ []) r.0, ap suc r.2, all)

pub flags_is : (labels : List (List ℕ)) (n : ℕ) → n < 2 ^ 32 → IsOf (leaves.Flags labels) (flags_of labels n)
flags_is labels n low =
    let r = bits_from labels n [] in
    let rest : bits_of r.0 ≤ n = r.3 in
    subst (λ (flags : List Bool). IsOf (leaves.Flags labels) (plain.Flags flags)) (sym r.1) (flags_are labels r.0 r.2 (omega (arith, rest, low)))
