-- Numbers that are put: they are read back.
use Rattle.std.proofs.Common.{◌≡◌, ◌∙◌, ◌≤◌, ◌<◌, ◌+◌, ◌*◌, ◌/◌, ◌%◌, ◌^◌, ℕ, ℤ, suc, Bool, true, false, cond, List, [], ◌∷◌, length, refl, ap, sym, subst, arith, inl, inr, mod-eq_of_lt}
use Rattle.std.proofs.lemmas.Bool.{cond_both, cases_lt, leb-true}
use Rattle.std.proofs.lemmas.Nat.{from_le_bytes-to_le_bytes_2, from_le_bytes-to_le_bytes_4, from_le_bytes-to_le_bytes_8}
use Rattle.std.proofs.lemmas.Int.{to_z-of_z}
use Rattle.std.proofs.Math.Facts.{Fits-of_z, Fits-lt-pow}
use Rattle.std.proofs.Math.Pow.{pow_mono}
use Rattle.std.specs.Prelude.{nat_le, IsTrue, FitsSigned}
use Rattle.std.specs.Int.{Width, w8, w16, w32, w64, byte_len, from_le_bytes, to_le_bytes, cast_signed, cast_unsigned}
use mir.Val.{bits}
use Rattle.laid_types.specs.Layout.{tag_size, bits_size}
use Rattle.value_lower.specs.Plan.{Put}
use Rattle.value_lower.specs.Lowering.{bits_of, pointed, number_bytes}
use Rattle.value_lift.specs.Bytes.{number, bytes_at, width_of, is_scalar}
use Rattle.value_lift.specs.Standing.{AreBits}
use Rattle.value_lift.proofs.Places.{is_no_scalar}
use Rattle.lowering_laws.proofs.Going.{Goes, goes_put, goes_more, goes_on}

-- What is read of the bytes of a number is the number.
pub record IsRead (w : Width) (n : ℕ) : Type 0 where
  pub long : length (to_le_bytes w n) ≡ byte_len w
  pub back : from_le_bytes w (to_le_bytes w n) ≡ n

pub read_8 : (n : ℕ) → n < 2 ^ 8 → IsRead w8 n
read_8 n h = record { long = refl; back = mod-eq_of_lt h }

pub read_16 : (n : ℕ) → n < 2 ^ 16 → IsRead w16 n
read_16 n h = record { long = refl; back = from_le_bytes-to_le_bytes_2 n h }

pub read_32 : (n : ℕ) → n < 2 ^ 32 → IsRead w32 n
read_32 n h = record { long = refl; back = from_le_bytes-to_le_bytes_4 n h }

pub read_64 : (n : ℕ) → n < 2 ^ 64 → IsRead w64 n
read_64 n h = record { long = refl; back = from_le_bytes-to_le_bytes_8 n h }

-- a number of 1, 2 or 4 bytes
pub read_any : (size n : ℕ) → n < 2 ^ bits (width_of size) → IsRead (width_of size) n
read_any size n =
    cond_both (nat_le size 1) w8 (cond (nat_le size 2) w16 w32) (λ (w : Width). n < 2 ^ bits w → IsRead w n) (λ e h. read_8 n h)
    (λ e. cond_both (nat_le size 2) w16 w32 (λ (w : Width). n < 2 ^ bits w → IsRead w n) (λ f h. read_16 n h) (λ f h. read_32 n h))

-- The number of a case fits, and so does that of flags.
pub case_below : (count n : ℕ) → n < count → n < 2 ^ 32 → n < 2 ^ bits (width_of (tag_size count))
case_below count n h i =
    cond_both (nat_le count 256) 1 (cond (nat_le count 65536) 2 4) (λ (k : ℕ). n < 2 ^ bits (width_of k)) (λ e. omega (arith, h, leb-true count 256 e))
    (λ e. cond_both (nat_le count 65536) 2 4 (λ (k : ℕ). n < 2 ^ bits (width_of k)) (λ f. omega (arith, h, leb-true count 65536 f)) (λ f. i))

twice : (n : ℕ) → 2 ^ suc n ≡ 2 ^ n + 2 ^ n
twice n = omega arith

bits_below : (flags : List Bool) → bits_of flags < 2 ^ length flags
bits_below [] = omega arith
bits_below (true ∷ flags) = omega (arith, bits_below flags, twice (length flags))
bits_below (false ∷ flags) = omega (arith, bits_below flags, twice (length flags))

pub few_bits : (flags : List Bool) (count : ℕ) → length flags ≤ count → bits_of flags < 2 ^ count
few_bits flags count h =
    let k : 2 ^ length flags ≤ 2 ^ count = pow_mono h in
    omega (arith, bits_below flags, k)

pub flags_below : (flags : List Bool) (count : ℕ) → length flags ≡ count → bits_of flags < 2 ^ 32 → bits_of flags < 2 ^ bits (width_of (bits_size count))
flags_below flags count h i =
    cond_both (nat_le count 8) 1 (cond (nat_le count 16) 2 4) (λ (k : ℕ). bits_of flags < 2 ^ bits (width_of k))
    (λ e. few_bits flags 8 (omega (arith, h, leb-true count 8 e)))
    (λ e. cond_both (nat_le count 16) 2 4 (λ (k : ℕ). bits_of flags < 2 ^ bits (width_of k)) (λ f. few_bits flags 16 (omega (arith, h, leb-true count 16 f))) (λ f. i))

pub are_bits : (labels : List (List ℕ)) (flags : List Bool) → length flags ≡ length labels → AreBits labels (bits_of flags) flags
are_bits [] [] h = tt
are_bits [] (f ∷ flags) h = absurd (omega (arith, h))
are_bits (l ∷ labels) [] h = absurd (omega (arith, h))
are_bits (l ∷ labels) (true ∷ flags) h =
    let half : (1 + 2 * bits_of flags) / 2 ≡ bits_of flags = omega arith in
    ((let e : (1 + 2 * bits_of flags) % 2 ≡ 1 = omega arith in e), subst (λ (n : ℕ). AreBits labels n flags) (sym half) (are_bits labels flags (omega (arith, h))))
are_bits (l ∷ labels) (false ∷ flags) h =
    let half : (0 + 2 * bits_of flags) / 2 ≡ bits_of flags = omega arith in
    ((let e : (0 + 2 * bits_of flags) % 2 ≡ 0 = omega arith in e), subst (λ (n : ℕ). AreBits labels n flags) (sym half) (are_bits labels flags (omega (arith, h))))

-- A character is a low number.
pub scalar_low : (c : ℕ) → IsTrue (is_scalar c) → c < 2 ^ 32
scalar_low c h =
    elim (cases_lt c 0x110000) [
      | inl low ↦ omega (arith, low)
      | inr high ↦
          let no : is_scalar c ≡ false = is_no_scalar c (inr (let k : 0x10FFFF < c = omega (arith, high) in k)) in
          let e : true ≡ false = sym h ∙ no in
          cc
    ]

-- signed numbers
pub unsigned_below : (w : Width) (n : ℤ) → FitsSigned w n → cast_unsigned w n < 2 ^ bits w
unsigned_below w n h = Fits-lt-pow {w = w} (Fits-of_z h)

pub signed_back : (w : Width) (n : ℤ) → FitsSigned w n → cast_signed w (cast_unsigned w n) ≡ n
signed_back w n h = to_z-of_z w n h

-- A number is put.
pub goes_number : (w : Width) (n place : ℕ) → IsRead w n → Goes (λ k. Put place (to_le_bytes w n) k) place (byte_len w) (λ m. number w place m ≡ n)
goes_number w n place r =
    goes_more (λ k. Put place (to_le_bytes w n) k) place (length (to_le_bytes w n)) place (byte_len w)
    (λ m. bytes_at place (length (to_le_bytes w n)) m ≡ to_le_bytes w n) (λ m. number w place m ≡ n) (omega arith) (omega (arith, r.long))
    (λ m inside e. ap (λ (k : ℕ). from_le_bytes w (bytes_at place k m)) (sym r.long) ∙ ap (λ (bs : List ℕ). from_le_bytes w bs) e ∙ r.back)
    (goes_put place (to_le_bytes w n))

-- a number of 1, 2 or 4 bytes
pub goes_short : (size n place : ℕ) → n < 2 ^ bits (width_of size) → Goes (λ k. Put place (number_bytes size n) k) place (byte_len (width_of size)) (λ m. number (width_of size) place m ≡ n)
goes_short size n place h =
    subst (λ (j : ℕ). Goes (λ k. Put place (to_le_bytes (width_of size) j) k) place (byte_len (width_of size)) (λ m. number (width_of size) place m ≡ n)) (sym (mod-eq_of_lt h))
    (goes_number (width_of size) n place (read_any size n h))

-- a place and a count
pub goes_pointed : (place to count : ℕ) → to < 2 ^ 32 → count < 2 ^ 32 → Goes (λ k. pointed place to count k) place 8 (λ m. (number w32 place m ≡ to) × (number w32 (place + 4) m ≡ count))
goes_pointed place to count low few =
    goes_on (λ k. Put place (to_le_bytes w32 to) k) (λ k. Put (place + 4) (to_le_bytes w32 count) k) place 4 (place + 4) 4 place 8
    (λ m. number w32 place m ≡ to) (λ m. number w32 (place + 4) m ≡ count) (omega arith) (omega arith) (omega arith)
    (goes_number w32 to place (read_32 to low)) (goes_number w32 count (place + 4) (read_32 count few))
