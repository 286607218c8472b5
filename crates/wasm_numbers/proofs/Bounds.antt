-- Signed numbers of w bits, what divisions and shifts make of them, and their bits: each is a number below 2 ^ bits w.
use Rattle.std.proofs.Common.{◌≡◌, ℕ, zero, suc, ◌-◌, ◌/◌, ◌%◌, ◌^◌, ◌<◌, ◌≤◌, Bool, true, false, refl, arith, ltb, div-le_self, lt_of_le_of_lt, lt_of_lt_of_le, suc-le-suc}
use Rattle.std.proofs.lemmas.Bool.{ltb-false}
use Rattle.std.proofs.lemmas.Nat.{pow_pos, mod_below}
use Rattle.std.specs.Prelude.{ℤ, pos, negsuc, neg_ℤ, unsigned_abs, int_div, int_rem}
use Rattle.std.specs.Int.{Width, cast_signed, cast_unsigned, int_shr}
use native.Mathlib.Nat.{mod-le}
use mir.Val.{bits, hbits, sel}
use Rattle.wasm_numbers.specs.Numeric.{extended}

-- the bits of a number whose absolute value is small
pub bits_below : (w : Width) (z : ℤ) → unsigned_abs z < 2 ^ bits w → cast_unsigned w z < 2 ^ bits w
bits_below w (pos n) h = h
bits_below w (negsuc n) h = omega (arith, pow_pos (bits w))

view_below : (b : Bool) (n p : ℕ) → (b ≡ false → 0 < n) → n < p → unsigned_abs (sel b (pos n) (negsuc (p - suc n))) < p
view_below true n p above h = h
view_below false n p above h = let q : 0 < n = above refl in omega arith

-- the absolute value of the signed view of n
pub signed_below : (w : Width) (n : ℕ) → n < 2 ^ bits w → unsigned_abs (cast_signed w n) < 2 ^ bits w
signed_below w n h =
    view_below (ltb n (2 ^ hbits w)) n (2 ^ bits w)
    (λ (e : ltb n (2 ^ hbits w) ≡ false). let k : 2 ^ hbits w ≤ n = ltb-false n (2 ^ hbits w) e in omega (arith, pow_pos (hbits w)))
    h

abs_neg : (n : ℕ) → unsigned_abs (neg_ℤ (pos n)) ≡ n
abs_neg zero = refl
abs_neg (suc n) = refl

-- a quotient, a remainder and a shift are no larger than what is divided or shifted
quotient_small : (x y : ℤ) → unsigned_abs (int_div x y) ≤ unsigned_abs x
quotient_small (pos a) (pos b) = div-le_self a b
quotient_small (pos a) (negsuc b) = rw (abs_neg (a / suc b)) (div-le_self a (suc b))
quotient_small (negsuc a) (pos b) = rw (abs_neg (suc a / b)) (div-le_self (suc a) b)
quotient_small (negsuc a) (negsuc b) = div-le_self (suc a) (suc b)

remainder_small : (x y : ℤ) → unsigned_abs (int_rem x y) ≤ unsigned_abs x
remainder_small (pos a) d = mod-le a (unsigned_abs d)
remainder_small (negsuc a) d = rw (abs_neg (suc a % unsigned_abs d)) (mod-le (suc a) (unsigned_abs d))

shift_small : (x : ℤ) (k : ℕ) → unsigned_abs (int_shr x k) ≤ unsigned_abs x
shift_small (pos a) k = div-le_self a (2 ^ k)
shift_small (negsuc a) k = suc-le-suc (div-le_self a (2 ^ k))

pub quotient_below : (w : Width) (a : ℕ) (y : ℤ) → a < 2 ^ bits w → cast_unsigned w (int_div (cast_signed w a) y) < 2 ^ bits w
quotient_below w a y h = bits_below w (int_div (cast_signed w a) y) (lt_of_le_of_lt (quotient_small (cast_signed w a) y) (signed_below w a h))

pub remainder_below : (w : Width) (a : ℕ) (y : ℤ) → a < 2 ^ bits w → cast_unsigned w (int_rem (cast_signed w a) y) < 2 ^ bits w
remainder_below w a y h = bits_below w (int_rem (cast_signed w a) y) (lt_of_le_of_lt (remainder_small (cast_signed w a) y) (signed_below w a h))

pub shift_below : (w : Width) (a k : ℕ) → a < 2 ^ bits w → cast_unsigned w (int_shr (cast_signed w a) k) < 2 ^ bits w
shift_below w a k h = bits_below w (int_shr (cast_signed w a) k) (lt_of_le_of_lt (shift_small (cast_signed w a) k) (signed_below w a h))

-- what extends fewer bits
pub extended_below : (v w : Width) (a : ℕ) → 2 ^ bits v ≤ 2 ^ bits w → extended v w a < 2 ^ bits w
extended_below v w a wider =
    bits_below w (cast_signed v (a % 2 ^ bits v))
    (lt_of_lt_of_le (signed_below v (a % 2 ^ bits v) (mod_below a (2 ^ bits v) (pow_pos (bits v)))) wider)
