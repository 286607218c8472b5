-- Digits and their numbers.
use Rattle.std.proofs.Common.{◌≡◌, ◌<◌, ◌≤◌, ◌+◌, ◌*◌, ℕ, List, [], ◌∷◌, length, drop, get_or, arith, refl, mul-le-mul_left}
use Rattle.std.proofs.lemmas.List.{drop_more}
use Rattle.value_reader.specs.Tokens.{digit_value, number_behind}

-- a number is not below that of its first digits
pub grows : (base before : ℕ) (digits : List ℕ) → 1 ≤ base → before ≤ number_behind base before digits
grows base before [] low = omega arith
grows base before (b ∷ digits) low =
    let longer : before ≤ before * base + digit_value b = omega (arith, mul-le-mul_left before low) in
    let others = grows base (before * base + digit_value b) digits low in
    omega (arith, longer, others)

-- one digit more
pub step : (base before : ℕ) (digits : List ℕ) (i : ℕ) → i < length digits → number_behind base before (drop i digits) ≡ number_behind base (before * base + digit_value (get_or digits i 0)) (drop (i + 1) digits)
step base before digits i short = rw (drop_more digits i 0 short) refl
