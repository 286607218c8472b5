-- Digits and their numbers.
use Rattle.std.proofs.Common.{◌≡◌, ◌<◌, ◌≤◌, ◌+◌, ◌*◌, ◌-◌, ℕ, true, List, [], ◌∷◌, length, drop, get_or, arith, refl}
use Rattle.std.specs.List.{list_all}
use Rattle.std.proofs.lemmas.List.{drop_more}
use Rattle.std.proofs.lemmas.List.Elements.{All-get_or}
use Rattle.std.proofs.lemmas.List.Sums.{AllPass-from_list_all}
use Rattle.script_reader.specs.Script.{is_digit, number_of}

-- a number is not below that of its first digits
pub grows : (before : ℕ) (digits : List ℕ) → before ≤ number_of before digits
grows before [] = omega arith
grows before (b ∷ digits) = omega (arith, grows (10 * before + (b - 48)) digits)

-- one digit more
pub step : (before : ℕ) (digits : List ℕ) (i : ℕ) → i < length digits → number_of before (drop i digits) ≡ number_of (10 * before + (get_or digits i 0 - 48)) (drop (i + 1) digits)
step before digits i short = rw (drop_more digits i 0 short) refl

pub passes : (digits : List ℕ) (i : ℕ) → list_all is_digit digits ≡ true → i < length digits → is_digit (get_or digits i 0) ≡ true
passes digits i all short = All-get_or (λ b. is_digit b ≡ true) digits i 0 short (AllPass-from_list_all is_digit digits all)
