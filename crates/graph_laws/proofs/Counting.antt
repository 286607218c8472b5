-- Characters, flags and lengths.
use Rattle.std.proofs.Common.{◌≡◌, ◌<◌, ◌≤◌, ◌^◌, ℕ, zero, suc, Bool, true, false, List, [], ◌∷◌, map, length, refl, ap, arith}
use Rattle.std.specs.Prelude.{nat_lt}
use Rattle.std.specs.Str.{all_scalars}
use Rattle.std.proofs.lemmas.Bool.{and_parts}
use Rattle.std.proofs.lemmas.Bool.Decides.{nat_tests}
use Rattle.value_lift.specs.Bytes.{is_scalar}
use Rattle.value_lower.specs.Lowering.{bits_of}

pub scalar : (c : ℕ) → all_scalars (c ∷ []) ≡ true → is_scalar c ≡ true
scalar c h = let first = (and_parts _ true h).0 in grind (arith, nat_tests)

pub bits_small : (n : ℕ) (flags : List Bool) → length flags ≤ n → bits_of flags < 2 ^ n
bits_small zero [] few = omega arith
bits_small zero (flag ∷ flags) few = absurd (omega (arith, few))
bits_small (suc n) [] few = let small = bits_small n [] (omega arith) in omega (arith, small)
bits_small (suc n) (true ∷ flags) few = let small = bits_small n flags (omega (arith, few)) in omega (arith, small)
bits_small (suc n) (false ∷ flags) few = let small = bits_small n flags (omega (arith, few)) in omega (arith, small)

pub length_mapped : {A B : Type 0} (f : A → B) (xs : List A) → length (map f xs) ≡ length xs
length_mapped f [] = refl
length_mapped f (x ∷ xs) = ap (λ (n : ℕ). suc n) (length_mapped f xs)
