-- The number of flags, from the last one on.
use Rattle.std.proofs.Common.{◌≡◌, ◌∙◌, ◌+◌, ◌-◌, ◌*◌, ◌^◌, ◌%◌, ◌<◌, ℕ, suc, Bool, false, List, [], ◌∷◌, length, drop, get_or, refl, ap, sym, arith}
use Rattle.std.specs.Int.{from_bool}
use Rattle.std.proofs.Math.Seq.{drop-cons}
use Rattle.value_lower.specs.Lowering.{bits_of}

doubled : (b n : ℕ) → (b + 2 * (n % 2 ^ 32)) % 2 ^ 32 ≡ (b + 2 * n) % 2 ^ 32
doubled b n = omega arith

at_end : (flags : List Bool) → bits_of (drop (length flags) flags) ≡ 0
at_end [] = refl
at_end (f ∷ flags) = at_end flags

pub none_seen : (flags : List Bool) → 0 ≡ bits_of (drop (length flags - 0) flags) % 2 ^ 32
none_seen flags =
    let e : length flags - 0 ≡ length flags = omega arith in
    ap (λ (n : ℕ). n % 2 ^ 32) (sym (at_end flags)) ∙ ap (λ (n : ℕ). bits_of (drop n flags) % 2 ^ 32) (sym e)

pub one_seen : (flags : List Bool) (index number one same : ℕ) → index < length flags → number ≡ bits_of (drop (length flags - index) flags) % 2 ^ 32
    → one ≡ from_bool (get_or flags (length flags - 1 - index) false) → same ≡ number
    → (one + 2 * same) % 2 ^ 32 ≡ bits_of (drop (length flags - (index + 1)) flags) % 2 ^ 32
one_seen flags index number one same low h e f =
    let at : ℕ = length flags - 1 - index in
    let behind : length flags - index ≡ at + 1 = omega arith in
    let here : length flags - (index + 1) ≡ at = omega arith in
    let front : drop at flags ≡ get_or flags at false ∷ drop (at + 1) flags =
    drop-cons flags at false (omega arith) ∙ ap (λ (k : ℕ). get_or flags at false ∷ drop k flags) (let n : suc at ≡ at + 1 = omega arith in n) in
    let b : ℕ = from_bool (get_or flags at false) in
    ap (λ (n : ℕ). (n + 2 * same) % 2 ^ 32) e
    ∙ ap (λ (n : ℕ). (b + 2 * n) % 2 ^ 32) (f ∙ h)
    ∙ doubled b (bits_of (drop (length flags - index) flags))
    ∙ ap (λ (n : ℕ). (b + 2 * bits_of (drop n flags)) % 2 ^ 32) behind
    ∙ ap (λ (fs : List Bool). bits_of fs % 2 ^ 32) (sym front)
    ∙ ap (λ (n : ℕ). bits_of (drop n flags) % 2 ^ 32) (sym here)
