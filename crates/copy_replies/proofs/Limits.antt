-- Where elements end, by a size that is limited: bytes are fewer than the limit.
use Rattle.std.proofs.Common.{◌≡◌, ◌∙◌, ◌≤◌, ◌<◌, ◌+◌, ◌*◌, ◌^◌, ℕ, zero, suc, min, cond, refl, ap, sym, arith, inl, inr, suc-mul, zero-mul, Option, Some, None}
use Rattle.std.proofs.lemmas.Bool.{lt-leb, le-ltb, cases_lt}
use Rattle.std.specs.Prelude.{nat_le, nat_lt}
use Rattle.world_parts.specs.Slots.{small}

at_least_one : (k n : ℕ) → n ≤ suc k * n
at_least_one k n = rw suc-mul (omega arith)

both_past : (place a b n : ℕ) → n < a → n < b → nat_le (place + a) n ≡ nat_le (place + b) n
both_past place a b n h i = lt-leb (place + a) n (omega arith) ∙ sym (lt-leb (place + b) n (omega arith))

large_sizes : (place count size n : ℕ) → n < 2 ^ 64 → 2 ^ 64 < size → nat_le (place + count * 2 ^ 64) n ≡ nat_le (place + count * size) n
large_sizes place zero size n h i = rw (zero-mul, zero-mul) refl
large_sizes place (suc k) size n h i =
    let low : 2 ^ 64 ≤ suc k * 2 ^ 64 = at_least_one k (2 ^ 64) in
    let high : size ≤ suc k * size = at_least_one k size in
    both_past place (suc k * 2 ^ 64) (suc k * size) n (omega arith) (omega arith)

-- So many elements are inside.
pub inside_limited : (place count size n : ℕ) → n < 2 ^ 64 → nat_le (place + count * min size (2 ^ 64)) n ≡ nat_le (place + count * size) n
inside_limited place count size n h =
    elim (cases_lt (2 ^ 64) size) [
      | inl past ↦
          let e : min size (2 ^ 64) ≡ 2 ^ 64 = omega arith in
          ap (λ (k : ℕ). nat_le (place + count * k) n) e ∙ large_sizes place count size n h past
      | inr low ↦
          let e : min size (2 ^ 64) ≡ size = omega arith in
          ap (λ (k : ℕ). nat_le (place + count * k) n) e
    ]

-- The place behind so many elements is 32 bits wide.
not_small : (n : ℕ) → 2 ^ 32 ≤ n → small n ≡ None
not_small n h = rw (le-ltb n (2 ^ 32) h) refl

large_places : (place count size : ℕ) → 2 ^ 64 < size → small (place + count * 2 ^ 64) ≡ small (place + count * size)
large_places place zero size i = rw (zero-mul, zero-mul) refl
large_places place (suc k) size i =
    let low : 2 ^ 64 ≤ suc k * 2 ^ 64 = at_least_one k (2 ^ 64) in
    let high : size ≤ suc k * size = at_least_one k size in
    not_small (place + suc k * 2 ^ 64) (omega arith) ∙ sym (not_small (place + suc k * size) (omega arith))

pub place_limited : (place count size : ℕ) → small (place + count * min size (2 ^ 64)) ≡ small (place + count * size)
place_limited place count size =
    elim (cases_lt (2 ^ 64) size) [
      | inl past ↦
          let e : min size (2 ^ 64) ≡ 2 ^ 64 = omega arith in
          ap (λ (k : ℕ). small (place + count * k)) e ∙ large_places place count size past
      | inr low ↦
          let e : min size (2 ^ 64) ≡ size = omega arith in
          ap (λ (k : ℕ). small (place + count * k)) e
    ]
