-- Memories that are lent, one behind the other.
use Rattle.std.proofs.Common.{◌≡◌, ◌<◌, ◌+◌, ℕ, zero, suc, List, [], ◌∷◌, ◌++◌, length, map, take, refl, ap, ◌∙◌, arith, Some}
use Rattle.std.specs.Borrow.{Bor}
use Rattle.std.specs.List.{slice_get}
use Rattle.std.proofs.lemmas.List.{map-append}
use Rattle.wasm_memory.specs.Memories.{MemoryState}

-- the bytes of the first so many, and those of the next one
next_bytes : (xs : List MemoryState) (n : ℕ) (b : List ℕ) → n < length xs → ((m : MemoryState) → slice_get xs n ≡ Some m → b ≡ m.bytes)
    → map (λ m. m.bytes) (take n xs) ++ b ∷ [] ≡ map (λ m. m.bytes) (take (suc n) xs)
next_bytes [] n b l h = absurd (omega arith)
next_bytes (x ∷ xs) zero b l h = ap (λ (y : List ℕ). y ∷ []) (h x refl)
next_bytes (x ∷ xs) (suc n) b l h = ap (λ (ys : List (List ℕ)). x.bytes ∷ ys) (next_bytes xs n b (omega arith) h)

pub one_more_lent : (xs : List MemoryState) (lent all : List (Bor (List ℕ))) (b : Bor (List ℕ)) (n : ℕ) → n < length xs
    → map (λ m. m.now) lent ≡ map (λ m. m.bytes) (take n xs) → ((m : MemoryState) → slice_get xs n ≡ Some m → b.now ≡ m.bytes)
    → all ≡ lent ++ b ∷ [] → map (λ m. m.now) all ≡ map (λ m. m.bytes) (take (n + 1) xs)
one_more_lent xs lent all b n l h is more =
    let next : suc n ≡ n + 1 = omega arith in
    ap (map (λ m. m.now)) more
    ∙ map-append (λ m. m.now) lent (b ∷ [])
    ∙ ap (λ (ys : List (List ℕ)). ys ++ b.now ∷ []) h
    ∙ next_bytes xs n b.now l is
    ∙ ap (λ (k : ℕ). map (λ m. m.bytes) (take k xs)) next
