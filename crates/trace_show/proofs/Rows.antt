-- Rows that are written one after the other.
use Rattle.std.proofs.Common.{◌≡◌, ℕ, zero, suc, ◌+◌, List, [], ◌∷◌, ◌++◌, flat_map, refl, sym, ap, ◌∙◌, arith, append_assoc}
use Rattle.std.proofs.lemmas.List.{append-nil}
use Rattle.std.specs.List.{range_with_len}
use Rattle.std.proofs.lemmas.Grind.{flat_map-append}
use Rattle.trace_show.specs.DumpText.{row_of}

range_more : (a n b : ℕ) → a + n ≡ b → range_with_len a (suc n) ≡ range_with_len a n ++ b ∷ []
range_more a zero b e = ap (λ (k : ℕ). k ∷ []) (omega (arith, e))
range_more a (suc n) b e = ap (λ (xs : List ℕ). a ∷ xs) (range_more (a + 1) n b (omega (arith, e)))

one_more : (f : ℕ → List ℕ) (n : ℕ) → flat_map f (range_with_len 0 (suc n)) ≡ flat_map f (range_with_len 0 n) ++ f n
one_more f n =
    ap (λ (xs : List ℕ). flat_map f xs) (range_more 0 n n (omega arith))
    ∙ flat_map-append f (range_with_len 0 n) (n ∷ [])
    ∙ ap (λ (xs : List ℕ). flat_map f (range_with_len 0 n) ++ xs) (append-nil (f n))

next_is : (n : ℕ) → suc n ≡ n + 1
next_is n = omega arith

-- one row more is written
pub row_more : (memory before text next : List ℕ) (n : ℕ)
    → text ≡ before ++ flat_map (row_of memory) (range_with_len 0 n)
    → next ≡ text ++ row_of memory n
    → next ≡ before ++ flat_map (row_of memory) (range_with_len 0 (n + 1))
row_more memory before text next n written more =
    more
    ∙ ap (λ (xs : List ℕ). xs ++ row_of memory n) written
    ∙ append_assoc before (flat_map (row_of memory) (range_with_len 0 n)) (row_of memory n)
    ∙ ap (λ (xs : List ℕ). before ++ xs) (sym (one_more (row_of memory) n))
    ∙ ap (λ (k : ℕ). before ++ flat_map (row_of memory) (range_with_len 0 k)) (next_is n)
