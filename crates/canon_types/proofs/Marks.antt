-- Numbers, with a mark at each.
use Rattle.std.proofs.Common.{◌≡◌, ◌∙◌, ◌<◌, ℕ, zero, suc, Bool, true, false, ◌||◌, List, [], ◌∷◌, ◌++◌, length, set, get_or, replicate, refl, sym, ap, inl, inr}
use Rattle.std.specs.Prelude.{◌==◌}
use Rattle.std.proofs.lemmas.Bool.{cases_eq}
use Rattle.std.proofs.lemmas.Bool.Decides.{Decides-eqb}
use Rattle.std.proofs.lemmas.List.{get_or-set_same, get_or-set_other}
use Rattle.canon_types.specs.EndNumbers.{is_number_among}

-- more that have no mark
none_marked : (k q : ℕ) → get_or (replicate k false) q false ≡ false
none_marked zero zero = refl
none_marked zero (suc q) = refl
none_marked (suc k) zero = refl
none_marked (suc k) (suc q) = none_marked k q

pub more_unmarked : (marks : List Bool) (k q : ℕ) → get_or (marks ++ replicate k false) q false ≡ get_or marks q false
more_unmarked [] k zero = none_marked k zero
more_unmarked [] k (suc q) = none_marked k (suc q)
more_unmarked (m ∷ marks) k zero = refl
more_unmarked (m ∷ marks) k (suc q) = more_unmarked marks k q

-- a mark more
same_truth : (b : Bool) → (b ≡ true → ⊥) → b ≡ false
same_truth true h = absurd (h refl)
same_truth false h = refl

pub one_marked : (marks : List Bool) (n q : ℕ) → n < length marks → get_or (set marks n true) q false ≡ ((n == q) || get_or marks q false)
one_marked marks n q h =
    elim (cases_eq q n) [
      | inl e ↦ (let yes : (n == q) ≡ true = (Decides-eqb n q).1 (sym e) in rw (yes, e) (get_or-set_same marks n true false h))
      | inr e ↦ (let no : (n == q) ≡ false = same_truth (n == q) (λ k. e (sym ((Decides-eqb n q).0 k))) in rw no (get_or-set_other marks n q true false e))
    ]

swapped : (a b c : Bool) → (a || (b || c)) ≡ (b || (a || c))
swapped true true c = refl
swapped true false c = refl
swapped false b c = refl

pub among_more : (numbers : List ℕ) (n q : ℕ) → is_number_among (numbers ++ n ∷ []) q ≡ ((n == q) || is_number_among numbers q)
among_more [] n q = refl
among_more (m ∷ numbers) n q = ap (λ (b : Bool). (m == q) || b) (among_more numbers n q) ∙ swapped (m == q) (n == q) (is_number_among numbers q)

-- So the marks tell the numbers.
pub added_marked : (marks : List Bool) (numbers : List ℕ) (n : ℕ) → n < length marks → ((q : ℕ) → get_or marks q false ≡ is_number_among numbers q)
    → (q : ℕ) → get_or (set marks n true) q false ≡ is_number_among (numbers ++ n ∷ []) q
added_marked marks numbers n h k q = one_marked marks n q h ∙ ap (λ (b : Bool). (n == q) || b) (k q) ∙ sym (among_more numbers n q)
