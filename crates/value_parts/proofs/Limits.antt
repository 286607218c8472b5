-- How many core values a type has, by the first 17 of them.
use Rattle.std.proofs.Common.{◌≡◌, ◌≤◌, ◌<◌, ℕ, List, length, take, sym, ap, ◌∙◌, arith, inl, inr, length-take}
use Rattle.std.specs.Prelude.{nat_lt}
use Rattle.std.proofs.lemmas.Bool.{lt-ltb, cases_lt}
use Rattle.syntax_trees.specs.declared.core_type.CoreType.{CoreType}

same_tests : (limit a b : ℕ) → limit < a → limit < b → nat_lt limit a ≡ nat_lt limit b
same_tests limit a b h i = lt-ltb limit a h ∙ sym (lt-ltb limit b i)

-- Of a number up to 16, whether there are more can be told by these.
pub more_than : (types : List CoreType) (limit : ℕ) → limit ≤ 16 → nat_lt limit (length (take 17 types)) ≡ nat_lt limit (length types)
more_than types limit h =
    elim (cases_lt 17 (length types)) [
      | inl many ↦
          let e : length (take 17 types) ≡ 17 = length-take 17 types ∙ omega arith in
          ap (λ (n : ℕ). nat_lt limit n) e ∙ same_tests limit 17 (length types) (omega arith) (omega arith)
      | inr few ↦
          let e : length (take 17 types) ≡ length types = length-take 17 types ∙ omega arith in
          ap (λ (n : ℕ). nat_lt limit n) e
    ]

pub as_many : (types : List CoreType) → length types ≤ 16 → length (take 17 types) ≡ length types
as_many types h = length-take 17 types ∙ omega arith

-- the first so many words
pub first_many : (words : List ℕ) (n m : ℕ) → n ≤ length words → n ≡ m → length (take n words) ≡ m
first_many words n m h e = length-take n words ∙ omega (arith, h, e)

pub first_few : (words : List ℕ) (n : ℕ) → n ≤ 16 → length (take n words) ≤ 16
first_few words n h = let e = length-take n words in omega (arith, e, h)
