-- A set of the names that were seen.
use Rattle.std.proofs.Common.{◌≡◌, ◌<◌, ◌+◌, ℕ, zero, suc, Bool, true, false, cond, List, [], ◌∷◌, ◌++◌, map, length, take, drop, get_or, refl, ap, sym, ◌∙◌, arith, add-one, Bor}
use Rattle.std.specs.Prelude.{◌||◌}
use Rattle.std.specs.Str.{bytes_eq}
use Rattle.std.specs.BTreeSet.{BTreeSet, UpdatesBy}
use Rattle.std.specs.Cmp.Lexicographic.{slice_cmp}
use Rattle.std.specs.Ordering.{nat_cmp, is_eq}
use Rattle.std.proofs.lemmas.Map.Text.{is_eq-slice_cmp}
use Rattle.std.proofs.lemmas.List.Folds.{list_any-append}
use Rattle.syntax_trees.specs.Names.{has, is_among, twice_behind, first_twice}

or_cond : (a b : Bool) → cond a true b ≡ (a || b)
or_cond true b = refl
or_cond false b = refl

or_swap : (a b : Bool) → (a || b) ≡ (b || a)
or_swap true true = refl
or_swap true false = refl
or_swap false true = refl
or_swap false false = refl

-- What a set has once a name is added.
pub added : (name : List ℕ) (s n : BTreeSet (Bor (List ℕ))) → UpdatesBy (λ x y. slice_cmp nat_cmp x.now y.now) (λ k. slice_cmp nat_cmp name k.now) s n true → (q : List ℕ) → has n q ≡ (bytes_eq name q || has s q)
added name s n h q =
    let key : Bor (List ℕ) = record { ref_ptr = (0, 0); now = q } in
    h.0 key ∙ or_cond (is_eq (slice_cmp nat_cmp name q)) (has s q) ∙ ap (λ (b : Bool). b || has s q) (is_eq-slice_cmp name q)

drop_suc : {T : Type 0} (xs : List T) (at : ℕ) (e : T) → at < length xs → e ≡ get_or xs at e → drop at xs ≡ e ∷ drop (suc at) xs
drop_suc [] at e h i = absurd (omega arith)
drop_suc (x ∷ xs) zero e h i = ap (λ y. y ∷ xs) (sym i)
drop_suc (x ∷ xs) (suc at) e h i = drop_suc xs at e (omega arith) i

take_suc : {T : Type 0} (xs : List T) (at : ℕ) (e : T) → at < length xs → e ≡ get_or xs at e → take (suc at) xs ≡ take at xs ++ e ∷ []
take_suc [] at e h i = absurd (omega arith)
take_suc (x ∷ xs) zero e h i = ap (λ y. y ∷ []) (sym i)
take_suc (x ∷ xs) (suc at) e h i = ap (λ ys. x ∷ ys) (take_suc xs at e (omega arith) i)

pub drop_one : {T : Type 0} (xs : List T) (at : ℕ) (e : T) → at < length xs → e ≡ get_or xs at e → drop at xs ≡ e ∷ drop (at + 1) xs
drop_one xs at e h i = rw add-one (drop_suc xs at e h i)

pub take_one : {T : Type 0} (xs : List T) (at : ℕ) (e : T) → at < length xs → e ≡ get_or xs at e → take (at + 1) xs ≡ take at xs ++ e ∷ []
take_one xs at e h i = rw add-one (take_suc xs at e h i)

-- The names of these items were seen, and none of them twice.
pub record IsSeen {T : Type 0} (name : T → List ℕ) (items : List T) (at : ℕ) (s : BTreeSet (Bor (List ℕ))) : Type 0 where
  pub rest : first_twice (map name items) ≡ twice_behind (map name (take at items)) (map name (drop at items))
  pub all : (q : List ℕ) → has s q ≡ is_among q (map name (take at items))

or_none : (a : Bool) → (a || false) ≡ a
or_none true = refl
or_none false = refl

pub among_more : (q : List ℕ) (names : List (List ℕ)) (name : List ℕ) → is_among q (names ++ name ∷ []) ≡ (is_among q names || bytes_eq name q)
among_more q names name = list_any-append (λ n. bytes_eq n q) names (name ∷ []) ∙ ap (λ (b : Bool). is_among q names || b) (or_none (bytes_eq name q))
