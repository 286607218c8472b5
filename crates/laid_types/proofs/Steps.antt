-- Loops over the numbers of parts, step by step.
use Rattle.std.proofs.Common.{◌≡◌, ◌∙◌, ℕ, zero, suc, ◌<◌, ◌≤◌, ◌+◌, List, [], ◌∷◌, ◌++◌, take, length, map, drop, get_or, ap, sym, arith, Option, Some, None}
use Rattle.std.specs.List.{slice_get}
use Rattle.std.proofs.lemmas.List.{drop_more, drop_all}
use Rattle.syntax_trees.specs.declared.types.ValType.{ValType}
use Rattle.syntax_trees.specs.declared.core_type.CoreType.{CoreType}
use Rattle.syntax_trees.specs.Flat.{flat, all_of, joined_all, joined_lists}
use Rattle.syntax_trees.proofs.Joins.{joined_none}
use Rattle.laid_types.specs.Layers.{IsThere, AreThere, tree_of, trees_of}
use Rattle.laid_types.specs.Gathered.{flats}
use Rattle.laid_types.proofs.Kept.{row_more, row_kept, payload_more}

-- Where all numbers are there, each is.
pub there_at : (types : List ValType) (numbers : List (Option ℕ)) (at : ℕ) (d : Option ℕ) → AreThere types numbers → at < length numbers → IsThere types (get_or numbers at d)
there_at types [] at d all h = absurd (omega arith)
there_at types (n ∷ numbers) zero d all h = all.0
there_at types (n ∷ numbers) (suc at) d all h = there_at types numbers at d all.1 (omega arith)

pub number_there : (types : List ValType) (numbers : List (Option ℕ)) (at number : ℕ) (d : Option ℕ) → AreThere types numbers → at < length numbers → get_or numbers at d ≡ Some number → number < length types
number_there types numbers at number d all h is =
    let there = there_at types numbers at d all h in
    (rw is at there)

-- the same of numbers that come with something else
pub image_there : {A : Type 0} (types : List ValType) (f : A → Option ℕ) (xs : List A) (at : ℕ) (d : A) → AreThere types (map f xs) → at < length xs → IsThere types (f (get_or xs at d))
image_there types f [] at d all h = absurd (omega arith)
image_there types f (x ∷ xs) zero d all h = all.0
image_there types f (x ∷ xs) (suc at) d all h = image_there types f xs at d all.1 (omega arith)

-- The parts from a place on.
pub trees_some : (types : List ValType) (numbers : List (Option ℕ)) (at number : ℕ) (d : Option ℕ) (t : ValType) → at < length numbers → get_or numbers at d ≡ Some number → slice_get types number ≡ Some t → trees_of types (drop at numbers) ≡ Some t ∷ trees_of types (drop (at + 1) numbers)
trees_some types numbers at number d t h is there =
    ap (trees_of types) (drop_more numbers at d h)
    ∙ ap (λ (o : Option ℕ). tree_of types o ∷ trees_of types (drop (at + 1) numbers)) is
    ∙ ap (λ (o : Option ValType). o ∷ trees_of types (drop (at + 1) numbers)) there

pub trees_none : (types : List ValType) (numbers : List (Option ℕ)) (at : ℕ) (d : Option ℕ) → at < length numbers → get_or numbers at d ≡ None → trees_of types (drop at numbers) ≡ None ∷ trees_of types (drop (at + 1) numbers)
trees_none types numbers at d h is =
    ap (trees_of types) (drop_more numbers at d h)
    ∙ ap (λ (o : Option ℕ). tree_of types o ∷ trees_of types (drop (at + 1) numbers)) is

pub trees_end : (types : List ValType) (numbers : List (Option ℕ)) (at : ℕ) → length numbers ≤ at → trees_of types (drop at numbers) ≡ []
trees_end types numbers at h = ap (trees_of types) (drop_all at numbers h)

-- Core types of parts one after the other, one part more: a type, or none.
pub row_some : (types : List ValType) (numbers : List (Option ℕ)) (at number : ℕ) (t : ValType) (row part next whole : List CoreType)
    → at < length numbers → get_or numbers at None ≡ Some number → slice_get types number ≡ Some t → part ≡ take 17 (flat t) → next ≡ take 17 (row ++ part)
    → whole ≡ take 17 (row ++ all_of (flats (trees_of types (drop at numbers))))
    → (next ≡ take 17 next) × (whole ≡ take 17 (next ++ all_of (flats (trees_of types (drop (at + 1) numbers)))))
row_some types numbers at number t row part next whole h is there first more all =
    let rest = all_of (flats (trees_of types (drop (at + 1) numbers))) in
    let next_is : next ≡ take 17 (row ++ take 17 (flat t)) = more ∙ ap (λ (ts : List CoreType). take 17 (row ++ ts)) first in (
      row_kept 17 row (flat t) next next_is,
      all
          ∙ ap (λ (ts : List (Option ValType)). take 17 (row ++ all_of (flats ts))) (trees_some types numbers at number None t h is there)
          ∙ row_more 17 row (flat t) rest next next_is,
    )

pub row_none : (types : List ValType) (numbers : List (Option ℕ)) (at : ℕ) (row whole : List CoreType)
    → at < length numbers → get_or numbers at None ≡ None
    → whole ≡ take 17 (row ++ all_of (flats (trees_of types (drop at numbers))))
    → whole ≡ take 17 (row ++ all_of (flats (trees_of types (drop (at + 1) numbers))))
row_none types numbers at row whole h is all =
    all ∙ ap (λ (ts : List (Option ValType)). take 17 (row ++ all_of (flats ts))) (trees_none types numbers at None h is)

-- Core types for any of several payloads, one payload more: a type, or none; and none more.
pub payload_some : (types : List ValType) (numbers : List (Option ℕ)) (at number : ℕ) (t : ValType) (payload part next whole : List CoreType)
    → at < length numbers → get_or numbers at None ≡ Some number → slice_get types number ≡ Some t → part ≡ take 17 (flat t) → next ≡ joined_lists payload part
    → whole ≡ joined_lists payload (take 17 (joined_all (flats (trees_of types (drop at numbers)))))
    → whole ≡ joined_lists next (take 17 (joined_all (flats (trees_of types (drop (at + 1) numbers)))))
payload_some types numbers at number t payload part next whole h is there first more all =
    all
    ∙ ap (λ (ts : List (Option ValType)). joined_lists payload (take 17 (joined_all (flats ts)))) (trees_some types numbers at number None t h is there)
    ∙ payload_more 17 payload (flat t) (joined_all (flats (trees_of types (drop (at + 1) numbers)))) next (more ∙ ap (joined_lists payload) first)

pub payload_none : (types : List ValType) (numbers : List (Option ℕ)) (at : ℕ) (payload whole : List CoreType)
    → at < length numbers → get_or numbers at None ≡ None
    → whole ≡ joined_lists payload (take 17 (joined_all (flats (trees_of types (drop at numbers)))))
    → whole ≡ joined_lists payload (take 17 (joined_all (flats (trees_of types (drop (at + 1) numbers)))))
payload_none types numbers at payload whole h is all =
    all ∙ ap (λ (ts : List (Option ValType)). joined_lists payload (take 17 (joined_all (flats ts)))) (trees_none types numbers at None h is)

pub payload_all : (types : List ValType) (numbers : List (Option ℕ)) (at : ℕ) (payload whole : List CoreType)
    → length numbers ≤ at → whole ≡ joined_lists payload (take 17 (joined_all (flats (trees_of types (drop at numbers))))) → payload ≡ whole
payload_all types numbers at payload whole h all =
    sym (all ∙ ap (λ (ts : List (Option ValType)). joined_lists payload (take 17 (joined_all (flats ts)))) (trees_end types numbers at h) ∙ joined_none payload)
