-- The first core types of several parts are told by the first of each.
use Rattle.std.proofs.Common.{◌≡◌, ◌∙◌, ℕ, zero, suc, ◌≤◌, List, [], ◌∷◌, ◌++◌, take, ap, sym, refl, arith, append_assoc, append-nil}
use Rattle.std.proofs.lemmas.List.{take-take}
use Rattle.syntax_trees.specs.declared.core_type.CoreType.{CoreType}
use Rattle.syntax_trees.specs.Flat.{joined, joined_lists}
use Rattle.syntax_trees.proofs.Joins.{joined_assoc}

abbrev Types : Type 0
Types = List CoreType

take_behind : (n m : ℕ) (ts us : Types) → n ≤ m → take n (ts ++ take m us) ≡ take n (ts ++ us)
take_behind n m [] us h = take-take n m us h
take_behind zero m (t ∷ ts) us h = refl
take_behind (suc n) m (t ∷ ts) us h = ap (λ (xs : Types). t ∷ xs) (take_behind n m ts us (omega arith))

take_before : (n m : ℕ) (ts us : Types) → n ≤ m → take n (take m ts ++ us) ≡ take n (ts ++ us)
take_before zero m ts us h = refl
take_before (suc n) zero ts us h = absurd (omega arith)
take_before (suc n) (suc m) [] us h = refl
take_before (suc n) (suc m) (t ∷ ts) us h = ap (λ (xs : Types). t ∷ xs) (take_before n m ts us (omega arith))

-- A part behind others.
pub row_more : (n : ℕ) (row part rest next : Types) → next ≡ take n (row ++ take n part) → take n (row ++ (part ++ rest)) ≡ take n (next ++ rest)
row_more n row part rest next h =
    sym (take_behind n n row (part ++ rest) (omega arith))
    ∙ ap (λ (xs : Types). take n (row ++ xs)) (sym (take_before n n part rest (omega arith)))
    ∙ take_behind n n row (take n part ++ rest) (omega arith)
    ∙ ap (take n) (sym (append_assoc row (take n part) rest))
    ∙ sym (take_before n n (row ++ take n part) rest (omega arith))
    ∙ ap (λ (xs : Types). take n (xs ++ rest)) (sym h)

pub row_kept : (n : ℕ) (row part next : Types) → next ≡ take n (row ++ take n part) → next ≡ take n next
row_kept n row part next h = h ∙ sym (take-take n n (row ++ take n part) (omega arith)) ∙ ap (take n) (sym h)

pub row_end : (n : ℕ) (row : Types) → row ≡ take n row → take n (row ++ []) ≡ row
row_end n row h = ap (take n) (append-nil row) ∙ sym h

-- Core types for any of several payloads.
take_joined : (n : ℕ) (ts us : Types) → take n (joined_lists ts us) ≡ joined_lists (take n ts) (take n us)
take_joined zero ts us = refl
take_joined (suc n) [] us = refl
take_joined (suc n) (t ∷ ts) [] = refl
take_joined (suc n) (t ∷ ts) (u ∷ us) = ap (λ (xs : Types). joined t u ∷ xs) (take_joined n ts us)

pub payload_more : (n : ℕ) (payload part rest next : Types) → next ≡ joined_lists payload (take n part) → joined_lists payload (take n (joined_lists part rest)) ≡ joined_lists next (take n rest)
payload_more n payload part rest next h =
    ap (joined_lists payload) (take_joined n part rest)
    ∙ sym (joined_assoc payload (take n part) (take n rest))
    ∙ ap (λ (ts : Types). joined_lists ts (take n rest)) (sym h)

-- The number of the case before them.
pub tagged_kept : (tag : CoreType) (payload : Types) → take 17 (tag ∷ take 17 payload) ≡ take 17 (tag ∷ payload)
tagged_kept tag payload = ap (λ (ts : Types). tag ∷ ts) (take-take 16 17 payload (omega arith))
