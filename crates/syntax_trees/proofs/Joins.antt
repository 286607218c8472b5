-- Core types that are joined place by place.
use Rattle.std.proofs.Common.{◌≡◌, ◌∙◌, ap, refl, sym, ℕ, Option, Some, None, List, [], ◌∷◌, ◌++◌, length, map, zip, drop, take, ◌-◌, ◌≤◌, arith}
use Rattle.std.proofs.Common.{append-nil}
use Rattle.std.proofs.lemmas.Grind.{common_steps}
use Rattle.syntax_trees.specs.declared.core_type.CoreType.{CoreType}
use Rattle.syntax_trees.specs.declared.core_type.CoreType.TheVariants.{I32, I64}
use Rattle.syntax_trees.specs.declared.types.ValType.{ValType}
use Rattle.syntax_trees.specs.declared.types.Case.{Case}
use Rattle.syntax_trees.specs.Flat.{flat, flat_payload, joined, joined_all, joined_lists}

abbrev pub both : List CoreType → List CoreType → List CoreType
both ts us = map (λ (p : CoreType × CoreType). joined p.0 p.1) (zip ts us)

pub joined_none : (ts : List CoreType) → joined_lists ts [] ≡ ts
joined_none [] = refl
joined_none (t ∷ ts) = refl

joined_pair_assoc : (t u v : CoreType) → joined (joined t u) v ≡ joined t (joined u v)
joined_pair_assoc I32 I32 I32 = refl
joined_pair_assoc I32 I32 I64 = refl
joined_pair_assoc I32 I64 v = refl
joined_pair_assoc I64 u v = refl

cons_alike : (t u : CoreType) (ts us : List CoreType) → t ≡ u → ts ≡ us → t ∷ ts ≡ u ∷ us
cons_alike t u ts us e f = cc

pub joined_assoc : (ts us vs : List CoreType) → joined_lists (joined_lists ts us) vs ≡ joined_lists ts (joined_lists us vs)
joined_assoc [] us vs = refl
joined_assoc (t ∷ ts) [] vs = refl
joined_assoc (t ∷ ts) (u ∷ us) [] = refl
joined_assoc (t ∷ ts) (u ∷ us) (v ∷ vs) = cons_alike _ _ _ _ (joined_pair_assoc t u v) (joined_assoc ts us vs)

pub joined_by_parts : (ts us : List CoreType) → (both ts us ++ drop (length (both ts us)) ts) ++ drop (length (both ts us)) us ≡ joined_lists ts us
joined_by_parts [] us = refl
joined_by_parts (t ∷ ts) [] = append-nil (t ∷ ts)
joined_by_parts (t ∷ ts) (u ∷ us) = ap (λ xs. joined t u ∷ xs) (joined_by_parts ts us)

pub both_within : (ts us : List CoreType) → (length (both ts us) ≤ length ts) × (length (both ts us) ≤ length us)
both_within [] us = (omega arith, omega arith)
both_within (t ∷ ts) [] = (omega arith, omega arith)
both_within (t ∷ ts) (u ∷ us) = (omega (arith, (both_within ts us).0), omega (arith, (both_within ts us).1))

pub joined_by_steps : (ts us vs xs zs : List CoreType) (n : ℕ) → vs ≡ both ts us → n ≡ length vs → xs ≡ vs ++ drop n ts → zs ≡ xs ++ drop n us → zs ≡ joined_lists ts us
joined_by_steps ts us vs xs zs n v l x z =
    z
    ∙ ap (λ (a : List CoreType). a ++ drop n us) x
    ∙ ap (λ (a : List CoreType). (a ++ drop n ts) ++ drop n us) v
    ∙ ap (λ (k : ℕ). (both ts us ++ drop k ts) ++ drop k us) (l ∙ ap length v)
    ∙ joined_by_parts ts us

-- core types for one more payload, which may be absent
abbrev pub joined_with : List CoreType → Option ValType → List CoreType
joined_with ts (Some p) = joined_lists ts (flat p)
joined_with ts None = ts

-- core types for the payloads of more cases
abbrev pub joined_cases : List CoreType → List Case → List CoreType
joined_cases ts [] = ts
joined_cases ts (c ∷ cases) = joined_cases (joined_with ts c.payload) cases

joined_with_flat : (ts : List CoreType) (p : Option ValType) → joined_with ts p ≡ joined_lists ts (flat_payload p)
joined_with_flat ts (Some p) = refl
joined_with_flat ts None = sym (joined_none ts)

joined_cases_from : (ts : List CoreType) (cases : List Case) → joined_cases ts cases ≡ joined_lists ts (joined_all (map (λ (c : Case). flat_payload c.payload) cases))
joined_cases_from ts [] = sym (joined_none ts)
joined_cases_from ts (c ∷ cases) =
    joined_cases_from (joined_with ts c.payload) cases
    ∙ ap (λ (us : List CoreType). joined_lists us (joined_all (map (λ (c : Case). flat_payload c.payload) cases))) (joined_with_flat ts c.payload)
    ∙ joined_assoc ts (flat_payload c.payload) (joined_all (map (λ (c : Case). flat_payload c.payload) cases))

pub joined_cases_all : (cases : List Case) → joined_cases [] cases ≡ joined_all (map (λ (c : Case). flat_payload c.payload) cases)
joined_cases_all cases = joined_cases_from [] cases

pub joined_two : (ok err : Option ValType) → joined_with (joined_with [] ok) err ≡ joined_lists (flat_payload ok) (flat_payload err)
joined_two ok err = joined_with_flat (joined_with [] ok) err ∙ ap (λ (us : List CoreType). joined_lists us (flat_payload err)) (joined_with_flat [] ok)

pub take_rest : (n : ℕ) (ts : List CoreType) → take (length ts - n) (drop n ts) ≡ drop n ts
take_rest n ts = grind (arith, common_steps)
