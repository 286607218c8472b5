-- Operands of known types, and those that are taken from them.
use Rattle.std.proofs.Common.{◌≡◌, List, [], ◌∷◌, ◌++◌, refl, ap, ap₂, sym, subst, Option, Some}
use Rattle.syntax_trees.specs.declared.module_types.ValType.{ValType}
use Rattle.wasm_typing.specs.Typing.{Operands, Matches, AllMatch, Takes}
use Rattle.wasm_store.specs.Typed.{known}

-- The first types are those that are taken, and the others are below.
pub record IsTaken (types own : List ValType) (below : Operands) : Type 0 where
  pub others : List ValType
  pub own_is : own ≡ types ++ others
  pub below_is : below ≡ known others

pub taken_known : (types own : List ValType) (taken below : Operands) → known own ≡ taken ++ below → AllMatch taken types → IsTaken types own below
taken_known [] own [] below e h = record { others = own; own_is = refl; below_is = sym e }
taken_known [] own (o ∷ os) below e h = absurd h
taken_known (t ∷ ts) own [] below e h = absurd h
taken_known (t ∷ ts) [] (o ∷ os) below e h = cc
taken_known (t ∷ ts) (u ∷ own) (o ∷ os) below e h =
    let top : o ≡ Some u = cc in
    let lower : known own ≡ os ++ below = cc in
    let some : (let a : Option ValType = Some u in a) ≡ Some t = subst (λ (o : Option ValType). Matches o (Some t)) top h.0 in
    let same : u ≡ t = cc in
    let k = taken_known ts own os below lower h.1 in
    record { others = k.others; own_is = ap₂ (λ (t : ValType) (ts : List ValType). t ∷ ts) same k.own_is; below_is = k.below_is }

pub taken_of : (types own : List ValType) (below : Operands) → Takes types (known own) below → IsTaken types own below
taken_of types own below h = taken_known types own h.0 below h.1 h.2

pub match_known : (types own : List ValType) → AllMatch (known own) types → own ≡ types
match_known [] [] h = refl
match_known [] (u ∷ own) h = absurd h
match_known (t ∷ types) [] h = absurd h
match_known (t ∷ types) (u ∷ own) h =
    let some : (let a : Option ValType = Some u in a) ≡ Some t = h.0 in
    let same : u ≡ t = cc in
    ap₂ (λ (t : ValType) (ts : List ValType). t ∷ ts) same (match_known types own h.1)

pub known_match : (types : List ValType) → AllMatch (known types) types
known_match [] = tt
known_match (t ∷ types) = (refl, known_match types)

pub known_append : (types others : List ValType) → known (types ++ others) ≡ known types ++ known others
known_append [] others = refl
known_append (t ∷ types) others = ap (λ (os : Operands). Some t ∷ os) (known_append types others)
