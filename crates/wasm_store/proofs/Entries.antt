-- Addresses one after the other, and entries that are written one by one.
use Rattle.std.proofs.Common.{◌≡◌, ◌<◌, ◌+◌, ℕ, zero, suc, List, [], ◌∷◌, ◌++◌, length, map, take, drop, set, get_or, refl, ap, sym, ◌∙◌, subst, arith, Option, append_assoc, length-append, length-take}
use Rattle.std.specs.List.{range_with_len}
use Rattle.std.proofs.lemmas.List.{map-append, length-map, length-take-le}
use Rattle.std.proofs.Math.Seq.{take-suc}
use Rattle.wasm_code.specs.declared.instance.External.{External}
use Rattle.wasm_code.specs.declared.instance.External.TheVariants as external
use Rattle.wasm_code.specs.declared.instance.Sort.{Sort}
use Rattle.wasm_code.specs.declared.instance.Sort.TheVariants as sort
use Rattle.wasm_code.specs.Sorts.{address_in}
use Rattle.wasm_store.specs.Instantiation.{overwritten}
use Rattle.wasm_store.specs.Views.{address_of, addresses_in, listed}

-- what an import brings of a sort, as a list
pub brought : (s : Sort) (e : External) → listed (address_in s e) ≡ addresses_in s (address_of e)
brought sort.Func (external.Func address) = refl
brought sort.Func (external.Table address) = refl
brought sort.Func (external.Memory address) = refl
brought sort.Func (external.Global address) = refl
brought sort.Table (external.Func address) = refl
brought sort.Table (external.Table address) = refl
brought sort.Table (external.Memory address) = refl
brought sort.Table (external.Global address) = refl
brought sort.Memory (external.Func address) = refl
brought sort.Memory (external.Table address) = refl
brought sort.Memory (external.Memory address) = refl
brought sort.Memory (external.Global address) = refl
brought sort.Global (external.Func address) = refl
brought sort.Global (external.Table address) = refl
brought sort.Global (external.Memory address) = refl
brought sort.Global (external.Global address) = refl

range_next : (n first : ℕ) → range_with_len first (suc n) ≡ range_with_len first n ++ (first + n) ∷ []
range_next zero first = ap (λ (k : ℕ). k ∷ []) (let e : first ≡ first + 0 = omega arith in e)
range_next (suc n) first =
    let e : first + 1 + n ≡ first + suc n = omega arith in
    ap (λ (zs : List ℕ). first ∷ zs) (range_next n (first + 1) ∙ ap (λ (k : ℕ). range_with_len (first + 1) n ++ k ∷ []) e)

-- one address more
pub own_next : (before now : List ℕ) (first n a : ℕ) → now ≡ before ++ range_with_len first n → a ≡ first + n → now ++ a ∷ [] ≡ before ++ range_with_len first (n + 1)
own_next before now first n a h e =
    let one : n + 1 ≡ suc n = omega arith in
    ap (λ (xs : List ℕ). xs ++ a ∷ []) h ∙ append_assoc before (range_with_len first n) (a ∷ [])
    ∙ ap (λ (xs : List ℕ). before ++ xs) (ap (λ (k : ℕ). range_with_len first n ++ k ∷ []) e ∙ sym (range_next n first) ∙ ap (λ (k : ℕ). range_with_len first k) (sym one))

drop_there : {X : Type 0} (xs : List X) (n : ℕ) → n < length xs → (y : X) × (drop n xs ≡ y ∷ drop (suc n) xs)
drop_there [] n h = absurd (omega arith)
drop_there (x ∷ xs) zero h = (x, refl)
drop_there (x ∷ xs) (suc n) h = drop_there xs n (omega arith)

set_front : {X : Type 0} (before : List X) (y x : X) (rest : List X) → set (before ++ y ∷ rest) (length before) x ≡ before ++ x ∷ rest
set_front [] y x rest = refl
set_front {X} (b ∷ before) y x rest = ap (λ (zs : List X). b ∷ zs) (set_front before y x rest)

set_over : {X : Type 0} (before old : List X) (n : ℕ) (x : X) → length before ≡ n → n < length old → set (before ++ drop n old) n x ≡ before ++ x ∷ drop (suc n) old
set_over {X} before old n x e h =
    let d = drop_there old n h in
    ap (λ (xs : List X). set (before ++ xs) n x) d.1
    ∙ subst (λ (k : ℕ). set (before ++ d.0 ∷ drop (suc n) old) k x ≡ before ++ x ∷ drop (suc n) old) e (set_front before d.0 x (drop (suc n) old))

-- one entry more behind those that are written
entry_more : (at : ℕ) (new old : List (Option ℕ)) (x : Option ℕ) → at + length new < length old → set (overwritten at new old) (at + length new) x ≡ overwritten at (new ++ x ∷ []) old
entry_more at new old x h =
    let long : length (take at old ++ new) ≡ at + length new = simp (length-append, length-take) (omega arith) in
    let one : length (new ++ x ∷ []) ≡ length new + 1 = length-append new (x ∷ []) in
    let next : suc (at + length new) ≡ at + length (new ++ x ∷ []) = omega arith in
    set_over (take at old ++ new) old (at + length new) x long h
    ∙ sym (append_assoc (take at old ++ new) (x ∷ []) (drop (suc (at + length new)) old))
    ∙ ap (λ (xs : List (Option ℕ)). xs ++ drop (suc (at + length new)) old) (append_assoc (take at old) new (x ∷ []))
    ∙ ap (λ (k : ℕ). take at old ++ (new ++ x ∷ []) ++ drop k old) next

pub entries_next : (at place : ℕ) (f : ℕ → Option ℕ) (indices : List ℕ) (old now : List (Option ℕ)) (x : Option ℕ) → now ≡ overwritten at (map f (take place indices)) old → place < length indices → at + place < length old → x ≡ f (get_or indices place 0) → set now (at + place) x ≡ overwritten at (map f (take (place + 1) indices)) old
entries_next at place f indices old now x h within room e =
    let new : List (Option ℕ) = map f (take place indices) in
    let long : length new ≡ place = length-map (take place indices) f ∙ length-take-le place indices (omega arith) in
    let one : suc place ≡ place + 1 = omega arith in
    let more : map f (take (place + 1) indices) ≡ new ++ x ∷ [] =
    ap (λ (k : ℕ). map f (take k indices)) (sym one) ∙ ap (map f) (take-suc indices place 0 within) ∙ map-append f (take place indices) (get_or indices place 0 ∷ []) ∙ ap (λ (y : Option ℕ). new ++ y ∷ []) (sym e) in
    let room_for : at + length new < length old = omega arith in
    ap (λ (xs : List (Option ℕ)). set xs (at + place) x) h
    ∙ ap (λ (k : ℕ). set (overwritten at new old) (at + k) x) (sym long)
    ∙ entry_more at new old x room_for
    ∙ ap (λ (xs : List (Option ℕ)). overwritten at xs old) (sym more)
