-- What instructions make of values, over variables.
use Rattle.std.proofs.Common.{◌≡◌, ◌≤◌, ◌+◌, ◌-◌, ◌*◌, ◌^◌, ℕ, zero, suc, Bool, true, false, nat_le, if◌then◌else◌, List, [], ◌∷◌, ◌++◌, length, set, replicate, refl, ap, sym, ◌∙◌, subst, arith, Option, Some, None}
use Rattle.std.specs.List.{slice_get}
use Rattle.wasm_memory.specs.Memories.{MemoryState, page_count, most_pages, with_bytes, growth, grown}
use Rattle.wasm_store.specs.declared.trap.Trap.{Trap}
use Rattle.wasm_store.specs.declared.trap.Trap.TheVariants.{MemoryBounds}
use Rattle.wasm_store.specs.Store.{Store}
use Rattle.wasm_store.specs.Effects.{Leaves, with_memory, by_bounds, by_growth}
use Rattle.wasm_store.specs.Fits.{Gives}

-- A store whose memory is put in its own place is the store.
set_same : {X : Type 0} (xs : List X) (a : ℕ) (x : X) → slice_get xs a ≡ Some x → set xs a x ≡ xs
set_same [] a x e = refl
set_same (y ∷ xs) zero x e = let same : y ≡ x = cc in ap (λ z. z ∷ xs) (sym same)
set_same (y ∷ xs) (suc a) x e = ap (λ zs. y ∷ zs) (set_same xs a x e)

pub same_memory : (address : ℕ) (m : MemoryState) (s : Store) → slice_get s.memories address ≡ Some m → with_memory address m s ≡ s
same_memory address m s e = ap (λ ms. (let t : Store = record s { memories = ms } in t)) (set_same s.memories address m e)

-- What is written within bounds, and a trap outside them.
pub bounds_give : (inside ok : Bool) (address : ℕ) (m n : MemoryState) (bytes : List ℕ) (s : Store) (ls vs : List ℕ) (trap : Option Trap) → slice_get s.memories address ≡ Some m → ok ≡ inside → n ≡ with_bytes m bytes → (inside ≡ false → bytes ≡ m.bytes) → trap ≡ (if ok then None else Some MemoryBounds) → Gives s (by_bounds inside (address, m) bytes s ls vs) trap (with_memory address n s) ls vs
bounds_give true ok address m n bytes s ls vs trap there o e same t =
    let none : trap ≡ None = subst (λ (b : Bool). trap ≡ (if b then None else Some MemoryBounds)) o t in
    subst (λ (u : Option Trap). Gives s (by_bounds true (address, m) bytes s ls vs) u (with_memory address n s) ls vs) (sym none)
    (ap (λ (k : MemoryState). Leaves (with_memory address k s) ls vs) (sym e))
bounds_give false ok address m n bytes s ls vs trap there o e same t =
    let some : trap ≡ Some MemoryBounds = subst (λ (b : Bool). trap ≡ (if b then None else Some MemoryBounds)) o t in
    let unchanged : n ≡ m = e ∙ ap (λ (b : List ℕ). with_bytes m b) (same refl) in
    subst (λ (u : Option Trap). Gives s (by_bounds false (address, m) bytes s ls vs) u (with_memory address n s) ls vs) (sym some)
    (refl, subst (λ (k : MemoryState). with_memory address k s ≡ s) (sym unchanged) (same_memory address m s there))

-- bytes that are not all inside stay
pub if_not : {X : Type 0} (b : Bool) (x y : X) → b ≡ false → (if b then x else y) ≡ y
if_not true x y e = cc
if_not false x y e = refl

-- A growth that is refused.
pub refused : (address more : ℕ) (m : MemoryState) (s : Store) (ls vs : List ℕ) → slice_get s.memories address ≡ Some m → None ≡ growth m more → by_growth (growth m more) address (grown m more) s ls vs ≡ Leaves (with_memory address (grown m more) s) ls ((2 ^ 32 - 1) ∷ vs)
refused address more m s ls vs there = by (nat_le (page_count m + more) (most_pages m.maximum)) (page_count m) (record m { bytes = m.bytes ++ replicate (more * 65536) 0 })
  where
    by : (b : Bool) (k : ℕ) (large : MemoryState) → (let n : Option ℕ = None in n) ≡ (if b then Some k else None) → by_growth (if b then Some k else None) address (if b then large else m) s ls vs ≡ Leaves (with_memory address (if b then large else m) s) ls ((2 ^ 32 - 1) ∷ vs)
    by true k large e = cc
    by false k large e = ap (λ (t : Store). Leaves t ls ((2 ^ 32 - 1) ∷ vs)) (sym (same_memory address m s there))

-- A place behind a list's end has nothing to set.
pub set_past : (xs : List ℕ) (i a : ℕ) → length xs ≤ i → set xs i a ≡ xs
set_past [] i a h = refl
set_past (x ∷ xs) zero a h = absurd (omega arith)
set_past (x ∷ xs) (suc i) a h = ap (λ ys. x ∷ ys) (set_past xs i a (omega arith))
