-- The bytes of a memory of a store: how many there are, and what is left where others are put over them.
use Rattle.std.proofs.Common.{◌≡◌, ◌<◌, ◌≤◌, ◌+◌, ◌-◌, ◌^◌, ◌++◌, ℕ, zero, suc, List, [], ◌∷◌, length, take, drop, refl, sym, ap, ◌∙◌, subst, arith, Option, Some, None, append_assoc, append-nil, length-append, length-take, length-drop, drop-drop}
use Rattle.std.specs.List.{slice_get}
use Rattle.std.proofs.lemmas.List.{take_all, drop_all}
use Rattle.std.proofs.lemmas.Option.{get_or_from_slice_get, slice_get_past}
use Rattle.wasm_memory.specs.Memories.{MemoryState, most_pages, made, rewritten, with_bytes}
use Rattle.wasm_store.specs.Store.{Store}
use Rattle.wasm_store.specs.Effects.{with_memory}
use Rattle.wasm_store.specs.Typed.{StoreTyped, MemoryTyped}
use Rattle.wasm_store.proofs.Lists.{all_at}
use Rattle.wasm_store.specs.Lends.{memory_in}
use Rattle.value_lower.specs.Following.{written}
use Rattle.copy_engine.specs.Nested.{bytes_of, bytes_in, rewritten_at, with_bytes_in}

item : {X : Type 0} (xs : List X) (at : ℕ) → at < length xs → (x : X) × (slice_get xs at ≡ Some x)
item [] at h = absurd (omega (arith, h))
item (x ∷ xs) zero h = (x, refl)
item (x ∷ xs) (suc at) h = item xs at (omega (arith, h))

-- A typed memory has at most 1,024 pages.
few_bytes : (m : MemoryState) → MemoryTyped m → length m.bytes ≤ 2 ^ 32
few_bytes m h =
    let few = h.few in
    let most : most_pages m.maximum ≤ 1024 = omega arith in
    omega (arith, h.whole)

pub few_there : (s : Store) (memory : ℕ) (bytes : List ℕ) → StoreTyped s → memory < length s.memories
    → ((m : MemoryState) → slice_get s.memories memory ≡ Some m → bytes ≡ m.bytes) → length bytes ≤ 2 ^ 32
few_there s memory bytes typed within lent =
    let found = item s.memories memory within in
    let same : bytes ≡ found.0.bytes = lent found.0 found.1 in
    subst (λ (bytes : List ℕ). length bytes ≤ 2 ^ 32) (sym same) (few_bytes found.0 (all_at MemoryTyped s.memories memory found.0 typed.memories found.1))

pub none_there : (s : Store) (memory : ℕ) → length s.memories ≤ memory → 0 ≡ length (bytes_in memory s)
none_there s memory past = sym (ap (λ (o : Option MemoryState). length (bytes_of o)) (slice_get_past s.memories memory past))

pub bytes_there : (s : Store) (memory : ℕ) (bytes : List ℕ) → memory < length s.memories → ((m : MemoryState) → slice_get s.memories memory ≡ Some m → bytes ≡ m.bytes)
    → bytes ≡ bytes_in memory s
bytes_there s memory bytes within lent = let found = item s.memories memory within in lent found.0 found.1 ∙ sym (ap bytes_of found.1)

pub bytes_not_there : (s : Store) (memory : ℕ) → length s.memories ≤ memory → [] ≡ bytes_in memory s
bytes_not_there s memory past = sym (ap bytes_of (slice_get_past s.memories memory past))

pub none_put : (s : Store) (memory : ℕ) (bytes : List ℕ) → length s.memories ≤ memory → s ≡ with_bytes_in memory bytes s
none_put s memory bytes past = sym (ap (λ (o : Option MemoryState). rewritten_at memory bytes o s) (slice_get_past s.memories memory past))

-- What is put at a place leaves as many bytes.
written_long : (place : ℕ) (bytes old : List ℕ) → place + length bytes ≤ length old → length (written place bytes old) ≡ length old
written_long place bytes old h = simp (length-append, length-take, length-drop) (omega arith)

full : (xs ys : List ℕ) → length ys ≡ length xs → take (length xs) (ys ++ drop (length ys) xs) ≡ ys
full xs ys h =
    let none : drop (length ys) xs ≡ [] = drop_all (length ys) xs (omega (arith, h)) in
    ap (λ (r : List ℕ). take (length xs) (ys ++ r)) none ∙ ap (take (length xs)) (append-nil ys) ∙ take_all (length xs) ys (omega (arith, h))

-- The bytes that a slice has once others are copied into a part of it.
pub copied_into : (place : ℕ) (bytes to : List ℕ) → take place to ++ (bytes ++ drop (place + length bytes - place) (drop place to)) ≡ written place bytes to
copied_into place bytes to =
    let sum : place + (place + length bytes - place) ≡ place + length bytes = omega arith in
    let rest : drop (place + length bytes - place) (drop place to) ≡ drop (place + length bytes) to =
    drop-drop (place + length bytes - place) place to ∙ ap (λ (n : ℕ). drop n to) (omega arith) in
    ap (λ (r : List ℕ). take place to ++ (bytes ++ r)) rest ∙ sym (append_assoc (take place to) bytes (drop (place + length bytes) to))

-- The store where they are put into the bytes that it lends.
pub put_is : (s : Store) (memory place : ℕ) (bytes to whole : List ℕ) → memory < length s.memories
    → ((m : MemoryState) → slice_get s.memories memory ≡ Some m → to ≡ m.bytes)
    → place + length bytes ≤ length (bytes_in memory s) → whole ≡ written place bytes to
    → with_memory memory (rewritten (memory_in s memory) whole) s ≡ with_bytes_in memory (written place bytes (bytes_in memory s)) s
put_is s memory place bytes to whole within lent inside is =
    let found = item s.memories memory within in
    let m : MemoryState = found.0 in
    let now : memory_in s memory ≡ m = get_or_from_slice_get s.memories memory m (made 0 None) found.1 in
    let old : bytes_in memory s ≡ m.bytes = ap bytes_of found.1 in
    let wrote : whole ≡ written place bytes m.bytes = is ∙ ap (written place bytes) (lent m found.1) in
    let fits : place + length bytes ≤ length m.bytes = subst (λ (xs : List ℕ). place + length bytes ≤ length xs) old inside in
    let long : length whole ≡ length m.bytes = ap (λ (xs : List ℕ). length xs) wrote ∙ written_long place bytes m.bytes fits in
    let left : with_memory memory (rewritten (memory_in s memory) whole) s ≡ with_memory memory (with_bytes m whole) s =
    ap (λ (k : MemoryState). with_memory memory (rewritten k whole) s) now ∙ ap (λ (b : List ℕ). with_memory memory (with_bytes m b) s) (full m.bytes whole long) in
    let right : with_bytes_in memory (written place bytes (bytes_in memory s)) s ≡ with_memory memory (with_bytes m (written place bytes m.bytes)) s =
    ap (λ (o : Option MemoryState). rewritten_at memory (written place bytes (bytes_of o)) o s) found.1 in
    left ∙ ap (λ (b : List ℕ). with_memory memory (with_bytes m b) s) wrote ∙ sym right
