-- Memories whose bytes are lent.
use Rattle.std.proofs.Common.{◌≡◌, ◌+◌, ◌-◌, ◌++◌, ℕ, List, length, take, drop, refl, ap, sym, Some, None, arith}
use Rattle.std.specs.List.{slice_get}
use Rattle.std.proofs.lemmas.List.{length-take-le, length-append, length-drop}
use Rattle.std.proofs.lemmas.Option.{get_or_from_slice_get}
use Rattle.wasm_memory.specs.Memories.{MemoryState, made, rewritten}
use Rattle.wasm_store.specs.Store.{Store}
use Rattle.wasm_store.specs.Effects.{with_memory}
use Rattle.wasm_store.specs.Typed.{StoreTyped}
use Rattle.wasm_store.proofs.Changing.{writes_typed}
use Rattle.wasm_store.specs.Lends.{memory_rewritten}

-- What is written over bytes leaves as many.
pub length_rewritten : (xs ys : List ℕ) → length (take (length xs) (ys ++ drop (length ys) xs)) ≡ length xs
length_rewritten xs ys =
    let joined : length (ys ++ drop (length ys) xs) ≡ length ys + length (drop (length ys) xs) = length-append ys (drop (length ys) xs) in
    let rest : length (drop (length ys) xs) ≡ length xs - length ys = length-drop (length ys) xs in
    length-take-le (length xs) (ys ++ drop (length ys) xs) (omega (arith, joined, rest))

-- The store stays typed.
pub rewritten_typed : (s : Store) (address : ℕ) (m : MemoryState) (bytes : List ℕ) → StoreTyped s → slice_get s.memories address ≡ Some m → StoreTyped (with_memory address (rewritten m bytes) s)
rewritten_typed s address m bytes typed there = (writes_typed s address m (rewritten m bytes) typed there refl (length_rewritten m.bytes bytes)).1

-- It is the one that the clause tells.
pub rewritten_is : (s : Store) (address : ℕ) (m : MemoryState) (bytes : List ℕ) → slice_get s.memories address ≡ Some m → with_memory address (rewritten m bytes) s ≡ memory_rewritten address s bytes
rewritten_is s address m bytes there = ap (λ (m : MemoryState). with_memory address (rewritten m bytes) s) (sym (get_or_from_slice_get s.memories address m (made 0 None) there))

-- There is one memory at an address.
pub bytes_at : (ms : List MemoryState) (address : ℕ) (m n : MemoryState) → slice_get ms address ≡ Some m → slice_get ms address ≡ Some n → m.bytes ≡ n.bytes
bytes_at ms address m n there also = let same : m ≡ n = cc in ap (λ (m : MemoryState). m.bytes) same
