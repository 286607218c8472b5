-- The bytes of a memory of a store.
use Rattle.std.proofs.Common.{◌≡◌, ◌<◌, ◌≤◌, ℕ, zero, suc, List, [], ◌∷◌, length, refl, sym, ap, ◌∙◌, arith, Some}
use Rattle.std.specs.List.{slice_get}
use Rattle.std.proofs.lemmas.Option.{slice_get_past}
use Rattle.wasm_memory.specs.Memories.{MemoryState}
use Rattle.wasm_store.specs.Store.{Store}
use Rattle.world_parts.specs.Places.{bytes_of, bytes_in}

pub item : {X : Type 0} (xs : List X) (at : ℕ) → at < length xs → (x : X) × (slice_get xs at ≡ Some x)
item [] at h = absurd (omega (arith, h))
item (x ∷ xs) zero h = (x, refl)
item (x ∷ xs) (suc at) h = item xs at (omega (arith, h))

pub bytes_there : (s : Store) (address : ℕ) (bytes : List ℕ) → address < length s.memories → ((m : MemoryState) → slice_get s.memories address ≡ Some m → bytes ≡ m.bytes)
    → bytes ≡ bytes_in address s
bytes_there s address bytes within lent = let found = item s.memories address within in lent found.0 found.1 ∙ sym (ap bytes_of found.1)

pub bytes_not_there : (s : Store) (address : ℕ) → length s.memories ≤ address → [] ≡ bytes_in address s
bytes_not_there s address past = sym (ap bytes_of (slice_get_past s.memories address past))
