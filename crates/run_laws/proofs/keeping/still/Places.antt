-- Bytes that are put into a memory leave memories, core instances and ends as they are kept.
use Rattle.std.proofs.Common.{◌≡◌, ℕ, ◌+◌, nat_le, Bool, true, false, if◌then◌else◌, List, length, refl, Option, Some, None}
use Rattle.std.specs.List.{slice_get}
use Rattle.wasm_memory.specs.Memories.{MemoryState}
use Rattle.wasm_store.specs.Store.{Store}
use Rattle.world_parts.specs.Held.{Held, Done, Gives, Stuck}
use Rattle.world_parts.specs.Places.{bytes_in, rewritten_at, with_bytes_in, written, bytes_put}
use Rattle.run_laws.proofs.keeping.still.Still.{Kinds, Still, StillBy}

rewritten_keeps : (address : ℕ) (bytes : List ℕ) (o : Option MemoryState) (s : Store) → (rewritten_at address bytes o s).instances ≡ s.instances
rewritten_keeps address bytes None s = refl
rewritten_keeps address bytes (Some m) s = refl

put_still : (W : Kinds) (h : Held) (address place : ℕ) (bytes : List ℕ) → Still W h (record h { store = with_bytes_in address (written place bytes (bytes_in address h.store)) h.store })
put_still W h address place bytes = record {
  memories = refl;
  modules = rewritten_keeps address (written place bytes (bytes_in address h.store)) (slice_get h.store.memories address) h.store;
  ends = λ K is kept. kept;
}

by_test : {A : Type 0} (W : Kinds) (h : Held) (b : Bool) (d : Done A) → StillBy W h d → StillBy W h (if b then d else Stuck)
by_test W h true d p = p
by_test W h false d p = tt

pub bytes_put_still : (W : Kinds) (memory : Option ℕ) (place : ℕ) (bytes : List ℕ) (h : Held) → StillBy W h (bytes_put memory place bytes h)
bytes_put_still W None place bytes h = tt
bytes_put_still W (Some address) place bytes h =
    by_test W h (nat_le (place + length bytes) (length (bytes_in address h.store)))
    (Gives (tt {0}) (record h { store = with_bytes_in address (written place bytes (bytes_in address h.store)) h.store }))
    (put_still W h address place bytes)
