-- Bytes that are put into a memory keep the store typed, as many as before.
use Rattle.std.proofs.Common.{◌≡◌, ℕ, ◌+◌, ◌-◌, ◌≤◌, nat_le, Bool, true, false, if◌then◌else◌, List, ◌++◌, length, take, drop, refl, sym, ap, subst, ◌∙◌, arith, Option, Some, None}
use Rattle.std.specs.List.{slice_get}
use Rattle.std.proofs.lemmas.Bool.{leb-true}
use Rattle.std.proofs.lemmas.List.{length-take-le, length-drop, length-append}
use Rattle.wasm_memory.specs.Memories.{MemoryState, with_bytes}
use Rattle.wasm_store.specs.Store.{Store}
use Rattle.wasm_store.specs.Typed.{StoreTyped, Extends}
use Rattle.wasm_store.proofs.Changing.{writes_typed}
use Rattle.wasm_store.proofs.Stores.{store_same}
use Rattle.world_parts.specs.Held.{Held, Done, Gives, Stuck}
use Rattle.world_parts.specs.Places.{bytes_of, bytes_in, rewritten_at, with_bytes_in, written, bytes_put}
use Rattle.value_parts.proofs.fit.Keeps.{Keeps, KeepsBy}

-- as many bytes as before
as_many : (place : ℕ) (bytes memory : List ℕ) → place + length bytes ≤ length memory → length (written place bytes memory) ≡ length memory
as_many place bytes memory h =
    let a : length (take place memory ++ bytes ++ drop (place + length bytes) memory) ≡ length (take place memory ++ bytes) + length (drop (place + length bytes) memory)
    = length-append (take place memory ++ bytes) (drop (place + length bytes) memory) in
    let b : length (take place memory ++ bytes) ≡ length (take place memory) + length bytes = length-append (take place memory) bytes in
    let c : length (take place memory) ≡ place = length-take-le place memory (omega (arith, h)) in
    let d : length (drop (place + length bytes) memory) ≡ length memory - (place + length bytes) = length-drop (place + length bytes) memory in
    omega (arith, a, b, c, d, h)

rewritten_typed : (address : ℕ) (bytes : List ℕ) (o : Option MemoryState) (s : Store) → slice_get s.memories address ≡ o → length bytes ≡ length (bytes_of o) → StoreTyped s
    → Extends s (rewritten_at address bytes o s) × StoreTyped (rewritten_at address bytes o s)
rewritten_typed address bytes None s is same typed = (store_same s, typed)
rewritten_typed address bytes (Some m) s is same typed = writes_typed s address m (with_bytes m bytes) typed is refl same

pub put_keeps : (h : Held) (address place : ℕ) (bytes : List ℕ) → place + length bytes ≤ length (bytes_in address h.store)
    → Keeps h (record h { store = with_bytes_in address (written place bytes (bytes_in address h.store)) h.store })
put_keeps h address place bytes inside = record {
  store = λ typed.
      rewritten_typed address (written place bytes (bytes_in address h.store)) (slice_get h.store.memories address) h.store refl (as_many place bytes (bytes_in address h.store) inside) typed;
  lends = λ most few. few;
}

by_test : {A : Type 0} (h : Held) (b : Bool) (d : Done A) → (b ≡ true → KeepsBy h d) → KeepsBy h (if b then d else Stuck)
by_test h true d p = p refl
by_test h false d p = tt

pub bytes_put_keeps : (memory : Option ℕ) (place : ℕ) (bytes : List ℕ) (h : Held) → KeepsBy h (bytes_put memory place bytes h)
bytes_put_keeps None place bytes h = tt
bytes_put_keeps (Some address) place bytes h =
    by_test h (nat_le (place + length bytes) (length (bytes_in address h.store)))
    (Gives (tt {0}) (record h { store = with_bytes_in address (written place bytes (bytes_in address h.store)) h.store }))
    (λ is. put_keeps h address place bytes (leb-true (place + length bytes) (length (bytes_in address h.store)) is))
