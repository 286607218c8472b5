-- Bytes that are put: the chain and the number of tasks stay.
use Rattle.std.specs.Prelude.{ℕ, ◌+◌, nat_le, List, length, Option, Some, None}
use Rattle.std.proofs.Common.{refl}
use Rattle.world_parts.specs.Held.{Held, Gives, Stuck}
use Rattle.world_parts.specs.Places.{bytes_in, with_bytes_in, written, bytes_put}
use Rattle.run_laws.proofs.lists.Same.{ListsBy, lists_if, lists_all}

pub bytes_put_lists : (memory : Option ℕ) (place : ℕ) (bytes : List ℕ) (h : Held) → ListsBy h (bytes_put memory place bytes h)
bytes_put_lists None place bytes h = tt
bytes_put_lists (Some address) place bytes h =
    lists_if h (nat_le (place + length bytes) (length (bytes_in address h.store)))
    (Gives (tt {0}) (record h { store = with_bytes_in address (written place bytes (bytes_in address h.store)) h.store })) Stuck
    (lists_all h (record h { store = with_bytes_in address (written place bytes (bytes_in address h.store)) h.store }) refl refl refl refl refl) tt
