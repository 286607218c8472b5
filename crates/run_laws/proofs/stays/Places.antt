-- Bytes that are put: the chain and the number of tasks stay.
use Rattle.std.specs.Prelude.{ℕ, ◌+◌, nat_le, List, length, Option, Some, None}
use Rattle.std.proofs.Common.{refl}
use Rattle.world_parts.specs.Held.{Held, Gives, Stuck}
use Rattle.world_parts.specs.Places.{bytes_in, with_bytes_in, written, bytes_put}
use Rattle.run_laws.proofs.stays.Same.{StaysBy, stays_if, stays_all}

pub bytes_put_stays : (memory : Option ℕ) (place : ℕ) (bytes : List ℕ) (h : Held) → StaysBy h (bytes_put memory place bytes h)
bytes_put_stays None place bytes h = tt
bytes_put_stays (Some address) place bytes h =
    stays_if h (nat_le (place + length bytes) (length (bytes_in address h.store)))
    (Gives (tt {0}) (record h { store = with_bytes_in address (written place bytes (bytes_in address h.store)) h.store })) Stuck
    (stays_all h (record h { store = with_bytes_in address (written place bytes (bytes_in address h.store)) h.store }) refl refl) tt
