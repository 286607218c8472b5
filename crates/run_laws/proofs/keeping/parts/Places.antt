-- Bytes that are put into a memory leave marks of handles and subtasks as they are.
use Rattle.std.proofs.Common.{ℕ, ◌+◌, nat_le, List, length, refl, Option, Some, None}
use Rattle.world_parts.specs.Held.{Held, Gives, Stuck}
use Rattle.world_parts.specs.Places.{bytes_in, with_bytes_in, written, bytes_put}
use Rattle.run_laws.proofs.keeping.Others.{KeptBy}
use Rattle.run_laws.proofs.keeping.Others.{keeps_all, keeps_if}

pub bytes_put_keeps : (memory : Option ℕ) (place : ℕ) (bytes : List ℕ) (h : Held) → KeptBy h (bytes_put memory place bytes h)
bytes_put_keeps None place bytes h = tt
bytes_put_keeps (Some address) place bytes h =
    keeps_if h (nat_le (place + length bytes) (length (bytes_in address h.store)))
    (Gives (tt {0}) (record h { store = with_bytes_in address (written place bytes (bytes_in address h.store)) h.store })) Stuck
    (keeps_all h (record h { store = with_bytes_in address (written place bytes (bytes_in address h.store)) h.store }) refl refl) tt
