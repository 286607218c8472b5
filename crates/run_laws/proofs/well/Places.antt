-- Bytes that are put: what is kept well stays so.
use Rattle.std.specs.Prelude.{ℕ, ◌+◌, nat_le, List, length, Option, Some, None}
use Rattle.std.proofs.Common.{refl}
use Rattle.world_parts.specs.Held.{Held, Gives, Stuck}
use Rattle.world_parts.specs.Places.{bytes_in, with_bytes_in, written, bytes_put}
use Rattle.run_laws.specs.keeping.Well.{KeepsWell}
use Rattle.run_laws.proofs.well.Behind.{well_if, well_all}

pub bytes_put_well : (memory : Option ℕ) (place : ℕ) (bytes : List ℕ) (h : Held) → KeepsWell h (bytes_put memory place bytes h)
bytes_put_well None place bytes h = tt
bytes_put_well (Some address) place bytes h =
    well_if h (nat_le (place + length bytes) (length (bytes_in address h.store)))
    (Gives (tt {0}) (record h { store = with_bytes_in address (written place bytes (bytes_in address h.store)) h.store })) Stuck
    (well_all h (record h { store = with_bytes_in address (written place bytes (bytes_in address h.store)) h.store }) refl) tt
