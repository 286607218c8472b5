-- Bytes that are put into a memory leave the marks of gates and of sets as they are.
use Rattle.std.proofs.Common.{ℕ, ◌+◌, nat_le, List, length, refl, Option, Some, None}
use Rattle.world_parts.specs.Held.{Held, Gives, Stuck}
use Rattle.world_parts.specs.Places.{bytes_in, with_bytes_in, written, bytes_put}
use Rattle.standing.specs.MarksKept.{StayBy}
use Rattle.standing.proofs.marks.Stays.{stays_all, stays_if}

pub bytes_put_stays : (memory : Option ℕ) (place : ℕ) (bytes : List ℕ) (h : Held) → StayBy h (bytes_put memory place bytes h)
bytes_put_stays None place bytes h = tt
bytes_put_stays (Some address) place bytes h =
    stays_if h (nat_le (place + length bytes) (length (bytes_in address h.store)))
    (Gives (tt {0}) (record h { store = with_bytes_in address (written place bytes (bytes_in address h.store)) h.store })) Stuck
    (stays_all h (record h { store = with_bytes_in address (written place bytes (bytes_in address h.store)) h.store }) refl refl) tt
