-- A sink in memory, as contracts see it.
use Rattle.std.specs.Prelude.{ℕ, ◌≤◌, List, ◌++◌, length, take, Result, Ok, Err}
use Rattle.ca_io.specs.Calls.{one_more}

-- the bytes taken so far; how many it has room for; how many it takes at most in one write; how many writes there
-- were, and how many of them failed; the numbers of the writes that are to fail
pub record SinkInMemory : Type 0 where
  pub bytes : List ℕ
  pub room : ℕ
  pub most : ℕ
  pub calls : ℕ
  pub faults : ℕ
  pub fails : List ℕ

-- there is no room left
abbrev pub IsFull : SinkInMemory → Type 0
IsFull sink = sink.room ≤ length sink.bytes

-- after a write of a part with this answer
abbrev pub after_write : {E : Type 0} → SinkInMemory → List ℕ → Result ℕ E → SinkInMemory
after_write sink part (Ok count) = record sink { bytes = sink.bytes ++ take count part; calls = one_more sink.calls }
after_write sink part (Err failed) = record sink { calls = one_more sink.calls; faults = one_more sink.faults }
