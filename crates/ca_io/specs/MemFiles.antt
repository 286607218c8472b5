-- Files in memory, as contracts see them.
use Rattle.std.specs.Prelude.{ℕ, List, ◌∷◌, Option, Result, Ok, Err}
use Rattle.std.specs.Map.{lookup}
use Rattle.std.specs.Str.{bytes_eq}
use Rattle.ca_io.specs.Calls.{one_more}

-- names with their bytes, of which the first of a name counts; how many reads there were, and how many of them
-- failed; the numbers of the reads that are to fail
pub record FilesInMemory : Type 0 where
  pub entries : List (List ℕ × List ℕ)
  pub calls : ℕ
  pub faults : ℕ
  pub fails : List ℕ

-- the bytes under a name
abbrev pub held_in : FilesInMemory → List ℕ → Option (List ℕ)
held_in files name = lookup (bytes_eq name) files.entries

-- with these bytes under a name
abbrev pub with_file : FilesInMemory → List ℕ → List ℕ → FilesInMemory
with_file files name bytes = record files { entries = (name, bytes) ∷ files.entries }

-- after a read with this answer
abbrev pub after_read : {T E : Type 0} → FilesInMemory → Result T E → FilesInMemory
after_read files (Ok count) = record files { calls = one_more files.calls }
after_read files (Err failed) = record files { calls = one_more files.calls; faults = one_more files.faults }
