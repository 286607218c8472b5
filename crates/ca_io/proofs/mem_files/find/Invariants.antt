use Rattle.std.proofs.Common.{◌≡◌, drop}
use Rattle.std.specs.Map.{lookup}
use Rattle.std.specs.Str.{bytes_eq}
use Rattle.ca_io.proofs.mem_files.find.Given as goal

abbrev pub invariant-loop-entry : goal.invariant-loop-entry
invariant-loop-entry l = lookup (bytes_eq l.name) (drop l.entry-index l.entries) ≡ lookup (bytes_eq l.name) l.entries
