use Rattle.std.proofs.Common.{◌≡◌, ℕ, ◌-◌, ◌≤◌, List, take, vec_len, IfSome}
use Rattle.ca_io.proofs.reading.read_all.Given as goal

abbrev pub invariant-loop-found : goal.invariant-loop-found
invariant-loop-found g l = record {
  bound : vec_len l.found ≤ l.limit;
  front : IfSome (g.F.Files.held l.initial.files l.name) (λ bytes. l.found.items ≡ take (vec_len l.found) bytes);
  same : (other : List ℕ) → g.F.Files.held l.files other ≡ g.F.Files.held l.initial.files other;
  faults : g.F.Files.faults l.files ≡ g.F.Files.faults l.initial.files;
}

abbrev pub decreases-loop-found : goal.decreases-loop-found
decreases-loop-found g l = l.limit - vec_len l.found
