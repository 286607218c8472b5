-- The entries so far are those of the first indices.
use Rattle.std.proofs.Common.{◌≡◌, map, take}
use Rattle.std.specs.List.{slice_get}
use Rattle.wasm_store.specs.Instantiation.{overwritten}
use Rattle.wasm_store.proofs.segments.write_entries.Given as goal

abbrev pub invariant-loop-place : goal.invariant-loop-place
invariant-loop-place l = l.entries.items ≡ overwritten l.at (map (λ index. slice_get l.funcs index) (take l.place l.indices)) l.initial.entries.items
