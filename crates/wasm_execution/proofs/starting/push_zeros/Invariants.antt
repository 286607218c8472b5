-- So many zeros stand behind the others.
use Rattle.std.proofs.Common.{◌≡◌, ◌++◌, replicate}
use Rattle.wasm_execution.proofs.starting.push_zeros.Given as goal

abbrev pub invariant-loop-index : goal.invariant-loop-index
invariant-loop-index l = l.locals.items ≡ l.initial.locals.items ++ replicate l._index 0
