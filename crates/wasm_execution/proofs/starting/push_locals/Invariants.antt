-- The zeros of the groups so far stand behind the others.
use Rattle.std.proofs.Common.{◌≡◌, ◌++◌, take}
use Rattle.wasm_execution.specs.Zeros.{zeros}
use Rattle.wasm_execution.proofs.starting.push_locals.Given as goal

abbrev pub invariant-loop-group : goal.invariant-loop-group
invariant-loop-group l = l.locals.items ≡ l.initial.locals.items ++ zeros (take l.group-index l.groups)
