-- The first fault is that of the indices that are left.
use Rattle.std.proofs.Common.{◌≡◌, drop}
use Rattle.wasm_typing.specs.Items.{funcs_fault}
use Rattle.wasm_typing.proofs.segments.funcs_fault.Given as goal

abbrev pub invariant-loop-at : goal.invariant-loop-at
invariant-loop-at l = funcs_fault l.count 0 l.indices ≡ funcs_fault l.count l.at (drop l.at l.indices)
