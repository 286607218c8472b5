-- The first fault is that of the instructions that are left.
use Rattle.std.proofs.Common.{◌≡◌, drop}
use Rattle.wasm_typing.specs.Items.{instrs_fault}
use Rattle.wasm_typing.proofs.consts.const_fault.Given as goal

abbrev pub invariant-loop-at : goal.invariant-loop-at
invariant-loop-at l = instrs_fault l.imported 0 l.instrs ≡ instrs_fault l.imported l.at (drop l.at l.instrs)
