-- The types that are left may end the operands that are left where all types may end all operands.
use Rattle.std.proofs.Common.{◌≡◌, length}
use Rattle.wasm_valid.proofs.Accepting.{accepted}
use Rattle.wasm_valid.proofs.checker.accepts.Given as goal

abbrev pub invariant-loop-wanted : goal.invariant-loop-wanted
invariant-loop-wanted l = accepted l.types l.over l.any ≡ accepted l.fn.wanted l.fn.operands l.any

abbrev pub decreases-loop-wanted : goal.decreases-loop-wanted
decreases-loop-wanted l = length l.types
