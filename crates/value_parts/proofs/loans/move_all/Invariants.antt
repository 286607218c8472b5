-- What is left to be told of what moved leads to where all of it does.
use Rattle.std.proofs.Common.{◌≡◌, drop}
use Rattle.world_parts.specs.Held.{held}
use Rattle.value_parts.specs.Loans.{all_moved}
use Rattle.value_parts.proofs.loans.move_all.Given as goal

abbrev pub invariant-loop-one : goal.invariant-loop-one
invariant-loop-one l = all_moved l.at l.callee l.moved (held l.initial.parts) ≡ all_moved l.at l.callee (drop l.one-index l.moved) (held l.parts)
