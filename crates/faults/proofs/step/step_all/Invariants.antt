-- What is left to go over decides the whole.
use Rattle.std.proofs.Common.{◌≡◌, drop}
use Rattle.faults.specs.Faults.{folded}
use Rattle.faults.proofs.step.step_all.Given as goal

abbrev pub invariant-loop-item : goal.invariant-loop-item
invariant-loop-item g l = folded g.S.Step.stepped l.initial.state l.items ≡ folded g.S.Step.stepped l.state (drop l.item-index l.items)
