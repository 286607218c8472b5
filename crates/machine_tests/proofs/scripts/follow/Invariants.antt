-- The stack may run.
use Rattle.machine_tests.specs.Typed.{MayRun}
use Rattle.machine_tests.proofs.scripts.follow.Given as goal

abbrev pub invariant-loop-slice : goal.invariant-loop-slice
invariant-loop-slice l = MayRun l.store l.running
