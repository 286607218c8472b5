-- The stack may run.
use Rattle.machine_tests.specs.Typed.{MayRun}
use Rattle.machine_tests.proofs.bodies.finish.Given as goal

abbrev pub invariant-loop-turn : goal.invariant-loop-turn
invariant-loop-turn l = MayRun l.store l.running
