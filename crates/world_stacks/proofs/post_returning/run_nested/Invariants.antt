-- The code has come here by calls that were answered, and its stack is typed.
use Rattle.world_parts.specs.Held.{held}
use Rattle.world_stacks.specs.Piles.{RunsTyped}
use Rattle.world_stacks.specs.PostReturns.{Gone}
use Rattle.world_stacks.proofs.post_returning.run_nested.Given as goal

abbrev pub invariant-loop-call : goal.invariant-loop-call
invariant-loop-call l = record {
  typed : RunsTyped l.parts.store l.running;
  gone : Gone l.graph l.task l.at (record { held = held l.initial.parts; stack = l.initial.running }) (record { held = held l.parts; stack = l.running });
}
