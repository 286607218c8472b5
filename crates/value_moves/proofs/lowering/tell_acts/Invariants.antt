-- What is left to be told leads to where all of it does.
use Rattle.std.proofs.Common.{◌≡◌, drop}
use Rattle.world_parts.specs.Held.{held}
use Rattle.value_moves.specs.Lowering.{all_told}
use Rattle.value_moves.proofs.lowering.tell_acts.Given as goal

abbrev pub invariant-loop-act : goal.invariant-loop-act
invariant-loop-act l =
    all_told l.graph l.task l.acts (held l.initial.parts) ≡ all_told l.graph l.task (drop l.act-index l.acts) (held l.parts)
