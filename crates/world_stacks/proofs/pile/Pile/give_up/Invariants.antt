use Rattle.world_stacks.proofs.pile.Pile.give_up.Given as goal

abbrev pub invariant-loop-call : goal.invariant-loop-call
invariant-loop-call l = Unit {0}

abbrev pub decreases-loop-call : goal.decreases-loop-call
decreases-loop-call l = goal.left-loop-call l
