use Rattle.world_stacks.proofs.stacks.Stacks.give_up.Given as goal

abbrev pub invariant-loop-pile : goal.invariant-loop-pile
invariant-loop-pile l = Unit {0}

abbrev pub decreases-loop-pile : goal.decreases-loop-pile
decreases-loop-pile l = goal.left-loop-pile l
