-- No handle is lent more often where a task enters.
use Rattle.world_parts.specs.Held.{held}
use Rattle.value_moves.proofs.Entered.{few_entered}
use Rattle.value_moves.proofs.entering.enter_with.Goals as goal

pub arguments_of-requires-clause-lends : goal.arguments_of-requires-clause-lends
arguments_of-requires-clause-lends c =
    few_entered c.args.task (held c.args.parts.now) (held c.enter_callee.new.parts) c.in_ok-callee.callee c.in_ok-callee.ensures c.requires.lends
