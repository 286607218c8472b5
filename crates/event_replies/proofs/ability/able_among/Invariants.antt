-- Those so far that can go on.
use Rattle.std.proofs.Common.{◌≡◌, take}
use Rattle.std.specs.List.{filter}
use Rattle.world_parts.specs.Held.{held}
use Rattle.world_parts.specs.Turning.{is_able}
use Rattle.event_replies.specs.Seen.{seen}
use Rattle.event_replies.proofs.ability.able_among.Given as goal

abbrev pub invariant-loop-task : goal.invariant-loop-task
invariant-loop-task l = l.able ≡ filter (is_able (seen l.graph) (held l.parts)) (take l.task-index l.tasks)
