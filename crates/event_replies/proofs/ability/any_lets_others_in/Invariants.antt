-- None so far lets one in.
use Rattle.std.proofs.Common.{◌≡◌, take, false}
use Rattle.std.specs.List.{list_any}
use Rattle.world_parts.specs.Turning.{lets_others_in}
use Rattle.event_replies.proofs.ability.any_lets_others_in.Given as goal

abbrev pub invariant-loop-instance : goal.invariant-loop-instance
invariant-loop-instance l = list_any lets_others_in (take l.instance-index l.instances) ≡ false
