-- No handle of the instance is lent more often than may be.
use Rattle.std.proofs.Common.{◌^◌}
use Rattle.instances.specs.Entries.{seen_as}
use Rattle.value_lift.specs.Tables.{MostLends}
use Rattle.step_tests.proofs.entries.join_all.Given as goal

abbrev pub invariant-loop-index : goal.invariant-loop-index
invariant-loop-index l = MostLends seen_as (2 ^ 63) l.instance.slots
