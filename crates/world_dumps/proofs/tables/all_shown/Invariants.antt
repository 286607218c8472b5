-- The tables so far are those of the first instances.
use Rattle.std.proofs.Common.{◌≡◌, take, map}
use Rattle.world_parts.specs.Held.{held}
use Rattle.world_dumps.specs.Tables.{table_shown}
use Rattle.world_dumps.proofs.tables.all_shown.Given as goal

abbrev pub invariant-loop-instance : goal.invariant-loop-instance
invariant-loop-instance l = l.all ≡ map (table_shown (held l.parts)) (take l.instance-index l.instances)
