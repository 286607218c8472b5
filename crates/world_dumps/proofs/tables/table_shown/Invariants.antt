-- What is shown so far is what stands at the first indices.
use Rattle.std.proofs.Common.{◌≡◌, take}
use Rattle.std.specs.List.{flat_map}
use Rattle.world_parts.specs.Held.{held}
use Rattle.world_dumps.specs.Tables.{listed, shown_at}
use Rattle.world_dumps.proofs.tables.table_shown.Given as goal

abbrev pub invariant-loop-index : goal.invariant-loop-index
invariant-loop-index l = l.all ≡ flat_map (λ index. listed (shown_at (held l.parts) l.instance index)) (take l.index-index l.index-items)
