-- The levels so far.
use Rattle.std.proofs.Common.{◌∷◌, take}
use Rattle.std.specs.List.{AllZip}
use Rattle.link_spec.specs.Spaces.{Linking, levels_at}
use Rattle.link_types.specs.Table.{Table}
use Rattle.link_instances.specs.References.{World}
use Rattle.link_meanings.specs.Levels.{AreLevels}
use Rattle.link_state.specs.State.{IsKept}
use Rattle.link_state.proofs.levels.levels_at.Given as goal

abbrev pub invariant-loop-number : goal.invariant-loop-number
invariant-loop-number l = (t : Table) (w : World) (k : Linking) → AllZip (IsKept t w) l.scopes k.scopes → AreLevels t w.components l.levels.items (levels_at k (l.n ∷ take l.number-index l.around))
