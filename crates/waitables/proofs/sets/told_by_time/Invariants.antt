use Rattle.std.proofs.Common.{take}
use Rattle.std.specs.BTreeMap.{get}
use Rattle.std.specs.Ordering.{nat_cmp}
use Rattle.waitables.specs.Placing.{AreTold}
use Rattle.waitables.proofs.sets.told_by_time.Given as goal

abbrev pub invariant-loop-waitable : goal.invariant-loop-waitable
invariant-loop-waitable l = AreTold (get nat_cmp l.places) l.set (take l.waitable-index l.told) l.by_time.entries
