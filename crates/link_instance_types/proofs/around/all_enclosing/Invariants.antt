-- The levels so far.
use Rattle.std.proofs.Common.{◌≡◌, map, take}
use Rattle.link_meanings.specs.declared.levels.Enclosing.TheVariants as enclosing
use Rattle.link_instance_types.proofs.around.all_enclosing.Given as goal

abbrev pub invariant-loop-level : goal.invariant-loop-level
invariant-loop-level l = l.around.items ≡ map enclosing.Component (take l.level-index l.levels)
