-- The first fault is that of the items that are left, behind the others.
use Rattle.std.proofs.Common.{◌≡◌, [], take, drop}
use Rattle.faults.specs.Faults.{first_in}
use Rattle.faults.proofs.rule.check_all.Given as goal

abbrev pub invariant-loop-index : goal.invariant-loop-index
invariant-loop-index g l = first_in (g.R.Rule.fault l.rule) [] l.items ≡ first_in (g.R.Rule.fault l.rule) (take l.index l.items) (drop l.index l.items)
