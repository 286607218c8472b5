use Rattle.std.proofs.Common.{◌≡◌, take}
use Rattle.machine_runs.proofs.beginning.picks_of.Given as goal

abbrev pub invariant-loop-number : goal.invariant-loop-number
invariant-loop-number l = l.picks ≡ take l.number-index l.numbers
