-- What is put together so far are the parts that were gone over.
use Rattle.std.proofs.Common.{◌≡◌}
use Rattle.ca_base.specs.Items.{joined}
use Rattle.ca_base.proofs.placed.join.Given as goal

abbrev pub invariant-loop-part : goal.invariant-loop-part
invariant-loop-part g l = l.items ≡ joined l.yielded
