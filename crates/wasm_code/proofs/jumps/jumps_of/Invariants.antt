-- From the place on, the table is right.
use Rattle.std.proofs.Common.{reverse}
use Rattle.wasm_code.proofs.Jumping.{IsRight}
use Rattle.wasm_code.proofs.jumps.jumps_of.Given as goal

abbrev pub invariant-loop-at : goal.invariant-loop-at
invariant-loop-at l = IsRight l.body l.at (reverse l.ends.items) l.jumps.items

abbrev pub decreases-loop-at : goal.decreases-loop-at
decreases-loop-at l = l.at
