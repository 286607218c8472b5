-- What is left to be given back leads to where all of it does.
use Rattle.std.proofs.Common.{◌≡◌, drop}
use Rattle.world_parts.specs.Held.{held}
use Rattle.world_parts.specs.Calls.{all_unlent}
use Rattle.world_parts.proofs.blocking.unlend_all.Given as goal

abbrev pub invariant-loop-handle : goal.invariant-loop-handle
invariant-loop-handle l = all_unlent l.at l.callee l.handles (held l.initial.parts) ≡ all_unlent l.at l.callee (drop l.handle-index l.handles) (held l.parts)
