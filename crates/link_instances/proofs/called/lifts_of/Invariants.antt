-- The lifts of the functions so far.
use Rattle.std.proofs.Common.{◌≡◌, map, take}
use Rattle.link_spec.specs.Linked.{lift_of}
use Rattle.link_instances.proofs.called.lifts_of.Given as goal

abbrev pub invariant-loop-func : goal.invariant-loop-func
invariant-loop-func l = l.lifts.items ≡ map lift_of (take l.func-index l.funcs)
