-- The exports of the functions so far.
use Rattle.std.proofs.Common.{◌≡◌, map}
use Rattle.link_spec.specs.Linked.{export_of}
use Rattle.link_instances.proofs.called.exports_of.Given as goal

abbrev pub invariant-loop-func : goal.invariant-loop-func
invariant-loop-func l = l.exports.items ≡ map export_of l.yielded
