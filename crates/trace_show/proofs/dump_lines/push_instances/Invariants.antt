-- What is written, with the instances that are left behind it, is the whole.
use Rattle.std.proofs.Common.{◌≡◌, ◌+◌, ◌++◌, drop}
use Rattle.trace_show.specs.DumpText.{numbered, instance_lines}
use Rattle.trace_show.proofs.dump_lines.push_instances.Given as goal

abbrev pub invariant-loop-before : goal.invariant-loop-before
invariant-loop-before l =
    l.to.items ++ numbered instance_lines (l.before + 1) (drop l.before l.instances)
    ≡ l.initial.to.items ++ numbered instance_lines 1 l.instances
