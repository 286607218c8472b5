use Rattle.std.proofs.Common.{[]}
use Rattle.program_maker.specs.Programs.{AreDefined}
use Rattle.program_maker.proofs.resources.none_defined.Given as goal

abbrev pub invariant-loop-instance : goal.invariant-loop-instance
invariant-loop-instance l = AreDefined l._instance [] l.all.items
