use Rattle.std.proofs.Common.{take}
use Rattle.program_maker.specs.Programs.{AreDefined}
use Rattle.program_maker.proofs.resources.resources_of.Given as goal

abbrev pub invariant-loop-at : goal.invariant-loop-at
invariant-loop-at l = AreDefined l.instances (take l.at l.resources) l.all.items
