use Rattle.std.proofs.Common.{take}
use Rattle.std.specs.List.{AllZip}
use Rattle.program_maker.specs.Programs.{PassesValue}
use Rattle.program_maker.proofs.passed.value_numbers.Given as goal

abbrev pub invariant-loop-at : goal.invariant-loop-at
invariant-loop-at l = AllZip (PassesValue l.types.values) l.all.items (take l.at l.canons)
