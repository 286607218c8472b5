use Rattle.std.proofs.Common.{take}
use Rattle.std.specs.List.{AllZip}
use Rattle.program_maker.specs.Programs.{PassesCanon}
use Rattle.program_maker.proofs.passed.canon_numbers.Given as goal

abbrev pub invariant-loop-at : goal.invariant-loop-at
invariant-loop-at l = AllZip (PassesCanon l.types.values) l.all.items (take l.at l.canons)
