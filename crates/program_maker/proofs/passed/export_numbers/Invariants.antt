use Rattle.std.proofs.Common.{take}
use Rattle.std.specs.List.{AllZip}
use Rattle.syntax_trees.specs.declared.exports.Export.{Export}
use Rattle.programs.specs.declared.program.FuncNumbers.{FuncNumbers}
use Rattle.program_maker.specs.Programs.{PassesFunc}
use Rattle.program_maker.proofs.passed.export_numbers.Given as goal

abbrev pub invariant-loop-at : goal.invariant-loop-at
invariant-loop-at l = AllZip (λ (numbers : FuncNumbers) (e : Export). PassesFunc l.types.values numbers e.func_type) l.all.items (take l.at l.exports)
