-- So many items passed, and the fault of what is left is that of all.
use Rattle.syntax_trees.specs.declared.instr.BlockType.TheVariants.{TypeIndex}
use Rattle.syntax_trees.specs.Expr.{flat}
use Rattle.wasm_typing.specs.Checking.{begins}
use Rattle.wasm_valid.specs.State.{all_of}
use Rattle.wasm_valid.proofs.Driving.{IsChecking}
use Rattle.wasm_valid.proofs.walk.body_fault.Given as goal

abbrev pub invariant-loop-at : goal.invariant-loop-at
invariant-loop-at l = IsChecking l.context (flat l.body) (begins (TypeIndex l.fn.type_index)) l.at (all_of l.checker)
