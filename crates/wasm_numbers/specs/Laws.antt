-- What holds of all numeric instructions.
use Rattle.std.specs.Prelude.{◌≡◌, ℕ, List, Some, Ok, IsSome}
use Rattle.syntax_trees.specs.declared.instr.NumericOp.{NumericOp}
use Rattle.wasm_numbers.specs.Numeric.{evaluated}
use Rattle.wasm_numbers.specs.Types.{IsWord, AreWords, operand_types, result_type}

-- an instruction makes something of operands of its types
abbrev pub OperandsAreTaken : Type 0
OperandsAreTaken = (op : NumericOp) (operands : List ℕ) → AreWords (operand_types op) operands → IsSome (evaluated op operands)

-- and its result is of its type
abbrev pub ResultsHaveTheirType : Type 0
ResultsHaveTheirType =
    (op : NumericOp) (operands : List ℕ) (value : ℕ) → AreWords (operand_types op) operands → evaluated op operands ≡ Some (Ok value) → IsWord (result_type op) value
