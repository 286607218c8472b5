-- The types of the operands and of the result of each numeric instruction (Core 2.0, section 3.3.1), and the numbers that
-- are values of a type.
use Rattle.std.specs.Prelude.{ℕ, ◌<◌, ◌^◌, List, [], ◌∷◌}
use Rattle.syntax_trees.specs.declared.module_types.ValType.{ValType}
use Rattle.syntax_trees.specs.declared.module_types.ValType.TheVariants.{I32, I64}
use Rattle.syntax_trees.specs.declared.instr.Width.{Width}
use Rattle.syntax_trees.specs.declared.instr.Width.TheVariants.{W32, W64}
use Rattle.syntax_trees.specs.declared.instr.NumericOp.{NumericOp}
use Rattle.syntax_trees.specs.declared.instr.NumericOp.TheVariants.{Eqz, Relation, Unary, Binary, WrapI64, ExtendI32S, ExtendI32U, I64Extend32S}

-- the type of integers of a width
abbrev pub integer : Width → ValType
integer W32 = I32
integer W64 = I64

-- the types of the operands, in order
abbrev pub operand_types : NumericOp → List ValType
operand_types (Eqz width) = integer width ∷ []
operand_types (Relation width op) = integer width ∷ integer width ∷ []
operand_types (Unary width op) = integer width ∷ []
operand_types (Binary width op) = integer width ∷ integer width ∷ []
operand_types WrapI64 = I64 ∷ []
operand_types ExtendI32S = I32 ∷ []
operand_types ExtendI32U = I32 ∷ []
operand_types I64Extend32S = I64 ∷ []

-- the type of the result
abbrev pub result_type : NumericOp → ValType
result_type (Eqz width) = I32
result_type (Relation width op) = I32
result_type (Unary width op) = integer width
result_type (Binary width op) = integer width
result_type WrapI64 = I32
result_type ExtendI32S = I64
result_type ExtendI32U = I64
result_type I64Extend32S = I64

-- a number that is a value of a type
abbrev pub IsWord : ValType → ℕ → Type 0
IsWord I32 n = n < 2 ^ 32
IsWord I64 n = n < 2 ^ 64

-- numbers that are values of these types, one each
abbrev pub AreWords : List ValType → List ℕ → Type 0
AreWords [] [] = Unit {0}
AreWords (type ∷ types) (n ∷ ns) = IsWord type n × AreWords types ns
AreWords [] (n ∷ ns) = ⊥
AreWords (type ∷ types) [] = ⊥
