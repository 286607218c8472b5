-- Numeric instructions over values, the last one first (Core 2.0, section 4.4.1).
use Rattle.std.specs.Prelude.{◌≡◌, ℕ, Bool, true, false, if◌then◌else◌, List, [], ◌∷◌, Option, None, Result, Ok, Err}
use Rattle.std.specs.Option.{option_map}
use Rattle.wasm_numbers.specs.declared.trap.NumberTrap.{NumberTrap}
use Rattle.syntax_trees.specs.declared.instr.NumericOp.{NumericOp}
use Rattle.syntax_trees.specs.declared.instr.NumericOp.TheVariants.{Relation, Binary}
use Rattle.wasm_numbers.specs.Numeric.{evaluated}
use Rattle.wasm_numbers.specs.Types.{AreWords, operand_types}

-- an instruction takes two operands, and not one
abbrev pub takes_two : NumericOp → Bool
takes_two (Relation width op) = true
takes_two (Binary width op) = true
takes_two _ = false

-- a result on top of the values below the operands, or a trap
abbrev pub onto : List ℕ → Result ℕ NumberTrap → Result (List ℕ) NumberTrap
onto below (Ok value) = Ok (value ∷ below)
onto below (Err trap) = Err trap

-- what is made of the last value, and of the last two
abbrev pub over_one : NumericOp → List ℕ → Option (Result (List ℕ) NumberTrap)
over_one op (a ∷ below) = option_map (onto below) (evaluated op (a ∷ []))
over_one op [] = None

abbrev pub over_two : NumericOp → List ℕ → Option (Result (List ℕ) NumberTrap)
over_two op (b ∷ a ∷ below) = option_map (onto below) (evaluated op (a ∷ b ∷ []))
over_two op (b ∷ []) = None
over_two op [] = None

-- what an instruction makes of values: its result in place of its operands, or a trap; None where there are too few
abbrev pub applied : NumericOp → List ℕ → Option (Result (List ℕ) NumberTrap)
applied op values = if takes_two op then over_two op values else over_one op values

-- the values that a call leaves, or its trap
abbrev pub outcome : {X : Type 0} → Result X NumberTrap → List ℕ → Result (List ℕ) NumberTrap
outcome (Ok _) values = Ok values
outcome (Err trap) values = Err trap

-- values that begin with the one operand of an instruction, and with its two
pub record HasOne (op : NumericOp) (values : List ℕ) : Type 0 where
  pub a : ℕ
  pub below : List ℕ
  pub are : values ≡ a ∷ below
  pub words : AreWords (operand_types op) (a ∷ [])

pub record HasTwo (op : NumericOp) (values : List ℕ) : Type 0 where
  pub b : ℕ
  pub a : ℕ
  pub below : List ℕ
  pub are : values ≡ b ∷ a ∷ below
  pub words : AreWords (operand_types op) (a ∷ b ∷ [])

abbrev pub HasSo : Bool → NumericOp → List ℕ → Type 0
HasSo true op values = HasTwo op values
HasSo false op values = HasOne op values

-- values that begin with the operands of an instruction
abbrev pub HasOperands : NumericOp → List ℕ → Type 0
HasOperands op values = HasSo (takes_two op) op values
