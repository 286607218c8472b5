-- Numeric instructions (Core 2.0, section 4.3.2), for both widths. A value of w bits is a number below 2 ^ bits w; its
-- signed view is `cast_signed w`, and the value of a signed view `cast_unsigned w`.
use Rattle.std.specs.Prelude.{ℕ, ◌+◌, ◌-◌, ◌*◌, ◌/◌, ◌%◌, ◌^◌, Bool, true, false, not, ◌&&◌, ◌==◌, nat_lt, nat_le, if◌then◌else◌, List, [], ◌∷◌, Option, Some, None, Result, Ok, Err, bit_and, bit_or, bit_xor, count_ones, int_lt, int_le, int_div, int_rem}
use Rattle.std.specs.Int.{Width as Bits, w8, w16, w32, w64, cast_signed, cast_unsigned, rotate_left, rotate_right, leading_zeros, trailing_zeros, int_shr}
use mir.Val.{bits, hbits}
use Rattle.wasm_numbers.specs.declared.trap.NumberTrap.{NumberTrap}
use Rattle.wasm_numbers.specs.declared.trap.NumberTrap.TheVariants.{DivideByZero, DivideOverflow}
use Rattle.syntax_trees.specs.declared.instr.Width.{Width}
use Rattle.syntax_trees.specs.declared.instr.Width.TheVariants.{W32, W64}
use Rattle.syntax_trees.specs.declared.instr.UnaryOp.{UnaryOp}
use Rattle.syntax_trees.specs.declared.instr.UnaryOp.TheVariants.{Clz, Ctz, Popcnt, Extend8S, Extend16S}
use Rattle.syntax_trees.specs.declared.instr.BinaryOp.{BinaryOp}
use Rattle.syntax_trees.specs.declared.instr.BinaryOp.TheVariants.{Add, Sub, Mul, DivS, DivU, RemS, RemU, And, Or, Xor, Shl, ShrS, ShrU, Rotl, Rotr}
use Rattle.syntax_trees.specs.declared.instr.RelationOp.{RelationOp}
use Rattle.syntax_trees.specs.declared.instr.RelationOp.TheVariants.{Eq, Ne, LtS, LtU, GtS, GtU, LeS, LeU, GeS, GeU}
use Rattle.syntax_trees.specs.declared.instr.NumericOp.{NumericOp}
use Rattle.syntax_trees.specs.declared.instr.NumericOp.TheVariants.{Eqz, Relation, Unary, Binary, WrapI64, ExtendI32S, ExtendI32U, I64Extend32S}

-- a width as std has it
abbrev pub width_of : Width → Bits
width_of W32 = w32
width_of W64 = w64

-- a and b are the least signed number and -1, whose quotient is no signed number of w bits
abbrev pub has_no_quotient : Bits → ℕ → ℕ → Bool
has_no_quotient w a b = a == 2 ^ hbits w && b == 2 ^ bits w - 1

-- the quotient of two signed numbers, rounded toward 0, and that of two unsigned ones
abbrev pub div_s : Bits → ℕ → ℕ → Result ℕ NumberTrap
div_s w a b =
    if b == 0 then Err DivideByZero
    else (if has_no_quotient w a b then Err DivideOverflow
    else Ok (cast_unsigned w (int_div (cast_signed w a) (cast_signed w b))))

abbrev pub div_u : ℕ → ℕ → Result ℕ NumberTrap
div_u a b = if b == 0 then Err DivideByZero else Ok (a / b)

-- the remainder of two signed numbers, with the sign of the first, and that of two unsigned ones
abbrev pub rem_s : Bits → ℕ → ℕ → Result ℕ NumberTrap
rem_s w a b = if b == 0 then Err DivideByZero else Ok (cast_unsigned w (int_rem (cast_signed w a) (cast_signed w b)))

abbrev pub rem_u : ℕ → ℕ → Result ℕ NumberTrap
rem_u a b = if b == 0 then Err DivideByZero else Ok (a % b)

-- an operation of two integers
abbrev pub binary : Bits → BinaryOp → ℕ → ℕ → Result ℕ NumberTrap
binary w Add a b = Ok ((a + b) % 2 ^ bits w)
binary w Sub a b = Ok ((a + (2 ^ bits w - b)) % 2 ^ bits w)
binary w Mul a b = Ok ((a * b) % 2 ^ bits w)
binary w DivS a b = div_s w a b
binary w DivU a b = div_u a b
binary w RemS a b = rem_s w a b
binary w RemU a b = rem_u a b
binary w And a b = Ok (bit_and a b)
binary w Or a b = Ok (bit_or a b)
binary w Xor a b = Ok (bit_xor a b)
binary w Shl a b = Ok ((a * 2 ^ (b % bits w)) % 2 ^ bits w)
binary w ShrS a b = Ok (cast_unsigned w (int_shr (cast_signed w a) (b % bits w)))
binary w ShrU a b = Ok (a / 2 ^ (b % bits w))
binary w Rotl a b = Ok (rotate_left w a b)
binary w Rotr a b = Ok (rotate_right w a b)

-- the number of w bits that is the same signed number as the lowest v bits of a
abbrev pub extended : Bits → Bits → ℕ → ℕ
extended v w a = cast_unsigned w (cast_signed v (a % 2 ^ bits v))

-- an operation of one integer
abbrev pub unary : Bits → UnaryOp → ℕ → ℕ
unary w Clz a = leading_zeros w a
unary w Ctz a = trailing_zeros w a
unary w Popcnt a = count_ones a
unary w Extend8S a = extended w8 w a
unary w Extend16S a = extended w16 w a

-- a comparison of two integers
abbrev pub relation : Bits → RelationOp → ℕ → ℕ → Bool
relation w Eq a b = a == b
relation w Ne a b = not (a == b)
relation w LtS a b = int_lt (cast_signed w a) (cast_signed w b)
relation w LtU a b = nat_lt a b
relation w GtS a b = int_lt (cast_signed w b) (cast_signed w a)
relation w GtU a b = nat_lt b a
relation w LeS a b = int_le (cast_signed w a) (cast_signed w b)
relation w LeU a b = nat_le a b
relation w GeS a b = int_le (cast_signed w b) (cast_signed w a)
relation w GeU a b = nat_le b a

-- what a test gives: 1 or 0
abbrev pub truth : Bool → ℕ
truth true = 1
truth false = 0

-- What an instruction makes of its operands, in order: its result, or a trap. None where they are others in number.
abbrev pub evaluated : NumericOp → List ℕ → Option (Result ℕ NumberTrap)
evaluated (Eqz width) (a ∷ []) = Some (Ok (truth (a == 0)))
evaluated (Relation width op) (a ∷ b ∷ []) = Some (Ok (truth (relation (width_of width) op a b)))
evaluated (Unary width op) (a ∷ []) = Some (Ok (unary (width_of width) op a))
evaluated (Binary width op) (a ∷ b ∷ []) = Some (binary (width_of width) op a b)
evaluated WrapI64 (a ∷ []) = Some (Ok (a % 2 ^ 32))
evaluated ExtendI32S (a ∷ []) = Some (Ok (extended w32 w64 a))
evaluated ExtendI32U (a ∷ []) = Some (Ok a)
evaluated I64Extend32S (a ∷ []) = Some (Ok (extended w32 w64 a))
evaluated _ _ = None
