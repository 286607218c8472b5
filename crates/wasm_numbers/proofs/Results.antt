-- Operands of an instruction's types are taken, and its result is of its type.
use Rattle.std.proofs.Common.{ℕ, ◌+◌, ◌-◌, ◌*◌, ◌/◌, ◌%◌, ◌^◌, ◌<◌, ◌≤◌, Bool, true, false, List, [], ◌∷◌, Option, Some, None, Result, Ok, Err, refl, arith, subst, le_trans, lt_of_le_of_lt, div-le_self}
use Rattle.std.proofs.lemmas.Nat.{pow_pos, mod_below, and_le_l, or_lt, xor_lt, leading_le, trailing_le, ones-le}
use Rattle.std.specs.Prelude.{IsSome, if◌then◌else◌, ◌==◌, bit_or}
use Rattle.std.specs.Int.{Width as Bits, w8, w16, w32, w64, cast_signed}
use native.Mathlib.Nat.{mod-le}
use mir.Val.{bits}
use Rattle.syntax_trees.specs.declared.module_types.ValType.{ValType}
use Rattle.syntax_trees.specs.declared.module_types.ValType.TheVariants.{I32, I64}
use Rattle.syntax_trees.specs.declared.instr.Width.TheVariants.{W32, W64}
use Rattle.syntax_trees.specs.declared.instr.UnaryOp.{UnaryOp}
use Rattle.syntax_trees.specs.declared.instr.UnaryOp.TheVariants.{Clz, Ctz, Popcnt, Extend8S, Extend16S}
use Rattle.syntax_trees.specs.declared.instr.BinaryOp.{BinaryOp}
use Rattle.syntax_trees.specs.declared.instr.BinaryOp.TheVariants.{Add, Sub, Mul, DivS, DivU, RemS, RemU, And, Or, Xor, Shl, ShrS, ShrU, Rotl, Rotr}
use Rattle.syntax_trees.specs.declared.instr.NumericOp.{NumericOp}
use Rattle.syntax_trees.specs.declared.instr.NumericOp.TheVariants.{Eqz, Relation, Unary, Binary, WrapI64, ExtendI32S, ExtendI32U, I64Extend32S}
use Rattle.wasm_numbers.specs.declared.trap.NumberTrap.{NumberTrap}
use Rattle.wasm_numbers.specs.Numeric.{width_of, has_no_quotient, binary, unary, relation, truth, evaluated}
use Rattle.wasm_numbers.specs.Types.{integer, operand_types, result_type, IsWord, AreWords}
use Rattle.wasm_numbers.specs.Laws.{OperandsAreTaken, ResultsHaveTheirType}
use Rattle.wasm_numbers.proofs.Bounds.{quotient_below, remainder_below, shift_below, extended_below}

-- a result below 2 ^ bits w, or a trap
abbrev pub Below : Bits → Result ℕ NumberTrap → Type 0
Below w (Ok value) = value < 2 ^ bits w
Below w (Err trap) = Unit {0}

either_below : (w : Bits) (b : Bool) (x y : Result ℕ NumberTrap) → Below w x → Below w y → Below w (if b then x else y)
either_below w true x y p q = p
either_below w false x y p q = q

-- the high part of a number below the low part of another one, or the other way round
turned_below : (w : Bits) (a b n : ℕ) → n < 2 ^ bits w → (bit_or (a % 2 ^ bits w) (n / b) < 2 ^ bits w) × (bit_or (n / b) (a % 2 ^ bits w) < 2 ^ bits w)
turned_below w a b n h =
    let low : a % 2 ^ bits w < 2 ^ bits w = mod_below a (2 ^ bits w) (pow_pos (bits w)) in
    let high : n / b < 2 ^ bits w = lt_of_le_of_lt (div-le_self n b) h in
    (or_lt (bits w) (a % 2 ^ bits w) (n / b) low high, or_lt (bits w) (n / b) (a % 2 ^ bits w) high low)

binary_below : (w : Bits) (op : BinaryOp) (a b : ℕ) → a < 2 ^ bits w → b < 2 ^ bits w → Below w (binary w op a b)
binary_below w Add a b p q = mod_below (a + b) (2 ^ bits w) (pow_pos (bits w))
binary_below w Sub a b p q = mod_below (a + (2 ^ bits w - b)) (2 ^ bits w) (pow_pos (bits w))
binary_below w Mul a b p q = mod_below (a * b) (2 ^ bits w) (pow_pos (bits w))
binary_below w DivS a b p q =
    either_below w (b == 0) _ _ tt
    (either_below w (has_no_quotient w a b) _ _ tt (quotient_below w a (cast_signed w b) p))
binary_below w DivU a b p q = either_below w (b == 0) _ _ tt (lt_of_le_of_lt (div-le_self a b) p)
binary_below w RemS a b p q = either_below w (b == 0) _ _ tt (remainder_below w a (cast_signed w b) p)
binary_below w RemU a b p q = either_below w (b == 0) _ _ tt (lt_of_le_of_lt (mod-le a b) p)
binary_below w And a b p q = lt_of_le_of_lt (and_le_l a b) p
binary_below w Or a b p q = or_lt (bits w) a b p q
binary_below w Xor a b p q = xor_lt (bits w) a b p q
binary_below w Shl a b p q = mod_below (a * 2 ^ (b % bits w)) (2 ^ bits w) (pow_pos (bits w))
binary_below w ShrS a b p q = shift_below w a (b % bits w) p
binary_below w ShrU a b p q = lt_of_le_of_lt (div-le_self a (2 ^ (b % bits w))) p
binary_below w Rotl a b p q = (turned_below w (a * 2 ^ (b % bits w)) (2 ^ ((bits w - b % bits w) % bits w)) a p).0
binary_below w Rotr a b p q = (turned_below w (a * 2 ^ ((bits w - b % bits w) % bits w)) (2 ^ (b % bits w)) a p).1

-- a width from 32 bits on
record IsWide (w : Bits) : Type 0 where
  small : bits w < 2 ^ bits w
  wide : 2 ^ 32 ≤ 2 ^ bits w

unary_below : (w : Bits) (op : UnaryOp) (a : ℕ) → IsWide w → a < 2 ^ bits w → unary w op a < 2 ^ bits w
unary_below w Clz a s p = lt_of_le_of_lt (leading_le (bits w) a) s.small
unary_below w Ctz a s p = lt_of_le_of_lt (trailing_le (bits w) a) s.small
unary_below w Popcnt a s p = lt_of_le_of_lt (ones-le (bits w) a p) s.small
unary_below w Extend8S a s p = let k : 2 ^ bits w8 ≤ 2 ^ 32 = omega arith in extended_below w8 w a (le_trans k s.wide)
unary_below w Extend16S a s p = let k : 2 ^ bits w16 ≤ 2 ^ 32 = omega arith in extended_below w16 w a (le_trans k s.wide)

wide_32 : IsWide w32
wide_32 = record { small = omega arith; wide = omega arith }

wide_64 : IsWide w64
wide_64 = record { small = omega arith; wide = omega arith }

truth_below : (t : Bool) → truth t < 2 ^ 32
truth_below true = omega arith
truth_below false = omega arith

-- a result of a type, a trap, or nothing
abbrev Gives : ValType → Option (Result ℕ NumberTrap) → Type 0
Gives type None = Unit {0}
Gives type (Some (Ok value)) = IsWord type value
Gives type (Some (Err trap)) = Unit {0}

gives_32 : (r : Result ℕ NumberTrap) → Below w32 r → Gives I32 (Some r)
gives_32 (Ok value) h = h
gives_32 (Err trap) h = tt

gives_64 : (r : Result ℕ NumberTrap) → Below w64 r → Gives I64 (Some r)
gives_64 (Ok value) h = h
gives_64 (Err trap) h = tt

-- operands of one type, and of two
by_one : (type : ValType) (P : List ℕ → Type 0) → ((a : ℕ) → IsWord type a → P (a ∷ [])) → (operands : List ℕ) → AreWords (type ∷ []) operands → P operands
by_one type P each [] h = absurd h
by_one type P each (a ∷ []) h = each a h.0
by_one type P each (a ∷ b ∷ rest) h = absurd h.1

by_two : (type : ValType) (P : List ℕ → Type 0) → ((a b : ℕ) → IsWord type a → IsWord type b → P (a ∷ b ∷ [])) → (operands : List ℕ) → AreWords (type ∷ type ∷ []) operands → P operands
by_two type P each [] h = absurd h
by_two type P each (a ∷ []) h = absurd h.1
by_two type P each (a ∷ b ∷ []) h = each a b h.0 h.1.0
by_two type P each (a ∷ b ∷ c ∷ rest) h = absurd h.1.1

gives : (op : NumericOp) (operands : List ℕ) → AreWords (operand_types op) operands → Gives (result_type op) (evaluated op operands)
gives (Eqz width) = by_one (integer width) (λ xs. Gives I32 (evaluated (Eqz width) xs)) (λ a p. truth_below (a == 0))
gives (Relation width op) =
    by_two (integer width) (λ xs. Gives I32 (evaluated (Relation width op) xs)) (λ a b p q. truth_below (relation (width_of width) op a b))
gives (Unary W32 op) = by_one I32 (λ xs. Gives I32 (evaluated (Unary W32 op) xs)) (λ a p. unary_below w32 op a wide_32 p)
gives (Unary W64 op) = by_one I64 (λ xs. Gives I64 (evaluated (Unary W64 op) xs)) (λ a p. unary_below w64 op a wide_64 p)
gives (Binary W32 op) = by_two I32 (λ xs. Gives I32 (evaluated (Binary W32 op) xs)) (λ a b p q. gives_32 (binary w32 op a b) (binary_below w32 op a b p q))
gives (Binary W64 op) = by_two I64 (λ xs. Gives I64 (evaluated (Binary W64 op) xs)) (λ a b p q. gives_64 (binary w64 op a b) (binary_below w64 op a b p q))
gives WrapI64 = by_one I64 (λ xs. Gives I32 (evaluated WrapI64 xs)) (λ a p. mod_below a (2 ^ 32) (pow_pos 32))
gives ExtendI32S = by_one I32 (λ xs. Gives I64 (evaluated ExtendI32S xs)) (λ a p. extended_below w32 w64 a wide_64.wide)
gives ExtendI32U = by_one I32 (λ xs. Gives I64 (evaluated ExtendI32U xs)) (λ a p. omega arith)
gives I64Extend32S = by_one I64 (λ xs. Gives I64 (evaluated I64Extend32S xs)) (λ a p. extended_below w32 w64 a wide_64.wide)

pub results_typed : ResultsHaveTheirType
results_typed op operands value words e = subst (Gives (result_type op)) e (gives op operands words)

pub operands_taken : OperandsAreTaken
operands_taken (Eqz width) = by_one (integer width) (λ xs. IsSome (evaluated (Eqz width) xs)) (λ a p. refl)
operands_taken (Relation width op) = by_two (integer width) (λ xs. IsSome (evaluated (Relation width op) xs)) (λ a b p q. refl)
operands_taken (Unary width op) = by_one (integer width) (λ xs. IsSome (evaluated (Unary width op) xs)) (λ a p. refl)
operands_taken (Binary width op) = by_two (integer width) (λ xs. IsSome (evaluated (Binary width op) xs)) (λ a b p q. refl)
operands_taken WrapI64 = by_one I64 (λ xs. IsSome (evaluated WrapI64 xs)) (λ a p. refl)
operands_taken ExtendI32S = by_one I32 (λ xs. IsSome (evaluated ExtendI32S xs)) (λ a p. refl)
operands_taken ExtendI32U = by_one I32 (λ xs. IsSome (evaluated ExtendI32U xs)) (λ a p. refl)
operands_taken I64Extend32S = by_one I64 (λ xs. IsSome (evaluated I64Extend32S xs)) (λ a p. refl)
