-- Opcodes that are written are read back, case by case.
use Rattle.std.proofs.Common.{◌≡◌, refl, Some}
use Rattle.syntax_trees.specs.declared.instr.NumericOp.{NumericOp}
use Rattle.syntax_trees.specs.declared.instr.NumericOp.TheVariants.{Eqz, Relation, Unary, Binary, WrapI64, ExtendI32S, ExtendI32U, I64Extend32S}
use Rattle.syntax_trees.specs.declared.instr.Width.{Width}
use Rattle.syntax_trees.specs.declared.instr.Width.TheVariants.{W32, W64}
use Rattle.syntax_trees.specs.declared.instr.RelationOp.{RelationOp}
use Rattle.syntax_trees.specs.declared.instr.RelationOp.TheVariants.{Eq, Ne, LtS, LtU, GtS, GtU, LeS, LeU, GeS, GeU}
use Rattle.syntax_trees.specs.declared.instr.BinaryOp.{BinaryOp}
use Rattle.syntax_trees.specs.declared.instr.BinaryOp.TheVariants.{Add, Sub, Mul, DivS, DivU, RemS, RemU, And, Or, Xor, Shl, ShrS, ShrU, Rotl, Rotr}
use Rattle.syntax_trees.specs.declared.instr.UnaryOp.{UnaryOp}
use Rattle.syntax_trees.specs.declared.instr.UnaryOp.TheVariants.{Clz, Ctz, Popcnt, Extend8S, Extend16S}
use Rattle.syntax_trees.specs.declared.instr.LoadOp.{LoadOp}
use Rattle.syntax_trees.specs.declared.instr.LoadOp.TheVariants.{I32Load, I64Load, I32Load8S, I32Load8U, I32Load16S, I32Load16U, I64Load8S, I64Load8U, I64Load16S, I64Load16U, I64Load32S, I64Load32U}
use Rattle.syntax_trees.specs.declared.instr.StoreOp.{StoreOp}
use Rattle.syntax_trees.specs.declared.instr.StoreOp.TheVariants.{I32Store, I64Store, I32Store8, I32Store16, I64Store8, I64Store16, I64Store32}
use Rattle.wasm_code_reader.specs.Opcodes.{numeric, load, store}
use Rattle.comp_make.specs.Opcodes.{numeric_opcode, load_opcode, store_opcode}

relation_read : (w : Width) (op : RelationOp) → numeric (numeric_opcode (Relation w op)) ≡ Some (Relation w op)
unfolding numeric
relation_read W32 Eq = refl
relation_read W32 Ne = refl
relation_read W32 LtS = refl
relation_read W32 LtU = refl
relation_read W32 GtS = refl
relation_read W32 GtU = refl
relation_read W32 LeS = refl
relation_read W32 LeU = refl
relation_read W32 GeS = refl
relation_read W32 GeU = refl
relation_read W64 Eq = refl
relation_read W64 Ne = refl
relation_read W64 LtS = refl
relation_read W64 LtU = refl
relation_read W64 GtS = refl
relation_read W64 GtU = refl
relation_read W64 LeS = refl
relation_read W64 LeU = refl
relation_read W64 GeS = refl
relation_read W64 GeU = refl

binary_read : (w : Width) (op : BinaryOp) → numeric (numeric_opcode (Binary w op)) ≡ Some (Binary w op)
unfolding numeric
binary_read W32 Add = refl
binary_read W32 Sub = refl
binary_read W32 Mul = refl
binary_read W32 DivS = refl
binary_read W32 DivU = refl
binary_read W32 RemS = refl
binary_read W32 RemU = refl
binary_read W32 And = refl
binary_read W32 Or = refl
binary_read W32 Xor = refl
binary_read W32 Shl = refl
binary_read W32 ShrS = refl
binary_read W32 ShrU = refl
binary_read W32 Rotl = refl
binary_read W32 Rotr = refl
binary_read W64 Add = refl
binary_read W64 Sub = refl
binary_read W64 Mul = refl
binary_read W64 DivS = refl
binary_read W64 DivU = refl
binary_read W64 RemS = refl
binary_read W64 RemU = refl
binary_read W64 And = refl
binary_read W64 Or = refl
binary_read W64 Xor = refl
binary_read W64 Shl = refl
binary_read W64 ShrS = refl
binary_read W64 ShrU = refl
binary_read W64 Rotl = refl
binary_read W64 Rotr = refl

unary_read : (w : Width) (op : UnaryOp) → numeric (numeric_opcode (Unary w op)) ≡ Some (Unary w op)
unfolding numeric
unary_read W32 Clz = refl
unary_read W32 Ctz = refl
unary_read W32 Popcnt = refl
unary_read W32 Extend8S = refl
unary_read W32 Extend16S = refl
unary_read W64 Clz = refl
unary_read W64 Ctz = refl
unary_read W64 Popcnt = refl
unary_read W64 Extend8S = refl
unary_read W64 Extend16S = refl

pub numeric_read : (op : NumericOp) → numeric (numeric_opcode op) ≡ Some op
unfolding numeric
numeric_read (Eqz W32) = refl
numeric_read (Eqz W64) = refl
numeric_read (Relation w op) = relation_read w op
numeric_read (Unary w op) = unary_read w op
numeric_read (Binary w op) = binary_read w op
numeric_read WrapI64 = refl
numeric_read ExtendI32S = refl
numeric_read ExtendI32U = refl
numeric_read I64Extend32S = refl

pub load_read : (op : LoadOp) → load (load_opcode op) ≡ Some op
unfolding load
load_read I32Load = refl
load_read I64Load = refl
load_read I32Load8S = refl
load_read I32Load8U = refl
load_read I32Load16S = refl
load_read I32Load16U = refl
load_read I64Load8S = refl
load_read I64Load8U = refl
load_read I64Load16S = refl
load_read I64Load16U = refl
load_read I64Load32S = refl
load_read I64Load32U = refl

pub store_read : (op : StoreOp) → store (store_opcode op) ≡ Some op
unfolding store
store_read I32Store = refl
store_read I64Store = refl
store_read I32Store8 = refl
store_read I32Store16 = refl
store_read I64Store8 = refl
store_read I64Store16 = refl
store_read I64Store32 = refl
