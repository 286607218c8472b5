-- The opcodes of instructions (Core 2.0, section 5.4).
use Rattle.std.specs.Prelude.{◌+◌, ℕ}
use Rattle.syntax_trees.specs.declared.instr.Instr.{Instr}
use Rattle.syntax_trees.specs.declared.instr.Instr.TheVariants.{Unreachable, Nop, Br, BrIf, BrTable, Return, Call, CallIndirect, Drop, Select, SelectTyped, LocalGet, LocalSet, LocalTee, GlobalGet, GlobalSet, Load, Store, MemorySize, MemoryGrow, MemoryCopy, MemoryFill, I32Const, I64Const, Numeric}
use Rattle.syntax_trees.specs.declared.instr.NumericOp.{NumericOp}
use Rattle.syntax_trees.specs.declared.instr.NumericOp.TheVariants.{Eqz, Relation, Unary, Binary, WrapI64, ExtendI32S, ExtendI32U, I64Extend32S}
use Rattle.syntax_trees.specs.declared.instr.Width.{Width}
use Rattle.syntax_trees.specs.declared.instr.Width.TheVariants.{W32, W64}
use Rattle.syntax_trees.specs.declared.instr.RelationOp.{RelationOp}
use Rattle.syntax_trees.specs.declared.instr.RelationOp.TheVariants.{Eq, Ne, LtS, LtU, GtS, GtU, LeS, LeU, GeS, GeU}
use Rattle.syntax_trees.specs.declared.instr.BinaryOp.{BinaryOp}
use Rattle.syntax_trees.specs.declared.instr.BinaryOp.TheVariants.{Add, Sub, Mul, DivS, DivU, RemS, RemU, And, Or, Xor, Shl, ShrS, ShrU, Rotl, Rotr}
use Rattle.syntax_trees.specs.declared.instr.UnaryOp.{UnaryOp}
use Rattle.syntax_trees.specs.declared.instr.UnaryOp.TheVariants.{Clz, Ctz, Popcnt, Extend8S, Extend16S}
use Rattle.syntax_trees.specs.declared.instr.LoadOp.{LoadOp}
use Rattle.syntax_trees.specs.declared.instr.LoadOp.TheVariants.{I32Load, I64Load, I32Load8S, I32Load8U, I32Load16S, I32Load16U, I64Load8S, I64Load8U, I64Load16S, I64Load16U, I64Load32S, I64Load32U}
use Rattle.syntax_trees.specs.declared.instr.StoreOp.{StoreOp}
use Rattle.syntax_trees.specs.declared.instr.StoreOp.TheVariants.{I32Store, I64Store, I32Store8, I32Store16, I64Store8, I64Store16, I64Store32}

-- how far a comparison stands behind the first one of its width
abbrev pub relation_at : RelationOp → ℕ
relation_at Eq = 0
relation_at Ne = 1
relation_at LtS = 2
relation_at LtU = 3
relation_at GtS = 4
relation_at GtU = 5
relation_at LeS = 6
relation_at LeU = 7
relation_at GeS = 8
relation_at GeU = 9

-- how far an operation of two integers stands behind the first one of its width
abbrev pub binary_at : BinaryOp → ℕ
binary_at Add = 0
binary_at Sub = 1
binary_at Mul = 2
binary_at DivS = 3
binary_at DivU = 4
binary_at RemS = 5
binary_at RemU = 6
binary_at And = 7
binary_at Or = 8
binary_at Xor = 9
binary_at Shl = 10
binary_at ShrS = 11
binary_at ShrU = 12
binary_at Rotl = 13
binary_at Rotr = 14

-- the opcode of an operation of one integer
abbrev pub unary_opcode : Width → UnaryOp → ℕ
unary_opcode W32 Clz = 0x67
unary_opcode W32 Ctz = 0x68
unary_opcode W32 Popcnt = 0x69
unary_opcode W32 Extend8S = 0xC0
unary_opcode W32 Extend16S = 0xC1
unary_opcode W64 Clz = 0x79
unary_opcode W64 Ctz = 0x7A
unary_opcode W64 Popcnt = 0x7B
unary_opcode W64 Extend8S = 0xC2
unary_opcode W64 Extend16S = 0xC3

-- numeric instructions (section 5.4.7)
abbrev pub numeric_opcode : NumericOp → ℕ
numeric_opcode (Eqz W32) = 0x45
numeric_opcode (Eqz W64) = 0x50
numeric_opcode (Relation W32 op) = 0x46 + relation_at op
numeric_opcode (Relation W64 op) = 0x51 + relation_at op
numeric_opcode (Unary w op) = unary_opcode w op
numeric_opcode (Binary W32 op) = 0x6A + binary_at op
numeric_opcode (Binary W64 op) = 0x7C + binary_at op
numeric_opcode WrapI64 = 0xA7
numeric_opcode ExtendI32S = 0xAC
numeric_opcode ExtendI32U = 0xAD
numeric_opcode I64Extend32S = 0xC4

-- loads and stores (section 5.4.6)
abbrev pub load_opcode : LoadOp → ℕ
load_opcode I32Load = 0x28
load_opcode I64Load = 0x29
load_opcode I32Load8S = 0x2C
load_opcode I32Load8U = 0x2D
load_opcode I32Load16S = 0x2E
load_opcode I32Load16U = 0x2F
load_opcode I64Load8S = 0x30
load_opcode I64Load8U = 0x31
load_opcode I64Load16S = 0x32
load_opcode I64Load16U = 0x33
load_opcode I64Load32S = 0x34
load_opcode I64Load32U = 0x35

abbrev pub store_opcode : StoreOp → ℕ
store_opcode I32Store = 0x36
store_opcode I64Store = 0x37
store_opcode I32Store8 = 0x3A
store_opcode I32Store16 = 0x3B
store_opcode I64Store8 = 0x3C
store_opcode I64Store16 = 0x3D
store_opcode I64Store32 = 0x3E

-- the first byte of an instruction that holds no others: FC is that of two bulk instructions
unfoldable pub opcode : Instr → ℕ
opcode Unreachable = 0x00
opcode Nop = 0x01
opcode (Br label) = 0x0C
opcode (BrIf label) = 0x0D
opcode (BrTable labels last) = 0x0E
opcode Return = 0x0F
opcode (Call index) = 0x10
opcode (CallIndirect type table) = 0x11
opcode Drop = 0x1A
opcode Select = 0x1B
opcode (SelectTyped types) = 0x1C
opcode (LocalGet index) = 0x20
opcode (LocalSet index) = 0x21
opcode (LocalTee index) = 0x22
opcode (GlobalGet index) = 0x23
opcode (GlobalSet index) = 0x24
opcode (Load op arg) = load_opcode op
opcode (Store op arg) = store_opcode op
opcode MemorySize = 0x3F
opcode MemoryGrow = 0x40
opcode MemoryCopy = 0xFC
opcode MemoryFill = 0xFC
opcode (I32Const value) = 0x41
opcode (I64Const value) = 0x42
opcode (Numeric op) = numeric_opcode op
