-- Instructions in bytes (Core 2.0, section 5.4).
use Rattle.std.specs.Prelude.{ℕ, pos, List, [], ◌∷◌, ◌++◌}
use Rattle.std.specs.List.{flat_map}
use Rattle.syntax_trees.specs.declared.instr.Instr.{Instr}
use Rattle.syntax_trees.specs.declared.instr.Instr.TheVariants.{Unreachable, Nop, Br, BrIf, BrTable, Return, Call, CallIndirect, Drop, Select, SelectTyped, LocalGet, LocalSet, LocalTee, GlobalGet, GlobalSet, Load, Store, MemorySize, MemoryGrow, MemoryCopy, MemoryFill, I32Const, I64Const, Numeric}
use Rattle.syntax_trees.specs.declared.instr.MemArg.{MemArg}
use Rattle.syntax_trees.specs.declared.instr.BlockType.{BlockType}
use Rattle.syntax_trees.specs.declared.instr.BlockType.TheVariants.{Empty, Value, TypeIndex}
use Rattle.syntax_trees.specs.declared.instr.Op.{Op}
use Rattle.syntax_trees.specs.declared.instr.Op.TheVariants.{Plain, OpenBlock, OpenLoop, OpenIf, Else, End}
use Rattle.syntax_trees.specs.declared.instr.ConstInstr.{ConstInstr}
use Rattle.syntax_trees.specs.declared.instr.ConstInstr.TheVariants as const_instr
use Rattle.comp_make.specs.Numbers.{unsigned_bytes, signed_bytes}
use Rattle.comp_make.specs.Lists.{vec_bytes}
use Rattle.comp_make.specs.Types.{val_type_byte, val_type_bytes}
use Rattle.comp_make.specs.Opcodes.{opcode}

-- what a load or a store says of its address (section 5.4.6)
abbrev pub memarg_bytes : MemArg → List ℕ
memarg_bytes arg = unsigned_bytes arg.align ++ unsigned_bytes arg.offset

-- what stands behind the first byte of an instruction: a memory is 00, and FC has a number behind it
unfoldable pub immediates : Instr → List ℕ
immediates Unreachable = []
immediates Nop = []
immediates (Br label) = unsigned_bytes label
immediates (BrIf label) = unsigned_bytes label
immediates (BrTable labels last) = vec_bytes unsigned_bytes labels ++ unsigned_bytes last
immediates Return = []
immediates (Call index) = unsigned_bytes index
immediates (CallIndirect type table) = unsigned_bytes type ++ unsigned_bytes table
immediates Drop = []
immediates Select = []
immediates (SelectTyped types) = vec_bytes val_type_bytes types
immediates (LocalGet index) = unsigned_bytes index
immediates (LocalSet index) = unsigned_bytes index
immediates (LocalTee index) = unsigned_bytes index
immediates (GlobalGet index) = unsigned_bytes index
immediates (GlobalSet index) = unsigned_bytes index
immediates (Load op arg) = memarg_bytes arg
immediates (Store op arg) = memarg_bytes arg
immediates MemorySize = 0x00 ∷ []
immediates MemoryGrow = 0x00 ∷ []
immediates MemoryCopy = 0x0A ∷ 0x00 ∷ 0x00 ∷ []
immediates MemoryFill = 0x0B ∷ 0x00 ∷ []
immediates (I32Const value) = signed_bytes value
immediates (I64Const value) = signed_bytes value
immediates (Numeric op) = []

-- an instruction that holds no others
abbrev pub instr_bytes : Instr → List ℕ
instr_bytes instr = opcode instr ∷ immediates instr

-- the type of a block (section 5.4.1): 40 for none, a value type, or the index of a type as a signed number
abbrev pub block_type_bytes : BlockType → List ℕ
block_type_bytes Empty = 0x40 ∷ []
block_type_bytes (Value type) = val_type_byte type ∷ []
block_type_bytes (TypeIndex index) = signed_bytes (pos index)

-- what stands in flat code
abbrev pub op_bytes : Op → List ℕ
op_bytes (Plain instr) = instr_bytes instr
op_bytes (OpenBlock type) = 0x02 ∷ block_type_bytes type
op_bytes (OpenLoop type) = 0x03 ∷ block_type_bytes type
op_bytes (OpenIf type) = 0x04 ∷ block_type_bytes type
op_bytes Else = 0x05 ∷ []
op_bytes End = 0x0B ∷ []

-- an instruction of a constant expression
abbrev pub const_instr_bytes : ConstInstr → List ℕ
const_instr_bytes (const_instr.I32Const value) = 0x41 ∷ signed_bytes value
const_instr_bytes (const_instr.I64Const value) = 0x42 ∷ signed_bytes value
const_instr_bytes (const_instr.GlobalGet index) = 0x23 ∷ unsigned_bytes index

-- a constant expression, with its end (section 5.4.9)
abbrev pub const_expr_bytes : List ConstInstr → List ℕ
const_expr_bytes instrs = flat_map const_instr_bytes instrs ++ 0x0B ∷ []
