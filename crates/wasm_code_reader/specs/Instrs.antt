-- Instructions that hold no others, and types of those that do, in bytes (Core 2.0, section 5.4).
use Rattle.std.specs.Prelude.{ℕ, ℤ, pos, ◌^◌, Bool, ◌&&◌, nat_le, int_le, int_lt, nat_abs, [], ◌∷◌, Option, Some, None}
use Rattle.ca_base.specs.Grammar.{Grammar, Give, Refuse, Here, Next, Choose, ◌>>=◌}
use Rattle.ca_base.specs.Items.{u32, s32, s33, s64, marker, vec, byte_of}
use Rattle.ca_base.specs.Tables.{in_rows, giving}
use Rattle.syntax_trees.specs.declared.module_types.ValType.TheVariants.{I32, I64}
use Rattle.syntax_trees.specs.declared.instr.MemArg.{MemArg}
use Rattle.syntax_trees.specs.declared.instr.BlockType.{BlockType}
use Rattle.syntax_trees.specs.declared.instr.BlockType.TheVariants.{Empty, Value, TypeIndex}
use Rattle.syntax_trees.specs.declared.instr.Instr.{Instr}
use Rattle.syntax_trees.specs.declared.instr.Instr.TheVariants.{Unreachable, Nop, Br, BrIf, BrTable, Return, Call, CallIndirect, Drop, Select, SelectTyped, LocalGet, LocalSet, LocalTee, GlobalGet, GlobalSet, Load, Store, MemorySize, MemoryGrow, MemoryCopy, MemoryFill, I32Const, I64Const, Numeric}
use Rattle.wasm_code_reader.specs.declared.fault.ModuleWhy.{ModuleWhy}
use Rattle.wasm_code_reader.specs.Reasons.{numbers, reasons, byte_why}
use Rattle.wasm_code_reader.specs.Types.{val_type, type_why}
use Rattle.wasm_code_reader.specs.Opcodes.{numeric, load, store, opcode_why}

-- the type of a block that a byte at this place tells: 40 for none, or a value type
abbrev pub block_byte : ℕ → ℕ → Grammar ModuleWhy BlockType
block_byte place b =
    in_rows (
    (0x40, Give Empty)
    ∷ (0x7F, Give (Value I32))
    ∷ (0x7E, Give (Value I64))
    ∷ []) b (Refuse place (type_why b))

-- whether a number is an index
abbrev pub is_index : ℤ → Bool
is_index n = int_le (pos 0) n && int_lt n (pos (2 ^ 32))

-- The type of a block (section 5.4.1): a byte that tells it, or the index of a function type as s33. As s33 such bytes are
-- negative.
unfoldable pub block_type : Grammar ModuleWhy BlockType
block_type = do
  place ← Here
  first ← Next
  n ← s33 numbers
  Choose (is_index n) (Give (TypeIndex (nat_abs n))) (block_byte place (byte_of first))

-- the alignment and the offset of a memory access (section 5.4.6)
unfoldable pub memarg : Grammar ModuleWhy MemArg
memarg = do
  align ← u32 numbers
  offset ← u32 numbers
  Give (record { align = align; offset = offset })

-- a branch by a table (section 5.4.1): the labels, and the one behind them
unfoldable pub br_table : Grammar ModuleWhy Instr
br_table = do
  labels ← vec numbers (u32 numbers)
  last ← u32 numbers
  Give (BrTable labels last)

-- an indirect call: the index of its type, and that of its table
unfoldable pub call_indirect : Grammar ModuleWhy Instr
call_indirect = do
  type ← u32 numbers
  table ← u32 numbers
  Give (CallIndirect type table)

-- what stands behind the opcode of `memory.copy`, and behind that of `memory.fill`: the memories, which are 00
unfoldable pub memory_copy : Grammar ModuleWhy Instr
memory_copy = do
  _ ← marker reasons 0
  _ ← marker reasons 0
  Give MemoryCopy

unfoldable pub memory_fill : Grammar ModuleWhy Instr
memory_fill = do
  _ ← marker reasons 0
  Give MemoryFill

-- what stands behind FC: a number, of which 0 to 7 are instructions of floats
unfoldable pub prefixed : Grammar ModuleWhy Instr
prefixed = do
  place ← Here
  first ← Next
  number ← u32 numbers
  in_rows ((10, memory_copy) ∷ (11, memory_fill) ∷ []) number (Refuse place (byte_why (nat_le number 7) (byte_of first)))

-- the instruction of an operation, where there is one, and else another
abbrev pub or_else : {A : Type 0} → Option A → (A → Grammar ModuleWhy Instr) → Grammar ModuleWhy Instr → Grammar ModuleWhy Instr
or_else None f g = g
or_else (Some op) f g = f op

-- constants and other numeric instructions (section 5.4.7)
unfoldable pub numeric_instr : ℕ → ℕ → Grammar ModuleWhy Instr
numeric_instr place opcode =
    in_rows (
    (0x41, giving I32Const (s32 numbers))
    ∷ (0x42, giving I64Const (s64 numbers))
    ∷ []) opcode
    (or_else (numeric opcode) (λ op. Give (Numeric op)) (Refuse place (opcode_why opcode)))

-- instructions of memory (section 5.4.6), and the others
unfoldable pub memory_instr : ℕ → ℕ → Grammar ModuleWhy Instr
memory_instr place opcode =
    or_else (load opcode) (λ op. giving (Load op) memarg)
    (or_else (store opcode) (λ op. giving (Store op) memarg)
    (in_rows (
    (0x3F, giving (λ _. MemorySize) (marker reasons 0))
    ∷ (0x40, giving (λ _. MemoryGrow) (marker reasons 0))
    ∷ (0xFC, prefixed)
    ∷ []) opcode (numeric_instr place opcode)))

-- instructions of variables (section 5.4.4), and the others
unfoldable pub variable_instr : ℕ → ℕ → Grammar ModuleWhy Instr
variable_instr place opcode =
    in_rows (
    (0x20, giving LocalGet (u32 numbers))
    ∷ (0x21, giving LocalSet (u32 numbers))
    ∷ (0x22, giving LocalTee (u32 numbers))
    ∷ (0x23, giving GlobalGet (u32 numbers))
    ∷ (0x24, giving GlobalSet (u32 numbers))
    ∷ []) opcode (memory_instr place opcode)

-- the instruction of an opcode that stands at this place (section 5.4): those of control and of operands, and the others
unfoldable pub instr : ℕ → ℕ → Grammar ModuleWhy Instr
instr place opcode =
    in_rows (
    (0x00, Give Unreachable)
    ∷ (0x01, Give Nop)
    ∷ (0x0C, giving Br (u32 numbers))
    ∷ (0x0D, giving BrIf (u32 numbers))
    ∷ (0x0E, br_table)
    ∷ (0x0F, Give Return)
    ∷ (0x10, giving Call (u32 numbers))
    ∷ (0x11, call_indirect)
    ∷ (0x1A, Give Drop)
    ∷ (0x1B, Give Select)
    ∷ (0x1C, giving SelectTyped (vec numbers val_type))
    ∷ []) opcode (variable_instr place opcode)
