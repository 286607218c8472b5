-- Constant expressions in bytes (Core 2.0, sections 3.3.10 and 5.4.9).
use Rattle.std.specs.Prelude.{ℕ, zero, suc, ◌==◌, [], ◌∷◌, nat_le}
use Rattle.ca_base.specs.Grammar.{Grammar, Give, Refuse, Here, Left, Next, Byte, Choose, ◌>>=◌}
use Rattle.ca_base.specs.Items.{u32, s32, s64, byte_of}
use Rattle.ca_base.specs.Tables.{in_rows, giving}
use Rattle.syntax_trees.specs.declared.instr.ConstInstr.{ConstInstr}
use Rattle.syntax_trees.specs.declared.instr.ConstInstr.TheVariants.{I32Const, I64Const, GlobalGet}
use Rattle.wasm_code_reader.specs.declared.consts.PlacedConst.{PlacedConst}
use Rattle.wasm_code_reader.specs.declared.fault.ModuleWhy.{ModuleWhy}
use Rattle.wasm_code_reader.specs.declared.fault.ModuleWhy.TheVariants.{Unsupported}
use Rattle.wasm_code_reader.specs.Opcodes.{opcode_why}
use Rattle.wasm_code_reader.specs.Reasons.{numbers, byte_why}

-- What stands behind FC: a number. None of its instructions is constant, and 0 to 7 are instructions of floats.
unfoldable pub const_prefixed : Grammar ModuleWhy ConstInstr
const_prefixed = do
  place ← Here
  first ← Next
  number ← u32 numbers
  Refuse place (byte_why (nat_le number 7) (byte_of first))

-- the constant instruction of an opcode that stands at this place (section 3.3.10)
unfoldable pub const_instr : ℕ → ℕ → Grammar ModuleWhy ConstInstr
const_instr place opcode =
    in_rows (
    (0x23, giving GlobalGet (u32 numbers))
    ∷ (0x41, giving I32Const (s32 numbers))
    ∷ (0x42, giving I64Const (s64 numbers))
    ∷ (0xFC, const_prefixed)
    ∷ []) opcode (Refuse place (opcode_why opcode))

-- constant instructions up to an end, in at most so many bytes, and the place of each and of the end
unfoldable pub consts : ℕ → Grammar ModuleWhy PlacedConst
consts zero = do
  place ← Here
  b ← Byte
  Refuse place (Unsupported b)
consts (suc count) = do
  place ← Here
  opcode ← Byte
  Choose (opcode == 0x0B) (Give (record { instrs = []; places = place ∷ [] })) (do
    first ← const_instr place opcode
    rest ← consts count
    Give (record { instrs = first ∷ rest.instrs; places = place ∷ rest.places }))

-- a constant expression (section 5.4.9), as far as the bytes go
unfoldable pub const_expr : Grammar ModuleWhy PlacedConst
const_expr = do
  count ← Left
  consts count
