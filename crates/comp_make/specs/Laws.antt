-- What holds of the bytes alone: what is written of a number or an opcode is read back.
use Rattle.std.specs.Prelude.{◌≡◌, ◌+◌, ◌^◌, ◌<◌, ◌++◌, ℕ, ℤ, pos, negsuc, List, length, Ok, Some}
use Rattle.ca_base.specs.Span.{Span}
use Rattle.ca_base.specs.Grammar.{Grammar, read}
use Rattle.ca_base.specs.Items.{u32}
use Rattle.wasm_code_reader.specs.declared.fault.ModuleWhy.{ModuleWhy}
use Rattle.syntax_trees.specs.declared.instr.NumericOp.{NumericOp}
use Rattle.syntax_trees.specs.declared.instr.LoadOp.{LoadOp}
use Rattle.syntax_trees.specs.declared.instr.StoreOp.{StoreOp}
use Rattle.wasm_code_reader.specs.Reasons.{numbers}
use Rattle.wasm_code_reader.specs.Opcodes.{numeric, load, store}
use Rattle.comp_make.specs.Numbers.{unsigned_bytes, signed_bytes}
use Rattle.comp_make.specs.Opcodes.{numeric_opcode, load_opcode, store_opcode}

abbrev pub span : List ℕ → ℕ → ModuleWhy → Span ModuleWhy
span bytes at past = record { bytes = bytes; at = at; past = past }

-- In front of any other bytes, these bytes are read as x, and the others are left.
abbrev pub IsRead : {A : Type 0} → Grammar ModuleWhy A → A → List ℕ → Type 0
IsRead grammar x bytes =
    (rest : List ℕ) (at : ℕ) (past : ModuleWhy) → read grammar (span (bytes ++ rest) at past) ≡ Ok (x, span rest (at + length bytes) past)

-- a number of 32 bits that is not signed
abbrev pub UnsignedIsRead : Type 0
UnsignedIsRead = (n : ℕ) → n < 2 ^ 32 → IsRead (u32 numbers) n (unsigned_bytes n)

-- whether a number fits so many bits and a sign, of which this is how many numbers are not negative
abbrev pub FitsSign : ℕ → ℤ → Type 0
FitsSign top (pos n) = n < top
FitsSign top (negsuc n) = n < top

-- signed numbers of 32, 33 and 64 bits
abbrev pub SignedIsRead : Grammar ModuleWhy ℤ → ℕ → Type 0
SignedIsRead grammar top = (n : ℤ) → FitsSign top n → IsRead grammar n (signed_bytes n)

-- opcodes stand for their instructions
abbrev pub NumericIsRead : Type 0
NumericIsRead = (op : NumericOp) → numeric (numeric_opcode op) ≡ Some op

abbrev pub LoadIsRead : Type 0
LoadIsRead = (op : LoadOp) → load (load_opcode op) ≡ Some op

abbrev pub StoreIsRead : Type 0
StoreIsRead = (op : StoreOp) → store (store_opcode op) ≡ Some op
