-- What execution and validation say of the types and widths of instructions (Core 2.0, sections 3.3.1 and 3.3.7) is the same.
use Rattle.std.specs.Prelude.{◌≡◌, ℕ, ◌^◌, ◌<◌, [], ◌∷◌, length}
use Rattle.std.specs.Int.{byte_len}
use mir.Val.{bits}
use Rattle.syntax_trees.specs.declared.instr.NumericOp.{NumericOp}
use Rattle.syntax_trees.specs.declared.instr.LoadOp.{LoadOp}
use Rattle.syntax_trees.specs.declared.instr.StoreOp.{StoreOp}
use Rattle.wasm_typing.specs.Context.{arrow}
use Rattle.wasm_typing.specs.Instrs.{numeric_type, load_gives, load_width, store_width}
use Rattle.wasm_numbers.specs.Types.{operand_types, result_type, IsWord}
use Rattle.wasm_memory.specs.Loads.{read_width, result_width}
use Rattle.wasm_memory.specs.Stores.{stored_bytes}

abbrev pub NumericTypesAgree : Type 0
NumericTypesAgree = (op : NumericOp) → numeric_type op ≡ arrow (operand_types op) (result_type op ∷ [])

-- what a load gives, and how many bytes it reads
abbrev pub LoadsAgree : Type 0
LoadsAgree = (op : LoadOp) → ((n : ℕ) → n < 2 ^ bits (result_width op) → IsWord (load_gives op) n) × (byte_len (read_width op) ≡ 2 ^ load_width op)

-- how many bytes a store writes
abbrev pub StoresAgree : Type 0
StoresAgree = (op : StoreOp) (n : ℕ) → length (stored_bytes op n) ≡ 2 ^ store_width op
