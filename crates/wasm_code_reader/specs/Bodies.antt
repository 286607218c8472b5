-- The locals and the body of a function in bytes (Core 2.0, sections 5.4.9 and 5.5.13).
use Rattle.std.specs.Prelude.{◌+◌, ℕ, zero, suc, Bool, false, true, ◌==◌, ◌&&◌, List, [], ◌∷◌, ◌++◌, nat_lt}
use Rattle.ca_base.specs.Grammar.{Grammar, Give, Refuse, Here, Left, Byte, Choose, ◌>>=◌}
use Rattle.ca_base.specs.Items.{u32}
use Rattle.ca_base.specs.Tables.{in_rows}
use Rattle.syntax_trees.specs.declared.module_types.Locals.{Locals}
use Rattle.syntax_trees.specs.Expr.{End, Plain, Block, Loop, If, IfElse, Piece}
use Rattle.syntax_trees.specs.Locals.{locals_limit}
use Rattle.wasm_code_reader.specs.declared.fault.ModuleWhy.{ModuleWhy}
use Rattle.wasm_code_reader.specs.declared.fault.ModuleWhy.TheVariants.{Unsupported, Limit}
use Rattle.wasm_code_reader.specs.declared.bodies.PlacedBody.{PlacedBody}
use Rattle.wasm_code_reader.specs.Reasons.{numbers}
use Rattle.wasm_code_reader.specs.Types.{val_type}
use Rattle.wasm_code_reader.specs.Instrs.{block_type, instr}

-- Instructions up to what ends them, which in the first part of an `if` may be `else`, and the places of all operations,
-- `else` and `end` among them; each part in at most so many bytes.
unfoldable pub expr : Bool → ℕ → Grammar ModuleWhy (Piece × List ℕ)
expr may_else zero = do
  place ← Here
  b ← Byte
  Refuse place (Unsupported b)
expr may_else (suc count) = do
  place ← Here
  opcode ← Byte
  Choose (opcode == 0x0B) (Give ((false, End), place ∷ []))
      (Choose (may_else && opcode == 0x05) (Give ((true, End), place ∷ []))
      (in_rows ((
        0x02,
        do
          type ← block_type
          inside ← expr false count
          rest ← expr may_else count
          Give ((rest.0.0, Block type inside.0.1 rest.0.1), place ∷ inside.1 ++ rest.1),
      )
      ∷ (
        0x03,
        do
          type ← block_type
          inside ← expr false count
          rest ← expr may_else count
          Give ((rest.0.0, Loop type inside.0.1 rest.0.1), place ∷ inside.1 ++ rest.1),
      )
      ∷ (
        0x04,
        do
          type ← block_type
          first ← expr true count
          Choose first.0.0 (do
            second ← expr false count
            rest ← expr may_else count
            Give ((rest.0.0, IfElse type first.0.1 second.0.1 rest.0.1), place ∷ first.1 ++ second.1 ++ rest.1)) (do
              rest ← expr may_else count
              Give ((rest.0.0, If type first.0.1 rest.0.1), place ∷ first.1 ++ rest.1)),
      )
      ∷ []) opcode (do
        first ← instr place opcode
        rest ← expr may_else count
        Give ((rest.0.0, Plain first rest.0.1), place ∷ rest.1))))

-- the instructions of a body, as far as its size goes, and the places of its operations
unfoldable pub body : Grammar ModuleWhy PlacedBody
body = do
  count ← Left
  whole ← expr false count
  Give (record { body = whole.0.1; ops = whole.1 })

-- so many groups of locals, behind so many locals. The number with which there are too many is refused
unfoldable pub locals : ℕ → ℕ → Grammar ModuleWhy (List Locals)
locals zero before = Give []
locals (suc more) before = do
  place ← Here
  count ← u32 numbers
  Choose (nat_lt locals_limit (before + count)) (Refuse place Limit) (do
    type ← val_type
    others ← locals more (before + count)
    Give (record { count = count; val_type = type } ∷ others))

-- a vector of groups of locals
unfoldable pub all_locals : Grammar ModuleWhy (List Locals)
all_locals = do
  count ← u32 numbers
  locals count 0
