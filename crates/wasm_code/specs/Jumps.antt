-- Where the code of blocks goes on (Core 2.0, section 4.4.8), in flat code. What is left at a place is a list of pieces: of
-- the part there, of what stands behind that part, and so on.
use Rattle.std.specs.Prelude.{◌≡◌, ℕ, false, List, ◌∷◌, Option, Some}
use Rattle.std.specs.List.{slice_get}
use Rattle.syntax_trees.specs.declared.instr.Op.{Op}
use Rattle.syntax_trees.specs.declared.instr.Op.TheVariants.{OpenBlock, OpenLoop, OpenIf}
use Rattle.syntax_trees.specs.Expr.{Expr, End, Block, Loop, If, IfElse, Piece, first_op, left_at}
use Rattle.wasm_code.specs.declared.jumps.Jump.{Jump}

-- what is left behind the end of the block, loop or `if` that begins there
abbrev pub behind_block : List Piece → List Piece
behind_block ((m, Block t b e) ∷ ps) = (m, e) ∷ ps
behind_block ((m, Loop t b e) ∷ ps) = (m, e) ∷ ps
behind_block ((m, If t a e) ∷ ps) = (m, e) ∷ ps
behind_block ((m, IfElse t a b e) ∷ ps) = (m, e) ∷ ps
behind_block ps = ps

-- what is left at the second part of the `if` that begins there: at its end, where it has none
abbrev pub second_part : List Piece → List Piece
second_part ((m, If t a e) ∷ ps) = (false, End) ∷ (m, e) ∷ ps
second_part ((m, IfElse t a b e) ∷ ps) = (false, b) ∷ (m, e) ∷ ps
second_part ps = ps

-- An operation begins a block, a loop or an `if`.
abbrev pub Opens : Option Op → Type 0
Opens (Some (OpenBlock t)) = Unit {0}
Opens (Some (OpenLoop t)) = Unit {0}
Opens (Some (OpenIf t)) = Unit {0}
Opens other = ⊥

-- It begins an `if`.
abbrev pub OpensIf : Option Op → Type 0
OpensIf (Some (OpenIf t)) = Unit {0}
OpensIf other = ⊥

-- The places are those at which the code of the block at this place goes on.
pub record IsJump (body : Expr) (at : ℕ) (jump : Jump) : Type 0 where
  pub behind : left_at jump.behind body ≡ behind_block (left_at at body)
  pub second : OpensIf (first_op (left_at at body)) → left_at jump.second body ≡ second_part (left_at at body)

-- There are such places for each block.
abbrev pub AreJumps : Expr → List Jump → Type 0
AreJumps body jumps = (at : ℕ) → Opens (first_op (left_at at body)) → (jump : Jump) × (slice_get jumps at ≡ Some jump) × IsJump body at jump
