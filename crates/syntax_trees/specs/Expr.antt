-- Expressions (Core 2.0, section 2.4.9) as trees: sequences of instructions up to an end, where an instruction that holds
-- others is a case of its own. And their flat code (section 5.4): the same instructions in file order, with `else` and
-- `end` in their places.
use Rattle.std.specs.Prelude.{◌≡◌, ℕ, zero, suc, Bool, true, false, List, [], ◌∷◌, length, refl, Option, Some, None}
use Rattle.std.specs.Coded.{Coded, code_by, coded_list}
use Rattle.std.proofs.Common.{ap, ◌∙◌}
use Rattle.syntax_trees.specs.declared.instr.Op.{Op}
use Rattle.syntax_trees.specs.declared.instr.Op.TheVariants.{Plain as PlainOp, OpenBlock, OpenLoop, OpenIf, Else, End as EndOp}
use Rattle.syntax_trees.specs.declared.instr.Instr.{Instr}
use Rattle.syntax_trees.specs.declared.instr.BlockType.{BlockType}
use Rattle.syntax_trees.specs.contracts.instr.Op as op

pub data Expr : Type 0 where
  -- the end
  End : Expr
  -- an instruction, and what comes behind it
  Plain : Instr → Expr → Expr
  -- a block or a loop of a type: what is inside, and what comes behind its end
  Block : BlockType → Expr → Expr → Expr
  Loop : BlockType → Expr → Expr → Expr
  -- an `if` of a type without `else`: its part, and what comes behind its end
  If : BlockType → Expr → Expr → Expr
  -- one with `else`: its two parts, and what comes behind its end
  IfElse : BlockType → Expr → Expr → Expr → Expr

-- Instructions up to what ends them: whether that is `else`, and the instructions.
abbrev pub Piece : Type 0
Piece = Bool × Expr

-- what ends a piece
abbrev pub ender : Bool → Op
ender true = Else
ender false = EndOp

-- the flat code of an expression that this operation ends, before other code
abbrev pub flat_on : Op → Expr → List Op → List Op
flat_on op End ops = op ∷ ops
flat_on op (Plain i e) ops = PlainOp i ∷ flat_on op e ops
flat_on op (Block t b e) ops = OpenBlock t ∷ flat_on EndOp b (flat_on op e ops)
flat_on op (Loop t b e) ops = OpenLoop t ∷ flat_on EndOp b (flat_on op e ops)
flat_on op (If t a e) ops = OpenIf t ∷ flat_on EndOp a (flat_on op e ops)
flat_on op (IfElse t a b e) ops = OpenIf t ∷ flat_on Else a (flat_on EndOp b (flat_on op e ops))

abbrev pub flat : Expr → List Op
flat e = flat_on EndOp e []

-- the flat code of pieces
abbrev pub flat_all : List Piece → List Op
flat_all [] = []
flat_all (p ∷ ps) = flat_on (ender p.0) p.1 (flat_all ps)

abbrev pub plain_on : Instr → List Piece → List Piece
plain_on i [] = []
plain_on i (e ∷ ps) = (e.0, Plain i e.1) ∷ ps

abbrev pub block_on : BlockType → List Piece → List Piece
block_on t [] = []
block_on t (b ∷ []) = []
block_on t (b ∷ e ∷ ps) = (e.0, Block t b.1 e.1) ∷ ps

abbrev pub loop_on : BlockType → List Piece → List Piece
loop_on t [] = []
loop_on t (b ∷ []) = []
loop_on t (b ∷ e ∷ ps) = (e.0, Loop t b.1 e.1) ∷ ps

-- an `if` with a second part or without one
abbrev pub if_with : Bool → BlockType → Expr → List Piece → List Piece
if_with true t a [] = []
if_with true t a (b ∷ []) = []
if_with true t a (b ∷ e ∷ ps) = (e.0, IfElse t a b.1 e.1) ∷ ps
if_with false t a [] = []
if_with false t a (e ∷ ps) = (e.0, If t a e.1) ∷ ps

abbrev pub if_on : BlockType → List Piece → List Piece
if_on t [] = []
if_on t (a ∷ ps) = if_with a.0 t a.1 ps

-- an operation before pieces
abbrev pub op_on : Op → List Piece → List Piece
op_on (PlainOp i) ps = plain_on i ps
op_on (OpenBlock t) ps = block_on t ps
op_on (OpenLoop t) ps = loop_on t ps
op_on (OpenIf t) ps = if_on t ps
op_on Else ps = (true, End) ∷ ps
op_on EndOp ps = (false, End) ∷ ps

-- Flat code, before pieces: what is left of the part around, of what stands behind that part, and so on.
abbrev pub before : List Op → List Piece → List Piece
before [] ps = ps
before (op ∷ ops) ps = op_on op (before ops ps)

abbrev pub tree_of : List Piece → Expr
tree_of [] = End
tree_of (p ∷ ps) = p.1

-- the expression of flat code
abbrev pub unflat : List Op → Expr
unflat ops = tree_of (before ops [])

ender_on : (m : Bool) (ps : List Piece) → op_on (ender m) ps ≡ (m, End) ∷ ps
ender_on true ps = refl
ender_on false ps = refl

pub before-flat : (m : Bool) (e : Expr) (ops : List Op) (ps : List Piece) → before (flat_on (ender m) e ops) ps ≡ (m, e) ∷ before ops ps
before-flat m End ops ps = ender_on m (before ops ps)
before-flat m (Plain i e) ops ps = ap (plain_on i) (before-flat m e ops ps)
before-flat m (Block t b e) ops ps =
    ap (block_on t) (before-flat false b (flat_on (ender m) e ops) ps ∙ ap (λ (ps : List Piece). (false, b) ∷ ps) (before-flat m e ops ps))
before-flat m (Loop t b e) ops ps =
    ap (loop_on t) (before-flat false b (flat_on (ender m) e ops) ps ∙ ap (λ (ps : List Piece). (false, b) ∷ ps) (before-flat m e ops ps))
before-flat m (If t a e) ops ps =
    ap (if_on t) (before-flat false a (flat_on (ender m) e ops) ps ∙ ap (λ (ps : List Piece). (false, a) ∷ ps) (before-flat m e ops ps))
before-flat m (IfElse t a b e) ops ps =
    ap (if_on t)
    (before-flat true a (flat_on EndOp b (flat_on (ender m) e ops)) ps
    ∙ ap (λ (ps : List Piece). (true, a) ∷ ps) (before-flat false b (flat_on (ender m) e ops) ps ∙ ap (λ (ps : List Piece). (false, b) ∷ ps) (before-flat m e ops ps)))

-- Flat code stands for the expression that it was made of.
pub unflat-flat : (e : Expr) → unflat (flat e) ≡ e
unflat-flat e = ap tree_of (before-flat false e [] [])

abbrev pub expr_code : Coded Expr
expr_code = code_by (List Op) (coded_list op.the_row.coded) flat unflat unflat-flat

-- the first operation of pieces
abbrev pub first_op : List Piece → Option Op
first_op [] = None
first_op ((m, End) ∷ ps) = Some (ender m)
first_op ((m, Plain i e) ∷ ps) = Some (PlainOp i)
first_op ((m, Block t b e) ∷ ps) = Some (OpenBlock t)
first_op ((m, Loop t b e) ∷ ps) = Some (OpenLoop t)
first_op ((m, If t a e) ∷ ps) = Some (OpenIf t)
first_op ((m, IfElse t a b e) ∷ ps) = Some (OpenIf t)

-- what is left behind it
abbrev pub behind_op : List Piece → List Piece
behind_op [] = []
behind_op ((m, End) ∷ ps) = ps
behind_op ((m, Plain i e) ∷ ps) = (m, e) ∷ ps
behind_op ((m, Block t b e) ∷ ps) = (false, b) ∷ (m, e) ∷ ps
behind_op ((m, Loop t b e) ∷ ps) = (false, b) ∷ (m, e) ∷ ps
behind_op ((m, If t a e) ∷ ps) = (false, a) ∷ (m, e) ∷ ps
behind_op ((m, IfElse t a b e) ∷ ps) = (true, a) ∷ (false, b) ∷ (m, e) ∷ ps

abbrev pub behind_ops : ℕ → List Piece → List Piece
behind_ops zero ps = ps
behind_ops (suc n) ps = behind_ops n (behind_op ps)

-- What is left at a place: of the part there, of what stands behind that part, and so on.
abbrev pub left_at : ℕ → Expr → List Piece
left_at at e = behind_ops at ((false, e) ∷ [])

-- how many operations the flat code has
abbrev pub op_count : Expr → ℕ
op_count e = length (flat e)
