-- What is left at places of flat code: behind an operation, in the parts of a block and behind its end.
use Rattle.std.proofs.Common.{◌≡◌, ◌<◌, ◌+◌, ℕ, suc, Bool, true, false, List, [], ◌∷◌, refl, ap, ◌∙◌, arith, Some}
use Rattle.std.proofs.lemmas.Option.{slice_get_within}
use Rattle.syntax_trees.specs.declared.instr.Instr.{Instr}
use Rattle.syntax_trees.specs.declared.instr.Op.{Op}
use Rattle.syntax_trees.specs.Expr.{Expr, End, Plain, Block, Loop, If, IfElse, Piece, tree_of, flat, first_op, behind_op, left_at, op_count}
use Rattle.syntax_trees.proofs.Walking.{left_more, op_there}
use Rattle.wasm_code.specs.Jumps as jumps
use Rattle.wasm_execution.specs.Places.{Encloses}
use Rattle.wasm_execution.specs.Shape.{rest_behind, first_part, second_part, BeginsBlock, BeginsIf, BeginsLoop}

pub left_next : (at : ℕ) (body : Expr) → left_at (at + 1) body ≡ behind_op (left_at at body)
left_next at body = let e : at + 1 ≡ suc at = omega arith in ap (λ (n : ℕ). left_at n body) e ∙ left_more at ((false, body) ∷ [])

-- Where an operation stands, the next place is none behind the last one.
pub place_within : (at : ℕ) (body : Expr) (op : Op) → first_op (left_at at body) ≡ Some op → at < op_count body
place_within at body op h = slice_get_within (flat body) at op (op_there at body ∙ h)

encloses_other : (m : Bool) (d e : Expr) (ps outer : List Piece) → Encloses ((m, d) ∷ ps) outer → Encloses ((m, e) ∷ ps) outer
encloses_other false d e ps outer h = h
encloses_other true d e [] outer h = absurd h
encloses_other true d e (p ∷ ps) outer h = h

-- what is left behind an instruction that holds no others
pub record IsPast (ps behind : List Piece) (e : Expr) (op : Op) : Type 0 where
  pub first : first_op ps ≡ Some op
  pub rest : tree_of behind ≡ e
  pub around : (outer : List Piece) → Encloses ps outer → Encloses behind outer
  pub some : ps ≡ [] → ⊥

pub is_past : (ps : List Piece) (i : Instr) (e : Expr) → tree_of ps ≡ Plain i e → (op : Op) × IsPast ps (behind_op ps) e op
is_past [] i e h = absurd (cc)
is_past ((m, End) ∷ ps) i e h = absurd (cc)
is_past ((m, Plain j r) ∷ ps) i e h =
    let same : r ≡ e = cc in
    (_, record { first = refl; rest = same; around = encloses_other m (Plain j r) r ps; some = λ n. cc })
is_past ((m, Block t b r) ∷ ps) i e h = absurd (cc)
is_past ((m, Loop t b r) ∷ ps) i e h = absurd (cc)
is_past ((m, If t a r) ∷ ps) i e h = absurd (cc)
is_past ((m, IfElse t a b r) ∷ ps) i e h = absurd (cc)

-- what is left in a part of a block, a loop or an `if`, and behind its end
pub record IsOpened (ps inner behind : List Piece) (inside : Expr) : Type 0 where
  pub first : (op : Op) × (first_op ps ≡ Some op)
  pub part : tree_of inner ≡ inside
  pub rest : tree_of behind ≡ rest_behind (tree_of ps)
  pub encloses : Encloses inner behind
  pub around : (outer : List Piece) → Encloses ps outer → Encloses behind outer
  pub some : ps ≡ [] → ⊥

pub block_opened : (ps : List Piece) → BeginsBlock (tree_of ps) → IsOpened ps (behind_op ps) (jumps.behind_block ps) (first_part (tree_of ps))
block_opened [] h = absurd h
block_opened ((m, End) ∷ ps) h = absurd h
block_opened ((m, Plain i e) ∷ ps) h = absurd h
block_opened ((m, Block t b e) ∷ ps) h = record { first = (_, refl); part = refl; rest = refl; encloses = refl; around = encloses_other m (Block t b e) e ps; some = λ n. cc }
block_opened ((m, Loop t b e) ∷ ps) h = absurd h
block_opened ((m, If t a e) ∷ ps) h = record { first = (_, refl); part = refl; rest = refl; encloses = refl; around = encloses_other m (If t a e) e ps; some = λ n. cc }
block_opened ((m, IfElse t a b e) ∷ ps) h = record { first = (_, refl); part = refl; rest = refl; encloses = refl; around = encloses_other m (IfElse t a b e) e ps; some = λ n. cc }

pub second_opened : (ps : List Piece) → BeginsIf (tree_of ps) → IsOpened ps (jumps.second_part ps) (jumps.behind_block ps) (second_part (tree_of ps))
second_opened [] h = absurd h
second_opened ((m, End) ∷ ps) h = absurd h
second_opened ((m, Plain i e) ∷ ps) h = absurd h
second_opened ((m, Block t b e) ∷ ps) h = absurd h
second_opened ((m, Loop t b e) ∷ ps) h = absurd h
second_opened ((m, If t a e) ∷ ps) h = record { first = (_, refl); part = refl; rest = refl; encloses = refl; around = encloses_other m (If t a e) e ps; some = λ n. cc }
second_opened ((m, IfElse t a b e) ∷ ps) h = record { first = (_, refl); part = refl; rest = refl; encloses = refl; around = encloses_other m (IfElse t a b e) e ps; some = λ n. cc }

pub loop_opened : (ps : List Piece) → BeginsLoop (tree_of ps) → IsOpened ps (behind_op ps) (jumps.behind_block ps) (first_part (tree_of ps))
loop_opened [] h = absurd h
loop_opened ((m, End) ∷ ps) h = absurd h
loop_opened ((m, Plain i e) ∷ ps) h = absurd h
loop_opened ((m, Block t b e) ∷ ps) h = absurd h
loop_opened ((m, Loop t b e) ∷ ps) h = record { first = (_, refl); part = refl; rest = refl; encloses = refl; around = encloses_other m (Loop t b e) e ps; some = λ n. cc }
loop_opened ((m, If t a e) ∷ ps) h = absurd h
loop_opened ((m, IfElse t a b e) ∷ ps) h = absurd h
