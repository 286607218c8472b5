-- A body and a constant expression that are read have a place for each of their parts.
use Rattle.std.proofs.Common.{◌≡◌, ◌+◌, ℕ, zero, suc, Bool, true, false, List, [], ◌∷◌, ◌++◌, refl, ◌∙◌, arith, nat_eq, length}
use Rattle.std.specs.Prelude.{◌&&◌}
use Rattle.std.specs.Bool.{MatchBool}
use Rattle.std.proofs.lemmas.List.{length-append}
use Rattle.ca_base.specs.Span.{Span}
use Rattle.ca_base.specs.Grammar.{Matches}
use Rattle.syntax_trees.specs.declared.instr.Op.{Op}
use Rattle.syntax_trees.specs.declared.instr.Op.TheVariants.{Else, End as EndOp}
use Rattle.syntax_trees.specs.Expr.{Expr, End, Plain, Block, Loop, If, IfElse, Piece, flat_on, op_count}
use Rattle.wasm_code_reader.specs.declared.fault.ModuleWhy.{ModuleWhy}
use Rattle.wasm_code_reader.specs.declared.bodies.PlacedBody.{PlacedBody}
use Rattle.wasm_code_reader.specs.declared.consts.PlacedConst.{PlacedConst}
use Rattle.wasm_code_reader.specs.Bodies.{expr, body}
use Rattle.wasm_code_reader.specs.Consts.{consts, const_expr}

-- what follows in both cases of a test
pub by_test : (b : Bool) (P Q R : Type 0) → (P → R) → (Q → R) → MatchBool b P Q → R
by_test true P Q R f g m = f m
by_test false P Q R f g m = g m

-- how many operations an expression has, its end among them
ops_in : Expr → ℕ
ops_in End = 1
ops_in (Plain i e) = 1 + ops_in e
ops_in (Block t b e) = 1 + (ops_in b + ops_in e)
ops_in (Loop t b e) = 1 + (ops_in b + ops_in e)
ops_in (If t a e) = 1 + (ops_in a + ops_in e)
ops_in (IfElse t a b e) = 1 + (ops_in a + (ops_in b + ops_in e))

flat_ops : (op : Op) (e : Expr) (ops : List Op) → length (flat_on op e ops) ≡ ops_in e + length ops
unfolding ops_in
flat_ops op End ops = omega arith
flat_ops op (Plain i e) ops = let h = flat_ops op e ops in omega arith
flat_ops op (Block t b e) ops = let h = flat_ops op e ops in let k = flat_ops EndOp b (flat_on op e ops) in omega arith
flat_ops op (Loop t b e) ops = let h = flat_ops op e ops in let k = flat_ops EndOp b (flat_on op e ops) in omega arith
flat_ops op (If t a e) ops = let h = flat_ops op e ops in let k = flat_ops EndOp a (flat_on op e ops) in omega arith
flat_ops op (IfElse t a b e) ops =
    let h = flat_ops op e ops in
    let k = flat_ops EndOp b (flat_on op e ops) in
    let l = flat_ops Else a (flat_on EndOp b (flat_on op e ops)) in
    omega arith

append_length : (xs ys : List ℕ) (m n : ℕ) → length xs ≡ m → length ys ≡ n → length (xs ++ ys) ≡ m + n
append_length xs ys m n h k = length-append xs ys ∙ rw (h, k) refl

-- A piece that is read has a place for each operation.
abbrev IsPlaced : Piece × List ℕ → Type 0
IsPlaced x = length x.1 ≡ ops_in x.0.1

-- What holds of all that an expression gives, where it is of the form of a block.
block_placed : (place : ℕ) (b e : Piece × List ℕ) → IsPlaced b → IsPlaced e → length (place ∷ b.1 ++ e.1) ≡ 1 + (ops_in b.0.1 + ops_in e.0.1)
block_placed place b e h k = let both = append_length b.1 e.1 _ _ h k in omega arith

both_placed : (place : ℕ) (a b e : Piece × List ℕ) → IsPlaced a → IsPlaced b → IsPlaced e → length (place ∷ a.1 ++ b.1 ++ e.1) ≡ 1 + (ops_in a.0.1 + (ops_in b.0.1 + ops_in e.0.1))
both_placed place a b e h k l =
    let first = append_length a.1 b.1 _ _ h k in
    let all = append_length (a.1 ++ b.1) e.1 _ _ first l in
    omega arith

expr_places : (m : Bool) (n : ℕ) (s : Span ModuleWhy) (x : Piece × List ℕ) (t : Span ModuleWhy) → Matches (expr m n) s x t → IsPlaced x
unfolding expr ops_in
expr_places m zero s x t h = absurd h.3.3
expr_places m (suc n) s x t h =
    by_test (nat_eq h.3.0 11) _ _ (IsPlaced x)
    (λ i. rw (i.0) refl)
    (by_test (m && nat_eq h.3.0 5) _ _ (IsPlaced x)
    (λ i. rw (i.0) refl)
    (by_test (nat_eq h.3.0 2) _ _ (IsPlaced x)
    (λ i. rw (i.3.3.3.0) (block_placed h.0 i.3.0 i.3.3.0 (expr_places false n i.1 i.3.0 i.3.1 i.3.2) (expr_places m n i.3.1 i.3.3.0 i.3.3.1 i.3.3.2)))
    (by_test (nat_eq h.3.0 3) _ _ (IsPlaced x)
    (λ i. rw (i.3.3.3.0) (block_placed h.0 i.3.0 i.3.3.0 (expr_places false n i.1 i.3.0 i.3.1 i.3.2) (expr_places m n i.3.1 i.3.3.0 i.3.3.1 i.3.3.2)))
    (by_test (nat_eq h.3.0 4) _ _ (IsPlaced x)
    (λ i.
    by_test i.3.0.0.0 _ _ (IsPlaced x)
    (λ j. rw (j.3.3.0) (both_placed h.0 i.3.0 j.0 j.3.0 (expr_places true n i.1 i.3.0 i.3.1 i.3.2) (expr_places false n i.3.1 j.0 j.1 j.2) (expr_places m n j.1 j.3.0 j.3.1 j.3.2)))
    (λ j. rw (j.3.0) (block_placed h.0 i.3.0 j.0 (expr_places true n i.1 i.3.0 i.3.1 i.3.2) (expr_places m n i.3.1 j.0 j.1 j.2)))
    i.3.3)
    (λ i. rw (i.3.3.0) (let rest : IsPlaced i.3.0 = expr_places m n i.1 i.3.0 i.3.1 i.3.2 in omega arith))))))
    h.3.3

pub body_places : (s : Span ModuleWhy) (x : PlacedBody) (t : Span ModuleWhy) → Matches body s x t → length x.ops ≡ op_count x.body
unfolding body
body_places s x t m =
    let placed = expr_places false m.0 m.1 m.3.0 m.3.1 m.3.2 in
    let ops = flat_ops EndOp m.3.0.0.1 [] in
    rw (m.3.3.0) (omega arith)

-- the places of a constant expression
consts_places : (n : ℕ) (s : Span ModuleWhy) (x : PlacedConst) (t : Span ModuleWhy) → Matches (consts n) s x t → length x.places ≡ length x.instrs + 1
unfolding consts
consts_places zero s x t m = absurd m.3.3
consts_places (suc n) s x t m =
    by_test (nat_eq m.3.0 11) _ _ (length x.places ≡ length x.instrs + 1)
    (λ h. rw (h.0) refl)
    (λ h.
    let rest : length h.3.0.places ≡ length h.3.0.instrs + 1 = consts_places n h.1 h.3.0 h.3.1 h.3.2 in
    rw (h.3.3.0) (omega arith))
    m.3.3

pub const_places : (s : Span ModuleWhy) (x : PlacedConst) (t : Span ModuleWhy) → Matches const_expr s x t → length x.places ≡ length x.instrs + 1
unfolding const_expr
const_places s x t m = consts_places m.0 m.1 x t m.3
