-- A walk over flat code: what stands at a place, and what is left there.
use Rattle.std.proofs.Common.{◌≡◌, ◌≤◌, ◌<◌, ◌-◌, ℕ, zero, suc, true, false, List, [], ◌∷◌, length, refl, ◌∙◌, sym, arith, Option, Some, None, Bor}
use Rattle.std.specs.Prelude.{slice_get, MatchOption}
use Rattle.std.specs.List.{HoldsAt}
use Rattle.std.specs.Option.{option_copied}
use Rattle.std.proofs.lemmas.Option.{slice_get_past, slice_get_read}
use Rattle.syntax_trees.specs.declared.instr.Op.{Op}
use Rattle.syntax_trees.specs.Expr.{Expr, End, Plain, Block, Loop, If, IfElse, Piece, flat, flat_all, first_op, behind_op, behind_ops, left_at}

-- What is left behind one more operation.
pub left_more : (at : ℕ) (ps : List Piece) → behind_ops (suc at) ps ≡ behind_op (behind_ops at ps)
left_more zero ps = refl
left_more (suc at) ps = left_more at (behind_op ps)

one_less : (ps : List Piece) → length (flat_all (behind_op ps)) ≡ length (flat_all ps) - 1
one_less [] = refl
one_less ((m, End) ∷ ps) = omega arith
one_less ((m, Plain i e) ∷ ps) = omega arith
one_less ((m, Block t b e) ∷ ps) = omega arith
one_less ((m, Loop t b e) ∷ ps) = omega arith
one_less ((m, If t a e) ∷ ps) = omega arith
one_less ((m, IfElse t a b e) ∷ ps) = omega arith

left_length : (at : ℕ) (ps : List Piece) → length (flat_all (behind_ops at ps)) ≡ length (flat_all ps) - at
left_length zero ps = omega arith
left_length (suc at) ps = let h = left_length at (behind_op ps) in let k = one_less ps in omega arith

no_code : (ps : List Piece) → length (flat_all ps) ≡ 0 → ps ≡ []
no_code [] h = refl
no_code ((m, End) ∷ ps) h = absurd (omega arith)
no_code ((m, Plain i e) ∷ ps) h = absurd (omega arith)
no_code ((m, Block t b e) ∷ ps) h = absurd (omega arith)
no_code ((m, Loop t b e) ∷ ps) h = absurd (omega arith)
no_code ((m, If t a e) ∷ ps) h = absurd (omega arith)
no_code ((m, IfElse t a b e) ∷ ps) h = absurd (omega arith)

-- At the end nothing is left.
pub left_none : (e : Expr) → left_at (length (flat e)) e ≡ []
left_none e = let h = left_length (length (flat e)) ((false, e) ∷ []) in no_code (left_at (length (flat e)) e) (omega arith)

-- What stands at a place is the first operation of what is left there.
one_get : (at : ℕ) (ps : List Piece) → slice_get (flat_all ps) (suc at) ≡ slice_get (flat_all (behind_op ps)) at
one_get at [] = refl
one_get at ((true, End) ∷ ps) = refl
one_get at ((false, End) ∷ ps) = refl
one_get at ((m, Plain i e) ∷ ps) = refl
one_get at ((m, Block t b e) ∷ ps) = refl
one_get at ((m, Loop t b e) ∷ ps) = refl
one_get at ((m, If t a e) ∷ ps) = refl
one_get at ((m, IfElse t a b e) ∷ ps) = refl

first_get : (ps : List Piece) → slice_get (flat_all ps) 0 ≡ first_op ps
first_get [] = refl
first_get ((true, End) ∷ ps) = refl
first_get ((false, End) ∷ ps) = refl
first_get ((m, Plain i e) ∷ ps) = refl
first_get ((m, Block t b e) ∷ ps) = refl
first_get ((m, Loop t b e) ∷ ps) = refl
first_get ((m, If t a e) ∷ ps) = refl
first_get ((m, IfElse t a b e) ∷ ps) = refl

pub get_behind : (at : ℕ) (ps : List Piece) → slice_get (flat_all ps) at ≡ first_op (behind_ops at ps)
get_behind zero ps = first_get ps
get_behind (suc at) ps = one_get at ps ∙ get_behind at (behind_op ps)

pub op_there : (at : ℕ) (e : Expr) → slice_get (flat e) at ≡ first_op (left_at at e)
op_there at e = get_behind at ((false, e) ∷ [])

pub gets : (r : Option (Bor Op)) (xs : List Op) (at : ℕ) → MatchOption r (length xs ≤ at) (λ x. (at < length xs) × HoldsAt (λ y. x.now ≡ y) xs at) → option_copied r ≡ slice_get xs at
gets None xs at h = sym (slice_get_past xs at h)
gets (Some x) xs at h = sym (slice_get_read xs (length xs) at x.now refl h.0 (h.1 x.now))
