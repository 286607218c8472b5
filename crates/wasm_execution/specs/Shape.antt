-- Frames and their parts (Core 2.0, sections 4.4.8 to 4.4.10): what comes behind an instruction, the values over a block, a frame that begins.
use Rattle.std.specs.Prelude.{◌≡◌, ℕ, ◌+◌, ◌≤◌, Bool, true, false, List, [], ◌∷◌, length, drop, Option, None}
use Rattle.syntax_trees.specs.Expr.{Expr, End, Plain, Block, Loop, If, IfElse}
use Rattle.wasm_store.specs.Stack.{Label, Frame}

-- what comes behind the first instruction
abbrev pub rest_behind : Expr → Expr
rest_behind End = End
rest_behind (Plain i e) = e
rest_behind (Block t b e) = e
rest_behind (Loop t b e) = e
rest_behind (If t a e) = e
rest_behind (IfElse t a b e) = e

-- A block or an `if`, an `if`, and a loop begin.
abbrev pub BeginsBlock : Expr → Type 0
BeginsBlock (Block t b e) = Unit {0}
BeginsBlock (If t a e) = Unit {0}
BeginsBlock (IfElse t a b e) = Unit {0}
BeginsBlock other = ⊥

abbrev pub BeginsIf : Expr → Type 0
BeginsIf (If t a e) = Unit {0}
BeginsIf (IfElse t a b e) = Unit {0}
BeginsIf other = ⊥

abbrev pub BeginsLoop : Expr → Type 0
BeginsLoop (Loop t b e) = Unit {0}
BeginsLoop other = ⊥

-- what is inside: the first part, and the second one of an `if`
abbrev pub first_part : Expr → Expr
first_part End = End
first_part (Plain i e) = End
first_part (Block t b e) = b
first_part (Loop t b e) = b
first_part (If t a e) = a
first_part (IfElse t a b e) = a

abbrev pub second_part : Expr → Expr
second_part (IfElse t a b e) = b
second_part other = End

-- the label of a block here that takes so many values, and a frame within it
abbrev pub label_over : ℕ → ℕ → Option Expr → Frame → Label
label_over arity params again f = record { arity = arity; under = drop params f.values; again = again; after = rest_behind f.rest }

abbrev pub within : Label → Expr → Frame → Frame
within l inside f = record f { rest = inside; labels = l ∷ f.labels }

-- At an end the innermost block is left, where there is one.
abbrev pub Leaves : Frame → Bool → Frame → Type 0
Leaves f true g = (l : Label) × (ls : List Label) × (f.labels ≡ l ∷ ls) × (g ≡ record f { rest = l.after; labels = ls })
Leaves f false g = (f.labels ≡ []) × (g ≡ f)

-- Over those under the innermost block there are so many values.
abbrev pub HasOver : ℕ → List Label → List ℕ → Type 0
HasOver count [] vs = count ≤ length vs
HasOver count (l ∷ ls) vs = length l.under + count ≤ length vs

-- a frame at the beginning of a body
abbrev pub begun : ℕ → ℕ → List ℕ → Expr → Frame
begun instance results locals body = record {
  instance = instance;
  results = results;
  locals = locals;
  values = [];
  rest = body;
  labels = record { arity = results; under = []; again = None; after = End } ∷ [];
}
