-- Frames by places in flat code (Core 2.0, section 4.4.8): what they are seen as, and what holds of their places.
use Rattle.std.specs.Prelude.{◌≡◌, ◌≤◌, ◌<◌, ◌^◌, ℕ, true, false, List, [], ◌∷◌, map, reverse, take, length}
use Rattle.std.specs.Option.{option_map, IfSome}
use Rattle.syntax_trees.specs.Expr.{Expr, Piece, tree_of, left_at, op_count}
use Rattle.wasm_store.specs.Stack as stack
use Rattle.wasm_execution.specs.declared.frame.OpenLabel.{OpenLabel}
use Rattle.wasm_execution.specs.declared.frame.Frame.{Frame}

-- the expression that is left at a place
abbrev pub rest_at : ℕ → Expr → Expr
rest_at at body = tree_of (left_at at body)

-- A label over these operands, the last one at the end: those under it are as many as its height says.
abbrev pub label_of : Expr → List ℕ → OpenLabel → stack.Label
label_of body operands l = record {
  arity = l.arity;
  under = reverse (take l.height operands);
  again = option_map (λ at. rest_at at body) l.again;
  after = rest_at l.after body;
}

abbrev pub labels_of : Expr → List ℕ → List OpenLabel → List stack.Label
labels_of body operands labels = map (label_of body operands) labels

-- The frame that a frame is seen as. Its labels and operands have the last one at the end.
abbrev pub frame_of : Frame → stack.Frame
frame_of f = record {
  instance = f.instance;
  results = f.results;
  locals = f.locals.items;
  values = reverse f.operands.items;
  rest = rest_at f.at f.code.value;
  labels = labels_of f.code.value f.operands.items (reverse f.labels.items);
}

-- What is left at a place is a part, and behind the block that it is of stands this.
abbrev pub Encloses : List Piece → List Piece → Type 0
Encloses [] outer = ⊥
Encloses ((false, e) ∷ ps) outer = ps ≡ outer
Encloses ((true, e) ∷ []) outer = ⊥
Encloses ((true, e) ∷ p ∷ ps) outer = ps ≡ outer

-- The labels, the innermost first, are those of the blocks around what is left, and under each lie at most so many operands.
abbrev pub Around : Expr → ℕ → List OpenLabel → List Piece → Type 0
Around body most [] ps = ps ≡ []
Around body most (l ∷ ls) ps =
    Encloses ps (left_at l.after body) × (l.height ≤ most) × IfSome l.again (λ at. Encloses (left_at at body) (left_at l.after body))
    × Around body l.height ls (left_at l.after body)

-- The places of the code are few enough, and the labels are those around what is left.
abbrev pub IsPlaced : Frame → Type 0
IsPlaced f = (op_count f.code.value < 2 ^ 64) × Around f.code.value (length f.operands.items) (reverse f.labels.items) (left_at f.at f.code.value)
