-- Frames by places: what an operation says of what is left, and frames whose operands have changed.
use Rattle.std.proofs.Common.{◌≡◌, ◌≤◌, ◌<◌, ◌+◌, ◌^◌, ℕ, true, false, List, [], ◌∷◌, ◌⊎◌, take, length, reverse, refl, ap, ap₂, sym, ◌∙◌, subst, Option, Some, None, inl, inr}
use Rattle.syntax_trees.specs.declared.instr.Instr.{Instr}
use Rattle.syntax_trees.specs.declared.instr.Op.{Op}
use Rattle.syntax_trees.specs.declared.instr.Op.TheVariants.{Plain as PlainOp, OpenBlock, OpenLoop, OpenIf, Else, End as EndOp}
use Rattle.syntax_trees.specs.Expr.{Expr, End, Plain, Block, Loop, If, IfElse, Piece, tree_of, first_op, behind_op, left_at, op_count}
use Rattle.wasm_store.specs.Stack as stack
use Rattle.wasm_execution.specs.declared.frame.OpenLabel.{OpenLabel}
use Rattle.wasm_execution.specs.declared.frame.Frame.{Frame}
use Rattle.wasm_execution.specs.Places.{rest_at, labels_of, frame_of, Around, IsPlaced}
use Rattle.wasm_execution.proofs.Labels.{height_under, around_with, around_moved, labels_same}
use Rattle.wasm_execution.proofs.Pieces.{is_past, left_next}

-- What is left where an operation stands. At an `if` the tree has a second part, or none.
abbrev pub RestOf : Option Op → Expr → Type 0
RestOf None e = e ≡ End
RestOf (Some (PlainOp i)) e = (r : Expr) × (e ≡ Plain i r)
RestOf (Some (OpenBlock t)) e = (b : Expr) × (r : Expr) × (e ≡ Block t b r)
RestOf (Some (OpenLoop t)) e = (b : Expr) × (r : Expr) × (e ≡ Loop t b r)
RestOf (Some (OpenIf t)) e = ((a : Expr) × (r : Expr) × (e ≡ If t a r)) ⊎ ((a : Expr) × (b : Expr) × (r : Expr) × (e ≡ IfElse t a b r))
RestOf (Some Else) e = e ≡ End
RestOf (Some EndOp) e = e ≡ End

-- No operation stands there, or `else` or `end`.
abbrev pub IsEnder : Option Op → Type 0
IsEnder None = Unit {0}
IsEnder (Some Else) = Unit {0}
IsEnder (Some EndOp) = Unit {0}
IsEnder other = ⊥

rest_there : (ps : List Piece) → RestOf (first_op ps) (tree_of ps)
rest_there [] = refl
rest_there ((true, End) ∷ ps) = refl
rest_there ((false, End) ∷ ps) = refl
rest_there ((m, Plain i e) ∷ ps) = (e, refl)
rest_there ((m, Block t b e) ∷ ps) = (b, e, refl)
rest_there ((m, Loop t b e) ∷ ps) = (b, e, refl)
rest_there ((m, If t a e) ∷ ps) = inl (a, e, refl)
rest_there ((m, IfElse t a b e) ∷ ps) = inr (a, b, e, refl)

-- what is left at a place where this operation stands
pub rest_of : (o : Option Op) (at : ℕ) (body : Expr) → o ≡ first_op (left_at at body) → RestOf o (rest_at at body)
rest_of o at body h = subst (λ (o : Option Op). RestOf o (rest_at at body)) (sym h) (rest_there (left_at at body))

ender_first : (ps : List Piece) → tree_of ps ≡ End → IsEnder (first_op ps)
ender_first [] e = tt
ender_first ((true, End) ∷ ps) e = tt
ender_first ((false, End) ∷ ps) e = tt
ender_first ((m, Plain i r) ∷ ps) e = absurd (cc)
ender_first ((m, Block t b r) ∷ ps) e = absurd (cc)
ender_first ((m, Loop t b r) ∷ ps) e = absurd (cc)
ender_first ((m, If t a r) ∷ ps) e = absurd (cc)
ender_first ((m, IfElse t a b r) ∷ ps) e = absurd (cc)

-- At an end there is no operation, or `else` or `end`.
pub ender_there : (o : Option Op) (at : ℕ) (body : Expr) → o ≡ first_op (left_at at body) → rest_at at body ≡ End → IsEnder o
ender_there o at body h e = subst IsEnder (sym h) (ender_first (left_at at body) e)

-- two frames that have all but their places, locals and operands in common
pub record Alike (f g : Frame) : Type 0 where
  pub instance : g.instance ≡ f.instance
  pub results : g.results ≡ f.results
  pub code : g.code.value ≡ f.code.value
  pub labels : g.labels.items ≡ f.labels.items

-- New operands have those under the innermost label as they were.
pub record KeepsUnder (f : Frame) (operands : List ℕ) : Type 0 where
  pub same : take (height_under (reverse f.labels.items)) operands ≡ take (height_under (reverse f.labels.items)) f.operands.items
  pub enough : height_under (reverse f.labels.items) ≤ length operands

abbrev frame_with : ℕ → ℕ → List ℕ → List ℕ → Expr → List stack.Label → stack.Frame
frame_with instance results locals values rest labels = record { instance = instance; results = results; locals = locals; values = values; rest = rest; labels = labels }

frames_same : (f g : Frame) (e : Expr) (labels : List stack.Label) → g.instance ≡ f.instance → g.results ≡ f.results → rest_at g.at g.code.value ≡ e → (frame_of g).labels ≡ labels → frame_of g ≡ frame_with f.instance f.results g.locals.items (reverse g.operands.items) e labels
frames_same f g e labels instance results rest same =
    ap₂ (λ (i : ℕ) (r : ℕ). frame_with i r g.locals.items (reverse g.operands.items) (rest_at g.at g.code.value) (frame_of g).labels) instance results
    ∙ ap₂ (λ (e : Expr) (ls : List stack.Label). frame_with f.instance f.results g.locals.items (reverse g.operands.items) e ls) rest same

seen_alike : (f g : Frame) (e : Expr) → IsPlaced f → Alike f g → KeepsUnder f g.operands.items → Around f.code.value (length f.operands.items) (reverse f.labels.items) (left_at g.at f.code.value) → rest_at g.at f.code.value ≡ e → IsPlaced g × (frame_of g ≡ record (frame_of f) { locals = g.locals.items; values = reverse g.operands.items; rest = e })
seen_alike f g e p a k h rest =
    let body : Expr = f.code.value in
    let ls : List OpenLabel = reverse f.labels.items in
    let code : g.code.value ≡ body = a.code in
    let labels : reverse g.labels.items ≡ ls = ap (λ (ls : List OpenLabel). reverse ls) a.labels in
    let around : Around body (length g.operands.items) ls (left_at g.at body) = around_with body (length f.operands.items) (length g.operands.items) ls (left_at g.at body) h k.enough in
    let same : (frame_of g).labels ≡ (frame_of f).labels =
    ap₂ (λ (e : Expr) (ls : List OpenLabel). labels_of e g.operands.items ls) code labels
    ∙ labels_same body (length f.operands.items) g.operands.items f.operands.items ls (left_at g.at body) h k.same in
    let fits : op_count g.code.value < 2 ^ 64 = subst (λ (e : Expr). op_count e < 2 ^ 64) (sym code) p.0 in (
      (fits, subst (λ (e : Expr). Around e (length g.operands.items) (reverse g.labels.items) (left_at g.at e)) (sym code) (subst (λ (ls : List OpenLabel). Around body (length g.operands.items) ls (left_at g.at body)) (sym labels) around)),
      frames_same f g e (frame_of f).labels a.instance a.results (ap (rest_at g.at) code ∙ rest) same,
    )

-- A frame with other locals, and other operands over those under the innermost label, at the same place.
pub relabelled : (f g : Frame) → IsPlaced f → Alike f g → g.at ≡ f.at → KeepsUnder f g.operands.items → IsPlaced g × (frame_of g ≡ record (frame_of f) { locals = g.locals.items; values = reverse g.operands.items })
relabelled f g p a at k =
    seen_alike f g (rest_at f.at f.code.value) p a k
    (subst (λ (at : ℕ). Around f.code.value (length f.operands.items) (reverse f.labels.items) (left_at at f.code.value)) (sym at) p.1)
    (ap (λ (at : ℕ). rest_at at f.code.value) at)

-- The same behind an instruction that holds no others.
pub relabelled_behind : (f g : Frame) (i : Instr) (e : Expr) → IsPlaced f → Alike f g → g.at ≡ f.at + 1 → KeepsUnder f g.operands.items → (frame_of f).rest ≡ Plain i e → IsPlaced g × (frame_of g ≡ record (frame_of f) { locals = g.locals.items; values = reverse g.operands.items; rest = e })
relabelled_behind f g i e p a at k plain =
    let body : Expr = f.code.value in
    let past = (is_past (left_at f.at body) i e plain).1 in
    let there : left_at g.at body ≡ behind_op (left_at f.at body) = ap (λ (at : ℕ). left_at at body) at ∙ left_next f.at body in
    seen_alike f g e p a k
    (subst (Around body (length f.operands.items) (reverse f.labels.items)) (sym there)
    (around_moved body (length f.operands.items) (reverse f.labels.items) (left_at f.at body) (behind_op (left_at f.at body)) p.1 past.around past.some))
    (ap tree_of there ∙ past.rest)
