-- Frames in the program whose operands have changed.
use Rattle.std.proofs.Common.{◌≡◌, ◌≤◌, ◌+◌, ℕ, List, [], ◌∷◌, ◌++◌, take, length, reverse, ap, ap₂, ◌∙◌, arith}
use Rattle.std.proofs.lemmas.List.{take-append-le, reverse-append}
use Rattle.std.proofs.Common.{length-append}
use Rattle.syntax_trees.specs.Expr.{Expr, Piece, left_at}
use Rattle.wasm_store.specs.Stack as stack
use Rattle.wasm_store.specs.Step.{with_more}
use Rattle.wasm_execution.specs.declared.frame.OpenLabel.{OpenLabel}
use Rattle.wasm_execution.specs.declared.frame.Frame.{Frame}
use Rattle.wasm_execution.specs.Places.{Around, frame_of, IsPlaced}
use Rattle.wasm_execution.proofs.Labels.{height_under}
use Rattle.wasm_execution.proofs.Placing.{Alike, relabelled}

around_enough : (body : Expr) (most : ℕ) (ls : List OpenLabel) (ps : List Piece) → Around body most ls ps → height_under ls ≤ most
around_enough body most [] ps h = omega arith
around_enough body most (l ∷ ls) ps h = h.1

pub placed_enough : (f : Frame) → IsPlaced f → height_under (reverse f.labels.items) ≤ length f.operands.items
placed_enough f h = around_enough f.code.value (length f.operands.items) (reverse f.labels.items) (left_at f.at f.code.value) h.1

-- The same operands, in other memory.
pub same_operands : (f g : Frame) → IsPlaced f → Alike f g → g.at ≡ f.at → g.locals.items ≡ f.locals.items → g.operands.items ≡ f.operands.items → IsPlaced g × (frame_of g ≡ frame_of f)
same_operands f g h a at locals operands =
    let enough : height_under (reverse f.labels.items) ≤ length g.operands.items = (let long : length g.operands.items ≡ length f.operands.items = ap length operands in let few = placed_enough f h in omega (arith, long, few)) in
    let k = relabelled f g h a at (record { same = ap (take (height_under (reverse f.labels.items))) operands; enough = enough }) in
    (k.0, k.1 ∙ ap₂ (λ (ls : List ℕ) (vs : List ℕ). (let q : stack.Frame = record (frame_of f) { locals = ls; values = reverse vs } in q)) locals operands)

-- More operands on top.
pub more_operands : (f g : Frame) (words : List ℕ) → IsPlaced f → Alike f g → g.at ≡ f.at → g.locals.items ≡ f.locals.items → g.operands.items ≡ f.operands.items ++ words → IsPlaced g × (frame_of g ≡ with_more (reverse words) (frame_of f))
more_operands f g words h a at locals operands =
    let few = placed_enough f h in
    let enough : height_under (reverse f.labels.items) ≤ length g.operands.items = (let long : length g.operands.items ≡ length f.operands.items + length words = ap length operands ∙ length-append f.operands.items words in omega (arith, long, few)) in
    let same : take (height_under (reverse f.labels.items)) g.operands.items ≡ take (height_under (reverse f.labels.items)) f.operands.items =
    ap (take (height_under (reverse f.labels.items))) operands ∙ take-append-le (height_under (reverse f.labels.items)) f.operands.items words few in
    let k = relabelled f g h a at (record { same = same; enough = enough }) in
    (k.0, k.1 ∙ ap₂ (λ (ls : List ℕ) (vs : List ℕ). (let q : stack.Frame = record (frame_of f) { locals = ls; values = vs } in q)) locals (ap reverse operands ∙ reverse-append f.operands.items words))
