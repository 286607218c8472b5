-- Values that are typed with the labels of a frame lie over those under the innermost one.
use Rattle.std.proofs.Common.{◌≡◌, ◌≤◌, ◌+◌, ℕ, List, [], ◌∷◌, ◌++◌, take, length, reverse, refl, ap, sym, ◌∙◌, subst, arith, length-append}
use Rattle.std.proofs.lemmas.List.{take-take, take-append-le, length-take-le, reverse-append, reverse-reverse}
use Rattle.syntax_trees.specs.declared.module_types.ValType.{ValType}
use Rattle.syntax_trees.specs.Expr.{Expr, Piece, left_at}
use Rattle.wasm_typing.specs.Context.{Context}
use Rattle.wasm_store.specs.Store.{Store}
use Rattle.wasm_store.specs.Stack as stack
use Rattle.wasm_store.specs.Typed.{LabelsTyped, FrameTyped}
use Rattle.wasm_execution.specs.declared.frame.OpenLabel.{OpenLabel}
use Rattle.wasm_execution.specs.declared.frame.Frame.{Frame}
use Rattle.wasm_execution.specs.Places.{labels_of, frame_of, Around, IsPlaced}
use Rattle.wasm_execution.proofs.Labels.{height_under}
use Rattle.wasm_execution.proofs.Placing.{KeepsUnder}

record IsOver (operands new : List ℕ) (ls : List OpenLabel) : Type 0 where
  same : take (height_under ls) new ≡ take (height_under ls) operands
  enough : height_under ls ≤ length new

over_under : (operands new words : List ℕ) (height : ℕ) → height ≤ length operands → reverse new ≡ words ++ reverse (take height operands) → (take height new ≡ take height operands) × (height ≤ length new)
over_under operands new words height low is =
    let bottom : List ℕ = take height operands in
    let whole : new ≡ bottom ++ reverse words =
    sym (reverse-reverse new) ∙ ap (λ (xs : List ℕ). reverse xs) is ∙ reverse-append words (reverse bottom) ∙ ap (λ (xs : List ℕ). xs ++ reverse words) (reverse-reverse bottom) in
    let long : length bottom ≡ height = length-take-le height operands low in
    let size : length new ≡ length bottom + length (reverse words) = ap length whole ∙ length-append bottom (reverse words) in
    (ap (take height) whole ∙ take-append-le height bottom (reverse words) (omega arith) ∙ take-take height height operands (omega arith), omega arith)

labels_under : (c : Context) (body : Expr) (operands new words under : List ℕ) (ls : List OpenLabel) (ps : List Piece) (types : List (List ValType)) (ends : List ValType) → Around body (length operands) ls ps → LabelsTyped c (labels_of body operands ls) types ends under → reverse new ≡ words ++ under → IsOver operands new ls
labels_under c body operands new words under [] ps types ends h t is = record { same = refl; enough = omega arith }
labels_under c body operands new words under (l ∷ ls) ps [] ends h t is = absurd t
labels_under c body operands new words under (l ∷ ls) ps (type ∷ types) ends h t is =
    let over = over_under operands new words l.height h.1 (is ∙ ap (λ (us : List ℕ). words ++ us) t.1) in
    record { same = over.0; enough = over.1 }

-- Where a frame that is typed has the labels of a frame by places, its values are over those under the innermost label.
pub typed_under : (s : Store) (waits gives : List ValType) (f : Frame) (k : stack.Frame) (operands : List ℕ) → IsPlaced f → FrameTyped s waits gives k → k.labels ≡ (frame_of f).labels → k.values ≡ reverse operands → KeepsUnder f operands
typed_under s waits gives f k operands p h labels values =
    let ls : List OpenLabel = reverse f.labels.items in
    let typed : LabelsTyped h.context (labels_of f.code.value f.operands.items ls) h.types h.ends h.under = subst (λ (ms : List stack.Label). LabelsTyped h.context ms h.types h.ends h.under) labels h.around in
    let over = labels_under h.context f.code.value f.operands.items operands h.words h.under ls (left_at f.at f.code.value) h.types h.ends p.1 typed (sym values ∙ h.values_are) in
    record { same = over.same; enough = over.enough }
