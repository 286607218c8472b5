-- Labels by places and heights: what they are seen as when operands change, and what is around a part of a block.
use Rattle.std.proofs.Common.{◌≡◌, ◌≤◌, ◌+◌, ◌-◌, ℕ, zero, suc, List, [], ◌∷◌, take, drop, length, reverse, refl, ap, ap₂, sym, ◌∙◌, subst, arith, Some}
use Rattle.std.specs.List.{slice_get}
use Rattle.std.specs.Option.{option_map, IfSome}
use Rattle.std.proofs.lemmas.List.{take-take, length-take-le, length-reverse}
use Rattle.syntax_trees.specs.Expr.{Expr, Piece, tree_of, left_at}
use Rattle.wasm_store.specs.Stack as stack
use Rattle.wasm_execution.specs.declared.frame.OpenLabel.{OpenLabel}
use Rattle.wasm_execution.specs.Places.{rest_at, label_of, labels_of, Encloses, Around}
use Rattle.wasm_execution.specs.Shape.{HasOver, rest_behind}
use Rattle.wasm_execution.proofs.Pieces.{IsOpened}
use Rattle.wasm_execution.proofs.Reversed.{under_them}

-- how many operands lie under the innermost label, of labels with the innermost one first
abbrev pub height_under : List OpenLabel → ℕ
height_under [] = 0
height_under (l ∷ ls) = l.height

pub low_enough : (body : Expr) (most : ℕ) (ls : List OpenLabel) (ps : List Piece) → Around body most ls ps → height_under ls ≤ most
low_enough body most [] ps h = omega arith
low_enough body most (l ∷ ls) ps h = h.1

pub around_with : (body : Expr) (most other : ℕ) (ls : List OpenLabel) (ps : List Piece) → Around body most ls ps → height_under ls ≤ other → Around body other ls ps
around_with body most other [] ps h low = h
around_with body most other (l ∷ ls) ps h low = (h.0, low, h.2, h.3)

-- The labels are around what is left elsewhere in the same part.
pub around_moved : (body : Expr) (most : ℕ) (ls : List OpenLabel) (ps qs : List Piece) → Around body most ls ps → ((outer : List Piece) → Encloses ps outer → Encloses qs outer) → (ps ≡ [] → ⊥) → Around body most ls qs
around_moved body most [] ps qs h f some = absurd (some h)
around_moved body most (l ∷ ls) ps qs h f some = (f (left_at l.after body) h.0, h.1, h.2, h.3)

abbrev made_label : (body : Expr) → OpenLabel → List ℕ → stack.Label
made_label body l us = record { arity = l.arity; under = reverse us; again = option_map (λ at. rest_at at body) l.again; after = rest_at l.after body }

-- Labels see only the operands under the innermost one.
pub labels_same : (body : Expr) (most : ℕ) (xs ys : List ℕ) (ls : List OpenLabel) (ps : List Piece) → Around body most ls ps → take (height_under ls) xs ≡ take (height_under ls) ys → labels_of body xs ls ≡ labels_of body ys ls
labels_same body most xs ys [] ps h e = refl
labels_same body most xs ys (l ∷ ls) ps h e =
    let low : height_under ls ≤ l.height = low_enough body l.height ls (left_at l.after body) h.3 in
    let under : take (height_under ls) xs ≡ take (height_under ls) ys =
    sym (take-take (height_under ls) l.height xs low) ∙ ap (take (height_under ls)) e ∙ take-take (height_under ls) l.height ys low in
    ap₂ (λ (us : List ℕ) (ms : List stack.Label). made_label body l us ∷ ms) e (labels_same body l.height xs ys ls (left_at l.after body) h.3 under)

-- The operands over those under the innermost label are so many.
pub height_over : (body : Expr) (operands : List ℕ) (count : ℕ) (ls : List OpenLabel) (ps : List Piece) → Around body (length operands) ls ps → HasOver count (labels_of body operands ls) (reverse operands) → height_under ls + count ≤ length operands
height_over body operands count [] ps h over = let e = length-reverse operands in omega arith
height_over body operands count (l ∷ ls) ps h over =
    let low : l.height ≤ length operands = h.1 in
    let e = length-reverse operands in
    let k = length-reverse (take l.height operands) in
    let n = length-take-le l.height operands low in
    let room : length (reverse (take l.height operands)) + count ≤ length (reverse operands) = over in
    omega arith

-- A block begins: its label is around what is inside, and is seen as one over its parameters.
pub entered_around : (body : Expr) (operands : List ℕ) (ls : List OpenLabel) (l : OpenLabel) (ps inner : List Piece) (inside : Expr) (params : ℕ) → Around body (length operands) ls ps → HasOver params (labels_of body operands ls) (reverse operands) → l.height ≡ length operands - params → IsOpened ps inner (left_at l.after body) inside → IfSome l.again (λ at. Encloses (left_at at body) (left_at l.after body)) → Around body (length operands) (l ∷ ls) inner
entered_around body operands ls l ps inner inside params h over height o again =
    let room = height_over body operands params ls ps h over in
    let low : height_under ls ≤ l.height = omega arith in
    let more : Around body l.height ls (left_at l.after body) =
    around_with body (length operands) l.height ls (left_at l.after body) (around_moved body (length operands) ls ps (left_at l.after body) h o.around o.some) low in
    (o.encloses, omega arith, again, more)

pub entered_label : (body : Expr) (operands : List ℕ) (ls : List OpenLabel) (l : OpenLabel) (ps inner : List Piece) (inside : Expr) (params : ℕ) → Around body (length operands) ls ps → HasOver params (labels_of body operands ls) (reverse operands) → l.height ≡ length operands - params → IsOpened ps inner (left_at l.after body) inside → ◌≡◌ {A = stack.Label} (label_of body operands l) (record { arity = l.arity; under = drop params (reverse operands); again = option_map (λ at. rest_at at body) l.again; after = rest_behind (tree_of ps) })
entered_label body operands ls l ps inner inside params h over height o =
    let room = height_over body operands params ls ps h over in
    let under : reverse (take l.height operands) ≡ drop params (reverse operands) =
    ap (λ (n : ℕ). reverse (take n operands)) height ∙ sym (under_them operands params (omega arith)) in
    ap₂ (λ (us : List ℕ) (e : Expr). let m : stack.Label = record { arity = l.arity; under = us; again = option_map (λ at. rest_at at body) l.again; after = e } in m) under o.rest

-- The label of a depth, and those around it.
pub record IsFound (body : Expr) (most depth : ℕ) (ls : List OpenLabel) (l : OpenLabel) : Type 0 where
  pub here : drop depth ls ≡ l ∷ drop (suc depth) ls
  pub low : l.height ≤ most
  pub again : IfSome l.again (λ at. Encloses (left_at at body) (left_at l.after body))
  pub around : Around body l.height (drop (suc depth) ls) (left_at l.after body)

pub is_found : (body : Expr) (most depth : ℕ) (ls : List OpenLabel) (ps : List Piece) (l : OpenLabel) → Around body most ls ps → slice_get ls depth ≡ Some l → IsFound body most depth ls l
is_found body most depth [] ps l h e = absurd (cc)
is_found body most zero (k ∷ ls) ps l h e =
    let same : k ≡ l = cc in
    subst (λ (l : OpenLabel). IsFound body most zero (k ∷ ls) l) same (record { here = refl; low = h.1; again = h.2; around = h.3 })
is_found body most (suc depth) (k ∷ ls) ps l h e =
    let there : IsFound body k.height depth ls l = is_found body k.height depth ls (left_at k.after body) l h.3 e in
    let low = h.1 in
    let lower = there.low in
    record { here = there.here; low = omega arith; again = there.again; around = there.around }
