-- Branches: the operands that are left, and the labels that stay.
use Rattle.std.proofs.Common.{◌≡◌, ◌≤◌, ◌<◌, ◌+◌, ◌-◌, ℕ, suc, List, ◌∷◌, ◌++◌, map, take, drop, length, reverse, ap, sym, ◌∙◌, subst, arith, Option, Some, get_or, length-append, min}
use Rattle.std.specs.List.{slice_get}
use Rattle.std.specs.Option.{option_map, IfSome}
use Rattle.std.proofs.lemmas.List.{take-take, take-append-le, length-take-le, reverse-append, length-reverse, length-map, drop-map}
use Rattle.std.proofs.lemmas.Option.{slice_get-map, slice_get_within}
use Rattle.syntax_trees.specs.Expr.{Expr, Piece, left_at}
use Rattle.wasm_store.specs.Stack as stack
use Rattle.wasm_execution.specs.declared.frame.OpenLabel.{OpenLabel}
use Rattle.wasm_execution.specs.Places.{label_of, labels_of, Encloses, Around}
use Rattle.wasm_execution.proofs.Labels.{height_under, low_enough, around_with, labels_same, IsFound, is_found}
use Rattle.wasm_execution.proofs.Reversed.{last_ones, last_or_all, found_deep, before_it}

-- The label of a depth, by its place, and that a branch finds its operands.
pub record IsTarget (body : Expr) (operands : List ℕ) (labels : List OpenLabel) (depth : ℕ) (l : OpenLabel) : Type 0 where
  pub there : slice_get (labels_of body operands (reverse labels)) depth ≡ Some (label_of body operands l)
  pub found : IsFound body (length operands) depth (reverse labels) l
  pub room : l.height + l.arity ≤ length operands
  pub within : depth < length labels

under_length : (body : Expr) (operands : List ℕ) (l : OpenLabel) (m : stack.Label) → label_of body operands l ≡ m → l.height ≤ length operands → length m.under + m.arity ≤ length (reverse operands) → l.height + l.arity ≤ length operands
under_length body operands l m is low room =
    let under : length (reverse (take l.height operands)) ≡ length m.under = ap (λ (m : stack.Label). length m.under) is in
    let arity : l.arity ≡ m.arity = ap (λ (m : stack.Label). m.arity) is in
    let e = length-reverse (take l.height operands) in
    let k = length-take-le l.height operands low in
    let n = length-reverse operands in
    omega arith

pub depth_within : (body : Expr) (operands : List ℕ) (labels : List OpenLabel) (depth : ℕ) (m : stack.Label) → slice_get (labels_of body operands (reverse labels)) depth ≡ Some m → depth < length labels
depth_within body operands labels depth m h =
    let within : depth < length (map (label_of body operands) (reverse labels)) = slice_get_within (labels_of body operands (reverse labels)) depth m h in
    let e = length-map (reverse labels) (label_of body operands) in
    let k = length-reverse labels in
    omega arith

pub is_target : (body : Expr) (operands : List ℕ) (labels : List OpenLabel) (ps : List Piece) (depth keep : ℕ) (l : OpenLabel) (m : stack.Label) → Around body (length operands) (reverse labels) ps → slice_get (labels_of body operands (reverse labels)) depth ≡ Some m → length m.under + m.arity ≤ length (reverse operands) → keep ≡ length labels - 1 - depth → l ≡ get_or labels keep l → IsTarget body operands labels depth l
is_target body operands labels ps depth keep l m h there room k is =
    let within = depth_within body operands labels depth m there in
    let here : slice_get (reverse labels) depth ≡ Some l = found_deep labels l depth keep within k is in
    let mapped : slice_get (labels_of body operands (reverse labels)) depth ≡ Some (label_of body operands l) =
    slice_get-map (label_of body operands) (reverse labels) depth ∙ ap (option_map (label_of body operands)) here in
    let found = is_found body (length operands) depth (reverse labels) ps l h here in
    let same : label_of body operands l ≡ m = grind (arith, mapped, there) in
    record { there = mapped; found = found; room = under_length body operands l m same found.low room; within = within }

-- what operands are seen as once those between are dropped
pub record IsUnwound (operands left : List ℕ) (height arity : ℕ) : Type 0 where
  pub values : reverse left ≡ take arity (reverse operands) ++ reverse (take height operands)
  pub kept : take height left ≡ take height operands
  pub size : height ≤ length left

pub is_unwound : (operands left : List ℕ) (height arity : ℕ) → height + arity ≤ length operands → left ≡ take height operands ++ drop (length operands - arity) operands → IsUnwound operands left height arity
is_unwound operands left height arity room is =
    let bottom : List ℕ = take height operands in
    let top : List ℕ = drop (length operands - arity) operands in
    let long : length bottom ≡ height = length-take-le height operands (omega arith) in
    let size : length left ≡ length bottom + length top = ap length is ∙ length-append bottom top in
    record {
      values = ap reverse is ∙ reverse-append bottom top ∙ ap (λ (xs : List ℕ). xs ++ reverse bottom) (sym (last_ones operands arity (omega arith)));
      kept = ap (take height) is ∙ take-append-le height bottom top (omega arith) ∙ take-take height height operands (omega arith);
      size = omega arith;
    }

-- what is seen once a branch has landed
pub record IsLanded (body : Expr) (operands : List ℕ) (labels : List OpenLabel) (left : List ℕ) (new : List OpenLabel) (at first : ℕ) : Type 0 where
  pub around : Around body (length left) (reverse new) (left_at at body)
  pub labels_are : labels_of body left (reverse new) ≡ drop first (labels_of body operands (reverse labels))

-- behind a block
pub landed_behind : (body : Expr) (operands : List ℕ) (labels : List OpenLabel) (left : List ℕ) (new : List OpenLabel) (depth keep : ℕ) (l : OpenLabel) → IsTarget body operands labels depth l → IsUnwound operands left l.height l.arity → keep ≡ length labels - 1 - depth → new ≡ take keep labels → IsLanded body operands labels left new l.after (suc depth)
landed_behind body operands labels left new depth keep l t u k is =
    let found = t.found in
    let within = t.within in
    let others : List OpenLabel = drop (suc depth) (reverse labels) in
    let turned : reverse new ≡ others = ap (λ (ls : List OpenLabel). reverse ls) is ∙ before_it labels (suc depth) keep (omega arith) (omega arith) in
    let low : height_under others ≤ l.height = low_enough body l.height others (left_at l.after body) found.around in
    let size = u.size in
    let kept : take (height_under others) left ≡ take (height_under others) operands =
    sym (take-take (height_under others) l.height left low) ∙ ap (take (height_under others)) u.kept ∙ take-take (height_under others) l.height operands low in
    record {
      around = subst (λ (ls : List OpenLabel). Around body (length left) ls (left_at l.after body)) (sym turned) (around_with body l.height (length left) others (left_at l.after body) found.around (omega arith));
      labels_are = ap (labels_of body left) turned ∙ labels_same body l.height left operands others (left_at l.after body) found.around kept ∙ sym (drop-map (label_of body operands) (suc depth) (reverse labels));
    }

-- at the body of a loop
pub landed_again : (body : Expr) (operands : List ℕ) (labels : List OpenLabel) (left : List ℕ) (new : List OpenLabel) (depth keep start : ℕ) (l : OpenLabel) → IsTarget body operands labels depth l → IsUnwound operands left l.height l.arity → l.again ≡ Some start → keep ≡ length labels - 1 - depth → new ≡ take (keep + 1) labels → IsLanded body operands labels left new start depth
landed_again body operands labels left new depth keep start l t u again k is =
    let found = t.found in
    let within = t.within in
    let others : List OpenLabel = drop (suc depth) (reverse labels) in
    let turned : reverse new ≡ l ∷ others = ap (λ (ls : List OpenLabel). reverse ls) is ∙ before_it labels depth (keep + 1) (omega arith) (omega arith) ∙ found.here in
    let inside : Encloses (left_at start body) (left_at l.after body) = subst (λ (o : Option ℕ). IfSome o (λ at. Encloses (left_at at body) (left_at l.after body))) again found.again in
    let around : Around body (length left) (l ∷ others) (left_at start body) = (inside, u.size, found.again, found.around) in
    record {
      around = subst (λ (ls : List OpenLabel). Around body (length left) ls (left_at start body)) (sym turned) around;
      labels_are = ap (labels_of body left) turned ∙ labels_same body (length left) left operands (l ∷ others) (left_at start body) around u.kept ∙ ap (labels_of body operands) (sym found.here) ∙ sym (drop-map (label_of body operands) depth (reverse labels));
    }

-- the results at the end of a function
pub results_left : (operands left : List ℕ) (results kept : ℕ) → kept ≡ min results (length operands) → left ≡ drop (length operands - kept) operands → reverse left ≡ take results (reverse operands)
results_left operands left results kept k is =
    let same : length operands - kept ≡ length operands - results = omega arith in
    ap reverse is ∙ ap (λ (n : ℕ). reverse (drop n operands)) same ∙ sym (last_or_all operands results)
