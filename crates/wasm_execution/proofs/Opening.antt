-- Blocks, loops and `if`s that begin: what is around what is inside, and the label that is seen.
use Rattle.std.proofs.Common.{◌≡◌, ◌<◌, ◌+◌, ◌-◌, ◌^◌, ℕ, List, [], ◌∷◌, ◌++◌, drop, length, reverse, ap, ap₂, sym, ◌∙◌, subst, Option, Some, None, Fits, w64}
use Rattle.std.specs.Option.{option_map, IfSome}
use Rattle.std.proofs.lemmas.List.{reverse-append}
use Rattle.syntax_trees.specs.Expr.{Expr, Piece, tree_of, behind_op, left_at, op_count}
use Rattle.wasm_code.specs.Jumps as jumps
use Rattle.wasm_store.specs.Stack as stack
use Rattle.wasm_execution.specs.declared.frame.OpenLabel.{OpenLabel}
use Rattle.wasm_execution.specs.Places.{rest_at, labels_of, Encloses, Around}
use Rattle.wasm_execution.specs.Shape.{HasOver, rest_behind, first_part, second_part, BeginsBlock, BeginsIf, BeginsLoop}
use Rattle.wasm_execution.proofs.Pieces.{IsOpened, block_opened, second_opened, loop_opened, left_next}
use Rattle.wasm_execution.proofs.Labels.{entered_around, entered_label}
use Rattle.wasm_execution.proofs.Changing.{place_fits}

-- what is seen within a block whose label was pushed, at the place inside
pub record IsEntered (body : Expr) (operands : List ℕ) (labels new : List OpenLabel) (l : OpenLabel) (at there params : ℕ) (inside : Expr) (again : Option Expr) : Type 0 where
  pub around : Around body (length operands) (reverse new) (left_at there body)
  pub labels_are : ◌≡◌ {A = List stack.Label} (labels_of body operands (reverse new)) (record { arity = l.arity; under = drop params (reverse operands); again = again; after = rest_behind (rest_at at body) } ∷ labels_of body operands (reverse labels))
  pub rest : rest_at there body ≡ inside

-- The place inside of what begins is a number of the machine.
pub inside_fits : (at : ℕ) (body : Expr) (inner behind : List Piece) (inside : Expr) → IsOpened (left_at at body) inner behind inside → op_count body < 2 ^ 64 → Fits w64 (at + 1)
inside_fits at body inner behind inside o fits = place_fits at body o.first.0 o.first.1 fits

is_entered : (body : Expr) (operands : List ℕ) (labels new : List OpenLabel) (l : OpenLabel) (at there params : ℕ) (inner : List Piece) (inside : Expr) (again : Option Expr) → Around body (length operands) (reverse labels) (left_at at body) → HasOver params (labels_of body operands (reverse labels)) (reverse operands) → l.height ≡ length operands - params → IsOpened (left_at at body) inner (left_at l.after body) inside → IfSome l.again (λ at. Encloses (left_at at body) (left_at l.after body)) → option_map (λ at. rest_at at body) l.again ≡ again → left_at there body ≡ inner → new ≡ labels ++ l ∷ [] → IsEntered body operands labels new l at there params inside again
is_entered body operands labels new l at there params inner inside again h over height o placed seen is pushed =
    let turned : reverse new ≡ l ∷ reverse labels = ap (λ (ls : List OpenLabel). reverse ls) pushed ∙ reverse-append labels (l ∷ []) in
    let around : Around body (length operands) (l ∷ reverse labels) inner = entered_around body operands (reverse labels) l (left_at at body) inner inside params h over height o placed in
    let label = entered_label body operands (reverse labels) l (left_at at body) inner inside params h over height o in
    record {
      around = subst (λ (ls : List OpenLabel). Around body (length operands) ls (left_at there body)) (sym turned) (subst (Around body (length operands) (l ∷ reverse labels)) (sym is) around);
      labels_are = ap (labels_of body operands) turned ∙ ap₂ (λ (m : stack.Label) (o : Option Expr). let k : stack.Label = record { arity = m.arity; under = m.under; again = o; after = m.after } in k ∷ labels_of body operands (reverse labels)) label seen;
      rest = ap tree_of is ∙ o.part;
    }

no_again : (body : Expr) (l : OpenLabel) → l.again ≡ None → IfSome l.again (λ at. Encloses (left_at at body) (left_at l.after body))
no_again body l none = subst (λ (o : Option ℕ). IfSome o (λ at. Encloses (left_at at body) (left_at l.after body))) (sym none) tt

-- A block, or the first part of an `if`, begins.
pub block_begins : (body : Expr) (operands : List ℕ) (labels new : List OpenLabel) (l : OpenLabel) (at params : ℕ) → Around body (length operands) (reverse labels) (left_at at body) → BeginsBlock (rest_at at body) → HasOver params (labels_of body operands (reverse labels)) (reverse operands) → left_at l.after body ≡ jumps.behind_block (left_at at body) → l.height ≡ length operands - params → l.again ≡ None → new ≡ labels ++ l ∷ [] → IsEntered body operands labels new l at (at + 1) params (first_part (rest_at at body)) None
block_begins body operands labels new l at params h begins over behind height none pushed =
    let o : IsOpened (left_at at body) (behind_op (left_at at body)) (left_at l.after body) (first_part (rest_at at body)) =
    subst (λ (behind : List Piece). IsOpened (left_at at body) (behind_op (left_at at body)) behind (first_part (rest_at at body))) (sym behind) (block_opened (left_at at body) begins) in
    is_entered body operands labels new l at (at + 1) params (behind_op (left_at at body)) (first_part (rest_at at body)) None h over height o (no_again body l none) (ap (option_map (λ at. rest_at at body)) none) (left_next at body) pushed

-- The second part of an `if` begins.
pub second_begins : (body : Expr) (operands : List ℕ) (labels new : List OpenLabel) (l : OpenLabel) (at there params : ℕ) → Around body (length operands) (reverse labels) (left_at at body) → BeginsIf (rest_at at body) → HasOver params (labels_of body operands (reverse labels)) (reverse operands) → left_at l.after body ≡ jumps.behind_block (left_at at body) → left_at there body ≡ jumps.second_part (left_at at body) → l.height ≡ length operands - params → l.again ≡ None → new ≡ labels ++ l ∷ [] → IsEntered body operands labels new l at there params (second_part (rest_at at body)) None
second_begins body operands labels new l at there params h begins over behind second height none pushed =
    let o : IsOpened (left_at at body) (jumps.second_part (left_at at body)) (left_at l.after body) (second_part (rest_at at body)) =
    subst (λ (behind : List Piece). IsOpened (left_at at body) (jumps.second_part (left_at at body)) behind (second_part (rest_at at body))) (sym behind) (second_opened (left_at at body) begins) in
    is_entered body operands labels new l at there params (jumps.second_part (left_at at body)) (second_part (rest_at at body)) None h over height o (no_again body l none) (ap (option_map (λ at. rest_at at body)) none) second pushed

-- A loop begins, to whose body a branch goes.
pub loop_begins : (body : Expr) (operands : List ℕ) (labels new : List OpenLabel) (l : OpenLabel) (at params : ℕ) → Around body (length operands) (reverse labels) (left_at at body) → BeginsLoop (rest_at at body) → HasOver params (labels_of body operands (reverse labels)) (reverse operands) → left_at l.after body ≡ jumps.behind_block (left_at at body) → l.height ≡ length operands - params → l.again ≡ Some (at + 1) → new ≡ labels ++ l ∷ [] → IsEntered body operands labels new l at (at + 1) params (first_part (rest_at at body)) (Some (first_part (rest_at at body)))
loop_begins body operands labels new l at params h begins over behind height again pushed =
    let o : IsOpened (left_at at body) (behind_op (left_at at body)) (left_at l.after body) (first_part (rest_at at body)) =
    subst (λ (behind : List Piece). IsOpened (left_at at body) (behind_op (left_at at body)) behind (first_part (rest_at at body))) (sym behind) (loop_opened (left_at at body) begins) in
    let inside : Encloses (left_at (at + 1) body) (left_at l.after body) = subst (λ (ps : List Piece). Encloses ps (left_at l.after body)) (sym (left_next at body)) o.encloses in
    is_entered body operands labels new l at (at + 1) params (behind_op (left_at at body)) (first_part (rest_at at body)) (Some (first_part (rest_at at body))) h over height o
    (subst (λ (o : Option ℕ). IfSome o (λ at. Encloses (left_at at body) (left_at l.after body))) (sym again) inside)
    (ap (option_map (λ at. rest_at at body)) again ∙ ap Some (ap tree_of (left_next at body) ∙ o.part)) (left_next at body) pushed
