-- Frames whose operands or labels change at their ends.
use Rattle.std.proofs.Common.{◌≡◌, ◌≤◌, ◌<◌, ◌+◌, ◌-◌, ◌^◌, ℕ, zero, suc, false, List, [], ◌∷◌, ◌++◌, take, drop, length, reverse, ap, ap₂, sym, ◌∙◌, subst, arith, Option, Some, None, Fits, w64, length-append}
use Rattle.std.proofs.lemmas.List.{take-take, take-append-le, length-take-le, reverse-append, reverse-reverse}
use Rattle.std.specs.List.{slice_get}
use Rattle.std.specs.Option.{IfSome}
use Rattle.syntax_trees.specs.declared.instr.Op.{Op}
use Rattle.syntax_trees.specs.declared.instr.Instr.{Instr}
use Rattle.syntax_trees.specs.Expr.{Expr, Plain, Piece, tree_of, first_op, behind_op, left_at, flat, op_count}
use Rattle.syntax_trees.proofs.Walking.{op_there}
use Rattle.wasm_store.specs.Stack as stack
use Rattle.wasm_execution.specs.declared.frame.OpenLabel.{OpenLabel}
use Rattle.wasm_execution.specs.Places.{rest_at, label_of, labels_of, Encloses, Around}
use Rattle.wasm_execution.specs.Shape.{HasOver, rest_behind}
use Rattle.wasm_execution.proofs.Pieces.{is_past, left_next, place_within}
use Rattle.wasm_execution.proofs.Labels.{height_under, height_over, around_with, around_moved, labels_same, low_enough}
use Rattle.wasm_execution.proofs.Reversed.{under_them, last_or_all}

-- frames of the same parts
pub same_frames : (f g : stack.Frame) → f.instance ≡ g.instance → f.results ≡ g.results → f.locals ≡ g.locals → f.values ≡ g.values → f.rest ≡ g.rest → f.labels ≡ g.labels → f ≡ g
same_frames f g instance results locals values rest labels =
    ap₂ (λ (i : ℕ) (r : ℕ). let k : stack.Frame = record { instance = i; results = r; locals = f.locals; values = f.values; rest = f.rest; labels = f.labels } in k) instance results
    ∙ ap₂ (λ (ls : List ℕ) (vs : List ℕ). let k : stack.Frame = record { instance = g.instance; results = g.results; locals = ls; values = vs; rest = f.rest; labels = f.labels } in k) locals values
    ∙ ap₂ (λ (e : Expr) (ls : List stack.Label). let k : stack.Frame = record { instance = g.instance; results = g.results; locals = g.locals; values = g.values; rest = e; labels = ls } in k) rest labels

-- The place behind an operation is a number of the machine.
pub place_fits : (at : ℕ) (body : Expr) (op : Op) → first_op (left_at at body) ≡ Some op → op_count body < 2 ^ 64 → Fits w64 (at + 1)
place_fits at body op h fits = let w = place_within at body op h in omega arith

-- what operands with fewer or more on top are seen as
pub record IsChanged (body : Expr) (operands : List ℕ) (ls : List OpenLabel) (ps : List Piece) (new values : List ℕ) : Type 0 where
  pub around : Around body (length new) ls ps
  pub labels : labels_of body new ls ≡ labels_of body operands ls
  pub are : reverse new ≡ values

pub fewer : (body : Expr) (operands : List ℕ) (ls : List OpenLabel) (ps : List Piece) (count : ℕ) (new : List ℕ) → Around body (length operands) ls ps → HasOver count (labels_of body operands ls) (reverse operands) → new ≡ take (length operands - count) operands → IsChanged body operands ls ps new (drop count (reverse operands))
fewer body operands ls ps count new h over is =
    let room = height_over body operands count ls ps h over in
    let low : height_under ls ≤ length operands - count = omega arith in
    let kept : take (height_under ls) new ≡ take (height_under ls) operands = ap (take (height_under ls)) is ∙ take-take (height_under ls) (length operands - count) operands low in
    let size : length new ≡ length operands - count = ap length is ∙ length-take-le (length operands - count) operands (omega arith) in
    record {
      around = around_with body (length operands) (length new) ls ps h (omega arith);
      labels = labels_same body (length operands) new operands ls ps h kept;
      are = ap reverse is ∙ sym (under_them operands count (omega arith));
    }

pub more : (body : Expr) (operands words : List ℕ) (ls : List OpenLabel) (ps : List Piece) (new : List ℕ) → Around body (length operands) ls ps → new ≡ operands ++ words → IsChanged body operands ls ps new (reverse words ++ reverse operands)
more body operands words ls ps new h is =
    let low = low_enough body (length operands) ls ps h in
    let kept : take (height_under ls) new ≡ take (height_under ls) operands = ap (take (height_under ls)) is ∙ take-append-le (height_under ls) operands words low in
    let size : length new ≡ length operands + length words = ap length is ∙ length-append operands words in
    record {
      around = around_with body (length operands) (length new) ls ps h (omega arith);
      labels = labels_same body (length operands) new operands ls ps h kept;
      are = ap reverse is ∙ reverse-append operands words;
    }

-- what labels without the innermost one are seen as
pub record IsLeft (body : Expr) (operands : List ℕ) (labels new : List OpenLabel) (l : OpenLabel) : Type 0 where
  pub around : Around body (length operands) (reverse new) (left_at l.after body)
  pub labels_are : labels_of body operands (reverse labels) ≡ label_of body operands l ∷ labels_of body operands (reverse new)

left_around : (body : Expr) (most : ℕ) (l : OpenLabel) (ls : List OpenLabel) (ps : List Piece) → Around body most (l ∷ ls) ps → Around body most ls (left_at l.after body)
left_around body most l ls ps h = let low = low_enough body l.height ls (left_at l.after body) h.3 in let k = h.1 in around_with body l.height most ls (left_at l.after body) h.3 (omega arith)

pub is_left : (body : Expr) (operands : List ℕ) (labels new : List OpenLabel) (l : OpenLabel) (ps : List Piece) → Around body (length operands) (reverse labels) ps → labels ≡ new ++ l ∷ [] → IsLeft body operands labels new l
is_left body operands labels new l ps h is =
    let turned : reverse labels ≡ l ∷ reverse new = ap (λ (ls : List OpenLabel). reverse ls) is ∙ reverse-append new (l ∷ []) in
    record {
      around = left_around body (length operands) l (reverse new) ps (subst (λ (ls : List OpenLabel). Around body (length operands) ls ps) turned h);
      labels_are = ap (labels_of body operands) turned;
    }

-- behind an instruction that holds no others
pub record IsAhead (body : Expr) (most : ℕ) (ls : List OpenLabel) (at : ℕ) : Type 0 where
  pub around : Around body most ls (left_at (at + 1) body)
  pub rest : rest_at (at + 1) body ≡ rest_behind (rest_at at body)
  pub fits : op_count body < 2 ^ 64 → Fits w64 (at + 1)

pub is_ahead : (body : Expr) (most : ℕ) (ls : List OpenLabel) (at : ℕ) (i : Instr) (e : Expr) → Around body most ls (left_at at body) → rest_at at body ≡ Plain i e → IsAhead body most ls at
is_ahead body most ls at i e h plain =
    let p = is_past (left_at at body) i e plain in
    let past = p.1 in
    record {
      around = subst (Around body most ls) (sym (left_next at body)) (around_moved body most ls (left_at at body) (behind_op (left_at at body)) h past.around past.some);
      rest = ap tree_of (left_next at body) ∙ past.rest ∙ sym (ap rest_behind plain);
      fits = place_fits at body p.0 past.first;
    }

past_end : (ops : List Op) (at : ℕ) → slice_get ops at ≡ None → length ops ≤ at
past_end [] at h = omega arith
past_end (op ∷ ops) zero h = absurd (cc)
past_end (op ∷ ops) (suc at) h = let k = past_end ops at h in omega arith

-- the beginning of a body, whose end is at this place
all_within : (at : ℕ) (body : Expr) → left_at at body ≡ [] → op_count body ≤ at
all_within at body none = past_end (flat body) at (op_there at body ∙ ap first_op none)

pub begins : (at : ℕ) (body : Expr) → left_at at body ≡ [] → at < 2 ^ 64 → op_count body < 2 ^ 64
begins at body none fits = let within = all_within at body none in omega arith

pub first_label : (body : Expr) (most : ℕ) (labels new : List OpenLabel) (l : OpenLabel) → left_at l.after body ≡ [] → l.height ≡ 0 → l.again ≡ None → labels ≡ [] → new ≡ labels ++ l ∷ [] → Around body most (reverse new) ((false, body) ∷ [])
first_label body most labels new l none height again empty pushed =
    let turned : reverse new ≡ l ∷ [] = ap (λ (ls : List OpenLabel). reverse ls) (pushed ∙ ap (λ (ls : List OpenLabel). ls ++ l ∷ []) empty) in
    let no : IfSome l.again (λ at. Encloses (left_at at body) (left_at l.after body)) = subst (λ (o : Option ℕ). IfSome o (λ at. Encloses (left_at at body) (left_at l.after body))) (sym again) tt in
    subst (λ (ls : List OpenLabel). Around body most ls ((false, body) ∷ [])) (sym turned) (sym none, omega arith, no, none)

-- operands that were taken off
pub taken_off : (operands taken : List ℕ) (count : ℕ) → taken ≡ drop (length operands - count) operands → taken ≡ reverse (take count (reverse operands))
taken_off operands taken count is = is ∙ sym (reverse-reverse (drop (length operands - count) operands)) ∙ ap (λ (xs : List ℕ). reverse xs) (sym (last_or_all operands count))
