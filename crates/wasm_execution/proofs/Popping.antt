-- Frames from which the last value was taken.
use Rattle.std.proofs.Common.{◌≡◌, ℕ, List, ◌∷◌, ap, sym, ◌∙◌, subst}
use Rattle.syntax_trees.specs.declared.instr.Instr.{Instr}
use Rattle.syntax_trees.specs.Expr.{Expr, Plain}
use Rattle.wasm_store.specs.Stack.{Label, Frame}
use Rattle.wasm_execution.specs.Shape.{rest_behind, HasOver}
use Rattle.wasm_execution.proofs.Ready.{BranchReady}

pub record Popped (f p : Frame) (n : ℕ) : Type 0 where
  pub value : f.values ≡ n ∷ p.values
  pub frame : p ≡ record f { values = p.values }

pub popped_rest : (f p : Frame) (n : ℕ) (e : Expr) → Popped f p n → f.rest ≡ e → p.rest ≡ e
popped_rest f p n e k is = ap (λ (p : Frame). p.rest) k.frame ∙ is

pub popped_back : (f p : Frame) (n : ℕ) (e : Expr) → Popped f p n → p.rest ≡ e → f.rest ≡ e
popped_back f p n e k is = sym (ap (λ (p : Frame). p.rest) k.frame) ∙ is

pub popped_labels : (f p : Frame) (n : ℕ) → Popped f p n → p.labels ≡ f.labels
popped_labels f p n k = ap (λ (p : Frame). p.labels) k.frame

pub ready_popped : (f p : Frame) (n depth : ℕ) → Popped f p n → ((n : ℕ) (vs : List ℕ) → f.values ≡ n ∷ vs → BranchReady depth f.labels vs) → BranchReady depth p.labels p.values
ready_popped f p n depth k ready =
    subst (λ (ls : List Label). BranchReady depth ls p.values) (sym (popped_labels f p n k)) (ready n p.values k.value)

pub over_popped : (f p : Frame) (n count : ℕ) → Popped f p n → ((n : ℕ) (vs : List ℕ) → f.values ≡ n ∷ vs → HasOver count f.labels vs) → HasOver count p.labels p.values
over_popped f p n count k over =
    subst (λ (ls : List Label). HasOver count ls p.values) (sym (popped_labels f p n k)) (over n p.values k.value)

-- and which has gone behind an instruction
pub popped_behind : (f p g : Frame) (n : ℕ) (i : Instr) (r : Expr) → Popped f p n → f.rest ≡ Plain i r → g ≡ record p { rest = rest_behind p.rest } → g ≡ record f { values = p.values; rest = r }
popped_behind f p g n i r k e new =
    let rest : p.rest ≡ Plain i r = popped_rest f p n (Plain i r) k e in
    new ∙ ap (λ (e : Expr). (let h : Frame = record p { rest = rest_behind e } in h)) rest ∙ ap (λ (q : Frame). (let h : Frame = record q { rest = r } in h)) k.frame
