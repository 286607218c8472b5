use Rattle.std.proofs.Common.{◌≡◌, [], length, reverse, min, refl, ap, sym, ◌∙◌, arith, List}
use Rattle.syntax_trees.specs.Expr.{Expr, tree_of, left_at}
use Rattle.wasm_execution.specs.declared.frame.OpenLabel.{OpenLabel}
use Rattle.wasm_execution.specs.Places.{labels_of}
use Rattle.wasm_execution.proofs.Changing.{same_frames}
use Rattle.wasm_execution.proofs.Landing.{results_left}
use Rattle.wasm_execution.proofs.frame.Frame.go_to_end.Goals as goal

pub returns-clause-frame : goal.returns-clause-frame
returns-clause-frame c =
    let none : left_at c.len-self.result c.args.self.now.code.value ≡ [] = ap (λ (e : Expr). left_at c.len-self.result e) (sym c.deref.ensures) ∙ c.len-self.ensures.end in
    let kept : c.min-kept.result ≡ min c.args.self.now.results (length c.args.self.now.operands.items) = omega arith in
    same_frames _ _ refl refl refl
    (results_left c.args.self.now.operands.items c.unwind.new.operands.items c.args.self.now.results c.min-kept.result kept c.unwind.ensures)
    (ap tree_of none)
    (ap (λ (ls : List OpenLabel). labels_of c.args.self.now.code.value c.unwind.new.operands.items (reverse ls)) c.clear.ensures.items)
