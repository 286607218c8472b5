use Rattle.std.proofs.Common.{◌≡◌, [], length, refl, ap, sym, ◌∙◌, None}
use Rattle.syntax_trees.specs.Expr.{Expr, left_at}
use Rattle.wasm_execution.specs.declared.frame.OpenLabel.{OpenLabel}
use Rattle.wasm_execution.proofs.Changing.{begins, first_label}
use Rattle.wasm_execution.proofs.frame.Frame.begin.Goals as goal

pub returns-clause-placed : goal.returns-clause-placed
returns-clause-placed c =
    let label : OpenLabel = record { arity = c.args.results; height = 0; again = None; after = c.len-after.result } in
    let none : left_at c.len-after.result c.args.code.value ≡ [] = ap (λ (e : Expr). left_at c.len-after.result e) (sym c.deref.ensures) ∙ c.len-after.ensures.end in
    (begins c.len-after.result c.args.code.value none c.len-after.type_inv, first_label c.args.code.value (length c.new.result.items) c.new-labels.result.items c.push.new.self.items label none refl refl c.new-labels.ensures.items c.in_ok-push.ensures.items)
