use Rattle.std.proofs.Common.{ap, ◌∙◌, length, ℕ}
use Rattle.syntax_trees.specs.Expr.{Expr, flat, left_at}
use Rattle.syntax_trees.proofs.Walking.{left_none}
use Rattle.wasm_code.proofs.code.Code.len.Goals as goal

pub returns-clause-end : goal.returns-clause-end
returns-clause-end c =
    ap (λ (n : ℕ). left_at n c.args.self.now) (c.len.ensures ∙ ap (λ (e : Expr). length (flat e)) c.self.view_is)
    ∙ left_none c.args.self.now
