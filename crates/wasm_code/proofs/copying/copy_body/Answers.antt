use Rattle.std.proofs.Common.{◌≡◌, List, ap, subst, sym, ◌∙◌}
use Rattle.syntax_trees.specs.declared.instr.Op.{Op}
use Rattle.syntax_trees.specs.Expr.{Expr, flat, unflat, unflat-flat}
use Rattle.wasm_code.proofs.copying.copy_body.Goals as goal

flat_again : (e : Expr) (ops : List Op) → ops ≡ flat e → flat (unflat ops) ≡ ops
flat_again e ops h = subst (λ (ops : List Op). flat (unflat ops) ≡ ops) (sym h) (ap flat (unflat-flat e))

pub from_code-requires : goal.from_code-requires
from_code-requires c = flat_again c.args.body.now c.in_ok-code.code.items (c.in_ok-code.ensures ∙ c.ops.ensures)

pub returns : goal.returns
returns c = c.from_code.ensures ∙ ap unflat (c.in_ok-code.ensures ∙ c.ops.ensures) ∙ unflat-flat c.args.body.now
