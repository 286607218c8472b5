use Rattle.std.proofs.Common.{ap, ◌∙◌, sym, List}
use Rattle.std.specs.Prelude.{slice_get}
use Rattle.syntax_trees.specs.Expr.{Expr, unflat, first_op, left_at}
use Rattle.syntax_trees.specs.declared.instr.Op.{Op}
use Rattle.syntax_trees.proofs.Walking.{op_there, gets}
use Rattle.syntax_trees.proofs.body.Body.op_at.Goals as goal

pub returns : goal.returns
returns c =
    gets _ _ _ c.get.ensures.lookup.3
    ∙ ap (λ (ops : List Op). slice_get ops c.args.at) (c.deref.ensures.value ∙ sym c.self.invariant)
    ∙ op_there c.args.at (unflat c.self.inside.code.items)
    ∙ ap (λ (e : Expr). first_op (left_at c.args.at e)) c.self.view_is
