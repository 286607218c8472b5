use Rattle.std.proofs.Common.{sym, ◌∙◌}
use Rattle.link_instances.proofs.Calling.{called_func}
use Rattle.link_instances.proofs.called.push_called.Goals as goal

pub returns-clause-funcs : goal.returns-clause-funcs
returns-clause-funcs c = λ w e are h.
    called_func c.args.types.now w c.args.entry.0 c.args.entry.1 c.in-Some-func.lifted e c.push_func.new.funcs.funcs.items c.args.funcs.now.funcs.items (sym c.func.ensures ∙ c.in-Some-func.is) h (λ f k. c.in_ok-push_func.ensures.funcs f k)
