use Rattle.std.proofs.Common.{subst}
use Rattle.link_instances.specs.declared.comparing.Comparison.{Comparison}
use Rattle.link_instances.specs.Comparing.{IsCompared}
use Rattle.link_instances.proofs.Going.{fit_compared, fit_inside}
use Rattle.link_instances.proofs.instances.Instances.fit.Goals as goal

pub returns-in-Agrees-clause-fits : goal.returns-in-Agrees-clause-fits
returns-in-Agrees-clause-fits c = λ w d x h s e.
    (h, rw c.fit_of.ensures (fit_compared c.args.types.now w d x c.in-Agrees.agrees (subst (λ (k : Comparison). IsCompared c.args.types.now w d x k) c.in-Agrees.is (c.compare.ensures.compared w d x s e))))

pub returns-in-Inside-clause-fits : goal.returns-in-Inside-clause-fits
returns-in-Inside-clause-fits c = λ w d x h s e.
    let (exports, externs, d_is, x_is, instance, type) = subst (λ (k : Comparison). IsCompared c.args.types.now w d x k) c.in-Inside.is (c.compare.ensures.compared w d x s e) in
    fit_inside c.args.types.now w c.fit_inside.new.self d x exports externs c.fit_inside.result d_is x_is (c.fit_inside.ensures.fits w exports externs h instance type)
