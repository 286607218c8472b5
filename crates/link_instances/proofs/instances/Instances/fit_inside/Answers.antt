use Rattle.std.proofs.Common.{sym, ◌∙◌}
use Rattle.link_instances.proofs.Turns.{known_fits}
use Rattle.link_instances.proofs.instances.Instances.fit_inside.Goals as goal

pub returns-then-has-clause-fits : goal.returns-then-has-clause-fits
returns-then-has-clause-fits c = λ w exports externs h i k.
    (h, known_fits c.args.types.now c.are_distinct.ensures w c.args.given c.args.asked exports externs i k (h.known _ (sym c.has.ensures ∙ c.if-has.true)))
