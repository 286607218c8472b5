use Rattle.std.proofs.Common.{refl, ◌∙◌}
use Rattle.std.proofs.lemmas.Result.{err_from_is_err_and}
use Rattle.link_instances.proofs.Going.{walk_begun, went_on, ended, failed}
use Rattle.link_instances.proofs.instances.Instances.walk.Goals as goal

pub loop-turn-init : goal.loop-turn-init
loop-turn-init c =
    (λ w exports externs h i k. (h, walk_begun c.args.types.now w c.args.given c.args.asked exports externs c.in_ok-walk.walk i k c.in_ok-walk.ensures), refl)

pub loop-turn-preserved : goal.loop-turn-preserved
loop-turn-preserved c = (
  λ w exports externs h i k.
      let inv = c.loop-turn.invariant.0 w exports externs h i k in
      went_on c.args.types.now w exports externs c.turn.new.self c.turn.new.walk c.turn.result (c.turn.ensures.is w exports externs inv.0 inv.1) c.in_ok-turn.field-0 c.in_ok-turn.was c.in-GoesOn.is,
  c.turn.ensures.kept ∙ c.loop-turn.invariant.1,
)

pub returns-in_err-turn-clause-fits : goal.returns-in_err-turn-clause-fits
returns-in_err-turn-clause-fits c = λ w exports externs h i k.
    let inv = c.loop-turn.invariant.0 w exports externs h i k in
    let kept = failed c.args.types.now w exports externs c.turn.new.self c.turn.new.walk c.turn.result (c.turn.ensures.is w exports externs inv.0 inv.1) _ c.in_err-turn.was in
    let p = err_from_is_err_and c.from_residual-in_err-turn.result c.from_residual-in_err-turn.ensures.1 in
    rw p.1 (kept, tt)

pub returns-in-Ends-clause-fits : goal.returns-in-Ends-clause-fits
returns-in-Ends-clause-fits c = λ w exports externs h i k.
    let inv = c.loop-turn.invariant.0 w exports externs h i k in
    ended c.args.types.now w exports externs c.turn.new.self c.turn.new.walk c.turn.result (c.turn.ensures.is w exports externs inv.0 inv.1) c.in_ok-turn.field-0 c.in-Ends.fit c.in_ok-turn.was c.in-Ends.is

pub returns-clause-fits : goal.returns-clause-fits
returns-clause-fits c = λ w exports externs h i k. ((c.loop-turn.invariant.0 w exports externs h i k).0, tt)
