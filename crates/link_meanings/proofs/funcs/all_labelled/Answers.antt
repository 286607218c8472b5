use Rattle.link_types.proofs.TypesGrow.{grows_trans}
use Rattle.link_types.proofs.ValuesStay.{have_types_more}
use Rattle.link_spec.specs.Types.{close_param}
use Rattle.link_types.specs.Labels.{IsParam}
use Rattle.link_meanings.specs.Levels.{enclosed_types}
use Rattle.link_meanings.proofs.Growing.{types_stay}
use Rattle.link_meanings.proofs.Labelled.{param_stays}
use Rattle.link_meanings.proofs.Closing.{found_more, found_ends, found_open}
use Rattle.link_meanings.proofs.funcs.all_labelled.Goals as goal

pub returns-in-None-clause-ok : goal.returns-in-None-clause-ok
returns-in-None-clause-ok c = λ closed h.
    let kept = c.loop-param.invariant in
    let stays = types_stay c.args.types.now c.loop-param.types kept.0 (enclosed_types c.args.scope.now) closed h in
    found_open (IsParam c.loop-param.types.values) (close_param closed) c.args.params.now c.loop-param.all.items c.param-item.result c.param-item.result c.loop-param.param-index c.loop-param-test.true c.param-item.is
    (rw c.in-None.is at (c.in_ok-param.ensures.ok closed stays)) (kept.2 closed h)

pub loop-param-preserved : goal.loop-param-preserved
loop-param-preserved c =
    let first = c.args.types.now in
    let old = c.loop-param.types in
    let new = c.labelled.new.types in
    let kept = c.loop-param.invariant in
    let grows = c.labelled.ensures.grows in (
      grows_trans first old new kept.0 grows,
      rw c.in_ok-push-in-Some.ensures.items (have_types_more old new grows c.loop-param.all.items c.in-Some.param kept.1 (rw c.in-Some.is at c.in_ok-param.ensures.there)),
      λ closed h. (let stays = types_stay first old kept.0 (enclosed_types c.args.scope.now) closed h in
          rw c.in_ok-push-in-Some.ensures.items
          (found_more (IsParam old.values) (IsParam new.values) (param_stays old new grows) (close_param closed) c.args.params.now c.loop-param.all.items c.param-item.result c.param-item.result c.loop-param.param-index c.in-Some.param c.loop-param-test.true c.param-item.is
          (rw c.in-Some.is at (c.in_ok-param.ensures.ok closed stays)) (kept.2 closed h))),
    )

pub returns-clause-ok : goal.returns-clause-ok
returns-clause-ok c = λ closed h.
    found_ends (IsParam c.loop-param.types.values) (close_param closed) c.args.params.now c.loop-param.all.items c.loop-param.param-index c.loop-param-test.false (c.loop-param.invariant.2 closed h)
