use Rattle.std.proofs.Common.{arith, get_or, refl}
use Rattle.programs.proofs.TypedArguments.{same_typed, typed_step, typed_end}
use Rattle.programs.proofs.copying.typed_values.Goals as goal

pub loop-at-preserved : goal.loop-at-preserved
loop-at-preserved c =
    let bound = c.min-at-end.ensures in
    let t = c.loop-at-test.true in
    typed_step c.args.params.now c.args.values.now c.loop-at.at (get_or c.args.params.now c.loop-at.at c.index-params-at.result) c.index-params-at.result c.index-values-at.result c.index-values-at.result _ c.loop-at.all c.push.new.self _
    (omega (arith, t, bound)) (omega (arith, t, bound)) refl c.index-values-at.is (same_typed _ _ _ _ c.in_ok-same_value.ensures c.in_ok-share.ensures) c.in_ok-push.ensures.ok c.loop-at.invariant

pub returns : goal.returns
returns c =
    let bound = c.min-at-end.ensures in
    let t = c.loop-at-test.false in
    typed_end c.args.params.now c.args.values.now c.loop-at.at c.loop-at.all _ (omega (arith, t, bound)) c.loop-at.invariant
