use Rattle.std.proofs.Common.{ℕ}
use Rattle.link_types.specs.Changes.{change_of}
use Rattle.link_types.proofs.Renumbered.{IsNewParam, param_stays}
use Rattle.link_types.proofs.RenumberedMade.{made_more, made_all, params_made}
use Rattle.link_types.proofs.TypesGrow.{grows_trans}
use Rattle.link_types.proofs.renumbering.changed_params.Goals as goal

pub loop-param-preserved : goal.loop-param-preserved
loop-param-preserved c =
    let f : ℕ → ℕ = change_of c.args.how.change c.args.how.depth in
    let l = c.loop-param in
    let new = c.changed_param.new.types in
    let grows = c.changed_param.ensures.grows in (
      grows_trans c.args.types.now l.types new l.invariant.0 grows,
      made_more (IsNewParam f l.types.values) (IsNewParam f new.values) (param_stays f l.types new grows) c.args.params.now l.all.items c.push.new.self.items l.param-index _ c.param-item.result c.param-item.result c.in_ok-push.ensures.items l.invariant.1
          c.loop-param-test.true c.param-item.is c.in_ok-changed_param.ensures.ok,
    )

pub returns-clause-ok : goal.returns-clause-ok
returns-clause-ok c =
    let f : ℕ → ℕ = change_of c.args.how.change c.args.how.depth in
    let l = c.loop-param in
    params_made f l.types.values l.all.items c.args.params.now (made_all (IsNewParam f l.types.values) c.args.params.now l.all.items l.param-index l.invariant.1 c.loop-param-test.false)
