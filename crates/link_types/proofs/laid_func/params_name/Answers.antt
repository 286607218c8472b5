use Rattle.std.proofs.Common.{◌∙◌, sym}
use Rattle.link_types.proofs.FuncsLaid.{one_found, none_more, none_found}
use Rattle.link_types.proofs.NamedResources.{names_any}
use Rattle.link_types.proofs.laid_func.params_name.Goals as goal

pub returns-then-names_any : goal.returns-then-names_any
returns-then-names_any c = λ type zip.
    one_found c.args.values.now c.args.params.now names_any c.loop-param.param-index _ c.value.result c.loop-param-test.true c.value.ensures (sym c.names_any.ensures ∙ c.if-names_any.true) c.loop-param.invariant type.params zip

pub loop-param-preserved : goal.loop-param-preserved
loop-param-preserved c =
    none_more c.args.values.now c.args.params.now names_any c.loop-param.param-index _ c.value.result c.loop-param-test.true c.value.ensures (sym c.names_any.ensures ∙ c.if-names_any.false) c.loop-param.invariant

pub returns : goal.returns
returns c = λ type zip.
    none_found c.args.values.now c.args.params.now names_any c.loop-param.param-index c.loop-param-test.false c.loop-param.invariant type.params zip
