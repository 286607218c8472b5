use Rattle.std.proofs.Common.{◌∙◌, sym}
use Rattle.laid_types.specs.Lists.{has_list}
use Rattle.link_types.proofs.FuncsLaid.{one_found, none_more, none_found}
use Rattle.link_types.proofs.laid_func.hold_list.Goals as goal

pub returns-then-has_list : goal.returns-then-has_list
returns-then-has_list c = λ type zip.
    one_found c.args.values.now c.args.params.now has_list c.loop-param.param-index _ c.value.result c.loop-param-test.true c.value.ensures (sym c.has_list.ensures ∙ c.if-has_list.true) c.loop-param.invariant type.params zip

pub loop-param-preserved : goal.loop-param-preserved
loop-param-preserved c =
    none_more c.args.values.now c.args.params.now has_list c.loop-param.param-index _ c.value.result c.loop-param-test.true c.value.ensures (sym c.has_list.ensures ∙ c.if-has_list.false) c.loop-param.invariant

pub returns : goal.returns
returns c = λ type zip.
    none_found c.args.values.now c.args.params.now has_list c.loop-param.param-index c.loop-param-test.false c.loop-param.invariant type.params zip
