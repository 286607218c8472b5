use Rattle.std.proofs.Common.{◌≡◌, ◌∙◌, ◌++◌, List, take, ap}
use Rattle.syntax_trees.specs.declared.core_type.CoreType.{CoreType}
use Rattle.syntax_trees.specs.Flat.{flat}
use Rattle.link_types.proofs.FuncsLaid.{flat_more, flat_all}
use Rattle.link_types.proofs.laid_func.flat_params.Goals as goal

pub loop-param-preserved : goal.loop-param-preserved
loop-param-preserved c =
    let put : c.extend_from_slice.new.self.items ≡ c.loop-param.types.items ++ take 17 (flat c.value.result) =
    c.in_ok-extend_from_slice.ensures.items ∙ ap (λ (ts : List CoreType). c.loop-param.types.items ++ ts) c.flat.ensures in
    flat_more c.args.values.now c.args.params.now c.loop-param.param-index _ c.value.result c.loop-param.types.items c.truncate.new.self.items c.loop-param-test.true c.value.ensures
    (c.truncate.ensures.items ∙ ap (take 17) put) c.loop-param.invariant

pub returns : goal.returns
returns c = λ type zip.
    c.from_vec.ensures ∙ flat_all c.args.values.now c.args.params.now c.loop-param.param-index c.loop-param.types.items c.loop-param-test.false c.loop-param.invariant type.params zip
