use Rattle.std.proofs.Common.{◌∙◌, ℕ, List, map, Some, sym, subst}
use Rattle.laid_types.specs.Layers.{AreThere}
use Rattle.link_types.proofs.ParamsTyped.{all_there, params_typed}
use Rattle.link_types.proofs.types.Types.params_type.Goals as goal

pub value_type-requires : goal.value_type-requires
value_type-requires c =
    subst (λ (numbers : List ℕ). AreThere c.args.self.now.values (map Some numbers)) (sym (c.deref.ensures.value ∙ c.in_ok-numbers.ensures)) (all_there c.args.self.now.values c.args.params.now c.requires)

pub returns-clause-ok : goal.returns-clause-ok
returns-clause-ok c =
    params_typed c.args.self.now.values c.value_type.new.self.values c.args.params.now c.deref.result.now c.in_ok-number.number (c.deref.ensures.value ∙ c.in_ok-numbers.ensures) c.in_ok-number.ensures.ok
