use Rattle.link_types.proofs.ValuesStay.{values_stay, func_of_stays, func_of_stood}
use Rattle.link_types.proofs.types.Types.func_type.Goals as goal

pub func_number-requires-clause-there : goal.func_number-requires-clause-there
func_number-requires-clause-there c = values_stay c.args.self.now c.func_layer.new.self c.func_layer.ensures.grows c.args.params.now c.args.returned c.requires

pub func_number-requires-clause-layer : goal.func_number-requires-clause-layer
func_number-requires-clause-layer c = λ type h.
    c.in_ok-layer.ensures.ok type (func_of_stood c.args.self.now c.func_layer.new.self c.func_layer.ensures.grows c.args.params.now c.args.returned type c.requires h)

pub returns-clause-ok : goal.returns-clause-ok
returns-clause-ok c = λ type h.
    c.in_ok-number.ensures.ok type (func_of_stays c.args.self.now c.func_layer.new.self c.func_layer.ensures.grows c.args.params.now c.args.returned type h)
