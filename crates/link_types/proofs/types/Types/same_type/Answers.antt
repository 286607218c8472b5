use Rattle.std.proofs.Common.{◌≡◌, rules, subst}
use Rattle.link_values.specs.contracts.layers.TypeLayerPartialEq.TheImpl as type_eq
use Rattle.link_values.specs.Layering.{type_layer}
use Rattle.link_types.specs.Kept.{IsKept}
use Rattle.link_types.proofs.TypesTold.{same_types, layers_tested}
use Rattle.link_types.proofs.types.Types.same_type.Goals as goal

pub returns : goal.returns
returns c = λ f g h k.
    let d = (subst (IsKept c.self.inside.func_numbers c.self.inside.numbered.items) c.self.view_is c.self.invariant).distinct in
    let tested : c.eq.result ≡ (type_eq.ghosts).eq (type_layer c.args.a) (type_layer c.args.b) = search rules in
    layers_tested (type_layer c.args.a) (type_layer c.args.b) c.eq.result tested (same_types c.args.self.now d c.args.a c.args.b f g h k)
