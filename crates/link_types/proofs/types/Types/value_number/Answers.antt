use Rattle.link_types.specs.Table.{Table}
use Rattle.laid_types.specs.Layers.{type_of}
use Rattle.link_types.proofs.TypesGrow.{values_grow}
use Rattle.link_types.proofs.TypesKept.{values_more}
use Rattle.link_types.proofs.types.Types.value_number.Goals as goal

pub invariant_of-self-2 : goal.invariant_of-self-2
invariant_of-self-2 c =
    let t : Table = record { texts = c.self.inside.names; values = c.self.inside.values; layers = c.self.inside.layers; funcs = c.self.inside.funcs.items; instances = c.self.inside.instances.items } in
    values_more c.self.inside.func_numbers c.self.inside.numbered.items t c.number_of.new.self (type_of c.self.inside.values c.args.layer.now) c.in_ok-number_of.field-0 c.self.invariant c.in_ok-number_of.ensures.ok c.in_ok-number_of.ensures.apart

pub returns-clause-grows : goal.returns-clause-grows
returns-clause-grows c =
    let t : Table = record { texts = c.self.inside.names; values = c.self.inside.values; layers = c.self.inside.layers; funcs = c.self.inside.funcs.items; instances = c.self.inside.instances.items } in
    rw (← c.self.view_is) (values_grow t c.number_of.new.self (type_of c.self.inside.values c.args.layer.now) c.in_ok-number_of.field-0 c.in_ok-number_of.ensures.ok)
