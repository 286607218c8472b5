use Rattle.link_values.proofs.KeyedMore.{keyed_stays}
use Rattle.link_values.proofs.keyed_types.KeyedTypes.list_number.Goals as goal

pub invariant_of-self : goal.invariant_of-self
invariant_of-self c = keyed_stays c.self.inside.lists c.number_of.new.self c.self.inside.numbers c.self.inside.laid c.number_of.ensures.stays c.number_of.ensures.listed c.self.invariant

pub invariant_of-self-2 : goal.invariant_of-self-2
invariant_of-self-2 c = keyed_stays c.self.inside.lists c.number_of.new.self c.self.inside.numbers c.self.inside.laid c.number_of.ensures.stays c.number_of.ensures.listed c.self.invariant
