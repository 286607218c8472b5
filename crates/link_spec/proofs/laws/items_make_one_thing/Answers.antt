use Rattle.link_spec.proofs.Making.{makes_once, begins_once}
use Rattle.link_spec.proofs.laws.items_make_one_thing.Goals as goal

pub returns : goal.returns
returns c = record { makes = makes_once; begins = begins_once }
