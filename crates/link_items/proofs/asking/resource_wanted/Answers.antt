use Rattle.link_items.proofs.Asked.{asked_some, asked_none}
use Rattle.link_items.proofs.asking.resource_wanted.Goals as goal

pub returns-in-Some : goal.returns-in-Some
returns-in-Some c = λ t w d h. rw c.there.ensures (asked_some t w c.args.given c.type_of.result c.type_of.ensures c.resource_number.result c.resource_number.ensures d h c.in-Some.number c.in-Some.is)

pub returns-in-None : goal.returns-in-None
returns-in-None c = λ t w d h. rw c.there-in-None.ensures (asked_none t w c.args.given c.type_of.result c.type_of.ensures c.resource_number.result c.resource_number.ensures d h c.in-None.is)
