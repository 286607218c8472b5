use Rattle.link_meanings.proofs.Labelled.{held_closed}
use Rattle.link_meanings.proofs.values.held_of.Goals as goal

pub returns-clause-ok : goal.returns-clause-ok
returns-clause-ok c = λ closed h. rw c.in-Some.is (held_closed c.value_of.new.types closed c.in-Some.val_type c.in-Some-2.number (rw c.in-Some-2.is at (c.in_ok-number.ensures.ok closed h)))
