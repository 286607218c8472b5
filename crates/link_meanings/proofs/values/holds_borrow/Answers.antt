use Rattle.link_meanings.proofs.Labelled.{part_borrows, no_part_borrows}
use Rattle.link_meanings.proofs.values.holds_borrow.Goals as goal

pub returns-in-Some : goal.returns-in-Some
returns-in-Some c = λ held h. part_borrows c.args.types.now c.in-Some.number held c.value_borrows.result c.value_borrows.ensures (rw c.in-Some.is at h)

pub returns-in-None : goal.returns-in-None
returns-in-None c = λ held h. no_part_borrows c.args.types.now held (rw c.in-None.is at h)
