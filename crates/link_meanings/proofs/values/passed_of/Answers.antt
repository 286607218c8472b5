use Rattle.link_meanings.proofs.Labelled.{passed_open, passed_held, borrow_passed}
use Rattle.link_meanings.proofs.values.passed_of.Goals as goal

pub returns-in_default-clause-ok : goal.returns-in_default-clause-ok
returns-in_default-clause-ok c = λ closed h. passed_open closed c.args.val_type (rw c.in_default.is at (c.in_ok-part.ensures.ok closed h))

pub returns-then-holds_borrow-clause-ok : goal.returns-then-holds_borrow-clause-ok
returns-then-holds_borrow-clause-ok c = λ closed h.
    borrow_passed c.held_of.new.types closed c.args.val_type c.in-Some.part c.holds_borrow.result c.holds_borrow.ensures c.if-holds_borrow.true (rw c.in-Some.is at (c.in_ok-part.ensures.ok closed h))

pub returns-clause-ok : goal.returns-clause-ok
returns-clause-ok c = λ closed h.
    passed_held c.held_of.new.types closed c.args.val_type c.in-Some.part c.holds_borrow.result c.holds_borrow.ensures c.if-holds_borrow.false (rw c.in-Some.is at (c.in_ok-part.ensures.ok closed h))
