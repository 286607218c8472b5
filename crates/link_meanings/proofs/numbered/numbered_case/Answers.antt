use Rattle.link_meanings.proofs.Made.{case_open, case_closed}
use Rattle.link_meanings.proofs.numbered.numbered_case.Goals as goal

pub returns-in_default-clause-ok : goal.returns-in_default-clause-ok
returns-in_default-clause-ok c = λ closed h. case_open closed c.args.case.now (rw c.in_default.is at (c.in_ok-payload.ensures.ok closed h))

pub returns-clause-ok : goal.returns-clause-ok
returns-clause-ok c = λ closed h.
    case_closed c.held_of.new.types closed c.args.case.now (record { label = c.as_str.result; payload = c.in-Some.payload }) c.as_str.ensures (rw c.in-Some.is at (c.in_ok-payload.ensures.ok closed h))
