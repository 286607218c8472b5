use Rattle.link_meanings.proofs.Made.{field_open, field_closed}
use Rattle.link_meanings.proofs.numbered.numbered_field.Goals as goal

pub returns-in_default-clause-ok : goal.returns-in_default-clause-ok
returns-in_default-clause-ok c = λ closed h. field_open closed c.args.field.now (rw c.in_default.is at (c.in_ok-number.ensures.ok closed h))

pub returns-clause-ok : goal.returns-clause-ok
returns-clause-ok c = λ closed h.
    field_closed c.value_of.new.types closed c.args.field.now (record { label = c.as_str.result; number = c.in-Some.number }) c.as_str.ensures (rw c.in-Some.is at (c.in_ok-number.ensures.ok closed h))
