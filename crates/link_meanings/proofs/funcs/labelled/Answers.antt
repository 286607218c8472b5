use Rattle.link_meanings.proofs.Labelled.{param_open, param_closed}
use Rattle.link_meanings.proofs.funcs.labelled.Goals as goal

pub returns-in_default-clause-ok : goal.returns-in_default-clause-ok
returns-in_default-clause-ok c = λ closed h. param_open closed c.args.param.now (rw c.in_default.is at (c.in_ok-val_type.ensures.ok closed h))

pub returns-clause-ok : goal.returns-clause-ok
returns-clause-ok c = λ closed h.
    param_closed c.value_of.new.types closed c.args.param.now (record { label = c.as_str.result; val_type = c.in-Some.val_type }) c.as_str.ensures (rw c.in-Some.is at (c.in_ok-val_type.ensures.ok closed h))
