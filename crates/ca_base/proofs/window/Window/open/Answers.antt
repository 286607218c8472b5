-- What the reading ahead opened is what this one opens.
use Rattle.std.proofs.Common.{sym}
use Rattle.std.proofs.lemmas.Result.{err_from_is_err_and}
use Rattle.ca_base.proofs.window.Window.open.Goals as goal

pub returns-in_err-inner-clause-opens : goal.returns-in_err-inner-clause-opens
returns-in_err-inner-clause-opens g c =
    let p = err_from_is_err_and c.from_residual.result c.from_residual.ensures.1 in
    rw (p.1, p.2, sym c.ahead-ahead.ensures) c.in_err-inner.ensures

pub returns-clause-opens : goal.returns-clause-opens
returns-clause-opens g c = rw (sym c.ahead-ahead.ensures) c.in_ok-inner.ensures
