-- A byte that others follow stands for seven bits, and what follows for the rest.
use Rattle.std.proofs.Common.{arith}
use Rattle.std.proofs.lemmas.Result.{err_from_is_err_and}
use Rattle.ca_base.proofs.Leb.{unsigned_goes, unsigned_refused}
use Rattle.ca_base.proofs.window.Window.+unsigned.Goals as goal

pub returns-in_err-high-clause-reads : goal.returns-in_err-high-clause-reads
returns-in_err-high-clause-reads g t c =
    let p = err_from_is_err_and c.from_residual-in_err-high.result c.from_residual-in_err-high.ensures.1 in
    rw (p.1, p.2) (unsigned_refused _ _ _ c.in_ok-byte.byte _ _ _ (omega arith) c.in_ok-byte.ensures.reads (omega arith) c.in_err-high.ensures.reads)

pub returns-clause-reads : goal.returns-clause-reads
returns-clause-reads g t c = unsigned_goes _ _ _ c.in_ok-byte.byte _ _ _ _ _ (omega arith) c.in_ok-byte.ensures.reads (omega arith) c.in_ok-high.ensures.reads (omega arith)
