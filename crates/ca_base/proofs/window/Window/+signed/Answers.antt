-- A byte that others follow stands for seven bits, and what follows for the rest.
use Rattle.std.proofs.Common.{◌-◌, arith}
use Rattle.std.proofs.lemmas.Int.{ints}
use Rattle.std.proofs.lemmas.Result.{err_from_is_err_and}
use Rattle.ca_base.proofs.Leb.{signed_goes, signed_refused, reach_more}
use Rattle.ca_base.proofs.window.Window.+signed.Goals as goal

pub returns-in_err-high-clause-reads : goal.returns-in_err-high-clause-reads
returns-in_err-high-clause-reads g t c =
    let p = err_from_is_err_and c.from_residual-in_err-high.result c.from_residual-in_err-high.ensures.1 in
    rw (p.1, p.2) (signed_refused _ _ _ c.in_ok-byte.byte _ _ _ (omega arith) c.in_ok-byte.ensures.reads (omega arith) c.in_err-high.ensures.reads)

pub returns-clause-reads : goal.returns-clause-reads
returns-clause-reads g t c =
    signed_goes _ _ _ c.in_ok-byte.byte _ _ _ _ _ (omega arith) c.in_ok-byte.ensures.reads (omega arith) c.in_ok-high.ensures.reads
    (omega (arith, ints, reach_more c.args.more (c.args.more - 1) c.args.top (omega arith), c.in_ok-high.ensures.bound))

pub returns-clause-bound : goal.returns-clause-bound
returns-clause-bound g t c = omega (arith, ints, reach_more c.args.more (c.args.more - 1) c.args.top (omega arith), c.in_ok-high.ensures.bound)
