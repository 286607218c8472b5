-- A value is counted, and its index names itself.
use Rattle.std.proofs.Common.{ap, [], Result, Ok, ℕ}
use Rattle.std.proofs.lemmas.Result.{err_from_is_err_and}
use Rattle.value_lift.specs.declared.trap.LiftTrap.{LiftTrap}
use Rattle.value_lift.specs.Ledger.{counting}
use Rattle.value_lift.proofs.by_index.ByIndexLedger.take.Goals as goal

pub returns : goal.returns
returns c = ap (λ (r : Result ℕ LiftTrap). counting r (λ left. Ok (c.args.index, left))) (c.in_ok-count.ensures [])

pub returns-in_err-count : goal.returns-in_err-count
returns-in_err-count c =
    let p = err_from_is_err_and c.from_residual.result c.from_residual.ensures.1 in
    rw (p.1, p.2) (ap (λ (r : Result ℕ LiftTrap). counting r (λ left. Ok (c.args.index, left))) (c.in_err-count.ensures []))
