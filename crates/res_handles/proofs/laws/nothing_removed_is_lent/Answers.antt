use Rattle.res_handles.proofs.Loans.{removed_not_lent}
use Rattle.res_handles.proofs.laws.nothing_removed_is_lent.Goals as goal

pub returns : goal.returns
returns c = removed_not_lent
