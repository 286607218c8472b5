use Rattle.res_handles.proofs.Loans.{lent_kept}
use Rattle.res_handles.proofs.laws.what_is_lent_is_kept.Goals as goal

pub returns : goal.returns
returns c = lent_kept
