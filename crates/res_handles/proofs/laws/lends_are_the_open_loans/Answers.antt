use Rattle.res_handles.proofs.Loans.{lends_counted}
use Rattle.res_handles.proofs.laws.lends_are_the_open_loans.Goals as goal

pub returns : goal.returns
returns c = lends_counted
