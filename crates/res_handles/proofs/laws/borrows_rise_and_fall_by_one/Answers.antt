use Rattle.res_handles.proofs.Borrows.{borrows_change}
use Rattle.res_handles.proofs.laws.borrows_rise_and_fall_by_one.Goals as goal

pub returns : goal.returns
returns c = borrows_change
