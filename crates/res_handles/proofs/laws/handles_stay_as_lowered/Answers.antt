use Rattle.res_handles.proofs.Staying.{lowered_own, lowered_borrow, handle_stays}
use Rattle.res_handles.proofs.laws.handles_stay_as_lowered.Goals as goal

pub returns-clause-lowered : goal.returns-clause-lowered
returns-clause-lowered c = λ run resource rep task. (lowered_own run resource rep, lowered_borrow run resource rep task)

pub returns-clause-stays : goal.returns-clause-stays
returns-clause-stays c = handle_stays
