use Rattle.standing.proofs.Resuming.{entry_resumes, loop_resumes, yield_resumes, set_resumes}
use Rattle.standing.proofs.Backing.{call_resumes, cancel_resumes}
use Rattle.standing.proofs.moves.waits_agree.Goals as goal

pub returns : goal.returns
returns c = record { entry = entry_resumes; in_loop = loop_resumes; yielded = yield_resumes; at_set = set_resumes; called = call_resumes; cancelled = cancel_resumes }
