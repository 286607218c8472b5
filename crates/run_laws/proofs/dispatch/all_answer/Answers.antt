use Rattle.run_laws.proofs.Answering.{all_answer, call_is_answered}
use Rattle.run_laws.proofs.dispatch.all_answer.Goals as goal

pub returns : goal.returns
returns c = record { rows = all_answer; call = call_is_answered }
