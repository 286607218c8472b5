-- Subtasks that are cancelled are as it is asked.
use Rattle.run_laws.proofs.keeping.CancelsKept.{cancels_are_kept}
use Rattle.run_laws.proofs.marking.cancels_are_kept.Goals as goal

pub returns : goal.returns
returns c = cancels_are_kept
