use Rattle.run_laws.proofs.AbleLists.{turns_are_kept}
use Rattle.run_laws.proofs.CancelTaken.{cancels_agree, turns_may_come}
use Rattle.run_laws.proofs.turns.turns_are_kept.Goals as goal

pub returns : goal.returns
returns c = record { kept = turns_are_kept; cancels = cancels_agree; step = turns_may_come }
