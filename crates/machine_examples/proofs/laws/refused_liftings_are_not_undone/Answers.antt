use Rattle.machine_examples.proofs.runs.GivenAway.{given_away_shown}
use Rattle.machine_examples.proofs.runs.StillLent.{still_lent_shown}
use Rattle.machine_examples.proofs.laws.refused_liftings_are_not_undone.Goals as goal

pub returns : goal.returns
returns c = record { lent = still_lent_shown; taken = given_away_shown }
