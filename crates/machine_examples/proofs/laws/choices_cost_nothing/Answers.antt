use Rattle.machine_examples.proofs.runs.ChosenLast.{chosen_last_shown}
use Rattle.machine_examples.proofs.runs.CancelledLast.{cancelled_last_shown}
use Rattle.machine_examples.proofs.laws.choices_cost_nothing.Goals as goal

pub returns : goal.returns
returns c = record { chosen = chosen_last_shown; cancelled = cancelled_last_shown }
