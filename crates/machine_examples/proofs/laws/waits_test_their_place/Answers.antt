use Rattle.machine_examples.proofs.runs.WaitRefused.{absent_shown, misaligned_shown, outside_shown}
use Rattle.machine_examples.proofs.laws.waits_test_their_place.Goals as goal

pub returns : goal.returns
returns c = record { set = absent_shown; both = misaligned_shown; aligned = outside_shown }
