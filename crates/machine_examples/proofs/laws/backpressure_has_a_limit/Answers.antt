use Rattle.machine_examples.proofs.runs.Pressed.{pressed_shown}
use Rattle.machine_examples.proofs.laws.backpressure_has_a_limit.Goals as goal

pub returns : goal.returns
returns c = pressed_shown
