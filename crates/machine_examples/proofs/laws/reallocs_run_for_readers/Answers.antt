use Rattle.machine_examples.proofs.runs.WordKept.{word_kept_shown}
use Rattle.machine_examples.proofs.runs.Begins.{begins_shown}
use Rattle.machine_examples.proofs.laws.reallocs_run_for_readers.Goals as goal

pub returns : goal.returns
returns c = record { words = word_kept_shown; traps = begins_shown }
