-- No handle is lent where none stands.
use Rattle.run_laws.proofs.keeping.still.AloneLent.{handles_are_alone_lent}
use Rattle.run_laws.proofs.keeping.still.Passing.{move_keeps_lent}
use Rattle.run_laws.proofs.staying.handles_alone_are_lent.Goals as goal

pub returns : goal.returns
returns c = record {
  reached = handles_are_alone_lent;
  moves = move_keeps_lent;
}
