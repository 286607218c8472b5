-- Ends stay where no values are passed.
use Rattle.run_laws.proofs.keeping.still.Steps.{move_keeps_ends, first_keeps_ends}
use Rattle.run_laws.proofs.staying.moves_keep_ends.Goals as goal

pub returns : goal.returns
returns c = record {
  first = first_keeps_ends;
  moves = move_keeps_ends;
}
