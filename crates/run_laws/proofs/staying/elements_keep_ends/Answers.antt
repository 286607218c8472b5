-- Ends stay marked where elements go over.
use Rattle.run_laws.proofs.keeping.still.EndsStep.{elements_keep_ends}
use Rattle.run_laws.proofs.staying.elements_keep_ends.Goals as goal

pub returns : goal.returns
returns c = elements_keep_ends
