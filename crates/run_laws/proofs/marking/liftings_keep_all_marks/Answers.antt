-- Liftings keep all marks.
use Rattle.run_laws.proofs.keeping.Liftings.{arguments_keep, ended_keep, returned_keep, elements_keep}
use Rattle.run_laws.proofs.marking.liftings_keep_all_marks.Goals as goal

pub returns : goal.returns
returns c = record { arguments = arguments_keep; ended = ended_keep; returned = returned_keep; elements = elements_keep }
