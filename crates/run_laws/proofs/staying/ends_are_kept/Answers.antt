-- What is kept of ends, of what stands for a world.
use Rattle.run_laws.proofs.keeping.still.Kinds.{types_tell_kinds, ends_stand_kept}
use Rattle.run_laws.proofs.staying.ends_are_kept.Goals as goal

pub returns : goal.returns
returns c = record { types = types_tell_kinds; stand = ends_stand_kept }
