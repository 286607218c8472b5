-- Tables are sound.
use Rattle.run_laws.proofs.keeping.Sound.{tables_are_sound}
use Rattle.run_laws.proofs.marking.tables_are_sound.Goals as goal

pub returns : goal.returns
returns c = tables_are_sound
