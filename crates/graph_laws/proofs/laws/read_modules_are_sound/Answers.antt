use Rattle.graph_laws.proofs.SoundModules.{read_modules_are_sound}
use Rattle.graph_laws.proofs.laws.read_modules_are_sound.Goals as goal

pub returns : goal.returns
returns c = read_modules_are_sound
