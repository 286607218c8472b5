use Rattle.graph_laws.proofs.SoundModules.{read_data_are_bytes}
use Rattle.graph_laws.proofs.laws.read_data_are_bytes.Goals as goal

pub returns : goal.returns
returns c = read_data_are_bytes
