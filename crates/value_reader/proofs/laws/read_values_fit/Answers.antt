use Rattle.value_reader.proofs.ReadFits.{read_values_fit}
use Rattle.value_reader.proofs.laws.read_values_fit.Goals as goal

pub returns : goal.returns
returns c = read_values_fit
