use Rattle.value_reader.proofs.ReadFits.{read_arguments_fit}
use Rattle.value_reader.proofs.laws.read_arguments_fit.Goals as goal

pub returns : goal.returns
returns c = read_arguments_fit
