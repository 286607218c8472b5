use Rattle.comp_reader.proofs.Whole.{one_reading}
use Rattle.comp_reader.proofs.laws.one_reading.Goals as goal

pub returns : goal.returns
returns c = one_reading
