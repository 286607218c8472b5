use Rattle.value_reader.proofs.ReadBack.{call_read_back}
use Rattle.value_reader.proofs.laws.calls_are_read_back.Goals as goal

pub returns : goal.returns
returns c = call_read_back
