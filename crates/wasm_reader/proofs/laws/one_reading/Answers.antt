use Rattle.wasm_reader.proofs.Ended.{one_reading}
use Rattle.wasm_reader.proofs.laws.one_reading.Goals as goal

pub returns : goal.returns
returns c = one_reading
