use Rattle.wasm_store.proofs.Settling.{free_moves_end}
use Rattle.wasm_store.proofs.laws.free_moves_end.Goals as goal

pub returns : goal.returns
returns c = free_moves_end
