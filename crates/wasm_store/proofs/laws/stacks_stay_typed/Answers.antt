use Rattle.wasm_store.proofs.Stores.{further, stays_typed}
use Rattle.wasm_store.proofs.laws.stacks_stay_typed.Goals as goal

pub returns : goal.returns
returns c = record { stays = stays_typed; further = further }
