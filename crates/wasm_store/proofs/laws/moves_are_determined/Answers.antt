use Rattle.wasm_store.proofs.Runs.{fewer_are_front, one_next, steps_join}
use Rattle.wasm_store.proofs.laws.moves_are_determined.Goals as goal

pub returns : goal.returns
returns c = record { one = one_next; join = steps_join; front = fewer_are_front }
