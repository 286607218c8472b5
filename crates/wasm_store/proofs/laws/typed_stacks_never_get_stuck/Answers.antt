use Rattle.wasm_store.proofs.Moving.{moves_typed, never_stuck, starts_typed}
use Rattle.wasm_store.proofs.laws.typed_stacks_never_get_stuck.Goals as goal

pub returns : goal.returns
returns c = record { moves = moves_typed; never_stuck = never_stuck; starts = starts_typed }
