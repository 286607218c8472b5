use Rattle.wasm_store.proofs.Keeping.{steps_keep, empty_has_none, adds_none, never_calls}
use Rattle.wasm_store.proofs.laws.stores_without_hosts.Goals as goal

pub returns : goal.returns
returns c = record { steps = steps_keep; empty = empty_has_none; adds = adds_none; never = never_calls }
