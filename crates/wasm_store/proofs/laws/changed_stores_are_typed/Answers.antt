use Rattle.wasm_store.proofs.Changing.{empty_typed, hosts_typed, writes_typed}
use Rattle.wasm_store.proofs.laws.changed_stores_are_typed.Goals as goal

pub returns : goal.returns
returns c = record { empty = empty_typed; hosts = hosts_typed; writes = writes_typed }
