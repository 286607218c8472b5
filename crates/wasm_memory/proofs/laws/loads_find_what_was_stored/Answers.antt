use Rattle.wasm_memory.proofs.Finding.{stored_loaded, others_loaded}
use Rattle.wasm_memory.proofs.Typed.{loads_typed}
use Rattle.wasm_memory.proofs.laws.loads_find_what_was_stored.Goals as goal

pub returns-clause-stored : goal.returns-clause-stored
returns-clause-stored c = stored_loaded

pub returns-clause-others : goal.returns-clause-others
returns-clause-others c = others_loaded

pub returns-clause-typed : goal.returns-clause-typed
returns-clause-typed c = loads_typed
