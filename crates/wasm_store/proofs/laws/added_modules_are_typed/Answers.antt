use Rattle.wasm_store.proofs.AddedModules.{adds_typed}
use Rattle.wasm_store.proofs.laws.added_modules_are_typed.Goals as goal

pub returns : goal.returns
returns c = adds_typed
