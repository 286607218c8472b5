use Rattle.wasm_store.specs.Views.{address_of}
use Rattle.wasm_store.proofs.Imports.{others_differ_from}
use Rattle.wasm_store.proofs.store.Store.all_fit.Goals as goal

pub returns-then-asked-imports : goal.returns-then-asked-imports
returns-then-asked-imports c = others_differ_from address_of c.args.self.now c.args.types.now c.args.asked.now c.args.imports.now c.if-asked-imports.true
