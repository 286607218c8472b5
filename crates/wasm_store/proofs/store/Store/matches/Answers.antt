use Rattle.std.proofs.Common.{◌≡◌, ◌∙◌, map, rules}
use Rattle.wasm_store.specs.Matching.{imports_fit}
use Rattle.wasm_store.specs.Views.{address_of}
use Rattle.wasm_store.proofs.Imports.{fits_complete}
use Rattle.wasm_store.proofs.store.Store.matches.Goals as goal

pub returns-clause-complete : goal.returns-clause-complete
returns-clause-complete c h =
    let same : c.all_fit.result ≡ imports_fit c.args.self.now c.args.valid.now.types c.args.valid.now.imports (map address_of c.args.imports.now) = search rules in
    same ∙ fits_complete c.args.self.now c.args.valid.now.types c.args.valid.now.imports (map address_of c.args.imports.now) h
