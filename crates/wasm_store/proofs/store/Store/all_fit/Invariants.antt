-- The imports fit where those that are left do.
use Rattle.std.proofs.Common.{◌≡◌, drop, map}
use Rattle.wasm_store.specs.Matching.{imports_fit}
use Rattle.wasm_store.specs.Views.{address_of}
use Rattle.wasm_store.proofs.store.Store.all_fit.Given as goal

abbrev pub invariant-loop-at : goal.invariant-loop-at
invariant-loop-at l =
    imports_fit l.self l.types l.asked (map address_of l.imports) ≡ imports_fit l.self l.types (drop l.at l.asked) (map address_of (drop l.at l.imports))
