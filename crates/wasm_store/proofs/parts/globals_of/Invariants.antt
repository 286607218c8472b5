-- The globals so far.
use Rattle.std.proofs.Common.{◌≡◌, map, take}
use Rattle.wasm_store.specs.Instantiation.{new_global, imported_globals}
use Rattle.wasm_store.specs.Views.{global_of, address_of}
use Rattle.wasm_store.proofs.parts.globals_of.Given as goal

abbrev pub invariant-loop-global : goal.invariant-loop-global
invariant-loop-global l = map global_of l.instances.items ≡ map (new_global l.store (imported_globals (map address_of l.imports))) (take l.global-index l.globals)
