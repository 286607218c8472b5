-- The imported globals, and those of the module so far.
use Rattle.std.proofs.Common.{◌≡◌, ◌++◌, map, take}
use Rattle.wasm_typing.specs.Spaces.{imported_globals}
use Rattle.wasm_typing.proofs.space.all_globals.Given as goal

abbrev pub invariant-loop-global : goal.invariant-loop-global
invariant-loop-global l = l.types.items ≡ imported_globals l.tree.imports ++ map (λ g. g.global_type) (take l.global-index l.tree.globals)
