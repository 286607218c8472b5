-- The globals of the imports so far.
use Rattle.std.proofs.Common.{◌≡◌, take}
use Rattle.wasm_typing.specs.Spaces.{imported_globals}
use Rattle.wasm_typing.proofs.space.imported_globals.Given as goal

abbrev pub invariant-loop-import : goal.invariant-loop-import
invariant-loop-import l = l.types.items ≡ imported_globals (take l.import-index l.imports)
