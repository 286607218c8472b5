-- The tables of the imports so far.
use Rattle.std.proofs.Common.{◌≡◌, take}
use Rattle.wasm_typing.specs.Spaces.{imported_tables}
use Rattle.link_core_exports.proofs.core_module.tables_of.Given as goal

abbrev pub invariant-loop-import : goal.invariant-loop-import
invariant-loop-import l = l.tables.items ≡ imported_tables (take l.import-index l.imports)
