-- The imported tables, and those of the module so far.
use Rattle.std.proofs.Common.{◌≡◌, ◌++◌, take}
use Rattle.wasm_typing.specs.Spaces.{imported_tables}
use Rattle.link_core_exports.proofs.core_module.all_tables.Given as goal

abbrev pub invariant-loop-table : goal.invariant-loop-table
invariant-loop-table l = l.tables.items ≡ imported_tables l.tree.imports ++ take l.table-index l.tree.tables
