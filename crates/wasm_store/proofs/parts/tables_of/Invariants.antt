-- The tables so far.
use Rattle.std.proofs.Common.{◌≡◌, map, take}
use Rattle.wasm_store.specs.Instantiation.{new_table}
use Rattle.wasm_store.specs.Views.{table_of}
use Rattle.wasm_store.proofs.parts.tables_of.Given as goal

abbrev pub invariant-loop-table_type : goal.invariant-loop-table_type
invariant-loop-table_type l = map table_of l.tables.items ≡ map new_table (take l.table_type-index l.types)
