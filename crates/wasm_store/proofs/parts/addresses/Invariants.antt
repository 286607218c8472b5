-- The addresses that the imports so far bring, and behind them those of its own so far.
use Rattle.std.proofs.Common.{◌≡◌, ◌++◌, map, take}
use Rattle.std.specs.List.{flat_map, range_with_len}
use Rattle.wasm_store.specs.Views.{address_of, addresses_in}
use Rattle.wasm_store.proofs.parts.addresses.Given as goal

abbrev pub invariant-loop-import : goal.invariant-loop-import
invariant-loop-import l = l.addresses.items ≡ flat_map (addresses_in l.sort) (map address_of (take l.import-index l.imports))

abbrev pub invariant-loop-own : goal.invariant-loop-own
invariant-loop-own l = l.addresses.items ≡ l.initial.addresses.items ++ range_with_len l.first l.own
