-- The types so far.
use Rattle.std.proofs.Common.{◌≡◌, take}
use Rattle.wasm_code.proofs.copying.copy_types.Given as goal

abbrev pub invariant-loop-func_type : goal.invariant-loop-func_type
invariant-loop-func_type l = l.copies.items ≡ take l.func_type-index l.types
