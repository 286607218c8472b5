-- The functions so far.
use Rattle.std.proofs.Common.{◌≡◌, map, take}
use Rattle.wasm_store.specs.Views.{function_of, own_function}
use Rattle.wasm_store.proofs.parts.functions_of.Given as goal

abbrev pub invariant-loop-func : goal.invariant-loop-func
invariant-loop-func l = map function_of l.functions.items ≡ map (own_function l.types.value l.instance) (take l.func-index l.funcs)
