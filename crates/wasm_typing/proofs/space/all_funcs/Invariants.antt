-- The functions of the items so far.
use Rattle.std.proofs.Common.{◌≡◌, ◌++◌, map, take}
use Rattle.wasm_typing.specs.Spaces.{imported_funcs}
use Rattle.wasm_typing.proofs.space.all_funcs.Given as goal

abbrev pub invariant-loop-import : goal.invariant-loop-import
invariant-loop-import l = l.indices.items ≡ imported_funcs (take l.import-index l.tree.imports)

abbrev pub invariant-loop-func : goal.invariant-loop-func
invariant-loop-func l = l.indices.items ≡ imported_funcs l.tree.imports ++ map (λ f. f.type_index) (take l.func-index l.tree.funcs)
