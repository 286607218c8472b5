-- So many copies stand behind the others.
use Rattle.std.proofs.Common.{◌≡◌, ◌++◌, replicate}
use Rattle.wasm_typing.proofs.locals.push_copies.Given as goal

abbrev pub invariant-loop-index : goal.invariant-loop-index
invariant-loop-index l = l.types.items ≡ l.initial.types.items ++ replicate l.index l.val_type
