-- The types of the groups so far stand behind the parameters.
use Rattle.std.proofs.Common.{◌≡◌, take}
use Rattle.syntax_trees.specs.Locals.{local_types}
use Rattle.wasm_typing.proofs.locals.local_types.Given as goal

abbrev pub invariant-loop-group : goal.invariant-loop-group
invariant-loop-group l = l.types.items ≡ local_types l.func_type (take l.group-index l.locals)
