-- The imported memories, and those of the module so far.
use Rattle.std.proofs.Common.{◌≡◌, ◌++◌, take}
use Rattle.wasm_typing.specs.Spaces.{imported_memories}
use Rattle.link_core_exports.proofs.core_module.all_memories.Given as goal

abbrev pub invariant-loop-memory : goal.invariant-loop-memory
invariant-loop-memory l = l.memories.items ≡ imported_memories l.tree.imports ++ take l.memory-index l.tree.memories
