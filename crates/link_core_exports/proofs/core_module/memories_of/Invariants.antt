-- The memories of the imports so far.
use Rattle.std.proofs.Common.{◌≡◌, take}
use Rattle.wasm_typing.specs.Spaces.{imported_memories}
use Rattle.link_core_exports.proofs.core_module.memories_of.Given as goal

abbrev pub invariant-loop-import : goal.invariant-loop-import
invariant-loop-import l = l.memories.items ≡ imported_memories (take l.import-index l.imports)
