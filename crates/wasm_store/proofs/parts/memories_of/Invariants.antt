-- The memories so far, none with more pages than any may have.
use Rattle.std.proofs.Common.{◌≡◌, ◌≤◌, map, take, None}
use Rattle.std.specs.List.{AllByRecursion}
use Rattle.wasm_memory.specs.Memories.{most_pages}
use Rattle.wasm_store.specs.Instantiation.{new_memory}
use Rattle.wasm_store.proofs.parts.memories_of.Given as goal

abbrev pub invariant-loop-memory_type : goal.invariant-loop-memory_type
invariant-loop-memory_type l = record {
  made : l.memories.items ≡ map new_memory (take l.memory_type-index l.types);
  range : AllByRecursion (λ t. t.min ≤ most_pages None) (take l.memory_type-index l.types);
}
