-- So many are among the imports so far.
use Rattle.std.proofs.Common.{◌≡◌, ◌≤◌, length, take}
use Rattle.wasm_typing.specs.Spaces.{imported_memories}
use Rattle.wasm_typing.proofs.space.imported_memories.Given as goal

abbrev pub invariant-loop-import : goal.invariant-loop-import
invariant-loop-import l = record {
  counted : l.count ≡ length (imported_memories (take l.import-index l.imports));
  few : l.count ≤ l.import-index;
}
