-- Bytes of modules and of stores (Core 2.0, "Data Instances", "Memory Instances"): what a module puts into its memories, and what stands
-- in the memories of a store.
use Rattle.std.specs.List.{AllByRecursion}
use Rattle.syntax_trees.specs.declared.module.ModuleTree.{ModuleTree}
use Rattle.wasm_store.specs.Store.{Store}
use Rattle.lowering_laws.specs.Values.{AreBytes}

-- A module's data are bytes.
abbrev pub HasBytes : ModuleTree → Type 0
HasBytes m = AllByRecursion (λ segment. AreBytes segment.bytes) m.data_segments

-- The memories of a store hold bytes.
abbrev pub HasBytesAlone : Store → Type 0
HasBytesAlone s = AllByRecursion (λ memory. AreBytes memory.bytes) s.memories
