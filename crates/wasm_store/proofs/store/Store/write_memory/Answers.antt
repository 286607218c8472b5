-- The store with the memory that was written, whether the bytes fit or not.
use Rattle.std.proofs.Common.{◌<◌, length, rules}
use Rattle.wasm_store.specs.Store.{Store}
use Rattle.wasm_store.proofs.Joining.{seen}
use Rattle.wasm_store.proofs.Writing.{item_there, memory_step, memory_typed}
use Rattle.wasm_store.proofs.store.Store.write_memory.Goals as goal

pub invariant_of-self : goal.invariant_of-self
invariant_of-self c =
    let s : Store = seen c.self.inside.functions.items c.self.inside.tables.items c.self.inside.memories.items c.self.inside.globals.items c.self.inside.instances.items in
    let within : c.args.memory < length c.self.inside.memories.items = search rules in
    memory_typed s c.args.memory c.args.at c.args.bytes.now c.index_mut.result.now c.write_at.new.memory c.self.invariant
    (item_there c.self.inside.memories.items c.args.memory c.index_mut.result.now within c.index_mut.ensures.value) c.write_at.ensures.memory

pub returns-clause-written : goal.returns-clause-written
returns-clause-written c =
    let s : Store = seen c.self.inside.functions.items c.self.inside.tables.items c.self.inside.memories.items c.self.inside.globals.items c.self.inside.instances.items in
    let within : c.args.memory < length c.self.inside.memories.items = search rules in
    rw (← c.self.view_is)
    (memory_step s c.args.memory c.args.at c.args.bytes.now c.index_mut.result.now c.write_at.new.memory c.write_at.result
    (item_there c.self.inside.memories.items c.args.memory c.index_mut.result.now within c.index_mut.ensures.value) c.write_at.ensures.inside c.write_at.ensures.memory)
