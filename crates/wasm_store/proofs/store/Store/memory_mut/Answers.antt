-- The memory at the address is the one whose bytes are lent.
use Rattle.std.proofs.Common.{◌≡◌, ◌<◌, ◌∙◌, length, rules, refl, Some}
use Rattle.std.specs.List.{slice_get}
use Rattle.wasm_memory.specs.Memories.{MemoryState}
use Rattle.wasm_store.specs.Store.{Store}
use Rattle.wasm_store.proofs.Joining.{seen}
use Rattle.wasm_store.proofs.Loans.{rewritten_typed, rewritten_is, bytes_at}
use Rattle.wasm_store.proofs.Writing.{item_there}
use Rattle.wasm_store.proofs.store.Store.memory_mut.Goals as goal

pub invariant_of-self-lent : goal.invariant_of-self-lent
invariant_of-self-lent c w =
    let s : Store = seen c.self.inside.functions.items c.self.inside.tables.items c.self.inside.memories.items c.self.inside.globals.items c.self.inside.instances.items in
    let m : MemoryState = c.index_mut-memory.result.now in
    let within : c.args.address < length c.self.inside.memories.items = search rules in
    rewritten_typed s c.args.address m w c.self.invariant (item_there c.self.inside.memories.items c.args.address m within c.index_mut-memory.ensures.value)

pub returns : goal.returns
returns c =
    let s : Store = seen c.self.inside.functions.items c.self.inside.tables.items c.self.inside.memories.items c.self.inside.globals.items c.self.inside.instances.items in
    let m : MemoryState = c.index_mut-memory.result.now in
    let within : c.args.address < length c.self.inside.memories.items = search rules in
    let there : slice_get c.self.inside.memories.items c.args.address ≡ Some m = item_there c.self.inside.memories.items c.args.address m within c.index_mut-memory.ensures.value in
    rw (← c.self.view_is) (
      (refl, λ w. rewritten_is s c.args.address m w there),
      record { writes_back = tt; value = λ n also. c.bytes_mut.ensures.value ∙ bytes_at c.self.inside.memories.items c.args.address m n there also },
    )
