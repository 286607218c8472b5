-- The functions are those before, and the one of the host.
use Rattle.wasm_store.proofs.Joining.{host_joined}
use Rattle.wasm_store.proofs.store.Store.host.Goals as goal

pub invariant_of-self-2 : goal.invariant_of-self-2
invariant_of-self-2 c =
    rw c.in_ok-push.ensures.items
    (host_joined c.self.inside.functions.items c.self.inside.tables.items c.self.inside.memories.items c.self.inside.globals.items c.self.inside.instances.items c.args.func_type c.self.invariant)
