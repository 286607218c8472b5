use Rattle.std.proofs.Common.{◌≡◌, map}
use Rattle.wasm_store.specs.Store.{Host}
use Rattle.wasm_store.specs.Instantiation.{empty}
use Rattle.canon_hosts.proofs.hosting.hosts.Given as goal

abbrev pub invariant-loop-func_type : goal.invariant-loop-func_type
invariant-loop-func_type l = l.store ≡ record empty { funcs = map Host l.yielded }
