use Rattle.std.proofs.Common.{◌+◌, length, reverse}
use Rattle.wasm_memory.specs.Bytes.{is_inside, put}
use Rattle.wasm_memory.specs.Stores.{stored_bytes}
use Rattle.wasm_store.proofs.Making.{bounds_give, if_not}
use Rattle.wasm_store.proofs.accesses.store.Goals as goal

pub returns : goal.returns
returns c = λ address s ls there.
    let at = c.pop_i32-address.result + c.args.offset in
    let bytes = stored_bytes c.args.op c.pop-value.result in
    let old = c.args.memory.now in
    rw (c.pop-value.ensures.taken, c.pop_i32-address.ensures.taken)
    (bounds_give (is_inside at (length bytes) old.bytes) _ address old c.store.new.self (put at bytes old.bytes) s ls (reverse c.pop_i32-address.new.operands.items) c.bounds_trap.result
    there c.store.ensures.inside c.store.ensures.memory (λ out. if_not _ _ _ out) c.bounds_trap.ensures)
