use Rattle.std.proofs.Common.{◌&&◌, reverse}
use Rattle.wasm_memory.specs.Bytes.{is_inside, copied}
use Rattle.wasm_store.proofs.Making.{bounds_give, if_not}
use Rattle.wasm_store.proofs.accesses.copy.Goals as goal

pub returns : goal.returns
returns c = λ address s ls there.
    let to = c.pop_i32-to.result in
    let from = c.pop_i32-from.result in
    let count = c.pop_i32-count.result in
    let old = c.args.memory.now in
    rw (c.pop_i32-count.ensures.taken, c.pop_i32-from.ensures.taken, c.pop_i32-to.ensures.taken)
    (bounds_give (is_inside to count old.bytes && is_inside from count old.bytes) _ address old c.copy.new.self (copied to from count old.bytes) s ls (reverse c.pop_i32-to.new.operands.items)
    c.bounds_trap.result there c.copy.ensures.inside c.copy.ensures.memory (λ out. if_not _ _ _ out) c.bounds_trap.ensures)
