use Rattle.std.proofs.Common.{◌%◌, reverse}
use Rattle.wasm_memory.specs.Bytes.{is_inside, filled}
use Rattle.wasm_store.proofs.Making.{bounds_give, if_not}
use Rattle.wasm_store.proofs.accesses.fill.Goals as goal

pub returns : goal.returns
returns c = λ address s ls there.
    let at = c.pop_i32-at.result in
    let value = c.pop_i32-value.result in
    let count = c.pop_i32-count.result in
    let old = c.args.memory.now in
    rw (c.pop_i32-count.ensures.taken, c.pop_i32-value.ensures.taken, c.pop_i32-at.ensures.taken)
    (bounds_give (is_inside at count old.bytes) _ address old c.fill.new.self (filled at (value % 256) count old.bytes) s ls (reverse c.pop_i32-at.new.operands.items)
    c.bounds_trap.result there c.fill.ensures.inside c.fill.ensures.memory (λ out. if_not _ _ _ out) c.bounds_trap.ensures)
