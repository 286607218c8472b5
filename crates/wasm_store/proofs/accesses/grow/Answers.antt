use Rattle.std.proofs.Common.{reverse, sym, ◌∙◌}
use Rattle.wasm_store.proofs.Making.{refused}
use Rattle.wasm_store.proofs.accesses.grow.Goals as goal

pub returns-in-None-clause-gives : goal.returns-in-None-clause-gives
returns-in-None-clause-gives c = λ address s ls there.
    rw (c.pop_i32-delta.ensures.taken, c.put-in-None.ensures, c.in_ok-before.ensures.grown)
    (refused address c.pop_i32-delta.result c.args.memory.now s ls (reverse c.pop_i32-delta.new.operands.items) there (sym c.in-None.is ∙ c.in_ok-before.ensures.answer))
