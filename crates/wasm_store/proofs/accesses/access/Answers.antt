use Rattle.std.proofs.Common.{reverse}
use Rattle.wasm_store.proofs.Fitting.{load_given, size_given}
use Rattle.wasm_store.proofs.accesses.access.Goals as goal

pub returns-in-Load-clause-gives : goal.returns-in-Load-clause-gives
returns-in-Load-clause-gives c = λ i address s ls there.
    load_given c.args.instr.now c.in-Load.op c.in-Load.arg i address c.args.memory.now s ls (reverse c.args.operands.now.items) (reverse c.load.new.operands.items) c.load.result
    c.in-Load.is there (c.load.ensures address s ls)

pub returns-in_ok-size-in-MemorySize-clause-gives : goal.returns-in_ok-size-in-MemorySize-clause-gives
returns-in_ok-size-in-MemorySize-clause-gives c = λ i address s ls there.
    size_given c.args.instr.now i address c.args.memory.now s ls (reverse c.args.operands.now.items) (reverse c.size.new.operands.items)
    c.in-MemorySize.is there (c.in_ok-size-in-MemorySize.ensures address s ls)
