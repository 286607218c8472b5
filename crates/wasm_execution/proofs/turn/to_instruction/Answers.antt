use Rattle.wasm_execution.specs.Places.{frame_of}
use Rattle.wasm_execution.proofs.Ends.{left_on, left_off}
use Rattle.wasm_execution.proofs.turn.to_instruction.Goals as goal

pub loop-frame-preserved : goal.loop-frame-preserved
loop-frame-preserved c =
    let k = left_on (frame_of c.args.frame.now) (frame_of c.loop-frame.frame) (frame_of c.leave.new.self) c.leave.result c.if-not-leave.false c.leave.ensures.left c.loop-frame-test.ensures c.loop-frame.invariant.instance c.loop-frame.invariant.leaves in
    record { placed = c.leave.ensures.placed; leaves = k.0; instance = k.1 }

pub returns-then-not-leave-clause-leaves : goal.returns-then-not-leave-clause-leaves
returns-then-not-leave-clause-leaves c = left_off (frame_of c.args.frame.now) (frame_of c.loop-frame.frame) (frame_of c.leave.new.self) c.leave.result c.if-not-leave.true c.leave.ensures.left c.loop-frame.invariant.leaves
