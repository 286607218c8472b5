use Rattle.wasm_execution.specs.Places.{frame_of}
use Rattle.wasm_execution.proofs.Taking.{br_if_ready}
use Rattle.wasm_execution.proofs.Popping.{ready_popped}
use Rattle.wasm_execution.proofs.Going.{popped_not_taken, popped_taken}
use Rattle.wasm_execution.proofs.stepping.branch_if.Goals as goal

pub pop-requires-clause-over : goal.pop-requires-clause-over
pop-requires-clause-over c = (br_if_ready c.requires.typed.0 c.requires.typed.1.0 (frame_of c.args.frame.now) c.args.depth c.requires.next.0 c.requires.typed.1.1 c.requires.next.1).0

pub branch-frame-requires-clause-there : goal.branch-frame-requires-clause-there
branch-frame-requires-clause-there c =
    let ready = br_if_ready c.requires.typed.0 c.requires.typed.1.0 (frame_of c.args.frame.now) c.args.depth c.requires.next.0 c.requires.typed.1.1 c.requires.next.1 in
    ready_popped (frame_of c.args.frame.now) (frame_of c.pop.new.self) c.pop.result c.args.depth (record { value = c.pop.ensures.value; frame = c.pop.ensures.frame }) ready.1

pub returns-then-pop-eq0-clause-gives : goal.returns-then-pop-eq0-clause-gives
returns-then-pop-eq0-clause-gives c =
    popped_not_taken (frame_of c.args.frame.now) (frame_of c.pop.new.self) (frame_of c.advance.new.self) c.args.depth c.pop.result c.requires.next.0 (record { value = c.pop.ensures.value; frame = c.pop.ensures.frame }) c.requires.next.1 c.if-pop-eq0.true c.advance.ensures.frame

pub returns-clause-gives : goal.returns-clause-gives
returns-clause-gives c =
    let b = c.branch-frame.ensures.frame in
    popped_taken (frame_of c.args.frame.now) (frame_of c.pop.new.self) (frame_of c.branch-frame.new.self) c.args.depth c.pop.result c.requires.next.0 b.0 (record { value = c.pop.ensures.value; frame = c.pop.ensures.frame }) c.requires.next.1 c.if-pop-eq0.false b.1 b.2
