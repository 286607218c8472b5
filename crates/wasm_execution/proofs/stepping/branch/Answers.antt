use Rattle.wasm_execution.specs.Places.{frame_of}
use Rattle.wasm_execution.proofs.Going.{br_goes}
use Rattle.wasm_execution.proofs.Ready.{br_ready}
use Rattle.wasm_execution.proofs.stepping.branch.Goals as goal

pub branch-frame-requires-clause-there : goal.branch-frame-requires-clause-there
branch-frame-requires-clause-there c = br_ready c.requires.typed.0 c.requires.typed.1.0 (frame_of c.args.frame.now) c.args.depth c.requires.next.0 c.requires.typed.1.1 c.requires.next.1

pub returns-clause-gives : goal.returns-clause-gives
returns-clause-gives c =
    let b = c.branch-frame.ensures.frame in
    br_goes (frame_of c.args.frame.now) (frame_of c.branch-frame.new.self) c.args.depth c.requires.next.0 b.0 c.requires.next.1 b.1 b.2
