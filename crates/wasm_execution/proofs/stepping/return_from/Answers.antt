use Rattle.wasm_execution.specs.Places.{frame_of}
use Rattle.wasm_execution.proofs.Going.{returns_goes}
use Rattle.wasm_execution.proofs.stepping.return_from.Goals as goal

pub returns-clause-gives : goal.returns-clause-gives
returns-clause-gives c =
    returns_goes (frame_of c.args.frame.now) (frame_of c.go_to_end.new.self) c.requires.next.0 c.requires.next.1 c.go_to_end.ensures.frame
