-- Ends of blocks have led here.
use Rattle.std.proofs.Common.{◌≡◌, length}
use Rattle.wasm_execution.specs.Places.{frame_of, IsPlaced}
use Rattle.wasm_execution.specs.Stepping.{LeavesTo}
use Rattle.wasm_execution.proofs.turn.to_instruction.Given as goal

abbrev pub invariant-loop-frame : goal.invariant-loop-frame
invariant-loop-frame l = record {
  placed : IsPlaced l.frame;
  leaves : LeavesTo (frame_of l.initial.frame) (frame_of l.frame);
  instance : (frame_of l.initial.frame).instance ≡ (frame_of l.frame).instance;
}

abbrev pub decreases-loop-frame : goal.decreases-loop-frame
decreases-loop-frame l = length (frame_of l.frame).labels
