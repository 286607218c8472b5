-- Paid steps have led here, to frames that are placed, and typed as a stack.
use Rattle.std.proofs.Common.{◌+◌, length}
use Rattle.std.specs.List.{AllByRecursion}
use Rattle.wasm_store.specs.Stack as stack
use Rattle.wasm_execution.specs.Places.{frame_of, IsPlaced}
use Rattle.wasm_execution.specs.Stacks.{frames_of}
use Rattle.wasm_execution.proofs.Runs.{Stands, Sound}
use Rattle.wasm_execution.proofs.execution.run_frames.Given as goal

abbrev pub invariant-loop-pause : goal.invariant-loop-pause
invariant-loop-pause l = record {
  placed : IsPlaced l.top;
  callers : AllByRecursion IsPlaced l.callers.items;
  stands : Stands l.initial.store (stack.Running (frame_of l.initial.top) (frames_of l.initial.callers.items)) l.initial.fuel l.store l.fuel (stack.Running (frame_of l.top) (frames_of l.callers.items));
  sound : Sound l.store (stack.Running (frame_of l.top) (frames_of l.callers.items));
}

abbrev pub decreases-loop-pause : goal.decreases-loop-pause
decreases-loop-pause l = l.fuel + (l.fuel + length l.callers.items)
