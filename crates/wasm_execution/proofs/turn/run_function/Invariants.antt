-- Paid steps have led here, to a frame that is placed and typed.
use Rattle.wasm_store.specs.Typed.{StoreTyped}
use Rattle.wasm_execution.specs.Places.{frame_of, IsPlaced}
use Rattle.wasm_execution.specs.Stepping.{IsTyped, Reaches}
use Rattle.wasm_execution.proofs.turn.run_function.Given as goal

abbrev pub invariant-loop-fuel : goal.invariant-loop-fuel
invariant-loop-fuel l = record {
  placed : IsPlaced l.frame;
  store : StoreTyped l.store;
  typed : IsTyped l.store (frame_of l.frame);
  reaches : Reaches l.initial.store (frame_of l.initial.frame) l.initial.fuel l.store l.fuel (frame_of l.frame);
}

abbrev pub decreases-loop-fuel : goal.decreases-loop-fuel
decreases-loop-fuel l = l.fuel
