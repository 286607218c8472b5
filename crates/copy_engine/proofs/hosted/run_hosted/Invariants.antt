-- The code has come here by calls that were answered, its stack is typed, and its store extends the first one.
use Rattle.std.proofs.Common.{[], ◌∷◌}
use Rattle.syntax_trees.specs.declared.module_types.ValType.TheVariants.{I32}
use Rattle.wasm_store.specs.Typed.{StackTyped, Extends}
use Rattle.res_handles.specs.Calls.{view_at}
use Rattle.copy_engine.specs.Answering.{setting_of}
use Rattle.copy_engine.specs.Hosting.{Gone}
use Rattle.copy_engine.proofs.hosted.run_hosted.Given as goal

abbrev pub invariant-loop-call : goal.invariant-loop-call
invariant-loop-call g l = record {
  typed : StackTyped l.room.store (I32 ∷ []) l.running;
  gone : Gone (setting_of l.to) (view_at g.E.Entry.view l.handles.slots) (record { room = l.initial.room; stack = l.initial.running }) (record { room = l.room; stack = l.running });
  extends : Extends l.initial.room.store l.room.store;
}
