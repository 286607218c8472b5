-- What is written and what is left: the whole is what the segments that are left make of the store so far.
use Rattle.std.proofs.Common.{◌≡◌, drop, Some}
use Rattle.std.specs.List.{slice_get}
use Rattle.wasm_store.specs.Store.{Instance, Store}
use Rattle.wasm_store.specs.Instantiation.{Instantiation, data_written, all_written}
use Rattle.wasm_store.proofs.store.Store.write_data.Given as goal

abbrev pub invariant-loop-segment : goal.invariant-loop-segment
invariant-loop-segment l = record {
  instances : l.self.instances ≡ l.fn.self.instances;
  written : (i : Instance) → slice_get l.fn.self.instances l.instance ≡ Some i → (more : Store → Instantiation) → all_written (data_written i) l.segments l.fn.self more ≡ all_written (data_written i) (drop l.segment-index l.segments) l.self more;
}
