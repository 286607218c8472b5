use Rattle.wasm_store.proofs.Onward.{starts_few, steps_few, waits_few, resumes_few}
use Rattle.wasm_store.proofs.laws.frames_stay_few.Goals as goal

pub returns : goal.returns
returns c = record { starts = starts_few; steps = steps_few; waits = waits_few; resumes = resumes_few }
