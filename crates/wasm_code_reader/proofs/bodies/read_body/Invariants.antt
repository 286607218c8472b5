-- What was read is the front of the whole.
use Rattle.std.proofs.Common.{◌∷◌, reverse}
use Rattle.wasm_code_reader.proofs.BodyReading.{IsReading}
use Rattle.wasm_code_reader.proofs.bodies.read_body.Given as goal

abbrev pub invariant-loop-index : goal.invariant-loop-index
invariant-loop-index l = IsReading l.count l._index (l.part ∷ reverse l.around.items) l.code.items l.places.items l.initial.window l.window
