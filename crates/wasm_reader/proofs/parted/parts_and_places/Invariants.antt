-- The parts and places so far are those of the list that were gone over.
use Rattle.std.proofs.Common.{◌≡◌, map}
use Rattle.wasm_reader.proofs.parted.parts_and_places.Given as goal

abbrev pub invariant-loop-one : goal.invariant-loop-one
invariant-loop-one g l = record {
  parts : l.parts ≡ map (λ p. p.part) l.yielded;
  places : l.places ≡ map (λ p. p.places) l.yielded;
}
