-- The items and places so far are those of the list that were gone over.
use Rattle.std.proofs.Common.{◌≡◌, map}
use Rattle.ca_base.proofs.placed.apart.Given as goal

abbrev pub invariant-loop-one : goal.invariant-loop-one
invariant-loop-one g l = record {
  items : l.items ≡ map (λ p. p.item) l.yielded;
  places : l.places ≡ map (λ p. p.place) l.yielded;
}
