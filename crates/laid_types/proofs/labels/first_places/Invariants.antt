-- The map has the first place of each label so far.
use Rattle.std.specs.BTreeMap.{get_by_text}
use Rattle.laid_types.proofs.FirstPlaces.{AreFirst}
use Rattle.laid_types.proofs.labels.first_places.Given as goal

abbrev pub invariant-loop-at : goal.invariant-loop-at
invariant-loop-at l = AreFirst (get_by_text l.places) l.labels l.at
