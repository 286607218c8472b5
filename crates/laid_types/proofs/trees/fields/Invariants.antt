-- The fields so far.
use Rattle.std.proofs.Common.{◌≡◌, map, take}
use Rattle.laid_types.specs.Layers.{field_of}
use Rattle.laid_types.proofs.trees.fields.Given as goal

abbrev pub invariant-loop-field : goal.invariant-loop-field
invariant-loop-field l = l.fields ≡ map (field_of l.types) (take l.field-index l.labelled)
