-- The labels so far.
use Rattle.std.proofs.Common.{◌≡◌, ℕ, List, map, take, Bor}
use Rattle.laid_types.specs.declared.layer.LabelledPart.{LabelledPart}
use Rattle.laid_types.proofs.layer.field_labels.Given as goal

abbrev pub invariant-loop-field : goal.invariant-loop-field
invariant-loop-field l = map (λ (t : Bor (List ℕ)). t.now) l.labels.items ≡ map (λ (f : LabelledPart). f.label.now) (take l.field-index l.fields)
