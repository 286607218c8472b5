-- The labels so far.
use Rattle.std.proofs.Common.{◌≡◌, map, take}
use Rattle.link_spec.specs.declared.well_made.Label.{Label}
use Rattle.link_spec.proofs.well_made.are_bare_labels.Given as goal

abbrev pub invariant-loop-label : goal.invariant-loop-label
invariant-loop-label l = map (λ (b : Label). b.text.now) l.bare.items ≡ take l.label-index l.labels
