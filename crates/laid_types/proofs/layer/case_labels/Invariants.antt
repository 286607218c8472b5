-- The labels so far.
use Rattle.std.proofs.Common.{◌≡◌, ℕ, List, map, take, Bor}
use Rattle.laid_types.specs.declared.layer.LabelledCase.{LabelledCase}
use Rattle.laid_types.proofs.layer.case_labels.Given as goal

abbrev pub invariant-loop-case : goal.invariant-loop-case
invariant-loop-case l = map (λ (t : Bor (List ℕ)). t.now) l.labels.items ≡ map (λ (c : LabelledCase). c.label.now) (take l.case-index l.cases)
