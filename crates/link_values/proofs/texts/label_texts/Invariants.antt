-- The texts so far.
use Rattle.std.proofs.Common.{◌≡◌, ℕ, List, map, take, Bor}
use Rattle.link_values.proofs.texts.label_texts.Given as goal

abbrev pub invariant-loop-label : goal.invariant-loop-label
invariant-loop-label l = map (λ (t : Bor (List ℕ)). t.now) l.texts.items ≡ take l.label-index l.labels
