-- The texts so far, of a table that stays as it is.
use Rattle.std.proofs.Common.{◌≡◌, ℕ, List, map, take, Bor}
use Rattle.link_types.proofs.types.Types.kept_labels.Given as goal

abbrev pub invariant-loop-label : goal.invariant-loop-label
invariant-loop-label l = (l.self ≡ l.fn.self) × (map (λ (t : Bor (List ℕ)). t.now) l.texts.items ≡ take l.label-index l.labels)
