-- The items so far are written.
use Rattle.std.proofs.Common.{◌≡◌, ◌++◌, take}
use Rattle.std.specs.List.{flat_map}
use Rattle.value_texts.proofs.text.push_separated.Given as goal

abbrev pub invariant-loop-item : goal.invariant-loop-item
invariant-loop-item g l = l.to.items ≡ l.initial.to.items ++ flat_map (λ y. l.between ++ g.T.Text.text y) (take l.item-index l.others)
