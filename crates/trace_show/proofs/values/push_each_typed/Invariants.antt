-- The values so far are written.
use Rattle.std.proofs.Common.{◌≡◌, ◌++◌, take, codes}
use Rattle.std.specs.List.{flat_map}
use Rattle.syntax_trees.specs.ValueText.{value_text}
use Rattle.trace_show.proofs.values.push_each_typed.Given as goal

abbrev pub invariant-loop-value : goal.invariant-loop-value
invariant-loop-value l = l.to.items ≡ l.initial.to.items ++ flat_map (λ v. codes ", " ++ value_text v l.val_type) (take l.value-index l.others)
