-- What the parts so far and what is left of them give together.
use Rattle.std.proofs.Common.{◌≡◌, ◌∷◌, ◌++◌, map, drop}
use Rattle.syntax_trees.specs.declared.core_type.CoreType.TheVariants.{I32}
use Rattle.syntax_trees.specs.Flat.{flat, all_of}
use Rattle.syntax_trees.proofs.Joins.{joined_cases}
use Rattle.ca_types.proofs.flattening.+flat.Given as goal

abbrev pub decreases-flat : goal.decreases-flat
decreases-flat l = goal.size-flat l

abbrev pub invariant-loop-field : goal.invariant-loop-field
invariant-loop-field l = flat l.fn.val_type ≡ l.types.items ++ all_of (map (λ f. flat f.val_type) (drop l.field-index l.field-items))

abbrev pub invariant-loop-part : goal.invariant-loop-part
invariant-loop-part l = flat l.fn.val_type ≡ l.types.items ++ all_of (map flat (drop l.part-index l.part-items))

abbrev pub invariant-loop-case : goal.invariant-loop-case
invariant-loop-case l = flat l.fn.val_type ≡ I32 ∷ joined_cases l.payloads.items (drop l.case-index l.case-items)
