-- What is left of the parts decides what the type answers.
use Rattle.std.proofs.Common.{◌≡◌, map, drop}
use Rattle.syntax_trees.specs.Ends.{has_end, held_end, some_true}
use Rattle.ca_types.proofs.ends.+has_end.Given as goal

abbrev pub decreases-has_end : goal.decreases-has_end
decreases-has_end l = goal.size-has_end l

abbrev pub invariant-loop-field : goal.invariant-loop-field
invariant-loop-field l = has_end l.fn.val_type ≡ some_true (map (λ f. has_end f.val_type) (drop l.field-index l.field-items))

abbrev pub invariant-loop-case : goal.invariant-loop-case
invariant-loop-case l = has_end l.fn.val_type ≡ some_true (map (λ c. held_end c.payload) (drop l.case-index l.case-items))

abbrev pub invariant-loop-part : goal.invariant-loop-part
invariant-loop-part l = has_end l.fn.val_type ≡ some_true (map has_end (drop l.part-index l.part-items))
