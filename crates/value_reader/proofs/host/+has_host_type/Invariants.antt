-- What is left of the parts decides what the type answers.
use Rattle.std.proofs.Common.{◌≡◌, map, drop}
use Rattle.syntax_trees.specs.Ends.{some_true}
use Rattle.value_reader.specs.Host.{has_host_type, held_host_type}
use Rattle.value_reader.proofs.host.+has_host_type.Given as goal

abbrev pub decreases-has_host_type : goal.decreases-has_host_type
decreases-has_host_type l = goal.size-has_host_type l

abbrev pub invariant-loop-field : goal.invariant-loop-field
invariant-loop-field l = has_host_type l.fn.val_type ≡ some_true (map (λ f. has_host_type f.val_type) (drop l.field-index l.field-items))

abbrev pub invariant-loop-case : goal.invariant-loop-case
invariant-loop-case l = has_host_type l.fn.val_type ≡ some_true (map (λ c. held_host_type c.payload) (drop l.case-index l.case-items))

abbrev pub invariant-loop-part : goal.invariant-loop-part
invariant-loop-part l = has_host_type l.fn.val_type ≡ some_true (map has_host_type (drop l.part-index l.part-items))
