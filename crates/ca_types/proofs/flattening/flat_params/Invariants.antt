-- The core types so far and those of the parameters that are left are those of all.
use Rattle.std.proofs.Common.{◌≡◌, ◌++◌, drop}
use Rattle.std.specs.List.{flat_map}
use Rattle.syntax_trees.specs.Flat.{flat}
use Rattle.ca_types.proofs.flattening.flat_params.Given as goal

abbrev pub invariant-loop-param : goal.invariant-loop-param
invariant-loop-param l = flat_map (λ p. flat p.val_type) l.params ≡ l.types.items ++ flat_map (λ p. flat p.val_type) (drop l.param-index l.params)
