-- What is left of the parameters decides, with the result.
use Rattle.std.proofs.Common.{◌≡◌, map, drop, ◌||◌}
use Rattle.syntax_trees.specs.Ends.{some_true}
use Rattle.value_reader.specs.Host.{has_host_type, held_host_type, func_has_host_type}
use Rattle.value_reader.proofs.host.func_has_host_type.Given as goal

abbrev pub invariant-loop-param : goal.invariant-loop-param
invariant-loop-param l = func_has_host_type l.func_type ≡ (some_true (map (λ p. has_host_type p.val_type) (drop l.param-index l.param-items)) || held_host_type l.func_type.result)
