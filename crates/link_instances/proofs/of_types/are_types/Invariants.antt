-- All so far are types.
use Rattle.std.proofs.Common.{◌≡◌, drop}
use Rattle.std.specs.List.{list_all}
use Rattle.comp_graph.specs.Closed.{Externs}
use Rattle.link_spec.specs.Tests as tests
use Rattle.link_types.specs.Table.{IsInstanceType, in_order}
use Rattle.link_instances.proofs.TypesAsked.{is_type}
use Rattle.link_instances.proofs.of_types.are_types.Given as goal

abbrev pub invariant-loop-at : goal.invariant-loop-at
invariant-loop-at l = (externs : Externs) → IsInstanceType l.types l.instance_type externs → tests.are_types externs ≡ list_all is_type (drop l.at (in_order externs))
