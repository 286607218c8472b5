-- The types so far.
use Rattle.std.proofs.Common.{take}
use Rattle.std.specs.List.{AllZip, flat_map}
use Rattle.comp_graph.specs.Closed.{Externs}
use Rattle.link_types.specs.Table.{IsInstanceType, in_order}
use Rattle.link_instances.specs.References.{World, IsEntry}
use Rattle.link_instances.proofs.TypesAsked.{type_entry}
use Rattle.link_instances.proofs.of_types.types_of.Given as goal

abbrev pub invariant-loop-at : goal.invariant-loop-at
invariant-loop-at l = (w : World) (externs : Externs) → IsInstanceType l.types l.instance_type externs → AllZip (IsEntry l.types w) l.listing (flat_map type_entry (take l.at (in_order externs)))
