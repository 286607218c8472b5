-- The types of the flat types so far.
use Rattle.std.proofs.Common.{◌≡◌, take, map}
use Rattle.comp_graph.specs.Needs.{core_val}
use Rattle.link_core_types.proofs.few_types.val_types_of.Given as goal

abbrev pub invariant-loop-core_type : goal.invariant-loop-core_type
invariant-loop-core_type l = l.types ≡ map core_val (take l.core_type-index l.flat)
