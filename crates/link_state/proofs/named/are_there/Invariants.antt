-- All indices so far are there.
use Rattle.std.proofs.Common.{◌≡◌, nat_lt, drop}
use Rattle.std.specs.List.{list_all}
use Rattle.comp_tree.specs.declared.instances.NamedDefinition.{NamedDefinition}
use Rattle.link_spec.specs.Spaces.{Spaces, size_of}
use Rattle.link_types.specs.Table.{Table}
use Rattle.link_instances.specs.References.{World}
use Rattle.link_state.specs.State.{IsScope}
use Rattle.link_state.proofs.named.are_there.Given as goal

abbrev pub invariant-loop-definition : goal.invariant-loop-definition
invariant-loop-definition l = (t : Table) (w : World) (s : Spaces) → IsScope t w l.scope s
    → list_all (λ (d : NamedDefinition). nat_lt d.index (size_of s d.sort)) l.read ≡ list_all (λ (d : NamedDefinition). nat_lt d.index (size_of s d.sort)) (drop l.definition-index l.read)
