-- What is told of a component whose items were gone through.
use Rattle.std.proofs.Common.{◌≡◌, ◌≤◌, length, refl, sym, ap, subst, arith}
use Rattle.std.specs.Prelude.{Result, Ok, Err}
use Rattle.faults.specs.Faults.{IfFault}
use Rattle.faults.specs.declared.memory.MemoryOr.{MemoryOr}
use Rattle.faults.specs.declared.memory.MemoryOr.TheVariants.{Memory, Fault}
use Rattle.comp_graph.specs.Graph.{Graph, instance_limit, core_instance_limit}
use Rattle.comp_graph.specs.Passed.{AreCanonTypes}
use Rattle.comp_tree.specs.declared.items.Component.{Component}
use Rattle.link_spec.specs.declared.fault.LinkFault.{LinkFault}
use Rattle.link_spec.specs.Spaces.{Linking}
use Rattle.link_spec.specs.Linked.{root_begun, graph_of, IsLinked, HasRoom, IsLinkRefused}
use Rattle.link_spec.specs.Computed.{run_within, answer_of, linked}
use Rattle.link_spec.proofs.Running.{links_within, graph_computed, fault_computed}
use Rattle.link_spec.proofs.Few.{graphs_are_few}
use Rattle.link_parts.specs.Told.{IsReason, IsTold}
use Rattle.link_state.specs.declared.linker.Linker.{Linker}
use Rattle.link_state.specs.State.{type_table, Stands}
use Rattle.link_state.proofs.States.{as_many}
use Rattle.comp_link.proofs.Passing.{done}

abbrev gone : Component → Result Linking LinkFault
gone c = run_within instance_limit root_begun 0 c.items

linked_by : (c : Component) (r : Result Linking LinkFault) → gone c ≡ r → linked c ≡ answer_of r
linked_by c r e = ap answer_of e

pub refused_told : (c : Component) (e : MemoryOr LinkFault) → IsReason e (gone c) → IfFault e (λ fault. IsLinkRefused c fault)
refused_told c Memory h = tt
refused_told c (Fault fault) h = by (gone c) refl h
  where
    by : (r : Result Linking LinkFault) → gone c ≡ r → IsReason (Fault fault) r → IsLinkRefused c fault
    by (Ok last) e h = absurd h
    by (Err other) e h = subst (λ (f : LinkFault). IsLinkRefused c f) (sym h) ((fault_computed c other).0 (linked_by c (Err other) e))

module _ (c : Component) (k : Linker) (told : IsTold (λ _ last. Stands k last) done (gone c)) where
  -- what it is linked to
  found : (l : Linking) × Stands k l × IsLinked c (graph_of l)
  found = by (gone c) refl told
    where
      by : (r : Result Linking LinkFault) → gone c ≡ r → IsTold (λ _ last. Stands k last) done r → (l : Linking) × Stands k l × IsLinked c (graph_of l)
      by (Ok last) e h = (last, h, (graph_computed c (graph_of last)).0 (linked_by c (Ok last) e))
      by (Err fault) e h = absurd h

  pub linked_told : (g : Graph) → ((l : Linking) → Stands k l → g ≡ graph_of l) → IsLinked c g
  linked_told g is = subst (λ (g : Graph). IsLinked c g) (sym (is found.0 found.1)) found.2

  pub room_told : HasRoom c
  room_told = by (gone c) refl told
    where
      by : (r : Result Linking LinkFault) → gone c ≡ r → IsTold (λ _ last. Stands k last) done r → HasRoom c
      by (Ok last) e h = (last, links_within c last e, h.1.room)
      by (Err fault) e h = absurd h

  pub few_scopes : length k.scopes.items ≤ instance_limit
  few_scopes =
      let few = graphs_are_few c (graph_of found.0) found.2 in
      let same = as_many found.1.0 k found.0 found.1.1 in
      omega (arith, few.0, same)

  pub canons_typed : AreCanonTypes (type_table k.types) k.canon_types.items k.canons.items
  canons_typed = found.1.1.canon_types

  pub few_cores : length k.cores.makes ≤ core_instance_limit
  few_cores =
      let few = graphs_are_few c (graph_of found.0) found.2 in
      let same : length found.0.cores ≡ length k.cores.makes = ap length found.1.1.cores in
      omega (arith, few.1, same)
