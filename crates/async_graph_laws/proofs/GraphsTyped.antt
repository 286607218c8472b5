-- Linked graphs have what typed stacks ask of them, where the modules are typed.
use Rattle.wasm_typing.specs.Modules.{Typed}
use Rattle.wasm_store.specs.Instantiation.{InRange}
use Rattle.comp_graph.specs.Graph.{CoreMake}
use Rattle.link_spec.specs.Standing.{StandsIn}
use Rattle.link_spec.specs.Laws.{GraphsAreImported, LiftsAreThere, GraphsAreMade, ModulesStand}
use Rattle.link_spec.proofs.Holding.{all_weaker}
use Rattle.graph_laws.specs.Laws.{ReadModulesAreTyped}
use Rattle.async_graph_laws.specs.Laws.{LinkedGraphsAreTyped, ReadGraphsAreTyped, LinkedGraphsAreUsed}
use Rattle.graph_laws.proofs.GraphsApart.{plans_make_in_order}

abbrev IsFitCore : CoreMake → Type 0
IsFitCore core = Typed core.of_module × InRange core.of_module

pub linked_graphs_are_typed : GraphsAreImported → ModulesStand → LinkedGraphsAreTyped
linked_graphs_are_typed imported stand c g fit linked =
    let each = all_weaker (λ (core : CoreMake). StandsIn core.of_module c.items) IsFitCore (λ core s. fit core.of_module s) g.cores (stand c g linked) in
    record {
      valid = all_weaker IsFitCore (λ (core : CoreMake). Typed core.of_module) (λ core s. s.0) g.cores each;
      in_range = all_weaker IsFitCore (λ (core : CoreMake). InRange core.of_module) (λ core s. s.1) g.cores each;
      imported = imported c g linked;
      planned = plans_make_in_order c g linked;
    }

pub read_graphs_are_typed : LinkedGraphsAreTyped → ReadModulesAreTyped → ReadGraphsAreTyped
read_graphs_are_typed typed fit bytes c g read linked = typed c g (λ m stands. fit bytes c m read stands) linked

pub linked_graphs_are_used : LiftsAreThere → GraphsAreMade → LinkedGraphsAreUsed
linked_graphs_are_used there made c g linked = record { lifts = there c g linked; made = made c g linked }
