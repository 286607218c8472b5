use Rattle.std.proofs.Common.{List, [], subst}
use Rattle.std.proofs.lemmas.Result.{err_from_is_err_and}
use Rattle.ca_base.specs.declared.placed.Placed.{Placed}
use Rattle.comp_graph.specs.Graph.{instance_limit}
use Rattle.comp_tree.specs.declared.items.Item.{Item}
use Rattle.link_spec.specs.Spaces.{Linking}
use Rattle.link_spec.specs.Linked.{root_begun}
use Rattle.link_spec.specs.Computed.{run_within}
use Rattle.link_parts.specs.Told.{IsReason, IsTold}
use Rattle.link_state.specs.State.{Stands}
use Rattle.link_state.specs.Reached.{root_begins}
use Rattle.comp_link.proofs.Passing.{done}
use Rattle.comp_link.proofs.Whole.{refused_told, linked_told, room_told, few_scopes, few_cores, canons_typed}
use Rattle.comp_link.proofs.linking.link.Goals as goal

pub returns-in_err-link_items-clause-refused : goal.returns-in_err-link_items-clause-refused
returns-in_err-link_items-clause-refused c =
    let p = err_from_is_err_and c.from_residual-in_err-link_items.result c.from_residual-in_err-link_items.ensures.1 in
    rw (p.1, p.2)
    (refused_told c.args.component.now c.in_err-link_items.field-0.0
    (subst (λ (items : List (Placed Item)). IsReason {A = Linking} c.in_err-link_items.field-0.0 (run_within instance_limit root_begun 0 items)) c.as_slice-items.ensures
    (c.in_err-link_items.ensures.told [] root_begun c.in_ok-linker.ensures.ok c.in_ok-linker.ensures.live root_begins)))

pub graph_of-requires-clause-few : goal.graph_of-requires-clause-few
graph_of-requires-clause-few c =
    few_scopes c.args.component.now c.link_items.new.linker
    (subst (λ (items : List (Placed Item)). IsTold (λ _ last. Stands c.link_items.new.linker last) done (run_within instance_limit root_begun 0 items)) c.as_slice-items.ensures
    (c.in_ok-link_items.ensures.told [] root_begun c.in_ok-linker.ensures.ok c.in_ok-linker.ensures.live root_begins))

pub graph_of-requires-clause-few_cores : goal.graph_of-requires-clause-few_cores
graph_of-requires-clause-few_cores c =
    few_cores c.args.component.now c.link_items.new.linker
    (subst (λ (items : List (Placed Item)). IsTold (λ _ last. Stands c.link_items.new.linker last) done (run_within instance_limit root_begun 0 items)) c.as_slice-items.ensures
    (c.in_ok-link_items.ensures.told [] root_begun c.in_ok-linker.ensures.ok c.in_ok-linker.ensures.live root_begins))

pub graph_of-requires-clause-typed : goal.graph_of-requires-clause-typed
graph_of-requires-clause-typed c =
    canons_typed c.args.component.now c.link_items.new.linker
    (subst (λ (items : List (Placed Item)). IsTold (λ _ last. Stands c.link_items.new.linker last) done (run_within instance_limit root_begun 0 items)) c.as_slice-items.ensures
    (c.in_ok-link_items.ensures.told [] root_begun c.in_ok-linker.ensures.ok c.in_ok-linker.ensures.live root_begins))

pub returns-clause-ok : goal.returns-clause-ok
returns-clause-ok c =
    linked_told c.args.component.now c.link_items.new.linker
    (subst (λ (items : List (Placed Item)). IsTold (λ _ last. Stands c.link_items.new.linker last) done (run_within instance_limit root_begun 0 items)) c.as_slice-items.ensures
    (c.in_ok-link_items.ensures.told [] root_begun c.in_ok-linker.ensures.ok c.in_ok-linker.ensures.live root_begins)) _ c.in_ok-graph_of.ensures

pub returns-clause-room : goal.returns-clause-room
returns-clause-room c =
    room_told c.args.component.now c.link_items.new.linker
    (subst (λ (items : List (Placed Item)). IsTold (λ _ last. Stands c.link_items.new.linker last) done (run_within instance_limit root_begun 0 items)) c.as_slice-items.ensures
    (c.in_ok-link_items.ensures.told [] root_begun c.in_ok-linker.ensures.ok c.in_ok-linker.ensures.live root_begins))

pub returns-clause-shallow : goal.returns-clause-shallow
returns-clause-shallow c = c.graphs_are_sound.ensures.shallow c.args.component.now _ (returns-clause-ok c)
