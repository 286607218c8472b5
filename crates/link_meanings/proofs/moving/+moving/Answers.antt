use Rattle.std.proofs.Common.{◌∙◌, ℕ, sym, subst}
use Rattle.comp_graph.specs.Closed.{Instance, Externs, EmptyType}
use Rattle.link_spec.specs.Brought.{moved_extern, moved_externs}
use Rattle.link_types.specs.Begun.{IsBegun}
use Rattle.link_types.specs.Changes.{change_of}
use Rattle.link_types.specs.Table.{IsInstanceType, in_order}
use Rattle.link_types.proofs.TypesGrow.{grows_trans, instance_type_stays}
use Rattle.link_meanings.proofs.AskedHere.{asked_here}
use Rattle.link_meanings.proofs.Growing.{begun_stays}
use Rattle.link_meanings.proofs.MovedRefs.{type_as_it_is, instance_as_it_is, instance_moved, type_export_moved, instance_export_moved}
use Rattle.link_meanings.proofs.MovedSoFar.{of_list, first_externs, moved_more, moved_all}
use Rattle.link_meanings.proofs.moving.+moving.Goals as goal

pub moved_instance-returns-then-not-names_resource-clause-ok : goal.moved_instance-returns-then-not-names_resource-clause-ok
moved_instance-returns-then-not-names_resource-clause-ok t c = λ externs k.
    instance_as_it_is c.args.types.now c.args.change c.args.depth c.args.instance_type externs (sym (c.names_resource.ensures (Instance externs) k) ∙ c.if-not-names_resource.true) k

pub moved_instance-loop-at-preserved : goal.moved_instance-loop-at-preserved
moved_instance-loop-at-preserved t c =
    let first = c.args.types.now in
    let known = c.loop-at.types in
    let moved = c.moved_item.new.types in
    let last = c.extend.new.types in
    let kept = c.loop-at.invariant in
    let f = change_of c.args.change in (
      grows_trans first moved last (grows_trans first known moved kept.0 c.in_ok-moved.ensures.grows) c.in_ok-extend.ensures.grows,
      λ externs h. (let so_far = moved_externs f c.args.depth (of_list EmptyType (first_externs c.loop-at.at (in_order externs))) in
          let here = asked_here known externs c.loop-at.at c.in-Some-asked_at.name c.in-Some-asked_at.item c.asked_at.result c.in-Some-asked_at.is (c.asked_at.ensures.is externs (instance_type_stays first known kept.0 c.args.instance_type externs h)) in
          subst (λ (all : Externs). IsBegun last c.extend.new.self all) (sym (moved_more f c.args.depth externs c.loop-at.at here.0 here.1))
          (c.in_ok-extend.ensures.ok so_far here.0.0 (moved_extern f c.args.depth here.0.1)
          (begun_stays known moved c.in_ok-moved.ensures.grows c.loop-at.maker so_far (kept.1 externs h))
          (c.in_ok-moved.ensures.grows.texts c.in-Some-asked_at.name here.0.0 here.2)
          (c.in_ok-moved.ensures.ok here.0.1 here.3))),
    )

pub moved_instance-returns-clause-ok : goal.moved_instance-returns-clause-ok
moved_instance-returns-clause-ok t c = λ externs h.
    let first = c.args.types.now in
    let f = change_of c.args.change in
    let count = c.asked_count-at-end.ensures externs (instance_type_stays first c.begin.new.types c.in_ok-maker.ensures.grows c.args.instance_type externs h) in
    subst (λ (all : Externs). IsInstanceType c.finish.new.types c.in_ok-finish.field-0 all) (moved_all f c.args.depth externs c.asked_count-at-end.result c.loop-at.at count c.loop-at-test.false)
    (c.in_ok-finish.ensures.ok (moved_externs f c.args.depth (of_list EmptyType (first_externs c.loop-at.at (in_order externs)))) (c.loop-at.invariant.1 externs h))

pub moved_item-returns-in_ok-moved-in-Type-clause-ok : goal.moved_item-returns-in_ok-moved-in-Type-clause-ok
moved_item-returns-in_ok-moved-in-Type-clause-ok t c = λ extern k.
    type_export_moved c.args.types.now c.moved_type_in.new.types (change_of c.args.change) c.args.depth c.in-Type.closed c.in_ok-moved-in-Type.moved
    (λ type h. c.in_ok-moved-in-Type.ensures.ok type (rw c.take_steps.ensures h)) extern (rw c.in-Type.is at k)

pub moved_item-returns-in_ok-moved-in-Instance-clause-ok : goal.moved_item-returns-in_ok-moved-in-Instance-clause-ok
moved_item-returns-in_ok-moved-in-Instance-clause-ok t c = λ extern k.
    instance_export_moved c.args.types.now c.moved_instance.new.types (change_of c.args.change) c.args.depth c.in-Instance.instance_type c.in_ok-moved-in-Instance.moved
    (λ externs h. c.in_ok-moved-in-Instance.ensures.ok externs (rw c.take_steps.ensures h)) extern (rw c.in-Instance.is at k)

pub moved_names-returns-in_ok-moved-in-Instance-clause-ok : goal.moved_names-returns-in_ok-moved-in-Instance-clause-ok
moved_names-returns-in_ok-moved-in-Instance-clause-ok t c = λ type k.
    let types = c.moved_instance.new.types in
    let f = change_of c.args.change in
    instance_moved c.args.types.now types f c.args.depth c.in-Instance.instance_type c.in_ok-moved-in-Instance.moved
    (λ externs h. subst (λ (depth : ℕ). IsInstanceType types c.in_ok-moved-in-Instance.moved (moved_externs f depth externs)) c.in_ok-inside-in-Instance.ensures (c.in_ok-moved-in-Instance.ensures.ok externs h))
    type (rw c.in-Instance.is at k)

pub moved_type_in-returns-then-not-names_resource-clause-ok : goal.moved_type_in-returns-then-not-names_resource-clause-ok
moved_type_in-returns-then-not-names_resource-clause-ok t c = λ type k.
    type_as_it_is c.args.types.now c.args.change c.args.depth c.args.closed type (sym (c.names_resource.ensures type k) ∙ c.if-not-names_resource.true) k
