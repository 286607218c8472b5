use Rattle.std.proofs.Common.{◌∙◌, sym}
use Rattle.comp_graph.specs.Closed.{Instance}
use Rattle.link_meanings.proofs.AskedHere.{asked_here}
use Rattle.link_instance_types.proofs.Counting.{none_counted, type_counted, instance_counted, counted_next, all_counted}
use Rattle.link_instance_types.proofs.bringing.+bringing.Goals as goal

pub with_instance-returns-then-not-names_resource-clause-ok : goal.with_instance-returns-then-not-names_resource-clause-ok
with_instance-returns-then-not-names_resource-clause-ok t c = λ given found externs h k.
    none_counted given found externs c.args.count (sym (c.names_resource.ensures (Instance externs) h) ∙ c.if-not-names_resource.true) k

pub with_instance-loop-at-preserved : goal.with_instance-loop-at-preserved
with_instance-loop-at-preserved t c =
    let known = c.loop-at.types in
    let kept = c.loop-at.invariant in (
      c.with_item.ensures.same ∙ kept.0,
      λ given found externs h k. (let here = asked_here known externs c.loop-at.at c.in-Some-asked_at.field-0-0 c.in-Some-asked_at.item c.asked_at.result c.in-Some-asked_at.is (c.asked_at.ensures.is externs (rw kept.0 h)) in
          counted_next given found externs c.loop-at.at c.loop-at.all c.in_ok-all.all here.0 here.1 (kept.1 given found externs h k)
          (λ d found long. c.in_ok-all.ensures.ok d found here.0.1 here.3 long)),
    )

pub with_instance-returns-clause-ok : goal.with_instance-returns-clause-ok
with_instance-returns-clause-ok t c = λ given found externs h k.
    all_counted given found externs c.asked_count-at-end.result c.loop-at.at c.loop-at.all (c.asked_count-at-end.ensures externs h) c.loop-at-test.false (c.loop-at.invariant.1 given found externs h k)

pub with_item-returns-in_ok-with_type-in-Type-clause-ok : goal.with_item-returns-in_ok-with_type-in-Type-clause-ok
with_item-returns-in_ok-with_type-in-Type-clause-ok t c = λ given found extern h k.
    type_counted c.args.types.now c.in-Type.closed c.args.count c.in_ok-with_type-in-Type.field-0 c.in_ok-with_type-in-Type.ensures given found extern (rw c.in-Type.is at h) k

pub with_item-returns-in_ok-with_instance-in-Instance-clause-ok : goal.with_item-returns-in_ok-with_instance-in-Instance-clause-ok
with_item-returns-in_ok-with_instance-in-Instance-clause-ok t c = λ given found extern h k.
    instance_counted c.args.types.now c.in-Instance.instance_type c.args.count c.in_ok-with_instance-in-Instance.field-0
    (λ given found externs m n. c.in_ok-with_instance-in-Instance.ensures.ok given found externs (rw c.take_looks.ensures m) n) given found extern (rw c.in-Instance.is at h) k
