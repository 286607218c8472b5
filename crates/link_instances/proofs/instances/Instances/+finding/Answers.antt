use Rattle.std.proofs.Common.{◌∙◌, ℕ, Some, Option, subst, sym}
use Rattle.std.specs.List.{slice_get}
use Rattle.std.proofs.lemmas.Result.{on_ok_weaker}
use Rattle.comp_graph.specs.Closed.{Instance}
use Rattle.link_spec.specs.Definitions.{export_named}
use Rattle.link_spec.specs.Brought.{exports_given}
use Rattle.link_values.specs.declared.refs.ExternRef.{ExternRef}
use Rattle.link_types.specs.Table.{Table, IsInstanceType, in_order}
use Rattle.link_instances.specs.Instances.{AreInstances}
use Rattle.link_instances.specs.Found.{AreExports}
use Rattle.link_instances.proofs.Asking.{IsAskedAt, is_asked_at}
use Rattle.link_instances.proofs.FoundTold.{none_is_found, found_more, found_ends, instance_item_found}
use Rattle.link_instances.proofs.instances.Instances.+finding.Goals as goal

pub find_all-returns-then-not-names_resource-clause-ok : goal.find_all-returns-then-not-names_resource-clause-ok
find_all-returns-then-not-names_resource-clause-ok t c = λ w exports externs are given asked.
    none_is_found exports c.args.found.now.items externs c.names_resource.result (c.names_resource.ensures (Instance externs) asked) c.if-not-names_resource.true

pub find_all-loop-at-preserved : goal.find_all-loop-at-preserved
find_all-loop-at-preserved t c = (
  c.find_item.ensures.same ∙ c.loop-at.invariant.0,
  λ w exports externs are given asked.
      let l = c.loop-at in
      let same = sym l.invariant.0 in
      let are_now = subst (λ (t : Table). AreInstances t w c.args.self.now) same are in
      let given_now = subst (λ (t : Table). AreExports t w c.args.given exports) same given in
      let asked_now = subst (λ (t : Table). IsInstanceType t c.args.asked externs) same asked in
      let told = is_asked_at l.types c.asked_at.result externs l.at (c.asked_at.ensures.is externs asked_now) in
      let e = subst (λ (o : Option (ℕ × ExternRef)). IsAskedAt l.types o (slice_get (in_order externs) l.at)) c.in-Some-asked_at.is told in
      let named = c.given_named-definition.ensures w exports e.0.0 are_now given_now e.2 in
      let finds = c.in_ok-find_item.ensures.ok w (export_named e.0.0 exports) e.0.1 are_now named e.3 in
      found_more exports c.args.found.now.items l.found.items c.find_item.new.found.items externs l.at e.0 e.1 finds (l.invariant.1 w exports externs are given asked),
)

pub find_all-returns-clause-ok : goal.find_all-returns-clause-ok
find_all-returns-clause-ok t c = λ w exports externs are given asked.
    let l = c.loop-at in
    found_ends exports c.args.found.now.items l.found.items externs l.at c.asked_count-at-end.result (c.asked_count-at-end.ensures externs asked) c.loop-at-test.false (l.invariant.1 w exports externs are given asked)

pub find_item-returns-in-Instance-clause-ok : goal.find_item-returns-in-Instance-clause-ok
find_item-returns-in-Instance-clause-ok t c =
    on_ok_weaker c.find_all.result
    (λ finds. λ w d extern are is asked.
    instance_item_found c.args.types.now c.in-Instance.instance_type d c.args.found.now.items c.find_all.new.found.items
    (λ externs h. finds w (exports_given d) externs are (c.exports_given.ensures c.args.types.now w d is) h) extern (rw c.in-Instance.is at asked))
    (rw c.take_looks.ensures at c.find_all.ensures.ok)
