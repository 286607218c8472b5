use Rattle.std.proofs.Common.{◌<◌, ℕ, List, length, subst, arith, rules}
use Rattle.std.proofs.lemmas.List.{take_all}
use Rattle.std.specs.List.{AllZip}
use Rattle.link_spec.specs.Definitions.{Definition}
use Rattle.link_instances.specs.References.{IsEntry, listed}
use Rattle.link_instances.proofs.InOrder.{one_more, none_there}
use Rattle.link_instances.proofs.instances.Instances.exports.Goals.{in-Some+in_ok-push, in_default}
use Rattle.link_instances.proofs.instances.Instances.exports.Goals as goal

pub loop-at-preserved : goal.loop-at-preserved
loop-at-preserved c = λ w exports h i.
    let count = c.export_count-count.ensures w exports h i in
    let within : c.loop-at.at < length (listed exports) = omega (arith, count, c.loop-at-test.true) in
    let found = c.export_at.ensures w exports h i in
    let so_far = c.loop-at.invariant w exports h i in
    elim c.match-export_at.branch [
      | in-Some+in_ok-push v ↦ (let more = one_more c.args.types.now w exports c.loop-at.listed.items c.loop-at.at c.export_at.result v.in-Some.entry within so_far found v.in-Some.is in search (rules, more, v.listed-is, v.push.ensures))
      | in_default v ↦ absurd (none_there c.args.types.now w exports c.loop-at.at c.export_at.result within found (search (rules, v.in_default)))
    ]

pub returns : goal.returns
returns c = λ w exports h i.
    let count = c.export_count-count.ensures w exports h i in
    subst (λ (es : List (List ℕ × Definition)). AllZip (IsEntry c.args.types.now w) c.loop-at.listed.items es) (take_all c.loop-at.at (listed exports) (omega (arith, count, c.loop-at-test.false))) (c.loop-at.invariant w exports h i)
