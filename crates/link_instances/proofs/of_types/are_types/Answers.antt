use Rattle.std.proofs.Common.{◌<◌, ℕ, sym, subst, ◌∙◌, true, false}
use Rattle.link_instances.proofs.TypesAsked.{types_listed, types_next, all_types}
use Rattle.link_instances.proofs.of_types.are_types.Goals as goal

pub loop-at-init : goal.loop-at-init
loop-at-init c = λ externs h. types_listed externs

pub returns-then-not-is_plain_type : goal.returns-then-not-is_plain_type
returns-then-not-is_plain_type c = λ externs h.
    let within = subst (λ (count : ℕ). c.loop-at.at < count) (c.asked_count-at-end.ensures externs h) c.loop-at-test.true in
    sym (c.loop-at.invariant externs h ∙ types_next c.args.types.now externs c.loop-at.at within c.asked_at.result (c.asked_at.ensures.is externs h) false (λ asked k. sym c.if-not-is_plain_type.true ∙ c.is_plain_type.ensures asked k))

pub loop-at-preserved : goal.loop-at-preserved
loop-at-preserved c = λ externs h.
    let within = subst (λ (count : ℕ). c.loop-at.at < count) (c.asked_count-at-end.ensures externs h) c.loop-at-test.true in
    c.loop-at.invariant externs h ∙ types_next c.args.types.now externs c.loop-at.at within c.asked_at.result (c.asked_at.ensures.is externs h) true (λ asked k. sym c.if-not-is_plain_type.false ∙ c.is_plain_type.ensures asked k)

pub returns : goal.returns
returns c = λ externs h. sym (c.loop-at.invariant externs h ∙ all_types externs c.asked_count-at-end.result c.loop-at.at (c.asked_count-at-end.ensures externs h) c.loop-at-test.false)
