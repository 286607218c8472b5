use Rattle.std.proofs.Common.{◌<◌, ℕ, nat_lt, refl, sym, subst, ◌∙◌, true}
use Rattle.comp_tree.specs.declared.instances.NamedDefinition.{NamedDefinition}
use Rattle.link_spec.specs.Spaces.{size_of}
use Rattle.link_state.proofs.Loops.{all_at, all_past, item_at, past_at}
use Rattle.link_state.proofs.Loops.{lt_true}
use Rattle.link_state.proofs.named.are_there.Goals as goal

pub loop-definition-init : goal.loop-definition-init
loop-definition-init c = λ t w s scope. refl

pub loop-definition-preserved : goal.loop-definition-preserved
loop-definition-preserved c = λ t w s scope.
    let read = c.args.read.now in
    let item = c.definition-item.result in
    let at = item_at read c.loop-definition.definition-index item c.loop-definition-test.true c.definition-item.is in
    let within = subst (λ (m : ℕ). item.index < m) (c.size.ensures t w s scope) c.if-definition-size.false in
    c.loop-definition.invariant t w s scope ∙ all_at (λ (d : NamedDefinition). nat_lt d.index (size_of s d.sort)) read c.loop-definition.definition-index item true at (lt_true item.index (size_of s item.sort) within)

pub returns : goal.returns
returns c = λ t w s scope.
    let read = c.args.read.now in
    sym (c.loop-definition.invariant t w s scope ∙ all_past (λ (d : NamedDefinition). nat_lt d.index (size_of s d.sort)) read c.loop-definition.definition-index (past_at read c.loop-definition.definition-index c.loop-definition-test.false))
