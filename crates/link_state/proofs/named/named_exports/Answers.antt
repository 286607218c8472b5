use Rattle.std.proofs.Common.{List, ℕ, map, Result, refl, sym, subst, ◌∙◌}
use Rattle.comp_tree.specs.declared.instances.NamedDefinition.{NamedDefinition}
use Rattle.link_spec.specs.declared.fault.LinkWhy.{LinkWhy}
use Rattle.link_spec.specs.declared.fault.LinkWhy.TheVariants as why
use Rattle.link_spec.specs.Definitions.{Exports}
use Rattle.link_spec.specs.Computed.{named_exports}
use Rattle.link_instances.specs.declared.references.DefinitionRef.{DefinitionRef}
use Rattle.link_instances.specs.References.{IsListing}
use Rattle.link_parts.specs.Told.{IsTold}
use Rattle.link_state.specs.State.{world_of}
use Rattle.link_state.proofs.Steps.{reason_is}
use Rattle.link_state.proofs.NamedSteps.{same_distinct, named_twice, named_once}
use Rattle.link_state.proofs.named.named_exports.Goals as goal

pub returns-then-not-are_there-clause-named : goal.returns-then-not-are_there-clause-named
returns-then-not-are_there-clause-named c = λ bases l s at.
    let k = c.args.linker.now in
    let there = c.are_there.ensures k.types (world_of bases k) s (c.scope.ensures bases l s at) in
    rw (sym there ∙ c.if-not-are_there.true) refl

pub returns-then-not-branch-clause-named : goal.returns-then-not-branch-clause-named
returns-then-not-branch-clause-named c = λ bases l s at.
    let k = c.args.linker.now in
    let read = c.args.read.now in
    let there = sym (c.are_there.ensures k.types (world_of bases k) s (c.scope.ensures bases l s at)) ∙ c.if-not-are_there.false in
    let twice = same_distinct c.in_ok-are_distinct.field-0 (map (λ (d : NamedDefinition). d.name) read) c.in_ok-are_distinct.ensures ∙ c.if-not-branch.true in
    reason_is Exports why.Typing (named_exports s read) (named_twice s read there twice)

pub returns-clause-named : goal.returns-clause-named
returns-clause-named c = λ bases l s at.
    let k = c.args.linker.now in
    let new = c.all_named.new.linker in
    let read = c.args.read.now in
    let there = sym (c.are_there.ensures k.types (world_of bases k) s (c.scope.ensures bases l s at)) ∙ c.if-not-are_there.false in
    let once = same_distinct c.in_ok-are_distinct.field-0 (map (λ (d : NamedDefinition). d.name) read) c.in_ok-are_distinct.ensures ∙ c.if-not-branch.false in
    subst (λ (r : Result Exports LinkWhy). IsTold {B = List (ℕ × DefinitionRef)} (λ listing exports. IsListing new.types (world_of bases new) listing exports) c.all_named.result r) (sym (named_once s read there once))
    (c.all_named.ensures.named bases l s at)
