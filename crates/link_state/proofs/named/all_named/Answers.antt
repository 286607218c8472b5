use Rattle.std.proofs.Common.{◌+◌, ℕ, List, Ok, Result, drop, refl, sym, subst, ◌∙◌}
use Rattle.std.proofs.lemmas.Result.{err_from_is_err_and}
use Rattle.link_spec.specs.declared.fault.LinkWhy.{LinkWhy}
use Rattle.link_spec.specs.declared.fault.LinkWhy.TheVariants as why
use Rattle.link_spec.specs.Definitions.{Definition, Exports, EmptyInstance, WithExport}
use Rattle.link_spec.specs.Spaces.{definition_at}
use Rattle.link_spec.specs.Computed.{there_or, exports_behind}
use Rattle.link_instances.specs.declared.references.DefinitionRef.{DefinitionRef}
use Rattle.link_instances.specs.References.{IsListing}
use Rattle.link_parts.specs.Told.{IsTold}
use Rattle.link_state.specs.State.{world_of}
use Rattle.link_state.proofs.Loops.{item_at, past_at}
use Rattle.link_state.proofs.Steps.{told_ok, reason_of, reason_as}
use Rattle.link_state.proofs.NamedSteps.{reason_after, named_next, named_last, scopes_same, next_is}
use Rattle.link_state.proofs.named.all_named.Goals as goal

pub loop-definition-init : goal.loop-definition-init
loop-definition-init c = (
  refl,
  λ bases l s at.
      (let k = c.args.linker.now in
      (at, (EmptyInstance, subst (λ (es : List (ℕ × DefinitionRef)). IsListing k.types (world_of bases k) es EmptyInstance) (sym c.new-listing.ensures) tt, refl))),
)

pub add_named-requires : goal.add_named-requires
add_named-requires c = scopes_same c.args.n c.loop-definition.linker c.args.linker.now c.loop-definition.invariant.0 c.requires

pub returns-in_err-add_named-clause-named : goal.returns-in_err-add_named-clause-named
returns-in_err-add_named-clause-named c = λ bases l s at.
    let item = c.definition-item.result in
    let inv = c.loop-definition.invariant.1 bases l s at in
    let told = c.add_named.ensures.named bases l s inv.1.0 inv.0 inv.1.1 in
    let k = c.add_named.new.linker in
    let R = (λ (u : Unit {0}) (d : Definition). IsListing k.types (world_of bases k) c.add_named.new.listing (WithExport inv.1.0 item.name d)) in
    let x = there_or why.Typing (definition_at s item.sort item.index) in
    let next = inv.1.2 ∙ named_next s inv.1.0 c.args.read.now c.loop-definition.definition-index item (item_at c.args.read.now c.loop-definition.definition-index item c.loop-definition-test.true c.definition-item.is) in
    let e = c.in_err-add_named.field-0.0 in
    let f = (λ (d : Definition). exports_behind s (WithExport inv.1.0 item.name d) (drop (c.loop-definition.definition-index + 1) c.args.read.now)) in
    let first = reason_of R c.add_named.result e x c.in_err-add_named.was told in
    let reason = reason_as Exports e (exports_behind s EmptyInstance c.args.read.now) _ next (reason_after Definition Exports e x f first) in
    let p = err_from_is_err_and c.from_residual.result c.from_residual.ensures.1 in
    rw (p.1, p.2) reason

pub returns-in_err-add_named-clause-at : goal.returns-in_err-add_named-clause-at
returns-in_err-add_named-clause-at c = λ bases l s at. c.add_named.ensures.at bases l s (c.loop-definition.invariant.1 bases l s at).0

pub returns-in_err-add_named-clause-scopes : goal.returns-in_err-add_named-clause-scopes
returns-in_err-add_named-clause-scopes c = c.add_named.ensures.scopes ∙ c.loop-definition.invariant.0

pub loop-definition-preserved : goal.loop-definition-preserved
loop-definition-preserved c = (
  c.add_named.ensures.scopes ∙ c.loop-definition.invariant.0,
  λ bases l s at.
      (let item = c.definition-item.result in
      let inv = c.loop-definition.invariant.1 bases l s at in
      let told = c.add_named.ensures.named bases l s inv.1.0 inv.0 inv.1.1 in
      let k = c.add_named.new.linker in
      let R = (λ (u : Unit {0}) (d : Definition). IsListing k.types (world_of bases k) c.add_named.new.listing (WithExport inv.1.0 item.name d)) in
      let x = there_or why.Typing (definition_at s item.sort item.index) in
      let there = item_at c.args.read.now c.loop-definition.definition-index item c.loop-definition-test.true c.definition-item.is in
      let ok = told_ok R c.add_named.result c.in_ok-add_named.field-0 x c.in_ok-add_named.was told in
      (c.add_named.ensures.at bases l s inv.0, (WithExport inv.1.0 item.name ok.0, ok.2, inv.1.2 ∙ next_is s inv.1.0 c.args.read.now c.loop-definition.definition-index item ok.0 there ok.1))),
)

pub returns-clause-named : goal.returns-clause-named
returns-clause-named c = λ bases l s at.
    let k = c.loop-definition.linker in
    let inv = c.loop-definition.invariant.1 bases l s at in
    let read = c.args.read.now in
    let last = inv.1.2 ∙ named_last s inv.1.0 read c.loop-definition.definition-index (past_at read c.loop-definition.definition-index c.loop-definition-test.false) in
    subst (λ (r : Result Exports LinkWhy). IsTold {B = List (ℕ × DefinitionRef)} (λ listing exports. IsListing k.types (world_of bases k) listing exports) (Ok c.loop-definition.listing) r) (sym last) inv.1.1

pub returns-clause-at : goal.returns-clause-at
returns-clause-at c = λ bases l s at. (c.loop-definition.invariant.1 bases l s at).0

pub returns-clause-scopes : goal.returns-clause-scopes
returns-clause-scopes c = c.loop-definition.invariant.0
