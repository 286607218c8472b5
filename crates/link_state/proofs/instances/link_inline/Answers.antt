use Rattle.std.proofs.Common.{◌∷◌, ◌++◌, [], ℕ, List, Result, Ok, sym, ap, subst, ◌∙◌}
use Rattle.std.proofs.lemmas.Result.{err_from_is_err_and}
use Rattle.link_spec.specs.declared.fault.LinkWhy.{LinkWhy}
use Rattle.link_spec.specs.Definitions.{AnInstance, Exports}
use Rattle.link_spec.specs.Computed.{Outcome, one_more, named_exports}
use Rattle.link_instances.specs.declared.references.DefinitionRef.{DefinitionRef}
use Rattle.link_instances.specs.References.{IsListing}
use Rattle.link_parts.specs.Told.{IsTold}
use Rattle.link_state.specs.declared.instances.Next.TheVariants as next
use Rattle.link_state.specs.State.{world_of}
use Rattle.link_state.specs.Next.{IsNext}
use Rattle.link_state.proofs.Steps.{told_ok, reason_of}
use Rattle.link_state.proofs.NamedSteps.{reason_after, inline_made}
use Rattle.link_state.specs.declared.linker.Linker.{Linker}
use Rattle.link_state.proofs.States.{live_scopes}
use Rattle.link_state.proofs.instances.link_inline.Goals as goal

pub returns-in_err-exports-clause-made : goal.returns-in_err-exports-clause-made
returns-in_err-exports-clause-made c = λ bases l s at.
    let k = c.named_exports.new.linker in
    let e = c.in_err-exports.field-0.0 in
    let x = named_exports s c.args.read.now in
    let first = reason_of (λ (listing : List (ℕ × DefinitionRef)) (exports : Exports). IsListing k.types (world_of bases k) listing exports) c.named_exports.result e x c.in_err-exports.was (c.named_exports.ensures.named bases l s at) in
    let p = err_from_is_err_and c.from_residual.result c.from_residual.ensures.1 in
    rw (p.1, p.2) (reason_after Exports Outcome e x (λ exports. Ok (one_more l c.args.n s (AnInstance exports))) first)

pub returns-clause-made : goal.returns-clause-made
returns-clause-made c = λ bases l s at.
    let k = c.named_exports.new.linker in
    let ok = told_ok (λ (listing : List (ℕ × DefinitionRef)) (exports : Exports). IsListing k.types (world_of bases k) listing exports) c.named_exports.result c.in_ok-exports.exports (named_exports s c.args.read.now) c.in_ok-exports.was (c.named_exports.ensures.named bases l s at) in
    let before = (c.named_exports.ensures.at bases l s at).state in
    let own = bases ++ ok.0 ∷ [] in
    let state = c.in_ok-instance.ensures.state bases l ok.0 before ok.2 in
    let stands = c.in_ok-instance.ensures.made bases l ok.0 before ok.2 in
    subst (λ (r : Result Outcome LinkWhy). IsTold (IsNext c.add.new.self l) (Ok next.Made) r) (sym (inline_made l c.args.n s c.args.read.now ok.0 ok.1))
    (own, c.in_ok-add.ensures.ok own l s (AnInstance ok.0) (record { state = state; there = at.there; live = live_scopes c.args.linker.now c.instance.new.self c.args.n (ap (λ (m : Linker). m.scopes) c.instance.ensures.rest ∙ c.named_exports.ensures.scopes) at.live }) stands)
