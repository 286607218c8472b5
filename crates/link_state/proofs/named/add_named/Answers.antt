use Rattle.std.proofs.Common.{ℕ, List, refl, sym, subst}
use Rattle.link_spec.specs.Definitions.{WithExport}
use Rattle.link_spec.specs.Spaces.{definition_at}
use Rattle.link_instances.specs.declared.references.DefinitionRef.{DefinitionRef}
use Rattle.link_instances.specs.References.{Stands, IsListing}
use Rattle.link_state.specs.State.{world_of}
use Rattle.link_state.proofs.Scopes.{listing_more}
use Rattle.link_state.proofs.Steps.{none_found, some_found}
use Rattle.link_state.proofs.named.add_named.Goals as goal

pub returns-in_default-clause-named : goal.returns-in_default-clause-named
returns-in_default-clause-named c = λ bases l s before at listed.
    let k = c.name.new.self in
    let now = c.name.ensures.at bases c.args.n l s at in
    let none = none_found (Stands k.types (world_of bases k)) c.definition.result (definition_at s c.args.read.now.sort c.args.read.now.index) c.in_default.is (c.definition.ensures k.types (world_of bases k) s (c.scope.ensures bases l s now)) in
    rw none refl

pub returns-clause-named : goal.returns-clause-named
returns-clause-named c = λ bases l s before at listed.
    let k = c.name.new.self in
    let w = world_of bases k in
    let now = c.name.ensures.at bases c.args.n l s at in
    let one = some_found (Stands k.types w) c.definition.result c.in-Some.definition (definition_at s c.args.read.now.sort c.args.read.now.index) c.in-Some.is (c.definition.ensures k.types w s (c.scope.ensures bases l s now)) in
    let kept = c.name.ensures.listing bases c.args.listing.now before listed in
    let more = listing_more k.types w c.args.listing.now before c.in_ok-number.number c.args.read.now.name c.in-Some.definition one.0 kept c.in_ok-number.ensures.ok one.2 in
    rw one.1 (subst (λ (es : List (ℕ × DefinitionRef)). IsListing k.types w es (WithExport before c.args.read.now.name one.0)) (sym c.in_ok-push.ensures.ok) more)
