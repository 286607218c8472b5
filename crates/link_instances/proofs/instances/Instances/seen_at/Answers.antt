use Rattle.std.proofs.Common.{◌≡◌, ℕ, sym, ◌∙◌, subst, Option, None, Some}
use Rattle.std.specs.List.{slice_get}
use Rattle.link_values.specs.declared.refs.ExternRef.{ExternRef}
use Rattle.link_types.specs.Table.{in_order}
use Rattle.link_instances.specs.declared.references.DefinitionRef.{DefinitionRef}
use Rattle.link_instances.specs.References.{IsEntryAt, listed, seen_ref}
use Rattle.link_spec.specs.Definitions.{seen_exports}
use Rattle.link_instances.proofs.Asking.{IsAskedAt, is_asked_at}
use Rattle.link_instances.proofs.InOrder.{seen_past, seen_entry}
use Rattle.link_instances.proofs.instances.Instances.seen_at.Goals as goal

pub returns-in_err-name : goal.returns-in_err-name
returns-in_err-name c = λ w given asked h stands type fit.
    let told = is_asked_at c.args.types.now c.asked_at.result asked c.args.at (c.asked_at.ensures.is asked type) in
    rw c.from_residual.ensures
    (seen_past given asked c.args.at fit (subst (λ (o : Option (ℕ × ExternRef)). IsAskedAt c.args.types.now o (slice_get (in_order asked) c.args.at)) c.in_err-name.was told))

pub returns-in_err-found : goal.returns-in_err-found
returns-in_err-found c = λ w given asked h stands type fit.
    let told = is_asked_at c.args.types.now c.asked_at.result asked c.args.at (c.asked_at.ensures.is asked type) in
    let p = seen_entry c.args.types.now w c.args.self.now.bases.items h.bases c.are_distinct.ensures.names given c.args.base stands asked c.args.at fit (c.in_ok-name.name, c.in_ok-name.asked)
    (subst (λ (o : Option (ℕ × ExternRef)). IsAskedAt c.args.types.now o (slice_get (in_order asked) c.args.at)) c.in_ok-name.was told) c.found.result c.found.ensures in
    let no : None ≡ Some p.0 = sym c.in_err-found.was ∙ p.1 in
    absurd (cc)

pub returns : goal.returns
returns c = λ w given asked h stands type fit.
    let told = is_asked_at c.args.types.now c.asked_at.result asked c.args.at (c.asked_at.ensures.is asked type) in
    let p = seen_entry c.args.types.now w c.args.self.now.bases.items h.bases c.are_distinct.ensures.names given c.args.base stands asked c.args.at fit (c.in_ok-name.name, c.in_ok-name.asked)
    (subst (λ (o : Option (ℕ × ExternRef)). IsAskedAt c.args.types.now o (slice_get (in_order asked) c.args.at)) c.in_ok-name.was told) c.found.result c.found.ensures in
    let both : Some c.in_ok-found.found ≡ Some p.0 = sym c.in_ok-found.was ∙ p.1 in
    let same : p.0 ≡ c.in_ok-found.found = cc in
    rw c.seen_as.ensures.exact
    (subst (λ (d : DefinitionRef). IsEntryAt c.args.types.now w (Some (c.in_ok-name.name, seen_ref d c.in_ok-name.asked)) (slice_get (listed (seen_exports given asked)) c.args.at)) same p.2)
