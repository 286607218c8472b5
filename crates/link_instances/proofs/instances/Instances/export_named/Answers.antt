use Rattle.std.proofs.Common.{subst, Option, None, Some}
use Rattle.comp_graph.specs.Closed.{extern_named}
use Rattle.link_values.specs.declared.refs.ExternRef.{ExternRef}
use Rattle.link_types.specs.Table.{MayBeExtern}
use Rattle.link_instances.proofs.Finding.{lacks, has, sees}
use Rattle.link_instances.proofs.instances.Instances.export_named.Goals as goal

pub returns-in_err-found : goal.returns-in_err-found
returns-in_err-found c = λ w exports q h i text.
    rw c.from_residual.ensures (lacks c.args.types.now w c.args.self.now.bases.items h.bases c.are_distinct.ensures.names c.args.instance exports i c.args.name q text c.found.result c.found.ensures c.in_err-found.was)

pub returns-in-None : goal.returns-in-None
returns-in-None c = λ w exports q h i text.
    has c.args.types.now w c.args.self.now.bases.items h.bases c.are_distinct.ensures.names c.args.instance exports i c.args.name q text c.found.result c.found.ensures
    c.in_ok-found.found c.in_ok-found.was c.in-None.is

pub returns-in_err-asked-in-Some : goal.returns-in_err-asked-in-Some
returns-in_err-asked-in-Some c = λ w exports q h i text.
    rw c.from_residual-in_err-asked-in-Some.ensures
    (sees c.args.types.now w c.args.self.now.bases.items h.bases c.are_distinct.ensures.names c.args.instance exports i c.args.name q text c.found.result c.found.ensures
    c.in_ok-found.found c.in-Some.instance_type None c.in_ok-found.was c.in-Some.is
    (λ asked type. subst (λ (o : Option ExternRef). MayBeExtern c.args.types.now o (extern_named q asked)) c.in_err-asked-in-Some.was (c.asked_named.ensures asked q type text)))

pub returns-in_ok-asked-in-Some : goal.returns-in_ok-asked-in-Some
returns-in_ok-asked-in-Some c = λ w exports q h i text.
    rw c.seen_as.ensures.exact
    (sees c.args.types.now w c.args.self.now.bases.items h.bases c.are_distinct.ensures.names c.args.instance exports i c.args.name q text c.found.result c.found.ensures
    c.in_ok-found.found c.in-Some.instance_type (Some c.in_ok-asked-in-Some.asked) c.in_ok-found.was c.in-Some.is
    (λ asked type. subst (λ (o : Option ExternRef). MayBeExtern c.args.types.now o (extern_named q asked)) c.in_ok-asked-in-Some.was (c.asked_named.ensures asked q type text)))
