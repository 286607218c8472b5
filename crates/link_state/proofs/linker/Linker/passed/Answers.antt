use Rattle.std.proofs.Common.{◌≡◌, ◌∙◌, List, sym, subst}
use Rattle.std.specs.Prelude.{Ok, Err, MatchResult}
use Rattle.faults.specs.Faults.{IfFault}
use Rattle.comp_graph.specs.Graph.{CoreMake}
use Rattle.link_spec.specs.Definitions.{CoreExport}
use Rattle.link_spec.specs.Computed.{imports_outcome}
use Rattle.link_core_exports.specs.Modules.{AreAllThere}
use Rattle.link_state.proofs.Reaching.{instances_there}
use Rattle.link_state.proofs.States.{scope_is}
use Rattle.link_state.proofs.linker.Linker.passed.Goals as goal

pub returns-clause-told : goal.returns-clause-told
returns-clause-told c bases l s m at reached is =
    let k = c.args.self.now in
    let scope = scope_is bases k c.args.n l s c.index.result.now c.index.ensures c.requires at in
    let same : s.core_instances ≡ c.as_slice-instances.result.now = scope.core_instances ∙ sym c.as_slice-instances.ensures.value in
    let there : AreAllThere k.cores.makes l.canons c.as_slice-instances.result.now =
    subst (λ (cores : List CoreMake). AreAllThere cores l.canons c.as_slice-instances.result.now) at.state.cores
    (subst (λ (instances : List (List CoreExport)). AreAllThere l.cores l.canons instances) same (instances_there l c.args.n s reached at.there)) in
    subst (λ (instances : List (List CoreExport)). MatchResult c.passed.result (λ v. imports_outcome instances m c.args.arguments.now ≡ Ok v.items) (λ e. IfFault e (λ w. imports_outcome instances m c.args.arguments.now ≡ Err w))) (sym same)
    (c.passed.ensures.passed l.canons m there is)
