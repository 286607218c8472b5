use Rattle.std.proofs.Common.{◌≡◌, ◌∙◌, sym, List, ap}
use Rattle.std.proofs.lemmas.Result.{err_from_is_err_and}
use Rattle.link_spec.specs.Definitions.{CoreExport}
use Rattle.link_spec.specs.Spaces.{with_core_item, with_spaces}
use Rattle.link_spec.specs.Computed.{core_aliased}
use Rattle.link_parts.proofs.Told.{reason_after, reason_of_fault}
use Rattle.link_state.proofs.Made.{made_from}
use Rattle.link_state.proofs.core_aliases.link_core_alias.Goals as goal

pub returns-in_err-item-clause-made : goal.returns-in_err-item-clause-made
returns-in_err-item-clause-made c =
    λ bases l s at.
    let same : s.core_instances ≡ c.as_slice-instances.result.now = (c.scope.ensures bases l s at).core_instances ∙ sym c.as_slice-instances.ensures.value in
    let p = err_from_is_err_and c.from_residual.result c.from_residual.ensures.1 in
    rw (p.1, p.2) (reason_after _ (core_aliased s.core_instances c.args.sort c.args.instance c.args.name.now) _ (rw same (reason_of_fault _ _ c.in_err-item.ensures)))

pub returns-clause-made : goal.returns-clause-made
returns-clause-made c =
    λ bases l s at.
    let same : s.core_instances ≡ c.as_slice-instances.result.now = (c.scope.ensures bases l s at).core_instances ∙ sym c.as_slice-instances.ensures.value in
    made_from c.add_core_item.new.self bases (core_aliased s.core_instances c.args.sort c.args.instance c.args.name.now) c.in_ok-item.item (λ item. with_spaces l c.args.n (with_core_item s item))
    (ap (λ (is : List (List CoreExport)). core_aliased is c.args.sort c.args.instance c.args.name.now) same ∙ c.in_ok-item.ensures) (c.in_ok-add_core_item.ensures.ok bases l s at)
