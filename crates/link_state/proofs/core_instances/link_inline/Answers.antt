use Rattle.std.proofs.Common.{◌≡◌, List, subst}
use Rattle.std.proofs.lemmas.Result.{err_from_is_err_and}
use Rattle.link_spec.specs.Definitions.{CoreExport}
use Rattle.link_spec.specs.Spaces.{with_core_instance, with_spaces}
use Rattle.link_spec.specs.Computed.{inline_outcome}
use Rattle.link_parts.proofs.Told.{reason_after, value_told}
use Rattle.link_state.specs.State.{IsState, world_of}
use Rattle.link_state.proofs.Made.{made_from}
use Rattle.link_state.proofs.core_instances.link_inline.Goals as goal

pub returns-in_err-exports-clause-made : goal.returns-in_err-exports-clause-made
returns-in_err-exports-clause-made c =
    λ bases l s at.
    let p = err_from_is_err_and c.from_residual.result c.from_residual.ensures.1 in
    rw (p.1, p.2) (reason_after _ (inline_outcome s c.args.read.now) _ (c.in_err-exports.ensures c.args.linker.now.types (world_of bases c.args.linker.now) s (c.scope.ensures bases l s at)))

pub returns-clause-made : goal.returns-clause-made
returns-clause-made c =
    λ bases l s at.
    let e = value_told (λ (i exports : List CoreExport). i ≡ exports) c.in_ok-exports.exports (inline_outcome s c.args.read.now)
    (c.in_ok-exports.ensures c.args.linker.now.types (world_of bases c.args.linker.now) s (c.scope.ensures bases l s at)) in
    made_from c.add_inline.new.self bases (inline_outcome s c.args.read.now) e.0 (λ exports. with_spaces l c.args.n (with_core_instance s exports)) e.1
    (subst (λ (exports : List CoreExport). IsState bases c.add_inline.new.self (with_spaces l c.args.n (with_core_instance s exports))) e.2 (c.in_ok-add_inline.ensures.ok bases l s at))
