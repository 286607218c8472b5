use Rattle.std.proofs.lemmas.Result.{err_from_is_err_and}
use Rattle.link_spec.specs.Definitions.{AFunc}
use Rattle.link_spec.specs.Spaces.{with_definition, with_spaces}
use Rattle.link_spec.specs.Computed.{lifted_of}
use Rattle.link_instances.specs.References.{IsLifted}
use Rattle.link_parts.proofs.Told.{reason_after, value_told}
use Rattle.link_state.proofs.Made.{made_from}
use Rattle.comp_link.proofs.lifts.link_lift.Goals as goal

pub returns-in_err-lifted-clause-made : goal.returns-in_err-lifted-clause-made
returns-in_err-lifted-clause-made c =
    λ bases l s at.
    let p = err_from_is_err_and c.from_residual.result c.from_residual.ensures.1 in
    rw (p.1, p.2) (reason_after _ (lifted_of c.args.n s c.args.core_func c.args.options.now c.args.func_type) _ (c.in_err-lifted.ensures bases l s at))

pub returns-clause-made : goal.returns-clause-made
returns-clause-made c =
    λ bases l s at.
    let f = value_told (IsLifted c.args.linker.now.types) _ (lifted_of c.args.n s c.args.core_func c.args.options.now c.args.func_type) (c.in_ok-lifted.ensures bases l s at) in
    made_from c.add.new.self bases (lifted_of c.args.n s c.args.core_func c.args.options.now c.args.func_type) f.0 (λ lifted. with_spaces l c.args.n (with_definition s (AFunc lifted))) f.1
    (c.in_ok-add.ensures.ok bases l s (AFunc f.0) at f.2)
