use Rattle.std.proofs.Common.{◌∙◌, ap}
use Rattle.std.specs.Prelude.{Result, Ok}
use Rattle.std.proofs.lemmas.Result.{err_from_is_err_and}
use Rattle.link_spec.specs.declared.fault.LinkWhy.{LinkWhy}
use Rattle.link_spec.specs.Items.{lower_made}
use Rattle.link_spec.specs.Computed.{Outcome, lower_outcome}
use Rattle.link_parts.proofs.Told.{value_told}
use Rattle.link_state.proofs.Made.{made_told}
use Rattle.comp_link.specs.Ready.{IsLowering}
use Rattle.comp_link.proofs.lowers.link_lower.Goals as goal

pub returns-in_err-lifted-clause-made : goal.returns-in_err-lifted-clause-made
returns-in_err-lifted-clause-made c = λ bases l s at.
    let p = err_from_is_err_and c.from_residual.result c.from_residual.ensures.1 in
    rw (p.1, p.2) (c.in_err-lifted.ensures bases l s at)

pub returns-clause-made : goal.returns-clause-made
returns-clause-made c = λ bases l s at.
    let f = value_told (IsLowering c.args.linker.now.types l c.args.n s) _ (lower_outcome l c.args.n s c.args.func c.args.options.now) (c.in_ok-lifted.ensures bases l s at) in
    made_told c.add_lower.new.self bases (lower_outcome l c.args.n s c.args.func c.args.options.now) (lower_made l c.args.n s f.2.lifted f.2.given)
    (f.1 ∙ ap (λ (o : Outcome). (let r : Result Outcome LinkWhy = Ok o in r)) f.2.makes)
    (c.in_ok-add_lower.ensures.ok bases l s f.2.lifted f.2.given at f.2.stands f.2.used)
