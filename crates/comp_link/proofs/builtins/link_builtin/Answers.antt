use Rattle.std.proofs.Common.{◌≡◌, ◌∙◌, ap}
use Rattle.std.specs.Prelude.{Result, Ok}
use Rattle.std.proofs.lemmas.Result.{err_from_is_err_and}
use Rattle.link_spec.specs.declared.fault.LinkWhy.{LinkWhy}
use Rattle.link_spec.specs.Builtins.{builtin_meaning}
use Rattle.link_spec.specs.Items.{builtin_made}
use Rattle.link_spec.specs.Computed.{Outcome, Makes, builtin_outcome}
use Rattle.canon_types.specs.declared.builtins.Built.{Built}
use Rattle.canon_types.specs.Built.{IsBuilt}
use Rattle.link_parts.proofs.Told.{value_told}
use Rattle.link_state.proofs.Made.{made_told}
use Rattle.comp_link.proofs.builtins.link_builtin.Goals as goal

pub returns-in_err-made-clause-made : goal.returns-in_err-made-clause-made
returns-in_err-made-clause-made c = λ bases l s at.
    let p = err_from_is_err_and c.from_residual.result c.from_residual.ensures.1 in
    rw (p.1, p.2) (c.in_err-made.ensures.told bases l s at)

pub returns-clause-made : goal.returns-clause-made
returns-clause-made c = λ bases l s at.
    let meaning = builtin_meaning l c.args.n s c.args.builtin.now in
    let values = c.built.new.linker.types.values in
    let f = value_told (λ (b : Built) (outcome : Outcome). IsBuilt values b × (outcome ≡ Makes (builtin_made l c.args.n s b.kind))) c.in_ok-made.made (builtin_outcome l c.args.n s meaning) (c.in_ok-made.ensures.told bases l s at) in
    made_told c.add_builtin.new.self bases (builtin_outcome l c.args.n s meaning) (builtin_made l c.args.n s c.in_ok-made.made.kind)
    (f.1 ∙ ap (λ (o : Outcome). (let r : Result Outcome LinkWhy = Ok o in r)) f.2.1)
    (c.in_ok-add_builtin.ensures.ok bases l s (c.in_ok-made.ensures.at bases l s at) f.2.0)
