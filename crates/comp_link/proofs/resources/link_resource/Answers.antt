use Rattle.std.proofs.Common.{◌≡◌, subst, Option}
use Rattle.std.proofs.lemmas.Result.{err_from_is_err_and}
use Rattle.comp_graph.specs.declared.graph.FuncRef.{FuncRef}
use Rattle.link_spec.specs.Resources.{with_resource}
use Rattle.link_spec.specs.Computed.{destructor_at}
use Rattle.link_parts.proofs.Told.{reason_after, value_told}
use Rattle.link_state.specs.State.{IsState}
use Rattle.link_state.proofs.Made.{made_from}
use Rattle.comp_link.proofs.resources.link_resource.Goals as goal

abbrev IsCore : Option FuncRef → Option FuncRef → Type 0
IsCore core of_item = core ≡ of_item

pub returns-in_err-core-clause-made : goal.returns-in_err-core-clause-made
returns-in_err-core-clause-made c = λ bases l s at.
    let p = err_from_is_err_and c.from_residual.result c.from_residual.ensures.1 in
    rw (p.1, p.2) (reason_after _ (destructor_at s c.args.destructor) _ (c.in_err-core.ensures bases l s at))

pub returns-clause-made : goal.returns-clause-made
returns-clause-made c = λ bases l s at.
    let f = value_told IsCore c.in_ok-core.core (destructor_at s c.args.destructor) (c.in_ok-core.ensures bases l s at) in
    made_from c.add_resource.new.self bases (destructor_at s c.args.destructor) f.0 (λ core. with_resource l c.args.n s core) f.1
    (subst (λ (core : Option FuncRef). IsState bases c.add_resource.new.self (with_resource l c.args.n s core)) f.2 (c.in_ok-add_resource.ensures.ok bases l s at))
