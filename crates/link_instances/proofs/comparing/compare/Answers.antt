use Rattle.std.proofs.Common.{sym, ◌∙◌, subst}
use Rattle.link_values.specs.declared.refs.ExternRef.{ExternRef}
use Rattle.link_types.specs.Table.{IsExtern}
use Rattle.link_instances.proofs.Compares.{compared_func, compared_type, compared_instance}
use Rattle.link_instances.proofs.comparing.compare.Goals as goal

pub returns-in-Some-clause-compared : goal.returns-in-Some-clause-compared
returns-in-Some-clause-compared c = λ w d x h k.
    compared_func c.args.types.now w c.args.given c.in-Some.func c.in-Func.func_type c.same_func.result d x (sym c.func.ensures ∙ c.in-Some.is)
    (λ f g m n. c.same_func.ensures f g m n) h (subst (λ (asked : ExternRef). IsExtern c.args.types.now asked x) c.in-Func.is k)

pub returns-in-Some-closed_type-clause-compared : goal.returns-in-Some-closed_type-clause-compared
returns-in-Some-closed_type-clause-compared c = λ w d x h k.
    compared_type c.args.types.now w c.args.given c.in-Some-closed_type.other c.in-Type.closed c.same_type.result d x (sym c.closed_type.ensures ∙ c.in-Some-closed_type.is)
    (λ f g m n. c.same_type.ensures f g m n) h (subst (λ (asked : ExternRef). IsExtern c.args.types.now asked x) c.in-Type.is k)

pub returns-in-Some-instance-clause-compared : goal.returns-in-Some-instance-clause-compared
returns-in-Some-instance-clause-compared c = λ w d x h k.
    compared_instance c.args.types.now w c.args.given c.in-Some-instance.instance c.in-Instance.instance_type d x (sym c.instance.ensures ∙ c.in-Some-instance.is)
    h (subst (λ (asked : ExternRef). IsExtern c.args.types.now asked x) c.in-Instance.is k)
