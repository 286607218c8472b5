use Rattle.std.proofs.Common.{◌≡◌, ◌∙◌, sym, ap, subst, ℕ, Option, Some}
use Rattle.std.specs.Prelude.{IfSome}
use Rattle.comp_graph.specs.declared.graph.Lift.{Lift}
use Rattle.comp_graph.specs.declared.graph.Lower.{Lower}
use Rattle.comp_graph.specs.declared.graph.Options.{Options}
use Rattle.comp_graph.specs.declared.graph.CanonFunc.{CanonFunc}
use Rattle.comp_graph.specs.declared.graph.CanonFunc.TheVariants as canon_func
use Rattle.comp_graph.specs.Graph.{canon_type}
use Rattle.comp_graph.specs.Needs.{lower_type}
use Rattle.comp_graph.specs.Passed.{HasCanonType}
use Rattle.link_spec.specs.Items.{with_canon, lowered_with}
use Rattle.link_state.specs.State.{type_table, IsState}
use Rattle.link_state.proofs.linker.Linker.add_lower.Goals as goal

pub returns-clause-ok : goal.returns-clause-ok
returns-clause-ok c bases l s lifted given at is used =
    let k = c.args.self.now in
    let both : Some c.in-Some.made ≡ Some (lowered_with c.args.n lifted given) =
    sym c.in-Some.is ∙ c.in_ok-made.ensures.lowered lifted.func_type is.func_type
    ∙ (λ x. (let lift : Lift = record { instance = sym is.instance x; core = sym is.core x; options = sym is.options x } in
    let lower : Lower = record { instance = c.in_ok-instance.ensures x; lift = lift; func_type = lifted.func_type; options = used x } in
    Some (canon_func.Lower lower))) in
    let made : c.in-Some.made ≡ lowered_with c.args.n lifted given = cc in
    let told : IfSome (Some c.in-Some.made) (λ (f : CanonFunc). HasCanonType (type_table k.types) (Some c.args.func.func_type.number) f) =
    subst (λ (o : Option CanonFunc). IfSome o (λ (f : CanonFunc). HasCanonType (type_table k.types) (Some c.args.func.func_type.number) f)) c.in-Some.is c.in_ok-made.ensures.typed in
    let passes : HasCanonType (type_table k.types) (Some c.in_ok-func_type.func_type) c.in-Some.made =
    subst (λ (n : ℕ). HasCanonType (type_table k.types) (Some n) c.in-Some.made) (sym (c.in_ok-func_type.ensures ∙ c.number.ensures)) told in
    let typed : c.lower_type-core_type.result ≡ canon_type c.in-Some.made =
    c.lower_type-core_type.ensures lifted.func_type (c.in-Some-laid_func.ensures lifted.func_type is.func_type)
    ∙ ap (λ (o : Options). lower_type o.is_async lifted.func_type) used ∙ ap canon_type (sym made) in
    subst (λ (canon : CanonFunc). IsState bases c.add_canon.new.self (with_canon l c.args.n s canon)) made (c.in_ok-add_canon.ensures.ok bases l s at passes typed)
